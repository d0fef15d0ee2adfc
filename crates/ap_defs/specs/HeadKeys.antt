-- Head keys: by the first argument of an atom, which clauses its head may be equal to.
use Rattle.std.specs.Prelude.{ℕ, suc, Bool, ◌||◌, ◌==◌, if◌then◌else◌, List, [], ◌∷◌, map}
use Rattle.ap_defs.specs.Substitution.{Binding, under}
use Rattle.ap_defs.specs.Terms.{NominalTerm, unit, name, pair, app, abs, susp}
use Rattle.ap_defs.specs.Goals.{NominalClause}

-- of a suspension 0, which is wild; of the constructor with the number f, 5 + f
abbrev pub head_key : NominalTerm → ℕ
head_key (susp p x) = 0
head_key unit = 1
head_key (name a) = 2
head_key (pair t u) = 3
head_key (abs a t) = 4
head_key (app f t) = suc (suc (suc (suc (suc f))))

-- the key of the first argument; with no arguments it is wild
abbrev pub first_key : List NominalTerm → ℕ
first_key [] = 0
first_key (t ∷ ts) = head_key t

-- the keys are the same, or one is wild
abbrev pub agree : ℕ → ℕ → Bool
agree k l = k == 0 || (l == 0 || k == l)

-- the numbers of the clauses whose key agrees, where the first one has the number i
abbrev pub kept_from : ℕ → ℕ → List NominalClause → List ℕ
kept_from k i [] = []
kept_from k i (c ∷ cs) = if agree k (first_key c.args) then (i ∷ kept_from k (suc i) cs) else kept_from k (suc i) cs

-- the numbers of the clauses that an atom may enter under bindings: the others are left out
abbrev pub kept_clauses : List Binding → List NominalTerm → List NominalClause → List ℕ
kept_clauses bs ts cs = kept_from (first_key (map (under bs) ts)) 1 cs
