-- The last of those that wait comes first.
use Rattle.std.proofs.Common.{◌≡◌, List, [], ◌∷◌, ◌++◌, Bor, refl, sym, ap, ◌∙◌, append-nil, append_assoc}
use Rattle.ap_defs.specs.Occurrences.{names_then, names_at, vars_at}
use Rattle.ap_defs.specs.Permutations.{names_of}
use Rattle.ap_defs.specs.Terms.{NominalTerm, unit, name, pair, app, abs, susp, term_of}
use Rattle.ap_defs.specs.Unification.{vars_then}
use Rattle.ap_defs.specs.declared.terms.Name.{Name}
use Rattle.ap_defs.specs.declared.terms.Var.{Var}
use Rattle.ap_defs.specs.declared.terms.Term.{Term}
use Rattle.ap_defs.specs.Walks.{parts_of, waiting_parts}

pub waiting_last : (ts : List (Bor Term)) (t : Bor Term) → waiting_parts (ts ++ t ∷ []) ≡ parts_of (term_of t.now) ++ waiting_parts ts
waiting_last [] t = sym (append-nil (parts_of (term_of t.now)))
waiting_last (u ∷ ts) t = ap (λ ps. ps ++ parts_of (term_of u.now)) (waiting_last ts t) ∙ append_assoc (parts_of (term_of t.now)) (waiting_parts ts) (parts_of (term_of u.now))

-- the last of them comes next, and then its own parts
pub last_waits : (all ts next : List (Bor Term)) (t : Bor Term) → all ≡ ts ++ t ∷ [] → term_of t.now ∷ waiting_parts next ≡ parts_of (term_of t.now) ++ waiting_parts ts → waiting_parts all ≡ term_of t.now ∷ waiting_parts next
last_waits all ts next t e h = ap waiting_parts e ∙ waiting_last ts t ∙ sym h

-- both parts of a pair wait
pub two_wait : (ts us vs : List (Bor Term)) (l r : Bor Term) → us ≡ ts ++ r ∷ [] → vs ≡ us ++ l ∷ [] → waiting_parts vs ≡ (parts_of (term_of l.now) ++ parts_of (term_of r.now)) ++ waiting_parts ts
two_wait ts us vs l r e h =
    ap waiting_parts h ∙ waiting_last us l ∙ ap (λ ps. parts_of (term_of l.now) ++ ps) (ap waiting_parts e ∙ waiting_last ts r)
    ∙ sym (append_assoc (parts_of (term_of l.now)) (parts_of (term_of r.now)) (waiting_parts ts))

-- The names and variables of a term are those that stand at its parts, one part after the other.
abbrev pub names_of_parts : List NominalTerm → List Name
names_of_parts [] = []
names_of_parts (t ∷ ts) = names_at t ++ names_of_parts ts

abbrev pub vars_of_parts : List NominalTerm → List Var
vars_of_parts [] = []
vars_of_parts (t ∷ ts) = vars_at t ++ vars_of_parts ts

names_append : (ts us : List NominalTerm) → names_of_parts (ts ++ us) ≡ names_of_parts ts ++ names_of_parts us
names_append [] us = refl
names_append (t ∷ ts) us = ap (λ as'. names_at t ++ as') (names_append ts us) ∙ sym (append_assoc (names_at t) (names_of_parts ts) (names_of_parts us))

vars_append : (ts us : List NominalTerm) → vars_of_parts (ts ++ us) ≡ vars_of_parts ts ++ vars_of_parts us
vars_append [] us = refl
vars_append (t ∷ ts) us = ap (λ xs. vars_at t ++ xs) (vars_append ts us) ∙ sym (append_assoc (vars_at t) (vars_of_parts ts) (vars_of_parts us))

names_all : (t : NominalTerm) (as' : List Name) → names_of_parts (parts_of t) ++ as' ≡ names_then t as'
names_all unit as' = refl
names_all (name a) as' = refl
names_all (pair t u) as' =
    ap (λ bs. bs ++ as') (names_append (parts_of t) (parts_of u)) ∙ append_assoc (names_of_parts (parts_of t)) (names_of_parts (parts_of u)) as'
    ∙ ap (λ bs. names_of_parts (parts_of t) ++ bs) (names_all u as') ∙ names_all t (names_then u as')
names_all (app f t) as' = names_all t as'
names_all (abs a t) as' = ap (λ bs. a ∷ bs) (names_all t as')
names_all (susp p x) as' = ap (λ bs. bs ++ as') (append-nil (names_of p))

vars_all : (t : NominalTerm) (xs : List Var) → vars_of_parts (parts_of t) ++ xs ≡ vars_then t xs
vars_all unit xs = refl
vars_all (name a) xs = refl
vars_all (pair t u) xs =
    ap (λ ys. ys ++ xs) (vars_append (parts_of t) (parts_of u)) ∙ append_assoc (vars_of_parts (parts_of t)) (vars_of_parts (parts_of u)) xs
    ∙ ap (λ ys. vars_of_parts (parts_of t) ++ ys) (vars_all u xs) ∙ vars_all t (vars_then u xs)
vars_all (app f t) xs = vars_all t xs
vars_all (abs a t) xs = vars_all t xs
vars_all (susp p x) xs = refl

pub names_by_parts : (t : NominalTerm) → names_of_parts (parts_of t) ≡ names_then t []
names_by_parts t = sym (append-nil (names_of_parts (parts_of t))) ∙ names_all t []

pub vars_by_parts : (t : NominalTerm) → vars_of_parts (parts_of t) ≡ vars_then t []
vars_by_parts t = sym (append-nil (vars_of_parts (parts_of t))) ∙ vars_all t []
