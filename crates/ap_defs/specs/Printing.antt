-- How terms are written: names and variables by a spelling, constructors as they are declared.
use Rattle.std.specs.Prelude.{ℕ, zero, suc, ◌+◌, Bool, true, false, not, if◌then◌else◌, List, [], ◌∷◌, ◌++◌, length, map, filter, take, codes, Option, Some, None}
use Rattle.std.specs.List.{range_with_len}
use Rattle.std.specs.Str.{bytes_eq}
use Rattle.std.specs.Fmt.{decimal}
use Rattle.ap_defs.specs.declared.terms.Name.{Name}
use Rattle.ap_defs.specs.declared.terms.Var.{Var}
use Rattle.ap_defs.specs.declared.terms.Swap.{Swap}
use Rattle.ap_defs.specs.Permutations.{name_eq, has_name, left_name, right_name}
use Rattle.ap_defs.specs.Freshness.{var_eq}
use Rattle.ap_defs.specs.Unification.{has_var}
use Rattle.ap_defs.specs.Terms.{NominalTerm, unit, name, pair, app, abs, susp}
use Rattle.ap_defs.specs.Types.{NominalConstructor}

-- the constructor with this number: 0 is the empty list, 1 the list cell, and the declared ones count from 2
abbrev pub constructor_in : List NominalConstructor → ℕ → Option NominalConstructor
constructor_in [] f = None
constructor_in (c ∷ cs) zero = None
constructor_in (c ∷ cs) (suc zero) = None
constructor_in (c ∷ cs) (suc (suc zero)) = Some c
constructor_in (c ∷ cs) (suc (suc (suc f))) = constructor_in cs (suc (suc f))

abbrev pub constructor_text : Option NominalConstructor → List ℕ
constructor_text None = []
constructor_text (Some c) = c.text

abbrev pub argument_count : Option NominalConstructor → ℕ
argument_count None = 0
argument_count (Some c) = length c.args

-- How names, variables and constructors are written.
pub record Spelling : Type 0 where
  pub names : Name → List ℕ
  pub vars : Var → List ℕ
  pub constructors : List NominalConstructor

-- Where a term stands: by itself, as the right part of a pair, as the rest of a list, as the two parts
-- of a list cell, or as the arguments of a constructor with so many.
pub data TermContext : Type 0 where
  whole : TermContext
  part : TermContext
  rest : TermContext
  cell : TermContext
  arguments : ℕ → TermContext

-- the rest of a list that isn't a list is written behind a bar
abbrev pub barred : TermContext → List ℕ → List ℕ
barred rest text = codes "|" ++ text
barred _ text = text

-- a pair, by the texts of its left part, and of its right part at a place
abbrev pub pair_text : TermContext → List ℕ → (TermContext → List ℕ) → List ℕ
pair_text part t u = t ++ codes "," ++ u part
pair_text cell t u = t ++ u rest
pair_text (arguments (suc (suc n))) t u = t ++ codes "," ++ u (arguments (suc n))
pair_text place t u = barred place (codes "(" ++ t ++ codes "," ++ u part ++ codes ")")

-- the argument of a sole-argument constructor keeps its own parentheses; one without arguments has none
abbrev pub unit_text : TermContext → List ℕ
unit_text (arguments zero) = []
unit_text place = barred place (codes "()")

abbrev pub application_text : ℕ → List ℕ → List ℕ → List ℕ
application_text zero text args = text
application_text (suc n) text args = text ++ codes "(" ++ args ++ codes ")"

-- a list cell goes on a list that was begun, and begins one elsewhere
abbrev pub cell_text : TermContext → List ℕ → List ℕ
cell_text rest parts = codes "," ++ parts
cell_text place parts = barred place (codes "[" ++ parts ++ codes "]")

abbrev pub nil_text : TermContext → List ℕ
nil_text rest = []
nil_text place = barred place (codes "[]")

-- a swapping round a text, for each of a list, the first outermost
abbrev pub swaps_text : (Name → List ℕ) → List Swap → List ℕ → List ℕ
swaps_text names [] text = text
swaps_text names (s ∷ p) text =
    codes "swap(" ++ names (left_name s) ++ codes "," ++ names (right_name s) ++ codes "," ++ swaps_text names p text ++ codes ")"

-- a term at a place
abbrev pub term_at : Spelling → NominalTerm → TermContext → List ℕ
term_at by unit place = unit_text place
term_at by (name a) place = barred place (by.names a)
term_at by (pair t u) place = pair_text place (term_at by t whole) (term_at by u)
term_at by (app zero t) place = nil_text place
term_at by (app (suc zero) t) place = cell_text place (term_at by t cell)
term_at by (app f t) place =
    let c = constructor_in by.constructors f in
    barred place (application_text (argument_count c) (constructor_text c) (term_at by t (arguments (argument_count c))))
term_at by (abs a t) place = barred place (by.names a ++ codes "\\" ++ term_at by t whole)
term_at by (susp p x) place = barred place (swaps_text by.names p (by.vars x))

abbrev pub term_text : Spelling → NominalTerm → List ℕ
term_text by t = term_at by t whole

abbrev pub has_word : List ℕ → List (List ℕ) → Bool
has_word w [] = false
has_word w (v ∷ vs) = if bytes_eq w v then true else has_word w vs

-- the first so many words among a letter with 1, 2, 3 and so on that aren't words of the text
abbrev pub new_words : List ℕ → List (List ℕ) → ℕ → List (List ℕ)
new_words letter words n =
    take n (filter (λ w. not (has_word w words)) (map (λ i. letter ++ decimal i) (range_with_len 1 (n + length words))))

-- each name once, by its first occurrence, without those that stand in a list
abbrev pub first_names : List Name → List Name → List Name
first_names seen [] = []
first_names seen (a ∷ as') = if has_name a seen then first_names seen as' else (a ∷ first_names (a ∷ seen) as')

abbrev pub first_vars : List Var → List Var → List Var
first_vars seen [] = []
first_vars seen (x ∷ xs) = if has_var x seen then first_vars seen xs else (x ∷ first_vars (x ∷ seen) xs)

-- the word beside a name in two lists, or a spelling for others
abbrev pub name_word : List Name → List (List ℕ) → (Name → List ℕ) → Name → List ℕ
name_word (a ∷ as') (w ∷ ws) other b = if name_eq a b then w else name_word as' ws other b
name_word _ _ other b = other b

abbrev pub var_word : List Var → List (List ℕ) → Var → List ℕ
var_word (x ∷ xs) (w ∷ ws) y = if var_eq x y then w else var_word xs ws y
var_word _ _ y = []
