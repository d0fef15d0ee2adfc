-- What is proved of substitutions.
use Rattle.std.specs.Prelude.{◌≡◌, ◌≤◌, true, false, List, [], ◌∷◌}
use Rattle.ap_defs.specs.Substitution.{Binding, occurs, put, under, ◌:=◌}
use Rattle.ap_defs.specs.Terms.{NominalTerm, act_term, susp}
use Rattle.ap_defs.specs.Unification.{size}
use Rattle.ap_defs.specs.declared.terms.Name.{Name}
use Rattle.ap_defs.specs.declared.terms.Swap.{Swap}
use Rattle.ap_defs.specs.declared.terms.Var.{Var}
use Rattle.ap_theory.specs.Contexts.{Context, Equal, Fresh}
use Rattle.ap_theory.specs.Substitutions.{Substitution, applied, substitution_of, variables}

abbrev pub SubstitutionCommutes : Type 0
SubstitutionCommutes = (s : Substitution) (p : List Swap) (t : NominalTerm) → applied s (act_term p t) ≡ act_term p (applied s t)

abbrev pub SubstitutionsCompose : Type 0
SubstitutionsCompose = (r s : Substitution) (t : NominalTerm) → applied r (applied s t) ≡ applied (λ x. applied r (s x)) t

abbrev pub VariablesAreIdentity : Type 0
VariablesAreIdentity = (t : NominalTerm) → applied variables t ≡ t

-- only the variables of a term matter
abbrev pub SubstitutionIsLocal : Type 0
SubstitutionIsLocal = (r s : Substitution) (t : NominalTerm) → ((x : Var) → occurs x t ≡ true → r x ≡ s x) → applied r t ≡ applied s t

-- a list of bindings is a substitution, as is a term put for a variable
abbrev pub BindingsAreASubstitution : Type 0
BindingsAreASubstitution = (bs : List Binding) (t : NominalTerm) → under bs t ≡ applied (substitution_of bs) t

abbrev pub PuttingIsASubstitution : Type 0
PuttingIsASubstitution = (x : Var) (v t : NominalTerm) → put x v t ≡ applied (substitution_of ((x := v) ∷ [])) t

abbrev pub PuttingLeavesTheAbsent : Type 0
PuttingLeavesTheAbsent = (x : Var) (v t : NominalTerm) → occurs x t ≡ false → put x v t ≡ t

-- a substitution whose terms meet what was said of the variables
abbrev pub IsMet : Context → Context → Substitution → Type 0
IsMet d e s = (a : Name) (x : Var) → d a x → Fresh e a (s x)

abbrev pub SubstitutionKeepsFreshness : Context → Context → Type 0
SubstitutionKeepsFreshness d e = (s : Substitution) → IsMet d e s → (a : Name) (t : NominalTerm) → Fresh d a t → Fresh e a (applied s t)

abbrev pub SubstitutionKeepsEquality : Context → Context → Type 0
SubstitutionKeepsEquality d e = (s : Substitution) → IsMet d e s → (t u : NominalTerm) → Equal d t u → Equal e (applied s t) (applied s u)

-- substitutions that are equal on the variables of a term make equal terms of it
abbrev pub SubstitutionIsCongruent : Context → Type 0
SubstitutionIsCongruent d = (r s : Substitution) (t : NominalTerm) → ((x : Var) → occurs x t ≡ true → Equal d (r x) (s x)) → Equal d (applied r t) (applied s t)

-- a variable that occurs in a term is no longer than the term
abbrev pub OccurringIsNoLonger : Type 0
OccurringIsNoLonger = (s : Substitution) (x : Var) (t : NominalTerm) → occurs x t ≡ true → size (s x) ≤ size (applied s t)

abbrev pub BindingsCommute : Type 0
BindingsCommute = (bs : List Binding) (p : List Swap) (t : NominalTerm) → under bs (act_term p t) ≡ act_term p (under bs t)

abbrev pub PuttingCommutes : Type 0
PuttingCommutes = (x : Var) (v : NominalTerm) (p : List Swap) (t : NominalTerm) → put x v (act_term p t) ≡ act_term p (put x v t)

-- bindings under which what was said of the variables holds
abbrev pub AreMet : Context → Context → List Binding → Type 0
AreMet d e bs = (a : Name) (x : Var) → d a x → Fresh e a (under bs (susp [] x))

abbrev pub BindingsKeepFreshness : Context → Context → Type 0
BindingsKeepFreshness d e = (bs : List Binding) → AreMet d e bs → (a : Name) (t : NominalTerm) → Fresh d a t → Fresh e a (under bs t)

abbrev pub BindingsKeepEquality : Context → Context → Type 0
BindingsKeepEquality d e = (bs : List Binding) → AreMet d e bs → (t u : NominalTerm) → Equal d t u → Equal e (under bs t) (under bs u)
