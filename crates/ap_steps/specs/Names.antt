-- The names and variables of an answer with its derivation, in preorder.
use Rattle.std.specs.Prelude.{ℕ, ◌+◌, List, [], ◌∷◌, ◌++◌, map}
use Rattle.std.specs.List.{flat_map}
use denote.Ref.{Bor}
use Rattle.ap_defs.specs.declared.outcomes.Derivation as code
use Rattle.ap_defs.specs.declared.terms.Cond.{Cond}
use Rattle.ap_defs.specs.declared.terms.Name.{Name}
use Rattle.ap_defs.specs.declared.terms.Var.{Var}
use Rattle.ap_defs.specs.Answers.{NominalAnswer}
use Rattle.ap_defs.specs.Derivations.{NominalDerivation, atom, equal, fresh, succeed, both, left, right, exists, new, derivation_of}
use Rattle.ap_defs.specs.Occurrences.{names_of_terms, vars_of_terms}
use Rattle.ap_checks.specs.Checks.{node_count}

-- the nodes of a derivation, in preorder
abbrev pub subderivations : NominalDerivation → List NominalDerivation
subderivations (atom k as' ts d) = atom k as' ts d ∷ subderivations d
subderivations equal = equal ∷ []
subderivations fresh = fresh ∷ []
subderivations succeed = succeed ∷ []
subderivations (both d e) = both d e ∷ (subderivations d ++ subderivations e)
subderivations (left d) = left d ∷ subderivations d
subderivations (right d) = right d ∷ subderivations d
subderivations (exists t d) = exists t d ∷ subderivations d
subderivations (new a d) = new a d ∷ subderivations d

-- the names and the variables of a node
abbrev pub own_names : NominalDerivation → List Name
own_names (atom k as' ts d) = as' ++ names_of_terms ts
own_names (exists t d) = names_of_terms (t ∷ [])
own_names (new a d) = a ∷ []
own_names _ = []

abbrev pub own_vars : NominalDerivation → List Var
own_vars (atom k as' ts d) = vars_of_terms ts
own_vars (exists t d) = vars_of_terms (t ∷ [])
own_vars _ = []

-- those of an answer come first
abbrev pub names_in : NominalAnswer → NominalDerivation → List Name
names_in a d = names_of_terms a.binds ++ (map (λ (c : Cond). c.name) a.conds ++ flat_map own_names (subderivations d))

abbrev pub vars_of_proof : NominalAnswer → NominalDerivation → List Var
vars_of_proof a d = vars_of_terms a.binds ++ (map (λ (c : Cond). c.var) a.conds ++ flat_map own_vars (subderivations d))

-- derivations without where they lie in memory
abbrev pub derivations_of : List (Bor code.Derivation) → List NominalDerivation
derivations_of = map (λ (d : Bor code.Derivation). derivation_of d.now)

-- the nodes of derivations that wait, the next one last, and how many they are
abbrev pub preorder_left : List (Bor code.Derivation) → List NominalDerivation
preorder_left [] = []
preorder_left (d ∷ ds) = preorder_left ds ++ subderivations (derivation_of d.now)

abbrev pub count_left : List (Bor code.Derivation) → ℕ
count_left [] = 0
count_left (d ∷ ds) = node_count (derivation_of d.now) + count_left ds
