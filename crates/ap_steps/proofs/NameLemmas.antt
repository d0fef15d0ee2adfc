-- Names and variables one after another, and nodes that wait.
use Rattle.std.proofs.Common.{◌≡◌, ◌+◌, List, [], ◌∷◌, ◌++◌, sym, ap, ◌∙◌, arith, append_assoc}
use Rattle.std.proofs.lemmas.List.{append-nil, map-append}
use denote.Ref.{Bor}
use Rattle.ap_defs.specs.declared.outcomes.Derivation as code
use Rattle.ap_defs.specs.declared.terms.Name.{Name}
use Rattle.ap_defs.specs.declared.terms.Var.{Var}
use Rattle.ap_defs.specs.Derivations.{NominalDerivation, derivation_of}
use Rattle.ap_answers.specs.Occurring.{more_names, more_vars}
use Rattle.ap_answers.proofs.OccurrenceLemmas.{more_names_append, more_names_none, more_vars_append, more_vars_none}
use Rattle.ap_checks.specs.Checks.{node_count}
use Rattle.ap_steps.specs.Names.{count_left, derivations_of, subderivations, preorder_left}

-- the first of those that are left was added
pub names_next : {A : Type 0} (names : List A → List Name) (first : A → List Name) (rest others : List A) (x : A) (ks ls all : List Name)
    → ((y : A) (ys : List A) → names (y ∷ ys) ≡ first y ++ names ys) → rest ≡ x ∷ others → ls ≡ more_names ks (first x)
    → more_names ks (names rest) ≡ all → more_names ls (names others) ≡ all
names_next names first rest others x ks ls all step e h is =
    ap (λ ms. more_names ms (names others)) h ∙ sym (more_names_append ks (first x) (names others)) ∙ ap (more_names ks) (sym (ap names e ∙ step x others)) ∙ is

pub vars_next : {A : Type 0} (vars : List A → List Var) (first : A → List Var) (rest others : List A) (x : A) (ks ls all : List Var)
    → ((y : A) (ys : List A) → vars (y ∷ ys) ≡ first y ++ vars ys) → rest ≡ x ∷ others → ls ≡ more_vars ks (first x)
    → more_vars ks (vars rest) ≡ all → more_vars ls (vars others) ≡ all
vars_next vars first rest others x ks ls all step e h is =
    ap (λ ms. more_vars ms (vars others)) h ∙ sym (more_vars_append ks (first x) (vars others)) ∙ ap (more_vars ks) (sym (ap vars e ∙ step x others)) ∙ is

-- nothing is left
pub names_done : (ks all more : List Name) → more ≡ [] → more_names ks more ≡ all → ks ≡ all
names_done ks all more e h = sym (more_names_none ks) ∙ ap (more_names ks) (sym e) ∙ h

pub vars_done : (ks all more : List Var) → more ≡ [] → more_vars ks more ≡ all → ks ≡ all
vars_done ks all more e h = sym (more_vars_none ks) ∙ ap (more_vars ks) (sym e) ∙ h

-- the last of the nodes that wait comes first
pub last_preorder : (ds : List (Bor code.Derivation)) (d : Bor code.Derivation) → preorder_left (ds ++ d ∷ []) ≡ subderivations (derivation_of d.now) ++ preorder_left ds
last_preorder [] d = sym (append-nil (subderivations (derivation_of d.now)))
last_preorder (f ∷ ds) d = ap (λ xs. xs ++ subderivations (derivation_of f.now)) (last_preorder ds d) ∙ append_assoc (subderivations (derivation_of d.now)) (preorder_left ds) (subderivations (derivation_of f.now))

pub last_count : (ds : List (Bor code.Derivation)) (d : Bor code.Derivation) → count_left (ds ++ d ∷ []) ≡ node_count (derivation_of d.now) + count_left ds
last_count [] d = omega arith
last_count (f ∷ ds) d = let more = last_count ds d in omega (arith, more)

-- the next of the nodes that wait was taken
pub node_next : (ns ms ws rest us : List (Bor code.Derivation)) (d : Bor code.Derivation) (all : List NominalDerivation) → ws ≡ rest ++ d ∷ [] → ms ≡ ns ++ d ∷ []
    → derivation_of d.now ∷ preorder_left us ≡ subderivations (derivation_of d.now) ++ preorder_left rest
    → derivations_of ns ++ preorder_left ws ≡ all → derivations_of ms ++ preorder_left us ≡ all
node_next ns ms ws rest us d all e f h is =
    ap (λ (xs : List (Bor code.Derivation)). derivations_of xs ++ preorder_left us) f
    ∙ ap (λ (xs : List NominalDerivation). xs ++ preorder_left us) (map-append (λ (x : Bor code.Derivation). derivation_of x.now) ns (d ∷ []))
    ∙ append_assoc (derivations_of ns) (derivation_of d.now ∷ []) (preorder_left us)
    ∙ ap (λ xs. derivations_of ns ++ xs) (h ∙ sym (ap preorder_left e ∙ last_preorder rest d)) ∙ is

-- the names of three lists, one after another
pub all_names : (k0 k1 k2 k3 xs ys zs : List Name) → k1 ≡ more_names k0 xs → k2 ≡ more_names k1 ys → k3 ≡ more_names k2 zs → k3 ≡ more_names k0 (xs ++ (ys ++ zs))
all_names k0 k1 k2 k3 xs ys zs e f g =
    g ∙ ap (λ ks. more_names ks zs) f ∙ sym (more_names_append k1 ys zs) ∙ ap (λ ks. more_names ks (ys ++ zs)) e ∙ sym (more_names_append k0 xs (ys ++ zs))

-- the vars of three lists, one after another
pub all_vars : (k0 k1 k2 k3 xs ys zs : List Var) → k1 ≡ more_vars k0 xs → k2 ≡ more_vars k1 ys → k3 ≡ more_vars k2 zs → k3 ≡ more_vars k0 (xs ++ (ys ++ zs))
all_vars k0 k1 k2 k3 xs ys zs e f g =
    g ∙ ap (λ ks. more_vars ks zs) f ∙ sym (more_vars_append k1 ys zs) ∙ ap (λ ks. more_vars ks (ys ++ zs)) e ∙ sym (more_vars_append k0 xs (ys ++ zs))
