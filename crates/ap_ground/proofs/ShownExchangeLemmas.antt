-- The names of conditions that aren't shown are exchanged for new ones.
use Rattle.std.proofs.Common.{◌≡◌, true, false, ◌&&◌, not, List, [], ◌∷◌, ◌++◌, sym, ap, ◌∙◌, inl, inr, true≢false}
use Rattle.ap_defs.specs.Alpha.{fresh}
use Rattle.ap_defs.specs.Freshness.{var_eq}
use Rattle.ap_defs.specs.Groundings.{Grounding}
use Rattle.ap_defs.specs.Permutations.{act_name, has_name}
use Rattle.ap_defs.specs.Printing.{first_names}
use Rattle.ap_defs.specs.Unification.{has_var}
use Rattle.ap_defs.specs.declared.terms.Name.{Name}
use Rattle.ap_defs.specs.declared.terms.Swap.{Swap}
use Rattle.ap_defs.specs.declared.terms.Var.{Var}
use Rattle.ap_theory.specs.Exchanges.{exchange, new_names}
use Rattle.ap_theory.specs.StatementsOnExchanges.{Exchangeable}
use Rattle.ap_theory.specs.StatementsOnReplacement.{ground_names_then}
use Rattle.ap_theory.proofs.BooleanLemmas.{and_both, and_false, false_if_not, or_cases, or_false}
use Rattle.ap_theory.proofs.DisagreementLemmas.{has_name-append}
use Rattle.ap_theory.proofs.ExchangeLemmas.{exchange_exchange, exchange_goes, exchange_other, new_names_apart, new_names_different, new_names_sorts}
use Rattle.ap_theory.proofs.PermutationLemmas.{act-append}
use Rattle.ap_theory.proofs.ReplacementLemmas.{fresh_absent}
use Rattle.ap_theory.proofs.TermLemmas.{var_same}
use Rattle.ap_ground.proofs.ListLemmas.{first_names_different, has_first_names}
use Rattle.ap_ground.proofs.ProofActionLemmas.{has_act}

-- the names of the terms that a grounding gives variables
abbrev pub names_given : Grounding → List Var → List Name
names_given g [] = []
names_given g (x ∷ xs) = ground_names_then (g x) [] ++ names_given g xs

given_absent : (g : Grounding) (xs : List Var) (a : Name) → has_name a (names_given g xs) ≡ false → (x : Var) → has_var x xs ≡ true → fresh a (g x) ≡ true
given_absent g [] a h x k = cc
given_absent g (y ∷ xs) a h x k =
    let i = or_false (has_name a (ground_names_then (g y) [])) (has_name a (names_given g xs)) (sym (has_name-append a (ground_names_then (g y) []) (names_given g xs)) ∙ h) in
    elim (or_cases (var_eq x y) (has_var x xs) k) [
      | inl e ↦ ap (λ z. fresh a (g z)) (var_same x y e) ∙ fresh_absent a (g y) i.0
      | inr e ↦ given_absent g xs a i.1 x e
    ]

-- Of some names, those that aren't kept are exchanged for names that are new for the kept ones and for the terms of some variables.
module _ (kept some : List Name) (g : Grounding) (xs : List Var) where
  abbrev pub hidden : List Name
  hidden = first_names kept some

  abbrev pub avoided : List Name
  avoided = hidden ++ (kept ++ names_given g xs)

  abbrev pub others : List Name
  others = new_names hidden avoided 0

  abbrev pub hiding : List Swap
  hiding = exchange hidden others

  others_apart : (a : Name) → has_name a others ≡ true → (has_name a hidden ≡ false) × (has_name a kept ≡ false) × (has_name a (names_given g xs) ≡ false)
  others_apart a h =
      let i = or_false (has_name a hidden) (has_name a (kept ++ names_given g xs)) (sym (has_name-append a hidden (kept ++ names_given g xs)) ∙ new_names_apart hidden avoided 0 a h) in
      let j = or_false (has_name a kept) (has_name a (names_given g xs)) (sym (has_name-append a kept (names_given g xs)) ∙ i.1) in
      (i.0, j.0, j.1)

  exchangeable : Exchangeable hidden others
  exchangeable = (
    new_names_sorts hidden avoided 0,
    first_names_different kept some,
    new_names_different hidden avoided 0,
    (λ a h. false_if_not (has_name a others) (λ k. true≢false (sym h ∙ (others_apart a k).0))),
  )

  pub hiding_twice : (a : Name) → act_name hiding (act_name hiding a) ≡ a
  hiding_twice a = sym (act-append hiding hiding a) ∙ exchange_exchange hidden others exchangeable a

  pub hiding_keeps : (a : Name) → has_name a kept ≡ true → act_name hiding a ≡ a
  hiding_keeps a h =
      exchange_other hidden others a (new_names_sorts hidden avoided 0)
      (has_first_names kept some a ∙ ap (λ v. has_name a some && not v) h ∙ and_false (has_name a some))
      (false_if_not (has_name a others) (λ k. true≢false (sym h ∙ (others_apart a k).1)))

  -- a name that isn't kept goes to one that is fresh for the terms
  pub hiding_fresh : (a : Name) → has_name a some ≡ true → has_name a kept ≡ false → (x : Var) → has_var x xs ≡ true → fresh (act_name hiding a) (g x) ≡ true
  hiding_fresh a h k x i =
      let there : has_name a hidden ≡ true = has_first_names kept some a ∙ and_both (has_name a some) (not (has_name a kept)) h (ap not k) in
      let new : has_name (act_name hiding a) others ≡ true =
      ap (has_name (act_name hiding a)) (sym (exchange_goes hidden others exchangeable)) ∙ has_act hiding a hidden ∙ there in
      given_absent g xs (act_name hiding a) (others_apart (act_name hiding a) new).2 x i
