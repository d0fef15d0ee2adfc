-- Steps of the loop over the terms of a head.
use Rattle.std.proofs.Common.{◌≡◌, ◌<◌, ◌+◌, ℕ, suc, Bool, true, false, ◌&&◌, List, [], ◌∷◌, length, get_or, drop, map, refl, sym, ap, ap₂, ◌∙◌, add-one}
use Rattle.std.proofs.Math.Seq.{drop-cons}
use Rattle.ap_defs.specs.declared.terms.Term.{Term}
use Rattle.ap_defs.specs.Freshness.{Conds, alpha_under}
use Rattle.ap_defs.specs.Terms.{term_of}
use Rattle.ap_checks.specs.Checks.{equal_each}
use Rattle.ap_checks.specs.OpenEnvironments.{OpenEnvironment, put_in}

module _ (ds : Conds) (e d : OpenEnvironment) where
  abbrev alike_in : Term → Term → Bool
  alike_in t u = alpha_under ds (put_in e (term_of t)) (put_in d (term_of u))

  abbrev each_in : List Term → List Term → Bool
  each_in ts us = equal_each ds (map (put_in e) (map term_of ts)) (map (put_in d) (map term_of us))

  differ : (ts us : List Term) → (length ts ≡ length us → ⊥) → each_in ts us ≡ false
  differ [] [] h = absurd (h refl)
  differ [] (u ∷ us) h = refl
  differ (t ∷ ts) [] h = refl
  differ (t ∷ ts) (u ∷ us) h =
      ap (λ v. alike_in t u && v) (differ ts us (λ k. h (ap suc k)))
      ∙ elim (alike_in t u) as (λ v. (v && false) ≡ false) [ true ↦ refl | false ↦ refl ]

  module _ (ts us : List Term) (i : ℕ) (t u : Term) (h : i < length ts) (k : i < length us) where
    split : each_in (drop i ts) (drop i us) ≡ (alike_in (get_or ts i t) (get_or us i u) && each_in (drop (i + 1) ts) (drop (i + 1) us))
    split =
        ap₂ each_in (drop-cons ts i t h) (drop-cons us i u k)
        ∙ ap (λ n. alike_in (get_or ts i t) (get_or us i u) && each_in (drop n ts) (drop n us)) (sym (add-one i))

    not_here : alike_in (get_or ts i t) (get_or us i u) ≡ false → each_in (drop i ts) (drop i us) ≡ false
    not_here g = split ∙ ap (λ v. v && each_in (drop (i + 1) ts) (drop (i + 1) us)) g

    later : alike_in (get_or ts i t) (get_or us i u) ≡ true → each_in (drop (i + 1) ts) (drop (i + 1) us) ≡ each_in (drop i ts) (drop i us)
    later g = sym (split ∙ ap (λ v. v && each_in (drop (i + 1) ts) (drop (i + 1) us)) g)

pub lengths_differ : (ds : Conds) (e d : OpenEnvironment) (ts us : List Term) → (length ts ≡ length us → ⊥) → equal_each ds (map (put_in e) (map term_of ts)) (map (put_in d) (map term_of us)) ≡ false
lengths_differ = differ

pub equal_not : (ds : Conds) (e d : OpenEnvironment) (ts us : List Term) (i : ℕ) (t u : Term) → i < length ts → i < length us
    → alpha_under ds (put_in e (term_of (get_or ts i t))) (put_in d (term_of (get_or us i u))) ≡ false
    → equal_each ds (map (put_in e) (map term_of (drop i ts))) (map (put_in d) (map term_of (drop i us))) ≡ false
equal_not = not_here

pub equal_later : (ds : Conds) (e d : OpenEnvironment) (ts us : List Term) (i : ℕ) (t u : Term) → i < length ts → i < length us
    → alpha_under ds (put_in e (term_of (get_or ts i t))) (put_in d (term_of (get_or us i u))) ≡ true
    → equal_each ds (map (put_in e) (map term_of (drop (i + 1) ts))) (map (put_in d) (map term_of (drop (i + 1) us)))
    ≡ equal_each ds (map (put_in e) (map term_of (drop i ts))) (map (put_in d) (map term_of (drop i us)))
equal_later = later
