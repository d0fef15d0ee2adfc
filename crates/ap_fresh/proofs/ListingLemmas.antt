-- The conditions of problems that are taken off a stack, in the order in which they come.
use Rattle.std.proofs.Common.{◌≡◌, ◌⊎◌, ℕ, Bool, true, false, true≢false, List, [], ◌∷◌, ◌++◌, inl, inr, refl, sym, ap, ◌∙◌, subst, append_assoc, reverse}
use Rattle.std.proofs.lemmas.List.{append-nil, reverse-append}
use Rattle.std.specs.Prelude.{None, Option, Some}
use Rattle.ap_defs.specs.Freshness.{Conds, both}
use Rattle.ap_defs.specs.declared.terms.Cond.{Cond}
use Rattle.ap_defs.specs.declared.terms.Var.{Var}
use Rattle.ap_perm.specs.Lookups.{Bound, IsRanked}
use Rattle.ap_theory.proofs.CollectionLemmas.{collected_both}
use Rattle.ap_theory.specs.StatementsOnConditions.{collected, joined_conditions}
use Rattle.ap_fresh.specs.Reduction.{IsSublist, StandBehind, added}
use Rattle.ap_fresh.specs.declared.pending.Pending.{Pending}
use Rattle.ap_fresh.proofs.PendingLemmas.{AreBelow, IsCollecting, IsToldBelow, all_append, all_left, all_one, cond_taken, in_var, last_refuted, left_out, one_sought, problem_of, replaced, visits_below, visits_of}
use Rattle.ap_fresh.proofs.SetLemmas.{behind_order, both_nothing, refuted_is, tells, told_same}

pub sublist_itself : (cs : List Cond) → IsSublist cs cs
sublist_itself [] = tt
sublist_itself (c ∷ cs) = inl (refl, sublist_itself cs)

sublist_later : (c : Cond) (bs cs : List Cond) → IsSublist bs cs → IsSublist bs (c ∷ cs)
sublist_later c [] cs h = tt
sublist_later c (b ∷ bs) cs h = inr h

sublist_rest : (b : Cond) (bs cs : List Cond) → IsSublist (b ∷ bs) cs → IsSublist bs cs
sublist_rest b bs [] h = absurd h
sublist_rest b bs (c ∷ cs) (inl h) = sublist_later c bs cs h.1
sublist_rest b bs (c ∷ cs) (inr h) = sublist_later c bs cs (sublist_rest b bs cs h)

sublist_behind : (ks bs cs : List Cond) → IsSublist (ks ++ bs) cs → IsSublist bs cs
sublist_behind [] bs cs h = h
sublist_behind (a ∷ ks) bs cs h = sublist_behind ks bs cs (sublist_rest a (ks ++ bs) cs h)

-- some are left out
sublist_without : (fs ks bs cs : List Cond) → IsSublist (fs ++ (ks ++ bs)) cs → IsSublist (fs ++ bs) cs
sublist_without [] ks bs cs h = sublist_behind ks bs cs h
sublist_without (f ∷ fs) ks bs [] h = absurd h
sublist_without (f ∷ fs) ks bs (c ∷ cs) (inl h) = inl (h.0, sublist_without fs ks bs cs h.1)
sublist_without (f ∷ fs) ks bs (c ∷ cs) (inr h) = inr (sublist_without (f ∷ fs) ks bs cs h)

some_same : {v w : List Cond} → Some v ≡ Some w → v ≡ w
some_same k = cc

-- two problems that are not refuted
both_some : (o p : Option (List Cond)) (rs : List Cond) → both o p ≡ Some rs → (ks : List Cond) × (bs : List Cond) × (o ≡ Some ks) × (p ≡ Some bs) × (rs ≡ ks ++ bs)
both_some None p rs h = cc
both_some (Some ks) None rs h = cc
both_some (Some ks) (Some bs) rs h = (ks, bs, refl, refl, some_same (sym h))

-- the set of conditions that stand behind others
pub behind_added : (o : Option (List Cond)) (ds es : List Cond) → StandBehind o ds es → added o ds ≡ collected (Some es)
behind_added None ds es h = absurd h
behind_added (Some cs) ds es h =
    let bs = h.0 in
    collected_both (Some cs) (Some ds) ∙ ap (λ (fs : Conds). joined_conditions (Some fs) (collected (Some ds))) (sym h.3) ∙ sym (collected_both (Some bs) (Some ds))
    ∙ behind_order bs ds ∙ ap (λ (fs : List Cond). collected (Some fs)) (sym h.1)

-- no condition
pub nothing_behind : (ds : List Cond) → StandBehind (Some []) ds ds
nothing_behind ds = ([], sym (append-nil ds), tt, refl)

-- one condition
pub one_behind : (c : Cond) (ds : List Cond) → StandBehind (Some (c ∷ [])) ds (ds ++ c ∷ [])
one_behind c ds = (c ∷ [], refl, inl (refl, tt), refl)

module _ (bound : Bound) (rank : Var → ℕ) (ranked : IsRanked bound rank) where
  -- the conditions so far, and those of what is left from the last to the first, are some of these, from the last to the first
  abbrev pub IsListing : List Cond → List Pending → List Cond → Type 0
  IsListing cs ps bs = (rs : List Cond) × (all_left bound rank ranked ps ≡ Some rs) × IsSublist (bs ++ reverse rs) (reverse cs)

  -- behind others stand the conditions so far
  abbrev pub IsPutting : List Cond → Option (List Cond) → (Cond → Bool) → List Pending → List Cond → Type 0
  IsPutting old total sought ps new =
      (bs : List Cond) × (new ≡ old ++ bs) × IsCollecting bound rank ranked total sought ps bs × ((cs : List Cond) → total ≡ Some cs → IsListing cs ps bs)

  module _ (old : List Cond) (total : Option (List Cond)) (sought : Cond → Bool) (ps qs rest all : List Pending) (p : Pending) (e : all ≡ ps ++ p ∷ []) (f : rest ≡ ps ++ qs) (ds : List Cond)
      (now : IsPutting old total sought all ds) where
    all_parts : all_left bound rank ranked all ≡ both (all_left bound rank ranked ps) (problem_of bound rank ranked p)
    all_parts =
        ap (all_left bound rank ranked) e ∙ all_append bound rank ranked ps (p ∷ []) ∙ ap (both (all_left bound rank ranked ps)) (all_one bound rank ranked p)

    rest_parts : all_left bound rank ranked rest ≡ both (all_left bound rank ranked ps) (all_left bound rank ranked qs)
    rest_parts = ap (all_left bound rank ranked) f ∙ all_append bound rank ranked ps qs

    -- others take its place that tell the same, and visit fewer nodes
    pub others_put : problem_of bound rank ranked p ≡ all_left bound rank ranked qs → AreBelow bound rank ranked (visits_of bound rank ranked p) qs → IsPutting old total sought rest ds
    others_put g l = (
      now.0,
      now.1,
      replaced bound rank ranked total sought ps qs rest all p e f now.0 now.2 g l,
      (λ cs t. let i = now.3 cs t in (i.0, sym same ∙ i.1, i.2)),
    )
      where
        same : all_left bound rank ranked all ≡ all_left bound rank ranked rest
        same = all_parts ∙ ap (both (all_left bound rank ranked ps)) g ∙ sym rest_parts

    module _ (none : qs ≡ []) where
      last_parts : all_left bound rank ranked all ≡ both (all_left bound rank ranked rest) (problem_of bound rank ranked p)
      last_parts = all_parts ∙ ap (λ (rs : List Pending). both (all_left bound rank ranked rs) (problem_of bound rank ranked p)) (sym (f ∙ ap (λ (rs : List Pending). ps ++ rs) none ∙ append-nil ps))

      -- what the last one tells, and what is left then
      module _ (cs : List Cond) (i : IsListing cs all now.0) where
        apart : (ks : List Cond) × (bs : List Cond) × (all_left bound rank ranked rest ≡ Some ks) × (problem_of bound rank ranked p ≡ Some bs) × (i.0 ≡ ks ++ bs)
        apart = both_some (all_left bound rank ranked rest) (problem_of bound rank ranked p) i.0 (sym last_parts ∙ i.1)

        turned : IsSublist (now.0 ++ (reverse apart.1 ++ reverse apart.0)) (reverse cs)
        turned = subst (λ (xs : List Cond). IsSublist (now.0 ++ xs) (reverse cs)) (ap reverse apart.4 ∙ reverse-append apart.0 apart.1) i.2

        out_listed : IsListing cs rest now.0
        out_listed = (apart.0, apart.2, sublist_without now.0 (reverse apart.1) (reverse apart.0) (reverse cs) turned)

        cond_listed : (c : Cond) → problem_of bound rank ranked p ≡ Some (c ∷ []) → IsListing cs rest (now.0 ++ c ∷ [])
        cond_listed c g = (
          apart.0,
          apart.2,
          subst (λ (xs : List Cond). IsSublist xs (reverse cs))
              (ap (λ (xs : List Cond). now.0 ++ (reverse xs ++ reverse apart.0)) (some_same (sym apart.3 ∙ g)) ∙ sym (append_assoc now.0 (c ∷ []) (reverse apart.0))) turned,
        )

      -- it is one condition
      pub cond_put : (c : Cond) (fs : List Cond) → problem_of bound rank ranked p ≡ Some (c ∷ []) → fs ≡ ds ++ c ∷ [] → IsPutting old total sought rest fs
      cond_put c fs g k = (
        now.0 ++ c ∷ [],
        k ∙ ap (λ (es : List Cond). es ++ c ∷ []) now.1 ∙ append_assoc old now.0 (c ∷ []),
        cond_taken bound rank ranked total sought ps qs rest all p e f now.0 now.2 c (now.0 ++ c ∷ []) g none refl,
        (λ cs t. cond_listed cs (now.3 cs t) c g),
      )

      -- it was sought in this variable
      pub out_put : (c : Cond) → sought c ≡ true → problem_of bound rank ranked p ≡ in_var bound rank ranked c → visits_of bound rank ranked p ≡ visits_below bound rank ranked c → IsPutting old total sought rest ds
      out_put c s g l = (now.0, now.1, left_out bound rank ranked total sought ps qs rest all p e f now.0 now.2 c s g l none, (λ cs t. out_listed cs (now.3 cs t)))

    -- it is refuted
    pub refuted_put : problem_of bound rank ranked p ≡ None → total ≡ None
    refuted_put h = refuted_is total (last_refuted bound rank ranked total sought ps all p now.0 e h now.2)

  -- one more is sought, of which all that it tells is told by what is left
  pub sought_put : (old : List Cond) (total : Option (List Cond)) (sought more : Cond → Bool) (ps : List Pending) (ds : List Cond) (c : Cond) → ((d : Cond) → more d ≡ true → (sought d ≡ true) ⊎ (d ≡ c))
      → ((w : Option Cond) → tells (in_var bound rank ranked c) w ≡ true → IsToldBelow bound rank ranked w (visits_below bound rank ranked c) ps) → IsPutting old total sought ps ds → IsPutting old total more ps ds
  sought_put old total sought more ps ds c come known now =
      (now.0, now.1, one_sought bound rank ranked total sought more ps now.0 c come (λ w t. inr (known w t)) now.2, now.3)

  -- one that was sought is sought again
  pub sought_again : (old : List Cond) (total : Option (List Cond)) (sought more : Cond → Bool) (ps : List Pending) (ds : List Cond) (c : Cond) → ((d : Cond) → more d ≡ true → (sought d ≡ true) ⊎ (d ≡ c))
      → sought c ≡ true → IsPutting old total sought ps ds → IsPutting old total more ps ds
  sought_again old total sought more ps ds c come s now =
      (now.0, now.1, (now.2.0, (λ w d k t. elim (come d k) [ inl i ↦ now.2.1 w d i t | inr q ↦ now.2.1 w d (ap sought q ∙ s) t ])), now.3)

  -- one problem is left, and no name was sought
  pub first_put : (old : List Cond) (sought : Cond → Bool) (ps : List Pending) (p : Pending) → ps ≡ p ∷ [] → ((c : Cond) → sought c ≡ false) → IsPutting old (problem_of bound rank ranked p) sought ps old
  first_put old sought ps p e n =
      let h : all_left bound rank ranked ps ≡ problem_of bound rank ranked p = ap (all_left bound rank ranked) e ∙ all_one bound rank ranked p in (
        [],
        sym (append-nil old),
        ((λ w. ap (λ o. tells o w) (both_nothing (all_left bound rank ranked ps) ∙ h)), (λ w c s t. absurd (true≢false (sym s ∙ n c)))),
        (λ cs t. (cs, h ∙ t, sublist_itself (reverse cs))),
      )

  -- all was taken
  pub all_put : (old : List Cond) (total : Option (List Cond)) (sought : Cond → Bool) (new : List Cond) → IsPutting old total sought [] new → StandBehind total old new
  all_put old None sought new h = absurd (true≢false (sym (h.2.0 None)))
  all_put old (Some cs) sought new h =
      let i = h.3 cs refl in (
        h.0,
        h.1,
        subst (λ (xs : List Cond). IsSublist xs (reverse cs)) (ap (λ (xs : List Cond). h.0 ++ reverse xs) (sym (some_same i.1)) ∙ append-nil h.0) i.2,
        some_same (told_same (Some h.0) (Some cs) h.2.0),
      )
