-- The names of an answer, numbered on from a query's identifiers.
use Rattle.std.proofs.Common.{◌≡◌, ◌<◌, ◌≤◌, ◌⊎◌, ◌∙◌, ◌+◌, ℕ, zero, suc, Bool, true, false, ◌&&◌, ◌||◌, not, List, [], ◌∷◌, ◌++◌, length, map, Some, refl, sym, ap, ap₂, subst, inl, inr, arith}
use Rattle.std.specs.Prelude.{slice_get}
use Rattle.std.proofs.lemmas.List.{length-map}
use Rattle.ap_defs.specs.declared.terms.Name.{Name}
use Rattle.ap_defs.specs.declared.terms.Swap.{Swap}
use Rattle.ap_defs.specs.declared.terms.Var.{Var}
use Rattle.ap_defs.specs.Alpha.{fresh}
use Rattle.ap_defs.specs.Answers.{NominalAnswer}
use Rattle.ap_defs.specs.Freshness.{Conds}
use Rattle.ap_defs.specs.Groundings.{Grounding, grounded, meets}
use Rattle.ap_defs.specs.Occurrences.{names_of_terms, names_then}
use Rattle.ap_defs.specs.Permutations.{act_name, has_name, left_name, name_eq, names_of, right_name, swap_name}
use Rattle.ap_defs.specs.Renaming.{local_names, replace_names, replace_swap}
use Rattle.ap_defs.specs.Terms.{NominalTerm, abs, act_ground, app, name, pair, susp, unit}
use Rattle.ap_defs.specs.Types.{NominalLocal}
use Rattle.ap_theory.specs.Exchanges.{renumbered}
use Rattle.ap_theory.proofs.BooleanLemmas.{and_both, false_if_not, or_cases, or_if_left, or_if_right}
use Rattle.ap_theory.proofs.DisagreementLemmas.{has_name-append}
use Rattle.ap_theory.proofs.ExchangeLemmas.{extension_goes, extension_other, new_names_different, new_names_high, new_names_sorts}
use Rattle.ap_theory.proofs.PermutationLemmas.{act_sort, name_eq_same, name_eq_itself, not_name, swap_name_fixes}
use Rattle.ap_ground.proofs.ListLemmas.{first_names_different, has_first_names}
use Rattle.ap_complete.specs.Coverings.{replace_in_cond}
use Rattle.ap_picks.specs.StatementsOnPicks.{EachName, IsNewName}
use Rattle.ap_picks.proofs.PickLemmas.{each_name}
use Rattle.ap_property.specs.Fitting.{HaveKnownNames, IsKnown}
use Rattle.ap_property.specs.Stated.{other_names, settling}
use Rattle.ap_property.proofs.LocalLemmas.{name_at}
use Rattle.ap_property.proofs.PickedLemmas.{act_apart, fresh_apart, sort_front}

-- where names are numbered on, each has the place of what it was
pub record IsPlaced (cs : List Name) (n : ℕ) (a : Name) : Type 0 where
  pub place : ℕ
  pub number : a.num ≡ n + place
  pub below : place < length cs
  pub sort : slice_get (map (λ c. c.sort) cs) place ≡ Some a.sort

placed : (f : Name → Name) (cs : List Name) (n : ℕ) → map f cs ≡ renumbered cs n → (c : Name) → has_name c cs ≡ true → IsPlaced cs n (f c)
placed f [] n e c h = cc
placed f (d ∷ cs) n e c h =
    elim (or_cases (name_eq c d) (has_name c cs) h) [
      | inl i ↦
          let same : c ≡ d = name_eq_same c d i in
          let here : f c ≡ record { sort = d.sort; num = n } = ap f same ∙ head_same _ _ _ _ e in
          record {
            place = zero;
            number = let k = ap (λ (a : Name). a.num) here in omega (arith, k);
            below = omega arith;
            sort = ap (λ (a : Name). Some a.sort) (sym here);
          }
      | inr i ↦
          let r = placed f cs (suc n) (tail_same _ _ _ _ e) c i in
          record {
            place = suc r.place;
            number = let k = r.number in omega (arith, k);
            below = let k = r.below in omega (arith, k);
            sort = r.sort;
          }
    ]
  where
    head_same : (x y : Name) (xs ys : List Name) → x ∷ xs ≡ y ∷ ys → x ≡ y
    head_same x y xs ys k = cc

    tail_same : (x y : Name) (xs ys : List Name) → x ∷ xs ≡ y ∷ ys → xs ≡ ys
    tail_same x y xs ys k = cc

module _ (locals : List NominalLocal) (a : NominalAnswer) where
  abbrev n : ℕ
  n = length locals

  abbrev others : List Name
  others = other_names locals a

  abbrev mentioned : List Name
  mentioned = names_of_terms a.binds ++ map (λ c. c.name) a.conds

  abbrev τ : List Swap
  τ = settling locals a

  abbrev pub other_sorts : List ℕ
  other_sorts = map (λ c. c.sort) others

  -- a name of the query stays as it is
  pub settling_leaves : (b : Name) → has_name b (local_names 0 locals) ≡ true → act_name τ b ≡ b
  settling_leaves b h =
      let i = name_at 0 locals b h in
      let low : b.num < n = let e = i.number in let k = i.below in omega (arith, e, k) in
      extension_other others (renumbered others n) n b (new_names_sorts others [] n)
      (has_first_names (local_names 0 locals) mentioned b ∙ ap (λ x. has_name b mentioned && not x) h ∙ and_nothing (has_name b mentioned))
      (false_if_not _ (λ k. let l : n ≤ b.num = new_names_high others [] n b k in omega (arith, low, l))) low
    where
      and_nothing : (x : Bool) → (x && false) ≡ false
      and_nothing true = refl
      and_nothing false = refl

  -- a settled name: one of the query's, or one of those that are numbered on
  abbrev pub IsSettled : Name → Type 0
  IsSettled b = (has_name b (local_names 0 locals) ≡ true) ⊎ IsPlaced others n b

  pub settled : (c : Name) → has_name c mentioned ≡ true → IsSettled (act_name τ c)
  settled c h =
      elim (has_name c (local_names 0 locals)) as (λ v. has_name c (local_names 0 locals) ≡ v → IsSettled (act_name τ c)) [
        | true ↦ λ e. inl (ap (λ b. has_name b (local_names 0 locals)) (settling_leaves c e) ∙ e)
        | false ↦ λ e. inr (placed (act_name τ) others n
            (extension_goes others (renumbered others n) n (new_names_sorts others [] n) (first_names_different (local_names 0 locals) mentioned) (new_names_different others [] n))
            c (has_first_names (local_names 0 locals) mentioned c ∙ ap₂ (λ x y. x && not y) h e))
      ] refl

  settled_low : (b : Name) → IsSettled b → b.num < n + length other_sorts
  settled_low b (inl h) = let i = name_at 0 locals b h in let e = i.number in let k = i.below in omega (arith, e, k)
  settled_low b (inr i) = let e = i.number in let k = i.below in let l : length other_sorts ≡ length others = length-map others (λ c. c.sort) in omega (arith, e, k, l)

  module _ (after : List ℕ) where
    abbrev IsNew : Name → Type 0
    IsNew = IsNewName n other_sorts after

    new_apart : (b c : Name) → IsSettled b → IsNew c → name_eq b c ≡ false
    new_apart b c h i =
        let low = settled_low b h in
        not_name b c (λ e. let m = ap (λ (x : Name). x.num) e in let k = i.number in let l = i.late in absurd (omega (arith, low, m, k, l)))

    new_apart_back : (b c : Name) → IsSettled b → IsNew c → name_eq c b ≡ false
    new_apart_back b c h i =
        let low = settled_low b h in
        not_name c b (λ e. let m = ap (λ (x : Name). x.num) e in let k = i.number in let l = i.late in absurd (omega (arith, low, m, k, l)))

    -- settled swappings leave new names
    abbrev AreMentioned : List Name → Type 0
    AreMentioned as' = (c : Name) → has_name c as' ≡ true → has_name c mentioned ≡ true

    pub swaps_leave : (q : List Swap) → AreMentioned (names_of q) → (c : Name) → IsNew c → act_name (map (replace_swap τ) q) c ≡ c
    swaps_leave [] h c i = refl
    swaps_leave (s ∷ q) h c i =
        let rest = swaps_leave q (λ b k. h b (or_if_right (name_eq b (left_name s)) _ (or_if_right (name_eq b (right_name s)) (has_name b (names_of q)) k))) c i in
        let left_moved : left_name (replace_swap τ s) ≡ act_name τ (left_name s) = moved (left_name s) s.sort refl in
        let right_moved : right_name (replace_swap τ s) ≡ act_name τ (right_name s) = moved (right_name s) s.sort refl in
        let l = new_apart_back (act_name τ (left_name s)) c (settled (left_name s) (h (left_name s) (first_in s q))) i in
        let r = new_apart_back (act_name τ (right_name s)) c (settled (right_name s) (h (right_name s) (second_in s q))) i in
        ap (swap_name (replace_swap τ s)) rest
        ∙ swap_name_fixes (replace_swap τ s) c (ap (name_eq c) left_moved ∙ l) (ap (name_eq c) right_moved ∙ r)
      where
        moved : (b : Name) (k : ℕ) → b.sort ≡ k → record { sort = k; num = (act_name τ b).num } ≡ act_name τ b
        moved b k e = ap (λ m. record { sort = m; num = (act_name τ b).num }) (sym e ∙ sym (act_sort τ b))

        first_in : (s : Swap) (q : List Swap) → has_name (left_name s) (names_of (s ∷ q)) ≡ true
        first_in s q = ap (λ x. x || has_name (left_name s) (right_name s ∷ names_of q)) (name_eq_itself (left_name s))

        second_in : (s : Swap) (q : List Swap) → has_name (right_name s) (names_of (s ∷ q)) ≡ true
        second_in s q = or_if_right (name_eq (right_name s) (left_name s)) (has_name (right_name s) (right_name s ∷ names_of q)) (ap (λ x. x || has_name (right_name s) (names_of q)) (name_eq_itself (right_name s)))

    -- A grounding that gives new names alone.
    module _ (f : Grounding) (new : (x : Var) → EachName IsNew (f x)) (added : List ℕ) (extends : after ≡ other_sorts ++ added) where
      known_settled : (b : Name) → IsSettled b → IsKnown locals after b
      known_settled b (inl h) = inl h
      known_settled b (inr i) = inr (i.place, i.number, subst (λ l. slice_get l i.place ≡ Some b.sort) (sym extends) (sort_front other_sorts added i.place b.sort i.sort))

      known_new : (b : Name) → IsNew b → IsKnown locals after b
      known_new b i = inr (i.place, i.number, i.sort)

      first_mentioned : (b : Name) (as' : List Name) → AreMentioned (b ∷ as') → has_name b mentioned ≡ true
      first_mentioned b as' h = h b (ap (λ x. x || has_name b as') (name_eq_itself b))

      rest_mentioned : (b : Name) (as' : List Name) → AreMentioned (b ∷ as') → AreMentioned as'
      rest_mentioned b as' h c k = h c (or_if_right (name_eq c b) (has_name c as') k)

      grounded_known : (t : NominalTerm) (as' : List Name) → AreMentioned (names_then t as') → EachName (IsKnown locals after) (grounded f (replace_names τ t)) × AreMentioned as'
      grounded_known unit as' h = (tt, h)
      grounded_known (name b) as' h = (known_settled (act_name τ b) (settled b (first_mentioned b as' h)), rest_mentioned b as' h)
      grounded_known (pair t u) as' h =
          let l = grounded_known t (names_then u as') h in
          let r = grounded_known u as' l.1 in
          ((l.0, r.0), r.1)
      grounded_known (app k t) as' h = grounded_known t as' h
      grounded_known (abs b t) as' h =
          let r = grounded_known t as' (rest_mentioned b (names_then t as') h) in
          ((known_settled (act_name τ b) (settled b (first_mentioned b (names_then t as') h)), r.0), r.1)
      grounded_known (susp q x) as' h =
          let own = λ (c : Name) (k : has_name c (names_of q) ≡ true). h c (has_name-append c (names_of q) as' ∙ or_if_left (has_name c (names_of q)) (has_name c as') k) in
          let others_in = λ (c : Name) (k : has_name c as' ≡ true). h c (has_name-append c (names_of q) as' ∙ or_if_right (has_name c (names_of q)) (has_name c as') k) in
          let still : act_ground (map (replace_swap τ) q) (f x) ≡ f x = act_apart (map (replace_swap τ) q) (f x) (each_name _ _ (swaps_leave q own) (f x) (new x)) in
          (subst (EachName (IsKnown locals after)) (sym still) (each_name _ _ known_new (f x) (new x)), others_in)

      -- so the terms of the query's variables have known names
      all_known : (ts : List NominalTerm) → AreMentioned (names_of_terms ts) → HaveKnownNames locals after (map (λ t. grounded f (replace_names τ t)) ts)
      all_known [] h = tt
      all_known (t ∷ ts) h = let r = grounded_known t (names_of_terms ts) h in (r.0, all_known ts r.1)

      pub binds_known : HaveKnownNames locals after (map (λ t. grounded f (replace_names τ t)) a.binds)
      binds_known = all_known a.binds (λ c k. has_name-append c (names_of_terms a.binds) (map (λ d. d.name) a.conds)
          ∙ or_if_left (has_name c (names_of_terms a.binds)) (has_name c (map (λ d. d.name) a.conds)) k)

      -- and the conditions are met
      all_met : (ds : Conds) → AreMentioned (map (λ d. d.name) ds) → meets f (map (replace_in_cond τ) ds) ≡ true
      all_met [] h = refl
      all_met (d ∷ ds) h =
          let moved = settled d.name (first_mentioned d.name (map (λ e. e.name) ds) h) in
          let here : fresh (act_name τ d.name) (f d.var) ≡ true = fresh_apart (act_name τ d.name) (f d.var) (each_name _ _ (λ c i. new_apart (act_name τ d.name) c moved i) (f d.var) (new d.var)) in
          and_both (fresh (act_name τ d.name) (f d.var)) (meets f (map (replace_in_cond τ) ds)) here (all_met ds (rest_mentioned d.name (map (λ e. e.name) ds) h))

      pub conditions_met : meets f (map (replace_in_cond τ) a.conds) ≡ true
      conditions_met = all_met a.conds (λ c k. has_name-append c (names_of_terms a.binds) (map (λ d. d.name) a.conds)
          ∙ or_if_right (has_name c (names_of_terms a.binds)) (has_name c (map (λ d. d.name) a.conds)) k)
