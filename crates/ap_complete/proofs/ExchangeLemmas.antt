-- The answer at the path of a ground proof covers it whatever its names are exchanged for.
use Rattle.std.proofs.Common.{subst, ◌≡◌, ◌+◌, ◌<◌, ◌≤◌, ℕ, suc, Bool, true, false, ◌&&◌, List, [], ◌∷◌, ◌++◌, map, length, refl, sym, ap, ap₂, ◌∙◌, inl, inr, arith, true≢false}
use Rattle.std.specs.Prelude.{not}
use Rattle.ap_defs.specs.declared.terms.Name.{Name}
use Rattle.ap_defs.specs.declared.terms.Swap.{Swap}
use Rattle.ap_defs.specs.Alpha.{alpha, fresh}
use Rattle.ap_defs.specs.Answers as answers
use Rattle.ap_defs.specs.Answers.{NominalAnswer, NominalOut, query_outs}
use Rattle.ap_defs.specs.Derivations.{path}
use Rattle.ap_defs.specs.Freshness.{Conds}
use Rattle.ap_defs.specs.GroundProofs.{AlphaEach, AreDifferent, AreOfSorts}
use Rattle.ap_defs.specs.Groundings.{Grounding, grounded, meets}
use Rattle.ap_defs.specs.Occurrences.{names_of_terms, names_then}
use Rattle.ap_defs.specs.Permutations.{act_name, has_name, left_name, name_eq, names_of, right_name}
use Rattle.ap_defs.specs.Printing.{first_names}
use Rattle.ap_defs.specs.Renaming.{local_names, replace_names, replace_swap}
use Rattle.ap_defs.specs.Terms.{GroundTerm, NominalTerm, abs, act_ground, app, name, pair, susp, unit}
use Rattle.ap_defs.specs.Types.{NominalConstructor, NominalLocal}
use Rattle.ap_theory.specs.Exchanges.{exchange, extension, new_names}
use Rattle.ap_theory.proofs.BooleanLemmas.{false_if_not, or_cases, or_if_left, or_if_right}
use Rattle.ap_theory.proofs.DisagreementLemmas.{has_front, has_name-append}
use Rattle.ap_theory.proofs.ExchangeLemmas.{extension_goes, extension_other, new_names_high, new_names_sorts}
use Rattle.ap_theory.proofs.GroundLemmas.{act_ground-append, alpha_act, alpha_sym, alpha_trans}
use Rattle.ap_theory.proofs.PermutationLemmas.{act_sort, name_eq_same}
use Rattle.ap_theory.proofs.ReplacementLemmas.{act_grounded}
use Rattle.ap_ground.proofs.FillerLemmas.{gives_types_act}
use Rattle.ap_ground.proofs.ListLemmas.{first_names_different, has_first_names}
use Rattle.ap_ground.proofs.ProofActionLemmas.{has_act}
use Rattle.ap_complete.specs.Coverings.{IsInstanceBy, TakesApart, names_of_answer, replace_in_cond}
use Rattle.ap_complete.specs.NumberedProofs.{IsAmong, kinds_in}
use Rattle.ap_complete.specs.StatementsOnCompleteness.{EachExchangeCovers}
use Rattle.ap_complete.specs.StatementsOnFreshness.{FreshForTerms}
use Rattle.ap_complete.proofs.ClearingLemmas.{absent_each, exchange_leaves, fresh_among, grounds_names}
use Rattle.ap_complete.proofs.CompletenessLemmas.{outputs_stand_alone}
use Rattle.ap_complete.proofs.CoveringLemmas.{meets_acted, taken_away}

-- ONE PERMUTATION AFTER ANOTHER

module _ (r s t : List Swap) where
  -- the last one acts on the names as the first after the second
  abbrev Follows : List Name → Type 0
  Follows as' = (a : Name) → has_name a as' ≡ true → act_name t a ≡ act_name r (act_name s a)

  follows_first : (b : Name) (as' : List Name) → Follows (b ∷ as') → act_name t b ≡ act_name r (act_name s b)
  follows_first b as' h = h b (has_front b as')

  follows_rest : (b : Name) (as' : List Name) → Follows (b ∷ as') → Follows as'
  follows_rest b as' h a m = h a (or_if_right (name_eq a b) (has_name a as') m)

  moved_name : (q : ℕ) (b : Name) → b.sort ≡ q → record { sort = q; num = (act_name s b).num } ≡ act_name s b
  moved_name q b e = ap (λ m. record { sort = m; num = (act_name s b).num }) (sym e ∙ sym (act_sort s b))

  swaps_follow : (q : List Swap) (as' : List Name) → Follows (names_of q ++ as') → (map (replace_swap t) q ≡ map (replace_swap r) (map (replace_swap s) q)) × Follows as'
  swaps_follow [] as' h = (refl, h)
  swaps_follow (w ∷ q) as' h =
      let later = follows_rest (left_name w) (right_name w ∷ names_of q ++ as') h in
      let rest = swaps_follow q as' (follows_rest (right_name w) (names_of q ++ as') later) in
      let left = follows_first (left_name w) (right_name w ∷ names_of q ++ as') h ∙ ap (act_name r) (sym (moved_name w.sort (left_name w) refl)) in
      let right = follows_first (right_name w) (names_of q ++ as') later ∙ ap (act_name r) (sym (moved_name w.sort (right_name w) refl)) in (
        ap₂ ◌∷◌ (ap₂ (λ (m n : ℕ). record { sort = w.sort; left = m; right = n }) (ap (λ (n : Name). n.num) left) (ap (λ (n : Name). n.num) right)) rest.0,
        rest.1,
      )

  names_follow : (u : NominalTerm) (as' : List Name) → Follows (names_then u as') → (replace_names t u ≡ replace_names r (replace_names s u)) × Follows as'
  names_follow unit as' h = (refl, h)
  names_follow (name a) as' h = (ap name (follows_first a as' h), follows_rest a as' h)
  names_follow (pair u v) as' h =
      let k = names_follow u (names_then v as') h in
      let l = names_follow v as' k.1 in
      (ap₂ pair k.0 l.0, l.1)
  names_follow (app f u) as' h = let k = names_follow u as' h in (ap (app f) k.0, k.1)
  names_follow (abs a u) as' h =
      let k = names_follow u as' (follows_rest a (names_then u as') h) in
      (ap₂ abs (follows_first a (names_then u as') h) k.0, k.1)
  names_follow (susp q x) as' h = let k = swaps_follow q as' h in (ap (λ p. susp p x) k.0, k.1)

  -- terms that the first one leaves are instances by the last one where they are by the second
  each_follows : (f : Grounding) (gs : List GroundTerm) (us : List NominalTerm) → Follows (names_of_terms us) → ((g : GroundTerm) → IsAmong g gs → alpha (act_ground r g) g ≡ true)
      → AlphaEach gs (map (λ u. grounded f (replace_names s u)) us) → AlphaEach gs (map (λ u. grounded (λ x. act_ground r (f x)) (replace_names t u)) us)
  each_follows f [] [] h k e = tt
  each_follows f [] (u ∷ us) h k e = absurd e
  each_follows f (g ∷ gs) [] h k e = absurd e
  each_follows f (g ∷ gs) (u ∷ us) h k e =
      let n = names_follow u (names_of_terms us) h in
      let v = grounded f (replace_names s u) in
      let moved : act_ground r v ≡ grounded (λ x. act_ground r (f x)) (replace_names t u) = act_grounded r f (replace_names s u) ∙ ap (grounded (λ x. act_ground r (f x))) (sym n.0) in (
        ap (alpha g) (sym moved) ∙ alpha_trans g (act_ground r g) (act_ground r v) (alpha_sym (act_ground r g) g (k g (inl refl))) (alpha_act r g v ∙ e.0),
        each_follows f gs us n.1 (λ w i. k w (inr i)) e.1,
      )

  conds_follow : (ds : Conds) → Follows (map (λ c. c.name) ds) → map (replace_in_cond t) ds ≡ map (replace_in_cond r) (map (replace_in_cond s) ds)
  conds_follow [] h = refl
  conds_follow (c ∷ ds) h =
      ap₂ ◌∷◌ (ap (λ (a : Name). record { name = a; var = c.var }) (follows_first c.name (map (λ c. c.name) ds) h)) (conds_follow ds (follows_rest c.name (map (λ c. c.name) ds) h))

-- A PERMUTATION THAT LEAVES TERMS

-- above the numbers of names
abbrev beyond : List Name → ℕ
beyond [] = 0
beyond (a ∷ as') = suc (a.num + beyond as')

beyond_each : (as' : List Name) (a : Name) → has_name a as' ≡ true → a.num < beyond as'
beyond_each [] a h = absurd (true≢false (sym h))
beyond_each (b ∷ bs) a h =
    elim (or_cases (name_eq a b) (has_name a bs) h) [
      | inl e ↦ let n : a.num ≡ b.num = ap (λ (c : Name). c.num) (name_eq_same a b e) in omega (arith, n)
      | inr e ↦ let k = beyond_each bs a e in omega (arith, k)
    ]

image_of : (f : Name → Name) (as' : List Name) (b : Name) → has_name b (map f as') ≡ true → (a : Name) × (has_name a as' ≡ true) × (f a ≡ b)
image_of f [] b h = absurd (true≢false (sym h))
image_of f (a ∷ as') b h =
    elim (or_cases (name_eq b (f a)) (has_name b (map f as')) h) [
      | inl e ↦ (a, has_front a as', sym (name_eq_same b (f a) e))
      | inr e ↦ let r = image_of f as' b e in (r.0, or_if_right (name_eq r.0 a) (has_name r.0 as') r.1, r.2)
    ]

same_at : (f g : Name → Name) (as' : List Name) → map f as' ≡ map g as' → (a : Name) → has_name a as' ≡ true → f a ≡ g a
same_at f g [] e a h = absurd (true≢false (sym h))
same_at f g (b ∷ bs) e a h =
    elim (or_cases (name_eq a b) (has_name a bs) h) [
      | inl i ↦ let s = name_eq_same a b i in ap f s ∙ head_same (f b) (g b) (map f bs) (map g bs) e ∙ ap g (sym s)
      | inr i ↦ same_at f g bs (tail_same (f b) (g b) (map f bs) (map g bs) e) a i
    ]
  where
    head_same : (x y : Name) (xs ys : List Name) → x ∷ xs ≡ y ∷ ys → x ≡ y
    head_same x y xs ys k = cc

    tail_same : (x y : Name) (xs ys : List Name) → x ∷ xs ≡ y ∷ ys → xs ≡ ys
    tail_same x y xs ys k = cc

map_twice : (f g : Name → Name) (as' : List Name) → map f (map g as') ≡ map (λ a. f (g a)) as'
map_twice f g [] = refl
map_twice f g (a ∷ as') = ap (λ l. f (g a) ∷ l) (map_twice f g as')

different_moved : (s : List Swap) (cs : List Name) → AreDifferent cs → AreDifferent (map (act_name s) cs)
different_moved s [] h = tt
different_moved s (c ∷ cs) h = (has_act s c cs ∙ h.0, different_moved s cs h.1)

-- Two permutations that leave some names and take others to names that are fresh for terms.
module _ (gs : List GroundTerm) (left others : List Name) (different : AreDifferent others) (apart : (b : Name) → has_name b left ≡ true → has_name b others ≡ false)
    (s t : List Swap) (s_leaves : (b : Name) → has_name b left ≡ true → act_name s b ≡ b) (t_leaves : (b : Name) → has_name b left ≡ true → act_name t b ≡ b)
    (s_fresh : (b : Name) → has_name b others ≡ true → FreshForTerms (act_name s b) gs) (t_fresh : (b : Name) → has_name b others ≡ true → FreshForTerms (act_name t b) gs) where
  abbrev cs : List Name
  cs = map (act_name s) others

  abbrev ds : List Name
  ds = map (act_name t) others

  abbrev bound : ℕ
  bound = beyond (left ++ grounds_names gs)

  abbrev between : List Name
  between = new_names cs (cs ++ ds) bound

  abbrev pub changing : List Swap
  changing = extension cs ds bound

  same_sorts : (as' : List Name) → AreOfSorts (map (act_name s) as') (map (act_name t) as')
  same_sorts [] = tt
  same_sorts (a ∷ as') = (act_sort t a ∙ sym (act_sort s a), same_sorts as')

  sorts_back : (xs ys : List Name) → AreOfSorts xs ys → AreOfSorts ys xs
  sorts_back [] [] h = tt
  sorts_back (x ∷ xs) (y ∷ ys) h = (sym h.0, sorts_back xs ys h.1)
  sorts_back _ _ h = absurd h

  sorts_on : (xs ys zs : List Name) → AreOfSorts xs ys → AreOfSorts xs zs → AreOfSorts ys zs
  sorts_on [] [] [] h k = tt
  sorts_on (x ∷ xs) (y ∷ ys) (z ∷ zs) h k = (k.0 ∙ sym h.0, sorts_on xs ys zs h.1 k.1)
  sorts_on [] [] (z ∷ zs) h k = absurd k
  sorts_on (x ∷ xs) (y ∷ ys) [] h k = absurd k
  sorts_on [] (y ∷ ys) zs h k = absurd h
  sorts_on (x ∷ xs) [] zs h k = absurd h

  goes : map (act_name changing) cs ≡ ds
  goes = extension_goes cs ds bound (same_sorts others) (different_moved s others different) (different_moved t others different)

  on_others : (a : Name) → has_name a others ≡ true → act_name t a ≡ act_name changing (act_name s a)
  on_others a h = sym (same_at (λ b. act_name changing (act_name s b)) (act_name t) others (sym (map_twice (act_name changing) (act_name s) others) ∙ goes) a h)

  left_low : (b : Name) → has_name b left ≡ true → b.num < bound
  left_low b h = beyond_each (left ++ grounds_names gs) b (has_name-append b left (grounds_names gs) ∙ or_if_left (has_name b left) (has_name b (grounds_names gs)) h)

  on_left : (b : Name) → has_name b left ≡ true → act_name t b ≡ act_name changing (act_name s b)
  on_left b h =
      let first = ap (λ (c : Name). has_name c cs) (sym (s_leaves b h)) ∙ has_act s b others ∙ apart b h in
      let second = ap (λ (c : Name). has_name c ds) (sym (t_leaves b h)) ∙ has_act t b others ∙ apart b h in
      t_leaves b h ∙ sym (ap (act_name changing) (s_leaves b h) ∙ extension_other cs ds bound b (same_sorts others) first second (left_low b h))

  -- it leaves the terms
  fresh_of : (p : List Swap) → ((b : Name) → has_name b others ≡ true → FreshForTerms (act_name p b) gs) → (g : GroundTerm) → IsAmong g gs
      → (a : Name) → has_name a (map (act_name p) others) ≡ true → fresh a g ≡ true
  fresh_of p h g i a k =
      let w = image_of (act_name p) others a k in
      fresh_among a g gs i (subst (λ (c : Name). FreshForTerms c gs) w.2 (h w.0 w.1))

  between_fresh : (g : GroundTerm) → IsAmong g gs → (a : Name) → has_name a between ≡ true → fresh a g ≡ true
  between_fresh g i a h =
      let high : bound ≤ a.num = new_names_high cs (cs ++ ds) bound a h in
      fresh_among a g gs i (absent_each a gs (false_if_not (has_name a (grounds_names gs)) (λ k.
      let low = beyond_each (left ++ grounds_names gs) a (has_name-append a left (grounds_names gs) ∙ or_if_right (has_name a left) (has_name a (grounds_names gs)) k) in
      absurd (omega (arith, high, low)))))

  leaves_terms : (g : GroundTerm) → IsAmong g gs → alpha (act_ground changing g) g ≡ true
  leaves_terms g i =
      let first = exchange cs between in
      let second = exchange between ds in
      let sorts = new_names_sorts cs (cs ++ ds) bound in
      ap (λ u. alpha u g) (act_ground-append second first g)
      ∙ alpha_trans (act_ground second (act_ground first g)) (act_ground second g) g
      (alpha_act second (act_ground first g) g ∙ exchange_leaves cs between g sorts (fresh_of s s_fresh g i) (between_fresh g i))
      (exchange_leaves between ds g (sorts_on cs between ds sorts (same_sorts others)) (between_fresh g i) (fresh_of t t_fresh g i))

-- INSTANCES

module _ (cs : List NominalConstructor) (locals : List NominalLocal) (a : NominalAnswer) (gs : List GroundTerm) where
  abbrev names : List Name
  names = local_names 0 locals

  abbrev others : List Name
  others = first_names names (names_of_answer a)

  is_other : (b : Name) → has_name b others ≡ true → (has_name b (names_of_answer a) ≡ true) × (has_name b names ≡ false)
  is_other b h = go (has_name b (names_of_answer a)) (has_name b names) (sym (has_first_names names (names_of_answer a) b) ∙ h)
    where
      go : (x y : Bool) → (x && not y) ≡ true → (x ≡ true) × (y ≡ false)
      go true false h = (refl, refl)
      go true true h = absurd (true≢false (sym h))
      go false y h = absurd (true≢false (sym h))

  apart_names : (b : Name) → has_name b names ≡ true → has_name b others ≡ false
  apart_names b h = false_if_not (has_name b others) (λ k. true≢false (sym h ∙ (is_other b k).1))

  -- what one such permutation makes an instance, each does
  pub instance_by_each : (s t : List Swap) → TakesApart locals a gs s → TakesApart locals a gs t → IsInstanceBy cs locals a gs s → IsInstanceBy cs locals a gs t
  instance_by_each s t h k i =
      let different = first_names_different names (names_of_answer a) in
      let fresh_by = λ (p : List Swap) (w : TakesApart locals a gs p) (b : Name) (m : has_name b others ≡ true). (let o = is_other b m in w.apart b o.0 o.1) in
      let r = changing gs names others different apart_names s t h.leaves k.leaves (fresh_by s h) (fresh_by t k) in
      let follows : Follows r s t (names_of_answer a) = λ b m. elim (has_name b names) as (λ v. has_name b names ≡ v → act_name t b ≡ act_name r (act_name s b)) [
        | true ↦ λ e. on_left gs names others different apart_names s t h.leaves k.leaves (fresh_by s h) (fresh_by t k) b e
        | false ↦ λ e. on_others gs names others different apart_names s t h.leaves k.leaves (fresh_by s h) (fresh_by t k) b
            (has_first_names names (names_of_answer a) b ∙ ap₂ (λ x y. x && not y) m e)
      ] refl in
      let in_binds : Follows r s t (names_of_terms a.binds) = λ b m. follows b (has_name-append b (names_of_terms a.binds) (map (λ c. c.name) a.conds) ∙ or_if_left (has_name b (names_of_terms a.binds)) (has_name b (map (λ c. c.name) a.conds)) m) in
      let in_conds : Follows r s t (map (λ c. c.name) a.conds) = λ b m. follows b (has_name-append b (names_of_terms a.binds) (map (λ c. c.name) a.conds) ∙ or_if_right (has_name b (names_of_terms a.binds)) (has_name b (map (λ c. c.name) a.conds)) m) in
      record {
        grounding = λ x. act_ground r (i.grounding x);
        types = gives_types_act cs r i.grounding a.vars i.types;
        conditions = ap (meets (λ x. act_ground r (i.grounding x))) (conds_follow r s t a.conds in_conds) ∙ meets_acted i.grounding r (map (replace_in_cond s) a.conds) i.conditions;
        equal = each_follows r s t i.grounding gs a.binds in_binds (leaves_terms gs names others different apart_names s t h.leaves k.leaves (fresh_by s h) (fresh_by t k)) i.equal;
      }

same_answer : (l : List ℕ) (a b : NominalAnswer) → answers.found l a ∷ [] ≡ answers.found l b ∷ [] → a ≡ b
same_answer l a b e = cc

not_stuck : (l k : List ℕ) (a : NominalAnswer) → answers.found l a ≡ answers.stuck k → ⊥
not_stuck l k a e = absurd (let o : answers.found l a ≡ answers.stuck k = e in cc)

pub each_exchange_covers : EachExchangeCovers
each_exchange_covers p restricted q typed depth gs types_of proof valid low a among swaps takes =
    let m = (0 + length q.locals) + length (kinds_in p q.goal proof) + beyond (names_of_answer a) in
    let w = taken_away p restricted q typed depth gs types_of proof valid low m (omega arith) in
    let alone = outputs_stand_alone p q depth (answers.found (path proof) a) among in
    let takes_too : TakesApart q.locals a gs w.swaps = record {
      leaves = w.leaves;
      apart = λ b h k. w.apart b (let l = beyond_each (names_of_answer a) b h in omega (arith, l)) k;
    } in
    elim w.covered [
      | inl c ↦
          let other = outputs_stand_alone p q depth (answers.found (path proof) c.0) c.1 in
          let same : c.0 ≡ a = same_answer (path proof) c.0 a (sym other.0 ∙ alone.0) in
          let here : IsInstanceBy p.signature.constructors q.locals a gs w.swaps = subst (λ (b : NominalAnswer). IsInstanceBy p.signature.constructors q.locals b gs w.swaps) same c.2 in
          instance_by_each p.signature.constructors q.locals a gs w.swaps swaps takes_too takes here
      | inr c ↦ absurd (not_stuck (path proof) c.0 a (alone.1 c.0 c.1 c.2))
    ]
