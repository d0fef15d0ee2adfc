-- What a tree of paths has below a path, and among how many it chooses there.
use Rattle.std.proofs.Common.{subst, ◌≡◌, ◌≢◌, ◌⊎◌, ◌<◌, ◌≤◌, ℕ, suc, Bool, true, false, ◌&&◌, List, [], ◌∷◌, ◌++◌, map, refl, sym, ap, ap₂, ◌∙◌, append-nil, append_assoc, arith, inl, inr, true≢false, ◌↔◌}
use Rattle.std.specs.Prelude.{Option, Some, None, option_map, if◌then◌else◌, ◌==◌}
use Rattle.ap_defs.specs.Answers.{out_path}
use Rattle.ap_defs.specs.PathOrder.{has_prefix}
use Rattle.ap_defs.specs.Paths.{Choice, HasChoice, Mark, here, later}
use Rattle.ap_defs.specs.Resolution as search
use Rattle.ap_defs.specs.Types.{NominalLocal}
use Rattle.ap_paths.specs.Trees.{Ascends, AreAtMost, Outputs, joined_below, times}
use Rattle.ap_theory.proofs.BooleanLemmas.{and_both, and_left, and_right}
use Rattle.ap_theory.proofs.TermLemmas.{number_same, same_number}
use Rattle.ap_search.specs.Marks.{NominalMark, out, choice, mark_in, mark_path, outs_among, widths_at}
use Rattle.ap_search.specs.PathTrees.{Forest, HasKept, IsPruned, PathTree, at_path, first_of, flat, flat_from, grow, leaf, node, none, nothing, width, choice_at}
use Rattle.ap_search.specs.Prefixes.{AllBegin, beginning}
use Rattle.ap_search.proofs.ChoiceLemmas.{beginning_first, beginning_second, widths-append, widths_none}
use Rattle.ap_search.proofs.MarkLemmas.{outs_among-append}
use Rattle.ap_search.proofs.PrefixLemmas.{beginning-append, beginning_deeper, beginning_other, beginning_whole, prefix_itself}
use Rattle.ap_search.proofs.TreeLemmas.{flat_begins, flat_some, path_at, sub, sub_from}

-- the choice of a node
abbrev of_node : List ℕ → Forest → Choice
of_node ks f = record { width = width f; kept = ks }

prefix_too_long : (p : List ℕ) (k : ℕ) (q : List ℕ) → has_prefix (p ++ k ∷ q) p ≡ false
prefix_too_long [] k q = refl
prefix_too_long (l ∷ p) k q = ap₂ ◌&&◌ (same_number l l refl) (prefix_too_long p k q)

prefix_both : (p q : List ℕ) → has_prefix p q ≡ true → has_prefix q p ≡ true → p ≡ q
prefix_both [] [] h k = refl
prefix_both [] (j ∷ q) h k = absurd (true≢false (sym k))
prefix_both (i ∷ p) [] h k = absurd (true≢false (sym h))
prefix_both (i ∷ p) (j ∷ q) h k =
    ap₂ ◌∷◌ (number_same i j (and_left (i == j) (has_prefix p q) h)) (prefix_both p q (and_right (i == j) (has_prefix p q) h) (and_right (j == i) (has_prefix q p) k))

-- what goes on by i has nothing below another way
other_way : (p : List ℕ) (i k : ℕ) (q : List ℕ) (ms : List NominalMark) → i ≢ k → AllBegin mark_path (p ++ i ∷ []) ms → beginning mark_path (p ++ k ∷ q) ms ≡ []
other_way p i k q ms n h =
    let e : (p ++ k ∷ []) ++ q ≡ p ++ k ∷ q = append_assoc p (k ∷ []) q in
    ap (λ r. beginning mark_path r ms) (sym e) ∙ sym (beginning_deeper mark_path (p ++ k ∷ []) q ms)
    ∙ ap (beginning mark_path ((p ++ k ∷ []) ++ q)) (beginning_other mark_path p i k ms n h)

earlier_way : (p : List ℕ) (i k : ℕ) (q : List ℕ) (f : Forest) → k < i → beginning mark_path (p ++ k ∷ q) (flat_from p i f) ≡ []
earlier_way p i k q none l = refl
earlier_way p i k q (grow t f) l =
    beginning-append mark_path (p ++ k ∷ q) (flat (p ++ i ∷ []) t) (flat_from p (suc i) f)
    ∙ ap₂ ◌++◌ (other_way p i k q (flat (p ++ i ∷ []) t) (λ e. omega arith) (flat_begins (p ++ i ∷ []) t)) (earlier_way p (suc i) k q f (omega arith))

here_flat : (p : List ℕ) (t : PathTree) → beginning mark_path (p ++ []) (flat p t) ≡ flat (p ++ []) t
here_flat p t = ap (λ r. beginning mark_path r (flat p t)) (append-nil p) ∙ beginning_whole mark_path p (flat p t) (flat_begins p t) ∙ ap (λ r. flat r t) (sym (append-nil p))

-- the subtree at the root is the tree
root_sub : (t u : PathTree) → sub t [] ≡ Some u → t ≡ u
root_sub nothing u e = cc
root_sub (leaf l) u e = cc
root_sub (node ks f) u e = cc

-- what is below a path is the subtree there
mutual
  pub flat_sub : (p : List ℕ) (t : PathTree) (q : List ℕ) → beginning mark_path (p ++ q) (flat p t) ≡ flat_some (p ++ q) (sub t q)
  flat_sub p nothing [] = refl
  flat_sub p nothing (k ∷ q) = refl
  flat_sub p (leaf l) [] = here_flat p (leaf l)
  flat_sub p (leaf l) (k ∷ q) = ap (λ b. if b then (out (at_path p l) ∷ []) else []) (ap (has_prefix (p ++ k ∷ q)) (path_at p l) ∙ prefix_too_long p k q)
  flat_sub p (node ks f) [] = here_flat p (node ks f)
  flat_sub p (node ks f) (k ∷ q) =
      ap (λ b. if b then (choice p (of_node ks f) ∷ beginning mark_path (p ++ k ∷ q) (flat_from p 1 f)) else beginning mark_path (p ++ k ∷ q) (flat_from p 1 f)) (prefix_too_long p k q)
      ∙ flat_sub_from p f 1 k q

  flat_sub_from : (p : List ℕ) (f : Forest) (i k : ℕ) (q : List ℕ) → beginning mark_path (p ++ k ∷ q) (flat_from p i f) ≡ flat_some (p ++ k ∷ q) (sub_from i f k q)
  flat_sub_from p none i k q = refl
  flat_sub_from p (grow t f) i k q =
      beginning-append mark_path (p ++ k ∷ q) (flat (p ++ i ∷ []) t) (flat_from p (suc i) f)
      ∙ elim (k == i) as (λ b. (k == i) ≡ b → beginning mark_path (p ++ k ∷ q) (flat (p ++ i ∷ []) t) ++ beginning mark_path (p ++ k ∷ q) (flat_from p (suc i) f) ≡ flat_some (p ++ k ∷ q) (if b then sub t q else sub_from (suc i) f k q)) [
        | true ↦ λ e.
            let same : k ≡ i = number_same k i e in
            let path : (p ++ i ∷ []) ++ q ≡ p ++ k ∷ q = append_assoc p (i ∷ []) q ∙ ap (λ j. p ++ j ∷ q) (sym same) in
            ap₂ ◌++◌
            (ap (λ r. beginning mark_path r (flat (p ++ i ∷ []) t)) (sym path) ∙ flat_sub (p ++ i ∷ []) t q ∙ ap (λ r. flat_some r (sub t q)) path)
            (earlier_way p (suc i) k q f (omega arith))
            ∙ append-nil (flat_some (p ++ k ∷ q) (sub t q))
        | false ↦ λ e. ap₂ ◌++◌ (other_way p i k q (flat (p ++ i ∷ []) t) (λ same. true≢false (sym (same_number k i (sym same)) ∙ e)) (flat_begins (p ++ i ∷ []) t)) (flat_sub_from p f (suc i) k q)
      ] refl

-- Widths.
pub widths_below : (p : List ℕ) (ms : List NominalMark) → widths_at p (beginning mark_path p ms) ≡ widths_at p ms
widths_below p [] = refl
widths_below p (out o ∷ ms) =
    elim (has_prefix p (out_path o)) as (λ b. widths_at p (if b then (out o ∷ beginning mark_path p ms) else beginning mark_path p ms) ≡ widths_at p ms) [
      | true ↦ widths_below p ms
      | false ↦ widths_below p ms
    ]
widths_below p (choice q w ∷ ms) =
    elim (has_prefix p q) as (λ b. has_prefix p q ≡ b → widths_at p (if b then (choice q w ∷ beginning mark_path p ms) else beginning mark_path p ms) ≡ (if b && has_prefix q p then (w ∷ widths_at p ms) else widths_at p ms)) [
      | true ↦ λ e. ap (λ b. if b && has_prefix q p then (w ∷ widths_at p (beginning mark_path p ms)) else widths_at p (beginning mark_path p ms)) e ∙ ap (λ l. if has_prefix q p then (w ∷ l) else l) (widths_below p ms)
      | false ↦ λ e. widths_below p ms
    ] refl

widths_from : (p : List ℕ) (i : ℕ) (f : Forest) → widths_at p (flat_from p i f) ≡ []
widths_from p i none = refl
widths_from p i (grow t f) =
    widths-append p (flat (p ++ i ∷ []) t) (flat_from p (suc i) f) ∙ ap₂ ◌++◌ (widths_none p i (flat (p ++ i ∷ []) t) (flat_begins (p ++ i ∷ []) t)) (widths_from p (suc i) f)

abbrev pub widths_of : Option PathTree → List Choice
widths_of None = []
widths_of (Some nothing) = []
widths_of (Some (leaf l)) = []
widths_of (Some (node ks f)) = of_node ks f ∷ []

widths_flat : (p : List ℕ) (o : Option PathTree) → widths_at p (flat_some p o) ≡ widths_of o
widths_flat p None = refl
widths_flat p (Some nothing) = refl
widths_flat p (Some (leaf l)) = refl
widths_flat p (Some (node ks f)) =
    ap (λ b. if b then (of_node ks f ∷ widths_at p (flat_from p 1 f)) else widths_at p (flat_from p 1 f)) (and_both (has_prefix p p) (has_prefix p p) (prefix_itself p) (prefix_itself p))
    ∙ ap (λ l. of_node ks f ∷ l) (widths_from p 1 f)

-- the widths at a path are that of the subtree there
pub widths_sub : (t : PathTree) (p : List ℕ) → widths_at p (flat [] t) ≡ widths_of (sub t p)
widths_sub t p = sym (widths_below p (flat [] t)) ∙ ap (widths_at p) (flat_sub [] t p) ∙ widths_flat p (sub t p)

-- What is below the ways of a choice, joined.
join_from : (at : Outputs) (p : List ℕ) (i : ℕ) (f : Forest)
    → ((k : ℕ) → i ≤ k → at (p ++ k ∷ []) ≡ outs_among (beginning mark_path (p ++ k ∷ []) (flat_from p i f))) → outs_among (flat_from p i f) ≡ joined_below at p i (width f)
join_from at p i none h = refl
join_from at p i (grow t f) h =
    let begins = flat_begins (p ++ i ∷ []) t in
    outs_among-append (flat (p ++ i ∷ []) t) (flat_from p (suc i) f)
    ∙ ap₂ ◌++◌
    (sym (h i (omega arith) ∙ ap outs_among (beginning_first mark_path p i (flat (p ++ i ∷ []) t) (flat_from p (suc i) f) begins (earlier_way p (suc i) i [] f (omega arith)))))
    (join_from at p (suc i) f (λ k l. h k (omega arith) ∙ ap outs_among (beginning_second mark_path p i k (flat (p ++ i ∷ []) t) (flat_from p (suc i) f) (λ e. omega arith) begins)))

first_width : (o : Option PathTree) (w : ℕ) → option_map (λ (c : Choice). c.width) (first_of (widths_of o)) ≡ Some w
    → (ks : List ℕ) × (f : Forest) × (o ≡ Some (node ks f)) × (width f ≡ w)
first_width None w h = cc
first_width (Some nothing) w h = cc
first_width (Some (leaf l)) w h = cc
first_width (Some (node ks f)) w h = (ks, f, refl, (cc))

pub join_tree : (t : PathTree) (p : List ℕ) (w : ℕ) → option_map (λ (c : Choice). c.width) (choice_at p (flat [] t)) ≡ Some w
    → outs_among (beginning mark_path p (flat [] t)) ≡ joined_below (λ r. outs_among (beginning mark_path r (flat [] t))) p 1 w
join_tree t p w h =
    let found = first_width (sub t p) w (ap (λ (cs : List Choice). option_map (λ (c : Choice). c.width) (first_of cs)) (sym (widths_sub t p)) ∙ h) in
    let ks = found.0 in
    let f = found.1 in
    let below : beginning mark_path p (flat [] t) ≡ flat p (node ks f) = flat_sub [] t p ∙ ap (flat_some p) found.2 in
    ap outs_among below
    ∙ join_from (λ r. outs_among (beginning mark_path r (flat [] t))) p 1 f
    (λ k l. ap outs_among (sym (beginning_deeper mark_path p (k ∷ []) (flat [] t)) ∙ ap (beginning mark_path (p ++ k ∷ [])) below
    ∙ ap (λ b. if b then (choice p (of_node ks f) ∷ beginning mark_path (p ++ k ∷ []) (flat_from p 1 f)) else beginning mark_path (p ++ k ∷ []) (flat_from p 1 f)) (prefix_too_long p k [])))
    ∙ ap (joined_below (λ r. outs_among (beginning mark_path r (flat [] t))) p 1) found.3

-- What is left out.
mutual
  pruned_sub : (t : PathTree) (p : List ℕ) (u : PathTree) → IsPruned t → sub t p ≡ Some u → IsPruned u
  pruned_sub t [] u h e = subst IsPruned (root_sub t u e) h
  pruned_sub nothing (k ∷ p) u h e = absurd cc
  pruned_sub (leaf l) (k ∷ p) u h e = absurd cc
  pruned_sub (node ks f) (k ∷ p) u h e = pruned_sub_from ks 1 f k p u h.2 e

  pruned_sub_from : (ks : List ℕ) (i : ℕ) (f : Forest) (k : ℕ) (p : List ℕ) (u : PathTree) → HasKept ks i f → sub_from i f k p ≡ Some u → IsPruned u
  pruned_sub_from ks i none k p u h e = absurd cc
  pruned_sub_from ks i (grow t f) k p u h e =
      elim (k == i) as (λ b. (if b then sub t p else sub_from (suc i) f k p) ≡ Some u → IsPruned u) [
        | true ↦ pruned_sub t p u h.1
        | false ↦ pruned_sub_from ks (suc i) f k p u h.2
      ] e

-- below a way that is left out there is nothing
nothing_below : (p ks : List ℕ) (i : ℕ) (f : Forest) (k : ℕ) → HasKept ks i f → times k ks ≡ 0 → flat_some p (sub_from i f k []) ≡ []
nothing_below p ks i none k h e = refl
nothing_below p ks i (grow t f) k h e =
    elim (k == i) as (λ b. (k == i) ≡ b → flat_some p (if b then sub t [] else sub_from (suc i) f k []) ≡ []) [
      | true ↦ λ same. ap (λ u. flat_some p (sub u [])) (h.0 (ap (λ j. times j ks) (sym (number_same k i same)) ∙ e))
      | false ↦ λ other. nothing_below p ks (suc i) f k h.2 e
    ] refl

module _ (t : PathTree) (pruned : IsPruned t) (p ks : List ℕ) (e : option_map (λ (c : Choice). c.kept) (choice_at p (flat [] t)) ≡ Some ks) where
  -- the node at a choice
  kept_node : (f : Forest) × (sub t p ≡ Some (node ks f)) × IsPruned (node ks f)
  kept_node = of (sub t p) refl (ap (λ (cs : List Choice). option_map (λ (c : Choice). c.kept) (first_of cs)) (sym (widths_sub t p)) ∙ e)
    where
      of : (o : Option PathTree) → sub t p ≡ o → option_map (λ (c : Choice). c.kept) (first_of (widths_of o)) ≡ Some ks → (f : Forest) × (sub t p ≡ Some (node ks f)) × IsPruned (node ks f)
      of None there h = absurd cc
      of (Some nothing) there h = absurd cc
      of (Some (leaf l)) there h = absurd cc
      of (Some (node js f)) there h =
          let same : js ≡ ks = cc in
          let it = there ∙ ap (λ (l : List ℕ). Some (node l f)) same in
          (f, it, pruned_sub t p (node ks f) pruned it)

  pub left_out_below : (k : ℕ) → times k ks ≡ 0 → beginning mark_path (p ++ k ∷ []) (flat [] t) ≡ []
  left_out_below k left =
      let it = kept_node in
      sym (beginning_deeper mark_path p (k ∷ []) (flat [] t))
      ∙ ap (beginning mark_path (p ++ k ∷ [])) (flat_sub [] t p ∙ ap (flat_some p) it.1)
      ∙ flat_sub p (node ks it.0) (k ∷ []) ∙ nothing_below (p ++ k ∷ []) ks 1 it.0 k it.2.2 left

  pub kept_in_order : (w : ℕ) × (option_map (λ (c : Choice). c.width) (choice_at p (flat [] t)) ≡ Some w) × Ascends 1 ks × AreAtMost w ks
  kept_in_order =
      let it = kept_node in
      (width it.0, ap (λ (cs : List Choice). option_map (λ (c : Choice). c.width) (first_of cs)) (widths_sub t p ∙ ap widths_of it.1), it.2.0, it.2.1)

-- Choices among marks.
abbrev IsAmong : Choice → List Choice → Type 0
IsAmong w [] = ⊥
IsAmong w (v ∷ vs) = (w ≡ v) ⊎ IsAmong w vs

module _ (locals : List NominalLocal) where
  among_widths : (p : List ℕ) (w : Choice) (ms : List Mark) → HasChoice ms p w → IsAmong w (widths_at p (map (mark_in locals) ms))
  among_widths p w _ (here {ms}) =
      subst (λ (b : Bool). IsAmong w (if b then (w ∷ widths_at p (map (mark_in locals) ms)) else widths_at p (map (mark_in locals) ms)))
      (sym (and_both (has_prefix p p) (has_prefix p p) (prefix_itself p) (prefix_itself p))) (inl refl)
  among_widths p w _ (later {m = search.found q s d} {ms} h) = among_widths p w ms h
  among_widths p w _ (later {m = search.cut q} {ms} h) = among_widths p w ms h
  among_widths p w _ (later {m = search.stuck q} {ms} h) = among_widths p w ms h
  among_widths p w _ (later {m = search.chose q v} {ms} h) =
      elim (has_prefix p q && has_prefix q p) as (λ b. IsAmong w (if b then (v ∷ widths_at p (map (mark_in locals) ms)) else widths_at p (map (mark_in locals) ms))) [
        | true ↦ inr (among_widths p w ms h)
        | false ↦ among_widths p w ms h
      ]

  pub choice_from : (p : List ℕ) (w : Choice) (ms : List Mark) → choice_at p (map (mark_in locals) ms) ≡ Some w → HasChoice ms p w
  choice_from p w [] h = cc
  choice_from p w (search.found q s d ∷ ms) h = later (choice_from p w ms h)
  choice_from p w (search.cut q ∷ ms) h = later (choice_from p w ms h)
  choice_from p w (search.stuck q ∷ ms) h = later (choice_from p w ms h)
  choice_from p w (search.chose q v ∷ ms) h =
      elim (has_prefix p q && has_prefix q p) as (λ b. (has_prefix p q && has_prefix q p) ≡ b → first_of (if b then (v ∷ widths_at p (map (mark_in locals) ms)) else widths_at p (map (mark_in locals) ms)) ≡ Some w → HasChoice (search.chose q v ∷ ms) p w) [
        | true ↦ λ e k.
            let same : p ≡ q = prefix_both p q (and_left (has_prefix p q) (has_prefix q p) e) (and_right (has_prefix p q) (has_prefix q p) e) in
            let number : v ≡ w = cc in
            subst (λ (n : Choice). HasChoice (search.chose q v ∷ ms) p n) number (subst (λ (r : List ℕ). HasChoice (search.chose r v ∷ ms) p v) same here)
        | false ↦ λ e k. later (choice_from p w ms k)
      ] refl h

  among_first : (w : Choice) (o : Option PathTree) → IsAmong w (widths_of o) → first_of (widths_of o) ≡ Some w
  among_first w None h = absurd h
  among_first w (Some nothing) h = absurd h
  among_first w (Some (leaf l)) h = absurd h
  among_first w (Some (node ks f)) (inl e) = ap Some (sym e)
  among_first w (Some (node ks f)) (inr h) = absurd h

  pub choice_tells : (t : PathTree) (ms : List Mark) → map (mark_in locals) ms ≡ flat [] t → (p : List ℕ) (w : Choice) → HasChoice ms p w ↔ (choice_at p (map (mark_in locals) ms) ≡ Some w)
  choice_tells t ms e p w =
      let known : widths_at p (map (mark_in locals) ms) ≡ widths_of (sub t p) = ap (widths_at p) e ∙ widths_sub t p in
      ((λ h. ap first_of known ∙ among_first w (sub t p) (subst (IsAmong w) known (among_widths p w ms h))), (λ h. choice_from p w ms h))
