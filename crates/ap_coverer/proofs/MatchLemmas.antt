-- What terms match, step by step.
use Rattle.std.proofs.Common.{◌≡◌, ◌∙◌, ℕ, Bool, true, false, List, [], ◌∷◌, ◌++◌, map, refl, reverse, sym, ap, ap₂, true≢false}
use Rattle.std.proofs.lemmas.List.{reverse-append}
use Rattle.std.specs.Prelude.{if◌then◌else◌}
use Rattle.ap_cover.specs.Ground.{ground_terms, is_ground_term}
use Rattle.ap_cover.specs.Matched.{Pairs, given_by, matched, matched_each}
use Rattle.ap_defs.specs.declared.terms.Name.{Name}
use Rattle.ap_defs.specs.declared.terms.Swap.{Swap}
use Rattle.ap_defs.specs.declared.terms.Var.{Var}
use Rattle.ap_defs.specs.Freshness.{var_eq}
use Rattle.ap_defs.specs.Groundings.{Grounding}
use Rattle.ap_defs.specs.Permutations.{act_name, inverse, swap_of}
use Rattle.ap_defs.specs.Renaming.{replace_names, replace_swap}
use Rattle.ap_defs.specs.Terms as terms
use Rattle.ap_defs.specs.Terms.{GroundTerm, NominalTerm, act_ground, act_term, term_of}
use Rattle.ap_defs.specs.Typing.{embedded}
use Rattle.ap_theory.proofs.BooleanLemmas.{and_left, and_right}
use Rattle.ap_theory.proofs.GroundLemmas.{act_ground-append, act_ground_none}
use Rattle.ap_theory.proofs.PermutationLemmas.{inverse-append}
use Rattle.ap_instance.specs.Tables.{term_beside}
use Rattle.ap_instance.specs.declared.picks.Picks.{Picks}
use Rattle.ap_instance.proofs.TableLemmas.{beside_at, flipped}
use Rattle.ap_coverer.specs.Matches.{AddsPairs, gives, ground_term, matched_under}

given_both : (ps qs : Pairs) (f : Grounding) (x : Var) → given_by (ps ++ qs) f x ≡ given_by ps (given_by qs f) x
given_both [] qs f x = refl
given_both (v ∷ ps) qs f x = ap (λ r. if var_eq x v.0 then v.1 else r) (given_both ps qs f x)

gives_at : (p : Picks) (f g : Grounding) (y : Var) → f y ≡ g y → gives p f y ≡ gives p g y
gives_at p f g y e = beside_at p.vars.keys p.terms.items (λ z. embedded (f z)) (λ z. embedded (g z)) y (ap embedded e)

-- swappings on a term without variables
moved_ground : (q : List Swap) (t : NominalTerm) → is_ground_term t ≡ true → act_term q t ≡ embedded (act_ground q (ground_term t))
moved_ground q terms.unit h = refl
moved_ground q (terms.name a) h = refl
moved_ground q (terms.pair t u) h =
    ap₂ terms.pair (moved_ground q t (and_left (is_ground_term t) (is_ground_term u) h)) (moved_ground q u (and_right (is_ground_term t) (is_ground_term u) h))
moved_ground q (terms.app f t) h = ap (terms.app f) (moved_ground q t h)
moved_ground q (terms.abs a t) h = ap (terms.abs (act_name q a)) (moved_ground q t h)
moved_ground q (terms.susp p x) h = absurd (true≢false (sym h))

-- one variable more
pub adds_one : (p q : Picks) (x : Var) (t beside : NominalTerm) (s : List Swap) → t ≡ act_term s beside → is_ground_term beside ≡ true
    → ((other : Var → NominalTerm) (y : Var) → term_beside q.vars.keys q.terms.items other y ≡ term_beside p.vars.keys p.terms.items (λ z. if var_eq x z then t else other z) y)
    → AddsPairs ((x, act_ground s (ground_term beside)) ∷ []) p q
adds_one p q x t beside s made h added other y =
    let g = act_ground s (ground_term beside) in
    added (λ z. embedded (other z)) y
    ∙ beside_at p.vars.keys p.terms.items (λ z. if var_eq x z then t else embedded (other z)) (λ z. embedded (if var_eq z x then g else other z)) y
    (ap (λ b. if b then t else embedded (other y)) (flipped x y) ∙ ap (λ u. if var_eq y x then u else embedded (other y)) (made ∙ moved_ground s beside h) ∙ inside (var_eq y x) g (other y))
  where
    inside : (b : Bool) (g u : GroundTerm) → (if b then embedded g else embedded u) ≡ embedded (if b then g else u)
    inside true g u = refl
    inside false g u = refl

module _ (swaps : List Swap) where
  -- what is left to be added, to come to the same
  abbrev pub LeftTo : (F : Grounding → Var → NominalTerm) → Picks → NominalTerm → List Swap → NominalTerm → Type 0
  LeftTo F p t acting u = (other : Grounding) (y : Var) → gives p (given_by (matched_under swaps t acting u) other) y ≡ F other y

  module _ (F : Grounding → Var → NominalTerm) where
    pub left_pair : (w v t u g h : NominalTerm) (acting : List Swap) (p q : Picks) → w ≡ terms.pair t u → v ≡ terms.pair g h → AddsPairs (matched_under swaps t acting g) p q
        → LeftTo F p w acting v → LeftTo F q u acting h
    left_pair w v t u g h acting p q e k added before other y =
        let l = matched_under swaps t acting g in
        let r = matched_under swaps u acting h in
        let whole : l ++ r ≡ matched_under swaps w acting v = sym (ap₂ (λ a b. matched_under swaps a acting b) e k) in
        added (given_by r other) y
        ∙ gives_at p (given_by l (given_by r other)) (given_by (matched_under swaps w acting v) other) y (sym (given_both l r other y) ∙ ap (λ ps. given_by ps other y) whole)
        ∙ before other y

    pub left_app : (w v t g : NominalTerm) (m n : ℕ) (acting : List Swap) (p : Picks) → w ≡ terms.app m t → v ≡ terms.app n g → LeftTo F p w acting v → LeftTo F p t acting g
    left_app w v t g m n acting p e k before other y =
        ap (λ ps. gives p (given_by ps other) y) (sym (ap₂ (λ a b. matched_under swaps a acting b) e k)) ∙ before other y

    pub left_abs : (w v t g : NominalTerm) (a b : Name) (acting inner : List Swap) (p : Picks) → w ≡ terms.abs a t → v ≡ terms.abs b g
        → inner ≡ acting ++ swap_of (act_name swaps a) (act_name (inverse acting) b) ∷ [] → LeftTo F p w acting v → LeftTo F p t inner g
    left_abs w v t g a b acting inner p e k i before other y =
        let s = swap_of (act_name swaps a) (act_name (inverse acting) b) in
        let under : act_ground (inverse inner) (ground_term g) ≡ act_ground (s ∷ []) (act_ground (inverse acting) (ground_term g)) =
        ap (λ (l : List Swap). act_ground (inverse l) (ground_term g)) i ∙ ap (λ (l : List Swap). act_ground l (ground_term g)) (inverse-append acting (s ∷ []))
        ∙ act_ground-append (s ∷ []) (inverse acting) (ground_term g) in
        let same : matched_under swaps t inner g ≡ matched_under swaps w acting v =
        ap (matched (replace_names swaps t)) under ∙ sym (ap₂ (λ x z. matched_under swaps x acting z) e k) in
        ap (λ ps. gives p (given_by ps other) y) same ∙ before other y

    -- and the ends
    pub left_susp : (w v : NominalTerm) (waiting acting undone : List Swap) (x : Var) (p q : Picks) → w ≡ terms.susp waiting x
        → undone ≡ inverse (map (replace_swap swaps) waiting) ++ inverse acting
        → AddsPairs ((x, act_ground undone (ground_term v)) ∷ []) p q → LeftTo F p w acting v → (other : Grounding) (y : Var) → gives q other y ≡ F other y
    left_susp w v waiting acting undone x p q e u added before other y =
        let back = inverse (map (replace_swap swaps) waiting) in
        let same : (x, act_ground undone (ground_term v)) ∷ [] ≡ matched_under swaps w acting v =
        ap (λ g. (x, g) ∷ []) (ap (λ (l : List Swap). act_ground l (ground_term v)) u ∙ act_ground-append back (inverse acting) (ground_term v))
        ∙ sym (ap (λ t. matched_under swaps t acting v) e) in
        added other y ∙ ap (λ ps. gives p (given_by ps other) y) same ∙ before other y

    pub left_none : (w v : NominalTerm) (acting : List Swap) (p : Picks) → matched_under swaps w acting v ≡ [] → LeftTo F p w acting v
        → (other : Grounding) (y : Var) → gives p other y ≡ F other y
    left_none w v acting p e before other y = ap (λ (ps : Pairs). gives p (given_by ps other) y) (sym e) ∙ before other y

  -- one term more
  pub left_each : (F : Grounding → Var → NominalTerm) (ts us others more : List NominalTerm) (t u : NominalTerm) (p q : Picks) → ts ≡ t ∷ others → us ≡ u ∷ more
      → AddsPairs (matched_under swaps t [] u) p q
      → ((other : Grounding) (y : Var) → gives p (given_by (matched_each (map (replace_names swaps) ts) (ground_terms us)) other) y ≡ F other y)
      → (other : Grounding) (y : Var) → gives q (given_by (matched_each (map (replace_names swaps) others) (ground_terms more)) other) y ≡ F other y
  left_each F ts us others more t u p q e k added before other y =
      let l = matched_under swaps t [] u in
      let r = matched_each (map (replace_names swaps) others) (ground_terms more) in
      let whole = matched_each (map (replace_names swaps) ts) (ground_terms us) in
      let front : l ≡ matched (replace_names swaps t) (ground_term u) = ap (matched (replace_names swaps t)) (act_ground_none (ground_term u)) in
      let same : l ++ r ≡ whole = ap (λ ps. ps ++ r) front ∙ sym (ap₂ (λ a b. matched_each (map (replace_names swaps) a) (ground_terms b)) e k) in
      added (given_by r other) y
      ∙ gives_at p (given_by l (given_by r other)) (given_by whole other) y (sym (given_both l r other y) ∙ ap (λ ps. given_by ps other y) same)
      ∙ before other y

pub reverse_inverse : (p : List Swap) → reverse p ≡ inverse p
reverse_inverse [] = refl
reverse_inverse (s ∷ p) = reverse-append (s ∷ []) p ∙ ap (λ q. q ++ s ∷ []) (reverse_inverse p)
