-- Heads of terms that are tested for freshness, or compared within binders.
use Rattle.std.proofs.Common.{◌≡◌, ◌<◌, ◌+◌, ℕ, suc, Bool, true, false, ◌==◌, ◌&&◌, List, [], ◌∷◌, ◌++◌, length, get_or, drop, refl, sym, ap, ap₂, ◌∙◌, add-one, arith}
use Rattle.std.proofs.Math.Seq.{drop-cons}
use Rattle.ap_defs.specs.declared.terms.Name.{Name}
use Rattle.ap_defs.specs.declared.terms.Swap.{Swap}
use Rattle.ap_defs.specs.Freshness.{Conds, alpha_under}
use Rattle.ap_defs.specs.Permutations.{inverse}
use Rattle.ap_defs.specs.Terms.{NominalTerm, abs, app, name, pair, unit}
use Rattle.ap_defs.specs.Unification.{size}
use Rattle.ap_theory.proofs.PermutationLemmas.{same_name_parts}
use Rattle.ap_theory.proofs.TermLemmas.{act_term_none, size_pos}
use Rattle.ap_theory.proofs.UnderLemmas.{alpha_under_itself}
use Rattle.std.specs.Prelude.{reverse}
use Rattle.ap_judge.specs.declared.equality.Compared.{Compared}
use Rattle.ap_judge.specs.Binders.{mean_same, within_left, within_right}
use Rattle.ap_judge.specs.Closures.{scoped_term}
use Rattle.ap_judge.specs.Comparisons.{are_alike, compared_size, mark_of}
use Rattle.ap_judge.specs.Stacks.{AreWithin, IsTestedThere, all_waiting}
use Rattle.ap_judge.proofs.StackLemmas.{left_none}
use Rattle.ap_judge.proofs.BinderLemmas.{alike_from, app_alike, known_alike, left_last, names_alike, pair_alike, right_last, shape, shapes_alike, sorts_alike, unit_alike}

module _ (ds : Conds) (ss : List Swap) where
  abbrev pub alike : NominalTerm → NominalTerm → Bool
  alike t u = alpha_under ds (within_left ss t) (within_right ss u)

  none_moved : (t u : NominalTerm) → alike_from ds ss [] t u ≡ alike t u
  none_moved t u = ap (alpha_under ds (within_left ss t)) (act_term_none (within_right ss u))

  pub units : alike unit unit ≡ true
  units = sym (none_moved unit unit) ∙ unit_alike ds ss []

  pub names : (a b : Name) → alike (name a) (name b) ≡ mean_same ss a b
  names a b = sym (none_moved (name a) (name b)) ∙ names_alike ds 0 ss [] a b

  pub pairs : (t u v w : NominalTerm) → alike (pair t u) (pair v w) ≡ (alike t v && alike u w)
  pairs t u v w = sym (none_moved (pair t u) (pair v w)) ∙ pair_alike ds ss [] t u v w ∙ ap₂ ◌&&◌ (none_moved t v) (none_moved u w)

  pub apps : (f g : ℕ) (t u : NominalTerm) → alike (app f t) (app g u) ≡ ((f == g) && alike t u)
  apps f g t u = sym (none_moved (app f t) (app g u)) ∙ app_alike ds ss [] f g t u ∙ ap (λ v. (f == g) && v) (none_moved t u)

  pub others : (t u : NominalTerm) → (shape t == shape u) ≡ false → alike t u ≡ false
  others t u h = sym (none_moved t u) ∙ shapes_alike ds ss [] t u h

  module _ (a b : Name) (t u : NominalTerm) where
    pub other_sorts : (a.sort == b.sort) ≡ false → alike (abs a t) (abs b u) ≡ false
    other_sorts h = sym (none_moved (abs a t) (abs b u)) ∙ sorts_alike ds ss [] a b t u h

    pub known_binders : mean_same ss a b ≡ true → alike (abs a t) (abs b u) ≡ alike t u
    known_binders h = sym (none_moved (abs a t) (abs b u)) ∙ known_alike ds 0 ss [] a b t u h ∙ none_moved t u

    -- they are one more pair
    pub new_binders : (s : Swap) → s ≡ record { sort = a.sort; left = a.num; right = b.num } → a.sort ≡ b.sort
        → alike (abs a t) (abs b u) ≡ alpha_under ds (within_left (ss ++ s ∷ []) t) (within_right (ss ++ s ∷ []) u)
    new_binders s e h =
        let c : Name = record { sort = a.sort; num = b.num } in
        let same : c ≡ b = same_name_parts c b h refl in
        ap (λ n. alike (abs a t) (abs n u)) (sym same)
        ∙ ap₂ (alpha_under ds) (sym (left_last ss (record { sort = a.sort; left = a.num; right = b.num }) t)) (sym (right_last ss (record { sort = a.sort; left = a.num; right = b.num }) u))
        ∙ ap (λ (z : Swap). alpha_under ds (within_left (ss ++ z ∷ []) t) (within_right (ss ++ z ∷ []) u)) (sym e)

-- the swappings so far, the last one first
pub in_front_more : (ss : List Swap) (i j : ℕ) (d : Swap) (before after : List Swap) → i ≡ j + 1 → j < length ss → d ≡ get_or ss j d → before ≡ inverse (drop i ss) → after ≡ before ++ d ∷ []
    → after ≡ inverse (drop j ss)
in_front_more ss i j d before after s h e k put =
    put ∙ ap (λ v. v ++ d ∷ []) (k ∙ ap (λ n. inverse (drop n ss)) (s ∙ add-one j)) ∙ ap inverse (sym (drop-cons ss j d h ∙ ap (λ w. w ∷ drop (suc j) ss) (sym e)))

pub some_size : (t : NominalTerm) → 0 < size t
some_size t = let least = size_pos t in omega (arith, least)

none_there : (ss : List Swap) → length ss ≡ 0 → ss ≡ []
none_there [] e = refl
none_there (s ∷ ss) e = absurd (omega (arith, e))

-- two that are one term, round which no binders stand
pub same_tested : (ds : Conds) (c : Compared) (bs : List Swap) (ps : List Compared) → AreWithin mark_of (length bs) (reverse ps) → length bs ≡ 0 → scoped_term c.left ≡ scoped_term c.right
    → IsTestedThere mark_of (are_alike ds) compared_size c bs ps bs ps true
same_tested ds c bs ps within none same =
    let t = scoped_term c.left in
    let equal : are_alike ds bs c ≡ true = ap (λ (ss : List Swap). are_alike ds ss c) (none_there bs none) ∙ ap (alpha_under ds t) (sym same) ∙ alpha_under_itself ds t in
    left_none mark_of (are_alike ds) compared_size c bs ps within equal (some_size t)

-- one was tested as another that stands for the same terms
pub tested_as : (ds : Conds) (c d : Compared) (bs cs : List Swap) (before after : List Compared) (yes : Bool) → scoped_term d.left ≡ scoped_term c.left → scoped_term d.right ≡ scoped_term c.right
    → IsTestedThere mark_of (are_alike ds) compared_size d bs before cs after yes → IsTestedThere mark_of (are_alike ds) compared_size c bs before cs after yes
tested_as ds c d bs cs before after true l r h =
    let same : are_alike ds bs d ≡ are_alike ds bs c = ap₂ (λ t u. alpha_under ds (within_left bs t) (within_right bs u)) l r in
    let sizes : compared_size d ≡ compared_size c = ap size l in
    record {
      all = h.all ∙ ap (λ b. b && all_waiting mark_of (are_alike ds) bs (reverse before)) same;
      within = h.within;
      less = omega (arith, h.less, sizes);
    }
tested_as ds c d bs cs before after false l r h = sym (ap₂ (λ t u. alpha_under ds (within_left bs t) (within_right bs u)) l r) ∙ h
