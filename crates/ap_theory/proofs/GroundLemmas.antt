-- Laws of ground terms. A ground term is a term without variables, so that most follows from what is proved of terms.
use Rattle.std.proofs.Common.{subst, ◌≡◌, ◌≢◌, true, ◌&&◌, ◌||◌, not, List, [], ◌∷◌, ◌++◌, refl, sym, ap, ap₂, ◌∙◌, ◌↔◌}
use Rattle.std.specs.Prelude.{if◌then◌else◌, ◌==◌}
use Rattle.std.specs.List.{list_all}
use Rattle.ap_defs.specs.Alpha.{alpha, fresh}
use Rattle.ap_defs.specs.Freshness.{Conds, alpha_under, fresh_under}
use Rattle.ap_defs.specs.Permutations.{IsSamePerm, act_name, disagreement, inverse, name_eq, swap_of}
use Rattle.ap_defs.specs.Terms.{GroundTerm, NominalTerm, abs, act_ground, act_term, app, name, pair, unit}
use Rattle.ap_defs.specs.declared.terms.Name.{Name}
use Rattle.ap_defs.specs.declared.terms.Swap.{Swap}
use Rattle.ap_theory.specs.Contexts.{Context, Equal, Fresh, listed_context}
use Rattle.ap_theory.proofs.BooleanLemmas.{same_test}
use Rattle.ap_theory.proofs.DisagreementLemmas.{differing_disagree, disagree_differing, each_list_all, list_all_each}
use Rattle.ap_theory.proofs.EqualityLemmas.{Equal_act_act, Equal_equivariant, Equal_itself, Equal_swap_fresh, Equal_sym, Equal_trans, Fresh_both}
use Rattle.ap_theory.proofs.LogicLemmas.{iff_same, iff_sym, iff_trans, same_if}
use Rattle.ap_theory.proofs.PermutationLemmas.{act-append, act_inverse, inverse_act, name_eq_act}
use Rattle.ap_theory.proofs.TestLemmas.{alpha_under_iff, fresh_under_iff}

pub act_ground-append : (p q : List Swap) (t : GroundTerm) → act_ground (p ++ q) t ≡ act_ground p (act_ground q t)
act_ground-append p q unit = refl
act_ground-append p q (name a) = ap name (act-append p q a)
act_ground-append p q (pair t u) = ap₂ pair (act_ground-append p q t) (act_ground-append p q u)
act_ground-append p q (app f t) = ap (app f) (act_ground-append p q t)
act_ground-append p q (abs a t) = ap₂ abs (act-append p q a) (act_ground-append p q t)

-- equal permutations act alike
pub act_ground_same : (p q : List Swap) → IsSamePerm p q → (t : GroundTerm) → act_ground p t ≡ act_ground q t
act_ground_same p q h unit = refl
act_ground_same p q h (name a) = ap name (h a)
act_ground_same p q h (pair t u) = ap₂ pair (act_ground_same p q h t) (act_ground_same p q h u)
act_ground_same p q h (app f t) = ap (app f) (act_ground_same p q h t)
act_ground_same p q h (abs a t) = ap₂ abs (h a) (act_ground_same p q h t)

pub act_ground_none : (t : GroundTerm) → act_ground [] t ≡ t
act_ground_none unit = refl
act_ground_none (name a) = refl
act_ground_none (pair t u) = ap₂ pair (act_ground_none t) (act_ground_none u)
act_ground_none (app f t) = ap (app f) (act_ground_none t)
act_ground_none (abs a t) = ap (abs a) (act_ground_none t)

pub inverse_act_ground : (p : List Swap) (t : GroundTerm) → act_ground (inverse p) (act_ground p t) ≡ t
inverse_act_ground p t = sym (act_ground-append (inverse p) p t) ∙ act_ground_same (inverse p ++ p) [] (λ a. act-append (inverse p) p a ∙ inverse_act p a) t ∙ act_ground_none t

pub fresh_act : (p : List Swap) (a : Name) (t : GroundTerm) → fresh (act_name p a) (act_ground p t) ≡ fresh a t
fresh_act p a unit = refl
fresh_act p a (name b) = ap not (name_eq_act p a b)
fresh_act p a (pair t u) = ap₂ ◌&&◌ (fresh_act p a t) (fresh_act p a u)
fresh_act p a (app f t) = fresh_act p a t
fresh_act p a (abs b t) = ap₂ ◌||◌ (name_eq_act p a b) (fresh_act p a t)

pub fresh_moved : (p : List Swap) (a : Name) (t : GroundTerm) → fresh a (act_ground p t) ≡ fresh (act_name (inverse p) a) t
fresh_moved p a t = ap (λ x. fresh x (act_ground p t)) (sym (act_inverse p a)) ∙ fresh_act p (act_name (inverse p) a) t

-- the term without variables
abbrev pub embed : GroundTerm → NominalTerm
embed unit = unit
embed (name a) = name a
embed (pair t u) = pair (embed t) (embed u)
embed (app f t) = app f (embed t)
embed (abs a t) = abs a (embed t)

pub embed_act : (p : List Swap) (t : GroundTerm) → embed (act_ground p t) ≡ act_term p (embed t)
embed_act p unit = refl
embed_act p (name a) = refl
embed_act p (pair t u) = ap₂ pair (embed_act p t) (embed_act p u)
embed_act p (app f t) = ap (app f) (embed_act p t)
embed_act p (abs a t) = ap (abs (act_name p a)) (embed_act p t)

-- of ground terms, freshness and equality under conditions are freshness and equality
pub fresh_embed : (ds : Conds) (a : Name) (t : GroundTerm) → fresh a t ≡ fresh_under ds a (embed t)
fresh_embed ds a unit = refl
fresh_embed ds a (name b) = refl
fresh_embed ds a (pair t u) = ap₂ ◌&&◌ (fresh_embed ds a t) (fresh_embed ds a u)
fresh_embed ds a (app f t) = fresh_embed ds a t
fresh_embed ds a (abs b t) = ap (λ x. name_eq a b || x) (fresh_embed ds a t)

pub alpha_embed : (ds : Conds) (t u : GroundTerm) → alpha t u ≡ alpha_under ds (embed t) (embed u)
alpha_embed ds unit unit = refl
alpha_embed ds (name a) (name b) = refl
alpha_embed ds (pair t u) (pair v w) = ap₂ ◌&&◌ (alpha_embed ds t v) (alpha_embed ds u w)
alpha_embed ds (app f t) (app g u) = ap (λ x. (f == g) && x) (alpha_embed ds t u)
alpha_embed ds (abs a t) (abs b u) =
    ap (λ x. if name_eq a b then x else ((a.sort == b.sort) && (fresh a u && alpha t (act_ground (swap_of a b ∷ []) u)))) (alpha_embed ds t u)
    ∙ ap₂ (λ x y. if name_eq a b then alpha_under ds (embed t) (embed u) else ((a.sort == b.sort) && (x && y))) (fresh_embed ds a u)
    (alpha_embed ds t (act_ground (swap_of a b ∷ []) u) ∙ ap (alpha_under ds (embed t)) (embed_act (swap_of a b ∷ []) u))
alpha_embed ds _ _ = refl

-- no condition
abbrev pub none : Context
none = listed_context []

pub fresh_iff : (a : Name) (t : GroundTerm) → fresh a t ≡ true ↔ Fresh none a (embed t)
fresh_iff a t = iff_trans (iff_same (λ x. x ≡ true) (fresh_embed [] a t)) (fresh_under_iff [] a (embed t))

pub alpha_iff : (t u : GroundTerm) → alpha t u ≡ true ↔ Equal none (embed t) (embed u)
alpha_iff t u = iff_trans (iff_same (λ x. x ≡ true) (alpha_embed [] t u)) (alpha_under_iff [] (embed t) (embed u))

-- the same where permutations act
pub alpha_act_iff : (p q : List Swap) (t u : GroundTerm)
    → alpha (act_ground p t) (act_ground q u) ≡ true ↔ Equal none (act_term p (embed t)) (act_term q (embed u))
alpha_act_iff p q t u =
    iff_trans (alpha_iff (act_ground p t) (act_ground q u))
    (iff_trans (iff_same (λ z. Equal none z (embed (act_ground q u))) (embed_act p t)) (iff_same (Equal none (act_term p (embed t))) (embed_act q u)))

pub alpha_itself : (t : GroundTerm) → alpha t t ≡ true
alpha_itself t = (alpha_iff t t).1 (Equal_itself none (embed t))

pub alpha_sym : (t u : GroundTerm) → alpha t u ≡ true → alpha u t ≡ true
alpha_sym t u h = (alpha_iff u t).1 (Equal_sym none (embed t) (embed u) ((alpha_iff t u).0 h))

pub alpha_trans : (t u v : GroundTerm) → alpha t u ≡ true → alpha u v ≡ true → alpha t v ≡ true
alpha_trans t u v h k = (alpha_iff t v).1 (Equal_trans none (embed t) (embed u) (embed v) ((alpha_iff t u).0 h) ((alpha_iff u v).0 k))

pub alpha_flip : (t u : GroundTerm) → alpha t u ≡ alpha u t
alpha_flip t u = same_test (alpha t u) (alpha u t) (alpha_sym t u) (alpha_sym u t)

pub alpha_act : (p : List Swap) (t u : GroundTerm) → alpha (act_ground p t) (act_ground p u) ≡ alpha t u
alpha_act p t u = same_if (iff_trans (alpha_act_iff p p t u) (iff_trans (Equal_equivariant none p (embed t) (embed u)) (iff_sym (alpha_iff t u))))

-- a permutation goes to the other side
pub alpha_move : (p : List Swap) (t u : GroundTerm) → alpha (act_ground p t) u ≡ alpha t (act_ground (inverse p) u)
alpha_move p t u = sym (alpha_act (inverse p) (act_ground p t) u) ∙ ap (λ x. alpha x (act_ground (inverse p) u)) (inverse_act_ground p t)

-- equal terms have the same fresh names
pub fresh_alpha : (a : Name) (t u : GroundTerm) → alpha t u ≡ true → fresh a t ≡ fresh a u
fresh_alpha a t u h = same_if (iff_trans (fresh_iff a t) (iff_trans (Fresh_both none a (embed t) (embed u) ((alpha_iff t u).0 h)) (iff_sym (fresh_iff a u))))

-- two permutations make equal terms of a term just where the names on which they differ are fresh for it
pub alpha_differ_iff : (p q : List Swap) (t : GroundTerm)
    → alpha (act_ground p t) (act_ground q t) ≡ true ↔ ((c : Name) → act_name p c ≢ act_name q c → fresh c t ≡ true)
alpha_differ_iff p q t =
    iff_trans (alpha_act_iff p q t t)
    (iff_trans (Equal_act_act none p q (embed t)) ((λ h c n. (fresh_iff c t).1 (h c n)), (λ h c n. (fresh_iff c t).0 (h c n))))

pub alpha_act_act : (p q : List Swap) (t : GroundTerm) → alpha (act_ground p t) (act_ground q t) ≡ list_all (λ c. fresh c t) (disagreement p q)
alpha_act_act p q t =
    same_if (iff_trans (alpha_differ_iff p q t) (
      (λ h. each_list_all (λ c. fresh c t) (disagreement p q) (λ c m. h c (disagree_differing p q c m))),
      (λ h c n. list_all_each (λ c. fresh c t) (disagreement p q) h c (differing_disagree p q c n)),
    ))

-- swapping two fresh names changes nothing up to equality
pub alpha_swap_fresh : (a b : Name) (t : GroundTerm) → a.sort ≡ b.sort → fresh a t ≡ true → fresh b t ≡ true → alpha (act_ground (swap_of a b ∷ []) t) t ≡ true
alpha_swap_fresh a b t e f g =
    (alpha_iff (act_ground (swap_of a b ∷ []) t) t).1
    (subst (λ (z : NominalTerm). Equal none z (embed t)) (sym (embed_act (swap_of a b ∷ []) t))
    (Equal_swap_fresh none a b (embed t) e ((fresh_iff a t).0 f) ((fresh_iff b t).0 g)))
