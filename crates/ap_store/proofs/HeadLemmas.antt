-- What stands at the heads of terms.
use Rattle.std.proofs.Common.{◌≡◌, ◌<◌, true, true≢false, List, [], refl, sym, ap, ◌∙◌, subst, append-nil, arith}
use Rattle.std.proofs.lemmas.Bool.Decides.{nat_tests}
use Rattle.std.specs.Prelude.{Some, None, is_some}
use Rattle.ap_defs.specs.Freshness.{var_eq}
use Rattle.ap_defs.specs.HeadKeys.{head_key}
use Rattle.ap_defs.specs.Substitution.{Binding, under}
use Rattle.ap_defs.specs.Terms.{NominalTerm, abs, act_term, app, name, pair, susp, unit}
use Rattle.ap_defs.specs.declared.terms.Swap.{Swap}
use Rattle.ap_defs.specs.declared.terms.Var.{Var}
use Rattle.ap_perm.specs.Lookups.{depth_of}
use Rattle.ap_theory.proofs.HeadKeyLemmas.{key_act}
use Rattle.ap_theory.proofs.SubstitutionLemmas.{under_act}
use Rattle.ap_theory.proofs.TermLemmas.{occurs_act, var_same}
use Rattle.ap_store.specs.Heads.{HasForm, IsAtHead, IsHeadLook, IsLookIn}
use Rattle.ap_store.specs.Likes.{AreAlike, HaveSameHead, is_suspended}
use Rattle.ap_store.specs.Views.{bindings_of, rank, raw_bound}
use Rattle.ap_store.specs.declared.heads.Head.{Head}
use Rattle.ap_store.specs.declared.heads.Head.TheVariants as heads
use Rattle.ap_store.specs.declared.heads.HeadLook.{HeadLook}
use Rattle.ap_store.specs.declared.heads.HeadLook.TheVariants as looks
use Rattle.ap_store.specs.declared.store.Store.{Store}
use Rattle.ap_store.proofs.FollowLemmas.{bound_look, unbound_under, unbound_var}
use Rattle.ap_store.proofs.LikeLemmas.{suspended_act}

pub alike_trans : (t u v : NominalTerm) → AreAlike t u → AreAlike u v → AreAlike t v
alike_trans t u v h k = ((λ y. h.0 y ∙ k.0 y), (h.1.0 ∙ k.1.0, λ y. h.1.1 y ∙ k.1.1 y))

pub alike_act : (p : List Swap) (t : NominalTerm) → AreAlike (act_term p t) t
alike_act p t = ((λ y. occurs_act y p t), (key_act p t, λ y. suspended_act y p t))

-- a term that is no suspension is none under swappings
form_act : (p : List Swap) (t : NominalTerm) → HasForm t → HasForm (act_term p t)
form_act p unit h = tt
form_act p (name a) h = tt
form_act p (pair t u) h = tt
form_act p (app f t) h = tt
form_act p (abs a t) h = tt
form_act p (susp q x) h = absurd h

-- and bindings leave its head
form_under : (bs : List Binding) (t : NominalTerm) → HasForm t → HasForm (under bs t) × (head_key (under bs t) ≡ head_key t)
form_under bs unit h = (tt, refl)
form_under bs (name a) h = (tt, refl)
form_under bs (pair t u) h = (tt, refl)
form_under bs (app f t) h = (tt, refl)
form_under bs (abs a t) h = (tt, refl)
form_under bs (susp q x) h = absurd h

suspended_is : (x : Var) (t : NominalTerm) → is_suspended x t ≡ true → (p : List Swap) × (t ≡ susp p x)
suspended_is x unit h = absurd (true≢false (sym h))
suspended_is x (name a) h = absurd (true≢false (sym h))
suspended_is x (pair t u) h = absurd (true≢false (sym h))
suspended_is x (app f t) h = absurd (true≢false (sym h))
suspended_is x (abs a t) h = absurd (true≢false (sym h))
suspended_is x (susp p y) h = (p, ap (susp p) (sym (var_same x y h)))

-- the key of a suspension is that of no other term
form_by_key : (t u : NominalTerm) → head_key t ≡ head_key u → HasForm u → HasForm t
form_by_key unit u e h = tt
form_by_key (name a) u e h = tt
form_by_key (pair t v) u e h = tt
form_by_key (app f t) u e h = tt
form_by_key (abs a t) u e h = tt
form_by_key (susp p x) unit e h = absurd (omega (arith, e))
form_by_key (susp p x) (name a) e h = absurd (omega (arith, e))
form_by_key (susp p x) (pair t u) e h = absurd (omega (arith, e))
form_by_key (susp p x) (app f t) e h = absurd (omega (arith, e))
form_by_key (susp p x) (abs a t) e h = absurd (omega (arith, e))
form_by_key (susp p x) (susp q y) e h = absurd h

-- terms that begin alike have the same head
pub head_same : (bs : List Binding) (t u : NominalTerm) (h : Head) → HaveSameHead t u → IsAtHead bs u h → IsAtHead bs t h
head_same bs t u (heads.Open x) s (unbound, (p, e)) =
    let same : var_eq x x ≡ true = grind (arith, nat_tests) in
    (unbound, suspended_is x t (s.1 x ∙ ap (is_suspended x) e ∙ same))
head_same bs t u (heads.Form v) s (form, k) = (form_by_key t u s.0 form, s.0 ∙ k)

module _ (s : Store) where
  -- swappings that wait on a variable leave the head of what it stands for
  pub suspension_alike : (p : List Swap) (x : Var) → AreAlike (under (bindings_of s) (susp p x)) (under (bindings_of s) (susp [] x))
  suspension_alike p x =
      let e : under (bindings_of s) (susp p x) ≡ act_term p (under (bindings_of s) (susp [] x)) =
      ap (λ q. under (bindings_of s) (susp q x)) (sym (append-nil p)) ∙ under_act (bindings_of s) p (susp [] x) in
      subst (λ (t : NominalTerm). AreAlike t (under (bindings_of s) (susp [] x))) (sym e) (alike_act p (under (bindings_of s) (susp [] x)))

  -- what a look at a variable finds that is bound to such a term
  pub look_bound : (x : Var) (p : List Swap) (t : NominalTerm) (l : HeadLook) → raw_bound s x ≡ Some (act_term p t) → IsLookIn t l → IsHeadLook s x l
  look_bound x p t (looks.Ends (heads.Open y)) e h = absurd h
  look_bound x p t (looks.Ends (heads.Form v)) e (h, k) =
      let (f, g) = form_under (bindings_of s) t h in
      let (m, _) = bound_look s [] x p t e in
      subst (λ (u : NominalTerm). IsAtHead (bindings_of s) u (heads.Form v)) (sym m) (form_act p (under (bindings_of s) t) f, key_act p (under (bindings_of s) t) ∙ g ∙ k)
  look_bound x p t (looks.Further y) e (q, h) =
      let (m, less) = bound_look s [] x p t e in
      let n = m ∙ ap (λ (u : NominalTerm). act_term p (under (bindings_of s) u)) h in
      let w = under (bindings_of s) (susp q y) in (
        subst (λ (u : NominalTerm). AreAlike u (under (bindings_of s) (susp [] y))) (sym n) (alike_trans (act_term p w) w (under (bindings_of s) (susp [] y)) (alike_act p w) (suspension_alike q y)),
        fewer q less h,
        ap is_some e,
      )
    where
      fewer : (r : List Swap) → depth_of (rank s) t < depth_of (rank s) (susp [] x) → t ≡ susp r y → rank s y < rank s x
      fewer r l i = let k : depth_of (rank s) t ≡ depth_of (rank s) (susp r y) = ap (depth_of (rank s)) i in omega (arith, l, k)

  pub look_unbound : (x : Var) → raw_bound s x ≡ None → IsAtHead (bindings_of s) (under (bindings_of s) (susp [] x)) (heads.Open x)
  look_unbound x e = (unbound_var s x e, ([], unbound_under s [] x e))
