-- Places that stand for others: their links, their roots, and the way to a root.
use Rattle.std.proofs.Common.{◌≡◌, ◌<◌, ◌≤◌, ◌↔◌, ◌⊎◌, ◌∙◌, ℕ, true, false, List, length, set, refl, sym, ap, inl, inr, subst, arith}
use Rattle.std.proofs.lemmas.Bool.Decides.{eqb_tells}
use Rattle.ap_defs.specs.Types.{TypeShape, hole, unit, names, base, pair, list, abs}
use Rattle.ap_types.specs.Equations.{Filling, filled}
use Rattle.ap_types.specs.Solving.{shape_at}
use Rattle.ap_types.specs.Triangular.{Fits, IsFormed, AreFormed}
use Rattle.ap_types.specs.Joining.{is_root, link, roots, Rewrites, Shortens, FindsRoot}
use Rattle.ap_types.proofs.CountLemmas.{count_grows, count_less}
use Rattle.ap_types.proofs.TableLemmas.{at_set_same, at_set_other, length_set}

pub equal_or_not : (x y : ℕ) → (x ≡ y) ⊎ (x ≡ y → ⊥)
equal_or_not x y = elim (eqb_tells x y) [ inl w ↦ inl w.1 | inr w ↦ inr w.1 ]

-- Links.
linked : (f : Filling) (x : ℕ) (t : TypeShape) → f x ≡ filled f t → f x ≡ f (link x t)
linked f x (hole y) h = h
linked f x unit h = refl
linked f x (names s) h = refl
linked f x (base d) h = refl
linked f x (pair t u) h = refl
linked f x (list t) h = refl
linked f x (abs t u) h = refl

pub link_root : (x : ℕ) (t : TypeShape) → link x t ≡ x → is_root x t ≡ true
link_root x (hole y) h = elim (eqb_tells x y) [ inl w ↦ w.0 | inr w ↦ absurd (w.1 (sym h)) ]
link_root x unit h = refl
link_root x (names s) h = refl
link_root x (base d) h = refl
link_root x (pair t u) h = refl
link_root x (list t) h = refl
link_root x (abs t u) h = refl

link_hole : (x : ℕ) (t : TypeShape) → (link x t ≡ x → ⊥) → t ≡ hole (link x t)
link_hole x (hole y) h = refl
link_hole x unit h = absurd (h refl)
link_hole x (names s) h = absurd (h refl)
link_hole x (base d) h = absurd (h refl)
link_hole x (pair t u) h = absurd (h refl)
link_hole x (list t) h = absurd (h refl)
link_hole x (abs t u) h = absurd (h refl)

pub link_before : (n x : ℕ) (t : TypeShape) → IsFormed n x t → link x t ≤ x
link_before n x (hole y) h = h
link_before n x unit h = omega arith
link_before n x (names s) h = omega arith
link_before n x (base d) h = omega arith
link_before n x (pair t u) h = omega arith
link_before n x (list t) h = omega arith
link_before n x (abs t u) h = omega arith

-- Roots are counted by place.
pub roots_no_more : (old new : List TypeShape) → length new ≡ length old → ((x : ℕ) → is_root x (shape_at new x) ≡ true → is_root x (shape_at old x) ≡ true) → roots new ≤ roots old
unfolding roots
roots_no_more old new l h =
    rw l (count_grows (λ x. is_root x (shape_at new x)) (λ x. is_root x (shape_at old x)) (length old) (λ x m e. h x e))

pub roots_fewer : (old new : List TypeShape) (x : ℕ) → length new ≡ length old → ((y : ℕ) → is_root y (shape_at new y) ≡ true → is_root y (shape_at old y) ≡ true) → x < length old
    → is_root x (shape_at new x) ≡ false → is_root x (shape_at old x) ≡ true → roots new < roots old
unfolding roots
roots_fewer old new x l h m e f =
    rw l (count_less (λ y. is_root y (shape_at new y)) (λ y. is_root y (shape_at old y)) (length old) (λ y o i. h y i) x m e f)

pub rewrites_itself : (ts : List TypeShape) → AreFormed ts → Rewrites ts ts
rewrites_itself ts h = record { same = λ f. ((λ k. k), (λ k. k)); formed = h; as_long = refl; kept = λ x e. e; no_more = omega arith }

pub rewrites_on : (ts us vs : List TypeShape) → Rewrites ts us → Rewrites us vs → Rewrites ts vs
rewrites_on ts us vs h k = record {
  same = λ f. ((λ e. (k.same f).0 ((h.same f).0 e)), (λ e. (h.same f).1 ((k.same f).1 e)));
  formed = k.formed;
  as_long = k.as_long ∙ h.as_long;
  kept = λ x e. k.kept x (h.kept x e);
  no_more = let a = h.no_more in let b = k.no_more in omega arith;
}

-- One link that is made shorter.
shortens_before : (ts : List TypeShape) (x n after : ℕ) → AreFormed ts → shape_at ts x ≡ hole n → (n ≡ x → ⊥) → after ≡ link n (shape_at ts n) → (n < x) × (after < x)
shortens_before ts x n after h e d a =
    let l : n ≤ x = subst (IsFormed (length ts) x) e (h x) in
    let m = link_before (length ts) n (shape_at ts n) (h n) in
    (omega arith, omega arith)

shortens_fits : (ts : List TypeShape) (x n after : ℕ) → x < length ts → shape_at ts x ≡ hole n → (n ≡ x → ⊥) → after ≡ link n (shape_at ts n) → (f : Filling) → Fits f ts ↔ Fits f (set ts x (hole after))
shortens_fits ts x n after l e d a f = (
  (λ k y. elim (equal_or_not y x) [
    | inl i ↦
        let there : f x ≡ f after = k x ∙ ap (filled f) e ∙ linked f n (shape_at ts n) (k n) ∙ ap f (sym a) in
        subst (λ z. f z ≡ filled f (shape_at (set ts x (hole after)) z)) (sym i) (there ∙ sym (ap (filled f) (at_set_same ts x (hole after) l)))
    | inr o ↦ k y ∙ sym (ap (filled f) (at_set_other ts x y (hole after) o))
  ]),
  (λ k y. elim (equal_or_not y x) [
    | inl i ↦
        let here : f x ≡ f after = k x ∙ ap (filled f) (at_set_same ts x (hole after) l) in
        let there : f n ≡ f after = linked f n (shape_at ts n) (k n ∙ ap (filled f) (at_set_other ts x n (hole after) d)) ∙ ap f (sym a) in
        subst (λ z. f z ≡ filled f (shape_at ts z)) (sym i) (here ∙ sym there ∙ sym (ap (filled f) e))
    | inr o ↦ k y ∙ ap (filled f) (at_set_other ts x y (hole after) o)
  ]),
)

-- a place that is set to an earlier one
pub set_formed : (ts : List TypeShape) (x : ℕ) (t : TypeShape) → x < length ts → AreFormed ts → IsFormed (length ts) x t → AreFormed (set ts x t)
set_formed ts x t l h k y =
    subst (λ n. IsFormed n y (shape_at (set ts x t) y)) (sym (length_set ts x t))
    (elim (equal_or_not y x) [
      | inl i ↦ subst (λ z. IsFormed (length ts) z (shape_at (set ts x t) z)) (sym i) (subst (IsFormed (length ts) x) (sym (at_set_same ts x t l)) k)
      | inr o ↦ subst (IsFormed (length ts) y) (sym (at_set_other ts x y t o)) (h y)
    ])

pub no_root : (x y : ℕ) → y < x → is_root x (hole y) ≡ false
no_root x y l = elim (eqb_tells x y) [ inl w ↦ let e = w.1 in absurd (omega arith) | inr w ↦ w.0 ]

-- no root is new where an earlier place is put
set_roots : (ts : List TypeShape) (x y : ℕ) → x < length ts → y < x → (z : ℕ) → is_root z (shape_at (set ts x (hole y)) z) ≡ true → is_root z (shape_at ts z) ≡ true
set_roots ts x y l m z h =
    elim (equal_or_not z x) [
      | inl i ↦
          let n : is_root x (shape_at (set ts x (hole y)) x) ≡ false = ap (is_root x) (at_set_same ts x (hole y) l) ∙ no_root x y m in
          let j : is_root x (shape_at (set ts x (hole y)) x) ≡ true = subst (λ v. is_root v (shape_at (set ts x (hole y)) v) ≡ true) i h in
          cc
      | inr o ↦ ap (is_root z) (sym (at_set_other ts x z (hole y) o)) ∙ h
    ]

pub shortens : (ts : List TypeShape) (x n after : ℕ) → AreFormed ts → x < length ts → shape_at ts x ≡ hole n → (n ≡ x → ⊥) → after ≡ link n (shape_at ts n) → Shortens ts x (set ts x (hole after)) after
shortens ts x n after h l e d a =
    let b = shortens_before ts x n after h e d a in
    let old : is_root x (shape_at ts x) ≡ false = ap (is_root x) e ∙ no_root x n b.0 in record {
      rewrites = record {
        same = shortens_fits ts x n after l e d a;
        formed = let m = b.1 in set_formed ts x (hole after) l h (omega arith);
        as_long = length_set ts x (hole after);
        kept = λ y i. elim (equal_or_not y x) [
          | inl j ↦ let k : is_root x (shape_at ts x) ≡ true = subst (λ v. is_root v (shape_at ts v) ≡ true) j i in cc
          | inr o ↦ ap (is_root y) (at_set_other ts x y (hole after) o) ∙ i
        ];
        no_more = roots_no_more ts (set ts x (hole after)) (length_set ts x (hole after)) (set_roots ts x after l b.1);
      };
      alike = λ f k. k x ∙ ap (filled f) (at_set_same ts x (hole after) l);
      before = let m = b.1 in omega arith;
      root = λ i. let m = b.1 in absurd (omega arith);
    }

pub shortens_link : (ts : List TypeShape) (x next after : ℕ) → AreFormed ts → x < length ts → next ≡ link x (shape_at ts x) → (next ≡ x → ⊥) → after ≡ link next (shape_at ts next)
    → Shortens ts x (set ts x (hole after)) after
shortens_link ts x next after h l e d a =
    shortens ts x next after h l (link_hole x (shape_at ts x) (λ i. d (e ∙ i)) ∙ ap hole (sym e)) d a

pub shortens_root : (ts : List TypeShape) (x next : ℕ) → AreFormed ts → next ≡ link x (shape_at ts x) → next ≡ x → Shortens ts x ts x
shortens_root ts x next h e i = record {
  rewrites = rewrites_itself ts h;
  alike = λ f k. refl;
  before = omega arith;
  root = λ j. link_root x (shape_at ts x) (sym e ∙ i);
}

-- The way to a root.
pub record Follows (old : List TypeShape) (x : ℕ) (now : List TypeShape) (at next : ℕ) : Type 0 where
  pub rewrites : Rewrites old now
  pub alike : (f : Filling) → Fits f now → f x ≡ f next
  pub before : next ≤ at
  pub within : at ≤ x
  pub root : next ≡ at → is_root at (shape_at now at) ≡ true

pub follows_first : (old now : List TypeShape) (x next : ℕ) → Shortens old x now next → Follows old x now x next
follows_first old now x next h = record { rewrites = h.rewrites; alike = h.alike; before = h.before; within = omega arith; root = h.root }

pub follows_on : (old now new : List TypeShape) (x at next after : ℕ) → Follows old x now at next → Shortens now next new after → Follows old x new next after
follows_on old now new x at next after h k = record {
  rewrites = rewrites_on old now new h.rewrites k.rewrites;
  alike = λ f e. h.alike f ((k.rewrites.same f).1 e) ∙ k.alike f e;
  before = k.before;
  within = let a = h.before in let b = h.within in omega arith;
  root = k.root;
}

pub follows_end : (old now : List TypeShape) (x at next : ℕ) → Follows old x now at next → next ≡ at → FindsRoot old x now at
follows_end old now x at next h e = record {
  rewrites = h.rewrites;
  alike = λ f k. h.alike f k ∙ ap f e;
  before = h.within;
  root = h.root e;
}
