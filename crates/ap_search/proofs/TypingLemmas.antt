-- Typed terms: what their parts are, and that permutations, substitutions and renaming keep types.
use Rattle.std.proofs.Common.{subst, ◌≡◌, ◌+◌, ℕ, zero, suc, true, false, List, [], ◌∷◌, ◌++◌, map, length, refl, sym, ap, ◌∙◌, arith}
use Rattle.std.specs.Prelude.{if◌then◌else◌, Option, Some, None}
use Rattle.ap_defs.specs.Answers.{kind_at}
use Rattle.ap_defs.specs.Freshness.{var_eq}
use Rattle.ap_defs.specs.Permutations.{act_name, inverse, left_name, name_eq, right_name, swap_name}
use Rattle.ap_defs.specs.Printing.{constructor_in}
use Rattle.ap_defs.specs.Renaming.{rename_name, rename_swap, rename_term, rename_var}
use Rattle.ap_defs.specs.Substitution.{Binding, bound_term, moved, put, under, ◌:=◌}
use Rattle.ap_defs.specs.Terms.{NominalTerm, abs, act_term, app, name, pair, susp, unit}
use Rattle.ap_defs.specs.Types as types
use Rattle.ap_defs.specs.Types.{NominalConstructor, NominalKind, NominalType}
use Rattle.ap_defs.specs.Typing.{IsApplication, Want, arguments, more, nothing, one}
use Rattle.ap_defs.specs.declared.terms.Name.{Name}
use Rattle.ap_defs.specs.declared.terms.Swap.{Swap}
use Rattle.ap_defs.specs.declared.terms.Var.{Var}
use Rattle.ap_program.specs.RawTyping.{AreSwapsOf, IsNameOf, IsTypedTerm, IsVarOf}
use Rattle.ap_theory.proofs.PermutationLemmas.{name_eq_same}
use Rattle.ap_theory.proofs.TermLemmas.{var_same}
use Rattle.ap_search.specs.TypedStates.{AreTypedBindings}

module _ (cs : List NominalConstructor) where
  -- The parts of a pair that is what is wanted, by whatever kinds.
  pub record PairView (kinds : List NominalKind) (t u : NominalTerm) (w : Want) : Type 0 where
    pub first : Want
    pub second : Want
    pub left : IsTypedTerm cs kinds t first
    pub right : IsTypedTerm cs kinds u second
    pub back : (ks : List NominalKind) (v z : NominalTerm) → IsTypedTerm cs ks v first → IsTypedTerm cs ks z second → IsTypedTerm cs ks (pair v z) w
    pub other : (v z : NominalTerm) → IsTypedTerm cs kinds (pair v z) w → IsTypedTerm cs kinds v first × IsTypedTerm cs kinds z second

  pub pair_view : (kinds : List NominalKind) (t u : NominalTerm) (w : Want) → IsTypedTerm cs kinds (pair t u) w → PairView kinds t u w
  pair_view kinds t u (one (types.pair a b)) h = record { first = one a; second = one b; left = h.0; right = h.1; back = λ ks v z i j. (i, j); other = λ v z i. i }
  pair_view kinds t u (more a w) h = record { first = one a; second = w; left = h.0; right = h.1; back = λ ks v z i j. (i, j); other = λ v z i. i }
  pair_view kinds t u nothing h = absurd h
  pair_view kinds t u (one types.unit) h = absurd h
  pair_view kinds t u (one (types.names s)) h = absurd h
  pair_view kinds t u (one (types.base d)) h = absurd h
  pair_view kinds t u (one (types.list a)) h = absurd h
  pair_view kinds t u (one (types.abs s b)) h = absurd h

  pub record AppView (kinds : List NominalKind) (f : ℕ) (t : NominalTerm) (w : Want) : Type 0 where
    pub inner : Want
    pub here : IsTypedTerm cs kinds t inner
    pub back : (ks : List NominalKind) (v : NominalTerm) → IsTypedTerm cs ks v inner → IsTypedTerm cs ks (app f v) w
    pub other : (v : NominalTerm) → IsTypedTerm cs kinds (app f v) w → IsTypedTerm cs kinds v inner

  record ApplicationView (kinds : List NominalKind) (o : Option NominalConstructor) (d : ℕ) (t : NominalTerm) : Type 0 where
    inner : Want
    here : IsTypedTerm cs kinds t inner
    back : (ks : List NominalKind) (v : NominalTerm) → IsTypedTerm cs ks v inner → IsApplication (IsTypedTerm cs ks v) o d
    other : (v : NominalTerm) → IsApplication (IsTypedTerm cs kinds v) o d → IsTypedTerm cs kinds v inner

  application_view : (kinds : List NominalKind) (o : Option NominalConstructor) (d : ℕ) (t : NominalTerm) → IsApplication (IsTypedTerm cs kinds t) o d → ApplicationView kinds o d t
  application_view kinds None d t h = absurd h
  application_view kinds (Some c) d t h = record { inner = arguments c.args; here = h.1; back = λ ks v i. (h.0, i); other = λ v i. i.1 }

  pub app_view : (kinds : List NominalKind) (f : ℕ) (t : NominalTerm) (w : Want) → IsTypedTerm cs kinds (app f t) w → AppView kinds f t w
  app_view kinds zero t (one (types.list a)) h = record { inner = nothing; here = h; back = λ ks v i. i; other = λ v i. i }
  app_view kinds (suc zero) t (one (types.list a)) h = record { inner = more a (one (types.list a)); here = h; back = λ ks v i. i; other = λ v i. i }
  app_view kinds (suc (suc f)) t (one (types.list a)) h = absurd h
  app_view kinds zero t (one (types.base d)) h = let v = application_view kinds (constructor_in cs zero) d t h in record { inner = v.inner; here = v.here; back = v.back; other = v.other }
  app_view kinds (suc zero) t (one (types.base d)) h = let v = application_view kinds (constructor_in cs (suc zero)) d t h in record { inner = v.inner; here = v.here; back = v.back; other = v.other }
  app_view kinds (suc (suc f)) t (one (types.base d)) h = let v = application_view kinds (constructor_in cs (suc (suc f))) d t h in record { inner = v.inner; here = v.here; back = v.back; other = v.other }
  app_view kinds zero t nothing h = absurd h
  app_view kinds zero t (one types.unit) h = absurd h
  app_view kinds zero t (one (types.names s)) h = absurd h
  app_view kinds zero t (one (types.pair a b)) h = absurd h
  app_view kinds zero t (one (types.abs s b)) h = absurd h
  app_view kinds zero t (more a w) h = absurd h
  app_view kinds (suc zero) t nothing h = absurd h
  app_view kinds (suc zero) t (one types.unit) h = absurd h
  app_view kinds (suc zero) t (one (types.names s)) h = absurd h
  app_view kinds (suc zero) t (one (types.pair a b)) h = absurd h
  app_view kinds (suc zero) t (one (types.abs s b)) h = absurd h
  app_view kinds (suc zero) t (more a w) h = absurd h
  app_view kinds (suc (suc f)) t nothing h = absurd h
  app_view kinds (suc (suc f)) t (one types.unit) h = absurd h
  app_view kinds (suc (suc f)) t (one (types.names s)) h = absurd h
  app_view kinds (suc (suc f)) t (one (types.pair a b)) h = absurd h
  app_view kinds (suc (suc f)) t (one (types.abs s b)) h = absurd h
  app_view kinds (suc (suc f)) t (more a w) h = absurd h

  pub abs_view : (kinds : List NominalKind) (a : Name) (t : NominalTerm) (w : Want) → IsTypedTerm cs kinds (abs a t) w
      → (s : ℕ) × (b : NominalType) × (w ≡ one (types.abs s b)) × IsNameOf kinds a s × IsTypedTerm cs kinds t (one b)
  abs_view kinds a t (one (types.abs s b)) h = (s, b, refl, h.0, h.1)
  abs_view kinds a t nothing h = absurd h
  abs_view kinds a t (more c w) h = absurd h
  abs_view kinds a t (one types.unit) h = absurd h
  abs_view kinds a t (one (types.names s)) h = absurd h
  abs_view kinds a t (one (types.base d)) h = absurd h
  abs_view kinds a t (one (types.pair c b)) h = absurd h
  abs_view kinds a t (one (types.list c)) h = absurd h

  pub name_view : (kinds : List NominalKind) (a : Name) (w : Want) → IsTypedTerm cs kinds (name a) w → (s : ℕ) × (w ≡ one (types.names s)) × IsNameOf kinds a s
  name_view kinds a (one (types.names s)) h = (s, refl, h)
  name_view kinds a nothing h = absurd h
  name_view kinds a (more c w) h = absurd h
  name_view kinds a (one types.unit) h = absurd h
  name_view kinds a (one (types.base d)) h = absurd h
  name_view kinds a (one (types.pair c b)) h = absurd h
  name_view kinds a (one (types.list c)) h = absurd h
  name_view kinds a (one (types.abs s b)) h = absurd h

  pub susp_view : (kinds : List NominalKind) (p : List Swap) (x : Var) (w : Want) → IsTypedTerm cs kinds (susp p x) w
      → (a : NominalType) × (w ≡ one a) × AreSwapsOf kinds p × IsVarOf kinds x a
  susp_view kinds p x (one a) h = (a, refl, h.0, h.1)
  susp_view kinds p x nothing h = absurd h
  susp_view kinds p x (more a w) h = absurd h

  abbrev pub as_wanted : (kinds : List NominalKind) (t : NominalTerm) (v w : Want) → v ≡ w → IsTypedTerm cs kinds t w → IsTypedTerm cs kinds t v
  as_wanted kinds t v w e h = subst (λ (z : Want). IsTypedTerm cs kinds t z) (sym e) h

  module _ (kinds : List NominalKind) where
    -- Permutations of names that are identifiers.
    pub own_sort : (a : Name) (s : ℕ) → IsNameOf kinds a s → IsNameOf kinds a a.sort
    own_sort a s h = (refl, h.1 ∙ ap (λ z. Some (types.name z)) (sym h.0))

    pub swaps_of-append : (p q : List Swap) → AreSwapsOf kinds p → AreSwapsOf kinds q → AreSwapsOf kinds (p ++ q)
    swaps_of-append [] q h k = k
    swaps_of-append (s ∷ p) q h k = (h.0, h.1, swaps_of-append p q h.2 k)

    pub inverse_swaps_of : (p : List Swap) → AreSwapsOf kinds p → AreSwapsOf kinds (inverse p)
    inverse_swaps_of [] h = tt
    inverse_swaps_of (s ∷ p) h = swaps_of-append (inverse p) (s ∷ []) (inverse_swaps_of p h.2) (h.0, h.1, tt)

    swap_name_of : (w : Swap) (a : Name) (s : ℕ) → IsNameOf kinds (left_name w) w.sort → IsNameOf kinds (right_name w) w.sort → IsNameOf kinds a s → IsNameOf kinds (swap_name w a) s
    unfolding swap_name
    swap_name_of w a s l r h =
        elim (name_eq a (left_name w)) as (λ b. name_eq a (left_name w) ≡ b → IsNameOf kinds (if b then right_name w else (if name_eq a (right_name w) then left_name w else a)) s) [
          | true ↦ λ e. let k : w.sort ≡ s = sym (ap (λ (n : Name). n.sort) (name_eq_same a (left_name w) e)) ∙ h.0 in subst (IsNameOf kinds (right_name w)) k r
          | false ↦ λ e. elim (name_eq a (right_name w)) as (λ b. name_eq a (right_name w) ≡ b → IsNameOf kinds (if b then left_name w else a) s) [
            | true ↦ λ f. let k : w.sort ≡ s = sym (ap (λ (n : Name). n.sort) (name_eq_same a (right_name w) f)) ∙ h.0 in subst (IsNameOf kinds (left_name w)) k l
            | false ↦ λ f. h
          ] refl
        ] refl

    pub act_name_of : (p : List Swap) (a : Name) (s : ℕ) → AreSwapsOf kinds p → IsNameOf kinds a s → IsNameOf kinds (act_name p a) s
    act_name_of [] a s h k = k
    act_name_of (w ∷ p) a s h k = swap_name_of w (act_name p a) s h.0 h.1 (act_name_of p a s h.2 k)

    pub act_typed : (p : List Swap) → AreSwapsOf kinds p → (t : NominalTerm) (w : Want) → IsTypedTerm cs kinds t w → IsTypedTerm cs kinds (act_term p t) w
    act_typed p h unit w k = k
    act_typed p h (name a) w k =
        let v = name_view kinds a w k in
        as_wanted kinds (name (act_name p a)) w (one (types.names v.0)) v.1 (act_name_of p a v.0 h v.2)
    act_typed p h (pair t u) w k = let v = pair_view kinds t u w k in v.back kinds (act_term p t) (act_term p u) (act_typed p h t v.first v.left) (act_typed p h u v.second v.right)
    act_typed p h (app f t) w k = let v = app_view kinds f t w k in v.back kinds (act_term p t) (act_typed p h t v.inner v.here)
    act_typed p h (abs a t) w k =
        let v = abs_view kinds a t w k in
        as_wanted kinds (abs (act_name p a) (act_term p t)) w (one (types.abs v.0 v.1)) v.2 (act_name_of p a v.0 h v.3, act_typed p h t (one v.1) v.4)
    act_typed p h (susp q x) w k =
        let v = susp_view kinds q x w k in
        as_wanted kinds (susp (p ++ q) x) w (one v.0) v.1 (swaps_of-append p q h v.2, v.3)

    one_type : (x : Var) (a b : NominalType) → IsVarOf kinds x a → IsVarOf kinds x b → a ≡ b
    one_type x a b h k = cc

    pub put_typed : (x : Var) (v : NominalTerm) (a : NominalType) → IsVarOf kinds x a → IsTypedTerm cs kinds v (one a) → (t : NominalTerm) (w : Want)
        → IsTypedTerm cs kinds t w → IsTypedTerm cs kinds (put x v t) w
    put_typed x v a h i unit w k = k
    put_typed x v a h i (name b) w k = k
    put_typed x v a h i (pair t u) w k = let z = pair_view kinds t u w k in z.back kinds (put x v t) (put x v u) (put_typed x v a h i t z.first z.left) (put_typed x v a h i u z.second z.right)
    put_typed x v a h i (app f t) w k = let z = app_view kinds f t w k in z.back kinds (put x v t) (put_typed x v a h i t z.inner z.here)
    put_typed x v a h i (abs b t) w k =
        let z = abs_view kinds b t w k in
        as_wanted kinds (abs b (put x v t)) w (one (types.abs z.0 z.1)) z.2 (z.3, put_typed x v a h i t (one z.1) z.4)
    put_typed x v a h i (susp p y) w k =
        let z = susp_view kinds p y w k in
        elim (var_eq x y) as (λ b. var_eq x y ≡ b → IsTypedTerm cs kinds (if b then act_term p v else susp p y) w) [
          | true ↦ λ e.
              let same : a ≡ z.0 = one_type x a z.0 h (subst (λ (q : Var). IsVarOf kinds q z.0) (sym (var_same x y e)) z.3) in
              as_wanted kinds (act_term p v) w (one a) (z.1 ∙ ap one (sym same)) (act_typed p z.2 v (one a) i)
          | false ↦ λ e. k
        ] refl

    moved_typed : (bs : List Binding) → AreTypedBindings cs kinds bs → (p : List Swap) (x : Var) (a : NominalType) → AreSwapsOf kinds p → IsVarOf kinds x a
        → IsTypedTerm cs kinds (moved p x (bound_term bs x)) (one a)
    moved_typed [] h p x a k l = (k, l)
    moved_typed ((y := t) ∷ bs) h p x a k l =
        elim (var_eq x y) as (λ b. var_eq x y ≡ b → IsTypedTerm cs kinds (moved p x (if b then Some t else bound_term bs x)) (one a)) [
          | true ↦ λ e.
              let same : h.0.0 ≡ a = one_type x h.0.0 a (subst (λ (q : Var). IsVarOf kinds q h.0.0) (sym (var_same x y e)) h.0.1) l in
              act_typed p k t (one a) (subst (λ (b : NominalType). IsTypedTerm cs kinds t (one b)) same h.0.2)
          | false ↦ λ e. moved_typed bs h.1 p x a k l
        ] refl

    pub under_typed : (bs : List Binding) → AreTypedBindings cs kinds bs → (t : NominalTerm) (w : Want) → IsTypedTerm cs kinds t w → IsTypedTerm cs kinds (under bs t) w
    under_typed bs h unit w k = k
    under_typed bs h (name a) w k = k
    under_typed bs h (pair t u) w k = let z = pair_view kinds t u w k in z.back kinds (under bs t) (under bs u) (under_typed bs h t z.first z.left) (under_typed bs h u z.second z.right)
    under_typed bs h (app f t) w k = let z = app_view kinds f t w k in z.back kinds (under bs t) (under_typed bs h t z.inner z.here)
    under_typed bs h (abs b t) w k =
        let z = abs_view kinds b t w k in
        as_wanted kinds (abs b (under bs t)) w (one (types.abs z.0 z.1)) z.2 (z.3, under_typed bs h t (one z.1) z.4)
    under_typed bs h (susp p x) w k =
        let z = susp_view kinds p x w k in
        as_wanted kinds (moved p x (bound_term bs x)) w (one z.0) z.1 (moved_typed bs h p x z.0 z.2 z.3)

-- Kinds of more numbers.
pub kind_at_front : (ks ls : List NominalKind) (n : ℕ) (k : NominalKind) → kind_at ks n ≡ Some k → kind_at (ks ++ ls) n ≡ Some k
kind_at_front [] ls n k h = cc
kind_at_front (j ∷ ks) ls zero k h = h
kind_at_front (j ∷ ks) ls (suc n) k h = kind_at_front ks ls n k h

pub kind_at_back : (ks ls : List NominalKind) (n : ℕ) → kind_at (ks ++ ls) (length ks + n) ≡ kind_at ls n
kind_at_back [] ls n = ap (kind_at ls) (omega arith)
kind_at_back (k ∷ ks) ls n =
    let e : suc (length ks) + n ≡ suc (length ks + n) = omega arith in
    ap (kind_at (k ∷ ks ++ ls)) e ∙ kind_at_back ks ls n

module _ (cs : List NominalConstructor) (ks ls : List NominalKind) where
  pub swaps_of_front : (p : List Swap) → AreSwapsOf ks p → AreSwapsOf (ks ++ ls) p
  swaps_of_front [] h = tt
  swaps_of_front (s ∷ p) h = ((h.0.0, kind_at_front ks ls _ _ h.0.1), (h.1.0, kind_at_front ks ls _ _ h.1.1), swaps_of_front p h.2)

  pub typed_front : (t : NominalTerm) (w : Want) → IsTypedTerm cs ks t w → IsTypedTerm cs (ks ++ ls) t w
  typed_front unit nothing k = tt
  typed_front unit (one types.unit) k = tt
  typed_front unit (one (types.names s)) k = absurd k
  typed_front unit (one (types.base d)) k = absurd k
  typed_front unit (one (types.pair a b)) k = absurd k
  typed_front unit (one (types.list a)) k = absurd k
  typed_front unit (one (types.abs s b)) k = absurd k
  typed_front unit (more a w) k = absurd k
  typed_front (name a) w k =
      let v = name_view cs ks a w k in
      as_wanted cs (ks ++ ls) (name a) w (one (types.names v.0)) v.1 (v.2.0, kind_at_front ks ls _ _ v.2.1)
  typed_front (pair t u) w k = let v = pair_view cs ks t u w k in v.back (ks ++ ls) t u (typed_front t v.first v.left) (typed_front u v.second v.right)
  typed_front (app f t) w k = let v = app_view cs ks f t w k in v.back (ks ++ ls) t (typed_front t v.inner v.here)
  typed_front (abs a t) w k =
      let v = abs_view cs ks a t w k in
      as_wanted cs (ks ++ ls) (abs a t) w (one (types.abs v.0 v.1)) v.2 ((v.3.0, kind_at_front ks ls _ _ v.3.1), typed_front t (one v.1) v.4)
  typed_front (susp p x) w k =
      let v = susp_view cs ks p x w k in
      as_wanted cs (ks ++ ls) (susp p x) w (one v.0) v.1 (swaps_of_front p v.2, kind_at_front ks ls _ _ v.3)

  -- A term by kinds that come after others, renamed.
  swaps_of_back : (p : List Swap) → AreSwapsOf ls p → AreSwapsOf (ks ++ ls) (map (rename_swap (length ks)) p)
  swaps_of_back [] h = tt
  swaps_of_back (s ∷ p) h =
      ((h.0.0, kind_at_back ks ls s.left ∙ h.0.1), (h.1.0, kind_at_back ks ls s.right ∙ h.1.1), swaps_of_back p h.2)

  pub typed_back : (t : NominalTerm) (w : Want) → IsTypedTerm cs ls t w → IsTypedTerm cs (ks ++ ls) (rename_term (length ks) t) w
  typed_back unit nothing k = tt
  typed_back unit (one types.unit) k = tt
  typed_back unit (one (types.names s)) k = absurd k
  typed_back unit (one (types.base d)) k = absurd k
  typed_back unit (one (types.pair a b)) k = absurd k
  typed_back unit (one (types.list a)) k = absurd k
  typed_back unit (one (types.abs s b)) k = absurd k
  typed_back unit (more a w) k = absurd k
  typed_back (name a) w k =
      let v = name_view cs ls a w k in
      as_wanted cs (ks ++ ls) (name (rename_name (length ks) a)) w (one (types.names v.0)) v.1 (v.2.0, kind_at_back ks ls a.num ∙ v.2.1)
  typed_back (pair t u) w k = let v = pair_view cs ls t u w k in v.back (ks ++ ls) (rename_term (length ks) t) (rename_term (length ks) u) (typed_back t v.first v.left) (typed_back u v.second v.right)
  typed_back (app f t) w k = let v = app_view cs ls f t w k in v.back (ks ++ ls) (rename_term (length ks) t) (typed_back t v.inner v.here)
  typed_back (abs a t) w k =
      let v = abs_view cs ls a t w k in
      as_wanted cs (ks ++ ls) (abs (rename_name (length ks) a) (rename_term (length ks) t)) w (one (types.abs v.0 v.1)) v.2 ((v.3.0, kind_at_back ks ls a.num ∙ v.3.1), typed_back t (one v.1) v.4)
  typed_back (susp p x) w k =
      let v = susp_view cs ls p x w k in
      as_wanted cs (ks ++ ls) (susp (map (rename_swap (length ks)) p) (rename_var (length ks) x)) w (one v.0) v.1 (swaps_of_back p v.2, kind_at_back ks ls x.num ∙ v.3)
