-- Carrying out swappings brings no identifier, and no identifier to another place.
use Rattle.std.proofs.Common.{◌≡◌, ℕ, Bool, true, false, ◌||◌, ◌&&◌, List, [], ◌∷◌, ◌++◌, map, refl, sym, ap, ap₂, subst}
use Rattle.std.specs.Prelude.{◌==◌, not, if◌then◌else◌}
use Rattle.ap_defs.specs.declared.terms.Name.{Name}
use Rattle.ap_defs.specs.declared.terms.Id.TheVariants as ids
use Rattle.ap_defs.specs.Permutations.{name_eq, swap_of, swap_name, left_name, right_name}
use Rattle.ap_defs.specs.RawTerms as raw
use Rattle.ap_defs.specs.RawTerms.{RawTerm}
use Rattle.ap_defs.specs.Terms as terms
use Rattle.ap_defs.specs.Terms.{NominalTerm, act_term}
use Rattle.ap_defs.specs.Types.{NominalLocal}
use Rattle.ap_defs.specs.Goals.{GoalOver, succeed, atom, equal, fresh, both, either, exists, new}
use Rattle.ap_theory.proofs.BooleanLemmas.{or_false}
use Rattle.ap_program.specs.Typed.{stands_in_raw, stands_in_term, stands_in_swaps, stands_in_some, stands_free, brought, AreMarked, EachOnce, IsScoped, id_number}
use Rattle.ap_program.specs.CarryingOut.{carried_out, map_goal}

neither : (p q : Bool) → p ≡ false → q ≡ false → (p || q) ≡ false
neither p q e f = ap₂ (λ x y. x || y) e f

module _ (n : ℕ) (a b : Name) (na : (n == a.num) ≡ false) (nb : (n == b.num) ≡ false) where
  chosen : (p q : Bool) (l r c : Name) → (n == l.num) ≡ false → (n == r.num) ≡ false → (n == c.num) ≡ false → (n == (if p then r else (if q then l else c)).num) ≡ false
  chosen true q l r c hl hr hc = hr
  chosen false true l r c hl hr hc = hl
  chosen false false l r c hl hr hc = hc

  image : (c : Name) → (n == c.num) ≡ false → (n == (swap_name (swap_of a b) c).num) ≡ false
  unfolding swap_name
  image c h = chosen (name_eq c (left_name (swap_of a b))) (name_eq c (right_name (swap_of a b))) (left_name (swap_of a b)) (right_name (swap_of a b)) c na nb h

  swapped_stands : (t : NominalTerm) → stands_in_term n t ≡ false → stands_in_term n (act_term (swap_of a b ∷ []) t) ≡ false
  swapped_stands terms.unit h = refl
  swapped_stands (terms.name c) h = image c h
  swapped_stands (terms.pair t u) h =
      let w = or_false (stands_in_term n t) (stands_in_term n u) h in
      neither _ _ (swapped_stands t w.0) (swapped_stands u w.1)
  swapped_stands (terms.app f t) h = swapped_stands t h
  swapped_stands (terms.abs c t) h =
      let w = or_false (n == c.num) (stands_in_term n t) h in
      neither _ _ (image c w.0) (swapped_stands t w.1)
  swapped_stands (terms.susp p x) h =
      let w = or_false (stands_in_swaps n p) (n == x.num) h in
      neither _ _ (neither _ _ (neither _ _ na nb) w.0) w.1

pub carried_stands : (n : ℕ) (t : RawTerm) → stands_in_raw n t ≡ false → stands_in_term n (carried_out t) ≡ false
carried_stands n raw.unit h = refl
carried_stands n (raw.name c) h = h
carried_stands n (raw.var x) h = h
carried_stands n (raw.pair t u) h =
    let w = or_false (stands_in_raw n t) (stands_in_raw n u) h in
    neither _ _ (carried_stands n t w.0) (carried_stands n u w.1)
carried_stands n (raw.app f t) h = carried_stands n t h
carried_stands n (raw.abs (ids.Name c) t) h =
    let w = or_false (n == c.num) (stands_in_raw n t) h in
    neither _ _ w.0 (carried_stands n t w.1)
carried_stands n (raw.abs (ids.Var x) t) h = carried_stands n t ((or_false (n == x.num) (stands_in_raw n t) h).1)
carried_stands n (raw.swapped (ids.Name a) (ids.Name b) t) h =
    let w = or_false ((n == a.num) || (n == b.num)) (stands_in_raw n t) h in
    let v = or_false (n == a.num) (n == b.num) w.0 in
    swapped_stands n a b v.0 v.1 (carried_out t) (carried_stands n t w.1)
carried_stands n (raw.swapped (ids.Var x) j t) h = carried_stands n t ((or_false ((n == x.num) || (n == id_number j)) (stands_in_raw n t) h).1)
carried_stands n (raw.swapped (ids.Name a) (ids.Var x) t) h = carried_stands n t ((or_false ((n == a.num) || (n == x.num)) (stands_in_raw n t) h).1)

some_stands : (n : ℕ) (ts : List RawTerm) → stands_in_some stands_in_raw n ts ≡ false → stands_in_some stands_in_term n (map carried_out ts) ≡ false
some_stands n [] h = refl
some_stands n (t ∷ ts) h =
    let w = or_false (stands_in_raw n t) (stands_in_some stands_in_raw n ts) h in
    neither _ _ (carried_stands n t w.0) (some_stands n ts w.1)

two_stand : (n : ℕ) (t u : RawTerm) → (stands_in_raw n t || stands_in_raw n u) ≡ false → (stands_in_term n (carried_out t) || stands_in_term n (carried_out u)) ≡ false
two_stand n t u h =
    let w = or_false (stands_in_raw n t) (stands_in_raw n u) h in
    neither _ _ (carried_stands n t w.0) (carried_stands n u w.1)

within : (p x y : Bool) → (x ≡ false → y ≡ false) → (p && x) ≡ false → (p && y) ≡ false
within true x y f h = f h
within false x y f h = refl

free_stands : (n : ℕ) (g : GoalOver RawTerm) → stands_free stands_in_raw n g ≡ false → stands_free stands_in_term n (map_goal carried_out g) ≡ false
free_stands n succeed h = refl
free_stands n (atom p ts) h = some_stands n ts h
free_stands n (equal t u) h = two_stand n t u h
free_stands n (fresh t u) h = two_stand n t u h
free_stands n (both g k) h =
    let w = or_false (stands_free stands_in_raw n g) (stands_free stands_in_raw n k) h in
    neither _ _ (free_stands n g w.0) (free_stands n k w.1)
free_stands n (either g k) h =
    let w = or_false (stands_free stands_in_raw n g) (stands_free stands_in_raw n k) h in
    neither _ _ (free_stands n g w.0) (free_stands n k w.1)
free_stands n (exists x g) h = within (not (n == x.num)) (stands_free stands_in_raw n g) (stands_free stands_in_term n (map_goal carried_out g)) (free_stands n g) h
free_stands n (new a g) h = within (not (n == a.num)) (stands_free stands_in_raw n g) (stands_free stands_in_term n (map_goal carried_out g)) (free_stands n g) h

same_brought : (g : GoalOver RawTerm) → brought (map_goal carried_out g) ≡ brought g
same_brought succeed = refl
same_brought (atom p ts) = refl
same_brought (equal t u) = refl
same_brought (fresh t u) = refl
same_brought (both g k) = ap₂ (λ x y. x ++ y) (same_brought g) (same_brought k)
same_brought (either g k) = ap₂ (λ x y. x ++ y) (same_brought g) (same_brought k)
same_brought (exists x g) = ap (λ ns. x.num ∷ ns) (same_brought g)
same_brought (new a g) = ap (λ ns. a.num ∷ ns) (same_brought g)

pub carried_scoped : (locals : List NominalLocal) (args : List RawTerm) (g : GoalOver RawTerm) → IsScoped stands_in_raw locals args g
    → IsScoped stands_in_term locals (map carried_out args) (map_goal carried_out g)
carried_scoped locals args g h = record {
  marked = subst (AreMarked locals) (sym (same_brought g)) h.marked;
  once = subst EachOnce (sym (same_brought g)) h.once;
  inside = λ n m. (some_stands n args (h.inside n m).0, free_stands n g (h.inside n m).1);
}
