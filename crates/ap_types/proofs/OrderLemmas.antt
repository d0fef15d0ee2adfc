-- Places in the order in which a walk left them.
use Rattle.std.proofs.Common.{◌≡◌, ◌<◌, ◌≤◌, ◌⊎◌, ℕ, true, false, List, [], length, get_or, inl, inr, ap, arith}
use Rattle.std.proofs.lemmas.List.{get_or_past}
use Rattle.ap_defs.specs.Types.{TypeShape}
use Rattle.ap_types.specs.declared.walking.Mark.{Mark}
use Rattle.ap_types.specs.declared.walking.Mark.TheVariants as marks
use Rattle.ap_types.specs.Walking.{walk_mark_at, is_left, IsWalk, AreInOrder}

below_or_past : (i j : ℕ) → (i < j) ⊎ (j ≤ i)
below_or_past i j = grind arith

-- where all places were left they are in order
pub all_in_order : (ts : List TypeShape) (ms : List Mark) (order : List ℕ) → IsWalk ts ms order [] → ((x : ℕ) → x < length ts → is_left (walk_mark_at ms x) ≡ true) → AreInOrder ts order
all_in_order ts ms order w a = record {
  within = λ k l. elim (below_or_past (get_or order k 0) (length ts)) [
    | inl b ↦ b
    | inr b ↦
        let long = w.as_long in
        let past : walk_mark_at ms (get_or order k 0) ≡ marks.New = get_or_past ms (get_or order k 0) marks.New (omega (arith, b, long)) in
        let gone : is_left (walk_mark_at ms (get_or order k 0)) ≡ false = ap is_left past in
        let here = w.marked k l in
        cc
  ];
  whole = λ x l. w.placed x (a x l);
  behind = λ k c l p. w.ordered k c l p;
}
