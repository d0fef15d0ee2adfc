use Rattle.std.proofs.Common.{◌≡◌, ◌≤◌, ◌+◌, ◌++◌, ℕ, length, map, take, vec_len}
use Rattle.std.specs.Prelude.{vec_capacity}
use Rattle.ap_defs.specs.Resolution.{kinds_of}
use Rattle.ap_defs.specs.Types.{locals_of}
use Rattle.ap_store.specs.Marks.{ground_in}
use Rattle.ap_store.specs.Slots.{AreKeptBelow, bound_in, slot_kind}
use Rattle.ap_store.proofs.tables.add_slots.Given as goal

-- slots for the identifiers so far, and room for the rest
abbrev pub invariant-adding : goal.invariant-adding
invariant-adding l = record {
  kinds : map slot_kind l.table.items ≡ map slot_kind l.initial.table.items ++ kinds_of (locals_of (take l.local-index l.locals));
  bound : (i : ℕ) → bound_in l.table.items i ≡ bound_in l.initial.table.items i;
  marks : (i : ℕ) → ground_in l.table.items i ≡ ground_in l.initial.table.items i;
  counted : length l.table.items ≡ length l.initial.table.items + l.local-index;
  below : (n : ℕ) → AreKeptBelow n l.initial.table.items → AreKeptBelow n l.table.items;
  room : vec_len l.table + length l.locals ≤ vec_capacity l.table + l.local-index;
}
