-- The kinds so far and those of the rest are all.
use Rattle.std.proofs.Common.{◌≡◌, ◌++◌, List, length, drop, map}
use Rattle.ap_defs.specs.Types.{TypeShape, kind_of}
use Rattle.ap_kinds.specs.declared.read_types.Declared.{Declared}
use Rattle.ap_kinds.specs.Reading.{read_kinds}
use Rattle.ap_kinds.specs.ReadTypes.{AreFirstRead}
use Rattle.ap_kinds.proofs.reading.read_kinds.Given as goal

abbrev pub invariant-loop-read : goal.invariant-loop-read
invariant-loop-read l = record {
  at : length l.kinds.items ≡ length l.yielded;
  done : (by : Declared) (ts : List TypeShape) → AreFirstRead by (length l.idents) ts l.fn.reads.items
      → map kind_of l.kinds.items ++ read_kinds ts (length l.kinds.items) (drop (length l.kinds.items) l.idents) ≡ read_kinds ts 0 l.idents;
}
