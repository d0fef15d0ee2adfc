-- The holes so far were read, and the next one is past those that were.
use Rattle.std.proofs.Common.{◌≤◌, ◌<◌, ◌-◌, ◌⊎◌, length}
use Rattle.ap_types.specs.Triangular.{shapes_of_nodes, assignment_of}
use Rattle.ap_kinds.specs.declared.read_types.Declared.{Declared}
use Rattle.ap_kinds.specs.ReadTypes.{AreAllRead, AreFirstRead}
use Rattle.ap_kinds.proofs.tables.first_reads.Given as goal

abbrev pub invariant-rest : goal.invariant-rest
invariant-rest l = record {
  few : length l.reads.items ≤ l.count;
  past : length l.reads.items < l.count → (l.table.holes ≤ length l.reads.items) ⊎ (length l.fn.all.items ≤ length l.reads.items);
  first : (by : Declared) → AreAllRead by (shapes_of_nodes l.table.nodes.items) l.fn.all.items → AreFirstRead by (length l.reads.items) (assignment_of l.table) l.reads.items;
}

abbrev pub decreases-rest : goal.decreases-rest
decreases-rest l = l.count - length l.reads.items
