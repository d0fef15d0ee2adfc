-- What is proved so far, and what is left, are all.
use Rattle.std.proofs.Common.{◌≡◌, ◌-◌, ◌++◌, map, length}
use Rattle.std.specs.List.{AllByRecursion}
use Rattle.std.specs.Prelude.{Some, flat_map, slice_get}
use Rattle.std.specs.Vec.Iter.{into_iter_items, into_iter_len}
use Rattle.ap_defs.specs.Answers.{outs_of}
use Rattle.ap_defs.specs.Goals.{NominalQuery}
use Rattle.ap_backchain.specs.Problems.{clauses_in, queries_in}
use Rattle.ap_shared.specs.SharedViews.{shared_proved}
use Rattle.ap_query_proofs.specs.ProvedPaths.{IsLed, proof_at}
use Rattle.ap_query_proofs.proofs.proving.prove_outs.Given as goal

abbrev pub invariant-loop-out : goal.invariant-loop-out
invariant-loop-out l = record {
  led : (q : NominalQuery) → slice_get (queries_in l.p) (l.p.query - 1) ≡ Some q → AllByRecursion (IsLed (clauses_in l.p) l.p.depth q) (outs_of (into_iter_items l.out-iterator));
  made : (q : NominalQuery) → slice_get (queries_in l.p) (l.p.query - 1) ≡ Some q
      → map shared_proved l.all.items ++ flat_map (proof_at (clauses_in l.p) l.p.depth l.p.query q) (outs_of (into_iter_items l.out-iterator))
      ≡ map shared_proved l.fn.all.items ++ flat_map (proof_at (clauses_in l.p) l.p.depth l.p.query q) (outs_of (into_iter_items l.initial.out-iterator));
  count : into_iter_len l.out-iterator ≡ length (into_iter_items l.out-iterator);
}
