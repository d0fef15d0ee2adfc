use Rattle.std.proofs.Common.{◌-◌, sym, ◌∙◌, arith}
use Rattle.std.specs.BTreeMap.{get}
use Rattle.std.specs.Ordering.{nat_cmp}
use Rattle.ap_judge.proofs.IndexLemmas.{once_more, place_more, twice_here}
use Rattle.ap_judge.proofs.index.places_of.Goals as goal

pub returns-then-is_some : goal.returns-then-is_some
returns-then-is_some c =
    twice_here c.args.vars.now c.loop-i.i (c.loop-i.i - 1) c.index-vars-i.result (omega arith) (omega arith) c.in_ok-insert.field-0 (get nat_cmp c.loop-i.places)
    c.in_ok-insert.ensures.old c.loop-i.invariant.places (sym c.is_some.ensures ∙ c.if-is_some.true)

pub loop-i-preserved : goal.loop-i-preserved
loop-i-preserved c = record {
  once =
      once_more c.args.vars.now c.loop-i.i (c.loop-i.i - 1) c.index-vars-i.result (omega arith) (omega arith) c.in_ok-insert.field-0 (get nat_cmp c.loop-i.places)
      c.in_ok-insert.ensures.old c.loop-i.invariant.places (sym c.is_some.ensures ∙ c.if-is_some.false) c.loop-i.invariant.once;
  places = λ x.
      place_more c.args.vars.now c.loop-i.i (c.loop-i.i - 1) c.index-vars-i.result (omega arith) (omega arith) x (get nat_cmp c.loop-i.places) (get nat_cmp c.insert.new.self)
      (c.in_ok-insert.ensures.updates.0 x) (c.loop-i.invariant.places x);
}
