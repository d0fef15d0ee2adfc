use Rattle.std.proofs.Common.{inr}
use Rattle.std.proofs.lemmas.List.{nil_from_length}
use Rattle.ap_store.proofs.MentionLemmas.{mark_next, mark_none}
use Rattle.ap_store.proofs.mentions.mark_each.Goals as goal

pub marking-init : goal.marking-init
marking-init c = record { stay = λ i h. h; marked = λ y h. inr h }

pub marking-preserved : goal.marking-preserved
marking-preserved c = record {
  stay = λ i h. c.mark_one.ensures.stay i (c.marking.invariant.stay i h);
  marked = λ y h. mark_next c.marking.marks.items c.mark_one.new.marks.items c.marking.rest.now c.in-Some.others.now c.in-Some.x.now y c.in-Some.ensures.cases.0 c.mark_one.ensures.stay c.in_ok-mark_one.ensures.marked (c.marking.invariant.marked y h);
}

pub returns-in_err-mark_one-clause-stay : goal.returns-in_err-mark_one-clause-stay
returns-in_err-mark_one-clause-stay c = λ i h. c.mark_one.ensures.stay i (c.marking.invariant.stay i h)

pub returns-clause-marked : goal.returns-clause-marked
returns-clause-marked c = λ y h. mark_none c.marking.marks.items c.marking.rest.now y (nil_from_length c.marking.rest.now c.in_default.ensures.cases) (c.marking.invariant.marked y h)
