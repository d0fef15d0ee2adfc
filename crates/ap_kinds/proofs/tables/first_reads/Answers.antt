use Rattle.std.proofs.Common.{◌≡◌, ◌∙◌, length, sym, ap, subst, arith}
use Rattle.std.specs.Prelude.{min}
use Rattle.std.proofs.lemmas.List.{length-take}
use Rattle.ap_types.specs.Triangular.{assignment_of}
use Rattle.ap_kinds.specs.ReadTypes.{AreFirstRead}
use Rattle.ap_kinds.proofs.PlaceLemmas.{one_first, taken_first, kept_past, past_more, past_open, push_length}
use Rattle.ap_kinds.proofs.tables.first_reads.Goals as goal

pub rest-init : goal.rest-init
rest-init c =
    let s = c.args.table.now in
    let rs = c.args.all.items in
    let new = c.truncate.new.self.items in
    let kept = c.lesser-kept.result in
    let cut = c.truncate.ensures.items in
    let long : length new ≡ min kept (length rs) = ap length cut ∙ length-take kept rs in
    let least = c.lesser-kept.ensures in
    record {
      few = omega (arith, long, least);
      past = λ l. kept_past s.holes c.args.count (length rs) kept (length new) least long l;
      first = λ by h. taken_first by s rs new kept (omega (arith, least)) cut h;
    }

pub rest-preserved : goal.rest-preserved
rest-preserved c =
    let s = c.args.table.now in
    let rs = c.rest.reads.items in
    let more = c.in_ok-push.ensures.items in
    let long = push_length rs c.push.new.self.items c.read_open.result more in
    record {
      few = omega (arith, long, c.rest-test.true, c.len.ensures);
      past = λ l. past_more s.holes (length c.args.all.items) (length rs) (length c.push.new.self.items) long (c.rest.invariant.past (omega (arith, c.rest-test.true, c.len.ensures)));
      first = λ by h. subst (λ n. AreFirstRead by n (assignment_of s) c.push.new.self.items) (sym long)
          (one_first by (assignment_of s) rs c.push.new.self.items c.read_open.result (length rs) (c.rest.invariant.first by h)
          (past_open by s c.args.all.items (length rs) c.read_open.result h (c.rest.invariant.past (omega (arith, c.rest-test.true, c.len.ensures))) c.read_open.ensures) more);
    }

pub rest-smaller : goal.rest-smaller
rest-smaller c =
    let long = push_length c.rest.reads.items c.push.new.self.items c.read_open.result c.in_ok-push.ensures.items in
    omega (arith, long, c.rest-test.true, c.len.ensures)

pub returns : goal.returns
returns c by h =
    let count : length c.rest.reads.items ≡ c.args.count = omega (arith, c.rest.invariant.few, c.rest-test.false, c.len.ensures) in
    subst (λ n. AreFirstRead by n (assignment_of c.args.table.now) c.rest.reads.items) count (c.rest.invariant.first by h)
