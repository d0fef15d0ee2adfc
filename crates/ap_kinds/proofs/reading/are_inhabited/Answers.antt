use Rattle.std.proofs.Common.{◌∙◌, sym, arith}
use Rattle.ap_types.specs.Solving.{shape_at}
use Rattle.ap_kinds.specs.ReadTypes.{marks_of}
use Rattle.ap_kinds.proofs.InhabitedLemmas.{goes_on, fails_here, all_inhabited}
use Rattle.ap_kinds.proofs.PlaceLemmas.{read_index}
use Rattle.ap_kinds.proofs.reading.are_inhabited.Goals as goal

pub returns-then-not-is_name_or_inhabited : goal.returns-then-not-is_name_or_inhabited
returns-then-not-is_name_or_inhabited c by ts h =
    let i = c.loop-i.i in
    let here = c.loop-i-test.true in
    let many = c.requires in
    let read = read_index by (shape_at ts i) c.args.reads.now i c.index-reads-i.result (omega (arith, here, many)) c.index-reads-i.is (h.each i here) in
    fails_here (marks_of by) ts c.args.idents.now i here (sym c.if-not-is_name_or_inhabited.true ∙ c.is_name_or_inhabited.ensures by.name_types by.data_types (marks_of by) (shape_at ts i) read)
    ∙ c.loop-i.invariant by ts h

pub loop-i-preserved : goal.loop-i-preserved
loop-i-preserved c by ts h =
    let i = c.loop-i.i in
    let here = c.loop-i-test.true in
    let many = c.requires in
    let read = read_index by (shape_at ts i) c.args.reads.now i c.index-reads-i.result (omega (arith, here, many)) c.index-reads-i.is (h.each i here) in
    goes_on (marks_of by) ts c.args.idents.now i here (sym c.if-not-is_name_or_inhabited.false ∙ c.is_name_or_inhabited.ensures by.name_types by.data_types (marks_of by) (shape_at ts i) read)
    ∙ c.loop-i.invariant by ts h

pub returns : goal.returns
returns c by ts h = all_inhabited (marks_of by) ts c.args.idents.now c.loop-i.i c.loop-i-test.false ∙ c.loop-i.invariant by ts h
