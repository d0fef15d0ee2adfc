use Rattle.std.proofs.Common.{[], ◌++◌, ◌∙◌, ap, flat_map, subst}
use Rattle.std.specs.Prelude.{OnOk}
use Rattle.std.proofs.lemmas.Result.{on_ok_weaker}
use Rattle.ap_defs.specs.Derivations.{terms_in}
use Rattle.ap_bundle.specs.declared.words.Head.TheVariants as head
use Rattle.ap_bundle.specs.Nodes.{preorder}
use Rattle.ap_bundle.specs.Written.{counted_line, answer_lines, node_lines}
use Rattle.ap_shared.specs.SharedViews.{shared_answer, shared_derivation, shared_terms}
use Rattle.ap_shared.specs.declared.arena.SharedTerms.{SharedTerms}
use Rattle.ap_bundle_write.specs.Tables.{WritesLines, held_terms}
use Rattle.ap_bundle_write.proofs.WritingLemmas.{plain, follows}
use Rattle.ap_bundle_write.proofs.write.write_proved.Goals as goal

pub returns-clause-text : goal.returns-clause-text
returns-clause-text c =
    let v = c.args.version in
    let old = held_terms c.args.table.now in
    let first = held_terms c.start.new.self in
    let mid = held_terms c.write_answer.new.table in
    let new = held_terms c.write_derivation.new.table in
    let out = c.args.out.now.items in
    let p = c.args.proved.now in
    let ts = shared_terms c.as_ref-terms.result.now in
    let a = shared_answer ts p.answer in
    let d = shared_derivation ts p.derivation in
    let count = plain v first out c.write_count.new.out.items (counted_line head.Derivation p.query) c.in_ok-write_count.ensures in
    let all = on_ok_weaker c.write_derivation.result
    (λ w. follows v first first new out c.write_count.new.out.items c.write_derivation.new.out.items [] (a.binds ++ terms_in d) (λ way. counted_line head.Derivation p.query) (λ way. answer_lines way a ++ flat_map (node_lines way) (preorder d)) count
    (follows v first mid new c.write_count.new.out.items c.write_answer.new.out.items c.write_derivation.new.out.items a.binds (terms_in d) (λ way. answer_lines way a) (λ way. flat_map (node_lines way) (preorder d)) c.in_ok-write_answer.ensures.text w))
    c.write_derivation.ensures.text in
    rw (c.start.ensures.held, c.as_ref-terms.ensures) at all

pub write_answer-requires : goal.write_answer-requires
write_answer-requires c = c.start.ensures.entering (shared_terms c.as_ref-terms.result.now)

pub returns-clause-table : goal.returns-clause-table
returns-clause-table c = on_ok_weaker c.write_derivation.result (λ e. e.table) c.write_derivation.ensures.entering
