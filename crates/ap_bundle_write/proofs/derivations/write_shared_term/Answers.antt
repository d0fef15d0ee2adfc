use Rattle.std.proofs.Common.{◌++◌, ◌∙◌, ap}
use Rattle.std.proofs.lemmas.Result.{on_ok_weaker}
use Rattle.ap_shared.specs.Shared.{shared_at}
use Rattle.ap_shared.specs.SharedViews.{shared_terms}
use Rattle.ap_bundle.specs.declared.words.Head.TheVariants as head
use Rattle.ap_bundle.specs.Written.{counted_line}
use Rattle.ap_bundle_write.specs.Tables.{held_terms}
use Rattle.ap_bundle_write.proofs.WritingLemmas.{shared_term}
use Rattle.ap_bundle_write.proofs.derivations.write_shared_term.Goals as goal

pub returns-clause-text : goal.returns-clause-text
returns-clause-text c =
    on_ok_weaker c.write_count.result
    (λ e. shared_term (held_terms c.args.table.now) (held_terms c.enter.new.self) c.args.out.now.items c.write_count.new.out.items (shared_at (shared_terms c.args.terms.now) c.args.line) c.in_ok-number.ensures.held (e ∙ ap (λ n. c.args.out.now.items ++ counted_line head.R n) c.in_ok-number.ensures.number))
    c.write_count.ensures
