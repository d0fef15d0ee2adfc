use Rattle.std.proofs.Common.{ap, sym, ◌∙◌}
use Rattle.std.specs.Prelude.{Some, reverse}
use Rattle.ap_shared.specs.SharedViews.{shared_terms}
use Rattle.ap_bundle_write.specs.Tables.{words_by}
use Rattle.ap_bundle_write.proofs.table.words_of.Goals as goal

pub returns-in_ok-words-in-Some : goal.returns-in_ok-words-in-Some
returns-in_ok-words-in-Some c =
    c.in_ok-words-in-Some.ensures (shared_terms c.args.terms.now) ∙ ap (λ t. words_by t (reverse c.args.numbers.now.items)) (sym c.in-Some.ensures.term)

pub returns-in_ok-words-in-None : goal.returns-in_ok-words-in-None
returns-in_ok-words-in-None c =
    let ns = reverse c.args.numbers.now.items in
    ap (λ ws. Some (ws, ns)) c.in_ok-words-in-None.ensures ∙ ap (λ t. words_by t ns) (sym c.in-None.ensures.term)
