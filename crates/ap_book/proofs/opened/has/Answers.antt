use Rattle.std.proofs.Common.{◌∙◌, ap}
use Rattle.ap_paths.specs.History.{is_open}
use Rattle.ap_book.specs.Kept.{paths_of}
use Rattle.ap_book.proofs.Opening.{has_open}
use Rattle.ap_book.proofs.opened.has.Goals as goal

pub returns : goal.returns
returns c = c.contains.ensures ∙ has_open c.choices.result.now c.args.opened.now.keys ∙ ap (λ p. is_open p (paths_of c.args.opened.now.keys)) c.choices.ensures
