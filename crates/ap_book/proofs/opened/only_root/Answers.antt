use Rattle.std.proofs.Common.{◌∙◌, [], refl, ap, ◌+◌}
use Rattle.ap_paths.specs.Weights.{weigh, is_it}
use Rattle.ap_book.specs.Kept.{paths_of}
use Rattle.ap_book.proofs.Opening.{after_insert}
use Rattle.ap_book.proofs.opened.only_root.Goals as goal

pub returns : goal.returns
returns c = λ h.
    let none = c.new-opened.ensures.empty in
    after_insert c.new.result c.new-opened.result.keys c.insert.new.self.keys c.insert.result (rw c.in_ok-insert.was refl) c.insert.ensures.added c.insert.ensures.keys (ap (λ vs. weigh (is_it c.new.result.items) (paths_of vs)) none) h
    ∙ ap (λ p. h p + weigh h (paths_of c.new-opened.result.keys)) c.new.ensures.items ∙ ap (λ vs. h [] + weigh h (paths_of vs)) none
