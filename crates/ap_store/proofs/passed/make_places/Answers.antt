use Rattle.std.proofs.Common.{◌≡◌, ◌∙◌, Bool, List, true, true≢false, sym, ap}
use Rattle.ap_store.specs.Passed.{is_mark_at}
use Rattle.ap_store.proofs.PassedLemmas.{none_marked}
use Rattle.ap_store.proofs.passed.make_places.Goals as goal

pub returns : goal.returns
returns c = λ i h. absurd (true≢false (sym (none_marked c.args.end i (sym (ap (λ (ms : List Bool). is_mark_at ms i) (c.in_ok-passed.ensures.items_if_clones_equal (λ y e. e))) ∙ h))))
