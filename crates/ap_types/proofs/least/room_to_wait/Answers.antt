use Rattle.std.proofs.Common.{◌≡◌, ◌∙◌, ◌++◌, ◌∷◌, [], ap}
use Rattle.ap_types.specs.Rules.{rules_at, later_weight}
use Rattle.ap_types.proofs.RuleLemmas.{rules_push, later_push}
use Rattle.ap_types.proofs.least.room_to_wait.Goals as goal

pub room-preserved : goal.room-preserved
room-preserved c =
    let v = c.new.result in
    let old = c.room.waiting.items in
    let more : c.push.new.self.items ≡ old ++ v ∷ [] = c.in_ok-push.ensures.items in
    record {
      waiting = λ d. ap (λ vs. rules_at vs d) more ∙ rules_push old v c.new.ensures.items d ∙ c.room.invariant.waiting d;
      weight = ap later_weight more ∙ later_push old v c.new.ensures.items ∙ c.room.invariant.weight;
    }
