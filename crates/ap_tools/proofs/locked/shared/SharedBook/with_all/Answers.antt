use Rattle.std.proofs.Common.{rules, ◌≡◌, sym, subst, Some, List, [], ◌∷◌, map}
use mathlib.Core.Option.{some}
use Rattle.ap_tools.specs.declared.locked.view.Stage.TheVariants.{Idle}
use Rattle.ap_tools.specs.Turns.{Slot, SeatsKept, view, fresh_owns}
use Rattle.ap_tools.proofs.Steps.{begin_step}
use Rattle.ap_tools.proofs.locked.shared.SharedBook.with_all.Goals as goal

pub new-requires-2 : goal.new-requires-2
new-requires-2 c =
    let n = c.args.seats in
    let one : c.push.new.self.items ≡ Some [] ∷ [] = search rules in
    subst (λ (xs : List Slot). SeatsKept n record { words = 0 ∷ 0 ∷ []; homes = map some xs; views = view Idle (fresh_owns 0 n) ∷ [] }) (sym one) (begin_step n c.requires.1)
