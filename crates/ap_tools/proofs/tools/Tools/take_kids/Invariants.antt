use Rattle.std.proofs.Common.{◌≡◌, ℕ, ◌+◌, ◌-◌, List, ◌++◌, drop, length, true}
use Rattle.ap_paths.specs.Weights.{weigh}
use Rattle.ap_paths.specs.History.{kids_of}
use Rattle.ap_tools.proofs.tools.Tools.take_kids.Given as goal
use Rattle.ap_tools.specs.Order.{KeepsWho}
use Rattle.ap_tools.specs.Hands.{held}
use Rattle.ap_tools.specs.Accounts.{fetched}

abbrev pub invariant-loop-i : goal.invariant-loop-i
invariant-loop-i g l =
    KeepsWho l.initial.self l.self
    × (l.initial.self.alone ≡ true → l.self.hand.items ≡ kids_of l.path (drop (length l.kids - l.i) l.kids) ++ l.initial.self.hand.items)
    × ((h : List ℕ → ℕ) → held h l.self ≡ weigh h (kids_of l.path (drop (length l.kids - l.i) l.kids)) + held h l.initial.self)
    × ((h : List ℕ → ℕ) → fetched h l.self ≡ fetched h l.initial.self)
