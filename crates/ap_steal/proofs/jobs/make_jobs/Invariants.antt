use Rattle.std.proofs.Common.{◌≡◌, ◌+◌, ◌++◌, All, map, reverse, vec_len}
use Rattle.atomic_table.specs.Seated.{TableId}
use Rattle.ap_tools.specs.Planned.{IsNewSeat}
use Rattle.ap_steal.proofs.jobs.make_jobs.Given as goal

abbrev pub invariant-loop-seat : goal.invariant-loop-seat
invariant-loop-seat g l =
    (vec_len l.seats ≡ vec_len l.tools)
    × (vec_len l.jobs + vec_len l.seats ≡ vec_len l.initial.seats)
    × (l.tools.items ++ reverse (map (λ j. j.tools) l.jobs.items) ≡ l.initial.tools.items)
    × ((book : TableId) → All (λ s. IsNewSeat book s) l.initial.seats.items → All (λ s. IsNewSeat book s) l.seats.items × All (λ j. IsNewSeat book j.seat) l.jobs.items)

abbrev pub decreases-loop-seat : goal.decreases-loop-seat
decreases-loop-seat g l = vec_len l.seats
