use Rattle.std.proofs.Common.{rules, ◌≡◌, ◌∷◌, ◌++◌, [], List, All, sym, subst}
use Rattle.std.proofs.lemmas.List.Elements.{All-append}
use Rattle.ap_tools.specs.Seats.{SeatView}
use Rattle.ap_steal.specs.declared.jobs.Job.{Job}
use Rattle.ap_tools.specs.Planned.{IsNewSeat}
use Rattle.ap_tools.proofs.Whole.{all_one, all_last}
use Rattle.ap_tools.proofs.Fresh.{taken_over}
use Rattle.ap_steal.proofs.jobs.make_jobs.Goals as goal

pub loop-seat-preserved : goal.loop-seat-preserved
loop-seat-preserved g c =
    let v = c.loop-seat.invariant in
    let job : Job g.row.W.Denot = record { seat = c.in-Some.seat; tools = c.in-Some-pop.one } in
    let more : c.push.new.self.items ≡ c.loop-seat.jobs.items ++ job ∷ [] = search rules in (
      search rules,
      search rules,
      taken_over (λ (j : Job g.row.W.Denot). j.tools) _ _ _ _ _ job c.in-Some-pop.ensures.items more v.2,
      λ book h.
          let w = v.3 book h in
          let s = all_last (λ (s : SeatView). IsNewSeat book s) _ _ _ c.in-Some.ensures.items w.0 in
          (s.0, subst (λ (l : List (Job g.row.W.Denot)). All (λ j. IsNewSeat book j.seat) l) (sym more) (All-append (λ (j : Job g.row.W.Denot). IsNewSeat book j.seat) c.loop-seat.jobs.items (job ∷ []) w.1 (all_one (λ (j : Job g.row.W.Denot). IsNewSeat book j.seat) job s.1))),
    )
