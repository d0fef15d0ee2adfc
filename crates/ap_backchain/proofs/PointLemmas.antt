-- Choices stay as they are while the search goes on.
use Rattle.std.proofs.Common.{◌≡◌, List, [], ◌∷◌, ◌++◌, refl, sym, ap, subst}
use Rattle.ap_backchain.specs.ChoicePoints.{ArePoints, IsFitRest, positions_left, positions_pending}
use Rattle.ap_machine.specs.Below.{AreWaitingBelow}
use Rattle.ap_machine.specs.Tracks.{GoesFrom, Track, next_in, position_at}
use Rattle.ap_backchain.specs.declared.points.ChoicePoint.{ChoicePoint}
use Rattle.ap_machine.proofs.TrackLemmas.{back_from, within_from}

pub pending_from : (t u : Track) (ps : List ChoicePoint) → ArePoints t ps → GoesFrom t u → positions_pending u ps ≡ positions_pending t ps
pending_from t u [] h g = refl
pending_from t u (p ∷ ps) h g =
    ap (λ v. positions_left p.rest (position_at v p.save.first) ++ positions_pending v ps) (back_from p.save t u h.0.within g)

pub points_from : (t u : Track) (ps : List ChoicePoint) → ArePoints t ps → GoesFrom t u → ArePoints u ps
points_from t u [] h g = tt
points_from t u (p ∷ ps) h g =
    let e = sym (back_from p.save t u h.0.within g) in (
      record {
        within = within_from p.save t u h.0.within g;
        waiting = subst (λ (v : Track). AreWaitingBelow (next_in v) (position_at v p.save.first).waiting) e h.0.waiting;
        rest = subst (λ (v : Track). IsFitRest (next_in v) p.rest) e h.0.rest;
      },
      subst (λ (v : Track). ArePoints v ps) e h.1,
    )
