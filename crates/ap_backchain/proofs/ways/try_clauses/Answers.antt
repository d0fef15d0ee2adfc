use Rattle.std.proofs.Common.{◌≡◌, ℕ, ◌+◌, ◌<◌, ◌≤◌, Bool, List, [], ◌∷◌, ◌++◌, length, get_or, map, ap, ◌∙◌, refl, sym, subst, arith}
use Rattle.ap_defs.specs.Goals.{clause_of}
use Rattle.ap_defs.specs.Renaming.{AreBelow, rename_term}
use Rattle.ap_defs.specs.Terms.{term_of}
use Rattle.ap_defs.specs.declared.goals.Clause.{Clause}
use Rattle.ap_defs.specs.declared.terms.Term.{Term}
use Rattle.ap_machine.specs.Machines.{position_if, position_of, track_of}
use Rattle.ap_backchain.specs.ChoicePoints.{positions_left}
use Rattle.ap_machine.specs.Positions.{Position, enters_clause}
use Rattle.ap_backchain.specs.Searches.{pending_positions}
use Rattle.ap_machine.specs.Tracks.{GoesFrom, Track}
use Rattle.ap_backchain.specs.declared.points.ChoicePoint.{ChoicePoint}
use Rattle.ap_backchain.specs.declared.points.Rest.TheVariants as rests
use Rattle.ap_backchain.proofs.ApartLemmas.{left_skipped}
use Rattle.ap_backchain.proofs.ChooseLemmas.{fit_here}
use Rattle.ap_backchain.proofs.RunLemmas.{clause_left, next_same, no_clause_left, pending_rest, pending_goes, points_goes, points_rest}
use Rattle.ap_machine.proofs.TrackLemmas.{goes_same}
use Rattle.ap_backchain.proofs.ways.try_clauses.Goals as goal

pub enter_clause-requires-clause-args : goal.enter_clause-requires-clause-args
enter_clause-requires-clause-args c =
    subst (λ (n : ℕ). AreBelow n (map (rename_term c.args.untried.base) (map term_of c.args.untried.args.now)))
    (sym (next_same c.args.machine.now c.trying.machine c.trying.invariant.track)) c.requires.rest.0

pub enter_clause-requires-clause-clause : goal.enter_clause-requires-clause-clause
enter_clause-requires-clause-clause c =
    let n : length c.clauses-clauses.result.now ≡ length c.args.untried.clauses.now = ap (λ (cs : List (Clause Term)). length cs) c.clauses-clauses.ensures in
    fit_here c.args.untried.clauses.now c.trying.i c.index-clauses-i.result (omega (arith, n))
    (c.index-clauses-i.is ∙ ap (λ (cs : List (Clause Term)). get_or cs c.trying.i c.index-clauses-i.result) c.clauses-clauses.ensures) c.requires.rest.1

-- what entering a clause gave, where it is known whether that has a solution
entered : (b d : Bool) (p : Position) (ps : List Position) → position_if b p ≡ ps → b ≡ d → position_if d p ≡ ps
entered b d p ps h e = subst (λ (x : Bool). position_if x p ≡ ps) e h

pub trying-init : goal.trying-init
trying-init c = record {
  track = refl;
  position = refl;
  points = refl;
  left = left_skipped c.args.machine.now c.args.untried c.key_of_atom-key.result c.key_of_atom-key.ensures c.args.untried.tried c.next-i.result c.next-i.ensures;
}

pub trying-preserved : goal.trying-preserved
trying-preserved c =
    let u = c.args.untried in let i = c.trying.i in let p = position_of c.args.machine.now in
    let n : length c.clauses-clauses.result.now ≡ length u.clauses.now = ap (λ (cs : List (Clause Term)). length cs) c.clauses-clauses.ensures in
    let h : i < length u.clauses.now = omega (arith, n) in
    let is = c.index-clauses-i.is ∙ ap (λ (cs : List (Clause Term)). get_or cs i c.index-clauses-i.result) c.clauses-clauses.ensures in
    let before = c.trying.invariant in
    let same = c.in_ok-enter_clause.ensures.none c.if-branch.false in
    let none = entered c.in_ok-enter_clause.field-0 _ (position_of c.enter_clause.new.machine) _ c.in_ok-enter_clause.ensures.entered c.if-branch.false
    ∙ ap (λ (q : Position). enters_clause u.depth (map (rename_term u.base) (map term_of u.args.now)) q (i + 1) (clause_of c.index-clauses-i.result)) before.position in
    record {
      track = same.0 ∙ before.track;
      position = same.1 ∙ before.position;
      points = before.points;
      left =
          before.left ∙ clause_left u i c.index-clauses-i.result p h is
          ∙ ap (λ (ps : List Position). ps ++ positions_left (rests.Clauses (record u { tried = i + 1 })) p) (sym none)
          ∙ left_skipped c.args.machine.now u c.key_of_atom-key.result c.key_of_atom-key.ensures (i + 1) c.next-next.result c.next-next.ensures;
    }

-- the search has gone on from where it stood before the clauses were tried
goes : (c : goal.In_ok-keep_rest) → GoesFrom (track_of c.args.machine.now) (track_of c.enter_clause.new.machine)
goes c = subst (λ (t : Track). GoesFrom t (track_of c.enter_clause.new.machine)) c.trying.invariant.track c.in_ok-enter_clause.ensures.goes

pub returns-then-branch-clause-left : goal.returns-then-branch-clause-left
returns-then-branch-clause-left c =
    let u = c.args.untried in let i = c.trying.i in let n = c.next-next.result in let b = c.args.machine.now in let d = c.enter_clause.new.machine in
    let us = c.args.points.now in let vs = c.keep_rest.new.points in
    let m : length c.clauses-clauses.result.now ≡ length u.clauses.now = ap (λ (cs : List (Clause Term)). length cs) c.clauses-clauses.ensures in
    let h : i < length u.clauses.now = omega (arith, m) in
    let is = c.index-clauses-i.is ∙ ap (λ (cs : List (Clause Term)). get_or cs i c.index-clauses-i.result) c.clauses-clauses.ensures in
    let before = c.trying.invariant in
    let others = positions_left (rests.Clauses (record u { tried = i + 1 })) (position_of b) in
    let one = entered c.in_ok-enter_clause.field-0 _ (position_of d) _ c.in_ok-enter_clause.ensures.entered c.if-branch.true
    ∙ ap (λ (q : Position). enters_clause u.depth (map (rename_term u.base) (map term_of u.args.now)) q (i + 1) (clause_of c.index-clauses-i.result)) before.position in
    let after : positions_left (rests.Clauses (record u { tried = n })) (position_of b) ≡ others =
    sym (left_skipped b u c.key_of_atom-key.result c.key_of_atom-key.ensures (i + 1) n c.next-next.ensures) in
    let rest : pending_positions d vs ≡ others ++ pending_positions b us =
    pending_rest c.save-save.result b d c.save-save.ensures.within c.save-save.ensures.track c.save-save.ensures.position (goes c) u n us vs
    (λ k. c.in_ok-keep_rest.ensures.kept k ∙ ap (λ (ps : List ChoicePoint). ps ++ record { save = c.save-save.result; rest = rests.Clauses (record u { tried = n }) } ∷ []) before.points)
    (λ k. c.in_ok-keep_rest.ensures.none k ∙ before.points) c.requires.points
    ∙ ap (λ (ps : List Position). ps ++ pending_positions b us) after in
    ap (λ (ps : List Position). position_of d ∷ ps) rest
    ∙ ap (λ (ps : List Position). (ps ++ others) ++ pending_positions b us) one
    ∙ ap (λ (ps : List Position). ps ++ pending_positions b us) (sym (before.left ∙ clause_left u i c.index-clauses-i.result (position_of b) h is))

pub returns-then-branch-clause-points : goal.returns-then-branch-clause-points
returns-then-branch-clause-points c =
    let u = c.args.untried in let n = c.next-next.result in let before = c.trying.invariant in
    points_rest c.save-save.result c.args.machine.now c.enter_clause.new.machine c.save-save.ensures.within c.save-save.ensures.track c.save-save.ensures.position (goes c)
    u n c.args.points.now c.keep_rest.new.points
    (λ k. c.in_ok-keep_rest.ensures.kept k ∙ ap (λ (ps : List ChoicePoint). ps ++ record { save = c.save-save.result; rest = rests.Clauses (record u { tried = n }) } ∷ []) before.points)
    (λ k. c.in_ok-keep_rest.ensures.none k ∙ before.points) c.requires.points c.requires.rest

pub returns-clause-left : goal.returns-clause-left
returns-clause-left c =
    let u = c.args.untried in let i = c.trying.i in let b = c.args.machine.now in let d = c.trying.machine in let before = c.trying.invariant in
    let n : length c.clauses-clauses.result.now ≡ length u.clauses.now = ap (λ (cs : List (Clause Term)). length cs) c.clauses-clauses.ensures in
    let l : length u.clauses.now ≤ i = omega (arith, n) in
    pending_goes b d c.args.points.now c.trying.points before.points c.requires.points (goes_same (track_of b) (track_of d) before.track)
    ∙ ap (λ (ps : List Position). ps ++ pending_positions b c.args.points.now) (sym (before.left ∙ no_clause_left u i (position_of b) l))

pub returns-clause-points : goal.returns-clause-points
returns-clause-points c =
    let b = c.args.machine.now in let d = c.trying.machine in let before = c.trying.invariant in
    points_goes b d c.args.points.now c.trying.points before.points c.requires.points (goes_same (track_of b) (track_of d) before.track)
