use Rattle.std.proofs.Common.{rules, ◌≡◌, ◌≤◌, ℕ, List, ◌∷◌, length, drop, arith, ap, ap₂, ◌∙◌, subst, true≢false}
use Rattle.std.specs.Prelude.{IfOk}
use Rattle.ap_defs.specs.Answers.{outs_of}
use Rattle.ap_defs.specs.Goals.{program_in}
use Rattle.ap_defs.specs.declared.paths.Out.{Out}
use Rattle.ap_machine.specs.Machines.{position_of}
use Rattle.ap_machine.specs.Positions.{Position, turned}
use Rattle.ap_backchain.specs.Searches.{ended_outs, positions_with}
use Rattle.ap_backchain.specs.Wanted.{wanted_after}
use Rattle.ap_backchain.proofs.RunLemmas.{on_ok}
use Rattle.ap_backchain.proofs.WantedLemmas.{no_fewer, rest_taken, wanted_since}
use Rattle.ap_machine.specs.Asking.{answering_of}
use Rattle.ap_backchain.proofs.run.go_on.Goals as goal

pub let_go-requires : goal.let_go-requires
let_go-requires c = c.in_ok-goes.ensures.points

pub resume-requires : goal.resume-requires
resume-requires c = record { points = c.in_ok-goes.ensures.points }

pub returns-then-goes-clause-left : goal.returns-then-goes-clause-left
returns-then-goes-clause-left c =
    ap₂ (λ (p : Position) (ps : List Position). p ∷ ps) c.let_go.ensures.position c.let_go.ensures.pending
    ∙ (rw c.if-goes.true at c.in_ok-goes.ensures.left)

pub returns-then-goes-clause-outs : goal.returns-then-goes-clause-outs
returns-then-goes-clause-outs c = c.in_ok-goes.ensures.outs

pub returns-then-goes-clause-points : goal.returns-then-goes-clause-points
returns-then-goes-clause-points c = c.let_go.ensures.points

pub returns-then-goes-clause-none : goal.returns-then-goes-clause-none
returns-then-goes-clause-none c = λ e. absurd (true≢false e)

pub returns-else-goes-clause-left : goal.returns-else-goes-clause-left
returns-else-goes-clause-left c =
    let left = rw c.if-goes.false at c.in_ok-goes.ensures.left in
    subst (λ (ps : List Position). IfOk c.resume.result (λ b. positions_with b c.resume.new.machine c.resume.new.points ≡ ps)) left c.resume.ensures.left

pub returns-else-goes-clause-outs : goal.returns-else-goes-clause-outs
returns-else-goes-clause-outs c = on_ok c.resume.result c.in_ok-goes.ensures.outs

pub returns-else-goes-clause-points : goal.returns-else-goes-clause-points
returns-else-goes-clause-points c = c.resume.ensures.points

pub returns-else-goes-clause-none : goal.returns-else-goes-clause-none
returns-else-goes-clause-none c = c.resume.ensures.none

-- the outputs that the turn added
pub returns-then-goes-clause-wanted : goal.returns-then-goes-clause-wanted
returns-then-goes-clause-wanted c =
    let before : c.len-before.result ≡ length c.args.outs.now.items = omega (arith, c.len-before.ensures) in
    c.wanted_after.ensures
    ∙ ap (λ (xs : List Out). wanted_after c.args.wanted.now (outs_of xs)) (rest_taken c.len-before.result c.deref.result.now)
    ∙ ap₂ (λ (n : ℕ) (xs : List Out). wanted_after c.args.wanted.now (outs_of (drop n xs))) before c.deref.ensures.value
    ∙ wanted_since c.args.wanted.now c.args.paths c.args.outs.now.items c.turn_on.new.outs.items
    (ended_outs (turned (program_in c.args.clauses.now) (answering_of c.args.asked.now) (position_of c.args.machine.now))) c.in_ok-goes.ensures.outs

pub returns-else-goes-clause-wanted : goal.returns-else-goes-clause-wanted
returns-else-goes-clause-wanted c =
    let before : c.len-before.result ≡ length c.args.outs.now.items = omega (arith, c.len-before.ensures) in
    on_ok c.resume.result
    (c.wanted_after.ensures
    ∙ ap (λ (xs : List Out). wanted_after c.args.wanted.now (outs_of xs)) (rest_taken c.len-before.result c.deref.result.now)
    ∙ ap₂ (λ (n : ℕ) (xs : List Out). wanted_after c.args.wanted.now (outs_of (drop n xs))) before c.deref.ensures.value
    ∙ wanted_since c.args.wanted.now c.args.paths c.args.outs.now.items c.turn_on.new.outs.items
    (ended_outs (turned (program_in c.args.clauses.now) (answering_of c.args.asked.now) (position_of c.args.machine.now))) c.in_ok-goes.ensures.outs)

-- none of the outputs before the turn is gone
pub slice_bounds-wanted_after-start : goal.slice_bounds-wanted_after-start
slice_bounds-wanted_after-start c =
    let h = no_fewer c.args.outs.now.items c.turn_on.new.outs.items _ c.in_ok-goes.ensures.outs in
    let long = ap (λ (xs : List Out). length xs) c.deref.ensures.value in
    omega (arith, c.len-before.ensures, h, long)

pub slice_bounds-wanted_after-count : goal.slice_bounds-wanted_after-count
slice_bounds-wanted_after-count c =
    let h = no_fewer c.args.outs.now.items c.turn_on.new.outs.items _ c.in_ok-goes.ensures.outs in
    let long = ap (λ (xs : List Out). length xs) c.deref.ensures.value in
    omega (arith, c.len-before.ensures, h, long)

pub offset_bounds-deref-before : goal.offset_bounds-deref-before
offset_bounds-deref-before c =
    let h = no_fewer c.args.outs.now.items c.turn_on.new.outs.items _ c.in_ok-goes.ensures.outs in
    let long = ap (λ (xs : List Out). length xs) c.deref.ensures.value in
    let within : c.len-before.result ≤ length c.deref.result.now = omega (arith, c.len-before.ensures, h, long) in
    search rules
