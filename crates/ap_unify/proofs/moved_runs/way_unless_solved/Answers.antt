use Rattle.std.proofs.Common.{◌++◌, ◌-◌, ◌^◌, arith, length, refl, subst, sym}
use Rattle.std.proofs.Math.Nat.{min-le_left}
use Rattle.ap_rules.proofs.WorkLemmas.{go_same, if_ok}
use Rattle.ap_rules.specs.Work.{equations_left, problems_met}
use Rattle.ap_store.specs.Views.{bindings_of, present}
use Rattle.ap_unify.proofs.SolvedLemmas.{solved_before, solved_on, solved_way}
use Rattle.ap_unify.proofs.WellLemmas.{well}
use Rattle.ap_unify.proofs.moved_runs.way_unless_solved.Goals as goal
use Rattle.ap_unify.specs.Moved.{moved_equation}
use Rattle.ap_unify.specs.Parts.{LeadsTo, progress_to, stage_of, waiting_equations}

pub returns-then-known-clause-stage : goal.returns-then-known-clause-stage
returns-then-known-clause-stage c =
    let s = bindings_of c.args.store.now in
    let f = c.args.front.now in
    let w = c.args.work.now in
    let q = moved_equation c.args.sides.now in
    let before = stage_of q s f.ahead.next f.waiting w in
    subst (LeadsTo before) (sym (c.after_done.ensures.way q s w))
    (solved_way s (well c.args.store.now).idempotent (q f.ahead.next) (waiting_equations q f.waiting ++ equations_left w) (problems_met w)
    (c.in_ok-known.ensures.known before c.if-known.true c.requires.solved))

pub returns-then-known-clause-solved : goal.returns-then-known-clause-solved
returns-then-known-clause-solved c =
    let s = bindings_of c.args.store.now in
    let f = c.args.front.now in
    let w = c.args.work.now in
    let q = moved_equation c.args.sides.now in
    let before = stage_of q s f.ahead.next f.waiting w in
    let es = waiting_equations q f.waiting ++ equations_left w in
    let k = c.is_solved.new.solved in
    let after = progress_to q c.after_done.result s c.after_done.new.front w in
    let way : LeadsTo before after = subst (LeadsTo before) (sym (c.after_done.ensures.way q s w))
    (solved_way s (well c.args.store.now).idempotent (q f.ahead.next) es (problems_met w) (c.in_ok-known.ensures.known before c.if-known.true c.requires.solved)) in
    solved_on before after way k
    (c.in_ok-known.ensures.solved before c.requires.solved (solved_before s (q f.ahead.next) es (problems_met w) c.behind-others.result (omega (arith, c.behind-others.ensures q, min-le_left (length es) (2 ^ 64 - 1)))))

pub returns-then-known-clause-below : goal.returns-then-known-clause-below
returns-then-known-clause-below c = c.after_done.ensures.below (moved_equation c.args.sides.now) (present c.args.store.now).next c.requires.waiting

pub returns-then-known-clause-marks : goal.returns-then-known-clause-marks
returns-then-known-clause-marks c = c.after_done.ensures.marks (bindings_of c.args.store.now) c.requires.waiting_marks

pub returns-then-known-clause-goes_on : goal.returns-then-known-clause-goes_on
returns-then-known-clause-goes_on c = go_same (present c.args.store.now) c.args.work.now c.args.work.now (λ h. h) refl

pub returns-clause-solved : goal.returns-clause-solved
returns-clause-solved c =
    let s = bindings_of c.args.store.now in
    let f = c.args.front.now in
    let w = c.args.work.now in
    let q = moved_equation c.args.sides.now in
    let before = stage_of q s f.ahead.next f.waiting w in
    let es = waiting_equations q f.waiting ++ equations_left w in
    let n = c.next_moved in
    if_ok n.result
    (λ way h. solved_on before (progress_to (moved_equation n.new.sides) way (bindings_of n.new.store) n.new.front n.new.work) h c.is_solved.new.solved
    (c.in_ok-known.ensures.solved before c.requires.solved (solved_before s (q f.ahead.next) es (problems_met w) c.behind-others.result (omega (arith, c.behind-others.ensures q, min-le_left (length es) (2 ^ 64 - 1))))))
    n.ensures.stage
