use Rattle.std.proofs.Common.{[], ◌≡◌, ◌≤◌, ◌∷◌, ◌∙◌, ℕ, List, ap, arith, length, map, refl, reverse, subst, sym}
use Rattle.ap_defs.specs.Substitution.{Equation}
use Rattle.ap_fresh.proofs.StepLemmas.{on_ok}
use Rattle.ap_store.specs.Views.{bindings_of, present}
use Rattle.ap_rules.proofs.WorkLemmas.{go_on_on, go_same, if_ok, pairs_below_front, pairs_below_last, put_last}
use Rattle.ap_unify.proofs.SolvedLemmas.{stage_length}
use Rattle.ap_unify.proofs.runs.advance.Goals as goal
use Rattle.ap_unify.specs.Parts.{LeadsTo}
use Rattle.ap_unify.specs.Solved.{AreSolved}
use Rattle.ap_rules.specs.Runs.{stage_under}
use Rattle.ap_rules.specs.Work.{ArePairsBelow, pair_equation, problems_met, progress_if, work_stage}
use Rattle.ap_rules.specs.declared.pairs.ClosurePair.{ClosurePair}
use Rattle.ap_rules.specs.declared.pairs.Work.{Work}

at_most : (m n k : ℕ) → m ≡ n → k ≡ n → m ≤ k
at_most m n k e f = omega (arith, e, f)

pub advance_by-requires-clause-below : goal.advance_by-requires-clause-below
advance_by-requires-clause-below c =
    let n = (present c.args.store.now).next in
    pairs_below_last n c.pop.new.self.items c.in-Some.first (subst (ArePairsBelow n) c.in-Some.ensures.items c.requires.below)

pub returns-clause-stage : goal.returns-clause-stage
returns-clause-stage c =
    let s = bindings_of c.args.store.now in
    let w = c.args.work.now in
    let last = work_stage (bindings_of c.advance_by.new.store) c.advance_by.new.work in
    if_ok c.advance_by.result
    (λ goes_on h.
    subst (λ (es : List Equation). LeadsTo (stage_under s es (problems_met w)) (progress_if goes_on last))
    (sym (ap (λ (es : List ClosurePair). map pair_equation (reverse es)) c.in-Some.ensures.items ∙ put_last c.pop.new.self.items c.in-Some.first)) h)
    c.advance_by.ensures.stage

pub returns-clause-goes_on : goal.returns-clause-goes_on
returns-clause-goes_on c =
    let a = present c.args.store.now in
    let w = c.args.work.now in
    let rest : Work = record { equations = c.pop.new.self; problems = w.problems; taken = w.taken } in
    on_ok c.advance_by.result
    (go_on_on a a (present c.advance_by.new.store) w rest c.advance_by.new.work
    (go_same a w rest (λ h. pairs_below_front a.next c.pop.new.self.items (c.in-Some.first ∷ []) (subst (ArePairsBelow a.next) c.in-Some.ensures.items h)) refl))
    c.advance_by.ensures.goes_on

pub advance_by-requires-clause-solved : goal.advance_by-requires-clause-solved
advance_by-requires-clause-solved c =
    let s = bindings_of c.args.store.now in
    let w = c.args.work.now in
    subst (λ (es : List Equation). AreSolved (stage_under s es (problems_met w)) c.take_solved.new.solved)
    (ap (λ (es : List ClosurePair). map pair_equation (reverse es)) c.in-Some.ensures.items ∙ put_last c.pop.new.self.items c.in-Some.first)
    (c.in_ok-take_solved.ensures (work_stage s w) (at_most (length (work_stage s w).equations) (length w.equations.items) c.len.result (stage_length s w) (c.len.ensures ∙ w.equations.ok.0)) c.requires.solved)
