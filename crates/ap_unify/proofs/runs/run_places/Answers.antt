use Rattle.std.proofs.Common.{◌≡◌, ◌≤◌, ◌+◌, [], ◌∷◌, List, ap, ap₂, drop, length, map, refl, reverse, subst, sym, ◌∙◌, arith}
use Rattle.std.proofs.lemmas.List.{drop_all}
use Rattle.ap_defs.specs.Substitution.{◌≐◌}
use Rattle.ap_defs.specs.Unification.{Stage, ending, failed, finish, next, solved}
use Rattle.ap_store.specs.Views.{bindings_of, present, versions}
use Rattle.ap_theory.proofs.TerminationLemmas.{ending_done}
use Rattle.ap_unify.proofs.BehindLemmas.{front_ending, front_failed}
use Rattle.ap_unify.proofs.PartLemmas.{unmarked}
use Rattle.ap_unify.proofs.SolutionLemmas.{last_of_work}
use Rattle.ap_unify.proofs.WellLemmas.{well}
use Rattle.ap_rules.proofs.WorkLemmas.{below_first, go_on_on, goes_on_on, terms_length}
use Rattle.ap_unify.proofs.runs.run_places.Goals as goal
use Rattle.ap_unify.specs.Lists.{renamed_terms_in}
use Rattle.ap_unify.specs.Parts.{AreBelowBoth, LeadsTo, parts_equation, stage_with}
use Rattle.ap_equations.specs.Plain.{plain_term}
use Rattle.ap_rules.specs.Runs.{paired, stage_under}
use Rattle.ap_rules.specs.Work.{ArePairsBelow, pair_equation, problems_met, progress_if, work_stage}
use Rattle.ap_rules.specs.declared.pairs.ClosurePair.{ClosurePair}
use Rattle.ap_equations.specs.declared.plain.PlainPair.{PlainPair}

pub solve-requires-clause-below : goal.solve-requires-clause-below
solve-requires-clause-below c =
    let ts = renamed_terms_in c.args.left in
    let us = renamed_terms_in c.args.right in
    let n = (present c.args.store.now).next in
    let pair : PlainPair = record { left = c.term_at-here.result; right = c.term_at-there.result } in
    subst (λ m. AreBelowBoth parts_equation m pair) (sym c.places.invariant.goes_on.next) (
      below_first n c.places.i ts (plain_term c.term_at-here.result) (drop (c.places.i + 1) ts) c.requires.left_made c.term_at-here.ensures.term,
      below_first n c.places.i us (plain_term c.term_at-there.result) (drop (c.places.i + 1) us) c.requires.right_made c.term_at-there.ensures.term,
    )

pub solve-requires-clause-marks : goal.solve-requires-clause-marks
solve-requires-clause-marks c =
    let s = bindings_of c.places.store in
    (unmarked s c.term_at-here.result c.term_at-here.ensures.mark, unmarked s c.term_at-there.result c.term_at-there.ensures.mark)

pub solve-requires-clause-pairs : goal.solve-requires-clause-pairs
solve-requires-clause-pairs c = subst (ArePairsBelow (present c.places.store).next) (sym c.places.invariant.none) tt

pub returns-then-not-branch-clause-ending : goal.returns-then-not-branch-clause-ending
returns-then-not-branch-clause-ending c = λ ds.
    let s = bindings_of c.places.store in
    let w = c.places.work in
    let ps = problems_met w in
    let ts = renamed_terms_in c.args.left in
    let us = renamed_terms_in c.args.right in
    let t = plain_term c.term_at-here.result in
    let u = plain_term c.term_at-there.result in
    let last = work_stage (bindings_of c.solve.new.store) c.solve.new.work in
    let pair : PlainPair = record { left = c.term_at-here.result; right = c.term_at-there.result } in
    let h : LeadsTo (stage_with parts_equation s pair w) failed =
    subst (λ v. LeadsTo (stage_with parts_equation s pair w) (progress_if v last)) c.if-not-branch.true c.in_ok-solve.ensures.stage in
    let k : LeadsTo (stage_under s ((t ≐ u) ∷ []) ps) failed =
    subst (λ (es : List ClosurePair). LeadsTo (stage_under s ((t ≐ u) ∷ map pair_equation (reverse es)) ps) failed) c.places.invariant.none h in
    c.places.invariant.ending ds
    ∙ ap₂ (λ xs ys. finish ds (ending (stage_under s (paired xs ys) ps))) c.term_at-here.ensures.term c.term_at-there.ensures.term
    ∙ front_failed (paired (drop (c.places.i + 1) ts) (drop (c.places.i + 1) us)) s (well c.places.store).idempotent t u ps k ds

pub places-preserved : goal.places-preserved
places-preserved c =
    let a = present c.args.store.now in
    let b = present c.places.store in
    let d = present c.solve.new.store in
    let w = c.places.work in
    let v = c.solve.new.work in
    let ps = problems_met w in
    let ts = renamed_terms_in c.args.left in
    let us = renamed_terms_in c.args.right in
    let t = plain_term c.term_at-here.result in
    let u = plain_term c.term_at-there.result in
    let last = work_stage d.bindings v in
    let none : v.equations.items ≡ [] = c.in_ok-solve.ensures.left c.if-not-branch.false in
    let pair : PlainPair = record { left = c.term_at-here.result; right = c.term_at-there.result } in
    let h : LeadsTo (stage_with parts_equation b.bindings pair w) (next last) =
    subst (λ x. LeadsTo (stage_with parts_equation b.bindings pair w) (progress_if x last)) c.if-not-branch.false c.in_ok-solve.ensures.stage in
    let k : LeadsTo (stage_under b.bindings ((t ≐ u) ∷ []) ps) (next last) =
    subst (λ (es : List ClosurePair). LeadsTo (stage_under b.bindings ((t ≐ u) ∷ map pair_equation (reverse es)) ps) (next last)) c.places.invariant.none h in
    let e : LeadsTo (stage_under b.bindings ((t ≐ u) ∷ []) ps) (next (stage_under d.bindings [] (problems_met v))) =
    subst (λ (x : Stage). LeadsTo (stage_under b.bindings ((t ≐ u) ∷ []) ps) (next x)) (last_of_work d.bindings v none) k in
    record {
      ending = λ ds. c.places.invariant.ending ds
          ∙ ap₂ (λ xs ys. finish ds (ending (stage_under b.bindings (paired xs ys) ps))) c.term_at-here.ensures.term c.term_at-there.ensures.term
          ∙ front_ending (paired (drop (c.places.i + 1) ts) (drop (c.places.i + 1) us)) b.bindings (well c.places.store).idempotent t u ps d.bindings (problems_met v) e ds;
      none = none;
      goes_on = go_on_on a b d c.args.work.now w v c.places.invariant.goes_on c.in_ok-solve.ensures.goes_on;
      past = goes_on_on (versions c.args.store.now) (versions c.places.store) (versions c.solve.new.store) c.places.invariant.past c.solve.ensures.past;
      kinds = c.solve.ensures.kinds ∙ c.places.invariant.kinds;
    }

pub returns-clause-ending : goal.returns-clause-ending
returns-clause-ending c = λ ds.
    let s = bindings_of c.places.store in
    let w = c.places.work in
    let ps = problems_met w in
    let ts = renamed_terms_in c.args.left in
    let us = renamed_terms_in c.args.right in
    let l : length ts ≤ c.places.i = omega (arith, terms_length c.args.left.base c.args.left.terms.now) in
    let r : length us ≤ c.places.i = omega (arith, c.requires.lengths, terms_length c.args.right.base c.args.right.terms.now) in
    c.places.invariant.ending ds
    ∙ ap (finish ds) (ap₂ (λ xs ys. ending (stage_under s (paired xs ys) ps)) (drop_all c.places.i ts l) (drop_all c.places.i us r)
    ∙ ending_done (stage_under s [] ps) refl
    ∙ ap solved (sym (last_of_work s w c.places.invariant.none)))
