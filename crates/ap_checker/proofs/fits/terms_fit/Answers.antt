use Rattle.std.proofs.Common.{map, sym, ap, ◌∙◌, arith}
use Rattle.ap_defs.specs.Answers.{typed_var_of}
use Rattle.ap_defs.specs.Resolution.{kinds_of}
use Rattle.ap_defs.specs.Types.{constructor_of, locals_of, type_of}
use Rattle.ap_defs.specs.Typing.{one}
use Rattle.ap_checks.specs.TypeTests.{is_typed, type_beside}
use Rattle.ap_shared.specs.Shared.{shared_at}
use Rattle.ap_shared.specs.SharedViews.{shared_terms}
use Rattle.ap_judge.proofs.LocalLemmas.{kinds_end, kinds_next, kinds_other, kinds_short}
use Rattle.ap_checker.proofs.fits.terms_fit.Goals as goal

pub returns-then-place-lines-clause-fit : goal.returns-then-place-lines-clause-fit
returns-then-place-lines-clause-fit c =
    let cs = map constructor_of c.args.constructors.now in
    let vars = type_beside (map typed_var_of c.args.answer.now.vars) in
    let view = shared_at (shared_terms c.args.given.terms.now) in
    sym (kinds_short c.args.locals.now c.loop-i.i c.index-locals-i.result (omega arith) c.index-locals-i.is cs vars view c.args.given.lines.now c.loop-i.place (type_of c.in-Some.ty.now) c.in-Some.ensures (omega arith))
    ∙ c.loop-i.invariant.same

pub returns-then-not-branch-clause-fit : goal.returns-then-not-branch-clause-fit
returns-then-not-branch-clause-fit c =
    let cs = map constructor_of c.args.constructors.now in
    let vars = type_beside (map typed_var_of c.args.answer.now.vars) in
    let view = shared_at (shared_terms c.args.given.terms.now) in
    let t = type_of c.in-Some.ty.now in
    sym (kinds_other c.args.locals.now c.loop-i.i c.index-locals-i.result (omega arith) c.index-locals-i.is cs vars view c.args.given.lines.now c.loop-i.place t 0 c.in-Some.ensures (omega arith)
    (sym c.in_ok-has_type.ensures.value ∙ c.if-not-branch.true))
    ∙ c.loop-i.invariant.same

pub loop-i-preserved : goal.loop-i-preserved
loop-i-preserved c =
    let cs = map constructor_of c.args.constructors.now in
    let vars = type_beside (map typed_var_of c.args.answer.now.vars) in
    let view = shared_at (shared_terms c.args.given.terms.now) in
    let t = type_of c.in-Some.ty.now in
    record {
      same =
          sym (kinds_next c.args.locals.now c.loop-i.i c.index-locals-i.result (omega arith) c.index-locals-i.is cs vars view c.args.given.lines.now c.loop-i.place t 0 c.in-Some.ensures (omega arith)
          (sym c.in_ok-has_type.ensures.value ∙ c.if-not-branch.false))
          ∙ c.loop-i.invariant.same;
      within = omega arith;
      typed = c.in_ok-has_type.ensures.typed;
    }

pub returns-clause-fit : goal.returns-clause-fit
returns-clause-fit c =
    kinds_end (map constructor_of c.args.constructors.now) (type_beside (map typed_var_of c.args.answer.now.vars)) (kinds_of (locals_of c.args.locals.now)) (shared_at (shared_terms c.args.given.terms.now))
    c.args.locals.now c.loop-i.i c.args.given.lines.now c.loop-i.place (omega arith) (omega arith)
    ∙ c.loop-i.invariant.same
