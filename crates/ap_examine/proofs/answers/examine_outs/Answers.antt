use Rattle.std.proofs.Common.{◌≡◌, ◌∙◌, [], ◌∷◌, length, refl, sym, ap, subst, arith}
use Rattle.ap_defs.specs.Answers.{out_of, outs_of}
use Rattle.ap_defs.specs.Goals.{program_of, query_of}
use Rattle.ap_soundness.specs.FoundStates.{EachAnswer}
use Rattle.ap_examine.specs.Exams.{clear, exam_of}
use Rattle.ap_examine.specs.Steps.{IsExaminable, exam_next}
use Rattle.ap_examine.specs.Views.{IsExam}
use Rattle.ap_examine.specs.declared.exam.Exam.{Exam}
use Rattle.ap_examine.specs.declared.exam.Exam.TheVariants as exams
use Rattle.ap_examine.proofs.StepLemmas.{none_left, all_steps, asked_again, clear_is, counter_ends, exam_from, exam_there, first_examinable, goes_on, total_next}
use Rattle.ap_examine.proofs.answers.examine_outs.Goals as goal

pub returns-in_default-tally_in-clause-exam : goal.returns-in_default-tally_in-clause-exam
returns-in_default-tally_in-clause-exam g c =
    let p = program_of c.args.program in
    let d = c.args.depth in
    let q = query_of c.args.query.now in
    let t = c.examining.tally in
    let x = c.in_ok-examined.examined.exam in
    let o = out_of c.in-Some.out.now in
    let os = outs_of c.in-Some.others.now in
    let i = c.examining.invariant in
    let list : outs_of c.examining.rest.now ≡ o ∷ os = ap outs_of c.in-Some.ensures.cases.0 in
    let next = subst (IsExam x) (exam_there p (program_of c.examining.program) i.asks d q t o) c.in_ok-examined.ensures.exam in
    let whole : exam_from p d q t (o ∷ os) ≡ exam_of p d q (outs_of c.args.outs.now) = ap (exam_from p d q t) (sym list) ∙ i.exam ∙ all_steps p d q (outs_of c.args.outs.now) in
    subst (IsExam x) whole (counter_ends x c.in_default-tally_in.ensures (exam_next p d q t o) next p d q (λ u. exam_from p d q u os))

pub examining-preserved : goal.examining-preserved
examining-preserved g c =
    let p = program_of c.args.program in
    let d = c.args.depth in
    let q = query_of c.args.query.now in
    let t = c.examining.tally in
    let u = c.in-Some-tally_in.more in
    let o = out_of c.in-Some.out.now in
    let os = outs_of c.in-Some.others.now in
    let i = c.examining.invariant in
    let list : outs_of c.examining.rest.now ≡ o ∷ os = ap outs_of c.in-Some.ensures.cases.0 in
    let there = subst (IsExam c.in_ok-examined.examined.exam) (exam_there p (program_of c.examining.program) i.asks d q t o) c.in_ok-examined.ensures.exam in
    let next : exam_next p d q t o ≡ clear u = clear_is u (exam_next p d q t o) (subst (λ (x : Exam). IsExam x (exam_next p d q t o)) c.in-Some-tally_in.ensures there) in
    let one = total_next p d q t u o next in
    let long = ap length c.in-Some.ensures.cases.0 in
    let small = i.small in
    record {
      asks = asked_again p (program_of c.examining.program) _ i.asks c.in_ok-examined.ensures.program;
      each = (first_examinable p q o os (subst (EachAnswer (IsExaminable p q)) list i.each)).1;
      exam = sym (ap (λ e. goes_on p d q e (λ v. exam_from p d q v os)) next) ∙ ap (exam_from p d q t) (sym list) ∙ i.exam;
      small = omega (arith, one, long, small);
    }

pub returns-clause-exam : goal.returns-clause-exam
returns-clause-exam g c =
    let p = program_of c.args.program in
    let d = c.args.depth in
    let q = query_of c.args.query.now in
    let t = c.examining.tally in
    let i = c.examining.invariant in
    let none : outs_of c.examining.rest.now ≡ [] = ap outs_of (none_left c.examining.rest.now c.in_default.ensures.cases) in
    let whole : exam_from p d q t [] ≡ exam_of p d q (outs_of c.args.outs.now) = ap (exam_from p d q t) (sym none) ∙ i.exam ∙ all_steps p d q (outs_of c.args.outs.now) in
    subst (IsExam (exams.Clear t)) whole refl
