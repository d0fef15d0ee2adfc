use Rattle.std.proofs.Common.{◌∙◌, map, sym, ap, subst}
use Rattle.std.proofs.lemmas.Result.{IfOk-weaker}
use Rattle.ap_defs.specs.Answers.{outs_of, query_outs}
use Rattle.ap_defs.specs.Goals.{NominalProgram, program_of, query_of}
use Rattle.ap_backchain.specs.Ends.{without_path}
use Rattle.ap_program.specs.Typed.{IsTypedQuery, term_form}
use Rattle.ap_property.specs.Properties.{hypothesis_query}
use Rattle.ap_property.proofs.SpineLemmas.{parts_typed}
use Rattle.ap_soundness.specs.FoundStates.{EachAnswer}
use Rattle.ap_examine.specs.Exams.{exam_of}
use Rattle.ap_examine.specs.Steps.{IsExaminable}
use Rattle.ap_examine.specs.Views.{IsExam}
use Rattle.ap_examine.proofs.PathLemmas.{each_without, exam_without}
use Rattle.ap_examine.proofs.ProgramLemmas.{outs_examinable}
use Rattle.ap_examine.proofs.program.examine_query.Goals as goal

pub search-requires-clause-typed : goal.search-requires-clause-typed
search-requires-clause-typed g c κs within =
    let p = program_of c.args.program in
    subst (IsTypedQuery term_form p.signature) (sym c.in_ok-hypothesis.ensures) (parts_typed p (query_of c.args.query.now) c.requires.typed).0

pub examine_outs-requires-clause-outs : goal.examine_outs-requires-clause-outs
examine_outs-requires-clause-outs g c κs within =
    let p = program_of c.args.program in
    let r = program_of c.in_ok-searched.searched.program in
    let d = c.args.depth in
    let q = query_of c.args.query.now in
    let e = c.in_ok-searched.ensures.program in
    let t = subst (λ (m : NominalProgram). IsTypedQuery term_form m.signature q) (sym e) c.requires.typed in
    let list = ap outs_of c.deref.ensures.value ∙ c.in_ok-searched.ensures.outs ∙ ap (λ h. map without_path (query_outs p.clauses d h)) c.in_ok-hypothesis.ensures
    ∙ ap (λ (m : NominalProgram). map without_path (query_outs m.clauses d (hypothesis_query q))) (sym e) in
    subst (EachAnswer (IsExaminable r q)) (sym list)
    (each_without (IsExaminable r q) (query_outs r.clauses d (hypothesis_query q)) (outs_examinable r q c.in_ok-searched.ensures.typed t d))

pub returns-clause-exam : goal.returns-clause-exam
returns-clause-exam g c =
    let p = program_of c.args.program in
    let d = c.args.depth in
    let q = query_of c.args.query.now in
    let outs = outs_of c.deref.result.now in
    let list = ap outs_of c.deref.ensures.value ∙ c.in_ok-searched.ensures.outs ∙ ap (λ h. map without_path (query_outs p.clauses d h)) c.in_ok-hypothesis.ensures in
    let same = ap (λ (m : NominalProgram). exam_of m d q outs) c.in_ok-searched.ensures.program ∙ ap (exam_of p d q) list
    ∙ exam_without p d q (query_outs p.clauses d (hypothesis_query q)) in
    IfOk-weaker c.examine_outs.result _ _ (λ x is. subst (IsExam x.exam) same is) c.examine_outs.ensures.exam
