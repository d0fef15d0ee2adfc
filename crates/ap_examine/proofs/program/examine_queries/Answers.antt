use Rattle.std.proofs.Common.{◌≡◌, ◌∙◌, List, [], ◌∷◌, ◌++◌, map, sym, ap, subst}
use Rattle.std.proofs.lemmas.List.{append_assoc, append-nil}
use Rattle.ap_defs.specs.Goals.{program_of, query_of}
use Rattle.ap_program.specs.Typed.{AreTypedQueries, term_form}
use Rattle.ap_examine.specs.Views.{AreExams, IsExam}
use Rattle.ap_examine.specs.declared.exam.Exam.{Exam}
use Rattle.ap_examine.proofs.ProgramLemmas.{query_there}
use Rattle.ap_examine.proofs.StepLemmas.{asked_again, none_left}
use Rattle.ap_examine.proofs.program.examine_queries.Goals as goal

pub examining-preserved : goal.examining-preserved
examining-preserved g c =
    let p = program_of c.args.program in
    let r = program_of c.examining.program in
    let d = c.args.depth in
    let i = c.examining.invariant in
    let so_far = c.examining.exams.items in
    let whole = map query_of c.args.queries.now in
    let x = c.in_ok-examined.examined.exam in
    let q = query_of c.in-Some.query.now in
    let list : map query_of c.examining.rest.now ≡ q ∷ map query_of c.in-Some.others.now = ap (map query_of) c.in-Some.ensures.cases.0 in
    let here = subst (IsExam x) (query_there p r i.asks d q) c.in_ok-examined.ensures.exam in
    record {
      asks = asked_again p r _ i.asks c.in_ok-examined.ensures.program;
      typed = (subst (AreTypedQueries term_form p.signature) list i.typed).1;
      exams = λ xs left.
          subst (λ (l : List Exam). AreExams p d l whole) (sym (ap (λ l. l ++ xs) c.in_ok-push.ensures.items ∙ append_assoc so_far (x ∷ []) xs))
          (i.exams (x ∷ xs) (subst (AreExams p d (x ∷ xs)) (sym list) (here, left)));
    }

pub returns-clause-exams : goal.returns-clause-exams
returns-clause-exams g c =
    let p = program_of c.args.program in
    let d = c.args.depth in
    let none : map query_of c.examining.rest.now ≡ [] = ap (map query_of) (none_left c.examining.rest.now c.in_default.ensures.cases) in
    subst (λ (l : List Exam). AreExams p d l (map query_of c.args.queries.now)) (append-nil c.examining.exams.items)
    (c.examining.invariant.exams [] (subst (AreExams p d []) (sym none) tt))
