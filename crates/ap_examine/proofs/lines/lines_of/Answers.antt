use Rattle.std.proofs.Common.{◌∙◌, ◌++◌, ◌+◌, List, ◌∷◌, length, map, refl, ap, subst, arith}
use Rattle.ap_defs.specs.declared.goals.Local.{Local}
use Rattle.ap_defs.specs.declared.goals.Program.{Program}
use Rattle.ap_defs.specs.declared.goals.Query.{Query}
use Rattle.ap_defs.specs.declared.terms.Term.{Term}
use Rattle.ap_defs.specs.Goals.{program_of, query_of}
use Rattle.ap_defs.specs.Types.{locals_of}
use Rattle.ap_examine.specs.Reports.{exam_text}
use Rattle.ap_examine.specs.declared.exam.Exam.{Exam}
use Rattle.ap_examine.proofs.LineLemmas.{AreLeft, next_line}
use Rattle.ap_examine.proofs.lines.lines_of.Goals as goal

pub writing-preserved : goal.writing-preserved
writing-preserved c =
    let r = program_of c.args.program.now in
    let out = c.writing.out.items in
    let k = c.writing.number in
    let x = c.in-Some-split_first.exam.now in
    let xs = c.in-Some-split_first.more.now in
    let q = c.in-Some.query.now in
    let qs = c.in-Some.others.now in
    let whole = map query_of c.args.queries.now in
    let long = ap length c.in-Some.ensures.cases.0 in
    let small = c.writing.invariant.small in
    record {
      all = λ p depth asks are.
          next_line p r asks depth out c.write_exam.new.out.items k (k + 1) x xs (query_of q) (map query_of qs) whole refl
          (λ e is.
          c.in_ok-write_exam.ensures e is
          ∙ ap (λ (m : Program Term). out ++ exam_text (program_of m) (locals_of c.items-locals.result.now) k e) c.program.ensures.same
          ∙ ap (λ (ls : List Local). out ++ exam_text r (locals_of ls) k e) c.items-locals.ensures)
          (subst (λ (ys : List Exam). AreLeft p depth out k ys (map query_of (q ∷ qs)) whole) c.in-Some-split_first.ensures.cases.0
          (subst (λ (ps : List (Query Term)). AreLeft p depth out k c.writing.right.now (map query_of ps) whole) c.in-Some.ensures.cases.0 (c.writing.invariant.all p depth asks are)));
      small = omega (arith, long, small);
    }
