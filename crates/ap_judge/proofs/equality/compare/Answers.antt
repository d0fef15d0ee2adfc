use Rattle.std.proofs.Common.{◌≡◌, length, sym, ◌∙◌, arith}
use Rattle.std.proofs.lemmas.Bool.Decides.{nat_tests}
use Rattle.std.proofs.lemmas.Result.{on_ok_weaker}
use Rattle.ap_judge.proofs.ComparisonLemmas.{same_tested}
use Rattle.ap_judge.proofs.equality.compare.Goals as goal

pub returns-then-is_same_line-clause-tested : goal.returns-then-is_same_line-clause-tested
returns-then-is_same_line-clause-tested c =
    let ts = c.args.terms.now in
    let bs = c.args.walk.now.binders.pairs.items in
    let none : length bs ≡ 0 = grind (arith, nat_tests, c.is_empty.ensures, c.if-is_empty.true) in
    let same = c.is_same_line.ensures c.if-is_same_line.true ts (c.in_ok-left.ensures.of ts c.requires.of.0) (c.in_ok-right.ensures.of ts c.requires.of.1) in
    same_tested c.args.answer.now.conds c.args.at bs c.args.walk.now.pending.items c.requires.within none
    (sym c.in_ok-left.ensures.term ∙ same ∙ c.in_ok-right.ensures.term)

pub returns-clause-of : goal.returns-clause-of
returns-clause-of c =
    let ts = c.args.terms.now in
    on_ok_weaker c.compare_heads.result (λ f. f ts (c.in_ok-left.ensures.of ts c.requires.of.0, c.in_ok-right.ensures.of ts c.requires.of.1) c.requires.others) c.compare_heads.ensures.of
