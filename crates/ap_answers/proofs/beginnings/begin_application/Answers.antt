use Rattle.std.proofs.Common.{arith, rules}
use Rattle.ap_answers.specs.Places.{written_place}
use Rattle.ap_answers.proofs.TextLemmas.{declares_none, declares_some}
use Rattle.ap_answers.proofs.beginnings.begin_application.Goals as goal

pub returns-then-index-constructors-clause-written : goal.returns-then-index-constructors-clause-written
returns-then-index-constructors-clause-written c =
    let none = declares_none c.args.constructors.now c.args.f (written_place c.args.place) (omega arith) (omega arith) (omega arith) in
    rw (none.before, c.in_ok-write_bar.ensures) (search rules)

pub returns-then-index-constructors-clause-kept : goal.returns-then-index-constructors-clause-kept
returns-then-index-constructors-clause-kept c =
    let none = declares_none c.args.constructors.now c.args.f (written_place c.args.place) (omega arith) (omega arith) (omega arith) in
    rw none.behind (search rules)

pub returns-then-index-constructors-clause-place : goal.returns-then-index-constructors-clause-place
returns-then-index-constructors-clause-place c =
    let none = declares_none c.args.constructors.now c.args.f (written_place c.args.place) (omega arith) (omega arith) (omega arith) in
    rw none.at

pub returns-clause-written : goal.returns-clause-written
returns-clause-written c =
    let some = declares_some c.args.constructors.now c.args.f c.index-constructors-index.result (written_place c.args.place) (omega arith) (omega arith) (omega arith) c.index-constructors-index.is in
    rw some.before c.begin_declared.ensures.written

pub returns-clause-kept : goal.returns-clause-kept
returns-clause-kept c =
    let some = declares_some c.args.constructors.now c.args.f c.index-constructors-index.result (written_place c.args.place) (omega arith) (omega arith) (omega arith) c.index-constructors-index.is in
    rw some.behind c.begin_declared.ensures.kept

pub returns-clause-place : goal.returns-clause-place
returns-clause-place c =
    let some = declares_some c.args.constructors.now c.args.f c.index-constructors-index.result (written_place c.args.place) (omega arith) (omega arith) (omega arith) c.index-constructors-index.is in
    rw some.at c.begin_declared.ensures.place
