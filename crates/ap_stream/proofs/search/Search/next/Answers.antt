use Rattle.std.proofs.Common.{◌≡◌, [], ◌∷◌, subst}
use Rattle.std.specs.Prelude.{IfOk, IfSome, None}
use Rattle.ap_defs.specs.Answers.{out_of}
use Rattle.ap_defs.specs.Goals.{program_in}
use Rattle.ap_search.specs.Records.{Answering}
use Rattle.ap_stream.specs.Coming.{outs_coming}
use Rattle.ap_stream.proofs.search.Search.next.Goals as goal

pub returns-clause-some : goal.returns-clause-some
returns-clause-some c =
    let s = c.args.self.now in
    let program = program_in s.clauses.now in
    let new = c.next_output.new in
    subst (λ (f : Answering). IfOk c.next_output.result (λ o. IfSome o (λ out. outs_coming program f s.wanted s.machine s.points ≡ out_of out ∷ outs_coming program f new.wanted new.machine new.points)))
    c.in_ok-asked.ensures c.next_output.ensures.some

pub returns-clause-none : goal.returns-clause-none
returns-clause-none c =
    let s = c.args.self.now in
    subst (λ (f : Answering). IfOk c.next_output.result (λ o. o ≡ None → outs_coming (program_in s.clauses.now) f s.wanted s.machine s.points ≡ [])) c.in_ok-asked.ensures c.next_output.ensures.none
