use Rattle.std.proofs.Common.{◌≡◌, ◌+◌, ◌*◌, ◌++◌, refl, ap, ◌∙◌, append-nil, arith}
use Rattle.std.specs.Prelude.{reverse}
use Rattle.ap_defs.specs.Printing.{term_at, whole}
use Rattle.ap_defs.specs.Terms.{pair, term_of}
use Rattle.ap_defs.specs.Unification.{size}
use Rattle.ap_answers.specs.Places.{written_place}
use Rattle.ap_answers.specs.Writing.{waiting_text, waiting_work}
use Rattle.ap_answers.proofs.TextLemmas.{pair_goes_on}
use Rattle.ap_answers.proofs.WritingLemmas.{waiting_last, work_last}
use Rattle.ap_answers.proofs.text.write_pair.Goals as goal

pub returns-clause-written : goal.returns-clause-written
returns-clause-written c by =
    let place = written_place c.args.right.place in
    let t = term_of c.args.left.now in
    let u = term_of c.args.right.term.now in
    let ws = c.args.waiting.now.items in
    let o = c.args.out.now.items in
    let o1 = c.begin_pair.new.out.items in
    let o2 = o1 ++ (term_at by t whole ++ reverse c.new.result.items) in
    let d : o2 ≡ o1 ++ term_at by t whole = ap (λ bs. o1 ++ (term_at by t whole ++ reverse bs)) c.new.ensures.items ∙ ap (λ bs. o1 ++ bs) (append-nil (term_at by t whole)) in
    ap (waiting_text by o2) c.in_ok-push.ensures.items ∙ waiting_last by o2 ws _
    ∙ ap (λ out. waiting_text by out ws)
    (pair_goes_on by (pair t u) t u place o o1 o2 _ c.args.right.closers.items _ refl c.in_ok-begin_pair.ensures.written c.in_ok-begin_pair.ensures.kept d refl)

pub returns-clause-less : goal.returns-clause-less
returns-clause-less c =
    let t = term_of c.args.left.now in
    let u = term_of c.args.right.term.now in
    let w : waiting_work c.push.new.self.items ≡ waiting_work c.args.waiting.now.items + (1 + 2 * size u) = ap waiting_work c.in_ok-push.ensures.items ∙ work_last c.args.waiting.now.items _ in
    omega (arith, w)
