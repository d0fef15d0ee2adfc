use denote.Param.Send.{sendable}
use Rattle.std.proofs.Crossing.{crosses}
use Rattle.ap_defs.proofs.paths.Path.TheSendSync.{the_sync as path}
use Rattle.std.proofs.Common.{ap, ap₂, map, ◌≡◌, ◌∙◌, ◌++◌}
use Rattle.std.specs.Global.{Global}
use Rattle.std.specs.Prelude.{Vec, ℕ}
use Rattle.std.proofs.lemmas.List.{take-append-drop}
use Rattle.std.proofs.lemmas.Result.{IfOk-at_ok, IfOk-weaker}
use Rattle.ap_defs.specs.Goals.{goal_of, program_in}
use Rattle.ap_derive.specs.Tables.{added_rows, counts_of}
use Rattle.ap_derive.specs.Uses.{use_table, uses_in_each}
use Rattle.ap_derive.proofs.QuestionSent.{question_send}
use Rattle.ap_derive.proofs.UseLemmas.{sum_of_tables}
use Rattle.ap_derive.proofs.WaitingLemmas.{uses_of_parts}
use Rattle.ap_derive.proofs.counting.uses.+parts.Goals as goal

pub join-first-requires-send-F : goal.join-first-requires-send-F
join-first-requires-send-F g t c κs within = search (sendable, crosses, question_send, path) depth 40 fits 300000

pub returns : goal.returns
returns g t c =
    let program = program_in c.args.question.program.now in
    let asked = goal_of c.args.question.goal.now in
    let at = g.D.Derive.at c.args.from.now in
    let front = c.split_at.result.0.now in
    let back = c.split_at.result.1.now in
    let left : counts_of c.in_ok-first.first ≡ use_table program (uses_in_each program asked (map at front)) =
    IfOk-at_ok (λ t'. counts_of t' ≡ use_table program (uses_in_each program asked (map at front))) c.in_ok-first.was c.join-first.ensures.first in
    let right : counts_of c.in_ok-second.second ≡ use_table program (uses_in_each program asked (map at back)) =
    IfOk-at_ok (λ t'. counts_of t' ≡ use_table program (uses_in_each program asked (map at back))) c.in_ok-second.was c.join-first.ensures.second in
    let whole : front ++ back ≡ c.args.paths.now = ap₂ (λ xs ys. xs ++ ys) c.split_at.ensures.front c.split_at.ensures.back ∙ take-append-drop _ c.args.paths.now in
    IfOk-weaker c.sum_of_tables.result
    (λ t'. counts_of t' ≡ added_rows (map (λ (r : Vec ℕ Global). r.items) c.as_slice.result.now) (map (λ (r : Vec ℕ Global). r.items) c.as_slice-2.result.now))
    (λ t'. counts_of t' ≡ use_table program (uses_in_each program asked (map at c.args.paths.now)))
    (λ t' p. p
    ∙ ap₂ added_rows (ap (map (λ (r : Vec ℕ Global). r.items)) c.as_slice.ensures.value ∙ left) (ap (map (λ (r : Vec ℕ Global). r.items)) c.as_slice-2.ensures.value ∙ right)
    ∙ sum_of_tables program (uses_in_each program asked (map at front)) (uses_in_each program asked (map at back))
    ∙ ap (use_table program) (uses_of_parts program asked at front back ∙ ap (λ ps. uses_in_each program asked (map at ps)) whole))
    c.sum_of_tables.ensures
