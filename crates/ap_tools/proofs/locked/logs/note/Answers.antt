use Rattle.std.proofs.Common.{rules, ◌∙◌, ◌++◌, ◌∷◌, [], ℕ, ap, sym}
use Rattle.ap_tools.specs.Noting.{lists_of, noted}
use Rattle.ap_tools.proofs.Logging.{noted_set, noted_past}
use Rattle.ap_tools.proofs.locked.logs.note.Goals as goal

pub returns-in_ok-push : goal.returns-in_ok-push
returns-in_ok-push c =
    let logs = c.args.logs.now.items in
    let log = c.index_mut-log.result.now in
    let grown = c.in_ok-push.ensures.items ∙ ap (λ v. v.items ++ c.args.place ∷ []) c.index_mut-log.ensures.value in
    noted_set logs c.maker-number.result c.args.place log c.push.new.self (search rules) grown
    ∙ ap (λ (n : ℕ). noted n c.args.place (lists_of logs)) c.maker-number.ensures

pub returns-else-number-len : goal.returns-else-number-len
returns-else-number-len c =
    let logs = c.args.logs.now.items in
    sym (noted_past logs c.maker-number.result c.args.place (search rules))
    ∙ ap (λ (n : ℕ). noted n c.args.place (lists_of logs)) c.maker-number.ensures
