use Rattle.std.proofs.Common.{◌++◌, List, ℕ, codes, sym, ap, ◌∙◌, arith}
use Rattle.std.proofs.lemmas.List.{append-nil}
use Rattle.ap_answers.proofs.CountedLemmas.{counted_past, counted_there}
use Rattle.ap_answers.proofs.speller.write_counted_at.Goals as goal

pub returns-in_ok-write_numbered : goal.returns-in_ok-write_numbered
returns-in_ok-write_numbered c =
    c.in_ok-write_numbered.ensures
    ∙ ap (λ (ws : List ℕ). c.args.out.now.items ++ ws) (sym (counted_there (codes "_") c.args.count c.args.place (omega arith)))

pub returns-else-place-count : goal.returns-else-place-count
returns-else-place-count c =
    sym (append-nil c.args.out.now.items)
    ∙ ap (λ (ws : List ℕ). c.args.out.now.items ++ ws) (sym (counted_past (codes "_") c.args.count c.args.place (omega arith)))
