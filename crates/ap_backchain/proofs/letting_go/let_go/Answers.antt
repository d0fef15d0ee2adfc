use Rattle.std.proofs.Common.{◌≡◌, ◌==◌, ℕ, [], true, length, sym, ◌∙◌, arith}
use Rattle.std.proofs.lemmas.Bool.Decides.{nat_tests}
use Rattle.std.proofs.lemmas.List.{nil_from_length}
use Rattle.ap_backchain.proofs.RunLemmas.{no_points}
use Rattle.ap_backchain.proofs.letting_go.let_go.Goals as goal

none : (n : ℕ) → (n == 0) ≡ true → n ≡ 0
none n e = grind (arith, nat_tests)

pub returns-then-is_empty-clause-pending : goal.returns-then-is_empty-clause-pending
returns-then-is_empty-clause-pending c =
    let empty : c.args.points.now.items ≡ [] =
    sym c.as_slice.ensures.value ∙ nil_from_length c.as_slice.result.now (none (length c.as_slice.result.now) (sym c.is_empty.ensures ∙ c.if-is_empty.true)) in
    (no_points c.args.machine.now c.let_go_cells.new.machine c.args.points.now empty).0

pub returns-then-is_empty-clause-points : goal.returns-then-is_empty-clause-points
returns-then-is_empty-clause-points c =
    let empty : c.args.points.now.items ≡ [] =
    sym c.as_slice.ensures.value ∙ nil_from_length c.as_slice.result.now (none (length c.as_slice.result.now) (sym c.is_empty.ensures ∙ c.if-is_empty.true)) in
    (no_points c.args.machine.now c.let_go_cells.new.machine c.args.points.now empty).1
