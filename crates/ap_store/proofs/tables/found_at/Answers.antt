use Rattle.std.proofs.Common.{◌<◌, ◌≤◌, length, sym, subst, ◌∙◌, arith}
use Rattle.std.specs.Prelude.{Option}
use Rattle.ap_defs.specs.Terms.{NominalTerm}
use Rattle.ap_store.specs.Founds.{IsWhatIsFound}
use Rattle.ap_store.proofs.ReachLemmas.{kept_at}
use Rattle.ap_store.proofs.TableLemmas.{bound_in_beyond, bound_in_get, ground_in_beyond, ground_in_get}
use Rattle.ap_store.proofs.tables.found_at.Goals as goal

pub found_value-requires : goal.found_value-requires
found_value-requires c =
    let l : c.args.num < length c.args.table.now = omega arith in
    (kept_at c.args.end c.args.table.now c.args.num c.index-table-num.result l c.requires)

pub returns-then-num-table-clause-found : goal.returns-then-num-table-clause-found
returns-then-num-table-clause-found c =
    let l : c.args.num < length c.args.table.now = omega arith in
    subst (λ (o : Option NominalTerm). IsWhatIsFound o c.found_value.result) (sym (bound_in_get c.args.table.now c.args.num c.index-table-num.result l)) c.found_value.ensures.found

pub returns-else-num-table-clause-found : goal.returns-else-num-table-clause-found
returns-else-num-table-clause-found c =
    let l : length c.args.table.now ≤ c.args.num = omega arith in
    bound_in_beyond c.args.table.now c.args.num l

pub returns-then-num-table-clause-mark : goal.returns-then-num-table-clause-mark
returns-then-num-table-clause-mark c =
    let l : c.args.num < length c.args.table.now = omega arith in
    c.found_value.ensures.mark ∙ sym (ground_in_get c.args.table.now c.args.num c.index-table-num.result l)

pub returns-else-num-table-clause-mark : goal.returns-else-num-table-clause-mark
returns-else-num-table-clause-mark c =
    let l : length c.args.table.now ≤ c.args.num = omega arith in
    sym (ground_in_beyond c.args.table.now c.args.num l)
