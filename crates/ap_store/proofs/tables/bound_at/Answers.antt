use Rattle.std.proofs.Common.{◌<◌, ◌≤◌, MatchOption, length, sym, subst, arith}
use Rattle.std.specs.Prelude.{◌≡◌, None, Option, Some}
use Rattle.ap_defs.specs.Terms.{NominalTerm}
use Rattle.ap_perm.specs.Closures.{lent_term}
use Rattle.ap_store.proofs.ReachLemmas.{kept_at}
use Rattle.ap_store.proofs.TableLemmas.{bound_in_beyond, bound_in_get}
use Rattle.ap_store.proofs.tables.bound_at.Goals as goal

pub lent_value-requires : goal.lent_value-requires
lent_value-requires c =
    let l : c.args.num < length c.args.table.now = omega arith in
    (kept_at c.args.end c.args.table.now c.args.num c.index-table-num.result l c.requires)

pub returns-then-num-table : goal.returns-then-num-table
returns-then-num-table c =
    let l : c.args.num < length c.args.table.now = omega arith in
    subst (λ (o : Option NominalTerm). MatchOption c.lent_value.result (o ≡ None) (λ d. o ≡ Some (lent_term d)))
    (sym (bound_in_get c.args.table.now c.args.num c.index-table-num.result l)) c.lent_value.ensures

pub returns-else-num-table : goal.returns-else-num-table
returns-else-num-table c =
    let l : length c.args.table.now ≤ c.args.num = omega arith in
    bound_in_beyond c.args.table.now c.args.num l
