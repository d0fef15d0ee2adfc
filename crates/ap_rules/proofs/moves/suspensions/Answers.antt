use Rattle.std.proofs.Common.{◌≡◌, sym, subst}
use Rattle.std.specs.Prelude.{Some}
use Rattle.ap_defs.specs.declared.terms.Var.{Var}
use Rattle.ap_store.specs.Heads.{IsHeadVar}
use Rattle.ap_store.specs.Views.{bindings_of, meaning_in}
use Rattle.ap_theory.proofs.TermLemmas.{same_number, var_same}
use Rattle.ap_rules.proofs.moves.suspensions.Goals as goal

pub one_variable-requires-clause-right : goal.one_variable-requires-clause-right
one_variable-requires-clause-right c =
    let s = bindings_of c.args.store.now in
    let same : c.args.x ≡ c.args.y = var_same c.args.x c.args.y (same_number c.args.x.num c.args.y.num c.if-x-y.true) in
    subst (λ (z : Var). IsHeadVar s (meaning_in c.args.store.now c.args.right) (Some z)) (sym same) c.requires.right
