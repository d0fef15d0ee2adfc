use Rattle.std.proofs.Common.{sym, subst, List}
use Rattle.std.specs.Prelude.{IsPermutation}
use Rattle.std.proofs.lemmas.List.Sorted.{IsPermutation-refl, IsPermutation-reverse}
use Rattle.ap_defs.specs.declared.terms.Cond.{Cond}
use Rattle.ap_perm.proofs.sets.turn_round.Goals as goal

pub returns-then-falls : goal.returns-then-falls
returns-then-falls c =
    let cs = c.args.conds.now.items in
    subst (λ (ds : List Cond). IsPermutation cs ds) (sym c.reverse.ensures.items) (IsPermutation-reverse cs)

pub returns-else-falls : goal.returns-else-falls
returns-else-falls c = IsPermutation-refl c.args.conds.now.items
