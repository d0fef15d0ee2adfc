use Rattle.std.proofs.Common.{◌≡◌, true, inl, inr, sym, ◌∙◌, subst}
use Rattle.ap_store.specs.Founds.{IsSight}
use Rattle.ap_store.proofs.occurrences.seen_once.Goals as goal

pub returns-in-Unbound : goal.returns-in-Unbound
returns-in-Unbound c = subst (IsSight c.args.store.now c.args.x) c.in-Unbound.is c.seen.ensures

pub returns-in-Ground : goal.returns-in-Ground
returns-in-Ground c = inl (subst (IsSight c.args.store.now c.args.x) c.in-Ground.is c.seen.ensures)

pub returns-then-is_passed : goal.returns-then-is_passed
returns-then-is_passed c = inr (sym c.is_passed.ensures ∙ c.if-is_passed.true)

pub returns-else-is_passed : goal.returns-else-is_passed
returns-else-is_passed c = subst (IsSight c.args.store.now c.args.x) c.in-Below.is c.seen.ensures
