use Rattle.std.proofs.Common.{◌++◌, [], List, sym, ap, ap₂, ◌∙◌, arith}
use Rattle.ap_defs.specs.Freshness.{add_conds}
use Rattle.ap_defs.specs.declared.terms.Cond.{Cond}
use Rattle.ap_store.proofs.JoinedLemmas.{set_more}
use Rattle.ap_store.proofs.held.set_of.Goals as goal

pub gathering-preserved : goal.gathering-preserved
gathering-preserved c =
    c.in_ok-put_set.ensures ∙ ap₂ ◌++◌ c.gathering.invariant (ap (λ (cs : List Cond). add_conds cs []) c.deref.ensures.value)
    ∙ sym (set_more c.args.held.now c.gathering.conds-index c.conds-item.result c.requires (omega (arith, c.gathering-test.true)) c.conds-item.is)
