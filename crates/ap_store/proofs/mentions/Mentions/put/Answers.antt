use Rattle.std.proofs.Common.{◌≡◌, ◌≤◌, ◌<◌, ap, ◌∙◌, arith}
use Rattle.ap_defs.specs.Renaming.{rename_term}
use Rattle.ap_defs.specs.Terms.{term_of}
use Rattle.ap_defs.specs.Unification.{has_var}
use Rattle.ap_store.specs.Founds.{bare_term}
use Rattle.ap_store.proofs.MentionLemmas.{on_ok, some_vars}
use Rattle.ap_store.proofs.ReachLemmas.{var_below}
use Rattle.ap_store.proofs.mentions.Mentions.put.Goals as goal

pub returns-in-Some-clause-stay : goal.returns-in-Some-clause-stay
returns-in-Some-clause-stay c = λ y h l. c.mark_each.ensures.stay y.num (h l)

pub returns-in-Some-clause-put : goal.returns-in-Some-clause-put
returns-in-Some-clause-put c =
    let g = some_vars (bare_term c.args.b) _ c.in-Some.vars c.in-Some.is c.in_ok-vars.ensures in
    on_ok c.mark_each.result (λ h y o l. h y (ap (has_var y) c.deref.ensures.value ∙ g y ∙ o)) c.mark_each.ensures.marked

pub returns-in-None-clause-stay : goal.returns-in-None-clause-stay
returns-in-None-clause-stay c = λ y h l. h (let k = c.max-self.ensures in omega (arith, k, l))

pub returns-in-None-clause-put : goal.returns-in-None-clause-put
returns-in-None-clause-put c =
    let b = c.args.b in
    λ y o l. let k : y.num < b.end = var_below b.end (rename_term b.base (term_of b.term.now)) b.below y o in
    absurd (let m = c.max-self.ensures in omega (arith, m, k, l))
