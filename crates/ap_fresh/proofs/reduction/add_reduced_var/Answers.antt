use Rattle.std.proofs.Common.{Some, OnOk, [], refl, subst, sym, ap₂, ◌∙◌, List, ◌∷◌}
use Rattle.std.specs.Prelude.{Option}
use Rattle.ap_defs.specs.Freshness.{reduce}
use Rattle.ap_defs.specs.Renaming.{rename_term}
use Rattle.ap_defs.specs.Terms.{susp, term_of}
use Rattle.ap_defs.specs.declared.terms.Cond.{Cond}
use Rattle.ap_perm.specs.Closures.{lent_term}
use Rattle.ap_perm.specs.Lookups.{carried_out}
use Rattle.ap_fresh.specs.Reduction.{StandBehind}
use Rattle.ap_fresh.proofs.ListingLemmas.{behind_added, one_behind}
use Rattle.ap_fresh.proofs.StepLemmas.{moved_problem, on_ok, problem, unbound_problem, var_problem}
use Rattle.ap_fresh.proofs.reduction.add_reduced_var.Goals as goal

pub returns-in_ok-push-in-None-clause-behind : goal.returns-in_ok-push-in-None-clause-behind
returns-in_ok-push-in-None-clause-behind g c =
    subst (λ (o : Option (List Cond)). StandBehind o c.args.conds.now.items c.push.new.self.items) (sym (unbound_problem (g.L.Look.bound c.args.look.now) (g.L.Look.rank c.args.look.now) (g.met.L.Look.ranked c.args.look.now) c.args.a [] c.args.x (susp [] c.args.x) refl c.in-None.ensures))
    (subst (StandBehind (Some (record { name = c.args.a; var = c.args.x } ∷ [])) c.args.conds.now.items) (sym c.in_ok-push-in-None.ensures.items)
    (one_behind (record { name = c.args.a; var = c.args.x }) c.args.conds.now.items))

pub returns-in_ok-push-in-None-clause-added : goal.returns-in_ok-push-in-None-clause-added
returns-in_ok-push-in-None-clause-added g c =
    behind_added (reduce c.args.a (carried_out (g.L.Look.bound c.args.look.now) (g.L.Look.rank c.args.look.now) (susp [] c.args.x))) c.args.conds.now.items c.push.new.self.items (returns-in_ok-push-in-None-clause-behind g c)

pub returns-in-Some-clause-behind : goal.returns-in-Some-clause-behind
returns-in-Some-clause-behind g c =
    let d = c.in-Some.c in
    let k = var_problem (g.L.Look.bound c.args.look.now) (g.L.Look.rank c.args.look.now) (g.met.L.Look.ranked c.args.look.now) c.args.a c.args.x (lent_term d) c.in-Some.ensures ∙ moved_problem (g.L.Look.bound c.args.look.now) (g.L.Look.rank c.args.look.now) (g.met.L.Look.ranked c.args.look.now) c.args.a d.swaps.now (rename_term d.base (term_of d.term.now))
    ∙ ap₂ (problem (g.L.Look.bound c.args.look.now) (g.L.Look.rank c.args.look.now) (g.met.L.Look.ranked c.args.look.now)) (sym c.bound.ensures.name) (sym c.bound.ensures.term) in
    subst (λ (o : Option (List Cond)). OnOk c.collect.result (StandBehind o c.args.conds.now.items c.collect.new.conds.items)) (sym k) c.collect.ensures.behind

pub returns-in-Some-clause-added : goal.returns-in-Some-clause-added
returns-in-Some-clause-added g c =
    on_ok c.collect.result (behind_added (reduce c.args.a (carried_out (g.L.Look.bound c.args.look.now) (g.L.Look.rank c.args.look.now) (susp [] c.args.x))) c.args.conds.now.items c.collect.new.conds.items) (returns-in-Some-clause-behind g c)

pub returns-in-Some-clause-refuted : goal.returns-in-Some-clause-refuted
returns-in-Some-clause-refuted g c =
    let d = c.in-Some.c in
    λ h. var_problem (g.L.Look.bound c.args.look.now) (g.L.Look.rank c.args.look.now) (g.met.L.Look.ranked c.args.look.now) c.args.a c.args.x (lent_term d) c.in-Some.ensures ∙ moved_problem (g.L.Look.bound c.args.look.now) (g.L.Look.rank c.args.look.now) (g.met.L.Look.ranked c.args.look.now) c.args.a d.swaps.now (rename_term d.base (term_of d.term.now))
    ∙ ap₂ (problem (g.L.Look.bound c.args.look.now) (g.L.Look.rank c.args.look.now) (g.met.L.Look.ranked c.args.look.now)) (sym c.bound.ensures.name) (sym c.bound.ensures.term)
    ∙ c.collect.ensures.refuted h
