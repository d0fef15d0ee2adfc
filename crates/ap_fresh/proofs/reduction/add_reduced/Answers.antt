use Rattle.std.proofs.Common.{OnOk, subst, sym, ap, ap₂, ◌∙◌, List}
use Rattle.std.specs.Prelude.{Option}
use Rattle.ap_defs.specs.Freshness.{reduce}
use Rattle.ap_defs.specs.Renaming.{rename_term}
use Rattle.ap_defs.specs.Terms.{term_of}
use Rattle.ap_defs.specs.declared.terms.Cond.{Cond}
use Rattle.ap_perm.specs.Closures.{closure_term}
use Rattle.ap_perm.specs.Lookups.{carried_out}
use Rattle.ap_fresh.specs.Reduction.{StandBehind}
use Rattle.ap_fresh.proofs.ListingLemmas.{behind_added}
use Rattle.ap_fresh.proofs.StepLemmas.{moved_problem, on_ok, problem}
use Rattle.ap_fresh.proofs.reduction.add_reduced.Goals as goal

pub returns-clause-behind : goal.returns-clause-behind
returns-clause-behind g c =
    let d = c.lent.result in
    let k = ap (problem (g.L.Look.bound c.args.look.now) (g.L.Look.rank c.args.look.now) (g.met.L.Look.ranked c.args.look.now) c.args.a) (sym c.lent.ensures) ∙ moved_problem (g.L.Look.bound c.args.look.now) (g.L.Look.rank c.args.look.now) (g.met.L.Look.ranked c.args.look.now) c.args.a d.swaps.now (rename_term d.base (term_of d.term.now))
    ∙ ap₂ (problem (g.L.Look.bound c.args.look.now) (g.L.Look.rank c.args.look.now) (g.met.L.Look.ranked c.args.look.now)) (sym c.bound.ensures.name) (sym c.bound.ensures.term) in
    subst (λ (o : Option (List Cond)). OnOk c.collect.result (StandBehind o c.args.conds.now.items c.collect.new.conds.items)) (sym k) c.collect.ensures.behind

pub returns-clause-added : goal.returns-clause-added
returns-clause-added g c =
    on_ok c.collect.result (behind_added (reduce c.args.a (carried_out (g.L.Look.bound c.args.look.now) (g.L.Look.rank c.args.look.now) (closure_term c.args.t.now))) c.args.conds.now.items c.collect.new.conds.items) (returns-clause-behind g c)

pub returns-clause-refuted : goal.returns-clause-refuted
returns-clause-refuted g c =
    let d = c.lent.result in
    λ h. ap (problem (g.L.Look.bound c.args.look.now) (g.L.Look.rank c.args.look.now) (g.met.L.Look.ranked c.args.look.now) c.args.a) (sym c.lent.ensures) ∙ moved_problem (g.L.Look.bound c.args.look.now) (g.L.Look.rank c.args.look.now) (g.met.L.Look.ranked c.args.look.now) c.args.a d.swaps.now (rename_term d.base (term_of d.term.now))
    ∙ ap₂ (problem (g.L.Look.bound c.args.look.now) (g.L.Look.rank c.args.look.now) (g.met.L.Look.ranked c.args.look.now)) (sym c.bound.ensures.name) (sym c.bound.ensures.term)
    ∙ c.collect.ensures.refuted h
