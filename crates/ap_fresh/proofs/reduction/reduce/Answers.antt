use Rattle.std.proofs.Common.{rules, IsErrOf, Some, sym, ap, ◌∙◌}
use Rattle.ap_defs.specs.Freshness.{reduce as by_rules}
use Rattle.ap_perm.specs.Closures.{closure_term}
use Rattle.ap_perm.specs.Lookups.{carried_out}
use Rattle.ap_fresh.proofs.SetLemmas.{collected_fresh, collected_least, collected_set, refuted_free}
use Rattle.ap_fresh.specs.declared.error.FreshError.TheVariants.{Refuted}
use Rattle.ap_fresh.specs.Reduction.{added}
use Rattle.ap_fresh.proofs.reduction.reduce.Goals as goal

pub returns-in_err-add_reduced-clause-refuted : goal.returns-in_err-add_reduced-clause-refuted
returns-in_err-add_reduced-clause-refuted g c =
    λ h. let k : IsErrOf c.add_reduced.result Refuted = search rules in
    refuted_free c.args.a (carried_out (g.L.Look.bound c.args.look.now) (g.L.Look.rank c.args.look.now) (closure_term c.args.t.now)) (c.add_reduced.ensures.refuted k)

pub returns-clause-conditions : goal.returns-clause-conditions
returns-clause-conditions g c =
    let o = by_rules c.args.a (carried_out (g.L.Look.bound c.args.look.now) (g.L.Look.rank c.args.look.now) (closure_term c.args.t.now)) in
    collected_set o c.add_reduced.new.conds.items (ap (added o) (sym c.new-conds.ensures.items) ∙ c.in_ok-add_reduced.ensures.added) ∙ ap Some (sym c.make_set.ensures)

pub returns-clause-least : goal.returns-clause-least
returns-clause-least g c =
    let t = carried_out (g.L.Look.bound c.args.look.now) (g.L.Look.rank c.args.look.now) (closure_term c.args.t.now) in
    let o = by_rules c.args.a t in
    collected_least c.args.a t c.make_set.new.conds.items
    (collected_set o c.add_reduced.new.conds.items (ap (added o) (sym c.new-conds.ensures.items) ∙ c.in_ok-add_reduced.ensures.added) ∙ ap Some (sym c.make_set.ensures))

pub returns-clause-fresh : goal.returns-clause-fresh
returns-clause-fresh g c =
    let t = carried_out (g.L.Look.bound c.args.look.now) (g.L.Look.rank c.args.look.now) (closure_term c.args.t.now) in
    let o = by_rules c.args.a t in
    collected_fresh c.args.a t c.make_set.new.conds.items
    (collected_set o c.add_reduced.new.conds.items (ap (added o) (sym c.new-conds.ensures.items) ∙ c.in_ok-add_reduced.ensures.added) ∙ ap Some (sym c.make_set.ensures))
