use Rattle.std.proofs.Common.{rules, ◌≡◌, true, false, Some, None, OnOk, [], refl, subst, sym, ap, ◌∙◌, List}
use Rattle.std.specs.Prelude.{Option}
use Rattle.ap_defs.specs.Permutations.{name_eq}
use Rattle.ap_defs.specs.Renaming.{rename_name, rename_term}
use Rattle.ap_defs.specs.Terms.{term_of}
use Rattle.ap_defs.specs.declared.terms.Cond.{Cond}
use Rattle.ap_fresh.specs.Reduction.{StandBehind, pending_term}
use Rattle.ap_fresh.proofs.ListingLemmas.{nothing_behind}
use Rattle.ap_fresh.proofs.PendingLemmas.{inner_of}
use Rattle.ap_fresh.proofs.StepLemmas.{name_problem, name_refuted, unit_problem}
use Rattle.ap_fresh.proofs.reduction.collect.Goals as goal

pub returns-in-Unit-clause-behind : goal.returns-in-Unit-clause-behind
returns-in-Unit-clause-behind g c =
    let w = c.innermost-inner.result in
    let e = inner_of (g.L.Look.bound c.args.look.now) (g.L.Look.rank c.args.look.now) (g.met.L.Look.ranked c.args.look.now) w c.args.first.name (pending_term c.args.first) c.innermost-inner.ensures.name c.innermost-inner.ensures.term in
    let u = unit_problem (g.L.Look.bound c.args.look.now) (g.L.Look.rank c.args.look.now) (g.met.L.Look.ranked c.args.look.now) w.name (pending_term w) (ap (λ z. rename_term w.base (term_of z)) c.in-Unit.is) in
    subst (λ (o : Option (List Cond)). StandBehind o c.args.conds.now.items c.args.conds.now.items) (sym (e ∙ u)) (nothing_behind c.args.conds.now.items)

pub returns-then-eq-clause-refuted : goal.returns-then-eq-clause-refuted
unfolding name_eq
returns-then-eq-clause-refuted g c =
    let w = c.innermost-inner.result in
    let e = inner_of (g.L.Look.bound c.args.look.now) (g.L.Look.rank c.args.look.now) (g.met.L.Look.ranked c.args.look.now) w c.args.first.name (pending_term c.args.first) c.innermost-inner.ensures.name c.innermost-inner.ensures.term in
    let k : name_eq w.name (rename_name w.base c.in-Name.b) ≡ true = search rules in
    λ h. e ∙ name_refuted (g.L.Look.bound c.args.look.now) (g.L.Look.rank c.args.look.now) (g.met.L.Look.ranked c.args.look.now) w.name (rename_name w.base c.in-Name.b) (pending_term w) (ap (λ z. rename_term w.base (term_of z)) c.in-Name.is) k

pub returns-else-eq-clause-behind : goal.returns-else-eq-clause-behind
unfolding name_eq
returns-else-eq-clause-behind g c =
    let w = c.innermost-inner.result in
    let e = inner_of (g.L.Look.bound c.args.look.now) (g.L.Look.rank c.args.look.now) (g.met.L.Look.ranked c.args.look.now) w c.args.first.name (pending_term c.args.first) c.innermost-inner.ensures.name c.innermost-inner.ensures.term in
    let k : name_eq w.name (rename_name w.base c.in-Name.b) ≡ false = search rules in
    let u = name_problem (g.L.Look.bound c.args.look.now) (g.L.Look.rank c.args.look.now) (g.met.L.Look.ranked c.args.look.now) w.name (rename_name w.base c.in-Name.b) (pending_term w) (ap (λ z. rename_term w.base (term_of z)) c.in-Name.is) k in
    subst (λ (o : Option (List Cond)). StandBehind o c.args.conds.now.items c.args.conds.now.items) (sym (e ∙ u)) (nothing_behind c.args.conds.now.items)

pub returns-in_default : goal.returns-in_default
returns-in_default g c =
    let w = c.innermost-inner.result in
    let e = inner_of (g.L.Look.bound c.args.look.now) (g.L.Look.rank c.args.look.now) (g.met.L.Look.ranked c.args.look.now) w c.args.first.name (pending_term c.args.first) c.innermost-inner.ensures.name c.innermost-inner.ensures.term in
    record {
      behind = subst (λ (o : Option (List Cond)). OnOk c.collect_from.result (StandBehind o c.args.conds.now.items c.collect_from.new.conds.items)) (sym e) c.collect_from.ensures.behind;
      refuted = λ h. e ∙ c.collect_from.ensures.refuted h;
    }
