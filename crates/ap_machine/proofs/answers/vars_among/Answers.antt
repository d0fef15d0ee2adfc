use Rattle.std.proofs.Common.{map, ◌∙◌}
use Rattle.ap_defs.specs.Occurrences.{vars_of_terms}
use Rattle.ap_defs.specs.Terms.{term_of}
use Rattle.ap_defs.specs.declared.terms.Cond.{Cond}
use Rattle.ap_machine.proofs.SetLemmas.{set_of_each}
use Rattle.ap_machine.proofs.answers.vars_among.Goals as goal

pub returns : goal.returns
returns c =
    c.make_ascending.ensures
    ∙ set_of_each c.add_vars_of_terms.new.vars.items c.add_vars_of_conds.new.vars.items c.add_vars.new.vars.items
    (vars_of_terms (map term_of c.args.binds.now)) (map (λ (d : Cond). d.var) c.args.conds.now) c.args.others.now
    (rw c.new-vars.ensures.items at c.in_ok-add_vars_of_terms.ensures) c.in_ok-add_vars_of_conds.ensures c.in_ok-add_vars.ensures
