use Rattle.std.proofs.Common.{◌++◌, sym, ap, ◌∙◌}
use Rattle.ap_defs.specs.Goals.{goal_of}
use Rattle.ap_defs.specs.Occurrences.{free_vars}
use Rattle.ap_defs.specs.Renaming.{rename_goal, rename_term}
use Rattle.ap_defs.specs.Terms.{term_of}
use Rattle.ap_machine.proofs.VarLemmas.{pair_left}
use Rattle.ap_machine.proofs.free_vars.+free_vars_of.Goals as goal

pub returns-in-Equal : goal.returns-in-Equal
returns-in-Equal t c =
    c.in_ok-push_vars_of-in-Equal-2.ensures
    ∙ pair_left (rename_term c.args.base (term_of c.in-Equal.t)) (rename_term c.args.base (term_of c.in-Equal.u)) c.loop-rest.vars.items c.push_vars_of.new.vars.items _ c.in_ok-push_vars_of-in-Equal.ensures
    (ap (λ (g : _). c.loop-rest.vars.items ++ free_vars (rename_goal c.args.base (goal_of g))) (sym c.in-Equal.is) ∙ c.loop-rest.invariant.all)

pub returns-in-Fresh : goal.returns-in-Fresh
returns-in-Fresh t c =
    c.in_ok-push_vars_of-in-Fresh-2.ensures
    ∙ pair_left (rename_term c.args.base (term_of c.in-Fresh.t)) (rename_term c.args.base (term_of c.in-Fresh.u)) c.loop-rest.vars.items c.push_vars_of-in-Fresh.new.vars.items _ c.in_ok-push_vars_of-in-Fresh.ensures
    (ap (λ (g : _). c.loop-rest.vars.items ++ free_vars (rename_goal c.args.base (goal_of g))) (sym c.in-Fresh.is) ∙ c.loop-rest.invariant.all)
