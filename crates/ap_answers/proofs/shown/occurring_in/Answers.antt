use Rattle.std.proofs.Common.{arith}
use Rattle.ap_answers.specs.VarSets.{vars_of_set}
use Rattle.ap_answers.proofs.BindingLemmas.{names_of_binding, vars_of_binding}
use Rattle.ap_answers.proofs.shown.occurring_in.Goals as goal

pub loop-bind-preserved : goal.loop-bind-preserved
loop-bind-preserved c = record {
  names = names_of_binding c.args.binds.now c.bind-item.result c.loop-bind.bind-index c.loop-bind.names.keys c.add_names_and_vars.new.names.keys _ (omega arith) c.bind-item.is c.loop-bind.invariant.names c.in_ok-add_names_and_vars.ensures.names;
  vars = vars_of_binding c.args.binds.now c.bind-item.result c.loop-bind.bind-index (vars_of_set c.loop-bind.vars) (vars_of_set c.add_names_and_vars.new.vars) _ (omega arith) c.bind-item.is c.loop-bind.invariant.vars c.in_ok-add_names_and_vars.ensures.vars;
}
