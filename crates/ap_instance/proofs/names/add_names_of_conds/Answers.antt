use Rattle.std.proofs.Common.{◌∙◌, map, sym, ap}
use Rattle.ap_answers.specs.Occurring.{more_names}
use Rattle.ap_instance.specs.Settled.{name_of_cond}
use Rattle.ap_instance.proofs.NameLemmas.{next_name}
use Rattle.ap_instance.proofs.names.add_names_of_conds.Goals as goal

pub adding-preserved : goal.adding-preserved
adding-preserved c =
    next_name c.adding.names.keys c.add_name.new.names.keys c.in-Some.cond.now.name (map name_of_cond c.in-Some.others.now) _ c.in_ok-add_name.ensures
    (sym (ap (λ l. more_names c.adding.names.keys (map name_of_cond l)) c.in-Some.ensures.cases.0) ∙ c.adding.invariant)
