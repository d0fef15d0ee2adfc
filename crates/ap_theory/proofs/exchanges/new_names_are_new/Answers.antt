use Rattle.ap_theory.proofs.ExchangeLemmas.{new_names_apart, new_names_different, new_names_high, new_names_sorts}
use Rattle.ap_theory.proofs.exchanges.new_names_are_new.Goals as goal

pub returns-clause-sorts : goal.returns-clause-sorts
returns-clause-sorts c = new_names_sorts

pub returns-clause-different : goal.returns-clause-different
returns-clause-different c = new_names_different

pub returns-clause-new : goal.returns-clause-new
returns-clause-new c = new_names_apart

pub returns-clause-high : goal.returns-clause-high
returns-clause-high c = new_names_high
