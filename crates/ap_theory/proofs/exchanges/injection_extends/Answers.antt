use Rattle.ap_theory.proofs.ExchangeLemmas.{extension_goes, extension_other}
use Rattle.ap_theory.proofs.exchanges.injection_extends.Goals as goal

pub returns-clause-goes : goal.returns-clause-goes
returns-clause-goes c = extension_goes

pub returns-clause-rest : goal.returns-clause-rest
returns-clause-rest c = extension_other
