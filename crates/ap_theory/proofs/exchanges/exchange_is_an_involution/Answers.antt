use Rattle.ap_theory.proofs.ExchangeLemmas.{exchange_comes_back, exchange_exchange, exchange_goes, exchange_other}
use Rattle.ap_theory.proofs.exchanges.exchange_is_an_involution.Goals as goal

pub returns-clause-goes : goal.returns-clause-goes
returns-clause-goes c = exchange_goes

pub returns-clause-back : goal.returns-clause-back
returns-clause-back c = exchange_comes_back

pub returns-clause-rest : goal.returns-clause-rest
returns-clause-rest c = exchange_other

pub returns-clause-itself : goal.returns-clause-itself
returns-clause-itself c = exchange_exchange
