use Rattle.ap_complete.proofs.SimulationLemmas.{search_follows_proofs}
use Rattle.ap_complete.proofs.simulation.search_follows_ground_proofs.Goals as goal

pub returns : goal.returns
returns c = search_follows_proofs
