-- The answers of a problem may be shared between threads: `search` does not find that by itself.
use denote.Param.Send.{IsSync, sendable}
use denote.Ref.{NamedLft}
use Rattle.std.proofs.Crossing.{crosses}
use Rattle.ap_index.proofs.Shared.{index_sync}
use Rattle.ap_query_proofs.specs.contracts.answers.Answers.{the_row}

pub answers_sync : (a : NamedLft) → IsSync (the_row a)
answers_sync a = search (sendable, crosses, index_sync) depth 30
