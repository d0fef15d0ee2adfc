use denote.Param.Send.{sendable}
use Rattle.ap_replay.proofs.Shared.{tree_sync}
use Rattle.ap_tests.proofs.first_answers.played_by.Goals as goal

pub play-requires-sync-T : goal.play-requires-sync-T
play-requires-sync-T c κs = search (sendable, tree_sync)
