-- The program of each text has complete answers.
use Rattle.std.proofs.Common.{ℕ, List, [], ◌∷◌}
use Rattle.ap_defs.specs.Answers.{query_outs}
use Rattle.ap_defs.specs.Goals.{NominalProgram, NominalQuery}
use Rattle.ap_complete.specs.CompleteAnswers.{HaveCompleteAnswers, IsCompleteProgram}
use Rattle.ap_complete.proofs.KeptLemmas.{kept_complete}
use Rattle.ap_paths.specs.declared.limits.Limit.{Limit}
use Rattle.ap_report.specs.CompleteTexts.{AreShownWhole, IsCompleteText}
use Rattle.ap_report.proofs.Limiting.{part_whole}
use Rattle.ap_restrict.proofs.KeepingLemmas.{kept_typed}
use Rattle.ap_typecheck.proofs.TypedPrograms.{program_typed}

shown_whole : (p : NominalProgram) (depth : ℕ) (limit : Limit) (qs : List NominalQuery) → HaveCompleteAnswers p depth qs → AreShownWhole p depth limit qs
shown_whole p depth limit [] h = tt
shown_whole p depth limit (q ∷ qs) h = (λ few. (part_whole limit (query_outs p.clauses depth q) few, h.0), shown_whole p depth limit qs h.1)

pub complete_text : (depth : ℕ) (limit : Limit) (text : List ℕ) → IsCompleteText depth limit text
complete_text depth limit text p is =
    let complete : IsCompleteProgram p depth = rw is.carried (kept_complete is.raw (kept_typed is.raw (program_typed is.items is.raw is.typed) is.kept) is.kept depth) in
    shown_whole p depth limit p.queries complete
