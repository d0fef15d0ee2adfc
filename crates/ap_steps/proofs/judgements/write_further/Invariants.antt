-- What is written so far, and the terms that are left, are all.
use Rattle.std.proofs.Common.{◌≡◌, ◌++◌, map, length}
use Rattle.ap_defs.specs.Printing.{term_text}
use Rattle.ap_defs.specs.Terms.{term_of}
use Rattle.ap_steps.specs.Steps.{further_texts}
use Rattle.ap_steps.specs.Writers.{writing_of}
use Rattle.ap_steps.proofs.judgements.write_further.Given as goal

abbrev pub invariant-terms : goal.invariant-terms
invariant-terms l =
    l.out.items ++ further_texts (map (term_text (writing_of l.writer).by) (map term_of l.rest))
    ≡ l.fn.out.items ++ further_texts (map (term_text (writing_of l.writer).by) (map term_of l.fn.terms))

abbrev pub decreases-terms : goal.decreases-terms
decreases-terms l = length l.rest
