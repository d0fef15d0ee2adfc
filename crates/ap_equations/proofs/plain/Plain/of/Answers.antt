use Rattle.std.proofs.Common.{rules}
use Rattle.ap_defs.specs.Renaming.{rename_term}
use Rattle.ap_defs.specs.Terms.{term_of}
use Rattle.ap_perm.proofs.ClosureLemmas.{moved_by_none}
use Rattle.ap_equations.proofs.plain.Plain.of.Goals as goal

pub returns-then-is_empty-clause-term : goal.returns-then-is_empty-clause-term
returns-then-is_empty-clause-term c =
    let b = c.args.c.now in
    moved_by_none (rename_term b.base (term_of b.term.now)) b.swaps.items (search rules)
