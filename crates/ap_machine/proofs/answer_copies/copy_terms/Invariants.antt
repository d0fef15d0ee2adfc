use Rattle.std.proofs.Common.{◌≡◌, ◌++◌, drop, map}
use Rattle.ap_defs.specs.Terms.{term_of}
use Rattle.ap_machine.proofs.answer_copies.copy_terms.Given as goal

-- the copies so far and the rest are all
abbrev pub invariant-copying : goal.invariant-copying
invariant-copying l = map term_of l.copied.items ++ map term_of (drop l.t-index l.terms) ≡ map term_of l.terms
