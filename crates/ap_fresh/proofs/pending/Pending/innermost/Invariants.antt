use Rattle.std.proofs.Common.{◌≡◌}
use Rattle.ap_defs.specs.Renaming.{IsBelow, rename_term}
use Rattle.ap_defs.specs.Terms.{term_of}
use Rattle.ap_defs.specs.Unification.{size}
use Rattle.ap_perm.specs.Inner.{inner_part}
use Rattle.ap_fresh.proofs.pending.Pending.innermost.Given as goal

-- what stands below symbols and other binders in the term does so in the whole
abbrev pub invariant-going : goal.invariant-going
invariant-going l = record {
  below : IsBelow l.self.end (rename_term l.self.base (term_of l.term));
  part : inner_part l.self.name (rename_term l.self.base (term_of l.term)) ≡ inner_part l.self.name (rename_term l.self.base (term_of l.t));
}

abbrev pub decreases-going : goal.decreases-going
decreases-going l = size (rename_term l.self.base (term_of l.term))
