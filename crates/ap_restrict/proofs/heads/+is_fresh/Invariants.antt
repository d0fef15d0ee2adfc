-- What is left of the term decides.
use Rattle.std.proofs.Common.{◌≡◌, ◌≤◌}
use Rattle.ap_defs.specs.declared.terms.Term.TheViews.{size-Term}
use Rattle.ap_defs.specs.Resolution.{kinds_of}
use Rattle.ap_defs.specs.Terms.{term_of}
use Rattle.ap_defs.specs.Types.{locals_of}
use Rattle.ap_types.specs.Rounds.{marked}
use Rattle.ap_restrict.specs.Heads.{fresh_by, is_known}
use Rattle.ap_restrict.proofs.heads.+is_fresh.Given as goal

abbrev pub decreases-is_fresh : goal.decreases-is_fresh
decreases-is_fresh l = size-Term l.t.now

abbrev pub invariant-loop-rest : goal.invariant-loop-rest
invariant-loop-rest l = record {
  all : fresh_by (is_known l.facts.keys l.table.sort (marked l.table.table.items) (kinds_of (locals_of l.locals)) l.a) l.a (term_of l.rest) ≡ fresh_by (is_known l.fn.facts.keys l.fn.table.sort (marked l.fn.table.table.items) (kinds_of (locals_of l.fn.locals)) l.fn.a) l.fn.a (term_of l.fn.t);
  smaller : size-Term l.rest ≤ size-Term l.fn.t;
}

abbrev pub decreases-loop-rest : goal.decreases-loop-rest
decreases-loop-rest l = size-Term l.rest
