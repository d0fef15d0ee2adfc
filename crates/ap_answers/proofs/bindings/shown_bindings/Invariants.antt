-- The bindings so far, and those of the identifiers that are left, are all.
use Rattle.std.proofs.Common.{◌≡◌, ◌++◌, drop, map}
use Rattle.ap_defs.specs.Terms.{term_of}
use Rattle.ap_defs.specs.Types.{locals_of}
use Rattle.ap_defs.specs.Lines.{var_texts, shown_binds}
use Rattle.ap_answers.specs.Bindings.{binds_of}
use Rattle.ap_answers.proofs.bindings.shown_bindings.Given as goal

abbrev pub invariant-loop-local : goal.invariant-loop-local
invariant-loop-local l =
    binds_of l.binds.items ++ shown_binds (var_texts (locals_of (drop l.local-index l.locals))) (map term_of l.rest) ≡ shown_binds (var_texts (locals_of l.locals)) (map term_of l.terms)
