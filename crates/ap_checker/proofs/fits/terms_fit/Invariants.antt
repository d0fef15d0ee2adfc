use Rattle.std.proofs.Common.{◌≡◌, ◌≤◌, drop, length, map, zero}
use Rattle.ap_defs.specs.Answers.{typed_var_of}
use Rattle.ap_defs.specs.Renaming.{local_vars}
use Rattle.ap_defs.specs.Resolution.{kinds_of}
use Rattle.ap_shared.specs.Shared.{shared_at}
use Rattle.ap_shared.specs.SharedPlaces.{given_terms}
use Rattle.ap_shared.specs.SharedViews.{shared_terms}
use Rattle.ap_defs.specs.Types.{constructor_of, locals_of}
use Rattle.ap_checks.specs.TypeTests.{have_kinds, type_beside}
use Rattle.ap_judge.specs.Typings.{AreTypesKnown}
use Rattle.ap_checker.proofs.fits.terms_fit.Given as goal

abbrev pub invariant-loop-i : goal.invariant-loop-i
invariant-loop-i l = record {
  same :
      have_kinds (map constructor_of l.constructors) (type_beside (map typed_var_of l.answer.vars)) (kinds_of (locals_of l.locals)) (local_vars l.i (locals_of (drop l.i l.locals))) (map (shared_at (shared_terms l.given.terms.now)) (drop l.place l.given.lines.now))
      ≡ have_kinds (map constructor_of l.constructors) (type_beside (map typed_var_of l.answer.vars)) (kinds_of (locals_of l.locals)) (local_vars zero (locals_of l.locals)) (given_terms l.given);
  within : l.place ≤ length l.given.lines.now;
  typed : AreTypesKnown l.given.terms.now l.constructors l.answer.vars l.typed;
}
