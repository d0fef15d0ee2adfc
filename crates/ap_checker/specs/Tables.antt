-- What is left of a walk is of one table, or of none.
use Rattle.std.specs.Prelude.{◌≡◌}
use Rattle.std.specs.List.{All}
use Rattle.ap_shared.specs.declared.arena.SharedTerms.{SharedTerms}
use Rattle.ap_judge.specs.Tables.{IsStandingIn}
use Rattle.ap_checker.specs.declared.walk.Pending.{Pending}
use Rattle.ap_checker.specs.declared.walk.Walk.{Walk}

abbrev pub IsPendingIn : SharedTerms → Pending → Type 0
IsPendingIn ts t = t.obligation.terms.now ≡ ts

abbrev pub IsWalkIn : SharedTerms → Walk → Type 0
IsWalkIn ts w = All (IsStandingIn ts) w.standing.items × All (IsPendingIn ts) w.pending.items
