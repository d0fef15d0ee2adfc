-- Tests of a node, one after the other.
use Rattle.std.proofs.Common.{◌≡◌, Bool, true, false, refl}
use Rattle.std.specs.Prelude.{Option, Some}
use Rattle.ap_checks.specs.Checks.{Refusal, test}

pub test_refuses : (b : Bool) (r : Refusal) (o : Option Refusal) → b ≡ false → test b r o ≡ Some r
test_refuses true r o h = cc
test_refuses false r o h = refl

pub test_goes_on : (b : Bool) (r : Refusal) (o : Option Refusal) → b ≡ true → test b r o ≡ o
test_goes_on true r o h = refl
test_goes_on false r o h = cc
