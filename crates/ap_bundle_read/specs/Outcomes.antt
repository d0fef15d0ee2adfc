-- What a reader in the code gives, beside what a reader gives.
use Rattle.std.specs.Prelude.{◌≡◌, Result, Ok, Err, ⊤}
use Rattle.ap_bundle.specs.declared.faults.BundleFault.{BundleFault}
use Rattle.ap_bundle.specs.Readers as readers
use Rattle.ap_bundle.specs.Readers.{Wrong}
use Rattle.ap_bundle_read.specs.declared.error.ReadError.{ReadError}
use Rattle.ap_bundle_read.specs.declared.error.ReadError.TheVariants as errors
use Rattle.ap_bundle_read.specs.declared.error.BundleError.{BundleError}
use Rattle.ap_bundle_read.specs.declared.error.BundleError.TheVariants as faults
use Rattle.ap_bundle_read.specs.declared.place.Place.{Place}

abbrev pub place_of : Place → readers.Unread
place_of p = record { rest = p.rest.now; room = p.room }

abbrev pub Fails : {Y : Type 0} → ReadError → Result Y Wrong → Type 0
Fails errors.Memory read = ⊤
Fails (errors.Wrong kind left) read = read ≡ Err (record { kind = kind; left = left })

-- what was returned is what reading gives, unless memory ran out
abbrev pub Gives : {X Y : Type 0} → (X → Y) → Result X ReadError → Result Y Wrong → Type 0
Gives view (Ok x) read = read ≡ Ok (view x)
Gives view (Err e) read = Fails e read

abbrev pub FaultGiven : {Y : Type 0} → BundleError → Result Y BundleFault → Type 0
FaultGiven faults.Memory read = ⊤
FaultGiven (faults.Fault f) read = read ≡ Err f

-- the same at the end
abbrev pub Answers : {X Y : Type 0} → (X → Y) → Result X BundleError → Result Y BundleFault → Type 0
Answers view (Ok x) read = read ≡ Ok (view x)
Answers view (Err e) read = FaultGiven e read
