-- A bundle is read again as it is written in either version.
use Rattle.std.proofs.Common.{◌≡◌, Ok, ap}
use Rattle.ap_bundle.specs.Bundles.{NominalBundle}
use Rattle.ap_bundle.specs.Reading.{at_line, cited_reading, reading}
use Rattle.ap_bundle.specs.Written.{written, written_as, written_shared}
use Rattle.ap_bundle.specs.declared.version.Version.{Version}
use Rattle.ap_bundle.specs.declared.version.Version.TheVariants.{One, Two}
use Rattle.ap_bundle_laws.specs.Laws.{FitsBundle, HasRoom, HasRoomEach, HasRoomEachIn, HasRoomIn}
use Rattle.ap_bundle_laws.proofs.BundleLemmas as full
use Rattle.ap_bundle_laws.proofs.SharedLemmas as shared

pub read_again : (v : Version) (b : NominalBundle) → FitsBundle b → HasRoomIn v b → reading (written_as v b) ≡ Ok b
read_again One b fits room = ap (at_line (written b)) (full.again b fits)
read_again Two b fits room = ap (at_line (written_shared b)) (shared.again b fits room)

pub cited_again : (v : Version) (b : NominalBundle) → FitsBundle b → HasRoomEachIn v b → cited_reading (written_as v b) ≡ Ok b
cited_again One b fits room = ap (at_line (written b)) (full.cited_again b fits)
cited_again Two b fits room = ap (at_line (written_shared b)) (shared.cited_again b fits room)

-- with room for its terms it has room in each version
pub room_in : (v : Version) (b : NominalBundle) → HasRoom b → HasRoomIn v b
room_in One b room = tt
room_in Two b room = room
