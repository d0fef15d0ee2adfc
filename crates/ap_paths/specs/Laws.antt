-- What holds of every tree of paths.
use Rattle.std.specs.Prelude.{◌≡◌, true, List, []}
use Rattle.ap_paths.specs.declared.limits.Limit.{Limit}
use Rattle.ap_paths.specs.Entries.{TreeEntry}
use Rattle.ap_paths.specs.Limits.{part, AreWithin}
use Rattle.ap_paths.specs.History.{is_legal, open_of}
use Rattle.ap_paths.specs.Trees.{Choices, Outputs, AreTrue}
use Rattle.ap_paths.specs.Merging.{merged}

-- the merged outputs of a legal and true history with nothing open are those below the empty path, as far as they are wanted
abbrev pub MergesWhole : Choices → Outputs → Type 0
MergesWhole c at =
    (l : Limit) (history : List TreeEntry) → is_legal history ≡ true → AreTrue c at history → AreWithin l history → open_of history ≡ []
    → part l (merged history) ≡ part l (at [])
