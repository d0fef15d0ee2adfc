-- The words that name formats.
use Rattle.std.specs.Prelude.{ℕ, List, if◌then◌else◌, codes, Option, Some, None}
use Rattle.std.specs.Str.{bytes_eq}
use Rattle.ap_steps.specs.declared.pages.Format.{Format}
use Rattle.ap_steps.specs.declared.pages.Format.TheVariants.{Text, Latex, Html}

abbrev pub format_named : List ℕ → Option Format
format_named w =
    if bytes_eq w (codes "text") then Some Text
    else (if bytes_eq w (codes "latex") then Some Latex
    else (if bytes_eq w (codes "html") then Some Html
    else None))
