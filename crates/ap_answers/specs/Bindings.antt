-- Bindings that lend their parts, as bindings.
use Rattle.std.specs.Prelude.{ℕ, List, map}
use Rattle.ap_defs.specs.Terms.{term_of}
use Rattle.ap_defs.specs.Lines.{ShownBind, text_of_var}
use Rattle.ap_defs.specs.Types.{NominalLocal}
use Rattle.ap_answers.specs.declared.bindings.Binding.{Binding}

abbrev pub bind_of : Binding → ShownBind
bind_of b = (b.text.now, term_of b.term.now)

abbrev pub binds_of : List Binding → List ShownBind
binds_of = map bind_of

-- the texts of free variables, and that of an identifier before them if it is one
abbrev pub with_text : NominalLocal → List (List ℕ) → List (List ℕ)
with_text l ws = text_of_var l.bound l.kind l.text ws
