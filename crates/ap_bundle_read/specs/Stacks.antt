-- Forms that are read, as stacks.
use Rattle.std.specs.Prelude.{reverse}
use Rattle.ap_defs.specs.Terms.{NominalTerm, term_of}
use Rattle.ap_defs.specs.Types.{NominalType, type_of}
use Rattle.ap_bundle.specs.Forms.{Forms}
use Rattle.ap_bundle_read.specs.declared.terms.TermForms.{TermForms}
pub use Rattle.ap_shared.specs.Expanding.{stacked}
use Rattle.ap_bundle_read.specs.declared.types.TypeForms.{TypeForms}

abbrev pub term_forms : TermForms → Forms NominalTerm
term_forms f = record { numbers = reverse f.numbers.items; whole = stacked term_of f.whole.items }

abbrev pub type_forms : TypeForms → Forms NominalType
type_forms f = record { numbers = reverse f.numbers.items; whole = stacked type_of f.whole.items }
