-- How the terms of a bundle are read.
use Rattle.ap_defs.specs.Terms.{NominalTerm}
use Rattle.ap_bundle.specs.TableForms.{read_shared}
use Rattle.ap_bundle.specs.Readers.{Reader}
use Rattle.ap_bundle.specs.Reading.{read_term}
use Rattle.ap_bundle_read.specs.declared.table.term_lines.Terms.{Terms}
use Rattle.ap_bundle_read.specs.declared.table.term_lines.Terms.TheVariants as way
use Rattle.ap_shared.specs.SharedViews.{shared_terms}

abbrev pub reader_of : Terms → Reader NominalTerm
reader_of way.InFull = read_term
reader_of (way.Shared t) = read_shared (shared_terms t)
