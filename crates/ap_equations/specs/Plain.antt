-- What parts of terms on which no swappings wait stand for.
use Rattle.ap_defs.specs.Renaming.{rename_term}
use Rattle.ap_defs.specs.Terms.{NominalTerm, term_of}
use Rattle.ap_equations.specs.declared.plain.Plain.{Plain}

-- the term, renamed
abbrev pub plain_term : Plain → NominalTerm
plain_term p = rename_term p.base (term_of p.term.now)
