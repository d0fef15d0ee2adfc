-- What lists of terms that are shared stand for.
use Rattle.std.specs.Prelude.{List, map}
use Rattle.ap_defs.specs.Renaming.{rename_term}
use Rattle.ap_defs.specs.Terms.{NominalTerm, term_of}
use Rattle.ap_unify.specs.declared.terms.Terms.{Terms}

-- the terms, renamed
abbrev pub renamed_terms_in : Terms → List NominalTerm
renamed_terms_in l = map (rename_term l.base) (map term_of l.terms.now)
