-- What a table of terms, and what cites its lines, is without where it lies in memory.
use Rattle.std.specs.Prelude.{ℕ, List, map, reverse}
use Rattle.ap_defs.specs.Terms.{NominalTerm}
use Rattle.ap_defs.specs.Answers.{NominalAnswer, typed_var_of}
use Rattle.ap_defs.specs.Derivations.{NominalDerivation, map_terms}
use Rattle.ap_bundle.specs.Bundles.{NominalBundle, NominalProved}
use Rattle.ap_shared.specs.LineDerivations.{derivation_lines}
use Rattle.ap_shared.specs.Shared.{shared_at, terms_back}
use Rattle.ap_shared.specs.declared.arena.SharedTerms.{SharedTerms}
use Rattle.ap_shared.specs.declared.derivations.SharedAnswer.{SharedAnswer}
use Rattle.ap_shared.specs.declared.derivations.SharedBundle.{SharedBundle}
use Rattle.ap_shared.specs.declared.derivations.SharedDerivation.{SharedDerivation}
use Rattle.ap_shared.specs.declared.derivations.SharedProved.{SharedProved}

-- the terms of the lines
abbrev pub shared_terms : SharedTerms → List NominalTerm
shared_terms s = terms_back (reverse s.lines.items)

-- an answer, and a derivation, over the lines of these terms
abbrev pub shared_answer : List NominalTerm → SharedAnswer → NominalAnswer
shared_answer ts a = record { binds = map (shared_at ts) a.binds; conds = a.conds; vars = map typed_var_of a.vars }

abbrev pub shared_derivation : List NominalTerm → SharedDerivation → NominalDerivation
shared_derivation ts d = map_terms (shared_at ts) (derivation_lines d)

abbrev pub shared_proved : SharedProved → NominalProved
shared_proved p = record { query = p.query; answer = shared_answer (shared_terms p.terms.value) p.answer; derivation = shared_derivation (shared_terms p.terms.value) p.derivation }

abbrev pub shared_bundle : SharedBundle → NominalBundle
shared_bundle b = record { text = b.text; proved = map shared_proved b.proved }
