-- Terms that a derivation cites, without where they lie in memory.
use Rattle.std.specs.Prelude.{List, map}
use Rattle.ap_defs.specs.Terms.{NominalTerm, abs, app, name, pair, susp, term_of, unit}
use Rattle.ap_shared.specs.SharedPlaces.{given_terms, shared_term}
use Rattle.ap_judge.specs.declared.cited.Cited.{Cited}
use Rattle.ap_judge.specs.declared.cited.Cited.TheVariants as cited
use Rattle.ap_judge.specs.declared.cited.CitedTerms.{CitedTerms}
use Rattle.ap_judge.specs.declared.cited.CitedTerms.TheVariants as all
use Rattle.ap_judge.specs.declared.cited.Layer.{Layer}
use Rattle.ap_judge.specs.declared.cited.Layer.TheVariants as layer

abbrev pub cited_term : Cited → NominalTerm
cited_term (cited.Line t) = shared_term t
cited_term (cited.Tree t) = term_of t.now

abbrev pub cited_terms : CitedTerms → List NominalTerm
cited_terms (all.Lines ts) = given_terms ts
cited_terms (all.Trees ts) = map term_of ts.now

-- the term with this layer outside
abbrev pub layer_term : Layer → NominalTerm
layer_term layer.Unit = unit
layer_term (layer.Name a) = name a
layer_term (layer.Pair t u) = pair (cited_term t) (cited_term u)
layer_term (layer.App f t) = app f (cited_term t)
layer_term (layer.Abs a t) = abs a (cited_term t)
layer_term (layer.Susp p x) = susp p.now x
