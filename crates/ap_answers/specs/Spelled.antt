-- The spelling that a table gives: the text at the place of a name or a variable.
use Rattle.std.specs.Prelude.{ℕ, List, [], ◌++◌, Option, Some, None, map, slice_get, unwrap_or, position, codes}
use Rattle.ap_defs.specs.Permutations.{name_eq}
use Rattle.ap_defs.specs.Freshness.{var_eq}
use Rattle.ap_defs.specs.Types.{constructor_of}
use Rattle.ap_defs.specs.Printing.{Spelling}
use Rattle.ap_answers.specs.VarSets.{vars_of_set}
use Rattle.ap_answers.specs.Words.{counted_words, numbered_words}
use Rattle.ap_answers.specs.declared.speller.NameTexts.{NameTexts}
use Rattle.ap_answers.specs.declared.speller.NameTexts.TheVariants as name_texts
use Rattle.ap_answers.specs.declared.speller.Speller.{Speller}
use Rattle.ap_answers.specs.declared.speller.VarTexts.{VarTexts}
use Rattle.ap_answers.specs.declared.speller.VarTexts.TheVariants as texts

-- the texts, one by one
abbrev pub texts_of : VarTexts → List (List ℕ)
texts_of (texts.Written ts) = ts.items
texts_of (texts.Numbered ns) = numbered_words (codes "_") ns.items
texts_of (texts.Counted n) = counted_words (codes "_") n

abbrev pub name_texts_of : NameTexts → List (List ℕ)
name_texts_of (name_texts.Written ts) = ts.items
name_texts_of (name_texts.Numbered ts ns) = ts.items ++ numbered_words (codes "n") ns.items

abbrev pub text_at : List (List ℕ) → Option ℕ → List ℕ
text_at texts None = []
text_at texts (Some i) = unwrap_or (slice_get texts i) []

abbrev pub spelling_in : Speller → Spelling
spelling_in s = record {
  names = λ a. text_at (name_texts_of s.name_texts) (position (name_eq a) s.names.now.keys);
  vars = λ x. text_at (texts_of s.var_texts) (position (var_eq x) (vars_of_set s.vars.now));
  constructors = map constructor_of s.constructors.now;
}
