-- What is given, and what is spelled so far, without where they lie in memory.
use Rattle.std.specs.Prelude.{ℕ, Bool, List, map}
use Rattle.std.specs.HashSet.{HashSet, contains_by}
use Rattle.std.specs.Str.{bytes_eq}
use denote.Ref.{Bor}
use Rattle.ap_scopes.specs.declared.numbers.Numbers.{Numbers}
use Rattle.ap_scopes.specs.Views.{number_at}
use Rattle.ap_spelling.specs.declared.spelt.Given.{Given}
use Rattle.ap_spelling.specs.declared.spelt.Given.TheVariants as code
use Rattle.ap_spelling.specs.declared.spelt.Spelt.{Spelt}
use Rattle.ap_spelling.specs.Words.{NominalGiven, NominalSpelt, Numbered, name, var}

abbrev pub given_of : Given → NominalGiven
given_of (code.Name a w) = name a w.now
given_of (code.Var x w) = var x w.now

abbrev pub givens_of : List Given → List NominalGiven
givens_of = map given_of

abbrev pub last_of : Numbers → Numbered
last_of t = λ w. number_at t w

abbrev pub spelt_of : Spelt → NominalSpelt
spelt_of s = record { names = s.names.keys; name_words = s.name_words.items; vars = s.vars.keys; var_words = s.var_words.items; last = last_of s.last }

-- whether a set of words that are lent has a word
abbrev pub knows_word : {S : Type 0} → HashSet (Bor (List ℕ)) S → List ℕ → Bool
knows_word set w = contains_by (λ k. bytes_eq w k.now) set
