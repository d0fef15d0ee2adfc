-- The settings of words, from one word on.
use Rattle.std.proofs.Common.{◌≡◌, ◌<◌, ◌+◌, ◌++◌, ◌∙◌, refl, sym, ap, arith, zero, suc, add-one, ℕ, true, List, [], ◌∷◌, Option, Some, None, length, drop, get_or, map}
use Rattle.std.specs.Prelude.{option_map}
use Rattle.std.specs.List.{list_any}
use Rattle.std.proofs.lemmas.List.{append_assoc}
use Rattle.clap.proofs.CutLemmas.{Lacks, list_any-Lacks, list_any-at, before_first-at, after_first-at}
use Rattle.ap_words.specs.declared.settings.Setting.{Setting}
use Rattle.ap_words.specs.declared.table.OptionName.{OptionName}
use Rattle.ap_words.specs.Words.{both_settings, is_equals, joined_setting, setting_of, settings_of}

-- what is left of a list that is read by f, at an element
pub mapped_at : {X Y : Type 0} (f : X → Y) (xs : List X) (i : ℕ) (x : X) → i < length xs → x ≡ get_or xs i x → drop i (map f xs) ≡ f x ∷ drop (suc i) (map f xs)
mapped_at f [] i x lt e = absurd (omega arith)
mapped_at f (y ∷ ys) zero x lt e = ap (λ z. f z ∷ map f ys) (sym e)
mapped_at f (y ∷ ys) (suc i) x lt e = mapped_at f ys i x (omega arith) e

pub joined_first : (options : List OptionName) (word : List ℕ) (words : List (List ℕ)) → list_any is_equals word ≡ true
    → settings_of options (word ∷ words) ≡ both_settings (joined_setting options word) (settings_of options words)
joined_first options word [] has = rw has refl
joined_first options word (v ∷ vs) has = rw has refl

-- a word that is split at its first `=`
pub split_has : (word name value : List ℕ) → word ≡ name ++ 61 ∷ value → list_any is_equals word ≡ true
split_has word name value is = ap (list_any is_equals) is ∙ list_any-at 61 name value

pub split_is : (options : List OptionName) (word name value : List ℕ) → word ≡ name ++ 61 ∷ value → Lacks 61 name → joined_setting options word ≡ setting_of options name value
split_is options word name value is lacks = ap (joined_setting options) is ∙ rw (before_first-at 61 name value lacks, after_first-at 61 name value lacks) refl

module _ {X : Type 0} (f : X → List ℕ) (options : List OptionName) (words : List X) (i : ℕ) (word : X) (lt : i < length words) (at : word ≡ get_or words i word) where
  pub joined_at : (name value : List ℕ) (s : Option Setting) → f word ≡ name ++ 61 ∷ value → Lacks 61 name → s ≡ setting_of options name value
      → settings_of options (drop i (map f words)) ≡ both_settings s (settings_of options (drop (i + 1) (map f words)))
  joined_at name value s is lacks found =
      rw add-one (ap (settings_of options) (mapped_at f words i word lt at)
      ∙ joined_first options (f word) (drop (suc i) (map f words)) (split_has (f word) name value is)
      ∙ ap (λ o. both_settings o (settings_of options (drop (suc i) (map f words)))) (split_is options (f word) name value is lacks ∙ sym found))

  pub two_at : (value : X) (s : Option Setting) → Lacks 61 (f word) → i + 1 < length words → value ≡ get_or words (i + 1) value → s ≡ setting_of options (f word) (f value)
      → settings_of options (drop i (map f words)) ≡ both_settings s (settings_of options (drop (i + 2) (map f words)))
  two_at value s lacks next at' found =
      let one : i + 1 ≡ suc i = omega arith in
      let two : i + 2 ≡ suc (suc i) = omega arith in
      let tail : drop (suc i) (map f words) ≡ f value ∷ drop (suc (suc i)) (map f words) = mapped_at f words (suc i) value (omega arith) (rw one at at') in
      ap (settings_of options) (mapped_at f words i word lt at ∙ ap (λ ws. f word ∷ ws) tail)
      ∙ rw (list_any-Lacks 61 (f word) lacks) (ap (λ o. both_settings o (settings_of options (drop (suc (suc i)) (map f words)))) (sym found))
      ∙ ap (λ k. both_settings s (settings_of options (drop k (map f words)))) (sym two)

  pub last_at : Lacks 61 (f word) → length words ≡ i + 1 → settings_of options (drop i (map f words)) ≡ None
  last_at lacks end =
      let one : i + 1 ≡ suc i = omega arith in
      ap (settings_of options) (mapped_at f words i word lt at ∙ ap (λ ws. f word ∷ ws) (ended f words (suc i) (omega arith)))
      ∙ rw (list_any-Lacks 61 (f word) lacks) refl
    where
      ended : {X Y : Type 0} (g : X → Y) (xs : List X) (k : ℕ) → length xs ≡ k → drop k (map g xs) ≡ []
      ended g [] zero e = refl
      ended g [] (suc k) e = refl
      ended g (y ∷ ys) zero e = absurd (omega arith)
      ended g (y ∷ ys) (suc k) e = ended g ys k (omega arith)

-- the settings so far, and one more
pub one_more : (before : List Setting) (s : Setting) (rest : Option (List Setting))
    → option_map (λ ss. before ++ ss) (both_settings (Some s) rest) ≡ option_map (λ ss. (before ++ s ∷ []) ++ ss) rest
one_more before s None = refl
one_more before s (Some rest) = ap Some (sym (append_assoc before (s ∷ []) rest))
