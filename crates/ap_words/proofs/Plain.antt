-- How clap sees the words of a setting.
use Rattle.std.proofs.Common.{◌≡◌, ◌∙◌, ◌++◌, ◌==◌, ◌&&◌, ◌+◌, refl, sym, ap, ap₂, suc, take, drop, arith, ℕ, Bool, true, false, true≢false, cond, List, [], ◌∷◌, Some, None, codes, length}
use Rattle.std.proofs.lemmas.Bool.Decides.{nat_tests}
use Rattle.std.specs.Prelude.{nat_lt}
use Rattle.std.specs.Char.{is_ascii_digit}
use Rattle.std.specs.List.{before_first, after_first, list_any, position_or_len}
use Rattle.std.specs.Str.{bytes_eq}
use Rattle.std.specs.Str.Parse.{digits_value}
use Rattle.clap.specs.Lexer.{long_of, short_of}
use Rattle.ap_words.specs.declared.table.OptionName.{OptionName}
use Rattle.ap_words.specs.declared.table.OptionName.TheVariants as option
use Rattle.ap_words.specs.Table.{option_name}
use Rattle.ap_words.specs.Words.{is_equals, number_of}

abbrev pub option_word : OptionName → List ℕ
option_word o = codes "--" ++ option_name o

abbrev pub joined_word : OptionName → List ℕ → List ℕ
joined_word o text = option_word o ++ 61 ∷ text

abbrev pub dashes : List ℕ
dashes = codes "--"

pub long_joined : (o : OptionName) (text : List ℕ) → long_of (joined_word o text) ≡ Some (option_name o, Some text)
long_joined option.Depth text = refl
long_joined option.Workers text = refl
long_joined option.Answers text = refl
long_joined option.To text = refl
long_joined option.Seed text = refl
long_joined option.Size text = refl

pub long_alone : (o : OptionName) → long_of (option_word o) ≡ Some (option_name o, None)
long_alone option.Depth = refl
long_alone option.Workers = refl
long_alone option.Answers = refl
long_alone option.To = refl
long_alone option.Seed = refl
long_alone option.Size = refl

pub joined_no_dashes : (o : OptionName) (text : List ℕ) → bytes_eq (joined_word o text) dashes ≡ false
joined_no_dashes option.Depth text = refl
joined_no_dashes option.Workers text = refl
joined_no_dashes option.Answers text = refl
joined_no_dashes option.To text = refl
joined_no_dashes option.Seed text = refl
joined_no_dashes option.Size text = refl

pub alone_no_dashes : (o : OptionName) → bytes_eq (option_word o) dashes ≡ false
alone_no_dashes option.Depth = refl
alone_no_dashes option.Workers = refl
alone_no_dashes option.Answers = refl
alone_no_dashes option.To = refl
alone_no_dashes option.Seed = refl
alone_no_dashes option.Size = refl

pub name_same : (o : OptionName) → bytes_eq (option_name o) (option_name o) ≡ true
name_same option.Depth = refl
name_same option.Workers = refl
name_same option.Answers = refl
name_same option.To = refl
name_same option.Seed = refl
name_same option.Size = refl

-- a word with `=` is what stands before the first, `=`, and what stands after it
pub parted : (word : List ℕ) → list_any is_equals word ≡ true → word ≡ before_first is_equals word ++ 61 ∷ after_first is_equals word
parted [] e = absurd (true≢false (sym e))
parted (x ∷ xs) e = go (x == 61) refl (parted xs)
  where
    go : (b : Bool) → (x == 61) ≡ b → (list_any is_equals xs ≡ true → xs ≡ before_first is_equals xs ++ 61 ∷ after_first is_equals xs) → x ∷ xs ≡ before_first is_equals (x ∷ xs) ++ 61 ∷ after_first is_equals (x ∷ xs)
    go true is later = let same : x ≡ 61 = grind (arith, nat_tests) in rw is (ap (λ y. y ∷ xs) same)
    go false is later =
        let n = position_or_len is_equals xs in
        let one : 1 + n ≡ suc n = omega arith in
        let two : 1 + n + 1 ≡ suc (n + 1) = omega arith in
        rw is (ap (λ ys. x ∷ ys) (later (rw is at e)) ∙ ap₂ (λ i j. take i (x ∷ xs) ++ 61 ∷ drop j (x ∷ xs)) (sym one) (sym two))

-- a word that begins with a digit
pub record IsPlainWord (word : List ℕ) : Type 0 where
  pub long : long_of word ≡ None
  pub short : short_of word ≡ None
  pub no_dashes : bytes_eq word dashes ≡ false

plain_digit : (x : ℕ) (xs : List ℕ) → is_ascii_digit x ≡ true → IsPlainWord (x ∷ xs)
plain_digit x xs digit =
    let apart : (x == 45) ≡ false = grind (arith, nat_tests) in
    record { long = rw apart refl; short = rw apart refl; no_dashes = rw apart refl }

never : (b d : Bool) (m : ℕ) {n : ℕ} → cond (b && (false && d)) (Some m) None ≡ Some n → ⊥
never true d m {n} e = let k : None ≡ Some n = e in cc
never false d m {n} e = let k : None ≡ Some n = e in cc

pub number_plain : (word : List ℕ) (n : ℕ) → number_of word ≡ Some n → IsPlainWord word
number_plain [] n e = absurd (let k : None ≡ Some n = e in cc)
number_plain (x ∷ xs) n e = go (is_ascii_digit x) refl
  where
    go : (b : Bool) → is_ascii_digit x ≡ b → IsPlainWord (x ∷ xs)
    go true is = plain_digit x xs is
    go false is = absurd (never (nat_lt 0 (length (x ∷ xs))) true (digits_value 10 (x ∷ xs)) (rw is at e))
