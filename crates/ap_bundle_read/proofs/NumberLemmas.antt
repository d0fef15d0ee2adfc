-- What `parse` answers at a numeral.
use Rattle.std.proofs.Common.{rules, ◌≡◌, ◌^◌, ◌&&◌, ◌⊎◌, inl, inr, ℕ, List, Bool, true, false, Err, None, length, refl, subst, nat_lt, ltb-true}
use Rattle.std.proofs.lemmas.Fmt.{IsAscii-from_digits}
use Rattle.std.proofs.lemmas.Str.{IsUtf8-from_ascii}
use Rattle.std.proofs.lemmas.Str.Parse.{IsNumeralModel, numerals_by_value, parse_digits}
use Rattle.std.specs.Char.{is_ascii_digit}
use Rattle.std.specs.List.{list_all}
use Rattle.std.specs.Str.{IsUtf8}
use Rattle.std.specs.Str.Parse.{digits_value, ParsesUnsigned}
use Rattle.ap_bundle.specs.Words.{is_numeral, number_of}

own : IsNumeralModel (λ ds. list_all is_ascii_digit ds ≡ true) (digits_value 10)
own = numerals_by_value _ (search rules)

cases : (b : Bool) → (b ≡ true) ⊎ (b ≡ false)
cases true = inl refl
cases false = inr refl

both : (a b : Bool) → (a && b) ≡ true → (a ≡ true) × (b ≡ true)
both true b h = (refl, h)
both false b h = (cc, cc)

-- a numeral is text
pub numeral_utf8 : (text : List ℕ) → is_numeral text ≡ true → IsUtf8 text
numeral_utf8 text h = IsUtf8-from_ascii text (IsAscii-from_digits text (own.to text (both (list_all is_ascii_digit text) _ h).0))

-- a numeral that isn't parsed is too large
pub numeral_refused : {E : Type 0} (text parsed : List ℕ) (e : E) → parsed ≡ text → is_numeral text ≡ true → ParsesUnsigned 64 10 parsed (Err e) → None ≡ number_of text
unfolding number_of
numeral_refused text parsed e same h refused =
    let parts = both (list_all is_ascii_digit text) _ h in
    let some = both (nat_lt 0 (length text)) _ parts.1 in
    let at_text = subst (λ (s : List ℕ). ParsesUnsigned 64 10 s (Err e)) same refused in
    let never = parse_digits own 64 text (Err e) at_text parts.0 in
    elim (cases (nat_lt (digits_value 10 text) (2 ^ 64))) [
      | inl fits ↦ absurd (never (ltb-true 0 (length text) some.0, ltb-true (digits_value 10 text) (2 ^ 64) fits))
      | inr large ↦ rw (h, large) refl
    ]
