-- Readers: from a place in the bytes to a thing and the place after it, or to what is wrong.
use Rattle.std.specs.Prelude.{ℕ, zero, suc, ◌+◌, ◌-◌, ◌==◌, Bool, if◌then◌else◌, List, [], ◌∷◌, ◌++◌, length, take, count_by, Option, None, Some, option_map, Result, Ok, Err}
use Rattle.ap_bundle.specs.declared.faults.BundleKind.{BundleKind}
use Rattle.ap_bundle.specs.declared.faults.BundleKind.TheVariants as kinds
use Rattle.ap_bundle.specs.declared.faults.BundleFault.{BundleFault}
use Rattle.ap_bundle.specs.declared.words.Word.{Word}
use Rattle.ap_bundle.specs.Words.{line_words}

-- What is left of the bytes, and how large the shared terms may be that are still to come.
pub record Unread : Type 0 where
  pub rest : List ℕ
  pub room : ℕ

-- What is wrong, and how many bytes are left from there on.
pub record Wrong : Type 0 where
  pub kind : BundleKind
  pub left : ℕ

infixl 10 ◌>>=◌
abbrev pub ◌>>=◌ : {A B : Type 0} → Result A Wrong → (A → Result B Wrong) → Result B Wrong
(Ok x) >>= f = f x
(Err e) >>= f = Err e

-- the same, where another `>>=` is in use
abbrev pub on_ok : {A B : Type 0} → Result A Wrong → (A → Result B Wrong) → Result B Wrong
on_ok r f = r >>= f

abbrev pub Reader : Type 0 → Type 0
Reader A = Unread → Result (A × Unread) Wrong

-- the bytes end too early
abbrev pub unended : Wrong
unended = record { kind = kinds.Unended; left = 0 }

-- what begins at the place is wrong
abbrev pub wrong : BundleKind → Unread → Wrong
wrong kind p = record { kind = kind; left = length p.rest }

abbrev pub found : {A : Type 0} → BundleKind → Unread → Option A → Result A Wrong
found kind p None = Err (wrong kind p)
found kind p (Some x) = Ok x

abbrev pub is_lf : ℕ → Bool
is_lf b = b == 10

-- the bytes before the first LF, and those after it
abbrev pub first_line : List ℕ → Option (List ℕ × List ℕ)
first_line [] = None
first_line (b ∷ bs) = if is_lf b then Some ([], bs) else option_map (λ l. (b ∷ l.0, l.1)) (first_line bs)

abbrev pub after_line : Unread → List ℕ × List ℕ → Unread
after_line p l = record p { rest = l.1 }

-- the form of a line that was cut off
abbrev pub line_as : {A : Type 0} → BundleKind → (List ℕ → Option A) → Unread → Option (List ℕ × List ℕ) → Result (A × Unread) Wrong
line_as kind form p None = Err unended
line_as kind form p (Some l) = found kind p (form l.0) >>= λ x. Ok (x, after_line p l)

-- the line at the place, of some form
unfoldable pub read_line : {A : Type 0} → BundleKind → (List ℕ → Option A) → Reader A
read_line kind form p = line_as kind form p (first_line p.rest)

-- the words of the line at the place
abbrev pub read_words : BundleKind → Reader (List Word)
read_words kind = read_line kind line_words

-- the line at the place, whose words have some form
unfoldable pub read_form : {A : Type 0} → BundleKind → (List Word → Option A) → Reader A
read_form kind form p = do
  words ← read_words kind p
  x ← found kind p (form words.0)
  Ok (x, words.1)

-- these before those that are read
abbrev pub with_front : {A : Type 0} → List A → Result (List A × Unread) Wrong → Result (List A × Unread) Wrong
with_front front read = read >>= λ more. Ok (front ++ more.0, more.1)

-- so many things
unfoldable pub repeated : {A : Type 0} → Reader A → ℕ → Reader (List A)
repeated read zero p = Ok ([], p)
repeated read (suc n) p = read p >>= λ x. with_front (x.0 ∷ []) (repeated read n x.1)

-- a fault at its line, which is counted over all the bytes
abbrev pub fault_in : List ℕ → Wrong → BundleFault
fault_in bytes w = record { line = 1 + count_by is_lf (take (length bytes - w.left) bytes); kind = w.kind }
