-- Where the marked place of a fault stands.
use Rattle.std.specs.Prelude.{◌≡◌, ◌≤◌, ℕ, List, take, slice_get, Some, Ok}
use Rattle.ap_defs.specs.declared.faults.Fault.{Fault}
use Rattle.ap_defs.specs.declared.faults.Fault.TheVariants as faults
use Rattle.ap_defs.specs.declared.faults.Place.{Place}
use Rattle.ap_defs.specs.declared.faults.SyntaxKind.{SyntaxKind}
use Rattle.ap_defs.specs.declared.faults.SyntaxKind.TheVariants as kinds
use Rattle.ap_lexer.specs.Tokens.{Lexeme, lexed, line_at, item_after}

-- A byte of a text stands at a token of an item: at its begin, in it, or right behind it. As many `.` come before the token as
-- items before the item.
pub record StandsIn (ts : List Lexeme) (item byte : ℕ) : Type 0 where
  pub number : ℕ
  pub token : Lexeme
  pub found : slice_get ts number ≡ Some token
  pub counted : item_after (take number ts) ≡ item
  pub behind_begin : token.start ≤ byte
  pub before_end : byte ≤ token.end

-- it does so for the text's tokens
abbrev pub StandsInItem : List ℕ → ℕ → ℕ → Type 0
StandsInItem text item byte = (ts : List Lexeme) × (lexed text ≡ Ok ts) × StandsIn ts item byte

-- where no token begins, the byte stands in the fault's line; else at a token of the fault's item
abbrev pub IsMarkAt : List ℕ → Place → SyntaxKind → ℕ → Type 0
IsMarkAt text place kinds.NotUtf8 byte = line_at text byte ≡ place.line
IsMarkAt text place kinds.Character byte = line_at text byte ≡ place.line
IsMarkAt text place kinds.Grammar byte = StandsInItem text place.item byte
IsMarkAt text place kinds.TooDeep byte = StandsInItem text place.item byte
IsMarkAt text place kinds.Unended byte = StandsInItem text place.item byte

-- the item of a fault
abbrev pub fault_item : Fault → ℕ
fault_item (faults.Syntax f) = f.place.item
fault_item (faults.Types f) = f.place.item
fault_item (faults.Names f) = f.place.item

-- the byte at which a fault is marked
abbrev pub IsMarkOf : List ℕ → Fault → ℕ → Type 0
IsMarkOf text (faults.Syntax f) byte = IsMarkAt text f.place f.kind byte
IsMarkOf text (faults.Types f) byte = StandsInItem text f.place.item byte
IsMarkOf text (faults.Names f) byte = StandsInItem text f.place.item byte
