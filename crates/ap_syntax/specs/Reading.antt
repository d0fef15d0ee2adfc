-- What tokens read as: their items, or the first faulty item.
use Rattle.std.specs.Prelude.{ℕ, ◌+◌, true, false, List, [], ◌∷◌, ◌++◌, take, drop, position, Option, None, Some, Result, Ok, Err, ◌≡◌, ⊤, if◌then◌else◌}
use Rattle.ap_lexer.specs.Tokens.{Lexeme, is_dot}
use Rattle.ap_trees.specs.Symbols.{Sym, syms_of}
use Rattle.ap_trees.specs.Items.{Saying, ItemOf}
use Rattle.ap_defs.specs.declared.faults.SyntaxFault.{SyntaxFault}
use Rattle.ap_syntax.specs.declared.faults.SynError.{SynError}
use Rattle.ap_syntax.specs.declared.faults.SynError.TheVariants as errors
use Rattle.ap_defs.specs.declared.faults.SyntaxKind.{SyntaxKind}
use Rattle.ap_defs.specs.declared.faults.SyntaxKind.TheVariants as kinds
use Rattle.ap_syntax.specs.ItemGrammar.{IsItem}
use Rattle.ap_syntax.specs.ItemReader.{read_item}
use Rattle.ap_syntax.specs.Nesting.{is_too_deep}

-- the place of the first `.`, which ends the first item
abbrev pub first_dot : List Lexeme → Option ℕ
first_dot ts = position is_dot ts

-- the symbols of the tokens before a place
abbrev pub before : ℕ → List Lexeme → List Sym
before place ts = syms_of (take place ts)

abbrev pub fault : ℕ → Lexeme → SyntaxKind → SyntaxFault
fault item first kind = record { place = record { item = item; line = first.line }; kind = kind }

-- What the first of some tokens reads as, where it begins the item of a number: the item with the
-- tokens after its `.`, or its fault. Its line is that of its first token.
pub data First (item : ℕ) (t : Lexeme) (ts : List Lexeme) : Result (ItemOf × List Lexeme) SyntaxFault → Type 0 where
  -- no `.` ends it
  unended : first_dot (t ∷ ts) ≡ None → First item t ts (Err (fault item t kinds.Unended))
  -- it has more than 256 levels
  too_deep : (place : ℕ) → first_dot (t ∷ ts) ≡ Some place → is_too_deep (before place (t ∷ ts)) ≡ true → First item t ts (Err (fault item t kinds.TooDeep))
  -- it isn't in the grammar
  no_item : (place : ℕ) → first_dot (t ∷ ts) ≡ Some place → is_too_deep (before place (t ∷ ts)) ≡ false
      → ((form : Saying) → ¬ IsItem (before place (t ∷ ts)) form) → First item t ts (Err (fault item t kinds.Grammar))
  -- it is in the grammar
  an_item : (place : ℕ) (form : Saying) → first_dot (t ∷ ts) ≡ Some place → is_too_deep (before place (t ∷ ts)) ≡ false
      → IsItem (before place (t ∷ ts)) form → First item t ts (Ok (record { line = t.line; form = form }, drop (place + 1) (t ∷ ts)))

-- the first of some tokens, of which there is one at least
abbrev pub FirstOf : ℕ → List Lexeme → Result (ItemOf × List Lexeme) SyntaxFault → Type 0
FirstOf item [] o = ⊥
FirstOf item (t ∷ ts) o = First item t ts o

-- what an item reads as whose symbols before its `.` are these
abbrev pub form_or_fault : ℕ → ℕ → Option Saying → Result ItemOf SyntaxFault
form_or_fault item line None = Err (record { place = record { item = item; line = line }; kind = kinds.Grammar })
form_or_fault item line (Some form) = Ok (record { line = line; form = form })

abbrev pub item_or_fault : ℕ → ℕ → List Sym → Result ItemOf SyntaxFault
item_or_fault item line ts = if is_too_deep ts then Err (record { place = record { item = item; line = line }; kind = kinds.TooDeep })
    else form_or_fault item line (read_item ts)

-- all items, or the first fault
abbrev pub TextOutcome : Type 0
TextOutcome = Result (List ItemOf) SyntaxFault

-- these items before those that were read, unless there is a fault
abbrev pub after_items : List ItemOf → TextOutcome → TextOutcome
after_items front (Ok more) = Ok (front ++ more)
after_items front (Err f) = Err f

-- What tokens read as, of which the first begins the item of a number: all items, or the first fault.
pub data Reads : ℕ → List Lexeme → TextOutcome → Type 0 where
  all_read : {item : ℕ} → Reads item [] (Ok [])
  faulty : {item : ℕ} {t : Lexeme} {ts : List Lexeme} (f : SyntaxFault) → First item t ts (Err f) → Reads item (t ∷ ts) (Err f)
  goes_on : {item : ℕ} {t : Lexeme} {ts : List Lexeme} (x : ItemOf) (rest : List Lexeme) (r : TextOutcome) → First item t ts (Ok (x, rest)) → Reads (item + 1) rest r
      → Reads item (t ∷ ts) (after_items (x ∷ []) r)

abbrev pub FailsAsOneOf : {Y : Type 0} → SynError → (Result Y SyntaxFault → Type 0) → Type 0
FailsAsOneOf errors.Memory P = ⊤
FailsAsOneOf (errors.Fault f) P = P (Err f)

-- what was returned is among these readings, unless memory ran out
abbrev pub GivesOneOf : {X Y : Type 0} → (X → Y) → Result X SynError → (Result Y SyntaxFault → Type 0) → Type 0
GivesOneOf view (Ok x) P = P (Ok (view x))
GivesOneOf view (Err e) P = FailsAsOneOf e P
