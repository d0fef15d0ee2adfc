-- What is known of a text by its items so far.
use Rattle.std.specs.Prelude.{◌≡◌, ℕ, ◌+◌, ◌≤◌, List, [], ◌++◌, length, Ok, Err}
use Rattle.ap_defs.specs.Limits.{size_limit}
use Rattle.ap_lexer.specs.Tokens.{Lexeme, lexed, item_after}
use Rattle.ap_trees.specs.Items.{ItemOf}
use Rattle.ap_syntax.specs.Reading.{TextOutcome, Reads, after_items}
use Rattle.ap_typecheck.specs.Checking.{IsFirstTypeFault}
use Rattle.ap_typecheck.specs.Typings.{IsTypingOf}
use Rattle.ap_typecheck.specs.declared.texts.Typing.{Typing}
use Rattle.ap_text.specs.Texts.{HasItems}
use Rattle.ap_text.specs.declared.outlook.Outlook.{Outlook}
use Rattle.ap_text.specs.declared.outlook.Outlook.TheVariants as outlooks

-- the items are in the grammar: the typing has them, or this is the first fault of their types, whatever comes behind them
abbrev pub HasTyped : List ItemOf → Typing → Outlook → Type 0
HasTyped is t outlooks.Typed = IsTypingOf is t
HasTyped is t (outlooks.Mistyped f) = (more : List ItemOf) → IsFirstTypeFault (is ++ more) f
HasTyped is t (outlooks.Ungrammatical f) = ⊥

-- of all tokens the first ones read as these items, and what is left begins the item of a number
abbrev pub ReadsTo : List Lexeme → List Lexeme → ℕ → List ItemOf → Type 0
ReadsTo all left n is = (length is + 1 ≡ n) × ((r : TextOutcome) → Reads n left r → Reads 1 all (after_items is r))

abbrev pub ReadsAndTyped : List Lexeme → List Lexeme → ℕ → Typing → Outlook → Type 0
ReadsAndTyped all left n t o = (is : List ItemOf) × ReadsTo all left n is × HasTyped is t o

-- what is known of all tokens where these are left, which begin the item of a number
abbrev pub IsOutlook : List Lexeme → List Lexeme → ℕ → Typing → Outlook → Type 0
IsOutlook all left n t outlooks.Typed = ReadsAndTyped all left n t outlooks.Typed
IsOutlook all left n t (outlooks.Mistyped f) = ReadsAndTyped all left n t (outlooks.Mistyped f)
IsOutlook all left n t (outlooks.Ungrammatical f) = Reads 1 all (Err f)

-- what is known of a text that splits into few tokens, of which all are read
abbrev pub IsOutlookOf : List ℕ → Typing → Outlook → Type 0
IsOutlookOf text t o = (all : List Lexeme) × (lexed text ≡ Ok all) × (length all ≤ size_limit) × IsOutlook all [] (item_after all) t o

-- the typing has the items of the text, which are few
abbrev pub HasTypedText : List ℕ → Typing → Type 0
HasTypedText text t = (is : List ItemOf) × HasItems text is × (length is ≤ size_limit) × IsTypingOf is t
