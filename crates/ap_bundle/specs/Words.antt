-- The words of a bundle's lines, and how they are spelled. A line is words with one space between each two, and an LF.
use Rattle.std.specs.Prelude.{ℕ, ◌^◌, ◌==◌, ◌&&◌, ◌||◌, Bool, not, nat_lt, List, [], ◌∷◌, ◌++◌, length, map, codes, find}
use Rattle.std.specs.Prelude.{Option, None, Some, option_map, option_and_then, slice_index, if◌then◌else◌}
use Rattle.std.specs.Char.{is_ascii_digit}
use Rattle.std.specs.Fmt.{decimal}
use Rattle.std.specs.List.{list_all, join_with_byte, slice_split}
use Rattle.std.specs.Str.{bytes_eq}
use Rattle.std.specs.Str.Parse.{digits_value}
use Rattle.ap_bundle.specs.declared.words.Letter.{Letter}
use Rattle.ap_bundle.specs.declared.words.Letter.TheVariants as letter
use Rattle.ap_bundle.specs.declared.words.NodeWord.{NodeWord}
use Rattle.ap_bundle.specs.declared.words.NodeWord.TheVariants as node
use Rattle.ap_bundle.specs.declared.words.Head.{Head}
use Rattle.ap_bundle.specs.declared.words.Head.TheVariants as head
use Rattle.ap_bundle.specs.declared.words.Word.{Word}
use Rattle.ap_bundle.specs.declared.words.Word.TheVariants as word

abbrev pub letter_text : Letter → List ℕ
letter_text letter.U = codes "u"
letter_text letter.N = codes "n"
letter_text letter.P = codes "p"
letter_text letter.A = codes "a"
letter_text letter.L = codes "l"
letter_text letter.S = codes "s"
letter_text letter.D = codes "d"
letter_text letter.B = codes "b"

abbrev pub letters : List Letter
letters = letter.U ∷ letter.N ∷ letter.P ∷ letter.A ∷ letter.L ∷ letter.S ∷ letter.D ∷ letter.B ∷ []

abbrev pub node_text : NodeWord → List ℕ
node_text node.Atom = codes "atom"
node_text node.Eq = codes "eq"
node_text node.Fresh = codes "fresh"
node_text node.True = codes "true"
node_text node.And = codes "and"
node_text node.Left = codes "left"
node_text node.Right = codes "right"
node_text node.Exists = codes "exists"
node_text node.New = codes "new"

abbrev pub node_words : List NodeWord
node_words = node.Atom ∷ node.Eq ∷ node.Fresh ∷ node.True ∷ node.And ∷ node.Left ∷ node.Right ∷ node.Exists ∷ node.New ∷ []

abbrev pub head_text : Head → List ℕ
head_text head.Text = codes "text"
head_text head.Terms = codes "terms"
head_text head.Derivations = codes "derivations"
head_text head.Derivation = codes "derivation"
head_text head.Vars = codes "vars"
head_text head.Conds = codes "conds"
head_text head.Binds = codes "binds"
head_text head.End = codes "end"
head_text head.V = codes "v"
head_text head.C = codes "c"
head_text head.M = codes "m"
head_text head.T = codes "t"
head_text head.R = codes "r"

abbrev pub heads : List Head
heads = head.T ∷ head.M ∷ head.R ∷ head.V ∷ head.C ∷ head.Text ∷ head.Terms ∷ head.Derivations ∷ head.Derivation
    ∷ head.Vars ∷ head.Conds ∷ head.Binds ∷ head.End ∷ []

abbrev pub word_text : Word → List ℕ
word_text (word.Number n) = decimal n
word_text (word.Letter l) = letter_text l
word_text (word.Node k) = node_text k
word_text (word.Head h) = head_text h

-- the words of a line, spelled, with the LF
unfoldable pub line : List Word → List ℕ
line ws = join_with_byte 32 (map word_text ws) ++ 10 ∷ []

-- decimal digits without leading zeros
abbrev pub is_numeral : List ℕ → Bool
is_numeral text = list_all is_ascii_digit text && (nat_lt 0 (length text) && ((length text == 1) || not (slice_index text 0 == 48)))

-- the number below 2 ^ 64 that is spelled so
unfoldable pub number_of : List ℕ → Option ℕ
number_of text = if is_numeral text && nat_lt (digits_value 10 text) (2 ^ 64) then Some (digits_value 10 text) else None

unfoldable pub letter_of : List ℕ → Option Letter
letter_of text = find (λ l. bytes_eq (letter_text l) text) letters

unfoldable pub node_word_of : List ℕ → Option NodeWord
node_word_of text = find (λ k. bytes_eq (node_text k) text) node_words

unfoldable pub head_of : List ℕ → Option Head
head_of text = find (λ h. bytes_eq (head_text h) text) heads

-- the first of two that is there
abbrev pub either : {A : Type 0} → Option A → Option A → Option A
either (Some x) other = Some x
either None other = other

-- the word that is spelled so
unfoldable pub word_of : List ℕ → Option Word
word_of text = either (option_map word.Number (number_of text)) (either (option_map word.Letter (letter_of text))
    (either (option_map word.Node (node_word_of text)) (option_map word.Head (head_of text))))

abbrev pub before_words : Word → Option (List Word) → Option (List Word)
before_words w ws = option_map (λ all. w ∷ all) ws

-- the words that are spelled so, if each is a word
abbrev pub words_spelled : List (List ℕ) → Option (List Word)
words_spelled [] = Some []
words_spelled (text ∷ texts) = option_and_then (λ w. before_words w (words_spelled texts)) (word_of text)

-- the words of a line, given without its LF
abbrev pub line_words : List ℕ → Option (List Word)
line_words text = words_spelled (slice_split (λ b. b == 32) text)
