-- What is written of worded trees may be written.
use Rattle.std.proofs.Common.{◌≡◌, ℕ, ◌<◌, Bool, true, false, List, [], ◌∷◌, ◌++◌, take, refl, sym, subst, append_assoc, append-nil, arith}
use Rattle.std.specs.Prelude.{codes, encode_utf8_all}
use Rattle.std.specs.List.{AllPass}
use Rattle.std.proofs.lemmas.Str.{IsUtf8-append}
use Rattle.std.proofs.lemmas.List.Elements.{All-cons}
use Rattle.unicode_ident.specs.Ident.{is_xid_continue}
use Rattle.unicode_ident.proofs.Computing.{unicode_ident}
use Rattle.ap_lexer.specs.Spelling.{is_long_mark, is_short_mark, IsToken}
use Rattle.ap_lexer.specs.declared.token.TokenKind.TheVariants.{Reserved}
use Rattle.ap_lexer.proofs.Seams.{piece_at-short, piece_at-long}
use Rattle.ap_trees.specs.Types as types
use Rattle.ap_trees.specs.Types.{Ty}
use Rattle.ap_trees.specs.Terms as terms
use Rattle.ap_trees.specs.Terms.{Name, OfWord, OfVar, Term, Terms, Variable, Word, Apply, Pair, Nil, Cell, Abs, Swapped, Last, More}
use Rattle.ap_unparse.specs.declared.context.Context.{Context}
use Rattle.ap_unparse.specs.declared.context.Context.TheVariants.{Whole, Part, Rest}
use Rattle.ap_unparse.specs.Written.{Written, ident, var, comma, space, round_open, round_close, square_close, lambda_word, swap, bytes_of, symbols_of}
use Rattle.ap_unparse.specs.WrittenTypes.{type_at, written_type}
use Rattle.ap_unparse.specs.WrittenTerms.{written_name, term_at, arguments_of, written_term, barred_words, tuple_at, list_at, nil_at}
use Rattle.ap_unparse.specs.Writable.{IsMark, IsWritten, StartsApart, Writes, ReadsAsSymbols}
use Rattle.ap_unparse.specs.Worded.{IsWordedType, IsWordedName, IsWordedTerm, AreWorded}
use Rattle.ap_unparse.proofs.Lexing.{ascii_text, written_is_lexed}

pub mark : (m : ℕ) → is_short_mark (m ∷ []) ≡ true → ((rest : List ℕ) → is_long_mark (m ∷ take 1 rest) ≡ false) → m < 128 → is_xid_continue m ≡ false → IsMark (m ∷ [])
mark m short alone low stops = record {
  byte = m;
  more = [];
  is = refl;
  taken = λ rest after. piece_at-short m rest (IsUtf8-append (m ∷ []) rest (ascii_text m low) after) after short (alone rest);
  low = low;
  stops = stops;
  utf8 = ascii_text m low;
}

pub comma_mark : IsMark (codes ",")
unfolding unicode_ident
comma_mark = mark 44 refl (λ rest. refl) (omega arith) refl

pub open_mark : IsMark (codes "(")
unfolding unicode_ident
open_mark = mark 40 refl (λ rest. refl) (omega arith) refl

pub close_mark : IsMark (codes ")")
unfolding unicode_ident
close_mark = mark 41 refl (λ rest. refl) (omega arith) refl

pub square_open_mark : IsMark (codes "[")
unfolding unicode_ident
square_open_mark = mark 91 refl (λ rest. refl) (omega arith) refl

pub square_close_mark : IsMark (codes "]")
unfolding unicode_ident
square_close_mark = mark 93 refl (λ rest. refl) (omega arith) refl

pub bar_mark : IsMark (codes "|")
unfolding unicode_ident
bar_mark = mark 124 refl (λ rest. refl) (omega arith) refl

pub lambda_mark : IsMark (codes "\\")
unfolding unicode_ident
lambda_mark = mark 92 refl (λ rest. refl) (omega arith) refl

pub dot_mark : IsMark (codes ".")
unfolding unicode_ident
dot_mark = mark 46 refl (λ rest. refl) (omega arith) refl

-- a mark of two bytes
long_mark : (m n : ℕ) → is_long_mark (m ∷ n ∷ []) ≡ true → m < 128 → n < 128 → is_xid_continue m ≡ false → IsMark (m ∷ n ∷ [])
long_mark m n long first second stops = record {
  byte = m;
  more = n ∷ [];
  is = refl;
  taken = λ rest after.
      let behind = IsUtf8-append (n ∷ []) rest (ascii_text n second) after in
      piece_at-long m n rest (IsUtf8-append (m ∷ []) (n ∷ rest) (ascii_text m first) behind) behind long;
  low = first;
  stops = stops;
  utf8 = IsUtf8-append (m ∷ []) (n ∷ []) (ascii_text m first) (ascii_text n second);
}

pub ask_mark : IsMark (codes "?-")
unfolding unicode_ident
ask_mark = long_mark 63 45 refl (omega arith) (omega arith) refl

-- Whatever may be written behind it, apart from words, may be written behind it.
abbrev pub Joins : List Written → Type 0
Joins vs = (ws : List Written) → Writes ws → StartsApart ws → Writes (vs ++ ws)

pub tuple_inside : (ts us : List Written) → Joins ts → Joins us → Joins (ts ++ comma ∷ space ∷ us)
tuple_inside ts us first second ws h a = subst Writes (sym (append_assoc ts (comma ∷ space ∷ us) ws)) (first (comma ∷ space ∷ (us ++ ws)) (comma_mark, tt, second ws h a) tt)

pub behind_close : (ts : List Written) → Joins ts → Joins (ts ++ round_close ∷ [])
behind_close ts first ws h a = subst Writes (sym (append_assoc ts (round_close ∷ []) ws)) (first (round_close ∷ ws) (close_mark, tt, h) tt)

behind_square : (ts : List Written) → Joins ts → Joins (ts ++ square_close ∷ [])
behind_square ts first ws h a = subst Writes (sym (append_assoc ts (square_close ∷ []) ws)) (first (square_close ∷ ws) (square_close_mark, tt, h) tt)

pub writes_type : (part : Bool) (t : Ty) → IsWordedType t → Joins (type_at part t)
writes_type part types.Unit w ws h a = (open_mark, tt, (close_mark, tt, h))
writes_type part (types.Word v) w ws h a = (w, a, h)
writes_type true (types.Pair t u) w ws h a = tuple_inside (type_at false t) (type_at true u) (writes_type false t w.0) (writes_type true u w.1) ws h a
writes_type false (types.Pair t u) w ws h a =
    (open_mark, tt, behind_close (type_at true (types.Pair t u)) (tuple_inside (type_at false t) (type_at true u) (writes_type false t w.0) (writes_type true u w.1)) ws h a)
writes_type part (types.Array t) w ws h a = (square_open_mark, tt, behind_square (type_at false t) (writes_type false t w) ws h a)
writes_type part (types.Abs v t) w ws h a = (w.0, tt, (lambda_mark, tt, writes_type false t w.1 ws h a))

-- a worded type is read again
pub type_is_lexed : (t : Ty) → IsWordedType t → ReadsAsSymbols (bytes_of (written_type t)) (symbols_of (written_type t))
type_is_lexed t w = written_is_lexed (written_type t) (subst Writes (append-nil (written_type t)) (writes_type false t w [] tt tt))

joined : (ts us : List Written) → Joins ts → Joins us → Joins (ts ++ comma ∷ us)
joined ts us first second ws h a = subst Writes (sym (append_assoc ts (comma ∷ us) ws)) (first (comma ∷ (us ++ ws)) (comma_mark, tt, second ws h a) tt)

behind_bar : (context : Context) (ts : List Written) → Joins ts → Joins (barred_words context ts)
behind_bar Whole ts j ws h a = j ws h a
behind_bar Part ts j ws h a = j ws h a
behind_bar Rest ts j ws h a = (bar_mark, tt, j ws h a)

name_joins : (name : Name) → IsWordedName name → (ws : List Written) → Writes ws → StartsApart ws → Writes (written_name name ∷ ws)
name_joins (OfWord v) w ws h a = (w, a, h)
name_joins (OfVar v) w ws h a = (w, a, h)

swap_text : codes "swap" ≡ encode_utf8_all (115 ∷ codes "wap")
unfolding lib.Utf8.encode
swap_text = refl

swap_goes : AllPass is_xid_continue (codes "wap")
unfolding unicode_ident
swap_goes = All-cons (λ x. is_xid_continue x ≡ true) 119 (codes "ap") refl (All-cons (λ x. is_xid_continue x ≡ true) 97 (codes "p") refl (All-cons (λ x. is_xid_continue x ≡ true) 112 [] refl (λ k d l. absurd (omega arith))))

swap_token : IsToken Reserved (codes "swap")
unfolding unicode_ident
swap_token = ((115, codes "wap", sym swap_text, refl, swap_goes), refl)

swap_written : IsWritten Reserved (codes "swap")
swap_written = (swap_token, IsUtf8-append (115 ∷ []) (codes "wap") (ascii_text 115 (omega arith)) (IsUtf8-append (119 ∷ []) (codes "ap") (ascii_text 119 (omega arith)) (IsUtf8-append (97 ∷ []) (codes "p") (ascii_text 97 (omega arith)) (ascii_text 112 (omega arith)))))

list_inside : (context : Context) (ts : List Written) → Joins ts → Joins (list_at context ts)
list_inside Rest ts j ws h a = (comma_mark, tt, j ws h a)
list_inside Whole ts j ws h a = (square_open_mark, tt, behind_square ts j ws h a)
list_inside Part ts j ws h a = (square_open_mark, tt, behind_square ts j ws h a)

nil_joins : (context : Context) → Joins (nil_at context)
nil_joins Rest ws h a = h
nil_joins Whole ws h a = (square_open_mark, tt, (square_close_mark, tt, h))
nil_joins Part ws h a = (square_open_mark, tt, (square_close_mark, tt, h))

-- the rest of a list begins apart, or is nothing
rest_apart : (t : Term) (ws : List Written) → StartsApart ws → StartsApart (term_at Rest t ++ ws)
rest_apart terms.Unit ws a = tt
rest_apart (Variable w) ws a = tt
rest_apart (Word w) ws a = tt
rest_apart (Apply w args) ws a = tt
rest_apart (Pair t u) ws a = tt
rest_apart Nil ws a = a
rest_apart (Cell t u) ws a = tt
rest_apart (Abs n t) ws a = tt
rest_apart (Swapped l r t) ws a = tt

cell_inside : (t u : Term) → Joins (term_at Whole t) → Joins (term_at Rest u) → Joins (term_at Whole t ++ term_at Rest u)
cell_inside t u first second ws h a =
    subst Writes (sym (append_assoc (term_at Whole t) (term_at Rest u) ws)) (first (term_at Rest u ++ ws) (second ws h a) (rest_apart u ws a))

tuple_joins : (context : Context) (ts : List Written) → Joins ts → Joins (tuple_at context ts)
tuple_joins Part ts j ws h a = j ws h a
tuple_joins Whole ts j ws h a = (open_mark, tt, behind_close ts j ws h a)
tuple_joins Rest ts j ws h a = (bar_mark, tt, (open_mark, tt, behind_close ts j ws h a))

swap_joins : (left right : Name) (t : Term) → IsWordedName left → IsWordedName right → Joins (term_at Whole t)
    → Joins (swap ∷ round_open ∷ written_name left ∷ comma ∷ written_name right ∷ comma ∷ (term_at Whole t ++ round_close ∷ []))
swap_joins left right t l r j ws h a =
    let inner = behind_close (term_at Whole t) j ws h a in
    let second = name_joins right r (comma ∷ ((term_at Whole t ++ round_close ∷ []) ++ ws)) (comma_mark, tt, inner) tt in
    (swap_written, tt, (open_mark, tt, name_joins left l (comma ∷ written_name right ∷ comma ∷ ((term_at Whole t ++ round_close ∷ []) ++ ws)) (comma_mark, tt, second) tt))

mutual
  pub writes_term : (context : Context) (t : Term) → IsWordedTerm t → Joins (term_at context t)
  writes_term context terms.Unit w ws h a = behind_bar context (round_open ∷ round_close ∷ []) (λ vs k b. (open_mark, tt, (close_mark, tt, k))) ws h a
  writes_term context (Variable v) w ws h a = behind_bar context (var v ∷ []) (λ vs k b. (w, b, k)) ws h a
  writes_term context (Word v) w ws h a = behind_bar context (ident v ∷ []) (λ vs k b. (w, b, k)) ws h a
  writes_term context (Apply v args) w ws h a =
      behind_bar context (ident v ∷ round_open ∷ (arguments_of args ++ round_close ∷ [])) (λ vs k b. (w.0, tt, (open_mark, tt, behind_close (arguments_of args) (writes_arguments args w.1) vs k b))) ws h a
  writes_term context (Pair t u) w ws h a =
      tuple_joins context (term_at Whole t ++ comma ∷ term_at Part u) (joined (term_at Whole t) (term_at Part u) (writes_term Whole t w.0) (writes_term Part u w.1)) ws h a
  writes_term context Nil w ws h a = nil_joins context ws h a
  writes_term context (Cell t u) w ws h a = list_inside context (term_at Whole t ++ term_at Rest u) (cell_inside t u (writes_term Whole t w.0) (writes_term Rest u w.1)) ws h a
  writes_term context (Abs name t) w ws h a =
      behind_bar context (written_name name ∷ lambda_word ∷ term_at Whole t) (λ vs k b. name_joins name w.0 (lambda_word ∷ (term_at Whole t ++ vs)) (lambda_mark, tt, writes_term Whole t w.1 vs k b) tt) ws h a
  writes_term context (Swapped left right t) w ws h a =
      behind_bar context (swap ∷ round_open ∷ written_name left ∷ comma ∷ written_name right ∷ comma ∷ (term_at Whole t ++ round_close ∷ [])) (swap_joins left right t w.0 w.1 (writes_term Whole t w.2)) ws h a

  pub writes_arguments : (ts : Terms) → AreWorded ts → Joins (arguments_of ts)
  writes_arguments (Last t) w ws h a = writes_term Whole t w ws h a
  writes_arguments (More t ts) w ws h a = joined (term_at Whole t) (arguments_of ts) (writes_term Whole t w.0) (writes_arguments ts w.1) ws h a

-- a worded term is read again
pub term_is_lexed : (t : Term) → IsWordedTerm t → ReadsAsSymbols (bytes_of (written_term t)) (symbols_of (written_term t))
term_is_lexed t w = written_is_lexed (written_term t) (subst Writes (append-nil (written_term t)) (writes_term Whole t w [] tt tt))
