-- The bytes that are written are lexed into the tokens that are written.
use Rattle.std.proofs.Common.{◌≡◌, ℕ, suc, ◌+◌, ◌<◌, ◌≤◌, Bool, List, [], ◌∷◌, ◌++◌, map, length, take, drop, Some, None, Ok, refl, sym, ap, ap₂, ◌∙◌, subst, arith, append_assoc, length-append}
use Rattle.std.specs.Prelude.{if◌then◌else◌, encode_utf8, encode_utf8_all}
use Rattle.std.specs.Str.{IsUtf8}
use Rattle.std.proofs.lemmas.Str.{IsUtf8-append, IsUtf8-nil, IsUtf8-from_ascii, len_utf8_bounds, length-encode}
use Rattle.std.proofs.lemmas.Str.Ascii.{IsAscii-cons}
use Rattle.std.proofs.lemmas.List.{drop_at}
use Rattle.std.proofs.Math.Seq.{take-append_seam}
use Rattle.unicode_ident.proofs.Computing.{unicode_ident}
use Rattle.ap_lexer.specs.declared.token.TokenKind.{TokenKind}
use Rattle.ap_lexer.specs.declared.token.TokenKind.TheVariants.{Var, Ident, Reserved, Sign}
use Rattle.ap_lexer.specs.Spelling.{is_reserved, IsWord}
use Rattle.ap_lexer.specs.Pieces.{piece_at}
use Rattle.ap_lexer.specs.Tokens.{Scan, Lexeme, scan_from, scan_piece, lexeme_at, lexemes_of, lexed}
use Rattle.ap_lexer.proofs.Seams.{EndsWord, ends_word-nil, ends_word-ascii, piece_at-variable, piece_at-word, piece_at-space}
use Rattle.ap_lexer.proofs.Scans.{scan_step, scan_stop, lexed-whole}
use Rattle.ap_lexer.proofs.First.{none_at}
use Rattle.ap_trees.specs.Symbols.{Sym, spelled, syms_of}
use Rattle.ap_unparse.specs.Written.{Written, token, space, bytes_of, symbols_of}
use Rattle.ap_unparse.specs.Writable.{IsWritten, StartsApart, Writes, ReadsAsSymbols}

token_text : (kind : TokenKind) (text : List ℕ) → IsWritten kind text → IsUtf8 text
token_text Sign text h = h.utf8
token_text Var text h = h.1
token_text Ident text h = h.1
token_text Reserved text h = h.1

pub ascii_text : (b : ℕ) → b < 128 → IsUtf8 (b ∷ [])
ascii_text b low = IsUtf8-from_ascii (b ∷ []) (IsAscii-cons b [] low (λ i. omega arith))

space_text : IsUtf8 (32 ∷ [])
space_text = ascii_text 32 (omega arith)

pub bytes_text : (ws : List Written) → Writes ws → IsUtf8 (bytes_of ws)
bytes_text [] h = IsUtf8-nil
bytes_text (space ∷ ws) h = IsUtf8-append (32 ∷ []) (bytes_of ws) space_text (bytes_text ws h)
bytes_text (token kind text ∷ ws) h = IsUtf8-append text (bytes_of ws) (token_text kind text h.0) (bytes_text ws h.2)

-- what stands apart ends a word
ends : (ws : List Written) → Writes ws → StartsApart ws → EndsWord (bytes_of ws)
unfolding unicode_ident
ends [] h a = ends_word-nil IsUtf8-nil
ends (space ∷ ws) h a = ends_word-ascii (bytes_of ws) 32 (bytes_text (space ∷ ws) h) (omega arith) refl
ends (token Sign text ∷ ws) h a =
    subst (λ bs. EndsWord (bs ++ bytes_of ws)) (sym h.0.is)
    (ends_word-ascii (h.0.more ++ bytes_of ws) h.0.byte (subst (λ bs. IsUtf8 (bs ++ bytes_of ws)) h.0.is (bytes_text (token Sign text ∷ ws) h)) h.0.low h.0.stops)
ends (token Var text ∷ ws) h a = absurd a
ends (token Ident text ∷ ws) h a = absurd a
ends (token Reserved text ∷ ws) h a = absurd a

-- the token that is written begins the text
pub piece_there : (kind : TokenKind) (text : List ℕ) (ws : List Written) → Writes (token kind text ∷ ws) → piece_at (text ++ bytes_of ws) ≡ Some (record { kind = Some kind; len = length text })
piece_there Sign text ws h = h.0.taken (bytes_of ws) (bytes_text ws h.2)
piece_there Var text ws h =
    let word = h.0.0 in
    subst (λ bs. piece_at (bs ++ bytes_of ws) ≡ Some (record { kind = Some Var; len = length bs })) word.2
    (piece_at-variable word.0 word.1 (bytes_of ws) (subst (λ bs. IsUtf8 (bs ++ bytes_of ws)) (sym word.2) (bytes_text (token Var text ∷ ws) h)) word.3 word.4 (ends ws h.2 h.1))
piece_there Ident text ws h =
    let word = h.0.0.0 in
    let kind : (if is_reserved (encode_utf8_all (word.0 ∷ word.1)) then Reserved else Ident) ≡ Ident = ap (λ bs. if is_reserved bs then Reserved else Ident) word.2 ∙ ap (λ b. if b then Reserved else Ident) h.0.0.1 in
    subst (λ bs. piece_at (bs ++ bytes_of ws) ≡ Some (record { kind = Some Ident; len = length bs })) word.2
    (piece_at-word word.0 word.1 (bytes_of ws) (subst (λ bs. IsUtf8 (bs ++ bytes_of ws)) (sym word.2) (bytes_text (token Ident text ∷ ws) h)) word.3 word.4 (ends ws h.2 h.1)
    ∙ ap (λ (k : TokenKind). Some (record { kind = Some k; len = length (encode_utf8_all (word.0 ∷ word.1)) })) kind)
piece_there Reserved text ws h =
    let word = h.0.0.0 in
    let kind : (if is_reserved (encode_utf8_all (word.0 ∷ word.1)) then Reserved else Ident) ≡ Reserved = ap (λ bs. if is_reserved bs then Reserved else Ident) word.2 ∙ ap (λ b. if b then Reserved else Ident) h.0.0.1 in
    subst (λ bs. piece_at (bs ++ bytes_of ws) ≡ Some (record { kind = Some Reserved; len = length bs })) word.2
    (piece_at-word word.0 word.1 (bytes_of ws) (subst (λ bs. IsUtf8 (bs ++ bytes_of ws)) (sym word.2) (bytes_text (token Reserved text ∷ ws) h)) word.3 word.4 (ends ws h.2 h.1)
    ∙ ap (λ (k : TokenKind). Some (record { kind = Some k; len = length (encode_utf8_all (word.0 ∷ word.1)) })) kind)

word_long : {starts : ℕ → Bool} (text : List ℕ) → IsWord starts text → 0 < length text
word_long text w = subst (λ bs. 0 < length bs) w.2 (rw (length-append (encode_utf8 w.0) (encode_utf8_all w.1)) (rw (length-encode w.0) (omega (arith, (len_utf8_bounds w.0).0))))

pub token_long : (kind : TokenKind) (text : List ℕ) → IsWritten kind text → 0 < length text
token_long Sign text h = subst (λ bs. 0 < length bs) (sym h.is) (omega arith)
token_long Var text h = word_long text h.0
token_long Ident text h = word_long text h.0.0
token_long Reserved text h = word_long text h.0.0

-- the kind and the text of a token
abbrev pub Spelling : Type 0
Spelling = TokenKind × List ℕ

abbrev pub spelling : Lexeme → Spelling
spelling t = (t.kind, t.text)

abbrev pub spellings : List Written → List Spelling
spellings [] = []
spellings (space ∷ ws) = spellings ws
spellings (token kind text ∷ ws) = (kind, text) ∷ spellings ws

abbrev pub symbol_of : Spelling → Sym
symbol_of s = spelled s.0 s.1

pub symbols-spellings : (ws : List Written) → map symbol_of (spellings ws) ≡ symbols_of ws
symbols-spellings [] = refl
symbols-spellings (space ∷ ws) = symbols-spellings ws
symbols-spellings (token kind text ∷ ws) = ap (λ us. spelled kind text ∷ us) (symbols-spellings ws)

pub syms-spelling : (ts : List Lexeme) → syms_of ts ≡ map symbol_of (map spelling ts)
syms-spelling [] = refl
syms-spelling (t ∷ ts) = ap (λ us. spelled t.kind t.text ∷ us) (syms-spelling ts)

-- The scan from a place where this is written comes to the end, and its tokens are those that are written.
record Scans (bs : List ℕ) (at : ℕ) (ws : List Written) : Type 0 where
  stop : (scan_from at 0 (bytes_of ws)).stop ≡ at + length (bytes_of ws)
  tokens : map spelling (map (lexeme_at bs) (scan_from at 0 (bytes_of ws)).spans) ≡ spellings ws

scans : (bs pre : List ℕ) (at : ℕ) (ws : List Written) → Writes ws → bs ≡ pre ++ bytes_of ws → length pre ≡ at → Scans bs at ws
scans bs pre at [] h e l =
    let end = scan_stop at [] (none_at [] refl) in
    record { stop = ap (λ (s : Scan). s.stop) end ∙ (let none : at ≡ at + 0 = omega arith in none); tokens = ap (λ (s : Scan). map spelling (map (lexeme_at bs) s.spans)) end }
scans bs pre at (space ∷ ws) h e l =
    let rest = scans bs (pre ++ 32 ∷ []) (at + 1) ws h (e ∙ sym (append_assoc pre (32 ∷ []) (bytes_of ws))) (length-append pre (32 ∷ []) ∙ (let more : length pre + 1 ≡ at + 1 = omega arith in more)) in
    let step = scan_step at (32 ∷ bytes_of ws) (record { kind = None; len = 1 }) (piece_at-space (bytes_of ws) (bytes_text (space ∷ ws) h) (bytes_text ws h)) (omega arith) (omega arith) in
    record {
      stop = ap (λ (s : Scan). s.stop) step ∙ rest.stop ∙ (let sum : at + 1 + length (bytes_of ws) ≡ at + suc (length (bytes_of ws)) = omega arith in sum);
      tokens = ap (λ (s : Scan). map spelling (map (lexeme_at bs) s.spans)) step ∙ rest.tokens;
    }
scans bs pre at (token kind text ∷ ws) h e l =
    let long = token_long kind text h.0 in
    let rest = scans bs (pre ++ text) (at + length text) ws h.2 (e ∙ sym (append_assoc pre text (bytes_of ws))) (length-append pre text ∙ ap (λ n. n + length text) l) in
    let fits : length text ≤ length (text ++ bytes_of ws) = rw (length-append text (bytes_of ws)) (omega arith) in
    let step = scan_step at (text ++ bytes_of ws) (record { kind = Some kind; len = length text }) (piece_there kind text ws h) long fits in
    let left : drop (length text) (text ++ bytes_of ws) ≡ bytes_of ws = drop_at text (bytes_of ws) (length text) refl in
    let next = step ∙ ap (λ (r : List ℕ). scan_piece at (Some (record { kind = Some kind; len = length text })) (λ _. scan_from (at + length text) 0 r)) left in
    let here : take (length text) (drop at bs) ≡ text = ap (λ (r : List ℕ). take (length text) r) (ap (drop at) e ∙ drop_at pre (text ++ bytes_of ws) at l) ∙ take-append_seam text (bytes_of ws) in
    record {
      stop = ap (λ (s : Scan). s.stop) next ∙ rest.stop ∙ (rw (length-append text (bytes_of ws)) (let sum : at + length text + length (bytes_of ws) ≡ at + (length text + length (bytes_of ws)) = omega arith in sum));
      tokens = ap (λ (s : Scan). map spelling (map (lexeme_at bs) s.spans)) next ∙ ap₂ (λ (t : List ℕ) (us : List Spelling). (kind, t) ∷ us) here rest.tokens;
    }

-- what is written is lexed into its tokens
pub record Lexes (ws : List Written) : Type 0 where
  pub all : lexed (bytes_of ws) ≡ Ok (lexemes_of (bytes_of ws))
  pub tokens : map spelling (lexemes_of (bytes_of ws)) ≡ spellings ws

pub lexes : (ws : List Written) → Writes ws → Lexes ws
lexes ws h =
    let scan = scans (bytes_of ws) [] 0 ws h refl refl in
    record {
      all = lexed-whole (bytes_of ws) (bytes_text ws h) (scan.stop ∙ (let none : 0 + length (bytes_of ws) ≡ length (bytes_of ws) = omega arith in none));
      tokens = scan.tokens;
    }

pub written_is_lexed : (ws : List Written) → Writes ws → ReadsAsSymbols (bytes_of ws) (symbols_of ws)
written_is_lexed ws h =
    let found = lexes ws h in
    record { tokens = lexemes_of (bytes_of ws); all = found.all; same = syms-spelling (lexemes_of (bytes_of ws)) ∙ ap (map symbol_of) found.tokens ∙ symbols-spellings ws }
