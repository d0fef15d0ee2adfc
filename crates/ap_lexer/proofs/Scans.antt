-- A scan from place to place.
use Rattle.std.proofs.Common.{◌≡◌, ℕ, zero, suc, pred, ◌+◌, ◌<◌, ◌≤◌, List, [], ◌∷◌, ◌++◌, length, take, drop, map, None, Some, refl, sym, ap, ◌∙◌, arith, add-zero}
use Rattle.std.proofs.lemmas.List.{map-append, drop-drop}
use Rattle.std.proofs.lemmas.List.Sums.{sum_by-append}
use Rattle.std.proofs.lemmas.Bool.Decides.{nat_tests}
use Rattle.std.proofs.lemmas.Str.{utf8_valid_len-IsUtf8}
use Rattle.std.proofs.Math.Seq.{take-add, take-length}
use Rattle.std.specs.Str.{IsUtf8}
use Rattle.std.specs.Str.Lossy.{utf8_valid_len}
use Rattle.std.specs.Prelude.{Ok, true, count_by, ◌==◌}
use Rattle.ap_lexer.specs.declared.pieces.Piece.{Piece}
use Rattle.ap_lexer.specs.declared.token.TokenKind.{TokenKind}
use Rattle.ap_lexer.specs.Pieces.{piece_at}
use Rattle.ap_lexer.specs.Tokens.{Scan, Lexeme, scan_from, scan_piece, span_of, lexeme_at, lexed, lexed_front, lexemes_of, lexemes_from, line_at}

pub scan_skip : (at k : ℕ) (bs : List ℕ) → k ≤ length bs → scan_from at k bs ≡ scan_from (at + k) 0 (drop k bs)
unfolding scan_from
scan_skip at zero bs fits = rw add-zero refl
scan_skip at (suc k) [] fits = absurd (omega arith)
scan_skip at (suc k) (b ∷ bs) fits =
    let same : suc at + k ≡ at + suc k = omega arith in
    scan_skip (suc at) k bs (omega arith) ∙ ap (λ n. scan_from n 0 (drop k bs)) same

skip_on : (at n b : ℕ) (bs : List ℕ) → 0 < n → n ≤ suc (length bs) → scan_from (suc at) (pred n) bs ≡ scan_from (at + n) 0 (drop n (b ∷ bs))
skip_on at zero b bs some fits = absurd (omega arith)
skip_on at (suc k) b bs some fits =
    let same : suc at + k ≡ at + suc k = omega arith in
    scan_skip (suc at) k bs (omega arith) ∙ ap (λ n. scan_from n 0 (drop k bs)) same

-- a piece, and the scan of what follows it
pub scan_step : (at : ℕ) (bs : List ℕ) (p : Piece) → piece_at bs ≡ Some p → 0 < p.len → p.len ≤ length bs
    → scan_from at 0 bs ≡ scan_piece at (Some p) (λ _. scan_from (at + p.len) 0 (drop p.len bs))
unfolding scan_from
scan_step at [] p e some fits = absurd (omega arith)
scan_step at (b ∷ bs) p e some fits =
    ap (λ q. scan_piece at q (λ skip. scan_from (suc at) skip bs)) e
    ∙ ap (λ (next : Scan). scan_piece at (Some p) (λ _. next)) (skip_on at p.len b bs some fits)

pub scan_stop : (at : ℕ) (bs : List ℕ) → piece_at bs ≡ None → scan_from at 0 bs ≡ record { spans = []; stop = at }
unfolding scan_from
scan_stop at [] e = refl
scan_stop at (b ∷ bs) e = ap (λ q. scan_piece at q (λ skip. scan_from (suc at) skip bs)) e

-- the tokens that are left before a piece, and behind it
pub left_on : (bs : List ℕ) (place : ℕ) (rest : List ℕ) (p : Piece) → rest ≡ drop place bs → piece_at rest ≡ Some p → 0 < p.len → p.len ≤ length rest
    → lexemes_from bs place ≡ map (lexeme_at bs) (span_of place p) ++ lexemes_from bs (place + p.len)
left_on bs place rest p r e some fits =
    let step = scan_step place rest p e some fits in
    let after : drop p.len rest ≡ drop (place + p.len) bs = ap (drop p.len) r ∙ drop-drop p.len place bs in
    let spans : (scan_from place 0 (drop place bs)).spans ≡ span_of place p ++ (scan_from (place + p.len) 0 (drop (place + p.len) bs)).spans =
    ap (λ s. (scan_from place 0 s).spans) (sym r) ∙ ap (λ (s : Scan). s.spans) step ∙ ap (λ s. span_of place p ++ (scan_from (place + p.len) 0 s).spans) after in
    ap (map (lexeme_at bs)) spans ∙ map-append (lexeme_at bs) (span_of place p) (scan_from (place + p.len) 0 (drop (place + p.len) bs)).spans

pub stop_on : (bs : List ℕ) (place : ℕ) (rest : List ℕ) (p : Piece) → (scan_from place 0 rest).stop ≡ (scan_from 0 0 bs).stop → piece_at rest ≡ Some p → 0 < p.len → p.len ≤ length rest
    → (scan_from (place + p.len) 0 (drop p.len rest)).stop ≡ (scan_from 0 0 bs).stop
stop_on bs place rest p h e some fits = sym (ap (λ (s : Scan). s.stop) (scan_step place rest p e some fits)) ∙ h

-- none is left where nothing begins
pub none_left : (bs : List ℕ) (place : ℕ) (rest : List ℕ) → rest ≡ drop place bs → piece_at rest ≡ None → lexemes_from bs place ≡ []
none_left bs place rest r e = ap (λ s. map (lexeme_at bs) (scan_from place 0 s).spans) (sym r) ∙ ap (λ (s : Scan). map (lexeme_at bs) s.spans) (scan_stop place rest e)

pub stopped : (bs : List ℕ) (place : ℕ) (rest : List ℕ) → (scan_from place 0 rest).stop ≡ (scan_from 0 0 bs).stop → piece_at rest ≡ None → place ≡ (scan_from 0 0 bs).stop
stopped bs place rest h e = sym (ap (λ (s : Scan). s.stop) (scan_stop place rest e)) ∙ h

-- the line behind a piece
pub more_lines : (bs : List ℕ) (place n line : ℕ) (rest : List ℕ) → line ≡ line_at bs place → rest ≡ drop place bs → line + count_by (λ b. b == 10) (take n rest) ≡ line_at bs (place + n)
more_lines bs place n line rest e d =
    let split : count_by (λ b. b == 10) (take (place + n) bs) ≡ count_by (λ b. b == 10) (take place bs) + count_by (λ b. b == 10) (take n (drop place bs)) =
    ap (count_by (λ b. b == 10)) (take-add place n bs) ∙ sum_by-append _ (take place bs) (take n (drop place bs)) in
    rw (e, d) (omega (arith, split))

-- the token of a piece
pub token_left : (bs : List ℕ) (place line : ℕ) (rest : List ℕ) (p : Piece) (kind : TokenKind) (t : Lexeme) → rest ≡ drop place bs → line ≡ line_at bs place → p.kind ≡ Some kind
    → t ≡ record { kind = kind; text = take p.len rest; start = place; end = place + p.len; line = line } → map (lexeme_at bs) (span_of place p) ≡ t ∷ []
token_left bs place line rest p kind t r l e t_is = rw (e, t_is, l, r) refl

pub nothing_left : (bs : List ℕ) (place : ℕ) (p : Piece) → p.kind ≡ None → map (lexeme_at bs) (span_of place p) ≡ []
nothing_left bs place p e = rw e refl

same_test : (m n : ℕ) → m ≡ n → (m == n) ≡ true
same_test m n e = grind (arith, nat_tests)

-- a text in which the scan comes to the end reads as its tokens
pub lexed-whole : (bs : List ℕ) → IsUtf8 bs → (scan_from 0 0 bs).stop ≡ length bs → lexed bs ≡ Ok (lexemes_of bs)
unfolding lexed
lexed-whole bs text stop =
    let front : take (utf8_valid_len bs) bs ≡ bs = rw (utf8_valid_len-IsUtf8 bs text) (take-length bs) in
    let ends = same_test (scan_from 0 0 bs).stop (length bs) stop in
    ap (lexed_front bs) front ∙ rw ends refl
