-- A text has at most as many tokens as bytes.
use Rattle.std.proofs.Common.{◌≡◌, ℕ, zero, suc, pred, ◌≤◌, ◌+◌, List, [], ◌∷◌, length, take, Option, None, Some, arith, length-append}
use Rattle.std.specs.Str.Lossy.{utf8_valid_len}
use Rattle.std.proofs.lemmas.List.{length-map}
use Rattle.std.proofs.lemmas.Grind.{common_steps}
use Rattle.ap_lexer.specs.declared.pieces.Piece.{Piece}
use Rattle.ap_lexer.specs.Pieces.{piece_at}
use Rattle.ap_lexer.specs.Tokens.{Scan, scan_from, scan_piece, span_of, lexeme_at, lexemes_of}

one_at_most : (at : ℕ) (p : Piece) → length (span_of at p) ≤ 1
one_at_most at p = elim p.kind as (λ k. length (span_of at (record { kind = k; len = p.len })) ≤ 1) [ None ↦ omega arith | Some kind ↦ omega arith ]

piece_few : (at n : ℕ) (p : Option Piece) (rest : ℕ → Scan) → ((skip : ℕ) → length (rest skip).spans ≤ n) → length (scan_piece at p rest).spans ≤ suc n
piece_few at n None rest few = omega arith
piece_few at n (Some p) rest few = rw length-append (omega (arith, one_at_most at p, few (pred p.len)))

spans_few : (at skip : ℕ) (bs : List ℕ) → length (scan_from at skip bs).spans ≤ length bs
unfolding scan_from
spans_few at skip [] = omega arith
spans_few at zero (b ∷ bs) = piece_few at (length bs) (piece_at (b ∷ bs)) (λ skip. scan_from (suc at) skip bs) (λ skip. spans_few (suc at) skip bs)
spans_few at (suc skip) (b ∷ bs) = omega (arith, spans_few (suc at) skip bs)

lexemes_few : (bs : List ℕ) → length (lexemes_of bs) ≤ length bs
lexemes_few bs = let same = length-map (scan_from 0 0 bs).spans (lexeme_at bs) in omega (arith, spans_few 0 0 bs)

-- the tokens of a text's front
pub few_lexemes : (bs front : List ℕ) → front ≡ take (utf8_valid_len bs) bs → length (lexemes_of front) ≤ length bs
few_lexemes bs front e =
    let short : length front ≤ length bs = grind (arith, common_steps) in
    omega (arith, lexemes_few front, short)
