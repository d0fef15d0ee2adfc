-- A text has at most as many tokens as bytes, and at most as many items as tokens.
use Rattle.std.proofs.Common.{◌≡◌, ℕ, zero, suc, pred, ◌≤◌, ◌+◌, List, [], ◌∷◌, length, take, drop, Option, None, Some, Result, Ok, Err, refl, ap, subst, arith, length-append}
use Rattle.std.specs.Prelude.{if◌then◌else◌, Bool, true, false, ◌==◌}
use Rattle.std.specs.Str.Lossy.{utf8_valid_len}
use Rattle.std.proofs.lemmas.List.{length-map}
use Rattle.std.proofs.lemmas.Grind.{common_steps}
use Rattle.ap_lexer.specs.declared.pieces.Piece.{Piece}
use Rattle.ap_lexer.specs.declared.token.Token.{Token}
use Rattle.ap_defs.specs.declared.faults.SyntaxFault.{SyntaxFault}
use Rattle.ap_defs.specs.Limits.{size_limit}
use Rattle.ap_lexer.specs.Pieces.{piece_at}
use Rattle.ap_lexer.specs.Tokens.{Scan, Lexeme, scan_from, scan_piece, span_of, lexeme, lexemes, lexeme_at, lexemes_of, lexed}

one_at_most : (at : ℕ) (p : Piece) → length (span_of at p) ≤ 1
one_at_most at p = elim p.kind as (λ k. length (span_of at (record { kind = k; len = p.len })) ≤ 1) [ None ↦ omega arith | Some kind ↦ omega arith ]

piece_few : (at n : ℕ) (p : Option Piece) (rest : ℕ → Scan) → ((skip : ℕ) → length (rest skip).spans ≤ n) → length (scan_piece at p rest).spans ≤ suc n
piece_few at n None rest few = omega arith
piece_few at n (Some p) rest few = rw length-append (omega (arith, one_at_most at p, few (pred p.len)))

spans_few : (at skip : ℕ) (bs : List ℕ) → length (scan_from at skip bs).spans ≤ length bs
unfolding scan_from
spans_few at skip [] = omega arith
spans_few at zero (b ∷ bs) = piece_few at (length bs) (piece_at (b ∷ bs)) (λ skip. scan_from (suc at) skip bs) (λ skip. spans_few (suc at) skip bs)
spans_few at (suc skip) (b ∷ bs) = omega (arith, spans_few (suc at) skip bs)

lexemes_few : (bs : List ℕ) → length (lexemes_of bs) ≤ length bs
lexemes_few bs = let same = length-map (scan_from 0 0 bs).spans (lexeme_at bs) in omega (arith, spans_few 0 0 bs)

chosen : (b : Bool) (all ts : List Lexeme) (fault : SyntaxFault) → (if b then Ok all else Err fault) ≡ Ok ts → all ≡ ts
chosen true all ts fault e = cc
chosen false all ts fault e = cc

tokens_few : (bs : List ℕ) (ts : List Lexeme) → lexed bs ≡ Ok ts → length ts ≤ length bs
unfolding lexed
tokens_few bs ts e =
    let front = take (utf8_valid_len bs) bs in
    let same : lexemes_of front ≡ ts = chosen ((scan_from 0 0 front).stop == length bs) (lexemes_of front) ts _ e in
    let few : length ts ≤ length front = rw (← same) (lexemes_few front) in
    let short : length front ≤ length bs = grind (arith, common_steps) in
    omega arith

pub few_tokens : (bs : List ℕ) (ts : List Token) → lexed bs ≡ Ok (lexemes ts) → length bs ≤ size_limit → length ts ≤ size_limit
few_tokens bs ts e l = let same = length-map ts lexeme in omega (arith, tokens_few bs (lexemes ts) e)
