-- The tokens that were found stand one after another, and each is the longest.
use Rattle.std.proofs.Common.{◌≡◌, ℕ, zero, suc, ◌+◌, ◌-◌, ◌<◌, ◌≤◌, List, [], ◌∷◌, ◌++◌, length, take, drop, Some, sym, ap, ◌∙◌, subst, arith}
use Rattle.std.proofs.lemmas.List.Elements.{All-append, All-nil}
use Rattle.std.specs.List.{All}
use Rattle.ap_lexer.specs.declared.pieces.Piece.{Piece}
use Rattle.ap_lexer.specs.declared.token.TokenKind.{TokenKind}
use Rattle.ap_lexer.specs.Tokens.{Lexeme, line_at}
use Rattle.ap_lexer.specs.Laws.{IsLongest, TakesLongestOf, Ascend, IsTokenOf, AreTokensOf}

-- the tokens that were found up to a place
pub record Placed (bs : List ℕ) (found : List Lexeme) (place : ℕ) : Type 0 where
  pub ascend : Ascend 0 found place
  pub each : All (IsTokenOf bs) found

pub placed_none : (bs : List ℕ) → Placed bs [] 0
placed_none bs = record { ascend = omega arith; each = All-nil (IsTokenOf bs) }

ascend_up : (from to more : ℕ) (ts : List Lexeme) → Ascend from ts to → to ≤ more → Ascend from ts more
ascend_up from to more [] up le = omega arith
ascend_up from to more (t ∷ ts) up le = (up.0, up.1, ascend_up t.end to more ts up.2 le)

ascend_on : (from to : ℕ) (ts : List Lexeme) (t : Lexeme) → Ascend from ts to → to ≤ t.start → t.start < t.end → Ascend from (ts ++ t ∷ []) t.end
ascend_on from to [] t up next some = (omega arith, some, omega arith)
ascend_on from to (s ∷ ts) t up next some = (up.0, up.1, ascend_on s.end to ts t up.2 next some)

All-one : {X : Type 0} (P : X → Type 0) (x : X) → P x → All P (x ∷ [])
All-one P x holds zero d lt = holds
All-one P x holds (suc k) d lt = absurd (omega arith)

-- what a piece that is taken says of its token
longest_of : (rest : List ℕ) (p : Piece) (kind : TokenKind) → TakesLongestOf rest p.kind p.len → p.kind ≡ Some kind → IsLongest rest kind p.len
longest_of rest p kind h e = subst (λ k. TakesLongestOf rest k p.len) e h

-- the token of a piece is the longest at its place
pub token_is : (bs rest : List ℕ) (place : ℕ) (p : Piece) (t : Lexeme) → rest ≡ drop place bs → TakesLongestOf rest p.kind p.len → p.kind ≡ Some t.kind
    → t.start ≡ place → t.end ≡ place + p.len → t.text ≡ take p.len rest → t.line ≡ line_at bs place → IsTokenOf bs t
token_is bs rest place p t r taken kind start end text line =
    let len : p.len ≡ t.end - t.start = omega (arith, start, end) in
    let here : rest ≡ drop t.start bs = r ∙ ap (λ n. drop n bs) (sym start) in
    record {
      slice = text ∙ ap (λ n. take n rest) len ∙ ap (take (t.end - t.start)) here;
      line = line ∙ ap (line_at bs) (sym start);
      longest = subst (λ n. IsLongest (drop t.start bs) t.kind n) len (subst (λ r. IsLongest r t.kind p.len) here (longest_of rest p t.kind taken kind));
    }

-- a token further
pub placed_on : (bs : List ℕ) (found : List Lexeme) (place : ℕ) (t : Lexeme) → Placed bs found place → IsTokenOf bs t → place ≤ t.start → t.start < t.end → Placed bs (found ++ t ∷ []) t.end
placed_on bs found place t placed one next some = record {
  ascend = ascend_on 0 place found t placed.ascend next some;
  each = All-append (IsTokenOf bs) found (t ∷ []) placed.each (All-one (IsTokenOf bs) t one);
}

-- at the end
pub placed_all : (bs : List ℕ) (found : List Lexeme) (place : ℕ) → Placed bs found place → place ≤ length bs → AreTokensOf bs found
placed_all bs found place placed inside = record { ascend = ascend_up 0 place (length bs) found placed.ascend inside; each = placed.each }
