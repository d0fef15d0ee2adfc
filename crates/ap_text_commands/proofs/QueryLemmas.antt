-- Queries one after another, and texts in pieces.
use Rattle.std.proofs.Common.{◌≡◌, ℕ, suc, List, ◌++◌, ap, ◌∙◌, append_assoc}
use Rattle.ap_text_commands.specs.Generated.{query, queries, term}

pub one_query : (n m x : ℕ) → n ≡ suc m → queries n x ≡ query x ++ queries m (term 3 x).state
one_query n m x e = ap (λ k. queries k x) e

-- what was written in three pieces
pub three_pieces : (old first second third new one two : List ℕ) → one ≡ old ++ first → two ≡ one ++ second → new ≡ two ++ third
    → new ≡ old ++ (first ++ (second ++ third))
three_pieces old first second third new one two e f g =
    g ∙ ap (λ l. l ++ third) (f ∙ ap (λ l. l ++ second) e)
    ∙ append_assoc (old ++ first) second third ∙ append_assoc old first (second ++ third)

-- in four
pub four_pieces : (old first second third fourth new one two three : List ℕ) → one ≡ old ++ first → two ≡ one ++ second → three ≡ two ++ third → new ≡ three ++ fourth
    → new ≡ old ++ (first ++ (second ++ (third ++ fourth)))
four_pieces old first second third fourth new one two three e f g h =
    h ∙ ap (λ l. l ++ fourth) (three_pieces old first second third three one two e f g)
    ∙ append_assoc old (first ++ (second ++ third)) fourth
    ∙ ap (λ l. old ++ l) (append_assoc first (second ++ third) fourth ∙ ap (λ l. first ++ l) (append_assoc second third fourth))
