-- A text whose bound names are marked, by its first mark.
use Rattle.std.proofs.Common.{◌≡◌, ℕ, List, ◌∷◌, ◌++◌, drop, take, sym, ap, ◌∙◌, append_assoc}
use Rattle.ap_steps.specs.declared.steps.Mark.{Mark}
use Rattle.ap_steps.specs.Html.{coloured, marked_text}

pub marked_next : (o o1 rest behind front : List ℕ) (left others : List Mark) (m : Mark) (all : List ℕ) → left ≡ m ∷ others → front ≡ take m.length rest
    → behind ≡ drop m.length rest → o1 ≡ o ++ coloured m.colour front → o ++ marked_text rest left ≡ all → o1 ++ marked_text behind others ≡ all
marked_next o o1 rest behind front left others m all e f h w is =
    ap (λ bs. bs ++ marked_text behind others) (w ∙ ap (λ t. o ++ coloured m.colour t) f) ∙ ap (λ t. (o ++ coloured m.colour (take m.length rest)) ++ marked_text t others) h
    ∙ append_assoc o (coloured m.colour (take m.length rest)) (marked_text (drop m.length rest) others) ∙ ap (λ ms. o ++ marked_text rest ms) (sym e) ∙ is
