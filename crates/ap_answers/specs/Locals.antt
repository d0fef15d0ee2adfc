-- Texts that are lent, and names with low numbers.
use Rattle.std.specs.Prelude.{ℕ, ◌<◌, List, [], ◌∷◌, map}
use Rattle.ap_defs.specs.declared.terms.Name.{Name}
use denote.Ref.{Bor}

-- texts that are lent
abbrev pub lent_texts : List (Bor (List ℕ)) → List (List ℕ)
lent_texts = map (λ w. w.now)

-- the names have numbers below n
abbrev pub AllBelow : ℕ → List Name → Type 0
AllBelow n [] = Unit {0}
AllBelow n (a ∷ as') = (a.num < n) × AllBelow n as'
