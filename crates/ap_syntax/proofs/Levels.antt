-- The levels in order, of which the definitions have the last first.
use Rattle.std.proofs.Common.{◌≡◌, ℕ, ◌+◌, ◌-◌, ◌<◌, ◌≤◌, Bool, true, false, ◌||◌, List, [], ◌∷◌, ◌++◌, length, take, drop, reverse, get_or, refl, sym, ap, ◌∙◌, arith, add-one, subst, nat_lt}
use Rattle.std.proofs.lemmas.List.{take_more, reverse-append}
use Rattle.std.proofs.Math.Seq.{drop-cons}
use Rattle.ap_syntax.specs.declared.nesting.Level.{Level}
use Rattle.ap_syntax.specs.declared.nesting.Level.TheVariants.{Round, Square, Under}
use Rattle.std.proofs.lemmas.Grind.{common_steps}
use Rattle.std.proofs.lemmas.Bool.Decides.{nat_tests}
use Rattle.ap_syntax.specs.declared.nesting.Step.{Step}
use Rattle.ap_trees.specs.declared.symbols.Symbol.{Symbol}
use Rattle.ap_trees.specs.Symbols.{sym as sym_of, syms}
use Rattle.ap_syntax.specs.Nesting.{to_bracket, is_bracket, nesting_step, next_levels, most_levels, passes}

pub last_first : (levels : List Level) (place : ℕ) (x : Level) → 0 < place → place ≤ length levels → reverse (take place levels) ≡ get_or levels (place - 1) x ∷ reverse (take (place - 1) levels)
last_first levels place x some inside =
    let e : place ≡ place - 1 + 1 = omega arith in
    let more : take (place - 1 + 1) levels ≡ take (place - 1) levels ++ get_or levels (place - 1) x ∷ [] = take_more levels (place - 1) x (omega arith) in
    ap (λ n. reverse (take n levels)) e ∙ ap reverse more ∙ reverse-append (take (place - 1) levels) (get_or levels (place - 1) x ∷ [])

bracket_first : (level : Level) (rest : List Level) → is_bracket level ≡ true → to_bracket (level ∷ rest) ≡ level ∷ rest
bracket_first Round rest is = refl
bracket_first Square rest is = refl
bracket_first Under rest is = absurd (cc is)

pub stops_here : (levels : List Level) (place : ℕ) (x : Level) → 0 < place → place ≤ length levels → is_bracket (get_or levels (place - 1) x) ≡ true → to_bracket (reverse (take place levels)) ≡ reverse (take place levels)
stops_here levels place x some inside is =
    let cut = last_first levels place x some inside in
    ap to_bracket cut ∙ bracket_first (get_or levels (place - 1) x) (reverse (take (place - 1) levels)) is ∙ sym cut

under_first : (level : Level) (rest : List Level) → is_bracket level ≡ false → to_bracket (level ∷ rest) ≡ to_bracket rest
under_first Round rest is = absurd (cc is)
under_first Square rest is = absurd (cc is)
under_first Under rest is = refl

pub goes_back : (levels : List Level) (place : ℕ) (x : Level) → 0 < place → place ≤ length levels → is_bracket (get_or levels (place - 1) x) ≡ false → to_bracket (reverse (take (place - 1) levels)) ≡ to_bracket (reverse (take place levels))
goes_back levels place x some inside is =
    sym (ap to_bracket (last_first levels place x some inside) ∙ under_first (get_or levels (place - 1) x) (reverse (take (place - 1) levels)) is)

-- one more symbol
pub passes_at : (levels : List Level) (ts : List Symbol) (i : ℕ) (x : Symbol) → i < length ts
    → passes levels (syms (drop i ts)) ≡ nat_lt most_levels (length (next_levels levels (nesting_step (sym_of (get_or ts i x))))) || passes (next_levels levels (nesting_step (sym_of (get_or ts i x)))) (syms (drop (i + 1) ts))
unfolding passes
passes_at levels ts i x lt =
    let cut : drop i ts ≡ get_or ts i x ∷ drop (i + 1) ts = rw (add-one, drop-cons ts i x) refl in
    ap (λ us. passes levels (syms us)) cut

pub passes_end : (levels : List Level) (ts : List Symbol) (i : ℕ) → length ts ≤ i → passes levels (syms (drop i ts)) ≡ false
unfolding passes
passes_end levels ts i past = let cut : drop i ts ≡ [] = grind (arith, common_steps) in ap (λ us. passes levels (syms us)) cut

-- one more symbol, after which there are so many levels
step_is : (levels next : List Level) (step : Step) (ts : List Symbol) (i : ℕ) (x : Symbol) → i < length ts → step ≡ nesting_step (sym_of (get_or ts i x)) → next ≡ next_levels levels step
    → passes levels (syms (drop i ts)) ≡ nat_lt most_levels (length next) || passes next (syms (drop (i + 1) ts))
step_is levels next step ts i x lt s e =
    let same : next_levels levels (nesting_step (sym_of (get_or ts i x))) ≡ next = ap (next_levels levels) (sym s) ∙ sym e in
    subst (λ n. passes levels (syms (drop i ts)) ≡ nat_lt most_levels (length n) || passes n (syms (drop (i + 1) ts))) same (passes_at levels ts i x lt)

pub step_on : (levels next : List Level) (step : Step) (ts : List Symbol) (i : ℕ) (x : Symbol) (whole : Bool) → i < length ts → step ≡ nesting_step (sym_of (get_or ts i x)) → next ≡ next_levels levels step → length next ≤ 256
    → passes levels (syms (drop i ts)) ≡ whole → passes next (syms (drop (i + 1) ts)) ≡ whole
step_on levels next step ts i x whole lt s e few w =
    let no_more : nat_lt most_levels (length next) ≡ false = grind (arith, nat_tests) in
    sym (step_is levels next step ts i x lt s e ∙ ap (λ b. b || passes next (syms (drop (i + 1) ts))) no_more) ∙ w

pub step_over : (levels next : List Level) (step : Step) (ts : List Symbol) (i : ℕ) (x : Symbol) (whole : Bool) → i < length ts → step ≡ nesting_step (sym_of (get_or ts i x)) → next ≡ next_levels levels step → 256 < length next
    → passes levels (syms (drop i ts)) ≡ whole → true ≡ whole
step_over levels next step ts i x whole lt s e many w =
    let over : nat_lt most_levels (length next) ≡ true = grind (arith, nat_tests) in
    sym (step_is levels next step ts i x lt s e ∙ ap (λ b. b || passes next (syms (drop (i + 1) ts))) over) ∙ w
