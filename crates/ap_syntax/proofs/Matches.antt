-- One more symbol on the way to the bracket that closes the first.
use Rattle.std.proofs.Common.{◌≡◌, ℕ, ◌+◌, ◌<◌, ◌≤◌, List, [], ◌∷◌, length, drop, get_or, Option, None, refl, ap, arith, add-one}
use Rattle.std.proofs.lemmas.Grind.{common_steps}
use Rattle.std.proofs.Math.Seq.{drop-cons}
use Rattle.ap_trees.specs.declared.symbols.Symbol.{Symbol}
use Rattle.ap_trees.specs.Symbols.{sym as sym_of, syms}
use Rattle.ap_syntax.specs.Matching.{after_match, further_match, depth_after}

pub match_at : (depth : ℕ) (ts : List Symbol) (i : ℕ) (x : Symbol) (after : Option ℕ) → i < length ts → after ≡ depth_after depth (sym_of (get_or ts i x))
    → after_match depth (syms (drop i ts)) ≡ further_match (syms (drop (i + 1) ts)) (λ d. after_match d (syms (drop (i + 1) ts))) after
unfolding after_match
match_at depth ts i x after lt e =
    let cut : drop i ts ≡ get_or ts i x ∷ drop (i + 1) ts = rw (add-one, drop-cons ts i x) refl in
    rw e (ap (λ us. after_match depth (syms us)) cut)

pub match_end : (depth : ℕ) (ts : List Symbol) (i : ℕ) → length ts ≤ i → after_match depth (syms (drop i ts)) ≡ None
unfolding after_match
match_end depth ts i past = let cut : drop i ts ≡ [] = grind (arith, common_steps) in ap (λ us. after_match depth (syms us)) cut
