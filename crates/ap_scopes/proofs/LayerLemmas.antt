-- What is made inside layers, in the order of the text.
use Rattle.std.proofs.Common.{◌≡◌, List, [], ◌∷◌, ◌++◌, ap, sym, ◌∙◌}
use Rattle.ap_defs.specs.RawTerms.{RawTerm, app, pair}
use Rattle.ap_defs.specs.Goals.{GoalOver}
use Rattle.ap_spines.specs.declared.RawLayer.{RawLayer}
use Rattle.ap_spines.specs.declared.GoalLayer.{GoalLayer}
use Rattle.ap_spines.specs.Turned.{turned_back}
use Rattle.ap_spines.specs.Spines.{raw_in, raw_within, raw_goal_in, raw_goal_within}
use Rattle.ap_spines.proofs.SpineLemmas.{raw_within_last, goal_within_last}
use Rattle.ap_scopes.specs.Identifiers.{Found}
use Rattle.ap_scopes.specs.Resolution.{Resolver, made, in_order}

-- first the one, then the other, where the one is known
pub then_is : {A B C : Type 0} (make : A → B → C) (first : Resolver A) (second : Resolver B) (before between : Found) (a : A)
    → (a, between) ≡ first before → in_order make first second before ≡ made (make a) (second between)
then_is make first second before between a e = ap (λ r. made (make r.0) (second r.1)) (sym e)

-- a part goes on inside one more layer
pub raw_goes_in : (ls ks : List RawLayer) (l : RawLayer) (whole part x : RawTerm × Found) → ks ≡ ls ++ l ∷ [] → whole ≡ made (raw_in l) part → made (raw_within ls) whole ≡ x → made (raw_within ks) part ≡ x
raw_goes_in ls ks l whole part x h e k =
    ap (λ ms. made (raw_within ms) part) h ∙ ap (λ t. (t, part.1)) (raw_within_last ls l part.0) ∙ ap (made (raw_within ls)) (sym e) ∙ k

pub goal_goes_in : (ls ks : List GoalLayer) (l : GoalLayer) (whole part x : GoalOver RawTerm × Found) → ks ≡ ls ++ l ∷ [] → whole ≡ made (raw_goal_in l) part → made (raw_goal_within ls) whole ≡ x → made (raw_goal_within ks) part ≡ x
goal_goes_in ls ks l whole part x h e k =
    ap (λ ms. made (raw_goal_within ms) part) h ∙ ap (λ g. (g, part.1)) (goal_within_last ls l part.0) ∙ ap (made (raw_goal_within ls)) (sym e) ∙ k

-- a part goes on below the tail of a cell, or the right part of a pair, that is above it
pub tail_goes_in : (a b x : RawTerm) (whole part all : RawTerm × Found) → b ≡ pair x (app 1 a) → whole ≡ made (app 1) (made (pair x) part) → made (turned_back a) whole ≡ all → made (turned_back b) part ≡ all
tail_goes_in a b x whole part all h e k = ap (λ c. made (turned_back c) part) h ∙ ap (made (turned_back a)) (sym e) ∙ k

pub right_goes_in : (a b x : RawTerm) (whole part all : RawTerm × Found) → b ≡ pair x a → whole ≡ made (pair x) part → made (turned_back a) whole ≡ all → made (turned_back b) part ≡ all
right_goes_in a b x whole part all h e k = ap (λ c. made (turned_back c) part) h ∙ ap (made (turned_back a)) (sym e) ∙ k
