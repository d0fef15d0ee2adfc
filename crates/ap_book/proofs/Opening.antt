-- What a set of paths has after a path left it or came.
use Rattle.std.proofs.Common.{◌≡◌, ℕ, suc, ◌+◌, Bool, true, false, not, ◌||◌, cond, List, [], ◌∷◌, ◌++◌, length, refl, sym, ap, ◌∙◌, true≢false, arith}
use Rattle.std.specs.Prelude.{Vec, Result, Ok, Err, IsOk, IfOk}
use Rattle.std.specs.List.{list_any, sum_by}
use Rattle.std.specs.List.Sorted.{IsPermutation}
use Rattle.std.specs.Set.{remove_key}
use Rattle.std.specs.Bool.{MatchBool}
use Rattle.std.proofs.lemmas.List.Sums.{sum_by-cons}
use Rattle.std.proofs.lemmas.List.Sorted.{sum_by-IsPermutation}
use Rattle.ap_paths.specs.History.{same_path, is_open, without}
use Rattle.ap_paths.specs.Weights.{weigh, one_if, is_it, times_in, HaveSame}
use Rattle.ap_paths.proofs.Frontiers.{weigh_open, weigh_without}
use Rattle.ap_book.specs.Kept.{paths_of}

none_open : (p : List ℕ) (ps : List (List ℕ)) → is_open p ps ≡ false → weigh (is_it p) ps ≡ 0
none_open p [] e = refl
none_open p (q ∷ qs) e =
    let step : (b : Bool) → b || is_open p qs ≡ false → one_if b + weigh (is_it p) qs ≡ 0 = λ b.
    elim b as (λ b. b || is_open p qs ≡ false → one_if b + weigh (is_it p) qs ≡ 0)
    [ true ↦ λ o. absurd (true≢false o) | false ↦ λ o. (let z = none_open p qs o in omega arith) ] in
    step (same_path p q) e

pub not_open : (p : List ℕ) (ps : List (List ℕ)) → times_in ps p ≡ 0 → is_open p ps ≡ false
not_open p ps e =
    let step : (b : Bool) → is_open p ps ≡ b → is_open p ps ≡ false = λ b.
    elim b as (λ b. is_open p ps ≡ b → is_open p ps ≡ false) [ true ↦ λ o. absurd (let z = weigh_open p ps o in omega arith) | false ↦ λ o. o ] in
    step (is_open p ps) refl

-- lists of the same paths have the same paths open
pub same_open : (p : List ℕ) (ps qs : List (List ℕ)) → HaveSame ps qs → is_open p ps ≡ is_open p qs
same_open p ps qs same =
    let step : (b : Bool) → is_open p qs ≡ b → is_open p ps ≡ b = λ b.
    elim b as (λ b. is_open p qs ≡ b → is_open p ps ≡ b) [
      | true ↦ λ o.
          (let there : (d : Bool) → is_open p ps ≡ d → is_open p ps ≡ true = λ d.
          elim d as (λ d. is_open p ps ≡ d → is_open p ps ≡ true)
          [ true ↦ λ e. e | false ↦ λ e. absurd (let x = none_open p ps e in let y = weigh_open p qs o in let z = same (is_it p) in omega arith) ] in
          there (is_open p ps) refl)
      | false ↦ λ o. not_open p ps (let x = none_open p qs o in let z = same (is_it p) in omega arith)
    ] in
    step (is_open p qs) refl

pub has_open : {Z : Type 0} (p : List ℕ) (vs : List (Vec ℕ Z)) → list_any (λ v. same_path p v.items) vs ≡ is_open p (paths_of vs)
has_open p [] = refl
has_open p (v ∷ vs) = ap (λ b. same_path p v.items || b) (has_open p vs)

removed : {Z : Type 0} (p : List ℕ) (vs : List (Vec ℕ Z)) → paths_of (remove_key (λ v. same_path p v.items) vs) ≡ without p (paths_of vs)
removed p [] = refl
removed {Z} p (v ∷ vs) =
    elim (same_path p v.items) as (λ b. paths_of (cond b vs (v ∷ remove_key (λ (v : Vec ℕ Z). same_path p v.items) vs)) ≡ cond b (paths_of vs) (v.items ∷ without p (paths_of vs)))
    [ true ↦ refl | false ↦ ap (λ l. v.items ∷ l) (removed p vs) ]

weigh_sum : {Z : Type 0} (h : List ℕ → ℕ) (vs : List (Vec ℕ Z)) → weigh h (paths_of vs) ≡ sum_by (λ v. h v.items) vs
weigh_sum h [] = refl
weigh_sum {Z} h (v ∷ vs) = ap (λ n. h v.items + n) (weigh_sum h vs) ∙ sym (sum_by-cons (λ (v : Vec ℕ Z). h v.items) v vs)

pub same_shuffled : {Z : Type 0} (vs ws : List (Vec ℕ Z)) → IsPermutation vs ws → HaveSame (paths_of ws) (paths_of vs)
same_shuffled {Z} vs ws p h = weigh_sum h ws ∙ sum_by-IsPermutation (λ (v : Vec ℕ Z). h v.items) vs ws p ∙ sym (weigh_sum h vs)

-- an open path was removed
pub after_remove : {Z : Type 0} (p : List ℕ) (vs ws : List (Vec ℕ Z)) → IsPermutation (remove_key (λ v. same_path p v.items) vs) ws → is_open p (paths_of vs) ≡ true
    → (h : List ℕ → ℕ) → weigh h (paths_of ws) + h p ≡ weigh h (paths_of vs)
after_remove p vs ws moved o h =
    let a = same_shuffled _ _ moved h ∙ ap (weigh h) (removed p vs) in let b = weigh_without h p (paths_of vs) o in omega arith

pub paths_both : {Z : Type 0} (vs ws : List (Vec ℕ Z)) → paths_of (vs ++ ws) ≡ paths_of vs ++ paths_of ws
paths_both [] ws = refl
paths_both (v ∷ vs) ws = ap (λ l. v.items ∷ l) (paths_both vs ws)

-- a path came that was not there, since memory was there for it
pub after_insert : {Z E : Type 0} (k : Vec ℕ Z) (vs ws : List (Vec ℕ Z)) (r : Result Bool E) → IsOk r → IfOk r (λ added. added ≡ not (list_any (λ v. same_path k.items v.items) vs))
    → IfOk r (λ added. MatchBool added (IsPermutation (k ∷ vs) ws) (ws ≡ vs)) → times_in (paths_of vs) k.items ≡ 0 → (h : List ℕ → ℕ) → weigh h (paths_of ws) ≡ h k.items + weigh h (paths_of vs)
after_insert k vs ws (Ok true) is_ok added moved none h = same_shuffled (k ∷ vs) ws moved h
after_insert k vs ws (Ok false) is_ok added moved none h =
    absurd (true≢false (sym (added ∙ ap not (has_open k.items vs ∙ not_open k.items (paths_of vs) none))))
after_insert k vs ws (Err e) is_ok added moved none h = absurd (true≢false (sym is_ok))

pub weigh_ones : (ps : List (List ℕ)) → weigh (λ _. 1) ps ≡ length ps
weigh_ones [] = refl
weigh_ones (p ∷ ps) = omega (arith, weigh_ones ps)

pub length-paths_of : {Z : Type 0} (vs : List (Vec ℕ Z)) → length (paths_of vs) ≡ length vs
length-paths_of [] = refl
length-paths_of (v ∷ vs) = ap suc (length-paths_of vs)
