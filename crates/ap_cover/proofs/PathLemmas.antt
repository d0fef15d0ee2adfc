-- The paths of what waits.
use Rattle.std.proofs.Common.{◌≡◌, ◌+◌, ◌<◌, ℕ, suc, List, [], ◌∷◌, ◌++◌, Result, refl, sym, ap, ap₂, ◌∙◌, append-nil, append_assoc, arith}
use Rattle.std.specs.Prelude.{IfOk}
use Rattle.std.proofs.lemmas.Result.{IfOk-weaker}
use Rattle.ap_defs.specs.Derivations.{derivation_of, path, derivation_weight}
use Rattle.ap_cover.specs.Waiting.{paths_waiting, weight_waiting}
use Rattle.ap_cover.specs.declared.path.Waiting.{Waiting}

-- the one that waits last comes first
pub last_path : (ws : List Waiting) (w : Waiting) → paths_waiting (ws ++ w ∷ []) ≡ path (derivation_of w.derivation.now) ++ paths_waiting ws
last_path [] w = sym (append-nil (path (derivation_of w.derivation.now)))
last_path (v ∷ ws) w =
    ap (λ l. l ++ path (derivation_of v.derivation.now)) (last_path ws w)
    ∙ append_assoc (path (derivation_of w.derivation.now)) (paths_waiting ws) (path (derivation_of v.derivation.now))

pub last_weight : (ws : List Waiting) (w : Waiting) → weight_waiting (ws ++ w ∷ []) ≡ derivation_weight (derivation_of w.derivation.now) + weight_waiting ws
last_weight [] w = refl
last_weight (v ∷ ws) w = let more = last_weight ws w in omega (arith, more)

-- what is below a choice waits
pub chosen_then : {T E : Type 0} (r : Result T E) (choices chosen new below rest : List ℕ) (k : ℕ) → chosen ≡ choices ++ k ∷ [] → IfOk r (λ _. new ≡ below ++ rest)
    → IfOk r (λ _. chosen ++ new ≡ choices ++ ((k ∷ below) ++ rest))
chosen_then r choices chosen new below rest k e h =
    IfOk-weaker r (λ _. new ≡ below ++ rest) (λ _. chosen ++ new ≡ choices ++ ((k ∷ below) ++ rest))
    (λ _ f. ap₂ (λ (l m : List ℕ). l ++ m) e f ∙ append_assoc choices (k ∷ []) (below ++ rest)) h

-- a part waits behind another one
pub one_behind : {T E : Type 0} (r : Result T E) (left right rest waiting both : List ℕ) → waiting ≡ right ++ rest → IfOk r (λ _. both ≡ left ++ waiting)
    → IfOk r (λ _. both ≡ left ++ (right ++ rest))
one_behind r left right rest waiting both e h = IfOk-weaker r (λ _. both ≡ left ++ waiting) (λ _. both ≡ left ++ (right ++ rest)) (λ _ f. f ∙ ap (λ l. left ++ l) e) h

pub one_heavier : {T E : Type 0} (r : Result T E) (left right rest waiting both : ℕ) → waiting ≡ right + rest → IfOk r (λ _. both ≡ left + waiting)
    → IfOk r (λ _. both ≡ left + (right + rest))
one_heavier r left right rest waiting both e h = IfOk-weaker r (λ _. both ≡ left + waiting) (λ _. both ≡ left + (right + rest)) (λ _ f. f ∙ ap (λ n. left + n) e) h

-- a node of this path, whose choice is made
pub node_chosen : {T E : Type 0} (r : Result T E) (all choices below rest whole : List ℕ) → whole ≡ below → IfOk r (λ _. all ≡ choices ++ (below ++ rest))
    → IfOk r (λ _. all ≡ choices ++ (whole ++ rest))
node_chosen r all choices below rest whole e h =
    IfOk-weaker r (λ _. all ≡ choices ++ (below ++ rest)) (λ _. all ≡ choices ++ (whole ++ rest)) (λ _ f. f ∙ ap (λ l. choices ++ (l ++ rest)) (sym e)) h

-- a node without a choice
pub node_waits : {T E : Type 0} (r : Result T E) (choices new below rest whole : List ℕ) → whole ≡ below → IfOk r (λ _. new ≡ below ++ rest)
    → IfOk r (λ _. choices ++ new ≡ choices ++ (whole ++ rest))
node_waits r choices new below rest whole e h =
    IfOk-weaker r (λ _. new ≡ below ++ rest) (λ _. choices ++ new ≡ choices ++ (whole ++ rest)) (λ _ f. ap (λ l. choices ++ l) (f ∙ ap (λ l. l ++ rest) (sym e))) h

-- a conjunction
pub both_wait : {T E : Type 0} (r : Result T E) (choices new left right rest whole : List ℕ) → whole ≡ left ++ right → IfOk r (λ _. new ≡ left ++ (right ++ rest))
    → IfOk r (λ _. choices ++ new ≡ choices ++ (whole ++ rest))
both_wait r choices new left right rest whole e h =
    IfOk-weaker r (λ _. new ≡ left ++ (right ++ rest)) (λ _. choices ++ new ≡ choices ++ (whole ++ rest))
    (λ _ f. ap (λ l. choices ++ l) (f ∙ sym (append_assoc left right rest) ∙ ap (λ l. l ++ rest) (sym e))) h

pub one_lighter : {T E : Type 0} (r : Result T E) (new below rest whole : ℕ) → whole ≡ suc below → IfOk r (λ _. new ≡ below + rest) → IfOk r (λ _. new < whole + rest)
one_lighter r new below rest whole e h = IfOk-weaker r (λ _. new ≡ below + rest) (λ _. new < whole + rest) (λ _ f. omega (arith, e, f)) h

pub both_lighter : {T E : Type 0} (r : Result T E) (new left right rest whole : ℕ) → whole ≡ suc (left + left + right) → IfOk r (λ _. new ≡ left + (right + rest)) → IfOk r (λ _. new < whole + rest)
both_lighter r new left right rest whole e h = IfOk-weaker r (λ _. new ≡ left + (right + rest)) (λ _. new < whole + rest) (λ _ f. omega (arith, e, f)) h
