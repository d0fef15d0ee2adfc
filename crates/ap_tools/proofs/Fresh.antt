-- Tools before anything was run, jobs that keep their tools, and what a worker holds.
use Rattle.std.proofs.Common.{◌≡◌, ℕ, zero, suc, ◌+◌, ◌-◌, ◌<◌, List, [], ◌∷◌, ◌++◌, length, get_or, set, drop, map, reverse, sym, refl, ap, ◌∙◌, subst, append_assoc, arith}
use Rattle.std.proofs.lemmas.List.{map-append, reverse-append, reverse-reverse, drop_more}
use Rattle.ap_paths.specs.History.{kids_of}
use Rattle.ap_paths.specs.Weights.{weigh}
use Rattle.ap_tools.proofs.Moves.{weigh-append}
use Rattle.ap_tools.specs.declared.tools.Tools.{Tools}
use Rattle.ap_tools.specs.Hands.{IsFreshTools, AreFreshTools}

-- one more worker
pub fresh_more : {W : Type 0} (n m : ℕ) (ts : List (Tools W)) (t : Tools W) → m ≡ n + length ts → AreFreshTools n ts → IsFreshTools m t → AreFreshTools n (ts ++ t ∷ [])
fresh_more n m [] t at all is = let same : m ≡ n = omega arith in (subst (λ (k : ℕ). IsFreshTools k t) same is, tt)
fresh_more n m (s ∷ ts) t at all is = (all.0, fresh_more (suc n) m ts t (omega arith) all.1 is)

-- the tools of one worker are changed
pub fresh_set : {W : Type 0} (n : ℕ) (ts : List (Tools W)) (i : ℕ) (d t : Tools W) → i < length ts → AreFreshTools n ts → ((m : ℕ) → IsFreshTools m (get_or ts i d) → IsFreshTools m t) → AreFreshTools n (set ts i t)
fresh_set n [] i d t low all keeps = all
fresh_set n (s ∷ ts) zero d t low all keeps = (keeps n all.0, all.1)
fresh_set n (s ∷ ts) (suc i) d t low all keeps = (all.0, fresh_set (suc n) ts i d t (omega arith) all.1 keeps)

map_reverse : {A B : Type 0} (f : A → B) (xs : List A) → map f (reverse xs) ≡ reverse (map f xs)
map_reverse f [] = refl
map_reverse f (x ∷ xs) = ap (map f) (reverse-append (x ∷ []) xs) ∙ map-append f (reverse xs) (x ∷ []) ∙ ap (λ l. l ++ f x ∷ []) (map_reverse f xs) ∙ sym (reverse-append (f x ∷ []) (map f xs))

-- the last that is left goes behind those that were taken
pub taken_over : {A B : Type 0} (f : A → B) (all old left : List B) (js ks : List A) (j : A) → old ≡ left ++ f j ∷ [] → ks ≡ js ++ j ∷ [] → old ++ reverse (map f js) ≡ all → left ++ reverse (map f ks) ≡ all
taken_over f all old left js ks j last more is =
    let front : reverse (map f ks) ≡ f j ∷ reverse (map f js) = ap (λ l. reverse (map f l)) more ∙ ap reverse (map-append f js (j ∷ [])) ∙ reverse-append (map f js) (f j ∷ []) in
    ap (λ l. left ++ l) front ∙ sym (append_assoc left (f j ∷ []) (reverse (map f js))) ∙ ap (λ l. l ++ reverse (map f js)) (sym last) ∙ is

-- in the other order again
pub turned_back : {A B : Type 0} (f : A → B) (all : List B) (js ks : List A) → ks ≡ reverse js → map f js ≡ reverse all → map f ks ≡ all
turned_back f all js ks turned is = ap (map f) turned ∙ map_reverse f js ∙ ap reverse is ∙ reverse-reverse all

-- a path that is put behind those of a deque
pub held_pushed : (h : List ℕ → ℕ) (n : ℕ) (old new : List (List ℕ)) (p : List ℕ) → new ≡ old ++ p ∷ [] → n + weigh h new ≡ h p + (n + weigh h old)
held_pushed h n old new p is =
    let same = ap (weigh h) is in
    let both : weigh h (old ++ p ∷ []) ≡ weigh h old + (h p + 0) = weigh-append h old (p ∷ []) in
    omega (arith, same, both)

-- the kids from one place before on
pub kids_more : (p ks : List ℕ) (i : ℕ) (kid : List ℕ) → i < length ks → kid ≡ p ++ get_or ks (length ks - 1 - i) 0 ∷ [] → kids_of p (drop (length ks - (i + 1)) ks) ≡ kid ∷ kids_of p (drop (length ks - i) ks)
kids_more p ks i kid lt is =
    let n = length ks - (i + 1) in
    let rest : n + 1 ≡ length ks - i = omega arith in
    let at : length ks - 1 - i ≡ n = omega arith in
    let cut : drop n ks ≡ get_or ks n 0 ∷ drop (n + 1) ks = drop_more ks n 0 (omega arith) in
    let same : p ++ get_or ks n 0 ∷ [] ≡ kid = sym (is ∙ ap (λ (m : ℕ). p ++ get_or ks m 0 ∷ []) at) in
    ap (kids_of p) cut ∙ ap (λ (m : ℕ). (p ++ get_or ks n 0 ∷ []) ∷ kids_of p (drop m ks)) rest ∙ ap (λ (q : List ℕ). q ∷ kids_of p (drop (length ks - i) ks)) same

-- they weigh so much with what was held before
pub kids_held : (h : List ℕ → ℕ) (qs rs : List (List ℕ)) (kid : List ℕ) (a b z : ℕ) → qs ≡ kid ∷ rs → a ≡ h kid + b → b ≡ weigh h rs + z → a ≡ weigh h qs + z
kids_held h qs rs kid a b z is put before =
    let there : weigh h qs ≡ h kid + weigh h rs = ap (weigh h) is in
    omega (arith, there, put, before)
