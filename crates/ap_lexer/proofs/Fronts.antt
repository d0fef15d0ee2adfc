-- The tokens of the first item, and those after it.
use Rattle.std.proofs.Common.{◌≡◌, ◌+◌, ◌<◌, ◌≤◌, Bool, true, false, List, [], ◌∷◌, ◌++◌, length, refl, sym, ap, ◌∙◌, arith, if◌then◌else◌, append-nil}
use Rattle.std.proofs.lemmas.List.Sums.{sum_by-append}
use Rattle.std.proofs.lemmas.Bool.{or_from, or_parts}
use Rattle.std.specs.Prelude.{count_by}
use Rattle.std.specs.List.{list_any}
use Rattle.ap_lexer.specs.Tokens.{Lexeme, is_dot, item_front, after_item}

none_more : (xs : List Lexeme) (t : Lexeme) → list_any is_dot xs ≡ false → is_dot t ≡ false → list_any is_dot (xs ++ t ∷ []) ≡ false
none_more [] t none e = or_from (is_dot t) false e refl
none_more (x ∷ xs) t none e = let both = or_parts (is_dot x) (list_any is_dot xs) none in or_from (is_dot x) (list_any is_dot (xs ++ t ∷ [])) both.0 (none_more xs t both.1 e)

-- one more token that is no `.`
pub goes_on : (all xs us vs : List Lexeme) (t : Lexeme) → all ≡ xs ++ us → us ≡ t ∷ vs → list_any is_dot xs ≡ false → is_dot t ≡ false → (all ≡ (xs ++ t ∷ []) ++ vs) × (list_any is_dot (xs ++ t ∷ []) ≡ false)
goes_on all xs us vs t e f none other = (e ∙ ap (λ r. xs ++ r) f ∙ sym (append_one xs t vs), none_more xs t none other)
  where
    append_one : (xs : List Lexeme) (t : Lexeme) (us : List Lexeme) → (xs ++ t ∷ []) ++ us ≡ xs ++ t ∷ us
    append_one [] t us = refl
    append_one (x ∷ xs) t us = ap (λ zs. x ∷ zs) (append_one xs t us)

ends_at : (xs : List Lexeme) (t : Lexeme) (us : List Lexeme) → list_any is_dot xs ≡ false → is_dot t ≡ true → (item_front (xs ++ t ∷ us) ≡ xs ++ t ∷ []) × (after_item (xs ++ t ∷ us) ≡ us)
ends_at [] t us none e = (ap (λ b. t ∷ (if b then [] else item_front us)) e, ap (λ b. if b then us else after_item us) e)
ends_at (x ∷ xs) t us none e =
    let both = or_parts (is_dot x) (list_any is_dot xs) none in
    let rest = ends_at xs t us both.1 e in
    let more = xs ++ t ∷ us in
    (ap (λ b. x ∷ (if b then [] else item_front more)) both.0 ∙ ap (λ zs. x ∷ zs) rest.0, ap (λ b. if b then more else after_item more) both.0 ∙ rest.1)

-- the `.` has come
pub ends : (all xs us vs : List Lexeme) (t : Lexeme) → all ≡ xs ++ us → us ≡ t ∷ vs → list_any is_dot xs ≡ false → is_dot t ≡ true → (xs ++ t ∷ [] ≡ item_front all) × (vs ≡ after_item all)
ends all xs us vs t e f none dot =
    let whole = e ∙ ap (λ r. xs ++ r) f in
    let both = ends_at xs t vs none dot in
    (sym (ap item_front whole ∙ both.0), sym (ap after_item whole ∙ both.1))

undotted : (xs : List Lexeme) → list_any is_dot xs ≡ false → (item_front xs ≡ xs) × (after_item xs ≡ [])
undotted [] none = (refl, refl)
undotted (x ∷ xs) none =
    let both = or_parts (is_dot x) (list_any is_dot xs) none in
    let rest = undotted xs both.1 in
    (ap (λ b. x ∷ (if b then [] else item_front xs)) both.0 ∙ ap (λ zs. x ∷ zs) rest.0, ap (λ b. if b then xs else after_item xs) both.0 ∙ rest.1)

-- no `.` comes
pub no_end : (all xs us : List Lexeme) → all ≡ xs ++ us → us ≡ [] → list_any is_dot xs ≡ false → (xs ≡ item_front all) × (us ≡ after_item all)
no_end all xs us e f none =
    let whole = e ∙ ap (λ r. xs ++ r) f ∙ append-nil xs in
    let both = undotted xs none in
    (sym (ap item_front whole ∙ both.0), f ∙ sym (ap after_item whole ∙ both.1))

-- the two parts are all
pub both_parts : (ts : List Lexeme) → item_front ts ++ after_item ts ≡ ts
both_parts [] = refl
both_parts (t ∷ ts) = by (is_dot t) (both_parts ts)
  where
    by : (b : Bool) → item_front ts ++ after_item ts ≡ ts → (t ∷ (if b then [] else item_front ts)) ++ (if b then ts else after_item ts) ≡ t ∷ ts
    by true rest = refl
    by false rest = ap (λ us. t ∷ us) rest

-- what is counted in the two parts is counted in all
pub dots_split : (ts : List Lexeme) → count_by is_dot (item_front ts) + count_by is_dot (after_item ts) ≡ count_by is_dot ts
dots_split ts = sym (sum_by-append _ (item_front ts) (after_item ts)) ∙ ap (count_by is_dot) (both_parts ts)

not_longer : (ts : List Lexeme) → length (after_item ts) ≤ length ts
not_longer [] = omega arith
not_longer (t ∷ ts) = by (is_dot t) (not_longer ts)
  where
    by : (b : Bool) → length (after_item ts) ≤ length ts → length (if b then ts else after_item ts) ≤ length (t ∷ ts)
    by true rest = omega arith
    by false rest = omega (arith, rest)

-- less is left after an item
pub less_left : (ts : List Lexeme) → 0 < length ts → length (after_item ts) < length ts
less_left [] some = absurd (omega (arith, some))
less_left (t ∷ ts) some = by (is_dot t)
  where
    by : (b : Bool) → length (if b then ts else after_item ts) < length (t ∷ ts)
    by true = omega arith
    by false = omega (arith, not_longer ts)
