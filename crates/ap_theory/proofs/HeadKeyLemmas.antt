-- Terms whose keys differ are not made equal.
use Rattle.std.proofs.Common.{◌≡◌, ℕ, true, false, List, [], ◌∷◌, map, refl, sym, ◌∙◌, ap, true≢false, arith}
use Rattle.std.proofs.lemmas.Bool.Decides.{nat_tests}
use Rattle.std.specs.Prelude.{◌==◌, ◌||◌, ◌&&◌, Bool}
use Rattle.ap_defs.specs.HeadKeys.{agree, first_key, head_key}
use Rattle.ap_defs.specs.Renaming.{rename_term}
use Rattle.ap_defs.specs.Substitution.{Binding, under}
use Rattle.ap_defs.specs.Terms.{NominalTerm, unit, name, pair, app, abs, susp, act_term}
use Rattle.ap_defs.specs.declared.terms.Swap.{Swap}
use Rattle.ap_theory.specs.StatementsOnResults.{has_same_head, have_same_heads}

pub key_act : (p : List Swap) (t : NominalTerm) → head_key (act_term p t) ≡ head_key t
key_act p unit = refl
key_act p (name a) = refl
key_act p (pair t u) = refl
key_act p (app f t) = refl
key_act p (abs a t) = refl
key_act p (susp q x) = refl

pub key_rename : (n : ℕ) (t : NominalTerm) → head_key (rename_term n t) ≡ head_key t
key_rename n unit = refl
key_rename n (name a) = refl
key_rename n (pair t u) = refl
key_rename n (app f t) = refl
key_rename n (abs a t) = refl
key_rename n (susp q x) = refl

pub first_renamed : (n : ℕ) (us : List NominalTerm) → first_key (map (rename_term n) us) ≡ first_key us
first_renamed n [] = refl
first_renamed n (u ∷ us) = key_rename n u

-- a key of 0 agrees with each
wild : (k : ℕ) → agree k 0 ≡ true
wild k = or_true (k == 0)
  where
    or_true : (b : Bool) → (b || true) ≡ true
    or_true false = refl
    or_true true = refl

-- bindings change only what a suspension stands for
pub key_under : (bs : List Binding) (t : NominalTerm) (k : ℕ) → agree k (head_key t) ≡ false → agree k (head_key (under bs t)) ≡ false
key_under bs unit k h = h
key_under bs (name a) k h = h
key_under bs (pair t u) k h = h
key_under bs (app f t) k h = h
key_under bs (abs a t) k h = h
key_under bs (susp q x) k h = absurd (true≢false (sym (wild k) ∙ h))

last_false : (x y : Bool) → (x || y) ≡ false → y ≡ false
last_false false y h = h
last_false true y h = absurd (true≢false h)

not_same : (k l : ℕ) → agree k l ≡ false → (k == l) ≡ false
not_same k l h = last_false (l == 0) (k == l) (last_false (k == 0) ((l == 0) || (k == l)) h)

same_constructor : (f g : ℕ) (t u : NominalTerm) → agree (head_key (app f t)) (head_key (app g u)) ≡ false → (f == g) ≡ false
same_constructor f g t u h = let k = not_same (head_key (app f t)) (head_key (app g u)) h in grind (arith, nat_tests)

pub keys_differ : (t u : NominalTerm) → agree (head_key t) (head_key u) ≡ false → has_same_head t u ≡ false
keys_differ (susp p x) u h = absurd (true≢false h)
keys_differ unit (susp q y) h = absurd (true≢false h)
keys_differ (name a) (susp q y) h = absurd (true≢false h)
keys_differ (pair t v) (susp q y) h = absurd (true≢false h)
keys_differ (app f t) (susp q y) h = absurd (true≢false (sym (wild (head_key (app f t))) ∙ h))
keys_differ (abs a t) (susp q y) h = absurd (true≢false h)
keys_differ unit unit h = absurd (true≢false h)
keys_differ (name a) (name b) h = absurd (true≢false h)
keys_differ (pair t v) (pair u w) h = absurd (true≢false h)
keys_differ (abs a t) (abs b u) h = absurd (true≢false h)
keys_differ (app f t) (app g u) h = same_constructor f g t u h
keys_differ unit (name b) h = refl
keys_differ unit (pair u w) h = refl
keys_differ unit (app g u) h = refl
keys_differ unit (abs b u) h = refl
keys_differ (name a) unit h = refl
keys_differ (name a) (pair u w) h = refl
keys_differ (name a) (app g u) h = refl
keys_differ (name a) (abs b u) h = refl
keys_differ (pair t v) unit h = refl
keys_differ (pair t v) (name b) h = refl
keys_differ (pair t v) (app g u) h = refl
keys_differ (pair t v) (abs b u) h = refl
keys_differ (app f t) unit h = refl
keys_differ (app f t) (name b) h = refl
keys_differ (app f t) (pair u w) h = refl
keys_differ (app f t) (abs b u) h = refl
keys_differ (abs a t) unit h = refl
keys_differ (abs a t) (name b) h = refl
keys_differ (abs a t) (pair u w) h = refl
keys_differ (abs a t) (app g u) h = refl

first_unlike : (bs : List Binding) (t u : NominalTerm) (ts us : List NominalTerm) → has_same_head (under bs t) (under bs u) ≡ false → have_same_heads bs (t ∷ ts) (u ∷ us) ≡ false
first_unlike bs t u ts us h = ap (λ b. b && have_same_heads bs ts us) h

-- where the first of the one under the bindings begins otherwise than the first of the other, a head differs
pub first_differs : (bs : List Binding) (ts us : List NominalTerm) → agree (first_key (map (under bs) ts)) (first_key us) ≡ false → have_same_heads bs ts us ≡ false
first_differs bs [] us h = absurd (true≢false h)
first_differs bs (t ∷ ts) [] h = absurd (true≢false (sym (wild (head_key (under bs t))) ∙ h))
first_differs bs (t ∷ ts) (u ∷ us) h = first_unlike bs t u ts us (keys_differ (under bs t) (under bs u) (key_under bs u (head_key (under bs t)) h))
