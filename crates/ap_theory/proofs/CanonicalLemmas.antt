-- The canonical list: equal permutations have one, and it is equal to them.
use Rattle.std.proofs.Common.{subst, ◌≡◌, ◌≢◌, ◌<◌, ◌≤◌, ℕ, zero, suc, true, false, ◌||◌, List, [], ◌∷◌, length, refl, sym, ap, ap₂, ◌∙◌, inl, inr, arith, true≢false}
use Rattle.std.specs.Prelude.{if◌then◌else◌}
use Rattle.ap_defs.specs.Canonical.{canonical, canonical_within, least, moved_names, num_before, swap_first}
use Rattle.ap_defs.specs.Occurrences.{without_name}
use Rattle.ap_defs.specs.Permutations.{IsSamePerm, act_name, has_name, name_eq, names_of, right_name, swap_name, swap_of}
use Rattle.ap_defs.specs.declared.terms.Name.{Name}
use Rattle.ap_defs.specs.declared.terms.Swap.{Swap}
use Rattle.ap_theory.proofs.BooleanLemmas.{or_cases, or_if_left, or_if_right}
use Rattle.ap_theory.proofs.DisagreementLemmas.{differing_disagree, disagree_differing, disagreement_same, has_front}
use Rattle.ap_theory.proofs.PermutationLemmas.{act_injective, act_sort, has_without_name, length_without_name, name_decided, name_eq_same, same_name_parts, swap_other, swap_right, swap_swap}

moved_same : (p q : List Swap) → IsSamePerm p q → moved_names p ≡ moved_names q
moved_same p q h = disagreement_same p [] q [] h (λ a. refl)

first_same : (n : ℕ) (p q : List Swap) → IsSamePerm p q → ((r s : List Swap) → IsSamePerm r s → canonical_within n r ≡ canonical_within n s)
    → (as' : List Name) → swap_first (canonical_within n) p as' ≡ swap_first (canonical_within n) q as'
first_same n p q h go [] = refl
first_same n p q h go (a ∷ as') =
    let b = least a as' in
    let e : swap_of b (act_name p b) ≡ swap_of b (act_name q b) = ap (swap_of b) (h b) in
    ap₂ ◌∷◌ e (go (swap_of b (act_name p b) ∷ p) (swap_of b (act_name q b) ∷ q) (λ c. ap₂ swap_name e (h c)))

within_same : (n : ℕ) (p q : List Swap) → IsSamePerm p q → canonical_within n p ≡ canonical_within n q
within_same zero p q h = refl
within_same (suc n) p q h = first_same n p q h (within_same n) (moved_names p) ∙ ap (swap_first (canonical_within n) q) (moved_same p q h)

pub canonical_same : (p q : List Swap) → IsSamePerm p q → canonical p ≡ canonical q
unfolding canonical
canonical_same p q h = within_same (length (moved_names p)) p q h ∙ ap (λ as'. canonical_within (length as') q) (moved_same p q h)

-- The canonical list is equal to the permutation.
abbrev Moves : List Swap → Name → Type 0
Moves p c = act_name p c ≢ c

moved_named : (p : List Swap) (c : Name) → Moves p c → has_name c (moved_names p) ≡ true
moved_named p c n = differing_disagree p [] c n

named_moved : (p : List Swap) (c : Name) → has_name c (moved_names p) ≡ true → Moves p c
named_moved p c h = disagree_differing p [] c h

-- a permutation that mentions no name as moved leaves every name
none_moved : (p : List Swap) → ((c : Name) → Moves p c → ⊥) → IsSamePerm [] p
none_moved p h c = elim (name_decided (act_name p c) c) [ inl e ↦ sym e | inr n ↦ absurd (h c n) ]

least_among : (a : Name) (as' : List Name) → has_name (least a as') (a ∷ as') ≡ true
least_among a [] = has_front a []
least_among a (b ∷ bs) =
    elim (num_before b a) as (λ v. has_name (if v then least b bs else least a bs) (a ∷ b ∷ bs) ≡ true) [
      | true ↦ or_if_right (name_eq (least b bs) a) (name_eq (least b bs) b || has_name (least b bs) bs) (least_among b bs)
      | false ↦ elim (or_cases (name_eq (least a bs) a) (has_name (least a bs) bs) (least_among a bs)) [
        | inl e ↦ or_if_left (name_eq (least a bs) a) (name_eq (least a bs) b || has_name (least a bs) bs) e
        | inr e ↦ or_if_right (name_eq (least a bs) a) (name_eq (least a bs) b || has_name (least a bs) bs) (or_if_right (name_eq (least a bs) b) (has_name (least a bs) bs) e)
      ]
    ]

-- after a moved name has been exchanged with its image, it is moved no more, and no further name is
exchanged_apart : (p : List Swap) (b c : Name) → Moves (swap_of b (act_name p b) ∷ p) c → c ≢ b
exchanged_apart p b c m e =
    m (ap (λ x. swap_name (swap_of b (act_name p b)) (act_name p x)) e ∙ swap_right b (act_name p b) (sym (act_sort p b)) ∙ sym e)

exchanged_moves : (p : List Swap) (b c : Name) → Moves p b → Moves (swap_of b (act_name p b) ∷ p) c → Moves p c
exchanged_moves p b c n m e =
    let apart : c ≢ b = λ f. n (ap (act_name p) (sym f) ∙ e ∙ f) in
    m (ap (swap_name (swap_of b (act_name p b))) e ∙ swap_other b (act_name p b) c (sym (act_sort p b)) apart (λ f. apart (act_injective p c b (e ∙ f))))

first_act : (n : ℕ) (p : List Swap) (as' : List Name) → ((c : Name) → has_name c as' ≡ true → Moves p c) → ((c : Name) → Moves p c → has_name c as' ≡ true)
    → ((b : Name) → Moves p b → IsSamePerm (canonical_within n (swap_of b (act_name p b) ∷ p)) (swap_of b (act_name p b) ∷ p))
    → IsSamePerm (swap_first (canonical_within n) p as') p
first_act n p [] f g go c = none_moved p (λ d m. true≢false (sym (g d m))) c
first_act n p (a ∷ as') f g go c =
    let b = least a as' in
    let s = swap_of b (act_name p b) in
    ap (swap_name s) (go b (f b (least_among a as')) c) ∙ swap_swap s (act_name p c)

within_act_name : (n : ℕ) (p : List Swap) (vs : List Name) → ((c : Name) → Moves p c → has_name c vs ≡ true) → length vs ≤ n
    → IsSamePerm (canonical_within n p) p
within_act_name zero p [] h l = none_moved p (λ c m. true≢false (sym (h c m)))
within_act_name zero p (v ∷ vs) h l = absurd (omega arith)
within_act_name (suc n) p vs h l =
    first_act n p (moved_names p) (named_moved p) (moved_named p)
    (λ b m. within_act_name n (swap_of b (act_name p b) ∷ p) (without_name b vs)
    (λ c k. has_without_name b c vs (exchanged_apart p b c k) (h c (exchanged_moves p b c m k)))
    (let fewer : length (without_name b vs) < length vs = length_without_name b vs (h b m) in omega arith))

pub canonical_act : (p : List Swap) → IsSamePerm (canonical p) p
unfolding canonical
canonical_act p = within_act_name (length (moved_names p)) p (moved_names p) (moved_named p) (omega arith)

pub canonical_canonical : (p : List Swap) → canonical (canonical p) ≡ canonical p
canonical_canonical p = canonical_same (canonical p) p (canonical_act p)

-- The canonical list mentions only names that are moved.
first_names : (n : ℕ) (p : List Swap) (c : Name)
    → ((b : Name) → Moves p b → has_name c (names_of (canonical_within n (swap_of b (act_name p b) ∷ p))) ≡ true → Moves (swap_of b (act_name p b) ∷ p) c)
    → (as' : List Name) → ((b : Name) → has_name b as' ≡ true → Moves p b) → has_name c (names_of (swap_first (canonical_within n) p as')) ≡ true → Moves p c
first_names n p c go [] f h = cc
first_names n p c go (a ∷ as') f h =
    let b = least a as' in
    let m : Moves p b = f b (least_among a as') in
    let rest = canonical_within n (swap_of b (act_name p b) ∷ p) in
    elim (or_cases (name_eq c b) (name_eq c (right_name (swap_of b (act_name p b))) || has_name c (names_of rest)) h) [
      | inl e ↦ subst (Moves p) (sym (name_eq_same c b e)) m
      | inr k ↦ elim (or_cases (name_eq c (right_name (swap_of b (act_name p b)))) (has_name c (names_of rest)) k) [
        | inl e ↦ subst (Moves p) (sym (name_eq_same c (right_name (swap_of b (act_name p b))) e ∙ right_image p b)) (λ f. m (act_injective p (act_name p b) b f))
        | inr e ↦ exchanged_moves p b c m (go b m e)
      ]
    ]
  where
    right_image : (p : List Swap) (b : Name) → right_name (swap_of b (act_name p b)) ≡ act_name p b
    right_image p b = same_name_parts (right_name (swap_of b (act_name p b))) (act_name p b) (sym (act_sort p b)) refl

within_names : (n : ℕ) (p : List Swap) (c : Name) → has_name c (names_of (canonical_within n p)) ≡ true → Moves p c
within_names zero p c h = cc
within_names (suc n) p c h = first_names n p c (λ b m. within_names n (swap_of b (act_name p b) ∷ p) c) (moved_names p) (named_moved p) h

pub canonical_names : (p : List Swap) (c : Name) → has_name c (names_of (canonical p)) ≡ true → Moves p c
unfolding canonical
canonical_names p c h = within_names (length (moved_names p)) p c h
