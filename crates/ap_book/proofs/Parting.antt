-- Open paths part from one another, and so no path is open twice.
use Rattle.std.proofs.Common.{◌≡◌, ℕ, suc, ◌+◌, ◌<◌, ◌≤◌, Bool, true, false, not, ◌==◌, ◌||◌, if◌then◌else◌, List, [], ◌∷◌, ◌++◌, refl, sym, ap, subst, true≢false, eq-eqb, ne_eqb, arith}
use Rattle.std.proofs.lemmas.Cmp.{nat_eq_equiv}
use Rattle.std.proofs.lemmas.Bool.{and_from, and_parts}
use Rattle.ap_paths.specs.History.{same_path, is_open, without, kids_of}
use Rattle.ap_paths.specs.Trees.{Ascends}
use Rattle.ap_paths.proofs.Frontiers.{path_same}
use Rattle.ap_paths.specs.Weights.{one_if, times_in}
use Rattle.ap_book.specs.Kept.{all_part, paths_part, parts_from}

or_right : (a b : Bool) → b ≡ true → a || b ≡ true
or_right true b h = refl
or_right false b h = h

or_mono : (a b c : Bool) → (b ≡ true → c ≡ true) → a || b ≡ true → a || c ≡ true
or_mono true b c f h = refl
or_mono false b c f h = f h

part_left : (p q r : List ℕ) → paths_part p q ≡ true → paths_part (p ++ r) q ≡ true
part_left [] q r h = absurd (true≢false (sym h))
part_left (x ∷ xs) [] r h = absurd (true≢false (sym h))
part_left (x ∷ xs) (y ∷ ys) r h = or_mono (not (x == y)) (paths_part xs ys) (paths_part (xs ++ r) ys) (part_left xs ys r) h

part_right : (p q r : List ℕ) → paths_part p q ≡ true → paths_part p (q ++ r) ≡ true
part_right [] q r h = absurd (true≢false (sym h))
part_right (x ∷ xs) [] r h = absurd (true≢false (sym h))
part_right (x ∷ xs) (y ∷ ys) r h = or_mono (not (x == y)) (paths_part xs ys) (paths_part xs (ys ++ r)) (part_right xs ys r) h

part_back : (p q : List ℕ) → paths_part p q ≡ true → paths_part q p ≡ true
part_back [] q h = absurd (true≢false (sym h))
part_back (x ∷ xs) [] h = absurd (true≢false (sym h))
part_back (x ∷ xs) (y ∷ ys) h =
    subst (λ b. not b || paths_part ys xs ≡ true) (nat_eq_equiv.symm x y) (or_mono (not (x == y)) (paths_part xs ys) (paths_part ys xs) (part_back xs ys) h)

part_kids : (p : List ℕ) (a b : ℕ) → a < b → paths_part (p ++ a ∷ []) (p ++ b ∷ []) ≡ true
part_kids [] a b l = rw (ne_eqb a b (λ e. omega arith)) refl
part_kids (x ∷ xs) a b l = or_right (not (x == x)) (paths_part (xs ++ a ∷ []) (xs ++ b ∷ [])) (part_kids xs a b l)

part_itself : (p : List ℕ) → paths_part p p ≡ true → ⊥
part_itself [] h = true≢false (sym h)
part_itself (x ∷ xs) h = part_itself xs (rw (eq-eqb x x refl) at h)

part_differs : (p q : List ℕ) → paths_part p q ≡ true → same_path p q ≡ false
part_differs p q h =
    let step : (b : Bool) → same_path p q ≡ b → same_path p q ≡ false = λ b.
    elim b as (λ b. same_path p q ≡ b → same_path p q ≡ false)
    [ true ↦ λ s. absurd (part_itself p (subst (λ r. paths_part p r ≡ true) (sym (path_same p q s)) h)) | false ↦ λ s. s ] in
    step (same_path p q) refl

parts_without : (p r : List ℕ) (qs : List (List ℕ)) → parts_from p qs ≡ true → parts_from p (without r qs) ≡ true
parts_without p r [] h = refl
parts_without p r (q ∷ qs) h =
    let b = and_parts (paths_part p q) (parts_from p qs) h in
    elim (same_path r q) as (λ s. parts_from p (if s then qs else q ∷ without r qs) ≡ true)
    [ true ↦ b.1 | false ↦ and_from (paths_part p q) (parts_from p (without r qs)) b.0 (parts_without p r qs b.1) ]

all_part_without : (r : List ℕ) (qs : List (List ℕ)) → all_part qs ≡ true → all_part (without r qs) ≡ true
all_part_without r [] h = refl
all_part_without r (q ∷ qs) h =
    let b = and_parts (parts_from q qs) (all_part qs) h in
    elim (same_path r q) as (λ s. all_part (if s then qs else q ∷ without r qs) ≡ true)
    [ true ↦ b.1 | false ↦ and_from (parts_from q (without r qs)) (all_part (without r qs)) (parts_without q r qs b.0) (all_part_without r qs b.1) ]

pub part_after_done : (r : List ℕ) (qs : List (List ℕ)) → all_part qs ≡ true → all_part (without r qs) ≡ true
part_after_done = all_part_without

parts_both : (p : List ℕ) (xs ys : List (List ℕ)) → parts_from p xs ≡ true → parts_from p ys ≡ true → parts_from p (xs ++ ys) ≡ true
parts_both p [] ys h g = g
parts_both p (x ∷ xs) ys h g =
    let b = and_parts (paths_part p x) (parts_from p xs) h in and_from (paths_part p x) (parts_from p (xs ++ ys)) b.0 (parts_both p xs ys b.1 g)

-- an open path parts from whatever parts from all open paths
parts_open : (q p : List ℕ) (qs : List (List ℕ)) → parts_from q qs ≡ true → is_open p qs ≡ true → paths_part q p ≡ true
parts_open q p [] h o = absurd (true≢false (sym o))
parts_open q p (x ∷ xs) h o =
    let b = and_parts (paths_part q x) (parts_from q xs) h in
    let step : (s : Bool) → same_path p x ≡ s → s || is_open p xs ≡ true → paths_part q p ≡ true = λ s.
    elim s as (λ s. same_path p x ≡ s → s || is_open p xs ≡ true → paths_part q p ≡ true)
    [ true ↦ λ e _. subst (λ r. paths_part q r ≡ true) (sym (path_same p x e)) b.0 | false ↦ λ _ o. parts_open q p xs b.1 o ] in
    step (same_path p x) refl o

-- an open path parts from the others
parts_others : (p : List ℕ) (qs : List (List ℕ)) → all_part qs ≡ true → is_open p qs ≡ true → parts_from p (without p qs) ≡ true
parts_others p [] h o = refl
parts_others p (q ∷ qs) h o =
    let b = and_parts (parts_from q qs) (all_part qs) h in
    let step : (s : Bool) → same_path p q ≡ s → s || is_open p qs ≡ true → parts_from p (if s then qs else q ∷ without p qs) ≡ true = λ s.
    elim s as (λ s. same_path p q ≡ s → s || is_open p qs ≡ true → parts_from p (if s then qs else q ∷ without p qs) ≡ true) [
      | true ↦ λ e _. subst (λ r. parts_from r qs ≡ true) (sym (path_same p q e)) b.0
      | false ↦ λ _ o. and_from (paths_part p q) (parts_from p (without p qs)) (part_back q p (parts_open q p qs b.0 o)) (parts_others p qs b.1 o)
    ] in
    step (same_path p q) refl o

-- what parts from a path parts from its kids
parts_kids : (q p ks : List ℕ) → paths_part q p ≡ true → parts_from q (kids_of p ks) ≡ true
parts_kids q p [] h = refl
parts_kids q p (k ∷ ks) h = and_from (paths_part q (p ++ k ∷ [])) (parts_from q (kids_of p ks)) (part_right q p (k ∷ []) h) (parts_kids q p ks h)

kid_parts : (p : List ℕ) (k i : ℕ) (ks : List ℕ) → k < i → Ascends i ks → parts_from (p ++ k ∷ []) (kids_of p ks) ≡ true
kid_parts p k i [] l h = refl
kid_parts p k i (j ∷ ks) l h =
    and_from (paths_part (p ++ k ∷ []) (p ++ j ∷ [])) (parts_from (p ++ k ∷ []) (kids_of p ks)) (part_kids p k j (let z = h.0 in omega arith))
    (kid_parts p k (suc j) ks (let z = h.0 in omega arith) h.1)

kids_part : (p : List ℕ) (i : ℕ) (ks : List ℕ) → Ascends i ks → all_part (kids_of p ks) ≡ true
kids_part p i [] h = refl
kids_part p i (k ∷ ks) h =
    and_from (parts_from (p ++ k ∷ []) (kids_of p ks)) (all_part (kids_of p ks)) (kid_parts p k (suc k) ks (omega arith) h.1) (kids_part p (suc k) ks h.1)

part_beside : (p ks : List ℕ) (qs : List (List ℕ)) → parts_from p qs ≡ true → all_part qs ≡ true → all_part (kids_of p ks) ≡ true → all_part (qs ++ kids_of p ks) ≡ true
part_beside p ks [] h a g = g
part_beside p ks (q ∷ qs) h a g =
    let b = and_parts (paths_part p q) (parts_from p qs) h in
    let d = and_parts (parts_from q qs) (all_part qs) a in
    and_from (parts_from q (qs ++ kids_of p ks)) (all_part (qs ++ kids_of p ks))
    (parts_both q qs (kids_of p ks) d.0 (parts_kids q p ks (part_back p q b.0))) (part_beside p ks qs b.1 d.1 g)

pub part_after_split : (p : List ℕ) (i : ℕ) (ks : List ℕ) (qs : List (List ℕ)) → Ascends i ks → all_part qs ≡ true → is_open p qs ≡ true → all_part (without p qs ++ kids_of p ks) ≡ true
part_after_split p i ks qs a h o = part_beside p ks (without p qs) (parts_others p qs h o) (all_part_without p qs h) (kids_part p i ks a)

none_there : (q : List ℕ) (ps : List (List ℕ)) → parts_from q ps ≡ true → times_in ps q ≡ 0
none_there q [] h = refl
none_there q (p ∷ ps) h =
    let b = and_parts (paths_part q p) (parts_from q ps) h in
    let z = ap one_if (part_differs q p b.0) in omega (arith, none_there q ps b.1)

-- no path stands twice among paths that part
pub at_most_once : (ps : List (List ℕ)) (q : List ℕ) → all_part ps ≡ true → times_in ps q ≤ 1
at_most_once [] q h = omega arith
at_most_once (p ∷ ps) q h =
    let b = and_parts (parts_from p ps) (all_part ps) h in
    let step : (s : Bool) → same_path q p ≡ s → one_if s + times_in ps q ≤ 1 = λ s.
    elim s as (λ s. same_path q p ≡ s → one_if s + times_in ps q ≤ 1) [
      | true ↦ λ e. (let z = none_there q ps (subst (λ r. parts_from r ps ≡ true) (sym (path_same q p e)) b.0) in omega arith)
      | false ↦ λ _. (let z = at_most_once ps q b.1 in omega arith)
    ] in
    step (same_path q p) refl
