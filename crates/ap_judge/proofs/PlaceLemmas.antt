-- What stands for an identifier is found at its place.
use Rattle.std.proofs.Common.{◌≡◌, ◌<◌, ◌≤◌, ◌+◌, ℕ, zero, suc, Bool, true, false, ◌==◌, ◌&&◌, if◌then◌else◌, List, [], ◌∷◌, ◌++◌, append_assoc, map, length, get_or, drop, refl, sym, ap, ◌∙◌, add-one, arith}
use Rattle.ap_program.specs.FreeLocals.{free_sort, is_free_var}
use Rattle.std.proofs.lemmas.Bool.Decides.{nat_tests}
use Rattle.std.specs.Option.{is_some}
use Rattle.std.specs.Prelude.{Option, None, Some}
use Rattle.ap_defs.specs.declared.goals.Local.{Local}
use Rattle.ap_defs.specs.declared.terms.Name.{Name}
use Rattle.ap_defs.specs.declared.terms.Var.{Var}
use Rattle.ap_defs.specs.Freshness.{var_eq}
use Rattle.ap_defs.specs.GroundProofs.{name_for}
use Rattle.ap_defs.specs.Permutations.{name_eq}
use Rattle.ap_defs.specs.Renaming.{local_names, local_vars, name_unless, var_unless}
use Rattle.ap_defs.specs.Terms.{NominalTerm, unit}
use Rattle.ap_defs.specs.Types as types
use Rattle.ap_defs.specs.Types.{NominalKind, NominalLocal, local_of, locals_of}
use Rattle.ap_checks.specs.OpenEnvironments.{open_term_for}
use Rattle.ap_program.specs.FreeLocals as free
use Rattle.ap_judge.specs.Places.{next_if, places_from}
use Rattle.ap_judge.proofs.LocalLemmas.{locals_left}

pub get_or_any : {A : Type 0} (xs : List A) (n : ℕ) (d e : A) → n < length xs → get_or xs n d ≡ get_or xs n e
get_or_any [] n d e h = absurd (omega arith)
get_or_any (x ∷ xs) zero d e h = refl
get_or_any (x ∷ xs) (suc n) d e h = get_or_any xs n d e (omega (arith, h))

pub get_or_none : {A : Type 0} (xs : List A) (n : ℕ) (d : A) → length xs ≤ n → get_or xs n d ≡ d
get_or_none [] zero d h = refl
get_or_none [] (suc n) d h = refl
get_or_none (x ∷ xs) zero d h = absurd (omega arith)
get_or_none (x ∷ xs) (suc n) d h = get_or_none xs n d (omega (arith, h))

-- an item of a list of views
pub get_or_view : {A B : Type 0} (view : A → B) (xs : List A) (n : ℕ) (d : A) (e : B) → n < length xs → get_or (map view xs) n e ≡ view (get_or xs n d)
get_or_view view [] n d e h = absurd (omega arith)
get_or_view view (x ∷ xs) zero d e h = refl
get_or_view view (x ∷ xs) (suc n) d e h = get_or_view view xs n d e (omega (arith, h))

pub get_or_no_view : {A B : Type 0} (view : A → B) (xs : List A) (n : ℕ) (e : B) → length xs ≤ n → get_or (map view xs) n e ≡ e
get_or_no_view view [] zero e h = refl
get_or_no_view view [] (suc n) e h = refl
get_or_no_view view (x ∷ xs) zero e h = absurd (omega arith)
get_or_no_view view (x ∷ xs) (suc n) e h = get_or_no_view view xs n e (omega (arith, h))

pub length_locals : (ls : List Local) → length (locals_of ls) ≡ length ls
length_locals [] = refl
length_locals (l ∷ ls) = ap suc (length_locals ls)

-- FREE NAMES

no_names_given : (as' : List Name) (b : Name) → name_for as' [] b ≡ b
no_names_given [] b = refl
no_names_given (a ∷ as') b = refl

name_met : (a b : Name) (as' names : List Name) (n : ℕ) → name_eq a b ≡ true → name_for (a ∷ as') (drop n names) b ≡ get_or names n b
name_met a b as' [] zero h = refl
name_met a b as' [] (suc n) h = refl
name_met a b as' (c ∷ cs) zero h = ap (λ v. if v then c else name_for as' cs b) h
name_met a b as' (c ∷ cs) (suc n) h = name_met a b as' cs n h

name_passed : (a b : Name) (as' names : List Name) (n : ℕ) → name_eq a b ≡ false → name_for (a ∷ as') (drop n names) b ≡ name_for as' (drop (suc n) names) b
name_passed a b as' [] zero h = sym (no_names_given as' b)
name_passed a b as' [] (suc n) h = sym (no_names_given as' b)
name_passed a b as' (c ∷ cs) zero h = ap (λ v. if v then c else name_for as' cs b) h
name_passed a b as' (c ∷ cs) (suc n) h = name_passed a b as' cs n h

other_num : (s m : ℕ) (b : Name) → m < b.num → name_eq (record { sort = s; num = m }) b ≡ false
unfolding name_eq
other_num s m b h = grind (arith, nat_tests)

same_num : (s m : ℕ) (b : Name) → s ≡ b.sort → b.num ≡ m → name_eq (record { sort = s; num = m }) b ≡ true
unfolding name_eq
same_num s m b h k = grind (arith, nat_tests)

lower_num : (s m : ℕ) (b : Name) → b.num < m → name_eq (record { sort = s; num = m }) b ≡ false
unfolding name_eq
lower_num s m b h = grind (arith, nat_tests)

names_pass : (b : Bool) (k : NominalKind) (m n : ℕ) (as' names : List Name) (c : Name) → m < c.num
    → name_for (name_unless b k m as') (drop n names) c ≡ name_for as' (drop (next_if (free.sort_unless b k) n) names) c
names_pass true k m n as' names c h = refl
names_pass false (types.var t) m n as' names c h = refl
names_pass false (types.name s) m n as' names c h = name_passed (record { sort = s; num = m }) c as' names n (other_num s m c h)

name_here : (b : Bool) (k : NominalKind) (m n v : ℕ) (as' names : List Name) (ps qs : List ℕ) (c : Name) → c.num ≡ m → free.sort_unless b k ≡ Some c.sort
    → name_for (name_unless b k m as') (drop n names) c ≡ get_or names (get_or (if free.var_when b k then (v ∷ ps) else (n ∷ qs)) 0 0) c
name_here true k m n v as' names ps qs c e f = absurd (cc)
name_here false (types.var t) m n v as' names ps qs c e f = absurd (cc)
name_here false (types.name s) m n v as' names ps qs c e f = let same : s ≡ c.sort = cc in name_met (record { sort = s; num = m }) c as' names n (same_num s m c same e)

place_next : (b : Bool) (k : NominalKind) (n v j : ℕ) (ls : List NominalLocal)
    → get_or (if free.var_when b k then (v ∷ places_from n (suc v) ls) else (n ∷ places_from (next_if (free.sort_unless b k) n) v ls)) (suc j) 0
    ≡ get_or (places_from (next_if (free.sort_unless b k) n) (if free.var_when b k then suc v else v) ls) j 0
place_next true k n v j ls = refl
place_next false (types.var t) n v j ls = refl
place_next false (types.name s) n v j ls = refl

pub name_at : (ls : List Local) (m n v j : ℕ) (names : List Name) (c : Name) (d : Local) → c.num ≡ m + j → j < length ls → free_sort (local_of (get_or ls j d)) ≡ Some c.sort
    → name_for (local_names m (locals_of ls)) (drop n names) c ≡ get_or names (get_or (places_from n v (locals_of ls)) j 0) c
name_at [] m n v j names c d e h f = absurd (omega arith)
name_at (l ∷ ls) m n v zero names c d e h f =
    let k = local_of l in
    name_here k.bound k.kind m n v (local_names (suc m) (locals_of ls)) names (places_from n (suc v) (locals_of ls)) (places_from (next_if (free_sort k) n) v (locals_of ls)) c (omega (arith, e)) f
name_at (l ∷ ls) m n v (suc j) names c d e h f =
    let k = local_of l in
    names_pass k.bound k.kind m n (local_names (suc m) (locals_of ls)) names c (omega (arith, e))
    ∙ name_at ls (suc m) (next_if (free_sort k) n) (if is_free_var k then suc v else v) j names c d (omega (arith, e)) (omega (arith, h)) f
    ∙ ap (λ i. get_or names i c) (sym (place_next k.bound k.kind n v j (locals_of ls)))

-- a name that is none of them
apart_by : (b : Bool) (k : NominalKind) (m : ℕ) (as' names : List Name) (c : Name) → ((s : ℕ) → free.sort_unless b k ≡ Some s → name_eq (record { sort = s; num = m }) c ≡ false)
    → ((ns : List Name) → name_for as' ns c ≡ c) → name_for (name_unless b k m as') names c ≡ c
apart_by true k m as' names c h rest = rest names
apart_by false (types.var t) m as' names c h rest = rest names
apart_by false (types.name s) m as' [] c h rest = refl
apart_by false (types.name s) m as' (x ∷ names) c h rest = ap (λ v. if v then x else name_for as' names c) (h s refl) ∙ rest names

name_below : (ls : List NominalLocal) (m : ℕ) (names : List Name) (c : Name) → c.num < m → name_for (local_names m ls) names c ≡ c
name_below [] m names c h = refl
name_below (l ∷ ls) m names c h =
    apart_by l.bound l.kind m (local_names (suc m) ls) names c (λ s e. lower_num s m c h) (λ ns. name_below ls (suc m) ns c (omega (arith, h)))

other_sort : (s m : ℕ) (b : Name) → (s == b.sort) ≡ false → name_eq (record { sort = s; num = m }) b ≡ false
unfolding name_eq
other_sort s m b h = ap (λ v. v && (m == b.num)) h

pub name_absent : (ls : List Local) (m j : ℕ) (names : List Name) (c : Name) (d : Local) → c.num ≡ m + j
    → (j < length ls → (s : ℕ) → free_sort (local_of (get_or ls j d)) ≡ Some s → (s == c.sort) ≡ false) → name_for (local_names m (locals_of ls)) names c ≡ c
name_absent [] m j names c d e h = refl
name_absent (l ∷ ls) m zero names c d e h =
    let k = local_of l in
    apart_by k.bound k.kind m (local_names (suc m) (locals_of ls)) names c (λ s f. other_sort s m c (h (omega arith) s f))
    (λ ns. name_below (locals_of ls) (suc m) ns c (omega (arith, e)))
name_absent (l ∷ ls) m (suc j) names c d e h =
    let k = local_of l in
    apart_by k.bound k.kind m (local_names (suc m) (locals_of ls)) names c (λ s f. other_num s m c (omega (arith, e)))
    (λ ns. name_absent ls (suc m) j ns c d (omega (arith, e)) (λ l. h (omega (arith, l))))

-- a name past them
pub name_past : (ls : List Local) (m : ℕ) (names : List Name) (c : Name) → m + length ls ≤ c.num → name_for (local_names m (locals_of ls)) names c ≡ c
name_past [] m names c h = refl
name_past (l ∷ ls) m names c h =
    let k = local_of l in
    apart_by k.bound k.kind m (local_names (suc m) (locals_of ls)) names c (λ s f. other_num s m c (omega (arith, h))) (λ ns. name_past ls (suc m) ns c (omega (arith, h)))

-- FREE VARIABLES

no_terms_given : (xs : List Var) (y : Var) → open_term_for xs [] y ≡ unit
no_terms_given [] y = refl
no_terms_given (x ∷ xs) y = refl

var_met : (x y : Var) (xs : List Var) (us : List NominalTerm) (n : ℕ) → var_eq x y ≡ true → open_term_for (x ∷ xs) (drop n us) y ≡ get_or us n unit
var_met x y xs [] zero h = refl
var_met x y xs [] (suc n) h = refl
var_met x y xs (u ∷ us) zero h = ap (λ v. if v then u else open_term_for xs us y) h
var_met x y xs (u ∷ us) (suc n) h = var_met x y xs us n h

var_passed : (x y : Var) (xs : List Var) (us : List NominalTerm) (n : ℕ) → var_eq x y ≡ false → open_term_for (x ∷ xs) (drop n us) y ≡ open_term_for xs (drop (suc n) us) y
var_passed x y xs [] zero h = sym (no_terms_given xs y)
var_passed x y xs [] (suc n) h = sym (no_terms_given xs y)
var_passed x y xs (u ∷ us) zero h = ap (λ v. if v then u else open_term_for xs us y) h
var_passed x y xs (u ∷ us) (suc n) h = var_passed x y xs us n h

other_var : (m : ℕ) (y : Var) → m < y.num → var_eq (record { num = m }) y ≡ false
other_var m y h = grind (arith, nat_tests)

same_var : (m : ℕ) (y : Var) → y.num ≡ m → var_eq (record { num = m }) y ≡ true
same_var m y h = grind (arith, nat_tests)

lower_var : (m : ℕ) (y : Var) → y.num < m → var_eq (record { num = m }) y ≡ false
lower_var m y h = grind (arith, nat_tests)

vars_pass : (b : Bool) (k : NominalKind) (m v : ℕ) (xs : List Var) (us : List NominalTerm) (y : Var) → m < y.num
    → open_term_for (var_unless b k m xs) (drop v us) y ≡ open_term_for xs (drop (if free.var_when b k then suc v else v) us) y
vars_pass true k m v xs us y h = refl
vars_pass false (types.name s) m v xs us y h = refl
vars_pass false (types.var t) m v xs us y h = var_passed (record { num = m }) y xs us v (other_var m y h)

var_here : (b : Bool) (k : NominalKind) (m n v : ℕ) (xs : List Var) (us : List NominalTerm) (ps qs : List ℕ) (y : Var) → y.num ≡ m → free.var_when b k ≡ true
    → open_term_for (var_unless b k m xs) (drop v us) y ≡ get_or us (get_or (if free.var_when b k then (v ∷ ps) else (n ∷ qs)) 0 0) unit
var_here true k m n v xs us ps qs y e f = absurd (cc)
var_here false (types.name s) m n v xs us ps qs y e f = absurd (cc)
var_here false (types.var t) m n v xs us ps qs y e f = var_met (record { num = m }) y xs us v (same_var m y e)

pub var_at : (ls : List Local) (m n v j : ℕ) (us : List NominalTerm) (y : Var) (d : Local) → y.num ≡ m + j → j < length ls → is_free_var (local_of (get_or ls j d)) ≡ true
    → open_term_for (local_vars m (locals_of ls)) (drop v us) y ≡ get_or us (get_or (places_from n v (locals_of ls)) j 0) unit
var_at [] m n v j us y d e h f = absurd (omega arith)
var_at (l ∷ ls) m n v zero us y d e h f =
    let k = local_of l in
    var_here k.bound k.kind m n v (local_vars (suc m) (locals_of ls)) us (places_from n (suc v) (locals_of ls)) (places_from (next_if (free_sort k) n) v (locals_of ls)) y (omega (arith, e)) f
var_at (l ∷ ls) m n v (suc j) us y d e h f =
    let k = local_of l in
    vars_pass k.bound k.kind m v (local_vars (suc m) (locals_of ls)) us y (omega (arith, e))
    ∙ var_at ls (suc m) (next_if (free_sort k) n) (if is_free_var k then suc v else v) j us y d (omega (arith, e)) (omega (arith, h)) f
    ∙ ap (λ i. get_or us i unit) (sym (place_next k.bound k.kind n v j (locals_of ls)))

var_apart_by : (b : Bool) (k : NominalKind) (m : ℕ) (xs : List Var) (ts : List NominalTerm) (y : Var) → (free.var_when b k ≡ true → var_eq (record { num = m }) y ≡ false)
    → ((us : List NominalTerm) → open_term_for xs us y ≡ unit) → open_term_for (var_unless b k m xs) ts y ≡ unit
var_apart_by true k m xs ts y h rest = rest ts
var_apart_by false (types.name s) m xs ts y h rest = rest ts
var_apart_by false (types.var t) m xs [] y h rest = refl
var_apart_by false (types.var t) m xs (u ∷ us) y h rest = ap (λ v. if v then u else open_term_for xs us y) (h refl) ∙ rest us

var_below : (ls : List NominalLocal) (m : ℕ) (ts : List NominalTerm) (y : Var) → y.num < m → open_term_for (local_vars m ls) ts y ≡ unit
var_below [] m ts y h = refl
var_below (l ∷ ls) m ts y h =
    var_apart_by l.bound l.kind m (local_vars (suc m) ls) ts y (λ e. lower_var m y h) (λ us. var_below ls (suc m) us y (omega (arith, h)))

pub var_absent : (ls : List Local) (m j : ℕ) (ts : List NominalTerm) (y : Var) (d : Local) → y.num ≡ m + j → (j < length ls → is_free_var (local_of (get_or ls j d)) ≡ false)
    → open_term_for (local_vars m (locals_of ls)) ts y ≡ unit
var_absent [] m j ts y d e h = refl
var_absent (l ∷ ls) m zero ts y d e h =
    let k = local_of l in
    var_apart_by k.bound k.kind m (local_vars (suc m) (locals_of ls)) ts y (λ f. absurd (let g = h (omega arith) in cc))
    (λ us. var_below (locals_of ls) (suc m) us y (omega (arith, e)))
var_absent (l ∷ ls) m (suc j) ts y d e h =
    let k = local_of l in
    var_apart_by k.bound k.kind m (local_vars (suc m) (locals_of ls)) ts y (λ f. other_var m y (omega (arith, e)))
    (λ us. var_absent ls (suc m) j us y d (omega (arith, e)) (λ l. h (omega (arith, l))))

pub var_past : (ls : List Local) (m : ℕ) (ts : List NominalTerm) (y : Var) → m + length ls ≤ y.num → open_term_for (local_vars m (locals_of ls)) ts y ≡ unit
var_past [] m ts y h = refl
var_past (l ∷ ls) m ts y h =
    let k = local_of l in
    var_apart_by k.bound k.kind m (local_vars (suc m) (locals_of ls)) ts y (λ f. other_var m y (omega (arith, h))) (λ us. var_past ls (suc m) us y (omega (arith, h)))

-- AS THE PLACES ARE MADE

length_by : (b : Bool) (v n : ℕ) (ps qs : List ℕ) (m : ℕ) → length ps ≡ m → length qs ≡ m → length (if b then (v ∷ ps) else (n ∷ qs)) ≡ suc m
length_by true v n ps qs m h k = ap suc h
length_by false v n ps qs m h k = ap suc k

pub length_places : (n v : ℕ) (ls : List NominalLocal) → length (places_from n v ls) ≡ length ls
length_places n v [] = refl
length_places n v (l ∷ ls) =
    length_by (is_free_var l) v n (places_from n (suc v) ls) (places_from (next_if (free_sort l) n) v ls) (length ls) (length_places n (suc v) ls) (length_places (next_if (free_sort l) n) v ls)

module _ (ls : List Local) (i : ℕ) (d : Local) (h : i < length ls) where
  pub place_of_var : (n v : ℕ) → is_free_var (local_of (get_or ls i d)) ≡ true → places_from n v (locals_of (drop i ls)) ≡ v ∷ places_from n (v + 1) (locals_of (drop (i + 1) ls))
  place_of_var n v e =
      ap (places_from n v) (locals_left ls i d h)
      ∙ ap (λ b. if b then (v ∷ places_from n (suc v) (locals_of (drop (i + 1) ls))) else (n ∷ places_from (next_if (free_sort (local_of (get_or ls i d))) n) v (locals_of (drop (i + 1) ls)))) e
      ∙ ap (λ w. v ∷ places_from n w (locals_of (drop (i + 1) ls))) (sym (add-one v))

  pub place_of_other : (n v : ℕ) → is_free_var (local_of (get_or ls i d)) ≡ false
      → places_from n v (locals_of (drop i ls)) ≡ n ∷ places_from (next_if (free_sort (local_of (get_or ls i d))) n) v (locals_of (drop (i + 1) ls))
  place_of_other n v e =
      ap (places_from n v) (locals_left ls i d h)
      ∙ ap (λ b. if b then (v ∷ places_from n (suc v) (locals_of (drop (i + 1) ls))) else (n ∷ places_from (next_if (free_sort (local_of (get_or ls i d))) n) v (locals_of (drop (i + 1) ls)))) e

  -- the places so far, where one more identifier is no free variable
  pub place_made : (n v m : ℕ) (ps qs whole : List ℕ) → is_free_var (local_of (get_or ls i d)) ≡ false → m ≡ next_if (free_sort (local_of (get_or ls i d))) n → qs ≡ ps ++ n ∷ []
      → ps ++ places_from n v (locals_of (drop i ls)) ≡ whole → qs ++ places_from m v (locals_of (drop (i + 1) ls)) ≡ whole
  place_made n v m ps qs whole e next put so_far =
      let others = locals_of (drop (i + 1) ls) in
      ap (λ zs. zs ++ places_from m v others) put ∙ append_assoc ps (n ∷ []) (places_from m v others) ∙ ap (λ k. ps ++ n ∷ places_from k v others) next
      ∙ ap (λ zs. ps ++ zs) (sym (place_of_other n v e)) ∙ so_far

pub next_some : (o : Option ℕ) (n : ℕ) → is_some o ≡ true → n + 1 ≡ next_if o n
next_some None n e = cc
next_some (Some s) n e = add-one n

pub next_none : (o : Option ℕ) (n : ℕ) → is_some o ≡ false → n ≡ next_if o n
next_none None n e = refl
next_none (Some s) n e = cc
