-- Keys of the clauses of restricted programs, and which of them agree.
use Rattle.std.proofs.Common.{◌≡◌, ℕ, zero, suc, ◌+◌, ◌-◌, ◌<◌, ◌≤◌, ◌^◌, Bool, true, false, cond, not, List, [], ◌∷◌, ◌++◌, length, drop, get_or, map, refl, sym, ap, ap₂, ◌∙◌, true≢false, arith}
use Rattle.std.proofs.lemmas.Bool.Decides.{nat_tests}
use Rattle.std.proofs.lemmas.List.{append_assoc, append-nil, drop-drop, drop_all, length-drop, length-map}
use Rattle.std.specs.List.{position_or_len, prefix_len}
use Rattle.std.specs.Prelude.{if◌then◌else◌, Option, Some, None}
use Rattle.ap_defs.specs.declared.goals.Clause.{Clause}
use Rattle.ap_defs.specs.declared.terms.Term.{Term}
use Rattle.ap_defs.specs.Goals.{Clauses, NominalClause, NominalProgram, clause_of, clauses_of, program_in}
use Rattle.ap_defs.specs.HeadKeys.{agree, first_key, head_key, kept_from}
use Rattle.ap_defs.specs.Limits.{size_limit}
use Rattle.ap_defs.specs.Printing.{constructor_in}
use Rattle.ap_defs.specs.Resolution.{kinds_of}
use Rattle.ap_defs.specs.Terms.{NominalTerm, unit, name, pair, app, abs, susp}
use Rattle.ap_defs.specs.Types as types
use Rattle.ap_defs.specs.Types.{NominalConstructor, NominalKind, NominalSignature, NominalType}
use Rattle.ap_defs.specs.Typing.{IsApplication, Want}
use Rattle.ap_program.specs.NameRestriction.{IsRestricted, sum_of_lengths}
use Rattle.ap_program.specs.RawTyping.{HasTermType, IsTypedTerm}
use Rattle.ap_program.specs.Typed.{AreArguments, AreTypedClauses, AreTypedFrom, predicate_at, term_form}
use Rattle.ap_index.specs.Matching.{key_agrees}
use Rattle.ap_index.specs.Keys.{AreNarrow, AreNarrowLists, keys_of}

constructor_below : (cs : List NominalConstructor) (g : ℕ) (typed : Want → Type 0) (d : ℕ) → IsApplication typed (constructor_in cs (suc (suc g))) d → g < length cs
constructor_below [] g typed d h = absurd h
constructor_below (c ∷ cs) zero typed d h = omega arith
constructor_below (c ∷ cs) (suc g) typed d h = let k : g < length cs = constructor_below cs g typed d h in omega (arith, k)

key_below : (cs : List NominalConstructor) (kinds : List NominalKind) (t : NominalTerm) (a : NominalType) → HasTermType cs kinds t a → head_key t < 7 + length cs
key_below cs kinds unit a h = omega arith
key_below cs kinds (name b) a h = omega arith
key_below cs kinds (pair t u) a h = omega arith
key_below cs kinds (abs b t) a h = omega arith
key_below cs kinds (susp p x) a h = omega arith
key_below cs kinds (app zero t) a h = omega arith
key_below cs kinds (app (suc zero) t) a h = omega arith
key_below cs kinds (app (suc (suc g)) t) (types.base d) h = let k : g < length cs = constructor_below cs g (IsTypedTerm cs kinds t) d h in omega (arith, k)
key_below cs kinds (app (suc (suc g)) t) types.unit h = absurd h
key_below cs kinds (app (suc (suc g)) t) (types.names s) h = absurd h
key_below cs kinds (app (suc (suc g)) t) (types.pair a b) h = absurd h
key_below cs kinds (app (suc (suc g)) t) (types.list a) h = absurd h
key_below cs kinds (app (suc (suc g)) t) (types.abs s b) h = absurd h

first_below : (cs : List NominalConstructor) (kinds : List NominalKind) (ts : List NominalTerm) (o : Option (List NominalType)) → AreArguments (HasTermType cs kinds) ts o → first_key ts < 7 + length cs
first_below cs kinds [] o h = omega arith
first_below cs kinds (t ∷ ts) None h = absurd h
first_below cs kinds (t ∷ ts) (Some []) h = absurd h
first_below cs kinds (t ∷ ts) (Some (a ∷ as')) h = key_below cs kinds t a h.0

module _ (sig : NominalSignature) (few : length sig.constructors ≤ size_limit) where
  narrow_clauses : (p : ℕ) (cs : List NominalClause) → AreTypedClauses term_form sig p cs → AreNarrow (keys_of cs)
  narrow_clauses p [] h = tt
  narrow_clauses p (c ∷ cs) h =
      let k : first_key c.args < 7 + length sig.constructors = first_below sig.constructors (kinds_of c.locals) c.args (predicate_at sig.predicates c.pred) h.0.1.0 in
      (omega (arith, k, few), narrow_clauses p cs h.1)

  narrow_lists : (p : ℕ) (css : Clauses) → AreTypedFrom term_form sig p css → sum_of_lengths css ≤ size_limit → AreNarrowLists css
  narrow_lists p [] h l = tt
  narrow_lists p (cs ∷ css) h l = ((narrow_clauses p cs h.0, omega (arith, l)), narrow_lists (suc p) css h.1 (omega (arith, l)))

pub restricted_narrow : (p : NominalProgram) → IsRestricted p → AreNarrowLists p.clauses
restricted_narrow p h = let b = h.bounded in narrow_lists p.signature (omega (arith, b)) 0 p.clauses h.typed.0 (omega (arith, b))

-- WHICH KEYS AGREE

same_tests : (p q : ℕ → Bool) (xs : List ℕ) → AreNarrow xs → ((x : ℕ) → x < 2 ^ 32 → p x ≡ q x) → prefix_len (λ x. not (p x)) xs ≡ prefix_len (λ x. not (q x)) xs
same_tests p q [] h e = refl
same_tests p q (x ∷ xs) h e = step (p x) (q x) _ _ (e x h.0) (same_tests p q xs h.1 e)
  where
    step : (a b : Bool) (m n : ℕ) → a ≡ b → m ≡ n → cond (not a) (1 + m) 0 ≡ cond (not b) (1 + n) 0
    step true true m n e k = refl
    step true false m n e k = absurd (true≢false e)
    step false true m n e k = absurd (true≢false (sym e))
    step false false m n e k = ap (λ i. 1 + i) k

pub narrow_drop : (n : ℕ) (xs : List ℕ) → AreNarrow xs → AreNarrow (drop n xs)
narrow_drop zero xs h = h
narrow_drop (suc n) [] h = tt
narrow_drop (suc n) (x ∷ xs) h = narrow_drop n xs h.1

pub narrow_match : (key : ℕ) (xs : List ℕ) → AreNarrow xs → (key ≡ 0 → ⊥) → prefix_len (λ k. not (key_agrees key k)) xs ≡ position_or_len (λ k. agree key k) xs
narrow_match key xs h other = same_tests (key_agrees key) (λ k. agree key k) xs h (λ x l. same x)
  where
    same : (x : ℕ) → key_agrees key x ≡ agree key x
    same x = grind (arith, nat_tests)

pub wide_match : (key : ℕ) (xs : List ℕ) → AreNarrow xs → 2 ^ 32 ≤ key → prefix_len (λ k. not (key_agrees 0 k)) xs ≡ position_or_len (λ k. agree key k) xs
wide_match key xs h wide = same_tests (key_agrees 0) (λ k. agree key k) xs h same
  where
    same : (x : ℕ) → x < 2 ^ 32 → key_agrees 0 x ≡ agree key x
    same x l = grind (arith, nat_tests)

pub wild_match : (key : ℕ) (xs : List ℕ) → key ≡ 0 → position_or_len (λ k. agree key k) xs ≡ 0
wild_match key [] e = refl
wild_match key (x ∷ xs) e = ap (λ k. position_or_len (λ l. agree k l) (x ∷ xs)) e

all_keys : (key : ℕ) (xs : List (Clause Term)) → position_or_len (λ k. agree key k) (keys_of (map clause_of xs)) ≡ position_or_len (λ c. agree key (first_key c.args)) (map clause_of xs)
all_keys key [] = refl
all_keys key (x ∷ xs) = ap (λ n. cond (not (agree key (first_key (clause_of x).args))) (1 + n) 0) (all_keys key xs)

-- the first key that agrees is that of the first clause whose key does
pub keys_from : (key from : ℕ) (xs : List (Clause Term)) → position_or_len (λ k. agree key k) (drop from (keys_of (map clause_of xs))) ≡ position_or_len (λ c. agree key (first_key c.args)) (map clause_of (drop from xs))
keys_from key zero xs = all_keys key xs
keys_from key (suc n) [] = refl
keys_from key (suc n) (x ∷ xs) = keys_from key n xs

-- THE CLAUSES THAT ARE KEPT

abbrev place_in : ℕ → List NominalClause → ℕ
place_in key cs = position_or_len (λ c. agree key (first_key c.args)) cs

count_below : (key : ℕ) (cs : List NominalClause) → place_in key cs ≤ length cs
count_below key [] = omega arith
count_below key (c ∷ cs) = step (agree key (first_key c.args)) (count_below key cs)
  where
    step : (b : Bool) → place_in key cs ≤ length cs → cond (not b) (1 + place_in key cs) 0 ≤ suc (length cs)
    step true h = omega arith
    step false h = omega (arith, h)

kept_next : (key i : ℕ) (cs : List NominalClause) → place_in key cs < length cs → kept_from key i cs ≡ (i + place_in key cs) ∷ kept_from key (i + place_in key cs + 1) (drop (place_in key cs + 1) cs)
kept_next key i [] h = absurd (omega (arith, h))
kept_next key i (c ∷ cs) h = step (agree key (first_key c.args)) (place_in key cs) (kept_next key (suc i) cs) h
  where
    step : (b : Bool) (m : ℕ) → (m < length cs → kept_from key (suc i) cs ≡ (suc i + m) ∷ kept_from key (suc i + m + 1) (drop (m + 1) cs)) → cond (not b) (1 + m) 0 < suc (length cs)
        → (if b then i ∷ kept_from key (suc i) cs else kept_from key (suc i) cs) ≡ (i + cond (not b) (1 + m) 0) ∷ kept_from key (i + cond (not b) (1 + m) 0 + 1) (drop (cond (not b) (1 + m) 0 + 1) (c ∷ cs))
    step true m f h = ap₂ (λ (a b : ℕ). a ∷ kept_from key b cs) (omega arith) (omega arith)
    step false m f h =
        let e : suc (m + 1) ≡ 1 + m + 1 = omega arith in
        f (omega (arith, h)) ∙ ap₂ (λ (a b : ℕ). a ∷ kept_from key b (drop (m + 1) cs)) (omega arith) (omega arith)
        ∙ ap (λ (n : ℕ). (i + (1 + m)) ∷ kept_from key (i + (1 + m) + 1) (drop n (c ∷ cs))) e

kept_none : (key i : ℕ) (cs : List NominalClause) → length cs ≤ place_in key cs → kept_from key i cs ≡ []
kept_none key i [] h = refl
kept_none key i (c ∷ cs) h = step (agree key (first_key c.args)) (kept_none key (suc i) cs) h
  where
    step : (b : Bool) → (length cs ≤ place_in key cs → kept_from key (suc i) cs ≡ []) → suc (length cs) ≤ cond (not b) (1 + place_in key cs) 0 → (if b then i ∷ kept_from key (suc i) cs else kept_from key (suc i) cs) ≡ []
    step true f h = absurd (omega (arith, h))
    step false f h = f (omega (arith, h))

drop_views : (n : ℕ) (xs : List (Clause Term)) → drop n (map clause_of xs) ≡ map clause_of (drop n xs)
drop_views zero xs = refl
drop_views (suc n) [] = refl
drop_views (suc n) (x ∷ xs) = drop_views n xs

-- The clauses from a place on, of which the next one that agrees stands at a further place.
module _ (key from place : ℕ) (xs : List (Clause Term)) (kept all : List ℕ) (next : place ≡ from + place_in key (map clause_of (drop from xs))) (here : from < length xs)
    (so_far : kept ++ kept_from key (from + 1) (map clause_of (drop from xs)) ≡ all) where
  count : length (map clause_of (drop from xs)) ≡ length xs - from
  count = length-map (drop from xs) clause_of ∙ length-drop from xs

  behind : (n : ℕ) → from + n ≡ place + 1 → drop n (map clause_of (drop from xs)) ≡ map clause_of (drop (place + 1) xs)
  behind n e = drop_views n (drop from xs) ∙ ap (map clause_of) (drop-drop n from xs) ∙ ap (λ (m : ℕ). map clause_of (drop m xs)) e

  pub place_small : place ≤ length xs
  place_small = let b = count_below key (map clause_of (drop from xs)) in omega (arith, b, count, next, here)

  pub one_kept : place < length xs → (kept ++ (place + 1) ∷ []) ++ kept_from key (place + 1 + 1) (map clause_of (drop (place + 1) xs)) ≡ all
  one_kept h =
      let cs = map clause_of (drop from xs) in
      let m = place_in key cs in
      append_assoc kept ((place + 1) ∷ []) (kept_from key (place + 1 + 1) (map clause_of (drop (place + 1) xs)))
      ∙ ap (λ (ks : List ℕ). kept ++ ks) (sym (
      kept_next key (from + 1) cs (omega (arith, h, next, count, here))
      ∙ ap₂ (λ (a b : ℕ). a ∷ kept_from key b (drop (m + 1) cs)) (omega (arith, next)) (omega (arith, next))
      ∙ ap (λ (ds : List NominalClause). (place + 1) ∷ kept_from key (place + 1 + 1) ds) (behind (m + 1) (omega (arith, next)))))
      ∙ so_far

  pub none_kept : length xs ≤ place → kept ++ kept_from key (place + 1 + 1) (map clause_of (drop (place + 1) xs)) ≡ all
  none_kept h =
      ap (λ (ds : List (Clause Term)). kept ++ kept_from key (place + 1 + 1) (map clause_of ds)) (drop_all (place + 1) xs (omega (arith, h)))
      ∙ ap (λ (ks : List ℕ). kept ++ ks) (sym (kept_none key (from + 1) (map clause_of (drop from xs)) (omega (arith, h, next, count, here))))
      ∙ so_far

-- all places were gone through
pub all_kept : (key from : ℕ) (xs : List (Clause Term)) (kept all : List ℕ) → length xs ≤ from → kept ++ kept_from key (from + 1) (map clause_of (drop from xs)) ≡ all → kept ≡ all
all_kept key from xs kept all h so_far =
    sym (append-nil kept) ∙ ap (λ (ds : List (Clause Term)). kept ++ kept_from key (from + 1) (map clause_of ds)) (sym (drop_all from xs h)) ∙ so_far

pub nothing_behind : (key from : ℕ) (xs : List ℕ) → length xs ≤ from → position_or_len (λ k. agree key k) (drop from xs) ≡ 0
nothing_behind key from xs h = ap (λ (ys : List ℕ). position_or_len (λ k. agree key k) ys) (drop_all from xs h)

pub clauses_here : (css : List (List (Clause Term))) (n : ℕ) (cs : List (Clause Term)) → n < length css → cs ≡ get_or css n cs
    → map clause_of cs ≡ clauses_of (program_in css) n
clauses_here [] n cs h e = absurd (omega (arith, h))
clauses_here (ds ∷ css) zero cs h e = ap (map clause_of) e
clauses_here (ds ∷ css) (suc n) cs h e = clauses_here css n cs (omega (arith, h)) e

pub clauses_past : (css : List (List (Clause Term))) (n : ℕ) → length css ≤ n → [] ≡ clauses_of (program_in css) n
clauses_past [] n h = refl
clauses_past (ds ∷ css) zero h = absurd (omega (arith, h))
clauses_past (ds ∷ css) (suc n) h = clauses_past css n (omega (arith, h))
