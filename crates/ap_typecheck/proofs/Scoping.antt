-- Where the identifiers of a resolved clause or query stand.
use Rattle.std.proofs.Common.{◌≡◌, ◌⊎◌, inl, inr, ℕ, zero, suc, ◌+◌, ◌<◌, ◌≤◌, Bool, true, false, not, ◌&&◌, List, [], ◌∷◌, ◌++◌, length, Option, None, Some, refl, sym, ap, subst, ◌∙◌, arith, append_assoc, append-nil, length-append, cond}
use Rattle.std.specs.Option.{option_map}
use Rattle.ap_defs.specs.declared.terms.Id.{Id}
use Rattle.ap_defs.specs.RawTerms as raw
use Rattle.ap_defs.specs.RawTerms.{RawTerm}
use Rattle.ap_defs.specs.Goals.{GoalOver, succeed, atom, equal, fresh, both, either, exists, new}
use Rattle.ap_trees.specs.Terms as terms
use Rattle.ap_trees.specs.Terms.{Name, OfWord, OfVar, Term, Terms}
use Rattle.ap_trees.specs.Goals as goals
use Rattle.ap_trees.specs.Goals.{Goal}
use Rattle.ap_program.specs.Typed.{id_number, brought}
use Rattle.ap_scopes.specs.Declarations.{Declared, constructor_place}
use Rattle.ap_scopes.specs.Identifiers as scopes
use Rattle.ap_scopes.specs.Identifiers.{Identifier, Found, Scope, same_spelling, is_blank_name, is_free_identifier, free_place, free_one, bound_one, number_new, number_or, numbered_in}
use Rattle.ap_scopes.specs.Resolution.{Resolver, in_order, two_ids, raw_swapped_by, put_first, identifier, binder, word_alone, resolved_term, resolved_arguments, resolved_terms, resolved_goal, resolved_body}
use Rattle.ap_scopes.proofs.Tables.{position-cons}

-- what holds of the number of each identifier that stands in a term
abbrev pub Each : (ℕ → Type 0) → RawTerm → Type 0
Each P raw.unit = Unit {0}
Each P (raw.name a) = P a.num
Each P (raw.var x) = P x.num
Each P (raw.pair t u) = Each P t × Each P u
Each P (raw.app f t) = Each P t
Each P (raw.abs i t) = P (id_number i) × Each P t
Each P (raw.swapped i j t) = P (id_number i) × P (id_number j) × Each P t

abbrev pub EachIn : (ℕ → Type 0) → List RawTerm → Type 0
EachIn P [] = Unit {0}
EachIn P (t ∷ ts) = Each P t × EachIn P ts

-- of each that stands outside of the goals of the `new` and `exists` that bring it
abbrev pub EachFree : (ℕ → Type 0) → GoalOver RawTerm → Type 0
EachFree P succeed = Unit {0}
EachFree P (atom p ts) = EachIn P ts
EachFree P (equal t u) = Each P t × Each P u
EachFree P (fresh t u) = Each P t × Each P u
EachFree P (both g h) = EachFree P g × EachFree P h
EachFree P (either g h) = EachFree P g × EachFree P h
EachFree P (exists x g) = EachFree (λ n. (n ≡ x.num) ⊎ P n) g
EachFree P (new a g) = EachFree (λ n. (n ≡ a.num) ⊎ P n) g

pub each-on : (P Q : ℕ → Type 0) → ((n : ℕ) → P n → Q n) → (t : RawTerm) → Each P t → Each Q t
each-on P Q on raw.unit h = h
each-on P Q on (raw.name a) h = on a.num h
each-on P Q on (raw.var x) h = on x.num h
each-on P Q on (raw.pair t u) h = (each-on P Q on t h.0, each-on P Q on u h.1)
each-on P Q on (raw.app f t) h = each-on P Q on t h
each-on P Q on (raw.abs i t) h = (on (id_number i) h.0, each-on P Q on t h.1)
each-on P Q on (raw.swapped i j t) h = (on (id_number i) h.0, on (id_number j) h.1, each-on P Q on t h.2)

pub each_in-on : (P Q : ℕ → Type 0) → ((n : ℕ) → P n → Q n) → (ts : List RawTerm) → EachIn P ts → EachIn Q ts
each_in-on P Q on [] h = h
each_in-on P Q on (t ∷ ts) h = (each-on P Q on t h.0, each_in-on P Q on ts h.1)

abbrev also : (P Q : ℕ → Type 0) → ((n : ℕ) → P n → Q n) → (m n : ℕ) → (n ≡ m) ⊎ P n → (n ≡ m) ⊎ Q n
also P Q on m n (inl e) = inl e
also P Q on m n (inr h) = inr (on n h)

pub each_free-on : (P Q : ℕ → Type 0) → ((n : ℕ) → P n → Q n) → (g : GoalOver RawTerm) → EachFree P g → EachFree Q g
each_free-on P Q on succeed h = h
each_free-on P Q on (atom p ts) h = each_in-on P Q on ts h
each_free-on P Q on (equal t u) h = (each-on P Q on t h.0, each-on P Q on u h.1)
each_free-on P Q on (fresh t u) h = (each-on P Q on t h.0, each-on P Q on u h.1)
each_free-on P Q on (both g k) h = (each_free-on P Q on g h.0, each_free-on P Q on k h.1)
each_free-on P Q on (either g k) h = (each_free-on P Q on g h.0, each_free-on P Q on k h.1)
each_free-on P Q on (exists x g) h = each_free-on (λ n. (n ≡ x.num) ⊎ P n) (λ n. (n ≡ x.num) ⊎ Q n) (also P Q on x.num) g h
each_free-on P Q on (new a g) h = each_free-on (λ n. (n ≡ a.num) ⊎ P n) (λ n. (n ≡ a.num) ⊎ Q n) (also P Q on a.num) g h

-- the identifier at a place is there, and is marked so
abbrev pub IsAt : Bool → Found → ℕ → Type 0
IsAt b [] n = ⊥
IsAt b (i ∷ is) zero = i.bound ≡ b
IsAt b (i ∷ is) (suc n) = IsAt b is n

pub is_at-append : (b : Bool) (xs ys : Found) (n : ℕ) → IsAt b xs n → IsAt b (xs ++ ys) n
is_at-append b [] ys n h = absurd h
is_at-append b (i ∷ is) ys zero h = h
is_at-append b (i ∷ is) ys (suc n) h = is_at-append b is ys n h

is_at-end : (xs : Found) (i : Identifier) → IsAt i.bound (xs ++ i ∷ []) (length xs)
is_at-end [] i = refl
is_at-end (x ∷ xs) i = is_at-end xs i

-- what the goals around bring
abbrev pub InScope : Scope → ℕ → Type 0
InScope [] n = ⊥
InScope (b ∷ s) n = (n ≡ b.1) ⊎ InScope s n

-- in scope, or not marked as bound
abbrev pub IsKnown : Scope → Found → ℕ → Type 0
IsKnown s found n = InScope s n ⊎ IsAt false found n

known-append : (s : Scope) (xs ys : Found) (n : ℕ) → IsKnown s xs n → IsKnown s (xs ++ ys) n
known-append s xs ys n (inl h) = inl h
known-append s xs ys n (inr h) = inr (is_at-append false xs ys n h)

-- more was found
pub record Grows (before after : Found) : Type 0 where
  pub extra : Found
  pub grown : after ≡ before ++ extra

pub grows-same : (found : Found) → Grows found found
grows-same found = record { extra = []; grown = sym (append-nil found) }

pub grows-then : (a b c : Found) → Grows a b → Grows b c → Grows a c
grows-then a b c g h = record { extra = g.extra ++ h.extra; grown = h.grown ∙ ap (λ x. x ++ h.extra) g.grown ∙ append_assoc a g.extra h.extra }

pub grows_at : (m : Bool) (a b : Found) → Grows a b → (n : ℕ) → IsAt m a n → IsAt m b n
grows_at m a b g n h = subst (λ x. IsAt m x n) (sym g.grown) (is_at-append m a g.extra n h)

pub grows_known : (s : Scope) (a b : Found) → Grows a b → (n : ℕ) → IsKnown s a n → IsKnown s b n
grows_known s a b g n h = subst (λ x. IsKnown s x n) (sym g.grown) (known-append s a g.extra n h)

pub grows_length : (a b : Found) → Grows a b → length a ≤ length b
grows_length a b g = omega (arith, ap length g.grown, length-append a g.extra)

-- The number of an occurrence.
pub record IsFoundAt (s : Scope) (before : Found) (r : ℕ × Found) : Type 0 where
  pub grows : Grows before r.1
  pub known : IsKnown s r.1 r.0

brought_known : (s : Scope) (name : Name) (n : ℕ) → scopes.brought_under s name ≡ Some n → InScope s n
brought_known [] name n e = absurd (cc)
brought_known (b ∷ s) name n e = by (same_spelling name b.0) (brought_known s name n) e
  where
    by : (t : Bool) → (scopes.brought_under s name ≡ Some n → InScope s n) → cond t (Some b.1) (scopes.brought_under s name) ≡ Some n → (n ≡ b.1) ⊎ InScope s n
    by true rest h = inl (let k : b.1 ≡ n = cc in sym k)
    by false rest h = inr (rest h)

not_and : (b t : Bool) → (not b && t) ≡ true → b ≡ false
not_and true t h = absurd (cc)
not_and false t h = refl

free_known : (name : Name) (found : Found) (n : ℕ) → free_place found name ≡ Some n → IsAt false found n
free_known name [] n e = absurd (cc)
free_known name (i ∷ is) n e = by (is_free_identifier name i) refl (free_place is name) refl (free_known name is) (sym (position-cons (is_free_identifier name) i is) ∙ e)
  where
    by : (t : Bool) → is_free_identifier name i ≡ t → (r : Option ℕ) → free_place is name ≡ r → ((k : ℕ) → free_place is name ≡ Some k → IsAt false is k)
        → cond t (Some 0) (option_map suc r) ≡ Some n → IsAt false (i ∷ is) n
    by true et r er rest h = subst (IsAt false (i ∷ is)) (let k : 0 ≡ n = cc in k) (not_and i.bound (same_spelling name i.spelling) et)
    by false et None er rest h = absurd (cc)
    by false et (Some k) er rest h = subst (IsAt false (i ∷ is)) (let e' : suc k ≡ n = cc in e') (rest k er)

found_new : (s : Scope) (found : Found) (i : Identifier) → i.bound ≡ false → IsFoundAt s found (number_new found i)
found_new s found i e = record {
  grows = record { extra = i ∷ []; grown = refl };
  known = inr (subst (λ b. IsAt b (found ++ i ∷ []) (length found)) e (is_at-end found i));
}

pub numbered_known : (s : Scope) (name : Name) (found : Found) → IsFoundAt s found (numbered_in s name found)
numbered_known s name found = by (is_blank_name name) (scopes.brought_under s name) refl (free_place found name) refl
  where
    by : (b : Bool) (o : Option ℕ) → scopes.brought_under s name ≡ o → (p : Option ℕ) → free_place found name ≡ p
        → IsFoundAt s found (cond b (number_new found (free_one name)) (number_or found (number_or found (number_new found (free_one name)) p) o))
    by true o eo p ep = found_new s found (free_one name) refl
    by false (Some n) eo p ep = record { grows = grows-same found; known = inl (brought_known s name n eo) }
    by false None eo (Some n) ep = record { grows = grows-same found; known = inr (free_known name found n ep) }
    by false None eo None ep = found_new s found (free_one name) refl

-- Each identifier in what is made of a part of the text is known afterwards.
pub record IsDone {A : Type 0} (each : (ℕ → Type 0) → A → Type 0) (s : Scope) (before : Found) (r : A × Found) : Type 0 where
  pub grows : Grows before r.1
  pub each_known : each (IsKnown s r.1) r.0

module _ {A B C : Type 0} (each_a : (ℕ → Type 0) → A → Type 0) (each_b : (ℕ → Type 0) → B → Type 0) (each_c : (ℕ → Type 0) → C → Type 0)
    (more_a : (P Q : ℕ → Type 0) → ((n : ℕ) → P n → Q n) → (a : A) → each_a P a → each_a Q a)
    (make : A → B → C) (join : (P : ℕ → Type 0) (a : A) (b : B) → each_a P a → each_b P b → each_c P (make a b)) where
  pub in_order-done : (s : Scope) (before : Found) (first : Resolver A) (second : Resolver B) → IsDone each_a s before (first before) → IsDone each_b s (first before).1 (second (first before).1)
      → IsDone each_c s before (in_order make first second before)
  in_order-done s before first second h k = record {
    grows = grows-then before (first before).1 (second (first before).1).1 h.grows k.grows;
    each_known = join (IsKnown s (second (first before).1).1) (first before).0 (second (first before).1).0
        (more_a (IsKnown s (first before).1) (IsKnown s (second (first before).1).1) (grows_known s (first before).1 (second (first before).1).1 k.grows) (first before).0 h.each_known)
        k.each_known;
  }

abbrev pub EachId : (ℕ → Type 0) → Id → Type 0
EachId P i = P (id_number i)

abbrev pub EachIds : (ℕ → Type 0) → Id × Id → Type 0
EachIds P ends = P (id_number ends.0) × P (id_number ends.1)

id-on : (P Q : ℕ → Type 0) → ((n : ℕ) → P n → Q n) → (i : Id) → EachId P i → EachId Q i
id-on P Q on i h = on (id_number i) h

ids-on : (P Q : ℕ → Type 0) → ((n : ℕ) → P n → Q n) → (ends : Id × Id) → EachIds P ends → EachIds Q ends
ids-on P Q on ends h = (on (id_number ends.0) h.0, on (id_number ends.1) h.1)

identifier-done : (s : Scope) (name : Name) (found : Found) → IsDone Each s found (identifier s name found)
identifier-done s (OfWord w) found = let k = numbered_known s (OfWord w) found in record { grows = k.grows; each_known = k.known }
identifier-done s (OfVar w) found = let k = numbered_known s (OfVar w) found in record { grows = k.grows; each_known = k.known }

binder-done : (s : Scope) (name : Name) (found : Found) → IsDone EachId s found (binder s name found)
binder-done s (OfWord w) found = let k = numbered_known s (OfWord w) found in record { grows = k.grows; each_known = k.known }
binder-done s (OfVar w) found = let k = numbered_known s (OfVar w) found in record { grows = k.grows; each_known = k.known }

word-done : (s : Scope) (w : List ℕ) (o : Option ℕ) (found : Found) → IsDone Each s found (word_alone s w o found)
word-done s w (Some i) found = record { grows = grows-same found; each_known = tt }
word-done s w None found = identifier-done s (OfWord w) found

abbrev pair-done : (s : Scope) (before : Found) (first second : Resolver RawTerm) → IsDone Each s before (first before) → IsDone Each s (first before).1 (second (first before).1)
    → IsDone Each s before (in_order raw.pair first second before)
pair-done = in_order-done Each Each Each each-on raw.pair (λ P a b h k. (h, k))

mutual
  pub term-done : (d : Declared) (s : Scope) (t : Term) (found : Found) → IsDone Each s found (resolved_term d s t found)
  term-done d s terms.Unit found = record { grows = grows-same found; each_known = tt }
  term-done d s (terms.Variable w) found = identifier-done s (OfVar w) found
  term-done d s (terms.Word w) found = word-done s w (constructor_place d w) found
  term-done d s (terms.Apply w ts) found = let k = arguments-done d s ts found in record { grows = k.grows; each_known = k.each_known }
  term-done d s (terms.Pair t u) found = pair-done s found (resolved_term d s t) (resolved_term d s u) (term-done d s t found) (term-done d s u (resolved_term d s t found).1)
  term-done d s terms.Nil found = record { grows = grows-same found; each_known = tt }
  term-done d s (terms.Cell t u) found =
      let k = pair-done s found (resolved_term d s t) (resolved_term d s u) (term-done d s t found) (term-done d s u (resolved_term d s t found).1) in
      record { grows = k.grows; each_known = k.each_known }
  term-done d s (terms.Abs a t) found =
      in_order-done EachId Each Each id-on raw.abs (λ P i u h k. (h, k)) s found (binder s a) (resolved_term d s t) (binder-done s a found) (term-done d s t (binder s a found).1)
  term-done d s (terms.Swapped a b t) found =
      let both_ids = in_order two_ids (binder s a) (binder s b) in
      in_order-done EachIds Each Each ids-on raw_swapped_by (λ P ends u h k. (h.0, h.1, k)) s found both_ids (resolved_term d s t)
      (in_order-done EachId EachId EachIds id-on two_ids (λ P i j h k. (h, k)) s found (binder s a) (binder s b) (binder-done s a found) (binder-done s b (binder s a found).1))
      (term-done d s t (both_ids found).1)

  arguments-done : (d : Declared) (s : Scope) (ts : Terms) (found : Found) → IsDone Each s found (resolved_arguments d s ts found)
  arguments-done d s (terms.Last t) found = term-done d s t found
  arguments-done d s (terms.More t ts) found = pair-done s found (resolved_term d s t) (resolved_arguments d s ts) (term-done d s t found) (arguments-done d s ts (resolved_term d s t found).1)

pub terms-done : (d : Declared) (s : Scope) (ts : List Term) (found : Found) → IsDone EachIn s found (resolved_terms d s ts found)
terms-done d s [] found = record { grows = grows-same found; each_known = tt }
terms-done d s (t ∷ ts) found =
    in_order-done Each EachIn EachIn each-on put_first (λ P u us h k. (h, k)) s found (resolved_term d s t) (resolved_terms d s ts) (term-done d s t found) (terms-done d s ts (resolved_term d s t found).1)

-- Numbers that ascend from a bound on, that are below a bound, and whose identifiers are marked as bound.
abbrev pub Ascends : ℕ → List ℕ → Type 0
Ascends low [] = Unit {0}
Ascends low (n ∷ ns) = (low ≤ n) × Ascends (suc n) ns

abbrev pub AreBelow : ℕ → List ℕ → Type 0
AreBelow high [] = Unit {0}
AreBelow high (n ∷ ns) = (n < high) × AreBelow high ns

abbrev pub AreBound : Found → List ℕ → Type 0
AreBound found [] = Unit {0}
AreBound found (n ∷ ns) = IsAt true found n × AreBound found ns

ascends-from : (low lower : ℕ) → lower ≤ low → (ns : List ℕ) → Ascends low ns → Ascends lower ns
ascends-from low lower l [] h = h
ascends-from low lower l (n ∷ ns) h = let first : low ≤ n = h.0 in (omega arith, h.1)

ascends-append : (low mid : ℕ) → low ≤ mid → (ms ns : List ℕ) → Ascends low ms → AreBelow mid ms → Ascends mid ns → Ascends low (ms ++ ns)
ascends-append low mid l [] ns h b k = ascends-from mid low l ns k
ascends-append low mid l (m ∷ ms) ns h b k = (h.0, let below : m < mid = b.0 in ascends-append (suc m) mid (omega arith) ms ns h.1 b.1 k)

below-append : (high low : ℕ) → low ≤ high → (ms ns : List ℕ) → AreBelow low ms → AreBelow high ns → AreBelow high (ms ++ ns)
below-append high low l [] ns h k = k
below-append high low l (m ∷ ms) ns h k = (let below : m < low = h.0 in omega arith, below-append high low l ms ns h.1 k)

bound-append : (a b : Found) → Grows a b → (ms ns : List ℕ) → AreBound a ms → AreBound b ns → AreBound b (ms ++ ns)
bound-append a b g [] ns h k = k
bound-append a b g (m ∷ ms) ns h k = (grows_at true a b g m h.0, bound-append a b g ms ns h.1 k)

-- A goal: what stands free in it is known, and what it brings is new, and marked.
pub record IsGoalDone (s : Scope) (before : Found) (r : GoalOver RawTerm × Found) : Type 0 where
  pub grows : Grows before r.1
  pub known : EachFree (IsKnown s r.1) r.0
  pub ascends : Ascends (length before) (brought r.0)
  pub below : AreBelow (length r.1) (brought r.0)
  pub bound : AreBound r.1 (brought r.0)

joined-done : (s : Scope) (before : Found) (make : GoalOver RawTerm → GoalOver RawTerm → GoalOver RawTerm) (first second : Resolver (GoalOver RawTerm))
    → ((P : ℕ → Type 0) (g h : GoalOver RawTerm) → EachFree P g → EachFree P h → EachFree P (make g h)) → ((g h : GoalOver RawTerm) → brought (make g h) ≡ brought g ++ brought h)
    → IsGoalDone s before (first before) → IsGoalDone s (first before).1 (second (first before).1) → IsGoalDone s before (in_order make first second before)
joined-done s before make first second join brings h k =
    let g = (first before).0 in
    let between = (first before).1 in
    let g' = (second between).0 in
    let after = (second between).1 in
    let both_brought = sym (brings g g') in
    record {
      grows = grows-then before between after h.grows k.grows;
      known = join (IsKnown s after) g g' (each_free-on (IsKnown s between) (IsKnown s after) (grows_known s between after k.grows) g h.known) k.known;
      ascends = subst (Ascends (length before)) both_brought (ascends-append (length before) (length between) (grows_length before between h.grows) (brought g) (brought g') h.ascends h.below k.ascends);
      below = subst (AreBelow (length after)) both_brought (below-append (length after) (length between) (grows_length between after k.grows) (brought g) (brought g') h.below k.below);
      bound = subst (AreBound after) both_brought (bound-append between after k.grows (brought g) (brought g') h.bound k.bound);
    }

regroup : (s : Scope) (name : Name) (m : ℕ) (found : Found) (n : ℕ) → IsKnown ((name, m) ∷ s) found n → (n ≡ m) ⊎ IsKnown s found n
regroup s name m found n (inl (inl e)) = inl e
regroup s name m found n (inl (inr h)) = inr (inl h)
regroup s name m found n (inr h) = inr (inr h)

bring-length : (before : Found) (i : Identifier) → length (before ++ i ∷ []) ≡ suc (length before)
bring-length before i = length-append before (i ∷ []) ∙ (let e : length before + 1 ≡ suc (length before) = omega arith in e)

pub goal-done : (d : Declared) (s : Scope) (g : Goal) (found : Found) → IsGoalDone s found (resolved_goal d s g found)
goal-done d s (goals.Atom w ts) found = let k = terms-done d s ts found in record { grows = k.grows; known = k.each_known; ascends = tt; below = tt; bound = tt }
goal-done d s (goals.Equation t u) found =
    let k = in_order-done Each Each EachFree each-on equal (λ P a b h k. (h, k)) s found (resolved_term d s t) (resolved_term d s u) (term-done d s t found) (term-done d s u (resolved_term d s t found).1) in
    record { grows = k.grows; known = k.each_known; ascends = tt; below = tt; bound = tt }
goal-done d s (goals.Freshness t u) found =
    let k = in_order-done Each Each EachFree each-on fresh (λ P a b h k. (h, k)) s found (resolved_term d s t) (resolved_term d s u) (term-done d s t found) (term-done d s u (resolved_term d s t found).1) in
    record { grows = k.grows; known = k.each_known; ascends = tt; below = tt; bound = tt }
goal-done d s (goals.Both g h) found =
    joined-done s found both (resolved_goal d s g) (resolved_goal d s h) (λ P a b p q. (p, q)) (λ a b. refl) (goal-done d s g found) (goal-done d s h (resolved_goal d s g found).1)
goal-done d s (goals.Either g h) found =
    joined-done s found either (resolved_goal d s g) (resolved_goal d s h) (λ P a b p q. (p, q)) (λ a b. refl) (goal-done d s g found) (goal-done d s h (resolved_goal d s g found).1)
goal-done d s (goals.Some_variable w g) found =
    let one = bound_one (OfVar w) in
    let more = found ++ one ∷ [] in
    let inner = resolved_goal d ((OfVar w, length found) ∷ s) g more in
    let k = goal-done d ((OfVar w, length found) ∷ s) g more in
    let long : length more ≤ length inner.1 = grows_length more inner.1 k.grows in
    let new_length : length more ≡ suc (length found) = bring-length found one in
    record {
      grows = grows-then found more inner.1 (record { extra = one ∷ []; grown = refl }) k.grows;
      known = each_free-on (IsKnown ((OfVar w, length found) ∷ s) inner.1) (λ n. (n ≡ length found) ⊎ IsKnown s inner.1 n) (regroup s (OfVar w) (length found) inner.1) inner.0 k.known;
      ascends = ((omega arith), subst (λ n. Ascends n (brought inner.0)) new_length k.ascends);
      below = ((omega arith), k.below);
      bound = (grows_at true more inner.1 k.grows (length found) (is_at-end found one), k.bound);
    }
goal-done d s (goals.New_name w g) found =
    let one = bound_one (OfWord w) in
    let more = found ++ one ∷ [] in
    let inner = resolved_goal d ((OfWord w, length found) ∷ s) g more in
    let k = goal-done d ((OfWord w, length found) ∷ s) g more in
    let long : length more ≤ length inner.1 = grows_length more inner.1 k.grows in
    let new_length : length more ≡ suc (length found) = bring-length found one in
    record {
      grows = grows-then found more inner.1 (record { extra = one ∷ []; grown = refl }) k.grows;
      known = each_free-on (IsKnown ((OfWord w, length found) ∷ s) inner.1) (λ n. (n ≡ length found) ⊎ IsKnown s inner.1 n) (regroup s (OfWord w) (length found) inner.1) inner.0 k.known;
      ascends = ((omega arith), subst (λ n. Ascends n (brought inner.0)) new_length k.ascends);
      below = ((omega arith), k.below);
      bound = (grows_at true more inner.1 k.grows (length found) (is_at-end found one), k.bound);
    }

pub body-done : (d : Declared) (body : Option Goal) (found : Found) → IsGoalDone [] found (resolved_body d body found)
body-done d None found = record { grows = grows-same found; known = tt; ascends = tt; below = tt; bound = tt }
body-done d (Some g) found = goal-done d [] g found
