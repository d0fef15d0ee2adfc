-- What is read off the places of a table, by what is read off their parts.
use Rattle.std.proofs.Common.{◌≡◌, ◌<◌, ◌≤◌, ◌+◌, ◌⊎◌, ◌∙◌, ℕ, zero, suc, Bool, true, false, ◌||◌, List, [], ◌∷◌, ◌++◌, length, get_or, set, take, refl, sym, ap, subst, inl, inr, arith, Option, Some, None, Result, Ok, Err}
use Rattle.std.specs.Prelude.{◌==◌, min, IfOk, IfErr, IfSome}
use Rattle.std.proofs.Math.Seq.{get_or-append_seam}
use Rattle.std.proofs.lemmas.Bool.Decides.{eqb_tells}
use Rattle.std.proofs.lemmas.List.{get_or-set_same, get_or-set_other, get_or_append_left, get_or_default, get_or-take, length-append, length-take}
use Rattle.ap_defs.specs.Types.{TypeShape, hole}
use Rattle.ap_types.specs.declared.nodes.Node.{Node}
use Rattle.ap_types.specs.declared.nodes.Node.TheVariants as nodes
use Rattle.ap_types.specs.declared.solved.Solved.{Solved}
use Rattle.ap_types.specs.Equations.{Filling, filled}
use Rattle.ap_types.specs.Solving.{shape_at}
use Rattle.ap_types.specs.Triangular.{layer_of, shapes_of_nodes, value_of, assignment_of, IsSettledTable}
use Rattle.ap_types.specs.Walking.{is_part, IsPart, AreInOrder}
use Rattle.ap_types.specs.Entries.{IsEntryOf}
use Rattle.ap_types.proofs.TableLemmas.{at_past, layer_at}
use Rattle.ap_types.proofs.SettledLemmas.{open_value, past_value, length_values, value_at}
use Rattle.ap_kinds.specs.declared.read_types.Declared.{Declared}
use Rattle.ap_kinds.specs.declared.read_types.TypeRead.{TypeRead}
use Rattle.ap_kinds.specs.ReadTypes.{IsRead, IsReadBy, marks_of, AreReadAt, AreAllRead, AreFirstRead, read_at, open_read}

below_or_past : (i j : ℕ) → (i < j) ⊎ (j ≤ i)
below_or_past i j = grind arith

below_or_here : (x i : ℕ) → x < i + 1 → (x < i) ⊎ (x ≡ i)
below_or_here x i k = grind arith

equal_or_not : (x y : ℕ) → (x ≡ y) ⊎ (x ≡ y → ⊥)
equal_or_not x y = elim (eqb_tells x y) [ inl w ↦ inl w.1 | inr w ↦ inr w.1 ]

here : (n : ℕ) → (n == n) ≡ true
here n = elim (eqb_tells n n) [ inl w ↦ w.0 | inr w ↦ absurd (w.1 refl) ]

or_left : (a b : Bool) → a ≡ true → (a || b) ≡ true
or_left a b e = ap (λ x. x || b) e

or_right : (a b : Bool) → b ≡ true → (a || b) ≡ true
or_right true b e = refl
or_right false b e = e

-- what stands at a place
module _ (ns : List Node) (x : ℕ) (settled : IsSettledTable (shapes_of_nodes ns)) (within : x < length ns) where
  entry : (n : Node) → get_or ns x (nodes.Place 0) ≡ n → layer_of n ≡ shape_at (shapes_of_nodes ns) x
  entry n e = sym (ap layer_of e) ∙ layer_at ns x within

  pub place_value : (n : Node) → get_or ns x (nodes.Place 0) ≡ n → value_of (shapes_of_nodes ns) x ≡ filled (value_of (shapes_of_nodes ns)) (layer_of n)
  place_value n e = settled.fits x ∙ ap (filled (value_of (shapes_of_nodes ns))) (sym (entry n e))

  pub open_here : (y : ℕ) → get_or ns x (nodes.Place 0) ≡ nodes.Place y → y ≡ x → value_of (shapes_of_nodes ns) x ≡ hole x
  open_here y e same = open_value (shapes_of_nodes ns) x (sym (entry (nodes.Place y) e) ∙ ap hole same)

  part : (n : Node) (c : ℕ) → get_or ns x (nodes.Place 0) ≡ n → is_part x (layer_of n) c ≡ true → IsPart (shapes_of_nodes ns) x c
  part n c e h = sym (ap (λ t. is_part x t c) (entry n e)) ∙ h

  pub link_part : (y : ℕ) → get_or ns x (nodes.Place 0) ≡ nodes.Place y → (y ≡ x → ⊥) → IsPart (shapes_of_nodes ns) x y
  link_part y e d = part (nodes.Place y) y e (elim (eqb_tells x y) [ inl w ↦ absurd (d (sym w.1)) | inr w ↦ rw w.0 (here y) ])

  pub list_part : (y : ℕ) → get_or ns x (nodes.Place 0) ≡ nodes.List y → IsPart (shapes_of_nodes ns) x y
  list_part y e = part (nodes.List y) y e (here y)

  pub pair_left : (y z : ℕ) → get_or ns x (nodes.Place 0) ≡ nodes.Pair y z → IsPart (shapes_of_nodes ns) x y
  pair_left y z e = part (nodes.Pair y z) y e (or_left (y == y) (y == z) (here y))

  pub pair_right : (y z : ℕ) → get_or ns x (nodes.Place 0) ≡ nodes.Pair y z → IsPart (shapes_of_nodes ns) x z
  pair_right y z e = part (nodes.Pair y z) z e (or_right (z == y) (z == z) (here z))

  pub abs_left : (y z : ℕ) → get_or ns x (nodes.Place 0) ≡ nodes.Abs y z → IsPart (shapes_of_nodes ns) x y
  abs_left y z e = part (nodes.Abs y z) y e (or_left (y == y) (y == z) (here y))

  pub abs_body : (y z : ℕ) → get_or ns x (nodes.Place 0) ≡ nodes.Abs y z → IsPart (shapes_of_nodes ns) x z
  abs_body y z e = part (nodes.Abs y z) z e (or_right (z == y) (z == z) (here z))

-- the shape of a hole
pub hole_value : (s : Solved) (x : ℕ) → x < s.holes → shape_at (assignment_of s) x ≡ value_of (shapes_of_nodes s.nodes.items) x
hole_value s x l = value_at (shapes_of_nodes s.nodes.items) s.holes x l

pub hole_past : (s : Solved) (x : ℕ) → s.holes ≤ x → shape_at (assignment_of s) x ≡ hole x
hole_past s x l = let long = length_values (shapes_of_nodes s.nodes.items) 0 s.holes in at_past (assignment_of s) x (omega arith)

pub hole_unread : (s : Solved) (x : ℕ) → x < s.holes → length (shapes_of_nodes s.nodes.items) ≤ x → shape_at (assignment_of s) x ≡ hole x
hole_unread s x l b = hole_value s x l ∙ past_value (shapes_of_nodes s.nodes.items) x b

-- The places that were read so far are the first ones in order.
pub record AreReadSoFar (d : Declared) (ts : List TypeShape) (order : List ℕ) (i : ℕ) (rs : List TypeRead) : Type 0 where
  pub as_many : length rs ≡ length ts
  pub each : (k : ℕ) → k < i → k < length order → IsReadBy d (value_of ts (get_or order k 0)) (read_at rs (get_or order k 0))

pub none_read : (d : Declared) (ts : List TypeShape) (order : List ℕ) (rs : List TypeRead) → length rs ≡ length ts → AreReadSoFar d ts order 0 rs
none_read d ts order rs e = record { as_many = e; each = λ k l b. absurd (omega (arith, l)) }

-- the parts of the next place were read
pub parts_read : (d : Declared) (ts : List TypeShape) (order : List ℕ) (i : ℕ) (rs : List TypeRead) → AreInOrder ts order → AreReadSoFar d ts order i rs → i < length order
    → AreReadAt d ts rs (IsPart ts (get_or order i 0))
parts_read d ts order i rs o h l c p =
    let j = o.behind i c l p in
    let b = j.1 in
    let w : get_or order j.0 0 < length ts = o.within j.0 (omega (arith, b, l)) in
    let e = j.2 in
    let m = h.as_many in
    (subst (λ x. x < length rs) e (omega (arith, w, m)), subst (λ x. IsReadBy d (value_of ts x) (read_at rs x)) e (h.each j.0 b (omega (arith, b, l))))

length_set : (rs : List TypeRead) (x : ℕ) (r : TypeRead) → length (set rs x r) ≡ length rs
length_set [] x r = refl
length_set (s ∷ rs) zero r = refl
length_set (s ∷ rs) (suc x) r = ap suc (length_set rs x r)

-- one more place was read
pub one_read : (d : Declared) (ts : List TypeShape) (order : List ℕ) (i : ℕ) (rs : List TypeRead) (r : TypeRead) → AreInOrder ts order → AreReadSoFar d ts order i rs → i < length order
    → IsReadBy d (value_of ts (get_or order i 0)) r → AreReadSoFar d ts order (i + 1) (set rs (get_or order i 0) r)
one_read d ts order i rs r o h l v = record {
  as_many = length_set rs (get_or order i 0) r ∙ h.as_many;
  each = λ k b c.
      let x = get_or order i 0 in
      let w = o.within i l in
      let m = h.as_many in
      let now : IsReadBy d (value_of ts x) (read_at (set rs x r) x) = subst (λ q. IsReadBy d (value_of ts x) q) (sym (get_or-set_same rs x r open_read (omega (arith, w, m)))) v in
      elim (equal_or_not (get_or order k 0) x) [
        | inl e ↦ subst (λ y. IsReadBy d (value_of ts y) (read_at (set rs x r) y)) (sym e) now
        | inr n ↦
            let k_below : k < i = elim (below_or_here k i b) [ inl a ↦ a | inr e ↦ absurd (n (ap (λ j. get_or order j 0) e)) ] in
            subst (λ q. IsReadBy d (value_of ts (get_or order k 0)) q) (sym (get_or-set_other rs x (get_or order k 0) r open_read n)) (h.each k k_below c)
      ];
}

-- all were read
pub all_read : (d : Declared) (ts : List TypeShape) (order : List ℕ) (i : ℕ) (rs : List TypeRead) → AreInOrder ts order → AreReadSoFar d ts order i rs → length order ≤ i → AreAllRead d ts rs
all_read d ts order i rs o h l = record {
  as_many = h.as_many;
  each = λ x b. let k = o.whole x b in let c = k.1 in subst (λ y. IsReadBy d (value_of ts y) (read_at rs y)) k.2 (h.each k.0 (omega (arith, c, l)) c);
}

-- What stands for a place.
pub entry_open : (f : Filling) (x y : ℕ) (n : Node) → IsEntryOf f x n → n ≡ nodes.Place y → f x ≡ hole y
entry_open f x y n h e = h.stands ∙ ap (λ m. filled f (layer_of m)) e ∙ h.open_place y e

pub entry_as : (f : Filling) (x : ℕ) (n m : Node) → IsEntryOf f x n → n ≡ m → f x ≡ filled f (layer_of m)
entry_as f x n m h e = h.stands ∙ ap (λ k. filled f (layer_of k)) e

-- The same shape is read the same.
pub read_as : (d : Declared) (t u : TypeShape) (r : TypeRead) → t ≡ u → IsReadBy d u r → IsReadBy d t r
read_as d t u r e h = subst (λ v. IsReadBy d v r) (sym e) h

-- What a call gives.
pub given : {T E : Type 0} {P Q : T → Type 0} (res : Result T E) → ((r : T) → P r → Q r) → IfOk res P → IfOk res Q
given (Ok r) f h = f r h
given (Err e) f h = tt

pub given_err : {T E : Type 0} {P Q : E → Type 0} (res : Result T E) → ((e : E) → P e → Q e) → IfErr res P → IfErr res Q
given_err (Ok r) f h = tt
given_err (Err e) f h = f e h

pub given_some : {T : Type 0} {P Q : T → Type 0} (res : Option T) → ((r : T) → P r → Q r) → IfSome res P → IfSome res Q
given_some (Some r) f h = f r h
given_some None f h = tt

-- what the program reads at an index
pub read_index : (d : Declared) (t : TypeShape) (rs : List TypeRead) (x : ℕ) (r : TypeRead) → x < length rs → r ≡ get_or rs x r → IsReadBy d t (read_at rs x) → IsReadBy d t r
read_index d t rs x r l e h = subst (λ q. IsReadBy d t q) (sym (e ∙ get_or_default rs x r open_read l)) h

-- the first holes, one after the other
pub no_first : (d : Declared) (ts : List TypeShape) (rs : List TypeRead) → rs ≡ [] → AreFirstRead d 0 ts rs
no_first d ts rs e = record { as_many = ap length e; each = λ x l. absurd (omega (arith, l)) }

last_there : (x n : ℕ) → x < n + 1 → (x < n) ⊎ (x ≡ n)
last_there x n l = grind arith

pub one_first : (d : Declared) (ts : List TypeShape) (rs new : List TypeRead) (r : TypeRead) (x : ℕ) → AreFirstRead d x ts rs → IsReadBy d (shape_at ts x) r → new ≡ rs ++ r ∷ [] → AreFirstRead d (x + 1) ts new
one_first d ts rs new r x h k e = subst (AreFirstRead d (x + 1) ts) (sym e) (record {
  as_many = let m = h.as_many in length-append rs (r ∷ []) ∙ ap (λ n. n + 1) m;
  each = λ y l. elim (last_there y x l) [
    | inl b ↦ let m = h.as_many in subst (IsReadBy d (shape_at ts y)) (sym (get_or_append_left rs (r ∷ []) open_read y (omega (arith, b, m)))) (h.each y b)
    | inr s ↦
        let m = h.as_many in
        let at : read_at (rs ++ r ∷ []) y ≡ r = ap (λ n. read_at (rs ++ r ∷ []) n) (s ∙ sym m) ∙ get_or-append_seam rs r [] open_read in
        subst (λ q. IsReadBy d (shape_at ts y) q) (sym at) (subst (λ n. IsReadBy d (shape_at ts n) r) (sym s) k)
  ];
})

pub kept_past : (holes count n k m : ℕ) → k ≡ min holes count → m ≡ min k n → m < count → (holes ≤ m) ⊎ (n ≤ m)
kept_past holes count n k m e f l = elim (below_or_past k n) [ inl b ↦ inl (omega arith) | inr b ↦ inr (omega arith) ]

pub past_more : (holes n x y : ℕ) → y ≡ x + 1 → (holes ≤ x) ⊎ (n ≤ x) → (holes ≤ y) ⊎ (n ≤ y)
past_more holes n x y e h = elim h [ inl l ↦ inl (omega arith) | inr l ↦ inr (omega arith) ]

pub push_length : {A : Type 0} (rs new : List A) (r : A) → new ≡ rs ++ r ∷ [] → length new ≡ length rs + 1
push_length rs new r e = ap length e ∙ length-append rs (r ∷ [])

min_below : (x k n : ℕ) → x < min k n → (x < k) × (x < n)
min_below x k n l = (omega arith, omega arith)

-- The first places are the holes, and past them nothing is said.
pub taken_first : (d : Declared) (s : Solved) (rs new : List TypeRead) (k : ℕ) → k ≤ s.holes → new ≡ take k rs → AreAllRead d (shapes_of_nodes s.nodes.items) rs → AreFirstRead d (length new) (assignment_of s) new
taken_first d s rs new k l e h = subst (λ (vs : List TypeRead). AreFirstRead d (length vs) (assignment_of s) vs) (sym e) (record {
  as_many = refl;
  each = λ x b.
      let m = length-take k rs in
      let many = h.as_many in
      let short = min_below x k (length rs) (subst (λ n. x < n) m b) in
      let same : read_at (take k rs) x ≡ read_at rs x = get_or-take k rs x open_read short.0 in
      let value = hole_value s x (omega (arith, short.0, l)) in
      subst (λ q. IsReadBy d (shape_at (assignment_of s) x) q) (sym same) (read_as d (shape_at (assignment_of s) x) (value_of (shapes_of_nodes s.nodes.items) x) (read_at rs x) value (h.each x (omega (arith, short.1, many))));
})

pub past_open : (d : Declared) (s : Solved) (rs : List TypeRead) (x : ℕ) (r : TypeRead) → AreAllRead d (shapes_of_nodes s.nodes.items) rs → (s.holes ≤ x) ⊎ (length rs ≤ x)
    → ((n m : ℕ) (p : ℕ → Bool) (y : ℕ) → IsRead n m p (hole y) r) → IsReadBy d (shape_at (assignment_of s) x) r
past_open d s rs x r h p o =
    let unread = o d.name_types d.data_types (marks_of d) x in
    elim p [
      | inl l ↦ read_as d (shape_at (assignment_of s) x) (hole x) r (hole_past s x l) unread
      | inr l ↦ elim (below_or_past x s.holes) [
        | inl b ↦ let many = h.as_many in read_as d (shape_at (assignment_of s) x) (hole x) r (hole_unread s x b (omega (arith, l, many))) unread
        | inr b ↦ read_as d (shape_at (assignment_of s) x) (hole x) r (hole_past s x b) unread
      ]
    ]
