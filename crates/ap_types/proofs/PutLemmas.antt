-- What tables can't take in, and entries that they take in, as the program puts them there.
use Rattle.std.proofs.Common.{◌≡◌, ◌<◌, ◌≤◌, ◌∙◌, ℕ, Bool, true, false, List, length, set, Option, Some, None, refl, sym, ap, subst, arith}
use Rattle.std.specs.Prelude.{◌&&◌, nat_lt, if◌then◌else◌}
use Rattle.std.proofs.lemmas.Bool.Decides.{nat_tests}
use Rattle.ap_defs.specs.Types.{TypeShape, hole, unit, names, base, pair, list, abs}
use Rattle.ap_types.specs.declared.nodes.Node.{Node}
use Rattle.ap_types.specs.Solving.{shape_at}
use Rattle.ap_types.specs.Triangular.{layer_of, shapes_of_nodes}
use Rattle.ap_types.specs.Growing.{is_same, is_hole, is_flat, is_below, can_stand, is_open_hole, put_at, put_hole, first_table, with_same, so_far, with_equation}
use Rattle.ap_types.proofs.TableLemmas.{length_table, table_set}
use Rattle.ap_types.proofs.GrowLemmas.{same_shapes}

is_lt : (i j : ℕ) → i < j → nat_lt i j ≡ true
is_lt i j l = grind (arith, nat_tests)

not_lt : (i j : ℕ) → j ≤ i → nat_lt i j ≡ false
not_lt i j l = grind (arith, nat_tests)

-- What a table can't take in: a shape with parts that are no holes.
no_self : (t : TypeShape) → is_flat t ≡ false → is_same t t ≡ false
no_self (hole x) h = absurd (cc)
no_self unit h = absurd (cc)
no_self (names s) h = absurd (cc)
no_self (base d) h = absurd (cc)
no_self (pair t u) h = refl
no_self (list t) h = refl
no_self (abs t u) h = refl

same_unflat : (e t : TypeShape) → is_flat t ≡ false → (b : Bool) → is_same e t ≡ b → b ≡ false
same_unflat e t h false p = refl
same_unflat e t h true p =
    let q : is_same t t ≡ true = subst (λ (s : TypeShape). is_same s t ≡ true) (same_shapes e t p) p in
    let r = no_self t h in
    cc

below_hole : (n : ℕ) (t : TypeShape) → is_hole t ≡ false → is_below n t ≡ false
below_hole n (hole x) h = absurd (cc)
below_hole n unit h = refl
below_hole n (names s) h = refl
below_hole n (base d) h = refl
below_hole n (pair t u) h = refl
below_hole n (list t) h = refl
below_hole n (abs t u) h = refl

and_none : (a b : Bool) → b ≡ false → (a && b) ≡ false
and_none true b e = e
and_none false b e = refl

below_two : (n : ℕ) (t u : TypeShape) → (b c : Bool) → is_hole t ≡ b → is_hole u ≡ c → (b && c) ≡ false → (is_below n t && is_below n u) ≡ false
below_two n t u false c p q h = let e = below_hole n t p in rw e refl
below_two n t u true false p q h = let e = below_hole n u q in and_none (is_below n t) (is_below n u) e
below_two n t u true true p q h = absurd (cc)

stand_unflat : (n x : ℕ) (t : TypeShape) → is_flat t ≡ false → can_stand n x t ≡ false
stand_unflat n x (hole y) h = absurd (cc)
stand_unflat n x unit h = absurd (cc)
stand_unflat n x (names s) h = absurd (cc)
stand_unflat n x (base d) h = absurd (cc)
stand_unflat n x (pair t u) h = below_two n t u (is_hole t) (is_hole u) refl refl h
stand_unflat n x (list t) h = below_hole n t h
stand_unflat n x (abs t u) h = below_two n t u (is_hole t) (is_hole u) refl refl h

put_none : (ts us : List TypeShape) (b c d e : Bool) → c ≡ false → e ≡ false → (if b then (if c then Some ts else if d && e then Some us else None) else None) ≡ None
put_none ts us false c d e p q = refl
put_none ts us true false true false p q = refl
put_none ts us true false false e p q = refl
put_none ts us true true d e p q = absurd (cc)
put_none ts us true false true true p q = absurd (cc)

pub put_unflat : (ts : List TypeShape) (t u : TypeShape) → is_flat u ≡ false → put_hole ts t u ≡ None
put_unflat ts (hole x) u h =
    put_none ts (set ts x u) (nat_lt x (length ts)) (is_same (shape_at ts x) u) (is_open_hole x (shape_at ts x)) (can_stand (length ts) x u)
    (same_unflat (shape_at ts x) u h (is_same (shape_at ts x) u) refl) (stand_unflat (length ts) x u h)
put_unflat ts unit u h = refl
put_unflat ts (names s) u h = refl
put_unflat ts (base d) u h = refl
put_unflat ts (pair t v) u h = refl
put_unflat ts (list t) u h = refl
put_unflat ts (abs t v) u h = refl

pub unflat_put : (ts : List TypeShape) (t u : TypeShape) → is_flat t ≡ false → put_hole ts t u ≡ None
unflat_put ts (hole x) u h = absurd (cc)
unflat_put ts unit u h = refl
unflat_put ts (names s) u h = refl
unflat_put ts (base d) u h = refl
unflat_put ts (pair t v) u h = refl
unflat_put ts (list t) u h = refl
unflat_put ts (abs t v) u h = refl

unflat_left : (t u : TypeShape) → is_flat t ≡ false → is_same t u ≡ false
unflat_left (hole x) u h = absurd (cc)
unflat_left unit u h = absurd (cc)
unflat_left (names s) u h = absurd (cc)
unflat_left (base d) u h = absurd (cc)
unflat_left (pair t v) u h = refl
unflat_left (list t) u h = refl
unflat_left (abs t v) u h = refl

pub no_equation_left : (ts : List TypeShape) (t u : TypeShape) → is_flat (so_far ts t) ≡ false → with_equation ts t u ≡ None
unfolding with_equation
no_equation_left ts t u h =
    let a = unflat_left (so_far ts t) u h in
    let b = unflat_put ts (so_far ts t) u h in
    let c = put_unflat ts u (so_far ts t) h in
    rw (a, b, c) refl

pub no_equation_right : (ts : List TypeShape) (t u : TypeShape) → is_flat u ≡ false → with_equation ts t u ≡ None
unfolding with_equation
no_equation_right ts t u h =
    let a = same_unflat (so_far ts t) u h (is_same (so_far ts t) u) refl in
    let b = put_unflat ts (so_far ts t) u h in
    let c = unflat_put ts u (so_far ts t) h in
    rw (a, b, c) refl

-- what is said of the left shape so far is put beside the right one
pub equation_by : (ts : List TypeShape) (t e u v : TypeShape) (o : Option (List TypeShape)) → e ≡ so_far ts t → v ≡ u → with_same ts e v ≡ o → with_equation ts t u ≡ o
unfolding with_equation
equation_by ts t e u v o i j k = subst (λ (s : TypeShape). with_same ts s u ≡ o) i (subst (λ (w : TypeShape). with_same ts e w ≡ o) j k)

-- An entry is put at a place.
pub put_past : (ts : List TypeShape) (x : ℕ) (u : TypeShape) → length ts ≤ x → put_hole ts (hole x) u ≡ None
put_past ts x u l = let a = not_lt x (length ts) l in rw a refl

pub put_kept : (ts : List TypeShape) (x : ℕ) (u e : TypeShape) → x < length ts → e ≡ shape_at ts x → is_same e u ≡ true → put_hole ts (hole x) u ≡ Some ts
put_kept ts x u e l i p =
    let a = is_lt x (length ts) l in
    let b : is_same (shape_at ts x) u ≡ true = subst (λ (s : TypeShape). is_same s u ≡ true) i p in
    rw (a, b) refl

pub put_set : (ts : List TypeShape) (x : ℕ) (u e : TypeShape) → x < length ts → e ≡ shape_at ts x → is_same e u ≡ false → is_open_hole x e ≡ true → can_stand (length ts) x u ≡ true
    → put_hole ts (hole x) u ≡ Some (set ts x u)
put_set ts x u e l i p q r =
    let a = is_lt x (length ts) l in
    let b : is_same (shape_at ts x) u ≡ false = subst (λ (s : TypeShape). is_same s u ≡ false) i p in
    let c : is_open_hole x (shape_at ts x) ≡ true = subst (λ (s : TypeShape). is_open_hole x s ≡ true) i q in
    rw (a, b, c, r) refl

pub put_not : (ts : List TypeShape) (x : ℕ) (u e : TypeShape) → x < length ts → e ≡ shape_at ts x → is_same e u ≡ false → (is_open_hole x e && can_stand (length ts) x u) ≡ false
    → put_hole ts (hole x) u ≡ None
put_not ts x u e l i p q =
    let a = is_lt x (length ts) l in
    let b : is_same (shape_at ts x) u ≡ false = subst (λ (s : TypeShape). is_same s u ≡ false) i p in
    let c : (is_open_hole x (shape_at ts x) && can_stand (length ts) x u) ≡ false = subst (λ (s : TypeShape). (is_open_hole x s && can_stand (length ts) x u) ≡ false) i q in
    rw (a, b, c) refl

-- The same for the entries of a table.
pub entry_past : (ns : List Node) (x : ℕ) (n : Node) → length ns ≤ x → put_hole (shapes_of_nodes ns) (hole x) (layer_of n) ≡ None
entry_past ns x n l = let long = length_table ns in put_past (shapes_of_nodes ns) x (layer_of n) (omega (arith, l, long))

pub entry_kept : (ns : List Node) (x : ℕ) (n e : Node) → x < length ns → layer_of e ≡ shape_at (shapes_of_nodes ns) x → is_same (layer_of e) (layer_of n) ≡ true
    → put_hole (shapes_of_nodes ns) (hole x) (layer_of n) ≡ Some (shapes_of_nodes ns)
entry_kept ns x n e l i p = let long = length_table ns in put_kept (shapes_of_nodes ns) x (layer_of n) (layer_of e) (omega (arith, l, long)) i p

pub entry_set : (ns : List Node) (x : ℕ) (n e : Node) → x < length ns → layer_of e ≡ shape_at (shapes_of_nodes ns) x → is_same (layer_of e) (layer_of n) ≡ false → is_open_hole x (layer_of e) ≡ true
    → can_stand (length ns) x (layer_of n) ≡ true → put_hole (shapes_of_nodes ns) (hole x) (layer_of n) ≡ Some (shapes_of_nodes (set ns x n))
entry_set ns x n e l i p q r =
    let long = length_table ns in
    let s : can_stand (length (shapes_of_nodes ns)) x (layer_of n) ≡ true = subst (λ k. can_stand k x (layer_of n) ≡ true) (sym long) r in
    put_set (shapes_of_nodes ns) x (layer_of n) (layer_of e) (omega (arith, l, long)) i p q s ∙ ap Some (sym (table_set ns x n))

pub entry_closed : (ns : List Node) (x : ℕ) (n e : Node) → x < length ns → layer_of e ≡ shape_at (shapes_of_nodes ns) x → is_same (layer_of e) (layer_of n) ≡ false → is_open_hole x (layer_of e) ≡ false
    → put_hole (shapes_of_nodes ns) (hole x) (layer_of n) ≡ None
entry_closed ns x n e l i p q =
    let long = length_table ns in
    let b : (is_open_hole x (layer_of e) && can_stand (length (shapes_of_nodes ns)) x (layer_of n)) ≡ false = rw q refl in
    put_not (shapes_of_nodes ns) x (layer_of n) (layer_of e) (omega (arith, l, long)) i p b

pub entry_not : (ns : List Node) (x : ℕ) (n e : Node) → x < length ns → layer_of e ≡ shape_at (shapes_of_nodes ns) x → is_same (layer_of e) (layer_of n) ≡ false
    → can_stand (length ns) x (layer_of n) ≡ false → put_hole (shapes_of_nodes ns) (hole x) (layer_of n) ≡ None
entry_not ns x n e l i p q =
    let long = length_table ns in
    let s : can_stand (length (shapes_of_nodes ns)) x (layer_of n) ≡ false = subst (λ k. can_stand k x (layer_of n) ≡ false) (sym long) q in
    let b : (is_open_hole x (layer_of e) && can_stand (length (shapes_of_nodes ns)) x (layer_of n)) ≡ false = and_none (is_open_hole x (layer_of e)) (can_stand (length (shapes_of_nodes ns)) x (layer_of n)) s in
    put_not (shapes_of_nodes ns) x (layer_of n) (layer_of e) (omega (arith, l, long)) i p b

-- One entry is put for the other.
pub with_kept : (ts : List TypeShape) (t u : TypeShape) → is_same t u ≡ true → with_same ts t u ≡ Some ts
with_kept ts t u e = rw e refl

pub with_first : (ts us : List TypeShape) (t u : TypeShape) → is_same t u ≡ false → put_hole ts t u ≡ Some us → with_same ts t u ≡ Some us
with_first ts us t u e p = rw (e, p) refl

pub with_second : (ts : List TypeShape) (t u : TypeShape) (o : Option (List TypeShape)) → is_same t u ≡ false → put_hole ts t u ≡ None → put_hole ts u t ≡ o → with_same ts t u ≡ o
with_second ts t u o e p q = let r : with_same ts t u ≡ put_hole ts u t = rw (e, p) refl in r ∙ q
