-- What is kept of each number and beside the trail, as changes are made and undone.
use Rattle.std.proofs.Common.{◌≡◌, ◌<◌, ◌≤◌, ◌+◌, ◌-◌, ◌^◌, ℕ, suc, min, Bool, true, false, ◌||◌, List, [], ◌∷◌, ◌++◌, length, map, take, get_or, refl, sym, ap, ap₂, ◌∙◌, subst, arith, append_assoc, true≢false}
use Rattle.std.specs.Prelude.{◌==◌, nat_lt, if◌then◌else◌, Option, Some, None, Vec, is_some}
use Rattle.std.specs.Global.{Global}
use Rattle.std.proofs.lemmas.Bool.Decides.{nat_tests}
use Rattle.std.proofs.lemmas.List.{length-append, length-map, length-take-le, map-append, take-map, take_more}
use Rattle.ap_defs.specs.Renaming.{IsBelow}
use Rattle.ap_defs.specs.Terms.{NominalTerm}
use Rattle.ap_defs.specs.Resolution.{kinds_of}
use Rattle.ap_defs.specs.Types.{NominalKind, NominalLocal, kind_of, local_of, locals_of}
use Rattle.ap_defs.specs.declared.goals.Local.{Local}
use Rattle.ap_defs.specs.declared.terms.Cond.{Cond}
use Rattle.ap_defs.specs.declared.terms.Var.{Var}
use Rattle.ap_perm.specs.Lookups as lookups
use Rattle.ap_theory.proofs.BooleanLemmas.{or_if_left, or_if_right}
use Rattle.ap_theory.proofs.TermLemmas.{number_same, same_number}
use Rattle.ap_theory.specs.Variables.{IsUnbound}
use Rattle.ap_store.specs.Changes.{AreChanges, Change, Made, Bound, Added, Taken, IsChange, after, empty}
use Rattle.ap_store.specs.Slots.{AreKeptBelow, IsStored, binds, bound_in, changes_in, count_noted, noted_change, slot_kind, term_or_unit, var_at}
use Rattle.ap_store.specs.Trails.{AreTakenHeld, IsTakenHeld, nothing_bound, nothing_held, raw_after, raw_step}
use Rattle.ap_store.specs.Triples.{AreOnUnbound, Triple}
use Rattle.ap_store.specs.declared.changes.Entry.{Entry}
use Rattle.ap_store.specs.declared.changes.Entry.TheVariants as entries
use Rattle.ap_store.specs.declared.changes.Noted.{Noted}
use Rattle.ap_store.specs.declared.changes.Noted.TheVariants as notes
use Rattle.ap_store.specs.declared.slots.Slot.{Slot}
use Rattle.ap_store.proofs.HeldLemmas.{kept, now}
use Rattle.ap_store.proofs.ReachLemmas.{all_kept, kept_take}
use Rattle.ap_store.proofs.SoundLemmas.{sound}
use Rattle.ap_store.proofs.StoreLemmas.{unbound_beyond}
use Rattle.ap_store.proofs.TableLemmas.{bound_in_beyond, bound_in_take}
use Rattle.ap_store.proofs.TrailLemmas.{changes_less, changes_more, linked_less, linked_more, present_more, raw_more, take_whole}

-- The changes of a trail.
-- they stand in the table by the numbers that are bound alone
changes_same : (ss us : List Slot) (es : List Entry) (ns : List Noted) → ((i : ℕ) → binds i es ≡ true → bound_in us i ≡ bound_in ss i) → changes_in us es ns ≡ changes_in ss es ns
changes_same ss us [] ns f = refl
changes_same ss us (entries.Made n ∷ es) ns f = ap (λ (cs : List Change). Made n ∷ cs) (changes_same ss us es ns f)
changes_same ss us (entries.Bound j ∷ es) ns f =
    ap₂ (λ (o : Option NominalTerm) (cs : List Change). Bound (var_at j) (term_or_unit o) ∷ cs) (f j (or_if_left (j == j) (binds j es) (same_number j j refl)))
    (changes_same ss us es ns (λ i h. f i (or_if_right (i == j) (binds i es) h)))
changes_same ss us (entries.Noted ∷ es) [] f = changes_same ss us es [] f
changes_same ss us (entries.Noted ∷ es) (n ∷ ns) f = ap (λ (cs : List Change). noted_change n ∷ cs) (changes_same ss us es ns f)

pub changes_made : (ss : List Slot) (es : List Entry) (ns : List Noted) (m : ℕ) → changes_in ss (es ++ entries.Made m ∷ []) ns ≡ changes_in ss es ns ++ Made m ∷ []
changes_made ss [] ns m = refl
changes_made ss (entries.Made n ∷ es) ns m = ap (λ (cs : List Change). Made n ∷ cs) (changes_made ss es ns m)
changes_made ss (entries.Bound j ∷ es) ns m = ap (λ (cs : List Change). Bound (var_at j) (term_or_unit (bound_in ss j)) ∷ cs) (changes_made ss es ns m)
changes_made ss (entries.Noted ∷ es) [] m = changes_made ss es [] m
changes_made ss (entries.Noted ∷ es) (n ∷ ns) m = ap (λ (cs : List Change). noted_change n ∷ cs) (changes_made ss es ns m)

pub changes_bound : (ss : List Slot) (es : List Entry) (ns : List Noted) (i : ℕ) → changes_in ss (es ++ entries.Bound i ∷ []) ns ≡ changes_in ss es ns ++ Bound (var_at i) (term_or_unit (bound_in ss i)) ∷ []
changes_bound ss [] ns i = refl
changes_bound ss (entries.Made n ∷ es) ns i = ap (λ (cs : List Change). Made n ∷ cs) (changes_bound ss es ns i)
changes_bound ss (entries.Bound j ∷ es) ns i = ap (λ (cs : List Change). Bound (var_at j) (term_or_unit (bound_in ss j)) ∷ cs) (changes_bound ss es ns i)
changes_bound ss (entries.Noted ∷ es) [] i = changes_bound ss es [] i
changes_bound ss (entries.Noted ∷ es) (n ∷ ns) i = ap (λ (cs : List Change). noted_change n ∷ cs) (changes_bound ss es ns i)

pub changes_noted : (ss : List Slot) (es : List Entry) (ns : List Noted) (d : Noted) → count_noted es ≡ length ns → changes_in ss (es ++ entries.Noted ∷ []) (ns ++ d ∷ []) ≡ changes_in ss es ns ++ noted_change d ∷ []
changes_noted ss [] [] d e = refl
changes_noted ss [] (n ∷ ns) d e = absurd (omega (arith, e))
changes_noted ss (entries.Made m ∷ es) ns d e = ap (λ (cs : List Change). Made m ∷ cs) (changes_noted ss es ns d e)
changes_noted ss (entries.Bound j ∷ es) ns d e = ap (λ (cs : List Change). Bound (var_at j) (term_or_unit (bound_in ss j)) ∷ cs) (changes_noted ss es ns d e)
changes_noted ss (entries.Noted ∷ es) [] d e = absurd (omega (arith, e))
changes_noted ss (entries.Noted ∷ es) (n ∷ ns) d e = ap (λ (cs : List Change). noted_change n ∷ cs) (changes_noted ss es ns d (omega (arith, e)))

pub changes_length : (ss : List Slot) (es : List Entry) (ns : List Noted) → count_noted es ≡ length ns → length (changes_in ss es ns) ≡ length es
changes_length ss [] ns e = refl
changes_length ss (entries.Made m ∷ es) ns e = ap suc (changes_length ss es ns e)
changes_length ss (entries.Bound j ∷ es) ns e = ap suc (changes_length ss es ns e)
changes_length ss (entries.Noted ∷ es) [] e = absurd (omega (arith, e))
changes_length ss (entries.Noted ∷ es) (n ∷ ns) e = ap suc (changes_length ss es ns (omega (arith, e)))

count_made : (es : List Entry) (m : ℕ) → count_noted (es ++ entries.Made m ∷ []) ≡ count_noted es
count_made [] m = refl
count_made (entries.Made n ∷ es) m = count_made es m
count_made (entries.Bound j ∷ es) m = count_made es m
count_made (entries.Noted ∷ es) m = ap suc (count_made es m)

count_bound : (es : List Entry) (i : ℕ) → count_noted (es ++ entries.Bound i ∷ []) ≡ count_noted es
count_bound [] i = refl
count_bound (entries.Made n ∷ es) i = count_bound es i
count_bound (entries.Bound j ∷ es) i = count_bound es i
count_bound (entries.Noted ∷ es) i = ap suc (count_bound es i)

pub count_more : (es : List Entry) → count_noted (es ++ entries.Noted ∷ []) ≡ suc (count_noted es)
count_more [] = refl
count_more (entries.Made n ∷ es) = count_more es
count_more (entries.Bound j ∷ es) = count_more es
count_more (entries.Noted ∷ es) = ap suc (count_more es)

-- what a trail binds is looked up in the table
raw_table : (ss : List Slot) (es : List Entry) (ns : List Noted) (x : Var) (b : lookups.Bound) → raw_after (changes_in ss es ns) b x ≡ (if binds x.num es then Some (term_or_unit (bound_in ss x.num)) else b x)
raw_table ss [] ns x b = refl
raw_table ss (entries.Made n ∷ es) ns x b = raw_table ss es ns x b
raw_table ss (entries.Bound j ∷ es) ns x b =
    let term : ℕ → NominalTerm = λ i. term_or_unit (bound_in ss i) in
    raw_table ss es ns x (raw_step (Bound (var_at j) (term j)) b)
    ∙ (elim (x.num == j) as (λ c. (x.num == j) ≡ c → (if binds x.num es then Some (term x.num) else (if c then Some (term j) else b x)) ≡ (if (c || binds x.num es) then Some (term x.num) else b x)) [
      | true ↦ λ e. elim (binds x.num es) as (λ d. (if d then Some (term x.num) else Some (term j)) ≡ Some (term x.num)) [ true ↦ refl | false ↦ ap (λ i. Some (term i)) (sym (number_same x.num j e)) ]
      | false ↦ λ e. refl
    ] refl)
raw_table ss (entries.Noted ∷ es) [] x b = raw_table ss es [] x b
raw_table ss (entries.Noted ∷ es) (notes.Added c ∷ ns) x b = raw_table ss es ns x b
raw_table ss (entries.Noted ∷ es) (notes.Taken y cs ∷ ns) x b = raw_table ss es ns x b

unbinds : (ss : List Slot) (es : List Entry) (ns : List Noted) (x : Var) → raw_after (changes_in ss es ns) nothing_bound x ≡ None → binds x.num es ≡ false
unbinds ss es ns x h =
    elim (binds x.num es) as (λ b. (if b then Some (term_or_unit (bound_in ss x.num)) else None) ≡ None → b ≡ false) [ true ↦ λ e. cc | false ↦ λ e. refl ] (sym (raw_table ss es ns x nothing_bound) ∙ h)

-- What is stored, where the table is what is looked up.
abbrev pub AreStored : List Slot → List Change → ℕ → Type 0
AreStored table cs reach =
    AreChanges cs empty × AreTakenHeld cs nothing_held × (length table ≡ (now cs).next) × ((x : Var) → raw_after cs nothing_bound x ≡ bound_in table x.num) × AreKeptBelow reach table

some_or_none : (o : Option NominalTerm) (b : Bool) → b ≡ is_some o → (if b then Some (term_or_unit o) else None) ≡ o
some_or_none None b e = rw e refl
some_or_none (Some t) b e = rw e refl

pub looked_up : (ss : List Slot) (es : List Entry) (ns : List Noted) (r : ℕ) → IsStored ss es ns r → (x : Var) → raw_after (changes_in ss es ns) nothing_bound x ≡ bound_in ss x.num
looked_up ss es ns r h x = raw_table ss es ns x nothing_bound ∙ some_or_none (bound_in ss x.num) (binds x.num es) (h.3 x.num)

pub stored_lookup : (ss : List Slot) (es : List Entry) (ns : List Noted) (r : ℕ) → IsStored ss es ns r → AreStored ss (changes_in ss es ns) r
stored_lookup ss es ns r h = (h.0, h.1, h.2, looked_up ss es ns r h, h.4)

pub lookup_stored : (ss : List Slot) (es : List Entry) (ns : List Noted) (r : ℕ) (cs : List Change) → changes_in ss es ns ≡ cs → AreStored ss cs r → count_noted es ≡ length ns → length ss < 2 ^ 32 → IsStored ss es ns r
lookup_stored ss es ns r cs e k n l =
    let h : AreStored ss (changes_in ss es ns) r = subst (λ (ds : List Change). AreStored ss ds r) (sym e) k in (
      h.0,
      h.1,
      h.2,
      (λ i. elim (binds i es) as (λ b. (if b then Some (term_or_unit (bound_in ss i)) else None) ≡ bound_in ss i → b ≡ is_some (bound_in ss i)) [ true ↦ λ f. ap is_some f | false ↦ λ f. ap is_some f ]
          (sym (raw_table ss es ns (var_at i) nothing_bound) ∙ h.3 (var_at i))),
      h.4,
      n,
      l,
    )

none_is : (o : Option NominalTerm) → is_some o ≡ false → o ≡ None
none_is None h = refl
none_is (Some t) h = absurd (true≢false h)

-- an unbound variable is not looked up
pub unbound_raw : (cs : List Change) (x : Var) → AreChanges cs empty → IsUnbound (now cs).bindings x → raw_after cs nothing_bound x ≡ None
unbound_raw cs x h u = none_is (raw_after cs nothing_bound x) (sym ((sound cs h).same x) ∙ u)

-- where one number changes that is unbound, the changes so far stay
pub changes_apart : (ss us : List Slot) (es : List Entry) (ns : List Noted) (x : Var) (o : Option NominalTerm) → AreChanges (changes_in ss es ns) empty → IsUnbound (now (changes_in ss es ns)).bindings x
    → ((i : ℕ) → bound_in us i ≡ (if i == x.num then o else bound_in ss i)) → changes_in us es ns ≡ changes_in ss es ns
changes_apart ss us es ns x o h u f =
    let none : binds x.num es ≡ false = unbinds ss es ns x (unbound_raw (changes_in ss es ns) x h u) in
    changes_same ss us es ns (λ i b. f i
    ∙ (elim (i == x.num) as (λ c. (i == x.num) ≡ c → (if c then o else bound_in ss i) ≡ bound_in ss i) [
      | true ↦ λ e. absurd (true≢false (sym b ∙ ap (λ (j : ℕ). binds j es) (number_same i x.num e) ∙ none))
      | false ↦ λ e. refl
    ] refl))

-- Changes that are made.
pub more_made : (ss us : List Slot) (cs : List Change) (r n : ℕ) → AreStored ss cs r → length us ≡ length ss + n → ((i : ℕ) → bound_in us i ≡ bound_in ss i) → AreKeptBelow r us → AreStored us (cs ++ Made n ∷ []) r
more_made ss us cs r n h e f k = (
  changes_more cs (Made n) empty h.0 tt,
  linked_more cs (Made n) nothing_held h.1 tt,
  e ∙ ap (λ m. m + n) h.2 ∙ ap (λ (a : Triple). a.next) (sym (present_more cs (Made n) empty)),
  (λ x. ap (λ (b : lookups.Bound). b x) (raw_more cs (Made n) nothing_bound) ∙ h.3 x ∙ sym (f x.num)),
  k,
)

pub more_bound : (ss us : List Slot) (cs : List Change) (r q : ℕ) (x : Var) (t : NominalTerm) → AreStored ss cs r → IsChange (Bound x t) (now cs) → length us ≡ length ss
    → ((i : ℕ) → bound_in us i ≡ (if i == x.num then Some t else bound_in ss i)) → AreKeptBelow q us → AreStored us (cs ++ Bound x t ∷ []) q
more_bound ss us cs r q x t h i e f k = (
  changes_more cs (Bound x t) empty h.0 i,
  linked_more cs (Bound x t) nothing_held h.1 tt,
  e ∙ h.2 ∙ ap (λ (a : Triple). a.next) (sym (present_more cs (Bound x t) empty)),
  (λ y. ap (λ (b : lookups.Bound). b y) (raw_more cs (Bound x t) nothing_bound) ∙ ap (λ (o : Option NominalTerm). if y.num == x.num then Some t else o) (h.3 y) ∙ sym (f y.num)),
  k,
)

-- a change by which no number is given and no variable bound
pub more_aside : (ss : List Slot) (cs : List Change) (r : ℕ) (d : Change) → AreStored ss cs r → IsChange d (now cs) → IsTakenHeld d (kept cs) → (after d (now cs)).next ≡ (now cs).next
    → ((b : lookups.Bound) → raw_step d b ≡ b) → AreStored ss (cs ++ d ∷ []) r
more_aside ss cs r d h i j n p = (
  changes_more cs d empty h.0 i,
  linked_more cs d nothing_held h.1 j,
  h.2 ∙ sym n ∙ ap (λ (a : Triple). a.next) (sym (present_more cs d empty)),
  (λ x. ap (λ (b : lookups.Bound). b x) (raw_more cs d nothing_bound ∙ p (raw_after cs nothing_bound)) ∙ h.3 x),
  h.4,
)

-- Changes that are undone.
min_below : (m n : ℕ) (ss : List Slot) → AreKeptBelow m ss → AreKeptBelow n ss → AreKeptBelow (min m n) ss
min_below m n ss h k =
    elim (nat_lt m n) as (λ b. nat_lt m n ≡ b → AreKeptBelow (min m n) ss) [
      | true ↦ λ e. let l : m ≡ min m n = grind (arith, nat_tests) in subst (λ j. AreKeptBelow j ss) l h
      | false ↦ λ e. let l : n ≡ min m n = grind (arith, nat_tests) in subst (λ j. AreKeptBelow j ss) l k
    ] refl

-- numbers that are given no longer were unbound
pub bound_in_left : (ss : List Slot) (cs : List Change) (n : ℕ) → AreChanges cs empty → length ss ≡ (now cs).next + n → ((x : Var) → raw_after cs nothing_bound x ≡ bound_in ss x.num)
    → (i : ℕ) → bound_in (take (length ss - n) ss) i ≡ bound_in ss i
bound_in_left ss cs n h e f i =
    let short : length (take (length ss - n) ss) ≡ length ss - n = length-take-le (length ss - n) ss (omega arith) in
    elim (nat_lt i (length ss - n)) as (λ b. nat_lt i (length ss - n) ≡ b → bound_in (take (length ss - n) ss) i ≡ bound_in ss i) [
      | true ↦ λ l. let m : i < length ss - n = grind (arith, nat_tests) in bound_in_take ss (length ss - n) i m
      | false ↦ λ l.
          let m : length ss - n ≤ i = grind (arith, nat_tests) in
          let u : IsUnbound (now cs).bindings (var_at i) = unbound_beyond (now cs).next (var_at i) (now cs).bindings (sound cs h).well_formed.below (omega (arith, e)) in
          bound_in_beyond (take (length ss - n) ss) i (omega (arith, short)) ∙ sym (unbound_raw cs (var_at i) h u) ∙ f (var_at i)
    ] refl

pub less_made : (ss : List Slot) (cs : List Change) (r n : ℕ) → AreStored ss (cs ++ Made n ∷ []) r → AreStored (take (length ss - n) ss) cs (min r (length ss - n))
less_made ss cs r n h =
    let us = take (length ss - n) ss in
    let ch = (changes_less cs (Made n) empty h.0).0 in
    let len : length ss ≡ (now cs).next + n = h.2 ∙ ap (λ (a : Triple). a.next) (present_more cs (Made n) empty) in
    let left : length ss - n ≡ (now cs).next = omega (arith, len) in
    let short : length us ≡ length ss - n = length-take-le (length ss - n) ss (omega arith) in
    let raw : (x : Var) → raw_after cs nothing_bound x ≡ bound_in ss x.num = λ x. ap (λ (b : lookups.Bound). b x) (sym (raw_more cs (Made n) nothing_bound)) ∙ h.3 x in
    let same : (x : Var) → raw_after cs nothing_bound x ≡ bound_in us x.num = λ x. raw x ∙ sym (bound_in_left ss cs n ch len raw x.num) in
    let below : (i : ℕ) (t : NominalTerm) → bound_in us i ≡ Some t → IsBelow (length ss - n) t =
    λ i t e. subst (λ m. IsBelow m t) (sym left) ((sound cs ch).below (var_at i) t (same (var_at i) ∙ e)) in (
      ch,
      (linked_less cs (Made n) nothing_held h.1).0,
      short ∙ left,
      same,
      min_below r (length ss - n) us (kept_take r (length ss - n) ss h.4) (all_kept (length ss - n) us below),
    )

pub less_bound : (ss us : List Slot) (cs : List Change) (r : ℕ) (x : Var) (t : NominalTerm) → AreStored ss (cs ++ Bound x t ∷ []) r → length us ≡ length ss
    → ((i : ℕ) → bound_in us i ≡ (if i == x.num then None else bound_in ss i)) → AreKeptBelow r us → AreStored us cs r
less_bound ss us cs r x t h e f k =
    let ch = changes_less cs (Bound x t) empty h.0 in (
      ch.0,
      (linked_less cs (Bound x t) nothing_held h.1).0,
      e ∙ h.2 ∙ ap (λ (a : Triple). a.next) (present_more cs (Bound x t) empty),
      (λ y. (elim (y.num == x.num) as (λ c. (y.num == x.num) ≡ c → (if c then Some t else raw_after cs nothing_bound y) ≡ bound_in ss y.num → raw_after cs nothing_bound y ≡ (if c then None else bound_in ss y.num)) [
        | true ↦ λ g m. unbound_raw cs y ch.0 (subst (λ (z : Var). IsUnbound (now cs).bindings z) (ap var_at (sym (number_same y.num x.num g))) ch.1.1)
        | false ↦ λ g m. m
      ] refl (ap (λ (b : lookups.Bound). b y) (sym (raw_more cs (Bound x t) nothing_bound)) ∙ h.3 y)) ∙ sym (f y.num)),
      k,
    )

pub less_aside : (ss : List Slot) (cs : List Change) (r : ℕ) (d : Change) → AreStored ss (cs ++ d ∷ []) r → (after d (now cs)).next ≡ (now cs).next → ((b : lookups.Bound) → raw_step d b ≡ b) → AreStored ss cs r
less_aside ss cs r d h n p = (
  (changes_less cs d empty h.0).0,
  (linked_less cs d nothing_held h.1).0,
  h.2 ∙ ap (λ (a : Triple). a.next) (present_more cs d empty) ∙ n,
  (λ x. ap (λ (b : lookups.Bound). b x) (sym (p (raw_after cs nothing_bound)) ∙ sym (raw_more cs d nothing_bound)) ∙ h.3 x),
  h.4,
)

-- the kinds of the numbers that are left
pub kinds_left : (ss us : List Slot) (n k : ℕ) → us ≡ take n ss → n ≤ length ss → length us ≡ k → map slot_kind us ≡ take k (map slot_kind ss)
kinds_left ss us n k e l f =
    let g : length us ≡ n = ap length e ∙ length-take-le n ss l in
    ap (map slot_kind) e ∙ sym (take-map slot_kind n ss) ∙ ap (λ m. take m (map slot_kind ss)) (sym g ∙ f)

pub kinds_kept : (ss us : List Slot) (k : ℕ) → map slot_kind us ≡ map slot_kind ss → length ss ≡ k → map slot_kind us ≡ take k (map slot_kind ss)
kinds_kept ss us k e f = e ∙ sym (ap (λ n. take n (map slot_kind ss)) (sym (length-map ss slot_kind ∙ f)) ∙ take_whole (map slot_kind ss))

pub kinds_further : (s : Slot) (rs ss ts : List Slot) (ls : List Local) (i : ℕ) (d : Local) → i < length ls → d ≡ get_or ls i d → ts ≡ ss ++ s ∷ [] → slot_kind s ≡ kind_of d.kind
    → map slot_kind ss ≡ map slot_kind rs ++ kinds_of (locals_of (take i ls)) → map slot_kind ts ≡ map slot_kind rs ++ kinds_of (locals_of (take (i + 1) ls))
kinds_further s rs ss ts ls i d l e f g h =
    let ks : List Local → List NominalKind = λ ms. kinds_of (locals_of ms) in
    let k : ks (take (i + 1) ls) ≡ ks (take i ls) ++ kind_of (get_or ls i d).kind ∷ [] =
    ap ks (take_more ls i d l) ∙ ap kinds_of (map-append local_of (take i ls) (get_or ls i d ∷ [])) ∙ map-append (λ (m : NominalLocal). m.kind) (locals_of (take i ls)) (local_of (get_or ls i d) ∷ []) in
    ap (map slot_kind) f ∙ map-append slot_kind ss (s ∷ [])
    ∙ ap₂ (λ (us : List NominalKind) (m : NominalKind). us ++ m ∷ []) h (g ∙ ap (λ (m : Local). kind_of m.kind) e) ∙ append_assoc (map slot_kind rs) (ks (take i ls)) (kind_of (get_or ls i d).kind ∷ [])
    ∙ ap (λ (us : List NominalKind). map slot_kind rs ++ us) (sym k)

-- What a change of the store makes of the changes.
pub made_changes : (ss us : List Slot) (es ts : List Entry) (ns : List Noted) (m : ℕ) → ((i : ℕ) → bound_in us i ≡ bound_in ss i) → ts ≡ es ++ entries.Made m ∷ [] → changes_in us ts ns ≡ changes_in ss es ns ++ Made m ∷ []
made_changes ss us es ts ns m f e =
    ap (λ (fs : List Entry). changes_in us fs ns) e ∙ changes_made us es ns m ∙ ap (λ (cs : List Change). cs ++ Made m ∷ []) (changes_same ss us es ns (λ i b. f i))

pub bound_changes : (ss us : List Slot) (es ts : List Entry) (ns : List Noted) (r : ℕ) (x : Var) (t : NominalTerm) → IsStored ss es ns r → IsUnbound (now (changes_in ss es ns)).bindings x
    → ((j : ℕ) → bound_in us j ≡ (if j == x.num then Some t else bound_in ss j)) → ts ≡ es ++ entries.Bound x.num ∷ [] → changes_in us ts ns ≡ changes_in ss es ns ++ Bound x t ∷ []
bound_changes ss us es ts ns r x t h u f e =
    let g : bound_in us x.num ≡ Some t = f x.num ∙ ap (λ (b : Bool). if b then Some t else bound_in ss x.num) (same_number x.num x.num refl) in
    ap (λ (fs : List Entry). changes_in us fs ns) e ∙ changes_bound us es ns x.num
    ∙ ap₂ (λ (cs : List Change) (o : Option NominalTerm). cs ++ Bound x (term_or_unit o) ∷ []) (changes_apart ss us es ns x (Some t) h.0 u f) g

pub noted_changes : (ss : List Slot) (es ts : List Entry) (ns ms : List Noted) (d : Noted) → count_noted es ≡ length ns → ts ≡ es ++ entries.Noted ∷ [] → ms ≡ ns ++ d ∷ [] → changes_in ss ts ms ≡ changes_in ss es ns ++ noted_change d ∷ []
noted_changes ss es ts ns ms d n e f = ap₂ (changes_in ss) e f ∙ changes_noted ss es ns d n

pub stored_made : (ss us : List Slot) (es ts : List Entry) (ns : List Noted) (r m : ℕ) → IsStored ss es ns r → length us ≡ length ss + m → ((i : ℕ) → bound_in us i ≡ bound_in ss i) → AreKeptBelow r us → length us < 2 ^ 32
    → ts ≡ es ++ entries.Made m ∷ [] → IsStored us ts ns r
stored_made ss us es ts ns r m h l f k s e =
    lookup_stored us ts ns r (changes_in ss es ns ++ Made m ∷ []) (made_changes ss us es ts ns m f e) (more_made ss us (changes_in ss es ns) r m (stored_lookup ss es ns r h) l f k)
    (ap count_noted e ∙ count_made es m ∙ h.5) s

pub stored_bound : (ss us : List Slot) (es ts : List Entry) (ns : List Noted) (r q : ℕ) (x : Var) (t : NominalTerm) → IsStored ss es ns r → IsChange (Bound x t) (now (changes_in ss es ns)) → length us ≡ length ss
    → ((j : ℕ) → bound_in us j ≡ (if j == x.num then Some t else bound_in ss j)) → AreKeptBelow q us → ts ≡ es ++ entries.Bound x.num ∷ [] → IsStored us ts ns q
stored_bound ss us es ts ns r q x t h i l f k e =
    lookup_stored us ts ns q (changes_in ss es ns ++ Bound x t ∷ []) (bound_changes ss us es ts ns r x t h i.1 f e) (more_bound ss us (changes_in ss es ns) r q x t (stored_lookup ss es ns r h) i l f k)
    (ap count_noted e ∙ count_bound es x.num ∙ h.5) (let n : length ss < 2 ^ 32 = h.6 in omega (arith, l, n))

stored_noted : (ss : List Slot) (es ts : List Entry) (ns ms : List Noted) (r : ℕ) (d : Noted) → IsStored ss es ns r → AreStored ss (changes_in ss es ns ++ noted_change d ∷ []) r → ts ≡ es ++ entries.Noted ∷ [] → ms ≡ ns ++ d ∷ [] → IsStored ss ts ms r
stored_noted ss es ts ns ms r d h k e f =
    let n : count_noted ts ≡ length ms = let c : count_noted es ≡ length ns = h.5 in omega (arith, ap count_noted e, count_more es, c, ap length f, length-append ns (d ∷ [])) in
    lookup_stored ss ts ms r (changes_in ss es ns ++ noted_change d ∷ []) (noted_changes ss es ts ns ms d h.5 e f) k n h.6

pub stored_added : (ss : List Slot) (es ts : List Entry) (ns ms : List Noted) (r : ℕ) (c : Cond) → IsStored ss es ns r → AreOnUnbound (now (changes_in ss es ns)) (c ∷ []) → ts ≡ es ++ entries.Noted ∷ [] → ms ≡ ns ++ notes.Added c ∷ [] → IsStored ss ts ms r
stored_added ss es ts ns ms r c h i e f = stored_noted ss es ts ns ms r (notes.Added c) h (more_aside ss (changes_in ss es ns) r (Added c) (stored_lookup ss es ns r h) i tt refl (λ b. refl)) e f

pub stored_taken : (ss : List Slot) (es ts : List Entry) (ns ms : List Noted) (r : ℕ) (x : Var) (cs : Vec Cond Global) → IsStored ss es ns r → x.num < (now (changes_in ss es ns)).next → cs.items ≡ kept (changes_in ss es ns) x.num
    → ts ≡ es ++ entries.Noted ∷ [] → ms ≡ ns ++ notes.Taken x cs ∷ [] → IsStored ss ts ms r
stored_taken ss es ts ns ms r x cs h i j e f = stored_noted ss es ts ns ms r (notes.Taken x cs) h (more_aside ss (changes_in ss es ns) r (Taken x cs.items) (stored_lookup ss es ns r h) i j refl (λ b. refl)) e f

-- What is stored where the last change is undone, and that it was the last one.
pub undone_made : (ss us : List Slot) (es ts : List Entry) (ns : List Noted) (r m : ℕ) → IsStored ss ts ns r → ts ≡ es ++ entries.Made m ∷ [] → us ≡ take (length ss - m) ss
    → IsStored us es ns (min r (length ss - m)) × (changes_in ss ts ns ≡ changes_in us es ns ++ Made m ∷ []) × (m ≤ length ss)
undone_made ss us es ts ns r m h e f =
    let cs = changes_in ss es ns in
    let q = min r (length ss - m) in
    let g : changes_in ss ts ns ≡ cs ++ Made m ∷ [] = ap (λ (fs : List Entry). changes_in ss fs ns) e ∙ changes_made ss es ns m in
    let k : AreStored ss (cs ++ Made m ∷ []) r = subst (λ (ds : List Change). AreStored ss ds r) g (stored_lookup ss ts ns r h) in
    let ch = (changes_less cs (Made m) empty k.0).0 in
    let len : length ss ≡ (now cs).next + m = k.2 ∙ ap (λ (a : Triple). a.next) (present_more cs (Made m) empty) in
    let raw : (x : Var) → raw_after cs nothing_bound x ≡ bound_in ss x.num = λ x. ap (λ (b : lookups.Bound). b x) (sym (raw_more cs (Made m) nothing_bound)) ∙ k.3 x in
    let same : changes_in us es ns ≡ cs = ap (λ (vs : List Slot). changes_in vs es ns) f ∙ changes_same ss (take (length ss - m) ss) es ns (λ i b. bound_in_left ss cs m ch len raw i) in
    let short : length us ≡ length ss - m = ap length f ∙ length-take-le (length ss - m) ss (omega arith) in
    let small : length ss < 2 ^ 32 = h.6 in (
      lookup_stored us es ns q cs same (subst (λ (vs : List Slot). AreStored vs cs q) (sym f) (less_made ss cs r m k)) (sym (count_made es m) ∙ ap count_noted (sym e) ∙ h.5) (omega (arith, short, small)),
      g ∙ ap (λ (ds : List Change). ds ++ Made m ∷ []) (sym same),
      omega (arith, len),
    )

pub undone_bound : (ss us : List Slot) (es ts : List Entry) (ns : List Noted) (r i : ℕ) → IsStored ss ts ns r → ts ≡ es ++ entries.Bound i ∷ [] → length us ≡ length ss
    → ((j : ℕ) → bound_in us j ≡ (if j == i then None else bound_in ss j)) → AreKeptBelow r us → IsStored us es ns r × (changes_in ss ts ns ≡ changes_in us es ns ++ Bound (var_at i) (term_or_unit (bound_in ss i)) ∷ [])
undone_bound ss us es ts ns r i h e l f b =
    let cs = changes_in ss es ns in
    let t = term_or_unit (bound_in ss i) in
    let g : changes_in ss ts ns ≡ cs ++ Bound (var_at i) t ∷ [] = ap (λ (fs : List Entry). changes_in ss fs ns) e ∙ changes_bound ss es ns i in
    let k : AreStored ss (cs ++ Bound (var_at i) t ∷ []) r = subst (λ (ds : List Change). AreStored ss ds r) g (stored_lookup ss ts ns r h) in
    let ch = changes_less cs (Bound (var_at i) t) empty k.0 in
    let same : changes_in us es ns ≡ cs = changes_apart ss us es ns (var_at i) None ch.0 ch.1.1 f in
    let small : length ss < 2 ^ 32 = h.6 in (
      lookup_stored us es ns r cs same (less_bound ss us cs r (var_at i) t k l f b) (sym (count_bound es i) ∙ ap count_noted (sym e) ∙ h.5) (omega (arith, l, small)),
      g ∙ ap (λ (ds : List Change). ds ++ Bound (var_at i) t ∷ []) (sym same),
    )

pub bound_fits : (ss : List Slot) (es ts : List Entry) (ns : List Noted) (r i : ℕ) → IsStored ss ts ns r → ts ≡ es ++ entries.Bound i ∷ [] → i < length ss
bound_fits ss es ts ns r i h e =
    let cs = changes_in ss es ns in
    let t = term_or_unit (bound_in ss i) in
    let g : changes_in ss ts ns ≡ cs ++ Bound (var_at i) t ∷ [] = ap (λ (fs : List Entry). changes_in ss fs ns) e ∙ changes_bound ss es ns i in
    let k : AreStored ss (cs ++ Bound (var_at i) t ∷ []) r = subst (λ (ds : List Change). AreStored ss ds r) g (stored_lookup ss ts ns r h) in
    let m : length ss ≡ (now cs).next = k.2 ∙ ap (λ (a : Triple). a.next) (present_more cs (Bound (var_at i) t) empty) in
    let ch = changes_less cs (Bound (var_at i) t) empty k.0 in
    omega (arith, m, ch.1.0)

noted_is_aside : (d : Noted) (a : Triple) → (after (noted_change d) a).next ≡ a.next
noted_is_aside (notes.Added c) a = refl
noted_is_aside (notes.Taken x cs) a = refl

noted_binds_none : (d : Noted) (b : lookups.Bound) → raw_step (noted_change d) b ≡ b
noted_binds_none (notes.Added c) b = refl
noted_binds_none (notes.Taken x cs) b = refl

pub undone_noted : (ss : List Slot) (es ts : List Entry) (ns ms : List Noted) (r : ℕ) (d : Noted) → IsStored ss ts ms r → ts ≡ es ++ entries.Noted ∷ [] → ms ≡ ns ++ d ∷ []
    → IsStored ss es ns r × (changes_in ss ts ms ≡ changes_in ss es ns ++ noted_change d ∷ [])
undone_noted ss es ts ns ms r d h e f =
    let n : count_noted es ≡ length ns = let c : count_noted ts ≡ length ms = h.5 in omega (arith, ap count_noted e, count_more es, c, ap length f, length-append ns (d ∷ [])) in
    let g : changes_in ss ts ms ≡ changes_in ss es ns ++ noted_change d ∷ [] = noted_changes ss es ts ns ms d n e f in
    let k : AreStored ss (changes_in ss es ns ++ noted_change d ∷ []) r = subst (λ (ds : List Change). AreStored ss ds r) g (stored_lookup ss ts ms r h) in (
      lookup_stored ss es ns r (changes_in ss es ns) refl (less_aside ss (changes_in ss es ns) r (noted_change d) k (noted_is_aside d (now (changes_in ss es ns))) (noted_binds_none d)) n h.6,
      g,
    )

-- something is noted for an entry that says so
pub some_noted : (ss : List Slot) (es ts : List Entry) (ns : List Noted) (r : ℕ) → IsStored ss ts ns r → ts ≡ es ++ entries.Noted ∷ [] → 0 < length ns
some_noted ss es ts ns r h e = let c : count_noted ts ≡ length ns = h.5 in omega (arith, ap count_noted e, count_more es, c)
