-- Ground terms of inhabited types, and names that are free in them.
use Rattle.std.proofs.Common.{◌≡◌, ◌<◌, ◌⊎◌, ℕ, zero, suc, Bool, true, false, ◌&&◌, ◌||◌, List, [], ◌∷◌, refl, sym, ap, ◌∙◌, inl, inr, subst, arith, true≢false}
use Rattle.std.specs.Prelude.{not, Option, Some, None}
use Rattle.std.proofs.lemmas.Bool.Decides.{nat_tests}
use Rattle.ap_defs.specs.declared.terms.Name.{Name}
use Rattle.ap_defs.specs.Alpha.{fresh}
use Rattle.ap_defs.specs.Permutations.{name_eq}
use Rattle.ap_defs.specs.Printing.{constructor_in}
use Rattle.ap_defs.specs.Terms.{GroundTerm, abs, app, name, pair, unit}
use Rattle.ap_defs.specs.Types as types
use Rattle.ap_defs.specs.Types.{NominalConstructor, NominalType}
use Rattle.ap_defs.specs.Typing.{IsApplication, IsOfType, IsTyped, Want, arguments, embedded, more, nothing, one}
use Rattle.ap_types.specs.Holding.{MayHold}
use Rattle.ap_types.specs.Inhabited.{IsInhabited, inhabited_in}
use Rattle.ap_types.proofs.WitnessLemmas as witnesses
use Rattle.ap_types.specs.Closed.{AreFull, HasEach, HasSome, IsFull, IsHoldingSet, IsInhabitedSet}
use Rattle.ap_types.specs.StatementsOnInhabited.{FreeNamesAreHeld, HoldingIsHavingNames, HoldingMayBeEmpty, InhabitedIsHavingTerms}
use Rattle.ap_types.proofs.LeastLemmas.{in_each_holding_set}
use Rattle.ap_types.proofs.LeastRuleLemmas.{holding_closed, inhabited_closed}

module _ (cs : List NominalConstructor) (P : NominalType → Type 0) (closed : IsInhabitedSet cs P) where
  -- the set has each type that is wanted
  abbrev HasWanted : Want → Type 0
  HasWanted nothing = Unit {0}
  HasWanted (one t) = P t
  HasWanted (more t w) = P t × HasWanted w

  each_wanted : (ts : List NominalType) → HasWanted (arguments ts) → HasEach P ts
  each_wanted [] h = tt
  each_wanted (t ∷ []) h = (h, tt)
  each_wanted (t ∷ u ∷ us) h = (h.0, each_wanted (u ∷ us) h.1)

  application_in : (g : GroundTerm) → ((w : Want) → IsTyped cs (λ x. None) (embedded g) w → HasWanted w)
      → (f d : ℕ) (o : Option NominalConstructor) → constructor_in cs f ≡ o → IsApplication (IsTyped cs (λ x. None) (embedded g)) o d → P (types.base d)
  application_in g k f d None e h = absurd h
  application_in g k f d (Some c) e h =
      subst (λ (x : ℕ). P (types.base x)) h.0 (closed.for_data f c e (each_wanted c.args (k (arguments c.args) h.1)))

  -- what a ground term is of is in each closed set
  pub term_in : (g : GroundTerm) (w : Want) → IsTyped cs (λ x. None) (embedded g) w → HasWanted w
  term_in unit nothing h = tt
  term_in unit (one types.unit) h = closed.for_unit
  term_in (name a) (one (types.names s)) h = closed.for_names s
  term_in (pair t u) (one (types.pair b c)) h = closed.for_pairs b c (term_in t (one b) h.0) (term_in u (one c) h.1)
  term_in (pair t u) (more b w) h = (term_in t (one b) h.0, term_in u w h.1)
  term_in (app zero t) (one (types.list b)) h = closed.for_lists b
  term_in (app (suc zero) t) (one (types.list b)) h = closed.for_lists b
  term_in (app f t) (one (types.base d)) h = application_in t (term_in t) f d (constructor_in cs f) refl h
  term_in (abs b t) (one (types.abs s c)) h = closed.for_abstractions s c (term_in t (one c) h.1)
  term_in _ _ h = absurd h

abbrev HasTerm : List NominalConstructor → NominalType → Type 0
HasTerm cs t = (g : GroundTerm) × IsOfType cs g t

term_of : (cs : List NominalConstructor) (t : NominalType) → IsInhabited cs t → HasTerm cs t
term_of cs t h = let k = witnesses.inhabited_has_terms cs t h [] in (k.0, k.1)

pub having_terms : InhabitedIsHavingTerms
having_terms cs t = (term_of cs t, λ k. term_in cs (IsInhabited cs) (inhabited_closed cs) k.0 (one t) k.1)

-- Names.
same_sort : (a b : Name) → name_eq a b ≡ true → a.sort ≡ b.sort
unfolding name_eq
same_sort a b h = grind (arith, nat_tests)

name_itself : (a : Name) → name_eq a a ≡ true
unfolding name_eq
name_itself a = grind (arith, nat_tests)

other_name : (a b : Name) → a.num < b.num → name_eq a b ≡ false
unfolding name_eq
other_name a b l = grind (arith, nat_tests)

and_cases : (x y : Bool) → (x && y) ≡ false → (x ≡ false) ⊎ (y ≡ false)
and_cases true y h = inr h
and_cases false y h = inl refl

or_right : (x y : Bool) → (x || y) ≡ false → y ≡ false
or_right true y h = absurd (true≢false h)
or_right false y h = h

and_if_left : (x y : Bool) → x ≡ false → (x && y) ≡ false
and_if_left true y h = absurd (true≢false h)
and_if_left false y h = refl

and_if_right : (x y : Bool) → y ≡ false → (x && y) ≡ false
and_if_right true y h = h
and_if_right false y h = refl

or_none : (x y : Bool) → x ≡ false → y ≡ false → (x || y) ≡ false
or_none true y h k = h
or_none false y h k = k

not_false : (x : Bool) → not x ≡ false → x ≡ true
not_false true h = refl
not_false false h = absurd (true≢false h)

module _ (cs : List NominalConstructor) (a : Name) (P : NominalType → Type 0) (closed : IsHoldingSet cs a.sort P) where
  -- the set has one of the types that are wanted
  abbrev HoldsWanted : Want → Type 0
  HoldsWanted nothing = ⊥
  HoldsWanted (one t) = P t
  HoldsWanted (more t w) = P t ⊎ HoldsWanted w

  some_wanted : (ts : List NominalType) → HoldsWanted (arguments ts) → HasSome P ts
  some_wanted [] h = h
  some_wanted (t ∷ []) h = inl h
  some_wanted (t ∷ u ∷ us) h = elim h [ inl k ↦ inl k | inr k ↦ inr (some_wanted (u ∷ us) k) ]

  application_holds : (g : GroundTerm) → ((w : Want) → IsTyped cs (λ x. None) (embedded g) w → fresh a g ≡ false → HoldsWanted w)
      → (f d : ℕ) (o : Option NominalConstructor) → constructor_in cs f ≡ o → IsApplication (IsTyped cs (λ x. None) (embedded g)) o d → fresh a g ≡ false
      → P (types.base d)
  application_holds g k f d None e h n = absurd h
  application_holds g k f d (Some c) e h n =
      subst (λ (x : ℕ). P (types.base x)) h.0 (closed.for_data f c e (some_wanted c.args (k (arguments c.args) h.1 n)))

  pub name_in : (g : GroundTerm) (w : Want) → IsTyped cs (λ x. None) (embedded g) w → fresh a g ≡ false → HoldsWanted w
  name_in unit w h n = absurd (true≢false n)
  name_in (name b) (one (types.names s)) h n = subst (λ (x : ℕ). P (types.names x)) (same_sort a b (not_false (name_eq a b) n) ∙ h) closed.for_names
  name_in (pair t u) (one (types.pair b c)) h n = closed.for_pairs b c (elim (and_cases (fresh a t) (fresh a u) n) [
    | inl m ↦ inl (name_in t (one b) h.0 m)
    | inr m ↦ inr (name_in u (one c) h.1 m)
  ])
  name_in (pair t u) (more b w) h n = elim (and_cases (fresh a t) (fresh a u) n) [
    | inl m ↦ inl (name_in t (one b) h.0 m)
    | inr m ↦ inr (name_in u w h.1 m)
  ]
  name_in (app zero t) (one (types.list b)) h n = absurd (name_in t nothing h n)
  name_in (app (suc zero) t) (one (types.list b)) h n = elim (name_in t (more b (one (types.list b))) h n) [
    | inl k ↦ closed.for_lists b k
    | inr k ↦ k
  ]
  name_in (app f t) (one (types.base d)) h n = application_holds t (name_in t) f d (constructor_in cs f) refl h n
  name_in (abs b t) (one (types.abs s c)) h n = closed.for_abstractions s c (name_in t (one c) h.1 (or_right (name_eq a b) (fresh a t) n))
  name_in _ _ h n = absurd h

pub free_names_held : FreeNamesAreHeld
free_names_held cs t a g h n = name_in cs a (λ t. MayHold cs t a.sort) (holding_closed cs a.sort) g (one t) h n

module _ (cs : List NominalConstructor) (full : AreFull cs) (a : Name) where
  full_inhabited : (t : NominalType) → IsFull cs t → IsInhabited cs t
  full_inhabited types.unit h = (inhabited_closed cs).for_unit
  full_inhabited (types.names s) h = (inhabited_closed cs).for_names s
  full_inhabited (types.base d) h = h
  full_inhabited (types.pair t u) h = (inhabited_closed cs).for_pairs t u (full_inhabited t h.0) (full_inhabited u h.1)
  full_inhabited (types.list t) h = (inhabited_closed cs).for_lists t
  full_inhabited (types.abs s t) h = (inhabited_closed cs).for_abstractions s t (full_inhabited t h)

  full_term : (t : NominalType) → IsFull cs t → HasTerm cs t
  full_term t h = term_of cs t (full_inhabited t h)

  -- what is wanted, as a ground term
  abbrev Made : Want → Type 0
  Made w = (g : GroundTerm) × IsTyped cs (λ x. None) (embedded g) w

  abbrev MadeWithName : Want → Type 0
  MadeWithName w = (g : GroundTerm) × IsTyped cs (λ x. None) (embedded g) w × (fresh a g ≡ false)

  full_terms : (ts : List NominalType) → HasEach (IsFull cs) ts → Made (arguments ts)
  full_terms [] h = (unit, tt)
  full_terms (t ∷ []) h = full_term t h.0
  full_terms (t ∷ u ∷ us) h =
      let k = full_term t h.0 in
      let l = full_terms (u ∷ us) h.1 in
      (pair k.0 l.0, (k.1, l.1))

  applied : (f : ℕ) (c : NominalConstructor) (g : GroundTerm) → constructor_in cs f ≡ Some c → IsTyped cs (λ x. None) (embedded g) (arguments c.args)
      → IsOfType cs (app f g) (types.base c.result)
  applied zero c g e h = subst (λ (o : Option NominalConstructor). IsApplication (IsTyped cs (λ x. None) (embedded g)) o c.result) (sym e) (refl, h)
  applied (suc zero) c g e h = subst (λ (o : Option NominalConstructor). IsApplication (IsTyped cs (λ x. None) (embedded g)) o c.result) (sym e) (refl, h)
  applied (suc (suc f)) c g e h = subst (λ (o : Option NominalConstructor). IsApplication (IsTyped cs (λ x. None) (embedded g)) o c.result) (sym e) (refl, h)

  abbrev HasName : NominalType → Type 0
  HasName t = IsFull cs t → MadeWithName (one t)

  some_has_name : (ts : List NominalType) → HasSome HasName ts → HasEach (IsFull cs) ts → MadeWithName (arguments ts)
  some_has_name [] h l = absurd h
  some_has_name (t ∷ []) h l = elim h [ inl k ↦ k l.0 | inr k ↦ absurd k ]
  some_has_name (t ∷ u ∷ us) h l = elim h [
    | inl k ↦
        let g = k l.0 in
        let r = full_terms (u ∷ us) l.1 in
        (pair g.0 r.0, (g.1, r.1), and_if_left (fresh a g.0) (fresh a r.0) g.2)
    | inr k ↦
        let g = full_term t l.0 in
        let r = some_has_name (u ∷ us) k l.1 in
        (pair g.0 r.0, (g.1, r.1), and_if_right (fresh a g.0) (fresh a r.0) r.2)
  ]

  has_name_pair : (t u : NominalType) → HasName t ⊎ HasName u → HasName (types.pair t u)
  has_name_pair t u h l = elim h [
    | inl k ↦
        let g = k l.0 in
        let r = full_term u l.1 in
        (pair g.0 r.0, (g.1, r.1), and_if_left (fresh a g.0) (fresh a r.0) g.2)
    | inr k ↦
        let g = full_term t l.0 in
        let r = k l.1 in
        (pair g.0 r.0, (g.1, r.1), and_if_right (fresh a g.0) (fresh a r.0) r.2)
  ]

  has_name_abs : (s : ℕ) (t : NominalType) → HasName t → HasName (types.abs s t)
  has_name_abs s t h l =
      let g = h l in
      let b : Name = record { sort = s; num = suc a.num } in
      (abs b g.0, (refl, g.1), or_none (name_eq a b) (fresh a g.0) (other_name a b (omega arith)) g.2)

  has_name_data : (f : ℕ) (c : NominalConstructor) → constructor_in cs f ≡ Some c → HasSome HasName c.args → HasName (types.base c.result)
  has_name_data f c e h l =
      let g = some_has_name c.args h (full f c e) in
      (app f g.0, applied f c g.0 e g.1, g.2)

  has_name_set : IsHoldingSet cs a.sort HasName
  has_name_set = record {
    for_names = λ l. (name a, refl, ap not (name_itself a));
    for_pairs = has_name_pair;
    for_lists = λ t h l.
        let g = h l in
        (app 1 (pair g.0 (app 0 unit)), (g.1, tt), and_if_left (fresh a g.0) true g.2);
    for_abstractions = has_name_abs;
    for_data = has_name_data;
  }

pub having_names : HoldingIsHavingNames
having_names cs full t l a = (
  (λ h. in_each_holding_set cs a.sort (HasName cs full a) (has_name_set cs full a) t h l),
  (λ k. free_names_held cs t a k.0 k.1 k.2),
)

-- the pairs of a name and a term of a data type that has no constructor
pub may_be_empty : HoldingMayBeEmpty
may_be_empty = ([], types.pair (types.names 0) (types.base 0), 0, (0, refl), λ g h. let k = (having_terms [] (types.pair (types.names 0) (types.base 0))).1 (g, h) in none k.0 k.1)
  where
    none : (r : ℕ) → inhabited_in [] r (types.pair (types.names 0) (types.base 0)) ≡ true → ⊥
    none zero e = true≢false (sym e)
    none (suc r) e = true≢false (sym e)
