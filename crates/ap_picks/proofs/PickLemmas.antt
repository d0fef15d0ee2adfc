-- What is picked for an inhabited type has that type.
use Rattle.std.proofs.Common.{◌≡◌, ◌≤◌, ◌+◌, ◌∙◌, ℕ, zero, suc, Bool, true, false, ◌&&◌, if◌then◌else◌, List, [], ◌∷◌, ◌++◌, length, Option, Some, None, refl, sym, ap, subst, inl, inr, arith}
use Rattle.std.specs.Prelude.{◌==◌, slice_get}
use Rattle.std.proofs.lemmas.Bool.Decides.{eqb_tells}
use Rattle.ap_defs.specs.declared.terms.Name.{Name}
use Rattle.ap_defs.specs.Printing.{constructor_in}
use Rattle.ap_defs.specs.Terms as terms
use Rattle.ap_defs.specs.Terms.{GroundTerm}
use Rattle.ap_defs.specs.Types.{NominalConstructor, NominalType, abs, base, list, names, pair, unit}
use Rattle.ap_defs.specs.Typing.{IsApplication, IsTyped, Want, arguments, embedded, one}
use Rattle.ap_types.specs.Inhabited.{all_inhabited, inhabited_if, inhabited_in}
use Rattle.ap_types.specs.Rounds.{reached}
use Rattle.ap_types.proofs.BooleanLemmas.{and_left, and_right}
use Rattle.ap_types.proofs.StillLemmas.{inhabited_stands_still}
use Rattle.ap_picks.specs.Picks.{Pick, constructor_applied, data_bound, first_passing, new_name, picked_pair, pick_application, pick_arguments, pick_data, pick_type}
use Rattle.ap_picks.specs.StatementsOnPicks.{EachName, IsNewName, PicksAreTyped}
use Rattle.ap_picks.proofs.ChoiceLemmas.{are_of_bound, none_passes}

-- lists that go on
slice_front : (xs ys : List ℕ) (i x : ℕ) → slice_get xs i ≡ Some x → slice_get (xs ++ ys) i ≡ Some x
slice_front [] ys zero x e = cc
slice_front [] ys (suc i) x e = cc
slice_front (y ∷ xs) ys zero x e = e
slice_front (y ∷ xs) ys (suc i) x e = slice_front xs ys i x e

slice_end : (xs ys : List ℕ) (x : ℕ) → slice_get (xs ++ x ∷ ys) (length xs) ≡ Some x
slice_end [] ys x = refl
slice_end (y ∷ xs) ys x = slice_end xs ys x

append_assoc : (xs ys zs : List ℕ) → (xs ++ ys) ++ zs ≡ xs ++ (ys ++ zs)
append_assoc [] ys zs = refl
append_assoc (x ∷ xs) ys zs = ap (λ l. x ∷ l) (append_assoc xs ys zs)

append_none : (xs : List ℕ) → xs ++ [] ≡ xs
append_none [] = refl
append_none (x ∷ xs) = ap (λ l. x ∷ l) (append_none xs)

longer : (xs ys : List ℕ) → length xs ≤ length (xs ++ ys)
longer [] ys = omega arith
longer (x ∷ xs) ys = let k = longer xs ys in omega (arith, k)

-- each name, by a property that follows
pub each_name : (P Q : Name → Type 0) → ((a : Name) → P a → Q a) → (g : GroundTerm) → EachName P g → EachName Q g
each_name P Q f terms.unit h = tt
each_name P Q f (terms.name a) h = f a h
each_name P Q f (terms.pair t u) h = (each_name P Q f t h.0, each_name P Q f u h.1)
each_name P Q f (terms.app k t) h = each_name P Q f t h
each_name P Q f (terms.abs a t) h = (f a h.0, each_name P Q f t h.1)

module _ (cs : List NominalConstructor) (n : ℕ) where
  -- it is what is wanted
  record IsGood (w : Want) (before : List ℕ) (made : GroundTerm × List ℕ) : Type 0 where
    typed : IsTyped cs (λ x. None) (embedded made.0) w
    added : List ℕ
    extends : made.1 ≡ before ++ added
    new : EachName (IsNewName n before made.1) made.0

  -- a new name is one, also where the list goes on, and where fewer were before
  further : (before after more : List ℕ) (a : Name) → IsNewName n before after a → IsNewName n before (after ++ more) a
  further before after more a h = record { place = h.place; late = h.late; number = h.number; sort = slice_front after more h.place a.sort h.sort }

  earlier : (before between after : List ℕ) (a : Name) → length before ≤ length between → IsNewName n between after a → IsNewName n before after a
  earlier before between after a l h = record { place = h.place; late = let k = h.late in omega (arith, l, k); number = h.number; sort = h.sort }

  good_unit : (w : Want) → IsTyped cs (λ x. None) terms.unit w → (ss : List ℕ) → IsGood w ss (terms.unit, ss)
  good_unit w t ss = record { typed = t; added = []; extends = sym (append_none ss); new = tt }

  named : (ss more : List ℕ) (s : ℕ) → IsNewName n ss (ss ++ s ∷ more) (new_name n ss s)
  named ss more s = record { place = length ss; late = omega arith; number = refl; sort = slice_end ss more s }

  -- two parts, the one after the other
  good_pair : (v w x : Want) (ss : List ℕ) (a b : GroundTerm × List ℕ)
      → (IsTyped cs (λ y. None) (embedded a.0) v → IsTyped cs (λ y. None) (embedded b.0) w → IsTyped cs (λ y. None) (terms.pair (embedded a.0) (embedded b.0)) x)
      → IsGood v ss a → IsGood w a.1 b → IsGood x ss (picked_pair a.0 b)
  good_pair v w x ss a b t h k =
      let longer_list : length ss ≤ length a.1 = subst (λ l. length ss ≤ length l) (sym h.extends) (longer ss h.added) in
      record {
        typed = t h.typed k.typed;
        added = h.added ++ k.added;
        extends = k.extends ∙ ap (λ l. l ++ k.added) h.extends ∙ append_assoc ss h.added k.added;
        new = (
          each_name _ _ (λ c i. subst (λ l. IsNewName n ss l c) (sym k.extends) (further ss a.1 k.added c i)) a.0 h.new,
          each_name _ _ (λ c i. earlier ss a.1 b.1 c longer_list i) b.0 k.new,
        );
      }

  module _ (p : ℕ → Bool) (by : ℕ → Pick) (h : (d : ℕ) → p d ≡ true → (ss : List ℕ) → IsGood (one (base d)) ss (by d ss)) where
    type_good : (t : NominalType) → inhabited_if p t ≡ true → (ss : List ℕ) → IsGood (one t) ss (pick_type by n t ss)
    type_good unit e ss = good_unit (one unit) tt ss
    type_good (names s) e ss = record { typed = refl; added = s ∷ []; extends = refl; new = named ss [] s }
    type_good (base d) e ss = h d e ss
    type_good (pair t u) e ss =
        let a = type_good t (and_left (inhabited_if p t) (inhabited_if p u) e) ss in
        let b = type_good u (and_right (inhabited_if p t) (inhabited_if p u) e) (pick_type by n t ss).1 in
        good_pair (one t) (one u) (one (pair t u)) ss (pick_type by n t ss) (pick_type by n u (pick_type by n t ss).1) (λ x y. (x, y)) a b
    type_good (list t) e ss = record { typed = tt; added = []; extends = sym (append_none ss); new = tt }
    type_good (abs s t) e ss =
        let a = type_good t e (ss ++ s ∷ []) in
        let whole = a.extends ∙ append_assoc ss (s ∷ []) a.added in
        record {
          typed = (refl, a.typed);
          added = s ∷ a.added;
          extends = whole;
          new = (
            subst (λ l. IsNewName n ss l (new_name n ss s)) (sym whole) (named ss a.added s),
            each_name _ _ (λ c i. earlier ss (ss ++ s ∷ []) (pick_type by n t (ss ++ s ∷ [])).1 c (longer ss (s ∷ [])) i) (pick_type by n t (ss ++ s ∷ [])).0 a.new,
          );
        }

    arguments_good : (ts : List NominalType) → all_inhabited p ts ≡ true → (ss : List ℕ) → IsGood (arguments ts) ss (pick_arguments by n ts ss)
    arguments_good [] e ss = good_unit (arguments []) tt ss
    arguments_good (t ∷ []) e ss = type_good t (and_left (inhabited_if p t) true e) ss
    arguments_good (t ∷ u ∷ us) e ss =
        let a = type_good t (and_left (inhabited_if p t) (all_inhabited p (u ∷ us)) e) ss in
        let b = arguments_good (u ∷ us) (and_right (inhabited_if p t) (all_inhabited p (u ∷ us)) e) (pick_type by n t ss).1 in
        good_pair (one t) (arguments (u ∷ us)) (arguments (t ∷ u ∷ us)) ss (pick_type by n t ss) (pick_arguments by n (u ∷ us) (pick_type by n t ss).1) (λ x y. (x, y)) a b

  -- the constructor that passes first
  record Passes (found : ℕ → Bool) (k : ℕ) (ds : List NominalConstructor) (d : ℕ) (x : ℕ × List NominalType) : Type 0 where
    place : ℕ
    constructor : NominalConstructor
    number : x.0 ≡ k + place
    at : constructor_in ds (suc (suc place)) ≡ Some constructor
    result : constructor.result ≡ d
    args : constructor.args ≡ x.1
    inhabited : all_inhabited found x.1 ≡ true

  passes : (found : ℕ → Bool) (k : ℕ) (ds : List NominalConstructor) (d : ℕ) (x : ℕ × List NominalType) → first_passing found k ds d ≡ Some x → Passes found k ds d x
  passes found k [] d x e = cc
  passes found k (c ∷ ds) d x e =
      elim ((c.result == d) && all_inhabited found c.args) as (λ b. ((c.result == d) && all_inhabited found c.args) ≡ b
      → (if b then Some (k, c.args) else first_passing found (suc k) ds d) ≡ Some x → Passes found k (c ∷ ds) d x) [
        | true ↦ λ y g. subst_pair c y (k, c.args) x g refl refl
        | false ↦ λ y g.
            let r = passes found (suc k) ds d x g in
            record {
              place = suc r.place;
              constructor = r.constructor;
              number = let m = r.number in omega (arith, m);
              at = r.at;
              result = r.result;
              args = r.args;
              inhabited = r.inhabited;
            }
      ] refl e
    where
      subst_pair : (c : NominalConstructor) → ((c.result == d) && all_inhabited found c.args) ≡ true → (y x : ℕ × List NominalType) → Some y ≡ Some x
          → y.0 ≡ k → y.1 ≡ c.args → Passes found k (c ∷ ds) d x
      subst_pair c t y x g i j =
          let same : y ≡ x = some_same y x g in
          subst (Passes found k (c ∷ ds) d) same (record {
            place = zero;
            constructor = c;
            number = let m = i in omega (arith, m);
            at = refl;
            result = elim (eqb_tells c.result d) [ inl w ↦ w.1 | inr w ↦ let no : (c.result == d) ≡ true = and_left (c.result == d) (all_inhabited found c.args) t in cc ];
            args = sym j;
            inhabited = ap (all_inhabited found) j ∙ and_right (c.result == d) (all_inhabited found c.args) t;
          })
        where
          some_same : (y x : ℕ × List NominalType) → Some y ≡ Some x → y ≡ x
          some_same y x g = cc

  application_good : (found : ℕ → Bool) (by : ℕ → Pick) → ((d : ℕ) → found d ≡ true → (ss : List ℕ) → IsGood (one (base d)) ss (by d ss))
      → (d : ℕ) (x : ℕ × List NominalType) → Passes found 2 cs d x → (ss : List ℕ) → IsGood (one (base d)) ss (constructor_applied x.0 (pick_arguments by n x.1 ss))
  application_good found by h d x r ss =
      let a = arguments_good found by h x.1 r.inhabited ss in
      let number : x.0 ≡ suc (suc r.place) = let m = r.number in omega (arith, m) in
      record {
        typed =
            subst (λ f. IsTyped cs (λ y. None) (terms.app f (embedded (pick_arguments by n x.1 ss).0)) (one (base d))) (sym number)
            (subst (λ (o : Option NominalConstructor). IsApplication (IsTyped cs (λ y. None) (embedded (pick_arguments by n x.1 ss).0)) o d) (sym r.at)
            (r.result, subst (λ us. IsTyped cs (λ y. None) (embedded (pick_arguments by n x.1 ss).0) (arguments us)) (sym r.args) a.typed));
        added = a.added;
        extends = a.extends;
        new = a.new;
      }

  data_good : (r d : ℕ) → reached all_inhabited cs r d ≡ true → (ss : List ℕ) → IsGood (one (base d)) ss (pick_data cs n r d ss)
  data_good zero d e ss = cc
  data_good (suc r) d e ss =
      elim (reached all_inhabited cs r d) as (λ b. reached all_inhabited cs r d ≡ b
      → IsGood (one (base d)) ss (if b then pick_data cs n r d ss else pick_application (pick_data cs n r) n (first_passing (reached all_inhabited cs r) 2 cs d) ss)) [
        | true ↦ λ k. data_good r d k ss
        | false ↦ λ k. chosen (data_good r) (first_passing (reached all_inhabited cs r) 2 cs d) refl
      ] refl
    where
      chosen : ((x : ℕ) → reached all_inhabited cs r x ≡ true → (l : List ℕ) → IsGood (one (base x)) l (pick_data cs n r x l))
          → (o : Option (ℕ × List NominalType)) → first_passing (reached all_inhabited cs r) 2 cs d ≡ o → IsGood (one (base d)) ss (pick_application (pick_data cs n r) n o ss)
      chosen h None g = let no : true ≡ false = sym e ∙ none_passes (reached all_inhabited cs r) 2 cs d g in cc
      chosen h (Some x) g =
          application_good (reached all_inhabited cs r) (pick_data cs n r) h d x (passes (reached all_inhabited cs r) 2 cs d x g) ss

pub picks_typed : PicksAreTyped
picks_typed cs n t h ss =
    let r = data_bound cs in
    let i : inhabited_in cs r t ≡ true = (inhabited_stands_still cs r (are_of_bound cs r (omega arith)) t).1 h in
    let good = type_good cs n (reached all_inhabited cs r) (pick_data cs n r) (data_good cs n r) t i ss in
    record { typed = good.typed; added = good.added; extends = good.extends; names = good.new }
