-- The hypothesis and the conclusion of a query are typed and scoped as it is.
use Rattle.std.proofs.Common.{◌≡◌, ◌∙◌, ℕ, true, false, ◌||◌, List, [], ◌∷◌, ◌++◌, refl, sym, ap, subst}
use Rattle.std.specs.Prelude.{◌==◌}
use Rattle.ap_defs.specs.Goals.{NominalGoal, atom, both, either, equal, exists, fresh, new, succeed}
use Rattle.ap_defs.specs.Terms.{NominalTerm}
use Rattle.ap_defs.specs.Types.{NominalKind, NominalLocal, NominalType}
use Rattle.ap_program.specs.Typed.{AreMarked, EachOnce, IsScoped, IsTypedGoal, IsTypedQuery, Typing, brought, has_number, is_marked, stands_free, stands_in_term, term_form}
use Rattle.ap_theory.proofs.BooleanLemmas.{or_assoc, or_false}
use Rattle.ap_property.specs.Properties.{before_conclusion, conclusion, hypothesis}
use Rattle.ap_property.specs.StatementsOnProperties.{PartsAreTyped}

numbers_assoc : (xs ys zs : List ℕ) → (xs ++ ys) ++ zs ≡ xs ++ (ys ++ zs)
numbers_assoc [] ys zs = refl
numbers_assoc (x ∷ xs) ys zs = ap (λ l. x ∷ l) (numbers_assoc xs ys zs)

-- What a conjunction brings, and what stands free in it, is in its hypothesis and in its conclusion.
brought_parts : (g h : NominalGoal) → brought (both g h) ≡ brought (before_conclusion g h) ++ brought (conclusion h)
brought_parts g (both h k) = ap (λ l. brought g ++ l) (brought_parts h k) ∙ sym (numbers_assoc (brought g) (brought (before_conclusion h k)) (brought (conclusion k)))
brought_parts g succeed = refl
brought_parts g (atom q ts) = refl
brought_parts g (equal t u) = refl
brought_parts g (fresh t u) = refl
brought_parts g (either h k) = refl
brought_parts g (exists x h) = refl
brought_parts g (new a h) = refl

free_parts : (n : ℕ) (g h : NominalGoal) → stands_free stands_in_term n (both g h)
    ≡ (stands_free stands_in_term n (before_conclusion g h) || stands_free stands_in_term n (conclusion h))
free_parts n g (both h k) =
    ap (λ b. stands_free stands_in_term n g || b) (free_parts n h k)
    ∙ sym (or_assoc (stands_free stands_in_term n g) (stands_free stands_in_term n (before_conclusion h k)) (stands_free stands_in_term n (conclusion k)))
free_parts n g succeed = refl
free_parts n g (atom q ts) = refl
free_parts n g (equal t u) = refl
free_parts n g (fresh t u) = refl
free_parts n g (either h k) = refl
free_parts n g (exists x h) = refl
free_parts n g (new a h) = refl

module _ (typed : Typing NominalTerm) (preds : List (List NominalType)) (kinds : List NominalKind) where
  typed_parts : (g h : NominalGoal) → IsTypedGoal typed preds kinds (both g h)
      → IsTypedGoal typed preds kinds (before_conclusion g h) × IsTypedGoal typed preds kinds (conclusion h)
  typed_parts g (both h k) i = let r = typed_parts h k i.1 in ((i.0, r.0), r.1)
  typed_parts g succeed i = i
  typed_parts g (atom q ts) i = i
  typed_parts g (equal t u) i = i
  typed_parts g (fresh t u) i = i
  typed_parts g (either h k) i = i
  typed_parts g (exists x h) i = i
  typed_parts g (new a h) i = i

-- Parts of lists.
once_front : (xs ys : List ℕ) → EachOnce (xs ++ ys) → EachOnce xs
once_front [] ys h = tt
once_front (x ∷ xs) ys h = (not_in xs h.0, once_front xs ys h.1)
  where
    not_in : (zs : List ℕ) → has_number x (zs ++ ys) ≡ false → has_number x zs ≡ false
    not_in [] k = refl
    not_in (z ∷ zs) k = elim (x == z) as (λ b. (b || has_number x (zs ++ ys)) ≡ false → (b || has_number x zs) ≡ false) [ true ↦ λ i. i | false ↦ λ i. not_in zs i ] k

once_back : (xs ys : List ℕ) → EachOnce (xs ++ ys) → EachOnce ys
once_back [] ys h = h
once_back (x ∷ xs) ys h = once_back xs ys h.1

module _ (locals : List NominalLocal) where
  marked_front : (xs ys : List ℕ) → AreMarked locals (xs ++ ys) → AreMarked locals xs
  marked_front [] ys h = tt
  marked_front (x ∷ xs) ys h = (h.0, marked_front xs ys h.1)

  marked_back : (xs ys : List ℕ) → AreMarked locals (xs ++ ys) → AreMarked locals ys
  marked_back [] ys h = h
  marked_back (x ∷ xs) ys h = marked_back xs ys h.1

  scoped_parts : (g h : NominalGoal) → IsScoped stands_in_term locals [] (both g h)
      → IsScoped stands_in_term locals [] (before_conclusion g h) × IsScoped stands_in_term locals [] (conclusion h)
  scoped_parts g h s =
      let xs = brought (before_conclusion g h) in
      let ys = brought (conclusion h) in
      let marked = subst (AreMarked locals) (brought_parts g h) s.marked in
      let once = subst EachOnce (brought_parts g h) s.once in
      let inside = λ (n : ℕ) (i : is_marked locals n ≡ true).
      or_false (stands_free stands_in_term n (before_conclusion g h)) (stands_free stands_in_term n (conclusion h)) (sym (free_parts n g h) ∙ (s.inside n i).1) in (
        record { marked = marked_front xs ys marked; once = once_front xs ys once; inside = λ n i. (refl, (inside n i).0) },
        record { marked = marked_back xs ys marked; once = once_back xs ys once; inside = λ n i. (refl, (inside n i).1) },
      )

pub parts_typed : PartsAreTyped
parts_typed p q h = both_typed q.goal h
  where
    both_typed : (g : NominalGoal) → IsTypedQuery term_form p.signature (record q { goal = g })
        → IsTypedQuery term_form p.signature (record q { goal = hypothesis g }) × IsTypedQuery term_form p.signature (record q { goal = conclusion g })
    both_typed (both g k) i =
        let t = typed_parts _ _ _ g k i.0 in
        let s = scoped_parts q.locals g k i.2 in
        ((t.0, i.1, s.0), (t.1, i.1, s.1))
    both_typed succeed i = (i, i)
    both_typed (atom r ts) i = (i, i)
    both_typed (equal t u) i = (i, i)
    both_typed (fresh t u) i = (i, i)
    both_typed (either g k) i = (i, i)
    both_typed (exists x g) i = (i, i)
    both_typed (new a g) i = (i, i)
