-- Conditions that are put behind one another, and their set.
use Rattle.std.proofs.Common.{◌≡◌, ◌⊎◌, Bool, true, false, true≢false, ◌&&◌, ◌||◌, List, [], ◌∷◌, ◌++◌, refl, sym, ap, ◌∙◌, append_assoc}
use Rattle.std.proofs.lemmas.List.{append-nil}
use Rattle.std.specs.List.{list_all}
use Rattle.std.specs.Prelude.{Option, Some, None, if◌then◌else◌, is_none}
use Rattle.ap_defs.specs.Freshness.{Conds, add_cond, add_conds, both, cond_before, cond_eq, has_cond, reduce}
use Rattle.ap_defs.specs.Terms.{NominalTerm}
use Rattle.ap_defs.specs.declared.terms.Cond.{Cond}
use Rattle.ap_defs.specs.declared.terms.Name.{Name}
use Rattle.ap_theory.proofs.BooleanLemmas.{or_cases}
use Rattle.ap_theory.proofs.CollectionLemmas.{collected_both}
use Rattle.ap_theory.proofs.ConditionSetLemmas.{add_conds_same, cond_eq_tells, has_cond-append}
use Rattle.ap_theory.proofs.ReductionLemmas.{is_none_reduce}
use Rattle.ap_theory.proofs.UnderLemmas.{fresh_under_reduce}
use Rattle.ap_theory.specs.StatementsOnConditions.{collected, is_free, joined_conditions}
use Rattle.ap_theory.specs.StatementsOnTests.{all_in}
use Rattle.ap_fresh.specs.Reduction.{IsLeast, added}

-- What a problem may tell is that it is refuted, or a condition; one that is refuted tells each.
abbrev pub tells : Option (List Cond) → Option Cond → Bool
tells None e = true
tells (Some cs) None = false
tells (Some cs) (Some c) = has_cond c cs

or_true : (b : Bool) → (b || true) ≡ true
or_true true = refl
or_true false = refl

tells_both : (o p : Option (List Cond)) (e : Option Cond) → tells (both o p) e ≡ (tells o e || tells p e)
tells_both None p e = refl
tells_both (Some cs) None e = sym (or_true (tells (Some cs) e))
tells_both (Some cs) (Some ds) None = refl
tells_both (Some cs) (Some ds) (Some c) = has_cond-append c cs ds

module _ (e : Option Cond) where
  pub left_tells : (o p : Option (List Cond)) → tells o e ≡ true → tells (both o p) e ≡ true
  left_tells o p h = tells_both o p e ∙ ap (λ b. b || tells p e) h

  pub right_tells : (o p : Option (List Cond)) → tells p e ≡ true → tells (both o p) e ≡ true
  right_tells o p h = tells_both o p e ∙ ap (λ b. tells o e || b) h ∙ or_true (tells o e)

  pub one_tells : (o p : Option (List Cond)) → tells (both o p) e ≡ true → (tells o e ≡ true) ⊎ (tells p e ≡ true)
  one_tells o p h = or_cases (tells o e) (tells p e) (sym (tells_both o p e) ∙ h)

pub nothing_told : (e : Option Cond) → tells (Some []) e ≡ true → ⊥
nothing_told None h = true≢false (sym h)
nothing_told (Some c) h = true≢false (sym h)

pub refuted_is : (o : Option (List Cond)) → tells o None ≡ true → o ≡ None
refuted_is None h = refl
refuted_is (Some cs) h = absurd (true≢false (sym h))

-- problems that tell the same have the same set of conditions
pub told_same : (o p : Option (List Cond)) → ((e : Option Cond) → tells o e ≡ tells p e) → collected o ≡ collected p
told_same None None h = refl
told_same None (Some cs) h = absurd (true≢false (h None))
told_same (Some cs) None h = absurd (true≢false (sym (h None)))
told_same (Some cs) (Some ds) h = ap Some (add_conds_same cs ds (λ c. h (Some c)))

or_flip : (a b : Bool) → (a || b) ≡ (b || a)
or_flip true b = sym (or_true b)
or_flip false true = refl
or_flip false false = refl

-- conditions behind others
pub behind_order : (cs ds : List Cond) → added (Some cs) ds ≡ collected (Some (ds ++ cs))
behind_order cs ds =
    told_same (both (Some cs) (Some ds)) (both (Some ds) (Some cs))
    (λ e. tells_both (Some cs) (Some ds) e ∙ or_flip (tells (Some cs) e) (tells (Some ds) e) ∙ sym (tells_both (Some ds) (Some cs) e))

pub both_assoc : (x y z : Option (List Cond)) → both (both x y) z ≡ both x (both y z)
both_assoc None y z = refl
both_assoc (Some cs) None z = refl
both_assoc (Some cs) (Some ds) None = refl
both_assoc (Some cs) (Some ds) (Some es) = ap Some (append_assoc cs ds es)

pub both_nothing : (x : Option (List Cond)) → both x (Some []) ≡ x
both_nothing None = refl
both_nothing (Some cs) = ap Some (append-nil cs)

-- the conditions of both parts, where those of the second one came before
pub added_both : (o p : Option (List Cond)) (ds es fs : List Cond) → added p ds ≡ collected (Some es) → added o es ≡ collected (Some fs) → added (both o p) ds ≡ collected (Some fs)
added_both o p ds es fs h k =
    ap collected (both_assoc o p (Some ds)) ∙ collected_both o (both p (Some ds)) ∙ ap (joined_conditions (collected o)) h ∙ sym (collected_both o (Some es)) ∙ k

-- a problem that is refuted leaves no set
pub added_none : (o : Option (List Cond)) (ds : Conds) → added o ds ≡ None → o ≡ None
added_none None ds h = refl
added_none (Some cs) ds h = cc

pub none_of_both : (o : Option (List Cond)) (ds : Conds) → both o (Some ds) ≡ None → o ≡ None
none_of_both None ds h = refl
none_of_both (Some cs) ds h = cc

pub both_left : (o p : Option (List Cond)) → o ≡ None → both o p ≡ None
both_left None p h = refl
both_left (Some cs) p h = cc

pub both_right : (o p : Option (List Cond)) → p ≡ None → both o p ≡ None
both_right None p h = refl
both_right (Some cs) None h = refl
both_right (Some cs) (Some ds) h = cc

and_twice : (x y : Bool) → (x && y) ≡ (x && (x && y))
and_twice true y = refl
and_twice false y = refl

and_exchange : (x y z : Bool) → (x && (y && z)) ≡ (y && (x && z))
and_exchange true y z = refl
and_exchange false true z = refl
and_exchange false false z = refl

-- a test of each member of a set
list_all-add_cond : (f : Cond → Bool) (c : Cond) (ds : Conds) → list_all f (add_cond c ds) ≡ (f c && list_all f ds)
list_all-add_cond f c [] = refl
list_all-add_cond f c (d ∷ ds) =
    elim (cond_eq c d) as (λ v. cond_eq c d ≡ v → list_all f (if v then (d ∷ ds) else (if cond_before c d then (c ∷ d ∷ ds) else (d ∷ add_cond c ds))) ≡ (f c && (f d && list_all f ds))) [
      | true ↦ λ e. and_twice (f d) (list_all f ds) ∙ ap (λ x. f x && (f d && list_all f ds)) (sym (cond_eq_tells c d e))
      | false ↦ λ e. elim (cond_before c d) as (λ v. list_all f (if v then (c ∷ d ∷ ds) else (d ∷ add_cond c ds)) ≡ (f c && (f d && list_all f ds))) [
        | true ↦ refl
        | false ↦ ap (λ x. f d && x) (list_all-add_cond f c ds) ∙ and_exchange (f d) (f c) (list_all f ds)
      ]
    ] refl

list_all-add_conds : (f : Cond → Bool) (cs : List Cond) → list_all f (add_conds cs []) ≡ list_all f cs
list_all-add_conds f [] = refl
list_all-add_conds f (c ∷ cs) = list_all-add_cond f c (add_conds cs []) ∙ ap (λ x. f c && x) (list_all-add_conds f cs)

least_added : (a : Name) (t : NominalTerm) (o : Option (List Cond)) (cs : Conds) → reduce a t ≡ o → collected o ≡ Some cs → IsLeast a t cs
least_added a t None cs e h = cc
least_added a t (Some bs) cs e h =
    λ ds. fresh_under_reduce ds a t ∙ ap (all_in ds) e ∙ sym (list_all-add_conds (λ c. has_cond c ds) bs) ∙ ap (list_all (λ c. has_cond c ds)) (some_same h)
  where
    some_same : {v w : Conds} → Some v ≡ Some w → v ≡ w
    some_same k = cc

pub collected_least : (a : Name) (t : NominalTerm) (cs : Conds) → collected (reduce a t) ≡ Some cs → IsLeast a t cs
collected_least a t cs h = least_added a t (reduce a t) cs refl h

fresh_added : (o : Option (List Cond)) (cs : Conds) → collected o ≡ Some cs → is_none o ≡ false
fresh_added None cs h = cc
fresh_added (Some bs) cs h = refl

pub collected_fresh : (a : Name) (t : NominalTerm) (cs : Conds) → collected (reduce a t) ≡ Some cs → is_free a t ≡ false
collected_fresh a t cs h = sym (is_none_reduce a t) ∙ fresh_added (reduce a t) cs h

pub refuted_free : (a : Name) (t : NominalTerm) → reduce a t ≡ None → is_free a t ≡ true
refuted_free a t h = sym (is_none_reduce a t) ∙ ap is_none h

-- the set of the conditions that were put behind one another
pub collected_set : (o : Option (List Cond)) (cs : List Cond) → added o [] ≡ collected (Some cs) → collected o ≡ Some (add_conds cs [])
collected_set o cs h = ap collected (sym (both_nothing o)) ∙ h
