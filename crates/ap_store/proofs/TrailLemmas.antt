-- One more change behind others.
use Rattle.std.proofs.Common.{◌≡◌, ◌≤◌, ℕ, zero, suc, ◌+◌, List, [], ◌∷◌, ◌++◌, length, take, refl, sym, ap, ap₂, ◌∙◌, subst, arith, append_assoc, append-nil}
use Rattle.std.proofs.lemmas.List.{length-append, take-append-le}
use Rattle.ap_defs.specs.declared.terms.Cond.{Cond}
use Rattle.ap_perm.specs.Lookups as lookups
use Rattle.ap_store.specs.Changes.{AreChanges, Change, Made, Bound, Added, Taken, IsChange, after, empty, past_after, present_after}
use Rattle.ap_store.specs.Trails.{AreTakenHeld, IsTakenHeld, held_after, held_step, raw_after, raw_step}
use Rattle.ap_store.specs.Triples.{IsPrefixOf, Triple}

pub present_more : (cs : List Change) (c : Change) (a : Triple) → present_after (cs ++ c ∷ []) a ≡ after c (present_after cs a)
present_more [] c a = refl
present_more (d ∷ cs) c a = present_more cs c (after d a)

pub past_more : (cs : List Change) (c : Change) (a : Triple) → past_after (cs ++ c ∷ []) a ≡ past_after cs a ++ present_after cs a ∷ []
past_more [] c a = refl
past_more (d ∷ cs) c a = ap (λ (ts : List Triple). a ∷ ts) (past_more cs c (after d a))

pub past_length : (cs : List Change) (a : Triple) → length (past_after cs a) ≡ length cs
past_length [] a = refl
past_length (c ∷ cs) a = ap suc (past_length cs (after c a))

pub changes_more : (cs : List Change) (c : Change) (a : Triple) → AreChanges cs a → IsChange c (present_after cs a) → AreChanges (cs ++ c ∷ []) a
changes_more [] c a h k = (k, tt)
changes_more (d ∷ cs) c a h k = (h.0, changes_more cs c (after d a) h.1 k)

pub changes_less : (cs : List Change) (c : Change) (a : Triple) → AreChanges (cs ++ c ∷ []) a → AreChanges cs a × IsChange c (present_after cs a)
changes_less [] c a h = (tt, h.0)
changes_less (d ∷ cs) c a h = let k = changes_less cs c (after d a) h.1 in ((h.0, k.0), k.1)

pub kept_more : (cs : List Change) (c : Change) (k : ℕ → List Cond) → held_after (cs ++ c ∷ []) k ≡ held_step c (held_after cs k)
kept_more [] c k = refl
kept_more (d ∷ cs) c k = kept_more cs c (held_step d k)

pub raw_more : (cs : List Change) (c : Change) (b : lookups.Bound) → raw_after (cs ++ c ∷ []) b ≡ raw_step c (raw_after cs b)
raw_more [] c b = refl
raw_more (d ∷ cs) c b = raw_more cs c (raw_step d b)

pub linked_more : (cs : List Change) (c : Change) (k : ℕ → List Cond) → AreTakenHeld cs k → IsTakenHeld c (held_after cs k) → AreTakenHeld (cs ++ c ∷ []) k
linked_more [] c k h l = (l, tt)
linked_more (d ∷ cs) c k h l = (h.0, linked_more cs c (held_step d k) h.1 l)

pub linked_less : (cs : List Change) (c : Change) (k : ℕ → List Cond) → AreTakenHeld (cs ++ c ∷ []) k → AreTakenHeld cs k × IsTakenHeld c (held_after cs k)
linked_less [] c k h = (tt, h.0)
linked_less (d ∷ cs) c k h = let l = linked_less cs c (held_step d k) h.1 in ((h.0, l.0), l.1)

abbrev pub versions_after : List Change → Triple → List Triple
versions_after cs a = past_after cs a ++ present_after cs a ∷ []

pub versions_more : (cs : List Change) (c : Change) (a : Triple) → versions_after (cs ++ c ∷ []) a ≡ versions_after cs a ++ after c (present_after cs a) ∷ []
versions_more cs c a = ap₂ (λ (ts : List Triple) (b : Triple). ts ++ b ∷ []) (past_more cs c a) (present_more cs c a)

pub versions_new : (cs ts : List Change) (c : Change) (a : Triple) → ts ≡ cs ++ c ∷ [] → versions_after ts a ≡ versions_after cs a ++ present_after ts a ∷ []
versions_new cs ts c a e = ap (λ (us : List Triple). us ++ present_after ts a ∷ []) (ap (λ (ds : List Change). past_after ds a) e ∙ past_more cs c a)

pub present_new : (cs ts : List Change) (c : Change) (a : Triple) → ts ≡ cs ++ c ∷ [] → present_after ts a ≡ after c (present_after cs a)
present_new cs ts c a e = ap (λ (ds : List Change). present_after ds a) e ∙ present_more cs c a

pub goes_on_both : (as' bs cs : List Triple) → IsPrefixOf as' bs → IsPrefixOf bs cs → IsPrefixOf as' cs
goes_on_both as' bs cs (ds, e) (es, f) = (ds ++ es, f ∙ ap (λ (ts : List Triple). ts ++ es) e ∙ append_assoc as' ds es)

pub goes_on_one : (as' bs : List Triple) (a : Triple) → bs ≡ as' ++ a ∷ [] → IsPrefixOf as' bs
goes_on_one as' bs a e = (a ∷ [], e)

pub goes_on_none : (as' bs : List Triple) → bs ≡ as' → IsPrefixOf as' bs
goes_on_none as' bs e = ([], e ∙ sym (append-nil as'))

pub take_whole : {A : Type 0} (xs : List A) → take (length xs) xs ≡ xs
take_whole [] = refl
take_whole (x ∷ xs) = ap (λ ys. x ∷ ys) (take_whole xs)

take_fewer : {A : Type 0} (m n : ℕ) (xs : List A) → m ≤ n → take m (take n xs) ≡ take m xs
take_fewer zero n xs l = refl
take_fewer (suc m) zero xs l = absurd (omega arith)
take_fewer (suc m) (suc n) [] l = refl
take_fewer (suc m) (suc n) (x ∷ xs) l = ap (λ ys. x ∷ ys) (take_fewer m n xs (omega arith))

pub take_further : {A : Type 0} (m n : ℕ) (xs ys zs : List A) → xs ≡ take m ys → ys ≡ take n zs → m ≤ n → xs ≡ take m zs
take_further m n xs ys zs e f l = e ∙ ap (take m) f ∙ take_fewer m n zs l

-- a prefix of versions is what is left of them up to its length
pub prefix_is : (as' bs : List Triple) (n : ℕ) → IsPrefixOf as' bs → length as' ≡ n → as' ≡ take n bs
prefix_is as' bs n (cs, e) f =
    let l : n ≤ length as' = omega (arith, f) in
    sym (ap (take n) e ∙ take-append-le n as' cs l ∙ ap (λ m. take m as') (sym f) ∙ take_whole as')

pub versions_length : (cs : List Change) (a : Triple) → length (versions_after cs a) ≡ length cs + 1
versions_length cs a = omega (arith, length-append (past_after cs a) (present_after cs a ∷ []), past_length cs a)

-- The last change is undone.
module _ (cs ds : List Change) (c : Change) (e : ds ≡ cs ++ c ∷ []) where
  pub versions_last : versions_after ds empty ≡ versions_after cs empty ++ present_after ds empty ∷ []
  versions_last = versions_new cs ds c empty e

  pub next_last : (present_after cs empty).next ≤ (present_after ds empty).next
  next_last = let k : present_after ds empty ≡ after c (present_after cs empty) = present_new cs ds c empty e in subst (λ (a : Triple). (present_after cs empty).next ≤ a.next) (sym k) (rises c (present_after cs empty))
    where
      rises : (d : Change) (a : Triple) → a.next ≤ (after d a).next
      rises (Made n) a = omega arith
      rises (Bound x t) a = omega arith
      rises (Added d) a = omega arith
      rises (Taken x es) a = omega arith
