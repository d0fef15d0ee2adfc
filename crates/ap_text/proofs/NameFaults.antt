-- A program that keeps the name restriction has no name fault, and another has one.
use Rattle.std.proofs.Common.{◌≡◌, ◌≤◌, ◌<◌, ◌⊎◌, inl, inr, ℕ, List, [], ◌∷◌, ◌++◌, refl, sym, ap, subst, ◌∙◌}
use Rattle.std.proofs.lemmas.Bool.{cases_lt}
use Rattle.ap_defs.specs.declared.terms.Name.{Name}
use Rattle.ap_defs.specs.declared.terms.Var.{Var}
use Rattle.ap_defs.specs.Types.{NominalConstructor}
use Rattle.ap_defs.specs.Goals.{NominalClause}
use Rattle.ap_defs.specs.declared.faults.NameFault.{NameFault}
use Rattle.ap_defs.specs.declared.faults.NameKind.{NameKind}
use Rattle.ap_program.specs.CarryingOut.{carried_out, map_clause}
use Rattle.ap_program.specs.NameRestriction.{RawItem, clause, query, item_number, item_locals, binders_in, places_in, Passes, AreFreshForHead, IsFirstNotFresh, IsHeadName, free_names_of, IsFirst, IsWrong, variable_binder, variable_swap, head_name, IsFaultOf, PassUpTo, PassBelow, IsFirstFault, AllPass, spelling_at}

-- an item that is wrong doesn't pass
no_first : (x : Var) (xs : List Var) → IsFirst x xs → xs ≡ [] → ⊥
no_first x [] h e = h
no_first x (y ∷ ys) h e = absurd (cc)

all_fresh : (cs : List NominalConstructor) (c : NominalClause) (as' : List Name) (a : Name) → AreFreshForHead cs c as' → IsFirstNotFresh cs c as' a → ⊥
all_fresh cs c [] a h k = k
all_fresh cs c (b ∷ bs) a h (inl k) = k.1 h.0
all_fresh cs c (b ∷ bs) a h (inr k) = all_fresh cs c bs a h.1 k.1

wrong_fails : (cs : List NominalConstructor) (i : RawItem) (kind : NameKind) (n : ℕ) → IsWrong cs i kind n → Passes cs i → ⊥
wrong_fails cs i _ _ (variable_binder x first) h = no_first x (binders_in i) first h.0.0
wrong_fails cs i _ _ (variable_swap x none first) h = no_first x (places_in i) first h.0.1
wrong_fails cs (clause c) _ _ (head_name a alone first) h = all_fresh cs (map_clause carried_out c) (free_names_of c) a h.1 first
wrong_fails cs (query q) _ _ (head_name a alone first) h = first

fault_fails : (cs : List NominalConstructor) (i : RawItem) (f : NameFault) → IsFaultOf cs i f → Passes cs i → ⊥
fault_fails cs i f h passes = wrong_fails cs i f.kind h.wrong.0 h.wrong.1 passes

-- an item is wrong in one way
first_one : (x y : Var) (xs : List Var) → IsFirst x xs → IsFirst y xs → x ≡ y
first_one x y [] h k = absurd h
first_one x y (z ∷ zs) h k = h ∙ sym k

not_fresh_one : (cs : List NominalConstructor) (c : NominalClause) (as' : List Name) (a b : Name) → IsFirstNotFresh cs c as' a → IsFirstNotFresh cs c as' b → a ≡ b
not_fresh_one cs c [] a b h k = absurd h
not_fresh_one cs c (d ∷ ds) a b (inl h) (inl k) = h.0 ∙ sym k.0
not_fresh_one cs c (d ∷ ds) a b (inl h) (inr k) = absurd (h.1 k.0)
not_fresh_one cs c (d ∷ ds) a b (inr h) (inl k) = absurd (k.1 h.0)
not_fresh_one cs c (d ∷ ds) a b (inr h) (inr k) = not_fresh_one cs c ds a b h.1 k.1

head_one : (cs : List NominalConstructor) (i : RawItem) (a b : Name) → IsHeadName cs i a → IsHeadName cs i b → a ≡ b
head_one cs (clause c) a b h k = not_fresh_one cs (map_clause carried_out c) (free_names_of c) a b h k
head_one cs (query q) a b h k = absurd h

wrong_one : (cs : List NominalConstructor) (i : RawItem) (kind : NameKind) (n : ℕ) (other : NameKind) (m : ℕ) → IsWrong cs i kind n → IsWrong cs i other m → (kind ≡ other) × (n ≡ m)
wrong_one cs i _ _ _ _ (variable_binder x h) (variable_binder y k) = (refl, ap (λ v. v.num) (first_one x y (binders_in i) h k))
wrong_one cs i _ _ _ _ (variable_binder x h) (variable_swap y none k) = absurd (no_first x (binders_in i) h none)
wrong_one cs i _ _ _ _ (variable_binder x h) (head_name b alone k) = absurd (no_first x (binders_in i) h alone.0)
wrong_one cs i _ _ _ _ (variable_swap x none h) (variable_binder y k) = absurd (no_first y (binders_in i) k none)
wrong_one cs i _ _ _ _ (variable_swap x none h) (variable_swap y none' k) = (refl, ap (λ v. v.num) (first_one x y (places_in i) h k))
wrong_one cs i _ _ _ _ (variable_swap x none h) (head_name b alone k) = absurd (no_first x (places_in i) h alone.1)
wrong_one cs i _ _ _ _ (head_name a alone h) (variable_binder y k) = absurd (no_first y (binders_in i) k alone.0)
wrong_one cs i _ _ _ _ (head_name a alone h) (variable_swap y none k) = absurd (no_first y (places_in i) k alone.1)
wrong_one cs i _ _ _ _ (head_name a alone h) (head_name b alone' k) = (refl, ap (λ v. v.num) (head_one cs i a b h k))

same_fault : (f g : NameFault) → f.place ≡ g.place → f.kind ≡ g.kind → f.name ≡ g.name → f ≡ g
same_fault f g a b c = λ j. record { place = a j; kind = b j; name = c j }

item_fault_one : (cs : List NominalConstructor) (i : RawItem) (f g : NameFault) → IsFaultOf cs i f → IsFaultOf cs i g → f ≡ g
item_fault_one cs i f g h k =
    let both = wrong_one cs i f.kind h.wrong.0 g.kind k.wrong.0 h.wrong.1 k.wrong.1 in
    same_fault f g (h.place ∙ sym k.place) both.0 (h.wrong.2 ∙ ap (spelling_at (item_locals i)) both.1 ∙ sym k.wrong.2)

-- the first item that fails is one
passes_below : (cs : List NominalConstructor) (n : ℕ) (before : List RawItem) (at : RawItem) (after : List RawItem) → PassBelow cs n (before ++ at ∷ after) → item_number at < n → Passes cs at
passes_below cs n [] at after h l = h.0 l
passes_below cs n (i ∷ before) at after h l = passes_below cs n before at after h.1 l

passes_in : (cs : List NominalConstructor) (before : List RawItem) (at : RawItem) (after : List RawItem) → AllPass cs (before ++ at ∷ after) → Passes cs at
passes_in cs [] at after h = h.0
passes_in cs (i ∷ before) at after h = passes_in cs before at after h.1

-- two items fail, and the one can't stand before the other
apart_by : (cs : List NominalConstructor) (i j : RawItem) (f g : NameFault) → IsFaultOf cs i f → IsFaultOf cs j g
    → (item_number i ≤ g.place.item → Passes cs i) → (item_number j < f.place.item → Passes cs j)
    → (item_number j < item_number i) ⊎ (item_number i ≤ item_number j) → ⊥
apart_by cs i j f g h k up below (inl l) = fault_fails cs j g k (below (subst (λ n. item_number j < n) (sym (ap (λ p. p.item) h.place)) l))
apart_by cs i j f g h k up below (inr l) = fault_fails cs i f h (up (subst (λ n. item_number i ≤ n) (sym (ap (λ p. p.item) k.place)) l))

apart : (cs : List NominalConstructor) (i j : RawItem) (f g : NameFault) → IsFaultOf cs i f → IsFaultOf cs j g
    → (item_number i ≤ g.place.item → Passes cs i) → (item_number j < f.place.item → Passes cs j) → ⊥
apart cs i j f g h k up below = apart_by cs i j f g h k up below (cases_lt (item_number j) (item_number i))

head_same : (x y : RawItem) (xs ys : List RawItem) → x ∷ xs ≡ y ∷ ys → x ≡ y
head_same x y xs ys same = cc

tail_same : (x y : RawItem) (xs ys : List RawItem) → x ∷ xs ≡ y ∷ ys → xs ≡ ys
tail_same x y xs ys same = cc

-- where two lists with an item that fails are one list, these items are one
one_place : (cs : List NominalConstructor) (f g : NameFault) (b : List RawItem) (i : RawItem) (a : List RawItem) (d : List RawItem) (j : RawItem) (e : List RawItem)
    → b ++ i ∷ a ≡ d ++ j ∷ e → IsFaultOf cs i f → IsFaultOf cs j g
    → PassUpTo cs f.place.item b → PassBelow cs f.place.item a → PassUpTo cs g.place.item d → PassBelow cs g.place.item e → i ≡ j
one_place cs f g [] i a [] j e same h k ub la vd le = head_same _ _ _ _ same
one_place cs f g [] i a (x ∷ d) j e same h k ub la vd le =
    let first : i ≡ x = head_same _ _ _ _ same in
    let after : a ≡ d ++ j ∷ e = tail_same _ _ _ _ same in
    absurd (apart cs i j f g h k
    (λ l. subst (Passes cs) (sym first) (vd.0 (subst (λ y. item_number y ≤ g.place.item) first l)))
    (λ l. passes_below cs f.place.item d j e (subst (PassBelow cs f.place.item) after la) l))
one_place cs f g (x ∷ b) i a [] j e same h k ub la vd le =
    let first : x ≡ j = head_same _ _ _ _ same in
    let after : b ++ i ∷ a ≡ e = tail_same _ _ _ _ same in
    absurd (apart cs j i g f k h
    (λ l. subst (Passes cs) first (ub.0 (subst (λ y. item_number y ≤ f.place.item) (sym first) l)))
    (λ l. passes_below cs g.place.item b i a (subst (PassBelow cs g.place.item) (sym after) le) l))
one_place cs f g (x ∷ b) i a (y ∷ d) j e same h k ub la vd le = one_place cs f g b i a d j e (tail_same _ _ _ _ same) h k ub.1 la vd.1 le

pub name_fault_one : (cs : List NominalConstructor) (items : List RawItem) (f g : NameFault) → IsFirstFault cs items f → IsFirstFault cs items g → f ≡ g
name_fault_one cs items f g h k =
    let place : h.at ≡ k.at = one_place cs f g h.before h.at h.after k.before k.at k.after (sym h.place ∙ k.place) h.fault k.fault h.earlier h.later k.earlier k.later in
    item_fault_one cs k.at f g (subst (λ i. IsFaultOf cs i f) place h.fault) k.fault

pub passes_or_fault : (cs : List NominalConstructor) (items : List RawItem) (f : NameFault) → AllPass cs items → IsFirstFault cs items f → ⊥
passes_or_fault cs items f h k = fault_fails cs k.at f k.fault (passes_in cs k.before k.at k.after (subst (AllPass cs) k.place h))
