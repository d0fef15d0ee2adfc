-- What holds of each store, from its changes.
use Rattle.std.proofs.Common.{◌≡◌, ◌<◌, ◌≤◌, ◌+◌, ℕ, zero, suc, false, List, [], ◌∷◌, ◌||◌, ◌++◌, drop, length, take, get_or, refl, sym, ap, ap₂, ◌∙◌, arith, add-one}
use Rattle.std.proofs.Math.Seq.{drop-cons}
use Rattle.std.proofs.lemmas.List.{length-append, length-map}
use Rattle.std.specs.Prelude.{filter}
use Rattle.std.proofs.lemmas.Bool.Decides.{nat_tests}
use Rattle.ap_defs.specs.Freshness.{Conds, add_conds, var_eq}
use Rattle.ap_defs.specs.Substitution.{Binding, under, ◌:=◌}
use Rattle.ap_defs.specs.Terms.{NominalTerm}
use Rattle.ap_defs.specs.Types.{NominalKind}
use Rattle.ap_defs.specs.declared.terms.Cond.{Cond}
use Rattle.ap_defs.specs.declared.terms.Var.{Var}
use Rattle.ap_defs.specs.Renaming.{AreBindingsBelow}
use Rattle.ap_perm.specs.Lookups.{IsRanked, carried_out}
use Rattle.ap_theory.specs.Variables.{IsUnbound, is_bound}
use Rattle.ap_store.specs.Changes.{Change, Made, Bound, Added, Taken, after, empty, has_on, present_after, replace_conditions, with_bound}
use Rattle.ap_store.specs.Slots.{slot_kind}
use Rattle.ap_store.specs.Triples.{AreOnUnbound, IsPrefixOf, Triple, is_apart, is_on, with_binding, with_conditions}
use Rattle.ap_store.specs.Views.{IsUnchanged, bindings_of, changes, kinds, past, present, rank, raw_bound, versions}
use Rattle.ap_store.specs.WellFormed.{IsWellFormed}
use Rattle.ap_store.specs.declared.store.Store.{Store}
use Rattle.ap_store.proofs.AscendingLemmas.{all_apart, ascending_is_set, on_none}
use Rattle.ap_store.proofs.SoundLemmas as soundness
use Rattle.ap_store.proofs.SoundLemmas.{IsSound, sound}
use Rattle.ap_store.proofs.TrailLemmas.{prefix_is, take_whole, versions_after}

pub store_sound : (s : Store) → IsSound (raw_bound s) (present s) (rank s)
store_sound s = sound (changes s) s.stored.0

pub well_formed : (s : Store) → IsWellFormed (present s)
well_formed s = (store_sound s).well_formed

-- the conditions of a store are the set of its members
pub conditions_are_set : (s : Store) → add_conds (present s).conditions [] ≡ (present s).conditions
conditions_are_set s = ascending_is_set (present s).conditions (well_formed s).ascending

pub store_ranked : (s : Store) → IsRanked (raw_bound s) (rank s)
store_ranked s = s.ranked

-- with every binding followed, a term is what it is under the bindings
pub carried_out_under : (s : Store) (t : NominalTerm) → carried_out (raw_bound s) (rank s) t ≡ under (bindings_of s) t
carried_out_under s t = soundness.carried_out_bound (raw_bound s) (present s) (rank s) (store_sound s) t

-- there is a kind for each number
pub next_counts : (s : Store) → length (kinds s) ≡ (present s).next
next_counts s = length-map s.table.items slot_kind ∙ s.stored.2

pub unbound_beyond : (n : ℕ) (x : Var) (bs : List Binding) → AreBindingsBelow n bs → n ≤ x.num → IsUnbound bs x
unbound_beyond n x [] h l = refl
unbound_beyond n x ((y := t) ∷ bs) h l =
    let k : y.num < n = h.0.0 in
    let e : var_eq x y ≡ false = grind (arith, nat_tests) in
    ap (λ b. b || is_bound x bs) e ∙ unbound_beyond n x bs h.1 l

-- numbers that were not given are unbound
pub unbound_past : (s : Store) (x : Var) → (present s).next ≤ x.num → IsUnbound (bindings_of s) x
unbound_past s x l = unbound_beyond (present s).next x (bindings_of s) (well_formed s).below l

next_rises : (c : Change) (a : Triple) → a.next ≤ (after c a).next
next_rises (Made n) a = omega arith
next_rises (Bound x t) a = omega arith
next_rises (Added c) a = omega arith
next_rises (Taken x cs) a = omega arith

first_is_least : (cs : List Change) (a : Triple) → a.next ≤ (present_after cs a).next
first_is_least [] a = omega arith
first_is_least (c ∷ cs) a = let l : a.next ≤ (after c a).next = next_rises c a in let m : (after c a).next ≤ (present_after cs (after c a)).next = first_is_least cs (after c a) in omega arith

version_is_less : (cs : List Change) (a : Triple) (n : ℕ) (d : Triple) → n < length (versions_after cs a) → (get_or (versions_after cs a) n d).next ≤ (present_after cs a).next
version_is_less [] a zero d l = omega arith
version_is_less [] a (suc n) d l = absurd (omega arith)
version_is_less (c ∷ cs) a zero d l = first_is_least (c ∷ cs) a
version_is_less (c ∷ cs) a (suc n) d l = version_is_less cs (after c a) n d (omega arith)

-- no earlier version had more numbers
pub versions_have_less : (s : Store) (n : ℕ) (d : Triple) → n < length (versions s) → (get_or (versions s) n d).next ≤ (present s).next
versions_have_less s n d l = version_is_less (changes s) empty n d l

-- One more condition is added.
fits_at : (a : Triple) (ds : Conds) (i : ℕ) (d : Cond) → i < length ds → AreOnUnbound a ds → AreOnUnbound a (get_or ds i d ∷ [])
fits_at a [] i d l h = absurd (omega arith)
fits_at a (c ∷ ds) zero d l h = (h.0, tt)
fits_at a (c ∷ ds) (suc i) d l h = fits_at a ds i d (omega arith) h.1

pub one_fits : (a b : Triple) (ds : Conds) (i : ℕ) (d : Cond) → i < length ds → b.next ≡ a.next → b.bindings ≡ a.bindings → AreOnUnbound a ds → AreOnUnbound b (get_or ds i d ∷ [])
one_fits a b ds i d l n f h =
    let k = (fits_at a ds i d l h).0 in
    ((omega (arith, k.0, n), omega (arith, k.1, n), ap (is_bound (get_or ds i d).var) f ∙ k.2), tt)

pub one_more_added : (a b c : Triple) (ds : Conds) (i j : ℕ) (d : Cond) → i ≡ j + 1 → j < length ds → b ≡ with_conditions (drop i ds) a → c ≡ with_conditions (get_or ds j d ∷ []) b → c ≡ with_conditions (drop j ds) a
one_more_added a b c ds i j d e l h k =
    k ∙ ap (with_conditions (get_or ds j d ∷ [])) (h ∙ ap (λ n. with_conditions (drop n ds) a) (e ∙ add-one j)) ∙ ap (λ es. with_conditions es a) (sym (drop-cons ds j d l))

-- where no condition is on x, none is taken out
pub none_taken : (a b : Triple) (x : Var) → b ≡ a → filter (is_on x) a.conditions ≡ [] → b ≡ replace_conditions (filter (is_apart x) a.conditions) a
none_taken a b x e k = e ∙ ap (λ (fs : Conds). replace_conditions fs a) (sym (all_apart x a.conditions k))

-- a variable is bound on which there are no conditions
pub free_bound : (a b : Triple) (x : Var) (t : NominalTerm) → b ≡ a → has_on x a.conditions ≡ false → with_bound x (under b.bindings t) b ≡ with_binding x (under a.bindings t) a
free_bound a b x t e h =
    ap (λ (c : Triple). with_bound x (under c.bindings t) c) e
    ∙ ap (λ (ds : Conds). replace_conditions ds (with_bound x (under a.bindings t) a)) (sym (all_apart x a.conditions (on_none x a.conditions h)))

abbrev last_or : Triple → List Triple → Triple
last_or d [] = d
last_or d (a ∷ as') = last_or a as'

last_is : (d : Triple) (as' : List Triple) (a : Triple) → last_or d (as' ++ a ∷ []) ≡ a
last_is d [] a = refl
last_is d (b ∷ as') a = last_is b as' a

-- a store that went back to where s was
pub gone_back : (s d f : Store) (m : ℕ) → IsPrefixOf (versions s) (versions d) → kinds d ≡ kinds s → m ≡ length (past s) → versions f ≡ take (m + 1) (versions d) → kinds f ≡ take (present f).next (kinds d) → IsUnchanged s f
gone_back s d f m goes same mark back left =
    let l : length (versions s) ≡ m + 1 = omega (arith, length-append (past s) (present s ∷ []), mark) in
    let v : versions f ≡ versions s = back ∙ sym (prefix_is (versions s) (versions d) (m + 1) goes l) in
    let p : present f ≡ present s = sym (last_is empty (past f) (present f)) ∙ ap (last_or empty) v ∙ last_is empty (past s) (present s) in
    (v, left ∙ ap₂ (λ (a : Triple) (ks : List NominalKind). take a.next ks) p same ∙ ap (λ n. take n (kinds s)) (sym (next_counts s)) ∙ take_whole (kinds s))
