-- New names, exchanges of two lists of names, and extensions of finite injections.
use Rattle.std.proofs.Common.{subst, ◌≡◌, ◌≢◌, ◌<◌, ◌≤◌, ℕ, suc, true, false, List, [], ◌∷◌, ◌++◌, map, refl, sym, ap, ap₂, ◌∙◌, inl, inr, arith, true≢false}
use Rattle.std.proofs.lemmas.Bool.Decides.{leb_tells}
use Rattle.ap_defs.specs.GroundProofs.{AreDifferent, AreOfSorts}
use Rattle.ap_defs.specs.Permutations.{IsSamePerm, act_name, has_name, name_eq, swap_name, swap_of}
use Rattle.ap_defs.specs.declared.terms.Name.{Name}
use Rattle.ap_theory.specs.Exchanges.{AreApart, exchange, extension, new_names, number_above, renumbered}
use Rattle.ap_theory.specs.StatementsOnExchanges.{Exchangeable}
use Rattle.ap_theory.proofs.BooleanLemmas.{false_if_not, or_cases, or_false, or_if_right}
use Rattle.ap_theory.proofs.DisagreementLemmas.{has_front, has_name-append}
use Rattle.ap_theory.proofs.PermutationLemmas.{act-append, name_eq_itself, name_eq_same, swap_flip, swap_left, swap_other}

number_above_from : (as' : List Name) (m : ℕ) → m ≤ number_above as' m
number_above_from [] m = omega arith
number_above_from (a ∷ as') m =
    let h : m ≤ number_above as' m = number_above_from as' m in
    elim (leb_tells (suc a.num) (number_above as' m)) [ inl w ↦ rw w.0 h | inr w ↦ rw w.0 (let k = w.1 in omega arith) ]

number_above_each : (as' : List Name) (m : ℕ) (a : Name) → has_name a as' ≡ true → a.num < number_above as' m
number_above_each [] m a h = cc
number_above_each (b ∷ bs) m a h =
    elim (or_cases (name_eq a b) (has_name a bs) h) [
      | inl e ↦ subst (λ (c : Name). c.num < number_above (b ∷ bs) m) (sym (name_eq_same a b e)) (above_first b bs m)
      | inr e ↦
          let l : a.num < number_above bs m = number_above_each bs m a e in
          elim (leb_tells (suc b.num) (number_above bs m)) [ inl w ↦ rw w.0 l | inr w ↦ rw w.0 (let k = w.1 in omega arith) ]
    ]
  where
    above_first : (b : Name) (bs : List Name) (m : ℕ) → b.num < number_above (b ∷ bs) m
    above_first b bs m = elim (leb_tells (suc b.num) (number_above bs m)) [ inl w ↦ rw w.0 (let k = w.1 in omega arith) | inr w ↦ rw w.0 (omega arith) ]

renumbered_from : (cs : List Name) (n : ℕ) (a : Name) → has_name a (renumbered cs n) ≡ true → n ≤ a.num
renumbered_from [] n a h = cc
renumbered_from (c ∷ cs) n a h =
    elim (or_cases (name_eq a (record { sort = c.sort; num = n })) (has_name a (renumbered cs (suc n))) h) [
      | inl e ↦ let k : a.num ≡ n = ap (λ x. x.num) (name_eq_same a (record { sort = c.sort; num = n }) e) in omega arith
      | inr e ↦ let k : suc n ≤ a.num = renumbered_from cs (suc n) a e in omega arith
    ]

renumbered_sorts : (cs : List Name) (n : ℕ) → AreOfSorts cs (renumbered cs n)
renumbered_sorts [] n = tt
renumbered_sorts (c ∷ cs) n = (refl, renumbered_sorts cs (suc n))

renumbered_different : (cs : List Name) (n : ℕ) → AreDifferent (renumbered cs n)
renumbered_different [] n = tt
renumbered_different (c ∷ cs) n =
    (false_if_not _ (λ h. let k : suc n ≤ n = renumbered_from cs (suc n) (record { sort = c.sort; num = n }) h in omega arith), renumbered_different cs (suc n))

pub new_names_sorts : (cs as' : List Name) (m : ℕ) → AreOfSorts cs (new_names cs as' m)
new_names_sorts cs as' m = renumbered_sorts cs (number_above as' m)

pub new_names_different : (cs as' : List Name) (m : ℕ) → AreDifferent (new_names cs as' m)
new_names_different cs as' m = renumbered_different cs (number_above as' m)

pub new_names_apart : (cs as' : List Name) (m : ℕ) → AreApart (new_names cs as' m) as'
new_names_apart cs as' m a h =
    let low : number_above as' m ≤ a.num = renumbered_from cs (number_above as' m) a h in
    false_if_not (has_name a as') (λ k. let high : a.num < number_above as' m = number_above_each as' m a k in omega arith)

pub new_names_high : (cs as' : List Name) (m : ℕ) (a : Name) → has_name a (new_names cs as' m) ≡ true → m ≤ a.num
new_names_high cs as' m a h =
    let low : number_above as' m ≤ a.num = renumbered_from cs (number_above as' m) a h in
    let from : m ≤ number_above as' m = number_above_from as' m in
    omega arith

-- Lists of names.
sorts_flip : (cs ds : List Name) → AreOfSorts cs ds → AreOfSorts ds cs
sorts_flip [] [] h = tt
sorts_flip (c ∷ cs) (d ∷ ds) h = (sym h.0, sorts_flip cs ds h.1)
sorts_flip _ _ h = absurd h

sorts_trans : (bs cs ds : List Name) → AreOfSorts bs cs → AreOfSorts cs ds → AreOfSorts bs ds
sorts_trans [] [] [] h k = tt
sorts_trans (b ∷ bs) (c ∷ cs) (d ∷ ds) h k = (k.0 ∙ h.0, sorts_trans bs cs ds h.1 k.1)
sorts_trans [] [] _ h k = absurd k
sorts_trans (b ∷ bs) (c ∷ cs) [] h k = absurd k
sorts_trans _ _ _ h k = absurd h

apart_flip : (cs ds : List Name) → AreApart cs ds → AreApart ds cs
apart_flip cs ds h a m = false_if_not (has_name a cs) (λ k. true≢false (sym m ∙ h a k))

map_fixed : (f : Name → Name) (as' : List Name) → ((a : Name) → has_name a as' ≡ true → f a ≡ a) → map f as' ≡ as'
map_fixed f [] h = refl
map_fixed f (a ∷ as') h = ap₂ ◌∷◌ (h a (has_front a as')) (map_fixed f as' (λ b m. h b (or_if_right (name_eq b a) (has_name b as') m)))

map_after : (f g : Name → Name) (as' : List Name) → map (λ a. f (g a)) as' ≡ map f (map g as')
map_after f g [] = refl
map_after f g (a ∷ as') = ap (λ bs. f (g a) ∷ bs) (map_after f g as')

map_same : (f g : Name → Name) (as' : List Name) → ((a : Name) → f a ≡ g a) → map f as' ≡ map g as'
map_same f g [] h = refl
map_same f g (a ∷ as') h = ap₂ ◌∷◌ (h a) (map_same f g as' h)

first_or : Name → List Name → Name
first_or a [] = a
first_or a (b ∷ bs) = b

rest_of : List Name → List Name
rest_of [] = []
rest_of (b ∷ bs) = bs

fixed_map : (f : Name → Name) (as' : List Name) → map f as' ≡ as' → (a : Name) → has_name a as' ≡ true → f a ≡ a
unfolding first_or rest_of
fixed_map f [] h a m = cc
fixed_map f (b ∷ bs) h a m =
    elim (or_cases (name_eq a b) (has_name a bs) m) [
      | inl e ↦ ap f (name_eq_same a b e) ∙ ap (first_or a) h ∙ sym (name_eq_same a b e)
      | inr e ↦ fixed_map f bs (ap rest_of h) a e
    ]

not_has : (a b : Name) (bs : List Name) → has_name a (b ∷ bs) ≡ false → a ≢ b
not_has a b bs h e = true≢false (sym (ap (name_eq a) (sym e) ∙ name_eq_itself a) ∙ (or_false (name_eq a b) (has_name a bs) h).0)

not_has_later : (a b : Name) (bs : List Name) → has_name a (b ∷ bs) ≡ false → has_name a bs ≡ false
not_has_later a b bs h = (or_false (name_eq a b) (has_name a bs) h).1

-- a member differs from what is no member
member_apart : (a b : Name) (bs : List Name) → has_name b bs ≡ false → has_name a bs ≡ true → a ≢ b
member_apart a b bs h m e = true≢false (sym m ∙ ap (λ x. has_name x bs) e ∙ h)

-- An exchange.
pub exchange_other : (cs ds : List Name) (a : Name) → AreOfSorts cs ds → has_name a cs ≡ false → has_name a ds ≡ false → act_name (exchange cs ds) a ≡ a
exchange_other [] [] a s h k = refl
exchange_other (c ∷ cs) (d ∷ ds) a s h k =
    ap (swap_name (swap_of c d)) (exchange_other cs ds a s.1 (not_has_later a c cs h) (not_has_later a d ds k))
    ∙ swap_other c d a (sym s.0) (not_has a c cs h) (not_has a d ds k)
exchange_other _ _ a s h k = absurd s

-- what is apart from two lists is apart from their ends
apart_ends : (c : Name) (cs : List Name) (d : Name) (ds : List Name) → AreApart (c ∷ cs) (d ∷ ds) → AreApart cs ds
apart_ends c cs d ds p a m = not_has_later a d ds (p a (or_if_right (name_eq a c) (has_name a cs) m))

pub exchange_goes : (cs ds : List Name) → Exchangeable cs ds → map (act_name (exchange cs ds)) cs ≡ ds
exchange_goes [] [] h = refl
exchange_goes (c ∷ cs) (d ∷ ds) h =
    let e = exchange cs ds in
    let s = swap_of c d in
    let off : has_name c ds ≡ false = not_has_later c d ds (h.3 c (has_front c cs)) in
    ap₂ ◌∷◌
    (ap (swap_name s) (exchange_other cs ds c h.0.1 h.1.0 off) ∙ swap_left c d (sym h.0.0))
    (map_after (swap_name s) (act_name e) cs
    ∙ ap (map (swap_name s)) (exchange_goes cs ds (h.0.1, h.1.1, h.2.1, apart_ends c cs d ds h.3))
    ∙ map_fixed (swap_name s) ds (λ a m. swap_other c d a (sym h.0.0) (member_apart a c ds off m) (member_apart a d ds h.2.0 m)))
exchange_goes _ _ h = absurd h.0

-- it doesn't matter which list comes first
exchange_flip : (cs ds : List Name) → AreOfSorts cs ds → IsSamePerm (exchange cs ds) (exchange ds cs)
exchange_flip [] [] s a = refl
exchange_flip (c ∷ cs) (d ∷ ds) s a = ap (swap_name (swap_of c d)) (exchange_flip cs ds s.1 a) ∙ swap_flip c d (act_name (exchange ds cs) a) (sym s.0)
exchange_flip _ _ s a = absurd s

pub exchange_comes_back : (cs ds : List Name) → Exchangeable cs ds → map (act_name (exchange cs ds)) ds ≡ cs
exchange_comes_back cs ds h =
    map_same (act_name (exchange cs ds)) (act_name (exchange ds cs)) ds (exchange_flip cs ds h.0)
    ∙ exchange_goes ds cs (sorts_flip cs ds h.0, h.2, h.1, apart_flip cs ds h.3)

pub exchange_exchange : (cs ds : List Name) → Exchangeable cs ds → IsSamePerm (exchange cs ds ++ exchange cs ds) []
exchange_exchange cs ds h a =
    let e = exchange cs ds in
    let there : map (λ b. act_name e (act_name e b)) cs ≡ cs = map_after (act_name e) (act_name e) cs ∙ ap (map (act_name e)) (exchange_goes cs ds h) ∙ exchange_comes_back cs ds h in
    let back : map (λ b. act_name e (act_name e b)) ds ≡ ds = map_after (act_name e) (act_name e) ds ∙ ap (map (act_name e)) (exchange_comes_back cs ds h) ∙ exchange_goes cs ds h in
    act-append e e a
    ∙ elim (has_name a cs) as (λ v. has_name a cs ≡ v → act_name e (act_name e a) ≡ a) [
      | true ↦ λ m. fixed_map (λ b. act_name e (act_name e b)) cs there a m
      | false ↦ λ n. elim (has_name a ds) as (λ v. has_name a ds ≡ v → act_name e (act_name e a) ≡ a) [
        | true ↦ λ m. fixed_map (λ b. act_name e (act_name e b)) ds back a m
        | false ↦ λ k. let f = exchange_other cs ds a h.0 n k in ap (act_name e) f ∙ f
      ] refl
    ] refl

-- An extension of a finite injection.
abbrev Between : List Name → List Name → ℕ → List Name
Between cs ds m = new_names cs (cs ++ ds) m

between_apart : (cs ds : List Name) (m : ℕ) → AreApart (Between cs ds m) cs × AreApart (Between cs ds m) ds
between_apart cs ds m = (
  (λ a h. (or_false (has_name a cs) (has_name a ds) (sym (has_name-append a cs ds) ∙ new_names_apart cs (cs ++ ds) m a h)).0),
  (λ a h. (or_false (has_name a cs) (has_name a ds) (sym (has_name-append a cs ds) ∙ new_names_apart cs (cs ++ ds) m a h)).1),
)

pub extension_goes : (cs ds : List Name) (m : ℕ) → AreOfSorts cs ds → AreDifferent cs → AreDifferent ds → map (act_name (extension cs ds m)) cs ≡ ds
extension_goes cs ds m s h k =
    let ms = Between cs ds m in
    let sorts = new_names_sorts cs (cs ++ ds) m in
    let different = new_names_different cs (cs ++ ds) m in
    let apart = between_apart cs ds m in
    map_same (act_name (extension cs ds m)) (λ a. act_name (exchange ms ds) (act_name (exchange cs ms) a)) cs (act-append (exchange ms ds) (exchange cs ms))
    ∙ map_after (act_name (exchange ms ds)) (act_name (exchange cs ms)) cs
    ∙ ap (map (act_name (exchange ms ds))) (exchange_goes cs ms (sorts, h, different, apart_flip ms cs apart.0))
    ∙ exchange_goes ms ds (sorts_trans ms cs ds (sorts_flip cs ms sorts) s, different, k, apart.1)

pub extension_other : (cs ds : List Name) (m : ℕ) (a : Name) → AreOfSorts cs ds → has_name a cs ≡ false → has_name a ds ≡ false → a.num < m
    → act_name (extension cs ds m) a ≡ a
extension_other cs ds m a s h k l =
    let ms = Between cs ds m in
    let sorts = new_names_sorts cs (cs ++ ds) m in
    let low : has_name a ms ≡ false = false_if_not (has_name a ms) (λ n. let high : m ≤ a.num = new_names_high cs (cs ++ ds) m a n in omega arith) in
    act-append (exchange ms ds) (exchange cs ms) a
    ∙ ap (act_name (exchange ms ds)) (exchange_other cs ms a sorts h low)
    ∙ exchange_other ms ds a (sorts_trans ms cs ds (sorts_flip cs ms sorts) s) low k
