-- The stated instance of an answer: its names are settled by their places, and its variables have the picked terms.
use Rattle.std.proofs.Common.{◌≡◌, ◌∙◌, ◌+◌, ◌-◌, ℕ, zero, suc, Bool, true, false, ◌&&◌, ◌||◌, not, cond, List, [], ◌∷◌, ◌++◌, drop, length, map, nat_lt, Option, Some, None, refl, sym, ap, ap₂, arith}
use Rattle.std.specs.Prelude.{if◌then◌else◌, position, slice_get}
use Rattle.std.specs.List.{position_or_len}
use Rattle.std.proofs.Math.Seq.{drop-append_seam}
use Rattle.std.proofs.lemmas.Bool.Decides.{nat_tests}
use Rattle.ap_defs.specs.declared.terms.Name.{Name}
use Rattle.ap_defs.specs.declared.terms.Swap.{Swap}
use Rattle.ap_defs.specs.declared.terms.Var.{Var}
use Rattle.ap_defs.specs.Answers.{NominalAnswer}
use Rattle.ap_defs.specs.Groundings.{Grounding, grounded}
use Rattle.ap_defs.specs.Occurrences.{names_of_terms, names_then}
use Rattle.ap_defs.specs.Permutations.{act_name, has_name, name_eq, names_of}
use Rattle.ap_defs.specs.Renaming.{local_names, replace_names, replace_swap}
use Rattle.ap_defs.specs.Terms.{NominalTerm, abs, act_ground, app, name, pair, susp, unit}
use Rattle.ap_defs.specs.Types.{NominalConstructor, NominalLocal}
use Rattle.ap_defs.specs.Typing.{embedded}
use Rattle.ap_theory.specs.Exchanges.{renumbered}
use Rattle.ap_theory.proofs.BooleanLemmas.{or_false, or_if_left, or_if_right}
use Rattle.ap_theory.proofs.DisagreementLemmas.{has_name-append}
use Rattle.ap_theory.proofs.ExchangeLemmas.{extension_goes, new_names_different, new_names_sorts}
use Rattle.ap_theory.proofs.PermutationLemmas.{name_eq_itself, name_eq_same}
use Rattle.ap_ground.specs.TypedGroundings.{HaveInhabitants}
use Rattle.ap_ground.proofs.ListLemmas.{first_names_different, has_first_names}
use Rattle.ap_picks.specs.StatementsOnPicks.{EachName, IsNewName}
use Rattle.ap_picks.proofs.PickLemmas.{each_name}
use Rattle.ap_property.specs.Stated.{given, other_names, picks_from, settling, stated}
use Rattle.ap_property.proofs.PickedLemmas.{act_apart, given_names, picks_made}
use Rattle.ap_property.proofs.SettlingLemmas.{settling_leaves, swaps_leave}
use Rattle.ap_instance.specs.Settled.{IsNames, name_at_place, replaced, settled_name, sort_of}
use Rattle.ap_instance.specs.declared.names.Names.{Names}

-- The first place of a name.
abbrev shifted : Option ℕ → Option ℕ
shifted None = None
shifted (Some i) = Some (suc i)

later : (b : Bool) (n : ℕ) → cond b (Some (1 + n)) None ≡ shifted (cond b (Some n) None)
later true n = let one : 1 + n ≡ suc n = omega arith in rw one refl
later false n = refl

starts : (n : ℕ) → nat_lt 0 (suc n) ≡ true
starts n = grind (arith, nat_tests)

position_first : (p : Name → Bool) (x : Name) (xs : List Name) (b : Bool) → p x ≡ b → position p (x ∷ xs) ≡ (if b then Some 0 else shifted (position p xs))
position_first p x xs true e = rw (e, starts (length xs)) refl
position_first p x xs false e =
    let lower : nat_lt (1 + position_or_len p xs) (suc (length xs)) ≡ nat_lt (position_or_len p xs) (length xs) = grind (arith, nat_tests) in
    rw (e, lower) (later (nat_lt (position_or_len p xs) (length xs)) (position_or_len p xs))

-- a name of the first list
record IsWithin (c : Name) (xs ys : List Name) : Type 0 where
  place : ℕ
  found : position (name_eq c) (xs ++ ys) ≡ Some place
  below : nat_lt place (length xs) ≡ true

next_below : (i n : ℕ) → nat_lt i n ≡ true → nat_lt (suc i) (suc n) ≡ true
next_below i n h = grind (arith, nat_tests)

within : (c : Name) (xs ys : List Name) → has_name c xs ≡ true → IsWithin c xs ys
within c [] ys h = cc
within c (x ∷ xs) ys h = elim (name_eq c x) as (λ b. name_eq c x ≡ b → (b || has_name c xs) ≡ true → IsWithin c (x ∷ xs) ys) [
  | true ↦ λ e k. record { place = zero; found = position_first (name_eq c) x (xs ++ ys) true e; below = starts (length xs) }
  | false ↦ λ e k.
      let r = within c xs ys k in
      record {
        place = suc r.place;
        found = position_first (name_eq c) x (xs ++ ys) false e ∙ ap shifted r.found;
        below = next_below r.place (length xs) r.below;
      }
] refl h

-- a name of the second list alone
record IsBeyond (c : Name) (xs ys : List Name) : Type 0 where
  place : ℕ
  found : position (name_eq c) (xs ++ ys) ≡ Some (length xs + place)
  there : slice_get ys place ≡ Some c

beyond : (c : Name) (xs ys : List Name) → has_name c xs ≡ false → has_name c ys ≡ true → IsBeyond c xs ys
beyond c [] [] h k = cc
beyond c [] (y ∷ ys) h k = elim (name_eq c y) as (λ b. name_eq c y ≡ b → (b || has_name c ys) ≡ true → IsBeyond c [] (y ∷ ys)) [
  | true ↦ λ e i. record { place = zero; found = position_first (name_eq c) y ys true e; there = ap (λ d. Some d) (sym (name_eq_same c y e)) }
  | false ↦ λ e i.
      let r = beyond c [] ys h i in
      record {
        place = suc r.place;
        found = position_first (name_eq c) y ys false e ∙ ap shifted r.found ∙ ap (λ m. Some m) (omega arith);
        there = r.there;
      }
] refl k
beyond c (x ∷ xs) ys h k =
    let apart = or_false (name_eq c x) (has_name c xs) h in
    let r = beyond c xs ys apart.1 k in
    record {
      place = r.place;
      found = position_first (name_eq c) x (xs ++ ys) false apart.0 ∙ ap shifted r.found ∙ ap (λ m. Some m) (omega arith);
      there = r.there;
    }

-- where names are numbered on, each has the number of its place
renumbered_at : (f : Name → Name) (cs : List Name) (n : ℕ) → map f cs ≡ renumbered cs n → (i : ℕ) (c : Name) → slice_get cs i ≡ Some c → f c ≡ record { sort = c.sort; num = n + i }
renumbered_at f [] n e i c h = cc
renumbered_at f (d ∷ cs) n e zero c h =
    let same : d ≡ c = some_same d c h in
    ap f (sym same) ∙ head_same _ _ _ _ e ∙ ap (λ (b : Name). record { sort = b.sort; num = n }) same ∙ ap (λ m. record { sort = c.sort; num = m }) (omega arith)
  where
    some_same : (x y : Name) → Some x ≡ Some y → x ≡ y
    some_same x y k = cc

    head_same : (x y : Name) (xs ys : List Name) → x ∷ xs ≡ y ∷ ys → x ≡ y
    head_same x y xs ys k = cc
renumbered_at f (d ∷ cs) n e (suc i) c h =
    renumbered_at f cs (suc n) (tail_same _ _ _ _ e) i c h ∙ ap (λ m. record { sort = c.sort; num = m }) (omega arith)
  where
    tail_same : (x y : Name) (xs ys : List Name) → x ∷ xs ≡ y ∷ ys → xs ≡ ys
    tail_same x y xs ys k = cc

not_below : (n i : ℕ) → nat_lt (n + i) n ≡ false
not_below n i = grind (arith, nat_tests)

past : (m n i : ℕ) → m + ((n + i) - n) ≡ m + i
past m n i = omega arith

module _ (locals : List NominalLocal) (a : NominalAnswer) where
  abbrev queried : List Name
  queried = local_names 0 locals

  abbrev others : List Name
  others = other_names locals a

  abbrev mentioned : List Name
  mentioned = names_of_terms a.binds ++ map (λ c. c.name) a.conds

  abbrev τ : List Swap
  τ = settling locals a

  abbrev settle : Name → Name
  settle = settled_name (length queried) (length locals) (queried ++ others)

  abbrev sorts : List ℕ
  sorts = map (λ b. b.sort) others

  -- by its place, a name is settled as by the swappings
  settled_as : (c : Name) → has_name c mentioned ≡ true → settle c ≡ act_name τ c
  settled_as c h = elim (has_name c queried) as (λ v. has_name c queried ≡ v → settle c ≡ act_name τ c) [
    | true ↦ λ e.
        let i = within c queried others e in
        ap (name_at_place (length queried) (length locals) c) i.found
        ∙ ap (λ b. if b then c else record { sort = c.sort; num = length locals + (i.place - length queried) }) i.below
        ∙ sym (settling_leaves locals a c e)
    | false ↦ λ e.
        let i = beyond c queried others e (has_first_names queried mentioned c ∙ ap₂ (λ x y. x && not y) h e) in
        ap (name_at_place (length queried) (length locals) c) i.found
        ∙ ap (λ b. if b then c else record { sort = c.sort; num = length locals + ((length queried + i.place) - length queried) }) (not_below (length queried) i.place)
        ∙ ap (λ m. record { sort = c.sort; num = m }) (past (length locals) (length queried) i.place)
        ∙ sym (renumbered_at (act_name τ) others (length locals)
        (extension_goes others (renumbered others (length locals)) (length locals) (new_names_sorts others [] (length locals)) (first_names_different queried mentioned) (new_names_different others [] (length locals)))
        i.place c i.there)
  ] refl

  abbrev AreMentioned : List Name → Type 0
  AreMentioned as' = (c : Name) → has_name c as' ≡ true → has_name c mentioned ≡ true

  first_mentioned : (b : Name) (as' : List Name) → AreMentioned (b ∷ as') → has_name b mentioned ≡ true
  first_mentioned b as' h = h b (ap (λ x. x || has_name b as') (name_eq_itself b))

  rest_mentioned : (b : Name) (as' : List Name) → AreMentioned (b ∷ as') → AreMentioned as'
  rest_mentioned b as' h c k = h c (or_if_right (name_eq c b) (has_name c as') k)

  -- Ground terms of new names, and a table of them.
  module _ (after : List ℕ) (f : Grounding) (new : (x : Var) → EachName (IsNewName (length locals) sorts after) (f x)) (g : Var → NominalTerm) (table : (x : Var) → g x ≡ embedded (f x)) where
    term_stated : (t : NominalTerm) (as' : List Name) → AreMentioned (names_then t as') → (replaced settle g t ≡ embedded (grounded f (replace_names τ t))) × AreMentioned as'
    term_stated unit as' h = (refl, h)
    term_stated (name b) as' h = (ap name (settled_as b (first_mentioned b as' h)), rest_mentioned b as' h)
    term_stated (pair t u) as' h =
        let l = term_stated t (names_then u as') h in
        let r = term_stated u as' l.1 in
        (ap₂ pair l.0 r.0, r.1)
    term_stated (app k t) as' h = let r = term_stated t as' h in (ap (app k) r.0, r.1)
    term_stated (abs b t) as' h =
        let r = term_stated t as' (rest_mentioned b (names_then t as') h) in
        (ap₂ abs (settled_as b (first_mentioned b (names_then t as') h)) r.0, r.1)
    term_stated (susp q x) as' h =
        let own = λ (c : Name) (k : has_name c (names_of q) ≡ true). h c (has_name-append c (names_of q) as' ∙ or_if_left (has_name c (names_of q)) (has_name c as') k) in
        let others_in = λ (c : Name) (k : has_name c as' ≡ true). h c (has_name-append c (names_of q) as' ∙ or_if_right (has_name c (names_of q)) (has_name c as') k) in
        let still : act_ground (map (replace_swap τ) q) (f x) ≡ f x = act_apart (map (replace_swap τ) q) (f x) (each_name _ _ (swaps_leave locals a after q own) (f x) (new x)) in
        (table x ∙ ap embedded (sym still), others_in)

    terms_stated : (ts : List NominalTerm) → AreMentioned (names_of_terms ts) → map (replaced settle g) ts ≡ map embedded (map (λ t. grounded f (replace_names τ t)) ts)
    terms_stated [] h = refl
    terms_stated (t ∷ ts) h = let r = term_stated t (names_of_terms ts) h in ap₂ ◌∷◌ r.0 (terms_stated ts r.1)

    binds_stated : map (replaced settle g) a.binds ≡ map embedded (map (λ t. grounded f (replace_names τ t)) a.binds)
    binds_stated = terms_stated a.binds (λ c k. has_name-append c (names_of_terms a.binds) (map (λ d. d.name) a.conds)
        ∙ or_if_left (has_name c (names_of_terms a.binds)) (has_name c (map (λ d. d.name) a.conds)) k)

  -- The names as they are known.
  module _ (n : Names) (known : IsNames locals a n) where
    settles : (c : Name) → settled_name n.free n.first n.known.keys c ≡ settle c
    settles c = ap (λ k. settled_name k n.first n.known.keys c) known.free ∙ ap (λ k. settled_name (length queried) k n.known.keys c) known.first ∙ ap (λ k. settled_name (length queried) (length locals) k c) known.known

    pub sorts_stated : map sort_of (drop n.free n.known.keys) ≡ sorts
    sorts_stated = ap (λ k. map sort_of (drop k n.known.keys)) known.free ∙ ap (λ k. map sort_of (drop (length queried) k)) known.known ∙ ap (map sort_of) (drop-append_seam queried others)

    module _ (g : Var → NominalTerm) where
      settled_term : (t : NominalTerm) → replaced (settled_name n.free n.first n.known.keys) g t ≡ replaced settle g t
      settled_term unit = refl
      settled_term (name b) = ap name (settles b)
      settled_term (pair t u) = ap₂ pair (settled_term t) (settled_term u)
      settled_term (app k t) = ap (app k) (settled_term t)
      settled_term (abs b t) = ap₂ abs (settles b) (settled_term t)
      settled_term (susp q x) = refl

      settled_terms : (ts : List NominalTerm) → map (replaced (settled_name n.free n.first n.known.keys) g) ts ≡ map (replaced settle g) ts
      settled_terms [] = refl
      settled_terms (t ∷ ts) = ap₂ ◌∷◌ (settled_term t) (settled_terms ts)

      pub answer_stated : (cs : List NominalConstructor) → HaveInhabitants cs a.vars → ((x : Var) → g x ≡ embedded (given (picks_from cs (length locals) a.vars sorts).0 x))
          → map (replaced (settled_name n.free n.first n.known.keys) g) a.binds ≡ map embedded (stated cs locals a).terms
      answer_stated cs inhabited table =
          let ps = picks_from cs (length locals) a.vars sorts in
          let made = picks_made cs (length locals) a.vars inhabited sorts in
          settled_terms a.binds ∙ binds_stated ps.1 (given ps.0) (given_names (length locals) sorts ps.1 ps.0 made.names) g table
