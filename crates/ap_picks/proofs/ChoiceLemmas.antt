-- The choices of one round.
use Rattle.std.proofs.Common.{◌≡◌, ◌<◌, ◌≤◌, ◌+◌, ◌∙◌, ℕ, zero, suc, Bool, true, false, ◌&&◌, if◌then◌else◌, List, [], ◌∷◌, ◌++◌, length, map, set, take, replicate, get_or, Option, Some, None, is_some, refl, sym, ap, subst, inl, inr, arith}
use Rattle.std.specs.Prelude.{◌==◌, ◌||◌, not, nat_lt, slice_get}
use Rattle.std.specs.Option.{option_map}
use Rattle.std.proofs.Math.Nat.{le-max_left, le-max_right}
use Rattle.std.proofs.lemmas.Option.{slice_get-get_or, slice_get-map}
use Rattle.std.proofs.lemmas.Bool.Decides.{eqb_tells, nat_tests}
use Rattle.std.proofs.lemmas.List.{get_or-set_same, get_or-set_other, length-map, length-set, length-take-le, take-map}
use Rattle.ap_defs.specs.declared.goals.Constructor.{Constructor}
use Rattle.ap_defs.specs.Types.{NominalConstructor, NominalType, constructor_of}
use Rattle.ap_types.specs.Inhabited.{all_inhabited}
use Rattle.ap_types.specs.Rounds.{Within, reached, some_passes}
use Rattle.ap_types.proofs.BooleanLemmas.{and_left, and_right, and_both}
use Rattle.ap_types.proofs.QuestionLemmas.{all_inhabited_grows}
use Rattle.ap_types.proofs.RoundLemmas.{reached_closed, reached_more}
use Rattle.ap_types.proofs.RuleLemmas.{constructors_next}
use Rattle.ap_types.proofs.StillLemmas.{still_least}
use Rattle.ap_types.specs.Statements.{AreOfFirst}
use Rattle.ap_picks.specs.Choices.{AreChoices, IsChoiceFor, choice_in}
use Rattle.ap_picks.specs.Picks.{data_bound, first_passing}
use Rattle.ap_picks.specs.ChoiceRounds.{AreChoicesAfter, AreChoicesWithin, GoesRound, IsChoiceAfter, IsChoiceWithin, IsLookedAt, gives_choice}
use Rattle.ap_picks.specs.declared.choices.Choice.{Choice}

same_if : (a b : Bool) → (a ≡ true → b ≡ true) → (b ≡ true → a ≡ true) → a ≡ b
same_if true b f g = sym (f refl)
same_if false true f g = g refl
same_if false false f g = refl

-- inhabited by data types that are the same
same_inhabited : (p q : ℕ → Bool) → ((d : ℕ) → p d ≡ q d) → (ts : List NominalType) → all_inhabited p ts ≡ all_inhabited q ts
same_inhabited p q h ts = same_if (all_inhabited p ts) (all_inhabited q ts)
    (all_inhabited_grows p q (λ d e. sym (h d) ∙ e) ts) (all_inhabited_grows q p (λ d e. h d ∙ e) ts)

module _ (found : ℕ → Bool) where
  -- the first constructor that passes among more
  pub passing_keeps : (f : ℕ) (cs ds : List NominalConstructor) (d : ℕ) (x : ℕ × List NominalType) → first_passing found f cs d ≡ Some x → first_passing found f (cs ++ ds) d ≡ Some x
  passing_keeps f [] ds d x e = cc
  passing_keeps f (c ∷ cs) ds d x e =
      elim ((c.result == d) && all_inhabited found c.args) as (λ b. (if b then Some (f, c.args) else first_passing found (suc f) cs d) ≡ Some x → (if b then Some (f, c.args) else first_passing found (suc f) (cs ++ ds) d) ≡ Some x) [
        | true ↦ λ k. k
        | false ↦ λ k. passing_keeps (suc f) cs ds d x k
      ] e

  pub passing_goes : (f : ℕ) (cs : List NominalConstructor) (c : NominalConstructor) (d : ℕ) → first_passing found f cs d ≡ None
      → first_passing found f (cs ++ c ∷ []) d ≡ (if (c.result == d) && all_inhabited found c.args then Some (f + length cs, c.args) else None)
  passing_goes f [] c d e =
      let z : f + 0 ≡ f = omega arith in
      ap (λ n. if (c.result == d) && all_inhabited found c.args then Some (n, c.args) else None) (sym z)
  passing_goes f (b ∷ cs) c d e =
      elim ((b.result == d) && all_inhabited found b.args) as (λ x. (if x then Some (f, b.args) else first_passing found (suc f) cs d) ≡ None
      → (if x then Some (f, b.args) else first_passing found (suc f) (cs ++ c ∷ []) d) ≡ (if (c.result == d) && all_inhabited found c.args then Some (f + length (b ∷ cs), c.args) else None)) [
        | true ↦ λ k. cc
        | false ↦ λ k.
            let z : suc f + length cs ≡ f + suc (length cs) = omega arith in
            passing_goes (suc f) cs c d k ∙ ap (λ n. if (c.result == d) && all_inhabited found c.args then Some (n, c.args) else None) z
      ] e

  -- whether some constructor passes
  pub none_passes : (f : ℕ) (cs : List NominalConstructor) (d : ℕ) → first_passing found f cs d ≡ None → some_passes all_inhabited found cs d ≡ false
  none_passes f [] d e = refl
  none_passes f (c ∷ cs) d e =
      elim ((c.result == d) && all_inhabited found c.args) as (λ b. (if b then Some (f, c.args) else first_passing found (suc f) cs d) ≡ None → (b || some_passes all_inhabited found cs d) ≡ false) [
        | true ↦ λ k. cc
        | false ↦ λ k. none_passes (suc f) cs d k
      ] e

  pub one_passes : (f : ℕ) (cs : List NominalConstructor) (d : ℕ) (x : ℕ × List NominalType) → first_passing found f cs d ≡ Some x → some_passes all_inhabited found cs d ≡ true
  one_passes f [] d x e = cc
  one_passes f (c ∷ cs) d x e =
      elim ((c.result == d) && all_inhabited found c.args) as (λ b. (if b then Some (f, c.args) else first_passing found (suc f) cs d) ≡ Some x → (b || some_passes all_inhabited found cs d) ≡ true) [
        | true ↦ λ k. refl
        | false ↦ λ k. one_passes (suc f) cs d x k
      ] e

abbrev passes : (ℕ → Bool) → NominalConstructor → ℕ → Bool
passes found c d = (c.result == d) && all_inhabited found c.args

-- one more constructor is looked at
module _ (cs : List NominalConstructor) (r : ℕ) (marks : ℕ → Bool) (same : (d : ℕ) → marks d ≡ reached all_inhabited cs r d) where
  abbrev found : ℕ → Bool
  found = reached all_inhabited cs r

  module _ (so_far : List NominalConstructor) (c : NominalConstructor) (choice : Choice) (before : List (Option Choice))
      (rounds : choice.rounds ≡ r) (place : length so_far ≡ choice.place) (at : slice_get cs choice.place ≡ Some c) (within : c.result < length before) where
    -- of another data type
    other : (d : ℕ) (o : Option Choice) → passes found c d ≡ false → IsChoiceWithin cs r so_far d o → IsChoiceWithin cs r (so_far ++ c ∷ []) d o
    other d None e h = (h.0, passing_goes found 2 so_far c d h.1 ∙ ap (λ b. if b then Some (2 + length so_far, c.args) else None) e)
    other d (Some x) e (inl k) = inl k
    other d (Some x) e (inr k) = inr (record { rounds = k.rounds; before = k.before; chosen = k.chosen; at = k.at; first = passing_keeps found 2 so_far (c ∷ []) d (x.place + 2, k.chosen.args) k.first })

    -- of one that has a choice
    kept : (d : ℕ) (x : Choice) → IsChoiceWithin cs r so_far d (Some x) → IsChoiceWithin cs r (so_far ++ c ∷ []) d (Some x)
    kept d x (inl k) = inl k
    kept d x (inr k) = inr (record { rounds = k.rounds; before = k.before; chosen = k.chosen; at = k.at; first = passing_keeps found 2 so_far (c ∷ []) d (x.place + 2, k.chosen.args) k.first })

    -- of the one that gets it
    fresh_choice : (d : ℕ) → passes found c d ≡ true → IsChoiceWithin cs r so_far d None → IsChoiceWithin cs r (so_far ++ c ∷ []) d (Some choice)
    fresh_choice d e h =
        let n : 2 + length so_far ≡ choice.place + 2 = omega (arith, place) in
        inr (record {
          rounds = rounds;
          before = h.0;
          chosen = c;
          at = at;
          first = passing_goes found 2 so_far c d h.1 ∙ (ap (λ b. if b then Some (2 + length so_far, c.args) else None) e ∙ ap (λ m. Some (m, c.args)) n);
        })

    passes_marked : (d : ℕ) → passes marks c d ≡ passes found c d
    passes_marked d = ap (λ b. (c.result == d) && b) (same_inhabited marks found same c.args)

    module _ (all : AreChoicesWithin cs r so_far before) where
      unless_given : gives_choice marks c before ≡ false → AreChoicesWithin cs r (so_far ++ c ∷ []) before
      unless_given e d = elim (choice_in before d) as (λ o. choice_in before d ≡ o → IsChoiceWithin cs r so_far d o → IsChoiceWithin cs r (so_far ++ c ∷ []) d o) [
        | Some x ↦ λ k h. kept d x h
        | None ↦ λ k h. elim (passes found c d) as (λ b. passes found c d ≡ b → IsChoiceWithin cs r (so_far ++ c ∷ []) d None) [
          | false ↦ λ p. other d None p h
          | true ↦ λ p. elim (eqb_tells c.result d) [
            | inl w ↦
                let inhabited : all_inhabited marks c.args ≡ true = same_inhabited marks found same c.args ∙ and_right (c.result == d) (all_inhabited found c.args) p in
                let none : choice_in before c.result ≡ None = subst (λ n. choice_in before n ≡ None) (sym w.1) k in
                let short : nat_lt c.result (length before) ≡ true = grind (arith, nat_tests, within) in
                let yes : gives_choice marks c before ≡ true = rw (short, none, inhabited) refl in
                let no : true ≡ false = sym yes ∙ e in cc
            | inr w ↦ let no : (c.result == d) ≡ true = and_left (c.result == d) (all_inhabited found c.args) p in cc
          ]
        ] refl
      ] refl (all d)

      where_given : gives_choice marks c before ≡ true → AreChoicesWithin cs r (so_far ++ c ∷ []) (set before c.result (Some choice))
      where_given e d =
          let first = nat_lt c.result (length before) && not (is_some (choice_in before c.result)) in
          let inhabited : all_inhabited found c.args ≡ true = sym (same_inhabited marks found same c.args) ∙ and_right first (all_inhabited marks c.args) e in
          let free = and_right (nat_lt c.result (length before)) (not (is_some (choice_in before c.result))) (and_left first (all_inhabited marks c.args) e) in
          elim (eqb_tells c.result d) [
            | inl w ↦
                let here : choice_in (set before c.result (Some choice)) d ≡ Some choice = subst (λ n. choice_in (set before c.result (Some choice)) n ≡ Some choice) w.1 (get_or-set_same before c.result (Some choice) None within) in
                let none : choice_in before d ≡ None = subst (λ n. choice_in before n ≡ None) w.1 (no_choice (choice_in before c.result) free) in
                let p : passes found c d ≡ true = and_both (c.result == d) (all_inhabited found c.args) w.0 inhabited in
                subst (IsChoiceWithin cs r (so_far ++ c ∷ []) d) (sym here) (fresh_choice d p (subst (IsChoiceWithin cs r so_far d) none (all d)))
            | inr w ↦
                let there : choice_in (set before c.result (Some choice)) d ≡ choice_in before d = get_or-set_other before c.result d (Some choice) None (λ q. w.1 (sym q)) in
                let p : passes found c d ≡ false = ap (λ b. b && all_inhabited found c.args) w.0 in
                subst (IsChoiceWithin cs r (so_far ++ c ∷ []) d) (sym there) (other d (choice_in before d) p (all d))
          ]
        where
          no_choice : (o : Option Choice) → not (is_some o) ≡ true → o ≡ None
          no_choice None h = refl
          no_choice (Some x) h = cc

      pub looked_at : (after : List (Option Choice)) (given : Bool) → IsLookedAt marks c choice before after given → AreChoicesWithin cs r (so_far ++ c ∷ []) after
      looked_at after given h =
          elim given as (λ b. b ≡ gives_choice marks c before → after ≡ (if b then set before c.result (Some choice) else before) → AreChoicesWithin cs r (so_far ++ c ∷ []) after) [
            | true ↦ λ e k. subst (AreChoicesWithin cs r (so_far ++ c ∷ [])) (sym k) (where_given (sym e))
            | false ↦ λ e k. subst (AreChoicesWithin cs r (so_far ++ c ∷ [])) (sym k) (unless_given (sym e))
          ] h.0 h.1

-- the data types of constructors are below the bound
below_bound : (cs : List NominalConstructor) (i : ℕ) (c : NominalConstructor) → slice_get cs i ≡ Some c → c.result < data_bound cs
below_bound [] zero c e = cc
below_bound [] (suc i) c e = cc
below_bound (b ∷ cs) zero c e =
    let same : b.result ≡ c.result = ap (λ o. get_or_result o) e in
    let m = le-max_left (suc b.result) (data_bound cs) in
    omega (arith, same, m)
  where
    get_or_result : Option NominalConstructor → ℕ
    get_or_result None = 0
    get_or_result (Some x) = x.result
below_bound (b ∷ cs) (suc i) c e =
    let k = below_bound cs i c e in
    let m = le-max_right (suc b.result) (data_bound cs) in
    omega (arith, k, m)

-- as long as it was
pub looked_at_length : (marks : ℕ → Bool) (c : NominalConstructor) (choice : Choice) (before after : List (Option Choice)) (given : Bool)
    → IsLookedAt marks c choice before after given → length after ≡ length before
looked_at_length marks c choice before after given h =
    elim given as (λ b. after ≡ (if b then set before c.result (Some choice) else before) → length after ≡ length before) [
      | true ↦ λ e. ap length e ∙ length-set before c.result (Some choice)
      | false ↦ λ e. ap length e
    ] h.1

-- the place of a constructor
pub constructor_at : (cs : List Constructor) (i : ℕ) (c : Constructor) → i < length cs → c ≡ get_or cs i c → slice_get (map constructor_of cs) i ≡ Some (constructor_of c)
constructor_at cs i c l e =
    slice_get-map constructor_of cs i ∙ ap (option_map constructor_of) (slice_get-get_or cs i c l) ∙ ap (λ x. Some (constructor_of x)) (sym e)

-- one turn of a round
pub round_turn : (cs : List Constructor) (r : ℕ) (marks : ℕ → Bool) (i : ℕ) (c : Constructor) (choice : Choice) (before after : List (Option Choice)) (given : Bool)
    → i < length cs → c ≡ get_or cs i c → data_bound (map constructor_of cs) ≤ length before → choice.rounds ≡ r → choice.place ≡ i
    → IsLookedAt marks (constructor_of c) choice before after given
    → ((d : ℕ) → marks d ≡ reached all_inhabited (map constructor_of cs) r d)
    → AreChoicesWithin (map constructor_of cs) r (take i (map constructor_of cs)) before
    → AreChoicesWithin (map constructor_of cs) r (take (i + 1) (map constructor_of cs)) after
round_turn cs r marks i c choice before after given l e b x y h same all =
    let ds = map constructor_of cs in
    let at = constructor_at cs i c l e in
    let short = below_bound ds i (constructor_of c) at in
    let many : length ds ≡ length cs = length-map cs constructor_of in
    let far : i ≤ length ds = omega (arith, l, many) in
    let taken : take i ds ++ constructor_of c ∷ [] ≡ take (i + 1) ds =
    ap (λ xs. xs ++ constructor_of c ∷ []) (take-map constructor_of i cs) ∙ constructors_next cs i c l e ∙ sym (take-map constructor_of (i + 1) cs) in
    subst (λ xs. AreChoicesWithin ds r xs after) taken
    (looked_at ds r marks same (take i ds) (constructor_of c) choice before x (length-take-le i ds far ∙ sym y) (subst (λ n. slice_get ds n ≡ Some (constructor_of c)) (sym y) at) (omega (arith, short, b)) all after given h)

-- before the first turn of a round, and after the last one
pub round_begins : (cs : List NominalConstructor) (r : ℕ) (table : List (Option Choice)) → AreChoicesAfter cs r table → AreChoicesWithin cs r [] table
round_begins cs r table h d = begins (choice_in table d) (h d)
  where
    begins : (o : Option Choice) → IsChoiceAfter cs r d o → IsChoiceWithin cs r [] d o
    begins None k = (k, refl)
    begins (Some x) k = inl k

pub round_ends : (cs : List NominalConstructor) (r : ℕ) (table : List (Option Choice)) → AreChoicesWithin cs r cs table → AreChoicesAfter cs (suc r) table
round_ends cs r table h d = ends (choice_in table d) (h d)
  where
    ends : (o : Option Choice) → IsChoiceWithin cs r cs d o → IsChoiceAfter cs (suc r) d o
    ends None k = none_passes (reached all_inhabited cs r) 2 cs d k.1
    ends (Some x) (inl k) = (k.0, omega (arith, k.1))
    ends (Some x) (inr k) = (
      record {
        before = subst (λ n. reached all_inhabited cs n d ≡ false) (sym k.rounds) k.before;
        found = subst (λ n. reached all_inhabited cs (suc n) d ≡ true) (sym k.rounds) (one_passes (reached all_inhabited cs r) 2 cs d (x.place + 2, k.chosen.args) k.first);
        chosen = k.chosen;
        at = k.at;
        first = subst (λ n. first_passing (reached all_inhabited cs n) 2 cs d ≡ Some (x.place + 2, k.chosen.args)) (sym k.rounds) k.first;
      },
      let e = k.rounds in omega (arith, e),
    )

-- nothing is changed where no choice is given
pub looked_at_same : (marks : ℕ → Bool) (c : NominalConstructor) (choice : Choice) (before after : List (Option Choice)) (given : Bool)
    → IsLookedAt marks c choice before after given → given ≡ false → after ≡ before
looked_at_same marks c choice before after given h e = subst (λ b. after ≡ (if b then set before c.result (Some choice) else before)) e h.1

-- the marks of a table after r rounds
pub marks_after : (cs : List NominalConstructor) (r : ℕ) (table : List (Option Choice)) → AreChoicesAfter cs r table → (d : ℕ) → is_some (choice_in table d) ≡ reached all_inhabited cs r d
marks_after cs r table h d = marks (choice_in table d) (h d)
  where
    marks : (o : Option Choice) → IsChoiceAfter cs r d o → is_some o ≡ reached all_inhabited cs r d
    marks None k = sym k
    marks (Some x) k = sym (reached_more all_inhabited all_inhabited_grows cs (suc x.rounds) r (let l = k.1 in omega (arith, l)) d k.0.found)

-- where nothing more is found the choices are all
pub all_choices : (cs : List NominalConstructor) (r : ℕ) (table : List (Option Choice)) → AreChoicesAfter cs r table
    → ((s : ℕ) → Within (reached all_inhabited cs s) (reached all_inhabited cs r)) → AreChoices cs table
all_choices cs r table h w d = choice (choice_in table d) (h d)
  where
    choice : (o : Option Choice) → IsChoiceAfter cs r d o → IsChoiceFor cs d o
    choice (Some x) k = k.0
    choice None k = λ s. elim (reached all_inhabited cs s d) as (λ b. reached all_inhabited cs s d ≡ b → b ≡ false) [
      | false ↦ λ e. refl
      | true ↦ λ e. let no : true ≡ false = sym (w s d e) ∙ k in cc
    ] refl

-- that is so after a round that changes nothing
pub still_choices : (cs : List NominalConstructor) (r : ℕ) (table : List (Option Choice)) → AreChoicesAfter cs r table → AreChoicesAfter cs (suc r) table → AreChoices cs table
still_choices cs r table h k = all_choices cs r table h
    (reached_closed all_inhabited all_inhabited_grows cs (reached all_inhabited cs r) (λ d e. sym (marks_after cs r table h d) ∙ marks_after cs (suc r) table k d ∙ e))

-- and after as many rounds as there are data types
pub are_of_bound : (cs : List NominalConstructor) (n : ℕ) → data_bound cs ≤ n → AreOfFirst n cs
are_of_bound [] n h = tt
are_of_bound (c ∷ cs) n h =
    let l = le-max_left (suc c.result) (data_bound cs) in
    let m = le-max_right (suc c.result) (data_bound cs) in
    (omega (arith, l, h), are_of_bound cs n (omega (arith, m, h)))

pub last_choices : (cs : List NominalConstructor) (table : List (Option Choice)) → AreChoicesAfter cs (data_bound cs) table → AreChoices cs table
last_choices cs table h = all_choices cs (data_bound cs) table h
    ((still_least all_inhabited all_inhabited_grows cs (data_bound cs) (are_of_bound cs (data_bound cs) (omega arith))).whole)

pub no_choices : (cs : List NominalConstructor) (n : ℕ) → AreChoicesAfter cs 0 (replicate n None)
no_choices cs n d = subst (IsChoiceAfter cs 0 d) (sym (none n d)) refl
  where
    none : (m i : ℕ) → choice_in (replicate m None) i ≡ None
    none zero zero = refl
    none zero (suc i) = refl
    none (suc m) zero = refl
    none (suc m) (suc i) = none m i

-- a round, by the marks of the table before it
pub round_after : (cs : List NominalConstructor) (r : ℕ) (marks : ℕ → Bool) (before after : List (Option Choice)) (more : Bool) → AreChoicesAfter cs r before
    → ((d : ℕ) → marks d ≡ is_some (choice_in before d)) → GoesRound cs marks r before after more → AreChoicesAfter cs (suc r) after
round_after cs r marks before after more h m g =
    round_ends cs r after (g.within (λ d. m d ∙ marks_after cs r before h d) h)
