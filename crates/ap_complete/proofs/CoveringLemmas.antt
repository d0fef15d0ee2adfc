-- Every ground proof of a query, no higher than the depth, is covered.
use Rattle.std.proofs.Common.{subst, ◌≡◌, ◌⊎◌, ◌+◌, ◌<◌, ◌≤◌, ℕ, Bool, true, false, ◌&&◌, not, List, [], ◌∷◌, ◌++◌, map, length, refl, sym, ap, ap₂, ◌∙◌, inl, inr, arith, true≢false}
use Rattle.std.specs.Prelude.{Some, nat_lt}
use Rattle.std.proofs.lemmas.Bool.Decides.{nat_tests}
use Rattle.std.proofs.lemmas.List.{length-map}
use Rattle.ap_defs.specs.Alpha.{alpha, fresh}
use Rattle.ap_defs.specs.Answers as answers
use Rattle.ap_defs.specs.Answers.{NominalAnswer, query_outs, answer_in, binds_in, closed_term, derivation_in, kind_at, out_in, typed_vars, vars_in}
use Rattle.ap_defs.specs.Derivations as nodes
use Rattle.ap_defs.specs.Derivations.{GroundProof, height, path}
use Rattle.ap_defs.specs.Freshness.{Conds}
use Rattle.ap_defs.specs.Goals.{NominalGoal, NominalProgram, NominalQuery}
use Rattle.ap_defs.specs.GroundProofs.{AlphaEach, AreOfSorts, AreOfTypes, Environment, IsValid, environment}
use Rattle.ap_defs.specs.Groundings.{Grounding, grounded, meets}
use Rattle.ap_defs.specs.Occurrences.{free_names}
use Rattle.ap_defs.specs.PathOrder.{has_prefix}
use Rattle.ap_defs.specs.Permutations.{act_name, has_name, inverse, name_eq}
use Rattle.ap_defs.specs.Renaming.{local_names, local_vars, rename_var, replace_names}
use Rattle.ap_defs.specs.Resolution as search
use Rattle.ap_defs.specs.Resolution.{Output, State, first_state, kinds_of, next_number, solve, solve_query}
use Rattle.ap_defs.specs.Substitution.{under}
use Rattle.ap_defs.specs.Terms as terms
use Rattle.ap_defs.specs.Terms.{GroundTerm, act_ground, susp}
use Rattle.ap_defs.specs.Types as types
use Rattle.ap_defs.specs.Types.{NominalConstructor, NominalKind, NominalLocal, NominalType}
use Rattle.ap_defs.specs.Typing.{IsOfType}
use Rattle.ap_defs.specs.declared.terms.Name.{Name}
use Rattle.ap_defs.specs.declared.terms.Swap.{Swap}
use Rattle.ap_defs.specs.declared.terms.Var.{Var}
use Rattle.ap_complete.specs.RenamedProofs.{IsReady, IsRenamed, in_range, is_brought, is_taken}
use Rattle.ap_complete.specs.Restriction.{KeepsRestriction}
use Rattle.ap_program.specs.Typed.{AreInhabited, IsTypedQuery, brought, has_number, is_marked, term_form}
use Rattle.ap_search.proofs.TypingLemmas.{kind_at_back, kind_at_front}
use Rattle.ap_theory.proofs.BooleanLemmas.{and_both, and_false, and_left, and_right, false_if_not, or_cases, or_if_right}
use Rattle.ap_theory.proofs.DisagreementLemmas.{has_front}
use Rattle.ap_theory.proofs.GroundLemmas.{act_ground_none, alpha_itself, alpha_move, alpha_trans, fresh_act, fresh_moved}
use Rattle.ap_theory.proofs.GroundingLemmas.{under_alpha}
use Rattle.ap_theory.proofs.PermutationLemmas.{inverse_act}
use Rattle.ap_theory.proofs.ReplacementLemmas.{act_grounded}
use Rattle.ap_ground.specs.Environments.{AgreeOn, act_environment, act_proof}
use Rattle.ap_ground.specs.TypedGroundings.{GivesTypes}
use Rattle.ap_ground.proofs.FillerLemmas.{gives_types_act}
use Rattle.ap_ground.proofs.FreeIdentifierLemmas.{proofs_see_free}
use Rattle.ap_ground.proofs.GroundTypingLemmas.{types_act}
use Rattle.ap_ground.proofs.ProofActionLemmas.{agree_act, keeps_environment, proofs_equivariant}
use Rattle.ap_ground.proofs.ScopeLemmas.{goal_local}
use Rattle.ap_soundness.specs.FoundStates.{Solves}
use Rattle.ap_soundness.proofs.ClosingLemmas.{grounded_canonical}
use Rattle.ap_ground.proofs.ItemEnvironmentLemmas.{goal_vars_local, item_agrees, item_environment}
use Rattle.ap_ground.proofs.ShiftLemmas.{goal_by_none, shifted, var_by_none}
use Rattle.ap_soundness.proofs.StepLemmas.{KindsAt}
use Rattle.ap_complete.specs.Coverings.{IsCovered, IsInstanceBy, LeavesNames, answered, is_stuck, replace_in_cond}
use Rattle.ap_complete.specs.NumberedProofs as numbered
use Rattle.ap_complete.specs.NumberedProofs.{IsAmong, IsGiven, IsNamed, IsReached, kinds_in, kinds_of_use}
use Rattle.ap_complete.specs.StatementsOnCompleteness.{ProofsAreCovered}
use Rattle.ap_complete.specs.StatementsOnFreshness.{FreshForTerms}
use Rattle.ap_complete.proofs.ClearingLemmas.{Clearing, clearing}
use Rattle.ap_complete.proofs.MembershipLemmas.{among_map}
use Rattle.ap_complete.proofs.PairLemmas.{Gives, Pairs, gives-append, is_given, item_given, item_keys, keys_apart, keys_taken, looked, looked_gives, pairs_in, zipped}
use Rattle.ap_complete.proofs.RenamedProofLemmas.{renamed}
use Rattle.ap_complete.proofs.RenamingLemmas.{brought_is, fresh_term_for, local_place, marked_below, one_marked, range_is}
use Rattle.ap_complete.proofs.SimulationLemmas.{agree_flip, search_follows_proofs}
use Rattle.ap_complete.proofs.TypedPairLemmas.{filling, filling_typed, given_types, inhabited-append, item_typed, kinds_inhabited, looked_typed, pairs_typed, typed-append}

-- An answer at the path covers the terms by these swappings, or a branch is stuck at a beginning of the path.
abbrev pub CoveredBy : NominalProgram → NominalQuery → ℕ → List GroundTerm → List ℕ → List Swap → Type 0
CoveredBy p q depth gs l swaps =
    ((a : NominalAnswer) × IsAmong (answers.found l a) (query_outs p.clauses depth q) × IsInstanceBy p.signature.constructors q.locals a gs swaps)
    ⊎ ((k : List ℕ) × IsAmong (answers.stuck k) (query_outs p.clauses depth q) × (has_prefix k l ≡ true))

-- The same by swappings that leave the query's names, and take each other name below a number to one that is fresh for the terms.
pub record Away (p : NominalProgram) (q : NominalQuery) (depth : ℕ) (gs : List GroundTerm) (l : List ℕ) (m : ℕ) : Type 0 where
  pub swaps : List Swap
  pub leaves : LeavesNames q.locals swaps
  pub apart : (b : Name) → b.num < m → has_name b (local_names 0 q.locals) ≡ false → FreshForTerms (act_name swaps b) gs
  pub covered : CoveredBy p q depth gs l swaps

below_is : (i m : ℕ) → nat_lt i m ≡ true → i < m
below_is i m h = grind (arith, nat_tests)

below_true : (i m : ℕ) → i < m → nat_lt i m ≡ true
below_true i m h = grind (arith, nat_tests)

fresh_back : (s : List Swap) (b : Name) (gs : List GroundTerm) → FreshForTerms b (map (act_ground s) gs) → FreshForTerms (act_name (inverse s) b) gs
fresh_back s b [] h = tt
fresh_back s b (g ∷ gs) h = (sym (fresh_moved s b g) ∙ h.0, fresh_back s b gs h.1)

-- A STATE'S ANSWER

pub meets_acted : (f : Grounding) (s : List Swap) (ds : Conds) → meets f ds ≡ true → meets (λ x. act_ground s (f x)) (map (replace_in_cond s) ds) ≡ true
meets_acted f s [] h = refl
meets_acted f s (c ∷ ds) h =
    let first = fresh c.name (f c.var) in
    and_both (fresh (act_name s c.name) (act_ground s (f c.var))) (meets (λ x. act_ground s (f x)) (map (replace_in_cond s) ds)) (fresh_act s c.name (f c.var) ∙ and_left first (meets f ds) h)
    (meets_acted f s ds (and_right first (meets f ds) h))

each_itself : (gs : List GroundTerm) → AlphaEach gs gs
each_itself [] = tt
each_itself (g ∷ gs) = (alpha_itself g, each_itself gs)

module _ (f : Grounding) (r : State) (solves : Solves f r) (k : List Swap) where
  back : (gs : List GroundTerm) (xs : List Var) → AlphaEach (map (act_ground k) gs) (map (λ x. f (rename_var 0 x)) xs)
      → AlphaEach gs (map (λ t. grounded (λ x. act_ground (inverse k) (f x)) (replace_names (inverse k) t)) (map (λ x. closed_term r (susp [] x)) xs))
  back [] [] h = tt
  back (g ∷ gs) [] h = absurd h
  back [] (x ∷ xs) h = absurd h
  back (g ∷ gs) (x ∷ xs) h =
      let u = under r.bindings (susp [] x) in
      let bound : alpha (f x) (grounded f u) ≡ true = ap (λ t. alpha t (grounded f u)) (sym (act_ground_none (f x))) ∙ under_alpha f r.bindings solves.agreeing (susp [] x) in
      let here : alpha (act_ground k g) (f x) ≡ true = ap (λ y. alpha (act_ground k g) (f y)) (sym (var_by_none x)) ∙ h.0 in
      let moved : alpha g (act_ground (inverse k) (grounded f u)) ≡ true =
      sym (alpha_move k g (grounded f u)) ∙ alpha_trans (act_ground k g) (f x) (grounded f u) here bound in (
        ap (alpha g) (sym (act_grounded (inverse k) f (closed_term r (susp [] x))) ∙ ap (act_ground (inverse k)) (grounded_canonical f u)) ∙ moved,
        back gs xs h.1,
      )

module _ (p : NominalProgram) (restricted : KeepsRestriction p) (q : NominalQuery) (t : IsTypedQuery term_form p.signature q) (depth : ℕ) (gs : List GroundTerm)
    (types_of : AreOfTypes p.signature.constructors (kinds_of q.locals) (local_vars 0 q.locals) gs) (proof : GroundProof)
    (valid : IsValid p (kinds_of q.locals) proof q.goal (environment q.locals (local_names 0 q.locals) gs)) (low : height proof ≤ depth) where
  abbrev locals : List NominalLocal
  locals = q.locals

  abbrev kinds : List NominalKind
  kinds = kinds_of locals

  abbrev names : List Name
  names = local_names 0 locals

  abbrev next : ℕ
  next = 0 + length locals

  abbrev count : ℕ
  count = length (kinds_in p q.goal proof)

  query_free : (b : Name) → has_name b (free_names q.goal) ≡ true → has_name b names ≡ true
  query_free = goal_local p.signature locals [] q.goal t.2 t.0

  query_marked : (i : ℕ) → has_number i (brought q.goal) ≡ true → is_marked locals i ≡ true
  query_marked = one_marked locals (brought q.goal) t.2.marked

  agrees_on_query : (f : Grounding) → AgreeOn q.goal (shifted 0 f) (item_environment 0 f locals)
  agrees_on_query f = item_agrees 0 f locals q.goal query_free (goal_vars_local p.signature.constructors p.signature.predicates locals q.goal t.0 (λ i e. (t.2.inside i e).1))

  -- THE TERMS' OWN NAMES OUT OF THE WAY

  bad_low : (a : Name) → is_taken 0 next count q.goal a.num ≡ true → a.num < next + count
  bad_low a h =
      elim (or_cases (in_range next count a.num) (is_brought 0 (brought q.goal) a.num) h) [
        | inl i ↦ (range_is next count a.num i).1
        | inr i ↦
            let b = brought_is 0 (brought q.goal) a.num i in
            let l = marked_below locals b.0 (query_marked b.0 b.1) in
            let f = b.2 in
            omega arith
      ]

  query_name_low : (b : Name) → has_name b names ≡ true → b.num < length locals
  query_name_low b h = let w = local_place 0 locals b h in let f = w.number in let l = w.below in omega arith

  not_high : (i : ℕ) → i < length locals → next ≤ i → ⊥
  not_high i l h = omega arith

  query_name_free : (b : Name) → has_name b names ≡ true → is_taken 0 next count q.goal b.num ≡ false
  query_name_free b h =
      false_if_not (is_taken 0 next count q.goal b.num) (λ i.
      elim (or_cases (in_range next count b.num) (is_brought 0 (brought q.goal) b.num) i) [
        | inl j ↦ not_high b.num (query_name_low b h) (range_is next count b.num j).0
        | inr j ↦
            let w = local_place 0 locals b h in
            let u = brought_is 0 (brought q.goal) b.num j in
            let eq = w.number in
            let eq' = u.2 in
            let same : u.0 ≡ w.place = omega arith in
            true≢false (sym (query_marked u.0 u.1) ∙ ap (is_marked locals) same ∙ w.unmarked)
      ])

  -- Beside a permutation that leaves the query's names and takes the names that the search takes out of the terms' way.
  module _ (perm : List Swap) (leaves : LeavesNames locals perm) (cleared : (a : Name) → is_taken 0 next count q.goal a.num ≡ true → FreshForTerms a (map (act_ground perm) gs)) where
    abbrev moved : List GroundTerm
    moved = map (act_ground perm) gs

    abbrev env : Environment
    env = environment locals names moved

    sorts_themselves : (as' : List Name) → AreOfSorts as' as'
    sorts_themselves [] = tt
    sorts_themselves (a ∷ as') = (refl, sorts_themselves as')

    map_left : (f : Name → Name) (as' : List Name) → ((a : Name) → has_name a as' ≡ true → f a ≡ a) → map f as' ≡ as'
    map_left f [] h = refl
    map_left f (a ∷ as') h = ap₂ ◌∷◌ (h a (has_front a as')) (map_left f as' (λ b k. h b (or_if_right (name_eq b a) (has_name b as') k)))

    valid_moved : IsValid p kinds (act_proof perm proof) q.goal env
    valid_moved =
        let sorts = sorts_themselves names in
        let e = environment locals names gs in
        let acted = proofs_equivariant p restricted.typed perm kinds proof q.goal e valid (keeps_environment locals names gs sorts) in
        let again : IsValid p kinds (act_proof perm proof) q.goal (environment locals (map (act_name perm) names) moved) =
        proofs_see_free p kinds (act_proof perm proof) q.goal (act_environment perm e) _ acted (agree_act perm locals names gs sorts q.goal query_free) in
        subst (λ (as' : List Name). IsValid p kinds (act_proof perm proof) q.goal (environment locals as' moved)) (map_left (act_name perm) names leaves) again

    -- THE SEARCH'S NAMES

    ready : IsReady p kinds 0 next count q.goal env
    ready = record {
      typed = t.0;
      keeps = keeps_environment locals names moved (sorts_themselves names);
      names = λ b i. sym ((agrees_on_query (λ x. terms.unit)).names b i);
      clear = λ a h x i. fresh_term_for a (local_vars 0 locals) moved (cleared a h) x;
      low = λ i h. let l = marked_below locals i (query_marked i h) in omega arith;
      free_low = λ b h. let l = query_name_low b (query_free b h) in omega arith;
      once = t.2.once;
      own = λ i h. (t.2.inside i (query_marked i h)).1;
    }

    rest : IsRenamed p kinds 0 next q.goal env proof
    rest = renamed p restricted proof q.goal perm kinds 0 next env ready valid_moved

    -- A GROUNDING

    abbrev all : List NominalKind
    all = kinds ++ kinds_in p q.goal rest.result

    all_inhabited : AreInhabited p.signature.constructors all
    all_inhabited =
        inhabited-append p restricted.typed kinds (kinds_in p q.goal rest.result) t.1 (kinds_inhabited p restricted.typed rest.result q.goal kinds env rest.valid)

    abbrev inner : Pairs
    inner = pairs_in p 0 next q.goal rest.result

    abbrev pairs : Pairs
    pairs = zipped (local_vars 0 locals) moved ++ inner

    abbrev fill : Grounding
    fill x = filling p restricted.typed all all_inhabited x.num

    abbrev ground : Grounding
    ground = looked pairs fill

    types_moved : AreOfTypes p.signature.constructors kinds (local_vars 0 locals) moved
    types_moved = types_act p.signature.constructors kinds perm (local_vars 0 locals) gs types_of

    gives : Gives ground pairs
    gives =
        looked_gives fill pairs
        (item_keys p restricted.typed 0 (length (kinds_in p q.goal rest.result)) locals moved q.goal inner t.2.marked
        (keys_taken p restricted.typed rest.result q.goal 0 next kinds env rest.valid)
        (keys_apart p restricted.typed rest.result q.goal 0 next kinds env rest.valid ready.low t.2.once))

    given : moved ≡ map (λ x. ground (rename_var 0 x)) (local_vars 0 locals)
    given = item_given p restricted.typed ground 0 locals moved types_moved (gives-append ground (zipped (local_vars 0 locals) moved) inner gives).0

    from_start : KindsAt 0 kinds all
    from_start i k e = let l : 0 + i ≡ i = omega arith in ap (kind_at all) l ∙ kind_at_front kinds (kinds_in p q.goal rest.result) i k e

    after_start : KindsAt next (kinds_in p q.goal rest.result) all
    after_start i k e =
        let l : next + i ≡ length kinds + i = (let c = length-map locals (λ l. l.kind) in omega arith) in
        ap (kind_at all) l ∙ kind_at_back kinds (kinds_in p q.goal rest.result) i ∙ e

    ground_typed : (x : Var) (a : NominalType) → kind_at all x.num ≡ Some (types.var a) → IsOfType p.signature.constructors (ground x) a
    ground_typed x a e =
        looked_typed p restricted.typed all pairs fill
        (typed-append p restricted.typed all (zipped (local_vars 0 locals) moved) inner (item_typed p restricted.typed all 0 locals moved from_start types_moved)
        (pairs_typed p restricted.typed all rest.result q.goal 0 next kinds env rest.valid from_start after_start))
        x a e (filling_typed p restricted.typed all all_inhabited x.num a e)

    -- THE SEARCH

    valid_shifted : IsValid p kinds rest.result q.goal (shifted 0 ground)
    valid_shifted =
        proofs_see_free p kinds rest.result q.goal (item_environment 0 ground locals) (shifted 0 ground)
        (subst (λ (hs : List GroundTerm). IsValid p kinds rest.result q.goal (environment locals names hs)) given rest.valid)
        (agree_flip q.goal (shifted 0 ground) (item_environment 0 ground locals) (agrees_on_query ground))

    first_next : next ≡ next_number (first_state q)
    first_next = let c = length-map locals (λ l. l.kind) in omega arith

    reached : IsReached ground (path proof) (solve_query p.clauses depth q) all
    reached =
        let lower : height rest.result ≤ depth = (let e = rest.same_height in omega arith) in
        let r = search_follows_proofs p restricted.typed ground kinds 0 depth q.goal (first_state q) rest.result t.0 (record { agreeing = refl; meeting = refl }) valid_shifted
        (subst (λ (j : ℕ). IsNamed p 0 j q.goal rest.result) first_next rest.named)
        (subst (λ (j : ℕ). IsGiven p ground 0 j q.goal rest.result) first_next
        (is_given p restricted.typed ground rest.result q.goal 0 next kinds env rest.valid (gives-append ground (zipped (local_vars 0 locals) moved) inner gives).1)) lower in
        subst (λ (l : List ℕ). IsReached ground l (solve_query p.clauses depth q) all) rest.same_path
        (subst (λ (g : NominalGoal). IsReached ground (path rest.result) (solve p.clauses depth g (first_state q)) all) (goal_by_none q.goal) r)

    instance_of : (r : State) (d : nodes.NominalDerivation) → Solves ground r → r.kinds ≡ all → IsInstanceBy p.signature.constructors locals (answer_in locals r d) gs (inverse perm)
    instance_of r d w e = record {
      grounding = λ x. act_ground (inverse perm) (ground x);
      types = gives_types_act p.signature.constructors (inverse perm) ground (answer_in locals r d).vars
          (subst (λ (ks : List NominalKind). GivesTypes p.signature.constructors (typed_vars ks (vars_in (binds_in locals r) r.conditions (derivation_in r d))) ground) (sym e)
          (given_types p restricted.typed all ground ground_typed (vars_in (binds_in locals r) r.conditions (derivation_in r d))));
      conditions = meets_acted ground (inverse perm) r.conditions w.meeting;
      equal = back ground r w perm gs (local_vars 0 locals) (subst (AlphaEach moved) given (each_itself moved));
    }

    covered_by : CoveredBy p q depth gs (path proof) (inverse perm)
    covered_by = go reached
      where
        go : IsReached ground (path proof) (solve_query p.clauses depth q) all → CoveredBy p q depth gs (path proof) (inverse perm)
        go (numbered.answered r d i w e) = inl (answer_in locals r d, among_map (out_in locals) (search.found (path proof) r d) (solve_query p.clauses depth q) i, instance_of r d w e)
        go (numbered.is_stuck l i h) = inr (l, among_map (out_in locals) (search.stuck l) (solve_query p.clauses depth q) i, h)

  -- Names below a number that are none of the query's, out of the terms' way.
  abbrev other_low : ℕ → Name → Bool
  other_low m a = nat_lt a.num m && not (has_name a names)

  module _ (m : ℕ) (high : next + count ≤ m) where
    cl : Clearing (other_low m) m gs []
    cl = clearing (other_low m) m (λ a h. below_is a.num m (and_left (nat_lt a.num m) (not (has_name a names)) h)) gs []

    takes_away : (a : Name) → a.num < m → has_name a names ≡ false → FreshForTerms a (map (act_ground cl.perm) gs)
    takes_away a l h = cl.cleared a (and_both (nat_lt a.num m) (not (has_name a names)) (below_true a.num m l) (ap not h))

    takes_taken : (a : Name) → is_taken 0 next count q.goal a.num ≡ true → FreshForTerms a (map (act_ground cl.perm) gs)
    takes_taken a h =
        let l = bad_low a h in
        takes_away a (omega (arith, l, high)) (false_if_not (has_name a names) (λ k. true≢false (sym h ∙ query_name_free a k)))

    leaves : LeavesNames locals cl.perm
    leaves b h =
        let l = query_name_low b h in
        cl.fixed b (ap (λ v. nat_lt b.num m && not v) h ∙ and_false (nat_lt b.num m)) (omega (arith, l, high))

    pub away : Away p q depth gs (path proof) m
    away = record {
      swaps = inverse cl.perm;
      leaves = λ b h. ap (act_name (inverse cl.perm)) (sym (leaves b h)) ∙ inverse_act cl.perm b;
      apart = λ b l h. fresh_back cl.perm b gs (takes_away b l h);
      covered = covered_by cl.perm leaves takes_taken;
    }

  pub covered : IsCovered p q depth gs (path proof)
  covered = go (away (next + count) (omega arith))
    where
      go : Away p q depth gs (path proof) (next + count) → IsCovered p q depth gs (path proof)
      go w = elim w.covered [
        | inl c ↦ answered c.0 c.1 (record { swaps = w.swaps; leaves = w.leaves; grounding = c.2.grounding; types = c.2.types; conditions = c.2.conditions; equal = c.2.equal })
        | inr c ↦ is_stuck c.0 c.1 c.2
      ]

pub proofs_covered : ProofsAreCovered
proofs_covered p restricted q t depth gs types_of proof valid low = covered p restricted q t depth gs types_of proof valid low

-- However many names are to be out of the way.
pub taken_away : (p : NominalProgram) → KeepsRestriction p → (q : NominalQuery) → IsTypedQuery term_form p.signature q → (depth : ℕ) (gs : List GroundTerm)
    → AreOfTypes p.signature.constructors (kinds_of q.locals) (local_vars 0 q.locals) gs → (proof : GroundProof)
    → IsValid p (kinds_of q.locals) proof q.goal (environment q.locals (local_names 0 q.locals) gs) → height proof ≤ depth
    → (m : ℕ) → (0 + length q.locals) + length (kinds_in p q.goal proof) ≤ m → Away p q depth gs (path proof) m
taken_away p restricted q t depth gs types_of proof valid low m high = away p restricted q t depth gs types_of proof valid low m high
