-- Where a clause is used a ground proof has one with the names of a search.
use Rattle.std.proofs.Common.{subst, ◌≡◌, ◌+◌, ◌<◌, ◌≤◌, ℕ, suc, Bool, true, false, ◌||◌, List, [], ◌∷◌, ◌++◌, map, length, refl, sym, ap, ap₂, ◌∙◌, inl, inr, arith, true≢false}
use Rattle.std.specs.Prelude.{not, Option, Some}
use Rattle.std.proofs.lemmas.List.{length-append, length-map}
use Rattle.ap_defs.specs.Alpha.{alpha, fresh}
use Rattle.ap_defs.specs.Derivations as nodes
use Rattle.ap_defs.specs.Derivations.{GroundProof, height, path}
use Rattle.ap_defs.specs.Goals as goals
use Rattle.ap_defs.specs.Goals.{NominalGoal, NominalClause, NominalProgram, clauses_of}
use Rattle.ap_defs.specs.GroundProofs.{AlphaEach, AreOfSorts, Environment, Instantiates, IsValid, clause_at, environment, instance}
use Rattle.ap_defs.specs.Occurrences.{free_names}
use Rattle.ap_defs.specs.Permutations.{act_name, has_name, inverse, name_eq}
use Rattle.ap_defs.specs.Renaming.{local_names, local_vars, rename_name}
use Rattle.ap_defs.specs.Resolution.{kinds_of}
use Rattle.ap_defs.specs.Terms as terms
use Rattle.ap_defs.specs.Terms.{GroundTerm, NominalTerm, act_ground}
use Rattle.ap_defs.specs.Types.{NominalConstructor, NominalKind}
use Rattle.ap_defs.specs.declared.terms.Name.{Name}
use Rattle.ap_defs.specs.declared.terms.Swap.{Swap}
use Rattle.ap_complete.specs.RenamedProofs.{IsReady, IsRenamed, in_range, is_brought, is_taken}
use Rattle.ap_complete.specs.Restriction.{KeepsRestriction}
use Rattle.ap_program.specs.Typed.{IsTypedClause, brought, has_number, is_marked, term_form}
use Rattle.ap_theory.specs.Exchanges.{exchange}
use Rattle.ap_theory.specs.StatementsOnExchanges.{Exchangeable}
use Rattle.ap_theory.proofs.BooleanLemmas.{false_if_not, or_cases, or_if_left}
use Rattle.ap_theory.proofs.ExchangeLemmas.{exchange_goes, exchange_other}
use Rattle.ap_theory.proofs.GroundLemmas.{act_ground-append, alpha_act, alpha_sym, alpha_trans, fresh_act, fresh_alpha}
use Rattle.ap_theory.proofs.PermutationLemmas.{act_inverse, name_eq_same}
use Rattle.ap_ground.specs.Environments.{act_environment, act_proof}
use Rattle.ap_ground.proofs.ProofActionLemmas.{has_act, instance_act, instantiates_act, keeps_environment, proofs_equivariant}
use Rattle.ap_ground.proofs.ScopeLemmas.{goal_local, program_clause_typed}
use Rattle.ap_ground.proofs.ItemEnvironmentLemmas.{goal_vars_local, item_agrees, locals_differ, names_from, sorts_renamed}
use Rattle.ap_complete.specs.NumberedProofs.{IsAmong, kinds_in, kinds_of_use}
use Rattle.ap_complete.specs.StatementsOnFreshness.{FreshForTerms}
use Rattle.ap_complete.proofs.ClearingLemmas.{Clearing, clearing, exchange_leaves, fresh_among}
use Rattle.ap_complete.proofs.MembershipLemmas.{among_map}
use Rattle.ap_complete.proofs.RenamingLemmas.{LocalPlace, act_proof-append, brought_is, each_replaced, fresh_parts, fresh_term_for, local_place, marked_below, names_act-append, names_among, one_marked, range_is, range_true, vars_among}
use Rattle.ap_complete.proofs.RestrictionLemmas.{clause_names_fresh}
use Rattle.ap_complete.proofs.ReadyLemmas.{Renames, free_not_taken, taken_low}

pub same_clause : (o : Option NominalClause) (c b : NominalClause) → o ≡ Some c → o ≡ Some b → b ≡ c
same_clause o c b h k = cc

module _ (p : NominalProgram) (restricted : KeepsRestriction p) where
  abbrev cs : List NominalConstructor
  cs = p.signature.constructors

  -- what a valid node of a clause has
  abbrev IsUse : NominalClause → List Name → List GroundTerm → GroundProof → List NominalTerm → Environment → Type 0
  IsUse c names gs d ts e =
      Instantiates cs c.locals names gs × AlphaEach (map (instance e) ts) (map (instance (environment c.locals names gs)) c.args)
      × IsValid p (kinds_of c.locals) d c.body (environment c.locals names gs)

  use_of : (kinds : List NominalKind) (q k : ℕ) (c : NominalClause) (names : List Name) (gs : List GroundTerm) (d : GroundProof) (ts : List NominalTerm) (e : Environment)
      → clause_at (clauses_of p.clauses q) k ≡ Some c → IsValid p kinds (nodes.atom k names gs d) (goals.atom q ts) e → IsUse c names gs d ts e
  use_of kinds q k c names gs d ts e at v =
      subst (λ (x : NominalClause). IsUse x names gs d ts e) (same_clause (clause_at (clauses_of p.clauses q) k) c v.0 at v.1) (v.2, v.3, v.4)

  sorts_beside : (as' bs ds : List Name) → AreOfSorts as' bs → AreOfSorts as' ds → AreOfSorts bs ds
  sorts_beside [] [] [] h k = tt
  sorts_beside (a ∷ as') (b ∷ bs) (d ∷ ds) h k = (k.0 ∙ sym h.0, sorts_beside as' bs ds h.1 k.1)
  sorts_beside [] [] (d ∷ ds) h k = absurd k
  sorts_beside [] (b ∷ bs) ds h k = absurd h
  sorts_beside (a ∷ as') [] ds h k = absurd h
  sorts_beside (a ∷ as') (b ∷ bs) [] h k = absurd k

  fresh_names_apart : (a : Name) (s : List Swap) (as' : List Name) (gs : List GroundTerm) → FreshForTerms a (map (act_ground s) (map terms.name as' ++ gs))
      → (has_name a (map (act_name s) as') ≡ false) × FreshForTerms a (map (act_ground s) gs)
  fresh_names_apart a s [] gs h = (refl, h)
  fresh_names_apart a s (b ∷ bs) gs h =
      let r = fresh_names_apart a s bs gs h.1 in
      (ap₂ ◌||◌ (is_not (name_eq a (act_name s b)) h.0) r.0, r.1)
    where
      is_not : (x : Bool) → not x ≡ true → x ≡ false
      is_not true h = absurd (true≢false (sym h))
      is_not false h = refl

  fresh_acted : (a : Name) (s t : List Swap) → act_name s a ≡ a → (gs : List GroundTerm) → FreshForTerms a (map (act_ground t) gs) → FreshForTerms a (map (act_ground (s ++ t)) gs)
  fresh_acted a s t h [] k = tt
  fresh_acted a s t h (g ∷ gs) k = (
    ap (fresh a) (act_ground-append s t g) ∙ ap (λ b. fresh b (act_ground s (act_ground t g))) (sym h) ∙ fresh_act s a (act_ground t g) ∙ k.0,
    fresh_acted a s t h gs k.1,
  )

  module _ (d : GroundProof) (ih : Renames p d) (q k : ℕ) (ts : List NominalTerm) (names : List Name) (gs : List GroundTerm) (kinds : List NominalKind) (n m : ℕ) (e : Environment)
      (c : NominalClause) (at : clause_at (clauses_of p.clauses q) k ≡ Some c) (s : List Swap)
      (r : IsReady p kinds n m (length (kinds_of c.locals ++ kinds_in p c.body d)) (goals.atom q ts) e)
      (v : IsValid p kinds (act_proof s (nodes.atom k names gs d)) (goals.atom q ts) e) where
    abbrev count : ℕ
    count = length (kinds_of c.locals ++ kinds_in p c.body d)

    abbrev inner : ℕ
    inner = length (kinds_in p c.body d)

    abbrev goal : NominalGoal
    goal = goals.atom q ts

    abbrev item : IsTypedClause term_form p.signature (program_clause_typed p.signature 0 p.clauses q k c restricted.typed.0 at).0 c
    item = (program_clause_typed p.signature 0 p.clauses q k c restricted.typed.0 at).1

    counted : count ≡ length c.locals + inner
    counted = length-append (kinds_of c.locals) (kinds_in p c.body d) ∙ ap (λ j. j + inner) (length-map c.locals (λ l. l.kind))

    abbrev bad : Name → Bool
    bad a = is_taken n m count goal a.num

    abbrev old : List Name
    old = map (act_name s) names

    abbrev given : List GroundTerm
    given = map (act_ground s) gs

    abbrev args : List GroundTerm
    args = map (instance e) ts

    used : IsUse c old given (act_proof s d) ts e
    used = use_of kinds q k c old given (act_proof s d) ts e at v

    cl : Clearing bad (m + count) (map terms.name old ++ given) args
    cl = clearing bad (m + count) (taken_low p kinds n m count goal e r) (map terms.name old ++ given) args

    abbrev apart : List Name
    apart = map (act_name cl.perm) old

    abbrev own : List Name
    own = local_names m c.locals

    abbrev go : List Swap
    go = exchange apart own

    abbrev all : List Swap
    all = go ++ cl.perm

    in_body : (i : ℕ) → m ≤ i → i < m + (length c.locals + inner) → is_taken n m count goal i ≡ true
    in_body i l h = let same = counted in or_if_left (in_range m count i) false (range_true m count i l (omega arith))

    own_bad : (a : Name) → has_name a own ≡ true → bad a ≡ true
    own_bad a h =
        let l = local_place m c.locals a h in
        let f = l.number in
        let b = l.below in
        in_body a.num (omega arith) (omega arith)

    bad_apart : (a : Name) → bad a ≡ true → has_name a apart ≡ false
    bad_apart a h = (fresh_names_apart a cl.perm old given (cl.cleared a h)).0

    locals_sorts : AreOfSorts (local_names 0 c.locals) own
    locals_sorts = subst (AreOfSorts (local_names 0 c.locals)) (sym (names_from m c.locals)) (sorts_renamed m (local_names 0 c.locals))

    exchangeable : Exchangeable apart own
    exchangeable =
        let moved = instantiates_act cl.perm cs c.locals old given used.0 in (
          sorts_beside (local_names 0 c.locals) apart own moved.sorts locals_sorts,
          moved.different,
          locals_differ m c.locals,
          λ a h. false_if_not (has_name a own) (λ i. true≢false (sym h ∙ bad_apart a (own_bad a i))),
        )

    gone : map (act_name all) old ≡ own
    gone = sym (names_act-append go cl.perm old) ∙ exchange_goes apart own exchangeable

    -- the arguments stay
    bad_fresh : (t : NominalTerm) → IsAmong t ts → (a : Name) → bad a ≡ true → fresh a (instance e t) ≡ true
    bad_fresh t i a h =
        fresh_parts e r.keeps a t
        (λ b j.
        let there = names_among b t ts i j in
        false_if_not (name_eq a (e.names b)) (λ l.
        let same : a ≡ rename_name n b = name_eq_same a (e.names b) l ∙ r.names b there in
        true≢false (sym (ap (λ (x : Name). bad x) (sym same) ∙ h) ∙ free_not_taken p kinds n m count goal e r b there)))
        (λ x j. r.clear a h x (vars_among x t ts i j))

    old_fresh : (t : NominalTerm) → IsAmong t ts → (a : Name) → has_name a old ≡ true → fresh a (instance e t) ≡ true
    old_fresh t i a h =
        fresh_among a (instance e t) args (among_map (instance e) t ts i)
        (clause_names_fresh p restricted q k c at old given used.0 (act_proof s d) used.2 args used.1 a h)

    cleared_arg : (t : NominalTerm) → IsAmong t ts → alpha (act_ground cl.perm (instance e t)) (instance e t) ≡ true
    cleared_arg t i = cl.left (instance e t) (among_map (instance e) t ts i) (bad_fresh t i)

    apart_fresh : (t : NominalTerm) → IsAmong t ts → (a : Name) → has_name a apart ≡ true → fresh a (instance e t) ≡ true
    apart_fresh t i a h =
        let b = act_name (inverse cl.perm) a in
        let same = act_inverse cl.perm a in
        let there : has_name b old ≡ true = sym (has_act cl.perm b old) ∙ ap (λ x. has_name x apart) same ∙ h in
        sym (fresh_alpha a (act_ground cl.perm (instance e t)) (instance e t) (cleared_arg t i))
        ∙ ap (λ x. fresh x (act_ground cl.perm (instance e t))) (sym same) ∙ fresh_act cl.perm b (instance e t) ∙ old_fresh t i b there

    arg_stays : (t : NominalTerm) → IsAmong t ts → alpha (act_ground all (instance e t)) (instance e t) ≡ true
    arg_stays t i =
        let g = instance e t in
        ap (λ z. alpha z g) (act_ground-append go cl.perm g)
        ∙ alpha_trans (act_ground go (act_ground cl.perm g)) (act_ground go g) g (alpha_act go (act_ground cl.perm g) g ∙ cleared_arg t i)
        (exchange_leaves apart own g exchangeable.0 (apart_fresh t i) (λ a h. bad_fresh t i a (own_bad a h)))

    abbrev terms_after : List GroundTerm
    terms_after = map (act_ground all) given

    abbrev env : Environment
    env = environment c.locals own terms_after

    used_after : IsUse c own terms_after (act_proof all (act_proof s d)) ts (act_environment all e)
    used_after =
        subst (λ (as' : List Name). IsUse c as' terms_after (act_proof all (act_proof s d)) ts (act_environment all e)) gone
        (use_of kinds q k c (map (act_name all) old) terms_after (act_proof all (act_proof s d)) ts (act_environment all e) at
        (proofs_equivariant p restricted.typed all kinds (act_proof s (nodes.atom k names gs d)) goal e v r.keeps))

    heads : AlphaEach args (map (instance env) c.args)
    heads =
        each_replaced ts (map (instance env) c.args) (instance (act_environment all e)) (instance e)
        (λ t i. alpha_sym (instance (act_environment all e) t) (instance e t) (ap (λ z. alpha z (instance e t)) (sym (instance_act all e r.keeps t)) ∙ arg_stays t i)) used_after.1

    -- the body
    local_free : (b : Name) → has_name b (free_names c.body) ≡ true → has_name b (local_names 0 c.locals) ≡ true
    local_free = goal_local p.signature c.locals c.args c.body item.3 item.1.1

    body_marked : (i : ℕ) → has_number i (brought c.body) ≡ true → is_marked c.locals i ≡ true
    body_marked = one_marked c.locals (brought c.body) item.3.marked

    body_clear : (a : Name) → is_taken m (m + length c.locals) inner c.body a.num ≡ true → FreshForTerms a terms_after
    body_clear a t = fresh_acted a go cl.perm (exchange_other apart own a exchangeable.0 (bad_apart a isbad) not_own) given (fresh_names_apart a cl.perm old given (cl.cleared a isbad)).1
      where
        isbad : bad a ≡ true
        isbad = elim (or_cases (in_range (m + length c.locals) inner a.num) (is_brought m (brought c.body) a.num) t) [
          | inl i ↦ let l = range_is (m + length c.locals) inner a.num i in let low = l.0 in let high = l.1 in in_body a.num (omega arith) (omega arith)
          | inr i ↦
              let b = brought_is m (brought c.body) a.num i in
              let l = marked_below c.locals b.0 (body_marked b.0 b.1) in
              let f = b.2 in
              in_body a.num (omega arith) (omega arith)
        ]

        high_apart : m + length c.locals ≤ a.num → LocalPlace m c.locals a.num → ⊥
        high_apart l w = let f = w.number in let b = w.below in omega arith

        not_own : has_name a own ≡ false
        not_own = false_if_not (has_name a own) (λ h.
            let w = local_place m c.locals a h in
            elim (or_cases (in_range (m + length c.locals) inner a.num) (is_brought m (brought c.body) a.num) t) [
              | inl i ↦ high_apart (range_is (m + length c.locals) inner a.num i).0 w
              | inr i ↦
                  let b = brought_is m (brought c.body) a.num i in
                  let f = b.2 in
                  let l = w.number in
                  let same : b.0 ≡ w.place = omega arith in
                  true≢false (sym (body_marked b.0 b.1) ∙ ap (is_marked c.locals) same ∙ w.unmarked)
            ])

    body_ready : IsReady p (kinds_of c.locals) m (m + length c.locals) inner c.body env
    body_ready = record {
      typed = item.1.1;
      keeps = keeps_environment c.locals own terms_after locals_sorts;
      names = λ b i. sym ((item_agrees m (λ x. terms.unit) c.locals c.body local_free
          (goal_vars_local cs p.signature.predicates c.locals c.body item.1.1 (λ j l. (item.3.inside j l).1))).names b i);
      clear = λ a h x i. fresh_term_for a (local_vars 0 c.locals) terms_after (body_clear a h) x;
      low = λ i h. let l = marked_below c.locals i (body_marked i h) in omega arith;
      free_low = λ b h. let w = local_place 0 c.locals b (local_free b h) in let f = w.number in let l = w.below in omega arith;
      once = item.3.once;
      own = λ i h. (item.3.inside i (body_marked i h)).1;
    }

    pub atom_renamed : IsRenamed p kinds n m goal e (nodes.atom k names gs d)
    atom_renamed =
        let z = ih c.body (all ++ s) (kinds_of c.locals) m (m + length c.locals) env body_ready
        (subst (λ (y : GroundProof). IsValid p (kinds_of c.locals) y c.body env) (act_proof-append all s d) used_after.2) in
        record {
          result = nodes.atom k own terms_after z.result;
          valid = (c, at, used_after.0, heads, z.valid);
          named = (c, at, refl, z.named);
          same_path = ap (λ l. k ∷ l) z.same_path;
          same_height = ap suc z.same_height;
          same_kinds =
              ap (kinds_of_use (λ g. kinds_in p g z.result)) at ∙ ap (λ l. kinds_of c.locals ++ l) z.same_kinds ∙ sym (ap (kinds_of_use (λ g. kinds_in p g d)) at);
        }
