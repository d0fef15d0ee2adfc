-- A search follows a ground proof that has its names and a grounding's terms.
use Rattle.std.proofs.Common.{subst, ◌≡◌, ◌+◌, ◌≤◌, ℕ, zero, suc, true, ◌&&◌, List, [], ◌∷◌, ◌++◌, map, length, refl, sym, ap, ap₂, ◌∙◌, inl, arith, true≢false}
use Rattle.std.specs.Prelude.{Option, Some, None}
use Rattle.std.proofs.lemmas.List.{append-nil, append_assoc, length-append, length-map}
use Rattle.ap_defs.specs.Alpha.{alpha}
use Rattle.ap_defs.specs.Alpha as ground
use Rattle.ap_defs.specs.Derivations as nodes
use Rattle.ap_defs.specs.Derivations.{GroundProof, height, path}
use Rattle.ap_defs.specs.Freshness.{add_conds, both as both_lists, reduce}
use Rattle.ap_defs.specs.Goals.{NominalGoal, NominalClause, NominalProgram, atom, both, clauses_of, either, equal, exists, fresh, new, succeed}
use Rattle.ap_defs.specs.GroundProofs.{AlphaEach, IsFresh, IsNew, IsValid, Environment, clause_at, environment, instance, with_name}
use Rattle.ap_defs.specs.Groundings.{Grounding, agrees, equates_all, grounded, is_instance, meets}
use Rattle.ap_defs.specs.Occurrences.{free_vars}
use Rattle.ap_defs.specs.Renaming.{local_names, local_vars, rename_goal, rename_name, rename_term, rename_var}
use Rattle.ap_defs.specs.Resolution.{Call, Output, State, by_clause, by_clauses, calls, clause_node, each_found, found, fresh_for_each, if_reduced, if_unified, just_found, kinds_of, next_number, outputs, solve, stuck, test_fresh}
use Rattle.ap_defs.specs.Resolution as search
use Rattle.ap_defs.specs.Substitution.{Binding, under}
use Rattle.ap_defs.specs.Terms as terms
use Rattle.ap_defs.specs.Terms.{GroundTerm, NominalTerm}
use Rattle.ap_defs.specs.Types.{NominalConstructor, NominalKind}
use Rattle.ap_defs.specs.Unification.{Unified, has_var, reduce_all, unify}
use Rattle.ap_defs.specs.declared.terms.Cond.{Cond}
use Rattle.ap_defs.specs.declared.terms.Name.{Name}
use Rattle.ap_defs.specs.declared.terms.Var.{Var}
use Rattle.ap_program.specs.RawTyping.{HasTermType}
use Rattle.ap_program.specs.Typed.{AreArguments, IsTypedClause, IsTypedGoal, IsTypedProgram, predicate_at, term_form}
use Rattle.ap_theory.specs.StatementsOnGroundings.{meets_some}
use Rattle.ap_theory.proofs.BooleanLemmas.{and_both, and_left, and_right, or_if_left, or_if_right}
use Rattle.ap_theory.proofs.GroundLemmas.{act_ground_none, alpha_sym, fresh_alpha}
use Rattle.ap_theory.proofs.GroundingLemmas.{fresh_reduce, meets_add_all, under_alpha, unify_instances}
use Rattle.ap_theory.proofs.TermLemmas.{same_var}
use Rattle.ap_ground.specs.Environments.{AgreeOn}
use Rattle.ap_ground.proofs.AlphaLemmas.{alpha_each_sym}
use Rattle.ap_ground.proofs.EnvironmentLemmas.{instances_agree}
use Rattle.ap_ground.proofs.FreeIdentifierLemmas.{proofs_see_free}
use Rattle.ap_ground.proofs.ScopeLemmas.{program_clause_typed}
use Rattle.ap_soundness.specs.FoundStates.{Solves}
use Rattle.ap_soundness.proofs.BackwardLemmas.{under_name}
use Rattle.ap_ground.proofs.ItemEnvironmentLemmas.{agrees_on_body, agrees_on_head, item_environment}
use Rattle.ap_ground.proofs.OccurrenceLemmas.{has_var_of_map}
use Rattle.ap_ground.proofs.ShiftLemmas.{free_vars_renamed, shifted, shifted_instance, with_own_name, with_own_term}
use Rattle.ap_complete.specs.NumberedProofs.{IsAmong, IsGiven, IsNamed, IsReached, answered, is_stuck, kinds_in, kinds_of_use}
use Rattle.ap_complete.specs.StatementsOnSimulation.{SearchFollowsProofs}
use Rattle.ap_complete.proofs.MembershipLemmas.{among_clauses, among_each, among_left, among_right, prefix_below, prefix_longer, reached_among, reached_as, reached_below, stuck_each}

-- the other way round
pub agree_flip : (g : NominalGoal) (e f : Environment) → AgreeOn g e f → AgreeOn g f e
agree_flip g e f h = record { names = λ b k. sym (h.names b k); terms = λ x k. alpha_sym (e.terms x) (f.terms x) (h.terms x k) }

fresh_is_name : (t w : GroundTerm) → IsFresh t w → (a : Name) × (t ≡ terms.name a)
fresh_is_name (terms.name a) w h = (a, refl)
fresh_is_name terms.unit w h = absurd h
fresh_is_name (terms.pair t u) w h = absurd h
fresh_is_name (terms.app f t) w h = absurd h
fresh_is_name (terms.abs a t) w h = absurd h

module _ (f : Grounding) where
  -- Steps.
  unified_reached : (go : State → List Output) (s : State) (l : List ℕ) (kinds : List NominalKind) (o : Option Unified) → is_instance f o ≡ true
      → ((r : Unified) → Solves f (record s { bindings = r.bindings; conditions = r.conditions }) → IsReached f l (go (record s { bindings = r.bindings; conditions = r.conditions })) kinds)
      → IsReached f l (if_unified go s o) kinds
  unified_reached go s l kinds None h k = absurd (true≢false (sym h))
  unified_reached go s l kinds (Some r) h k =
      k r (record { agreeing = and_left (agrees f r.bindings) (meets f r.conditions) h; meeting = and_right (agrees f r.bindings) (meets f r.conditions) h })

  reduced_reached : (go : State → List Output) (s : State) → Solves f s → (l : List ℕ) (kinds : List NominalKind) (o : Option (List Cond)) → meets_some f o ≡ true
      → ((cs : List Cond) → Solves f (record s { conditions = add_conds cs s.conditions }) → IsReached f l (go (record s { conditions = add_conds cs s.conditions })) kinds)
      → IsReached f l (if_reduced go s o) kinds
  reduced_reached go s w l kinds None h k = absurd (true≢false (sym h))
  reduced_reached go s w l kinds (Some cs) h k =
      k cs (record { agreeing = w.agreeing; meeting = meets_add_all f cs s.conditions ∙ and_both (meets f cs) (meets f s.conditions) h w.meeting })

  unify_forth : (s : State) → Solves f s → (ts us : List NominalTerm) → equates_all f ts us ≡ true → is_instance f (unify s.bindings s.conditions ts us) ≡ true
  unify_forth s w ts us e =
      sym (unify_instances f s.bindings s.conditions ts us)
      ∙ and_both (meets f s.conditions) (agrees f s.bindings && equates_all f ts us) w.meeting (and_both (agrees f s.bindings) (equates_all f ts us) w.agreeing e)

  reduce_forth : (bs : List Binding) (a : Name) (t : NominalTerm) → agrees f bs ≡ true → ground.fresh a (grounded f t) ≡ true → meets_some f (reduce a (under bs t)) ≡ true
  reduce_forth bs a t h k = sym (fresh_reduce f a (under bs t)) ∙ sym (fresh_alpha a (grounded f t) (grounded f (under bs t)) (under_alpha f bs h t)) ∙ k

  meets-append : (cs ds : List Cond) → meets f cs ≡ true → meets f ds ≡ true → meets f (cs ++ ds) ≡ true
  meets-append [] ds h k = k
  meets-append (c ∷ cs) ds h k =
      let first = ground.fresh c.name (f c.var) in
      and_both first (meets f (cs ++ ds)) (and_left first (meets f cs) h) (meets-append cs ds (and_right first (meets f cs) h) k)

  meets_both : (o p : Option (List Cond)) → meets_some f o ≡ true → meets_some f p ≡ true → meets_some f (both_lists o p) ≡ true
  meets_both None p h k = h
  meets_both (Some cs) None h k = k
  meets_both (Some cs) (Some ds) h k = meets-append cs ds h k

  reduce_all_forth : (bs : List Binding) (a : Name) → agrees f bs ≡ true → (xs : List Var) → ((x : Var) → has_var x xs ≡ true → ground.fresh a (f x) ≡ true)
      → meets_some f (reduce_all bs (fresh_for_each a xs)) ≡ true
  reduce_all_forth bs a h [] k = refl
  reduce_all_forth bs a h (x ∷ xs) k =
      meets_both (reduce a (under bs (terms.susp [] x))) (reduce_all bs (fresh_for_each a xs))
      (reduce_forth bs a (terms.susp [] x) h (ap (ground.fresh a) (act_ground_none (f x)) ∙ k x (or_if_left _ (has_var x xs) (same_var x x refl))))
      (reduce_all_forth bs a h xs (λ y i. k y (or_if_right _ (has_var y xs) i)))

  -- what is equal to a left side of a freshness goal that holds is a name
  not_name : (s : State) → Solves f s → (t u v : NominalTerm) → under s.bindings t ≡ v → IsFresh (grounded f t) (grounded f u)
      → ((a : Name) → true ≡ alpha (terms.name a) (grounded f v) → ⊥) → ⊥
  not_name s w t u v e h k =
      let n = fresh_is_name (grounded f t) (grounded f u) h in
      k n.0 (sym (ap₂ alpha (sym n.1) (ap (grounded f) (sym e)) ∙ under_alpha f s.bindings w.agreeing t))

  -- what a freshness goal with this left side, under the bindings, comes to
  fresh_reached : (s : State) → Solves f s → (kinds : List NominalKind) → s.kinds ≡ kinds → (t u v : NominalTerm) → under s.bindings t ≡ v → IsFresh (grounded f t) (grounded f u)
      → IsReached f [] (test_fresh s v u) kinds
  fresh_reached s w kinds i t u (terms.name a) e h =
      let left = under_name f s.bindings t a w.agreeing e in
      reduced_reached (just_found nodes.fresh) s w [] kinds (reduce a (under s.bindings u)) (reduce_forth s.bindings a u w.agreeing (subst (λ z. IsFresh z (grounded f u)) left h))
      (λ cs k. answered _ nodes.fresh (inl refl) k i)
  fresh_reached s w kinds i t u (terms.susp p x) e h = is_stuck [] (inl refl) refl
  fresh_reached s w kinds i t u terms.unit e h = absurd (not_name s w t u terms.unit e h (λ a. true≢false))
  fresh_reached s w kinds i t u (terms.pair v z) e h = absurd (not_name s w t u (terms.pair v z) e h (λ a. true≢false))
  fresh_reached s w kinds i t u (terms.app g v) e h = absurd (not_name s w t u (terms.app g v) e h (λ a. true≢false))
  fresh_reached s w kinds i t u (terms.abs b v) e h = absurd (not_name s w t u (terms.abs b v) e h (λ a. true≢false))

  -- equal arguments
  equates_of_each : (n m : ℕ) (ts us : List NominalTerm) → AlphaEach (map (instance (shifted n f)) ts) (map (instance (shifted m f)) us)
      → equates_all f (map (rename_term n) ts) (map (rename_term m) us) ≡ true
  equates_of_each n m [] us h = refl
  equates_of_each n m (t ∷ ts) [] h = refl
  equates_of_each n m (t ∷ ts) (u ∷ us) h =
      and_both (alpha (grounded f (rename_term n t)) (grounded f (rename_term m u))) (equates_all f (map (rename_term n) ts) (map (rename_term m) us))
      (sym (ap₂ alpha (shifted_instance n f t) (shifted_instance m f u)) ∙ h.0) (equates_of_each n m ts us h.1)

  module _ (p : NominalProgram) (typed : IsTypedProgram p) where
    abbrev cs : List NominalConstructor
    cs = p.signature.constructors

    abbrev Reaches : List NominalKind → ℕ → ℕ → NominalGoal → GroundProof → State → List Output → Type 0
    Reaches kinds n depth g proof s os =
        Solves f s → IsValid p kinds proof g (shifted n f) → IsNamed p n (next_number s) g proof → IsGiven p f n (next_number s) g proof → height proof ≤ depth
        → IsReached f (path proof) os (s.kinds ++ kinds_in p g proof)

    abbrev CallReaches : ℕ → Call → Type 0
    CallReaches depth call = (kinds : List NominalKind) (n q : ℕ) (ts : List NominalTerm) (s : State) (proof : GroundProof)
        → AreArguments (HasTermType cs kinds) ts (predicate_at p.signature.predicates q) → Reaches kinds n depth (atom q ts) proof s (call q (map (rename_term n) ts) s)

    kinds_end : (s : State) → s.kinds ≡ s.kinds ++ []
    kinds_end s = sym (append-nil s.kinds)

    next_after : (s r : State) (more : List NominalKind) → r.kinds ≡ s.kinds ++ more → next_number s + length more ≡ next_number r
    next_after s r more e = sym (ap length e ∙ length-append s.kinds more)

    module _ (depth : ℕ) (call : Call) (reaches : CallReaches depth call) where
      both_reached : (g h : NominalGoal) (n : ℕ) (s : State) (d e : GroundProof) → IsReached f (path d) (outputs call (rename_goal n g) s) (s.kinds ++ kinds_in p g d)
          → ((r : State) → Solves f r → r.kinds ≡ s.kinds ++ kinds_in p g d → IsReached f (path e) (outputs call (rename_goal n h) r) (r.kinds ++ kinds_in p h e))
          → IsReached f (path d ++ path e) (each_found (outputs call (rename_goal n h)) (outputs call (rename_goal n g) s)) (s.kinds ++ (kinds_in p g d ++ kinds_in p h e))
      both_reached g h n s d e (is_stuck q i k) later =
          is_stuck q (stuck_each (outputs call (rename_goal n h)) (outputs call (rename_goal n g) s) q i) (prefix_longer q (path d) (path e) k)
      both_reached g h n s d e (answered r t i w k) later = second (later r w k)
        where
          second : IsReached f (path e) (outputs call (rename_goal n h) r) (r.kinds ++ kinds_in p h e)
              → IsReached f (path d ++ path e) (each_found (outputs call (rename_goal n h)) (outputs call (rename_goal n g) s)) (s.kinds ++ (kinds_in p g d ++ kinds_in p h e))
          second (answered r' t' i' w' k') =
              answered r' (nodes.both t t') (among_each (outputs call (rename_goal n h)) (outputs call (rename_goal n g) s) (path d) r t (found (path e) r' t') i i') w'
              (k' ∙ ap (λ ks. ks ++ kinds_in p h e) k ∙ append_assoc s.kinds (kinds_in p g d) (kinds_in p h e))
          second (is_stuck q i' k') =
              is_stuck (path d ++ q) (among_each (outputs call (rename_goal n h)) (outputs call (rename_goal n g) s) (path d) r t (stuck q) i i') (prefix_below (path d) q (path e) k')

      goal_reached : (kinds : List NominalKind) (n : ℕ) (goal : NominalGoal) (s : State) (proof : GroundProof) → IsTypedGoal (HasTermType cs kinds) p.signature.predicates kinds goal
          → Reaches kinds n depth goal proof s (outputs call (rename_goal n goal) s)
      goal_reached kinds n succeed s nodes.succeed t w v a b l = answered s nodes.succeed (inl refl) w (kinds_end s)
      goal_reached kinds n (atom q ts) s proof t w v a b l = reaches kinds n q ts s proof t w v a b l
      goal_reached kinds n (equal x y) s nodes.equal t w v a b l =
          unified_reached (just_found nodes.equal) s [] (s.kinds ++ []) (unify s.bindings s.conditions (rename_term n x ∷ []) (rename_term n y ∷ []))
          (unify_forth s w (rename_term n x ∷ []) (rename_term n y ∷ [])
          (and_both (alpha (grounded f (rename_term n x)) (grounded f (rename_term n y))) true (sym (ap₂ alpha (shifted_instance n f x) (shifted_instance n f y)) ∙ v) refl))
          (λ r k. answered _ nodes.equal (inl refl) k (kinds_end s))
      goal_reached kinds n (fresh x y) s nodes.fresh t w v a b l =
          fresh_reached s w (s.kinds ++ []) (kinds_end s) (rename_term n x) (rename_term n y) (under s.bindings (rename_term n x)) refl
          (subst (λ z. IsFresh z (grounded f (rename_term n y))) (shifted_instance n f x) (subst (λ z. IsFresh (instance (shifted n f) x) z) (shifted_instance n f y) v))
      goal_reached kinds n (both g h) s (nodes.both d e) t w v a b l =
          both_reached g h n s d e (goal_reached kinds n g s d t.0 w v.0 a.0 b.0 (omega arith))
          (λ r k i.
          let m = next_after s r (kinds_in p g d) i in
          goal_reached kinds n h r e t.1 k v.1 (subst (λ (j : ℕ). IsNamed p n j h e) m a.1) (subst (λ (j : ℕ). IsGiven p f n j h e) m b.1) (omega arith))
      goal_reached kinds n (either g h) s (nodes.left d) t w v a b l =
          let os = outputs call (rename_goal n g) s in
          reached_among f (1 ∷ path d) (map (search.below (1 ∷ []) nodes.left) os) _ (s.kinds ++ kinds_in p g d)
          (λ o. among_left o (map (search.below (1 ∷ []) nodes.left) os) (map (search.below (2 ∷ []) nodes.right) (outputs call (rename_goal n h) s)))
          (reached_below f (1 ∷ []) nodes.left (path d) os (s.kinds ++ kinds_in p g d) (goal_reached kinds n g s d t.0 w v a b l))
      goal_reached kinds n (either g h) s (nodes.right d) t w v a b l =
          let os = outputs call (rename_goal n h) s in
          reached_among f (2 ∷ path d) (map (search.below (2 ∷ []) nodes.right) os) _ (s.kinds ++ kinds_in p h d)
          (λ o. among_right o (map (search.below (1 ∷ []) nodes.left) (outputs call (rename_goal n g) s)) (map (search.below (2 ∷ []) nodes.right) os))
          (reached_below f (2 ∷ []) nodes.right (path d) os (s.kinds ++ kinds_in p h d) (goal_reached kinds n h s d t.1 w v a b l))
      goal_reached kinds n (exists x g) s (nodes.exists u d) t w v a b l =
          reached_below f [] (nodes.exists (terms.susp [] (rename_var n x))) (path d) (outputs call (rename_goal n g) s) (s.kinds ++ kinds_in p g d)
          (goal_reached kinds n g s d t.1 w (subst (λ e. IsValid p kinds d g e) (with_own_term n f x u b.0) v.1) a b.1 l)
      goal_reached kinds n (new c g) s (nodes.new c' d) t w v a b l =
          let own = rename_name n c in
          let valid : IsNew own (new c g) (shifted n f) × IsValid p kinds d g (with_name (shifted n f) c own) =
          subst (λ (z : Name). IsNew z (new c g) (shifted n f) × IsValid p kinds d g (with_name (shifted n f) c z)) a.0 (v.1, v.2) in
          reached_below f [] (nodes.new own) (path d) _ (s.kinds ++ kinds_in p g d)
          (reduced_reached (outputs call (rename_goal n g)) s w (path d) (s.kinds ++ kinds_in p g d) (reduce_all s.bindings (fresh_for_each own (free_vars (rename_goal n g))))
          (reduce_all_forth s.bindings own w.agreeing (free_vars (rename_goal n g))
          (λ x i.
          let y = has_var_of_map (rename_var n) x (free_vars g) (ap (has_var x) (sym (free_vars_renamed n g)) ∙ i) in
          ap (λ z. ground.fresh own (f z)) y.2 ∙ valid.0.fresh_for y.0 y.1))
          (λ conds k. goal_reached kinds n g (record s { conditions = add_conds conds s.conditions }) d t.1 k (subst (λ e. IsValid p kinds d g e) (with_own_name n f c) valid.1) a.1 b l))
      goal_reached kinds n _ s _ t w v a b l = absurd v

      module _ (kinds : List NominalKind) (n q : ℕ) (ts : List NominalTerm) (s : State) (k : ℕ) (c : NominalClause) (at : clause_at (clauses_of p.clauses q) k ≡ Some c)
          (is : IsTypedClause term_form p.signature c.pred c) (d : GroundProof) where
        abbrev m : ℕ
        m = next_number s

        abbrev item : Environment
        item = item_environment m f c.locals

        -- the clause of a node
        clause_reached : Solves f s → AlphaEach (map (instance (shifted n f)) ts) (map (instance item) c.args) → IsValid p (kinds_of c.locals) d c.body item
            → IsNamed p m (m + length c.locals) c.body d → IsGiven p f m (m + length c.locals) c.body d → height d ≤ depth
            → IsReached f (k ∷ path d) (by_clause (outputs call) (map (rename_term n) ts) s k c) (s.kinds ++ (kinds_of c.locals ++ kinds_in p c.body d))
        clause_reached w same v a b l =
            let flipped = agree_flip (atom c.pred c.args) (shifted m f) item (agrees_on_head p c.pred c is m f) in
            let ts' = map (instance (shifted n f)) ts in
            let heads : AlphaEach ts' (map (instance (shifted m f)) c.args) =
            alpha_each_sym (map (instance (shifted m f)) c.args) ts'
            (instances_agree item (shifted m f) c.args ts' flipped.names flipped.terms (alpha_each_sym ts' (map (instance item) c.args) same)) in
            let next : m + length c.locals ≡ length (s.kinds ++ kinds_of c.locals) =
            sym (length-append s.kinds (kinds_of c.locals) ∙ ap (λ j. m + j) (length-map c.locals (λ l. l.kind))) in
            reached_below f (k ∷ []) (clause_node k m c.locals) (path d) _ (s.kinds ++ (kinds_of c.locals ++ kinds_in p c.body d))
            (unified_reached (outputs call (rename_goal m c.body)) (record s { kinds = s.kinds ++ kinds_of c.locals }) (path d) (s.kinds ++ (kinds_of c.locals ++ kinds_in p c.body d))
            (unify s.bindings s.conditions (map (rename_term n) ts) (map (rename_term m) c.args))
            (unify_forth s w (map (rename_term n) ts) (map (rename_term m) c.args) (equates_of_each n m ts c.args heads))
            (λ r i.
            let from : State = record { bindings = r.bindings; conditions = r.conditions; kinds = s.kinds ++ kinds_of c.locals } in
            reached_as f (path d) (outputs call (rename_goal m c.body) from) _ _ (append_assoc s.kinds (kinds_of c.locals) (kinds_in p c.body d))
            (goal_reached (kinds_of c.locals) m c.body from d is.1.1 (record { agreeing = i.agreeing; meeting = i.meeting })
            (proofs_see_free p (kinds_of c.locals) d c.body item (shifted m f) v (agree_flip c.body (shifted m f) item (agrees_on_body p c.pred c is m f)))
            (subst (λ (j : ℕ). IsNamed p m j c.body d) next a) (subst (λ (j : ℕ). IsGiven p f m j c.body d) next b) l)))

    same_clause : (o : Option NominalClause) (c b : NominalClause) → o ≡ Some c → o ≡ Some b → b ≡ c
    same_clause o c b h k = cc

    no_clause : (list : List NominalClause) (c : NominalClause) → clause_at list zero ≡ Some c → ⊥
    no_clause [] c h = cc
    no_clause (b ∷ list) c h = cc

    one_more : (i : ℕ) → suc i ≡ 1 + i
    one_more i = omega arith

    -- the outputs by the clause with this number are among those of all
    among_numbered : (go : NominalGoal → State → List Output) (ts : List NominalTerm) (s : State) (list : List NominalClause) (k : ℕ) (c : NominalClause) → clause_at list k ≡ Some c
        → (o : Output) → IsAmong o (by_clause go ts s k c) → IsAmong o (by_clauses go ts s 1 list)
    among_numbered go ts s list zero c e o h = absurd (no_clause list c e)
    among_numbered go ts s list (suc i) c e o h =
        among_clauses go ts s 1 i list c e o (subst (λ (j : ℕ). IsAmong o (by_clause go ts s j c)) (one_more i) h)

    calls_reach : (depth : ℕ) → CallReaches depth (calls p.clauses depth)
    calls_reach zero kinds n q ts s (nodes.atom k names gs d) t w v a b l = absurd (no_height l)
      where
        no_height : suc (height d) ≤ 0 → ⊥
        no_height l = omega arith
    calls_reach (suc depth) kinds n q ts s (nodes.atom k names gs d) t w v a b l =
        let c = v.0 in
        let m = next_number s in
        let of = (program_clause_typed p.signature 0 p.clauses q k c typed.0 v.1).1 in
        let is = subst (λ (j : ℕ). IsTypedClause term_form p.signature j c) (sym of.0) of in
        let list = clauses_of p.clauses q in
        let named = subst (λ (x : NominalClause). (names ≡ local_names m x.locals) × IsNamed p m (m + length x.locals) x.body d) (same_clause (clause_at list k) c a.0 v.1 a.1) (a.2, a.3) in
        let given = subst (λ (x : NominalClause). (gs ≡ map (λ x. f (rename_var m x)) (local_vars 0 x.locals)) × IsGiven p f m (m + length x.locals) x.body d)
        (same_clause (clause_at list k) c b.0 v.1 b.1) (b.2, b.3) in
        let env : environment c.locals names gs ≡ item_environment m f c.locals = ap₂ (environment c.locals) named.0 given.0 in
        let ts' = map (instance (shifted n f)) ts in
        reached_as f (k ∷ path d) _ _ _ (ap (λ o. s.kinds ++ kinds_of_use (λ g. kinds_in p g d) o) (sym v.1))
        (reached_among f (k ∷ path d) (by_clause (outputs (calls p.clauses depth)) (map (rename_term n) ts) s k c) _ _
        (among_numbered (outputs (calls p.clauses depth)) (map (rename_term n) ts) s list k c v.1)
        (clause_reached depth (calls p.clauses depth) (calls_reach depth) kinds n q ts s k c v.1 is d w
        (subst (λ (e : Environment). AlphaEach ts' (map (instance e) c.args)) env v.3)
        (subst (λ (e : Environment). IsValid p (kinds_of c.locals) d c.body e) env v.4)
        named.1 given.1 (omega arith)))
    calls_reach depth kinds n q ts s _ t w v a b l = absurd v

pub search_follows_proofs : SearchFollowsProofs
search_follows_proofs p typed f kinds n depth g s proof t w v a b l = goal_reached f p typed depth (calls p.clauses depth) (calls_reach f p typed depth) kinds n g s proof t w v a b l
