-- One clause back: the node of a clause is valid where its body's derivation is.
use Rattle.std.proofs.Common.{subst, ◌≡◌, ◌+◌, ℕ, suc, true, ◌||◌, List, [], ◌∷◌, ◌++◌, map, refl, sym, ap, ap₂, ◌∙◌, inl, inr, arith}
use Rattle.std.specs.Prelude.{Option, Some, None}
use Rattle.ap_defs.specs.Alpha.{alpha}
use Rattle.ap_defs.specs.Answers.{kind_at}
use Rattle.ap_defs.specs.Derivations.{NominalDerivation, terms_in}
use Rattle.ap_defs.specs.Goals.{atom, NominalClause, NominalProgram, clauses_of}
use Rattle.ap_defs.specs.GroundProofs.{AlphaEach, HasTypeOf, Instantiates, IsValid, clause_at, environment, instance}
use Rattle.ap_defs.specs.Groundings.{Grounding, equates_all, grounded}
use Rattle.ap_defs.specs.Occurrences.{vars_of_terms}
use Rattle.ap_defs.specs.Renaming.{local_names, local_vars, rename_term, rename_var}
use Rattle.ap_defs.specs.Resolution.{State, clause_node, kinds_of, next_number}
use Rattle.ap_defs.specs.Terms as terms
use Rattle.ap_defs.specs.Terms.{NominalTerm}
use Rattle.ap_defs.specs.Types as types
use Rattle.ap_defs.specs.Types.{NominalConstructor, NominalKind, NominalType}
use Rattle.ap_defs.specs.Unification.{Unified, has_var, unify}
use Rattle.ap_defs.specs.declared.terms.Var.{Var}
use Rattle.ap_program.specs.RawTyping.{HasTermType}
use Rattle.ap_program.specs.Typed.{AreArguments, AreInhabited, HaveTypes, IsTypedClause, predicate_at, term_form}
use Rattle.ap_search.proofs.RecordLemmas.{has_var-append, vars_of_terms-append}
use Rattle.ap_search.proofs.TypingLemmas.{kind_at_back, kind_at_front}
use Rattle.ap_theory.proofs.BooleanLemmas.{and_left, and_right, or_cases, or_if_left, or_if_right}
use Rattle.ap_ground.proofs.EnvironmentLemmas.{instances_agree}
use Rattle.ap_ground.proofs.FreeIdentifierLemmas.{proofs_see_free}
use Rattle.ap_ground.proofs.AlphaLemmas.{alpha_each_sym}
use Rattle.ap_soundness.proofs.BackwardLemmas.{unify_back}
use Rattle.ap_ground.proofs.ItemEnvironmentLemmas.{agrees_on_body, agrees_on_head, free_is_variable, instantiates, item_environment, node_terms, vars_from}
use Rattle.ap_ground.proofs.OccurrenceLemmas.{IsVariable, has_var_of_map}
use Rattle.ap_ground.proofs.ShiftLemmas.{has_renamed, shifted, shifted_instance}
use Rattle.ap_soundness.proofs.StepLemmas.{FoundFrom, KindsKept, ground_proof, vars_in_nodes}

module _ (p : NominalProgram) where
  abbrev cs : List NominalConstructor
  cs = p.signature.constructors

  -- One clause.
  equates_each : (g : Grounding) (n m : ℕ) (ks ls : List NominalKind) (ts us : List NominalTerm) (as' : List NominalType) → HaveTypes (HasTermType cs ks) ts as' → HaveTypes (HasTermType cs ls) us as'
      → equates_all g (map (rename_term n) ts) (map (rename_term m) us) ≡ true → AlphaEach (map (instance (shifted n g)) ts) (map (instance (shifted m g)) us)
  equates_each g n m ks ls [] [] as' h k e = tt
  equates_each g n m ks ls [] (u ∷ us) [] h k e = absurd k
  equates_each g n m ks ls [] (u ∷ us) (a ∷ as') h k e = absurd h
  equates_each g n m ks ls (t ∷ ts) us [] h k e = absurd h
  equates_each g n m ks ls (t ∷ ts) [] (a ∷ as') h k e = absurd k
  equates_each g n m ks ls (t ∷ ts) (u ∷ us) (a ∷ as') h k e =
      let first = alpha (grounded g (rename_term n t)) (grounded g (rename_term m u)) in
      let rest = equates_all g (map (rename_term n) ts) (map (rename_term m) us) in
      (ap₂ alpha (shifted_instance n g t) (shifted_instance m g u) ∙ and_left first rest e, equates_each g n m ks ls ts us as' h.1 k.1 (and_right first rest e))

  equates_arguments : (g : Grounding) (n m : ℕ) (ks ls : List NominalKind) (ts us : List NominalTerm) (o : Option (List NominalType))
      → AreArguments (HasTermType cs ks) ts o → AreArguments (HasTermType cs ls) us o
      → equates_all g (map (rename_term n) ts) (map (rename_term m) us) ≡ true → AlphaEach (map (instance (shifted n g)) ts) (map (instance (shifted m g)) us)
  equates_arguments g n m ks ls ts us None h k e = absurd h
  equates_arguments g n m ks ls ts us (Some as') h k e = equates_each g n m ks ls ts us as' h k e

  inhabited-append : (ks ls : List NominalKind) → AreInhabited cs ks → AreInhabited cs ls → AreInhabited cs (ks ++ ls)
  inhabited-append [] ls h k = k
  inhabited-append (types.name a ∷ ks) ls h k = inhabited-append ks ls h k
  inhabited-append (types.var t ∷ ks) ls h k = (h.0, inhabited-append ks ls h.1 k)

  vars_of_susps : (xs : List Var) → vars_of_terms (map (terms.susp []) xs) ≡ xs
  vars_of_susps [] = refl
  vars_of_susps (x ∷ xs) = ap (λ ys. x ∷ ys) (vars_of_susps xs)

  module _ (kinds : List NominalKind) (n q : ℕ) (ts : List NominalTerm) (s : State) (depth k : ℕ) (c : NominalClause)
      (here : clause_at (clauses_of p.clauses q) k ≡ Some c) (typed : IsTypedClause term_form p.signature q c)
      (goal_typed : AreArguments (HasTermType cs kinds) ts (predicate_at p.signature.predicates q)) where
    abbrev pub m : ℕ
    m = next_number s

    abbrev pub item_kinds : List NominalKind
    item_kinds = kinds_of c.locals

    abbrev pub start : Unified → State
    start r = record { bindings = r.bindings; conditions = r.conditions; kinds = s.kinds ++ item_kinds }

    pub vars_of_node : (x : Var) (d : NominalDerivation) → has_var x (vars_in_nodes (clause_node k m c.locals d)) ≡ (has_var x (local_vars m c.locals) || has_var x (vars_in_nodes d))
    vars_of_node x d =
        ap (has_var x) (vars_of_terms-append (map (terms.susp []) (local_vars m c.locals)) (terms_in d))
        ∙ has_var-append x (vars_of_terms (map (terms.susp []) (local_vars m c.locals))) (vars_in_nodes d)
        ∙ ap (λ ys. has_var x ys || has_var x (vars_in_nodes d)) (vars_of_susps (local_vars m c.locals))

    pub local_kind : (more : List NominalKind) → KindsKept (s.kinds ++ item_kinds) more → (x : Var) (v : IsVariable item_kinds x) → kind_at more (m + x.num) ≡ Some (types.var v.0)
    local_kind more kept x v = kept (m + x.num) (types.var v.0) (kind_at_back s.kinds item_kinds x.num ∙ v.1)

    local_known : (more : List NominalKind) → KindsKept (s.kinds ++ item_kinds) more → (x : Var) → has_var x (local_vars m c.locals) ≡ true → IsVariable more x
    local_known more kept x h =
        let y = has_var_of_map (rename_var m) x (local_vars 0 c.locals) (ap (has_var x) (sym (vars_from m c.locals)) ∙ h) in
        let v = free_is_variable c.locals y.0 y.1 in
        (v.0, ap (λ (z : Var). kind_at more z.num) y.2 ∙ local_kind more kept y.0 v)

    -- the node's names and terms, the head, and the body
    abbrev IsNode : Grounding → NominalDerivation → List terms.GroundTerm → Type 0
    IsNode g d gs =
        Instantiates cs c.locals (local_names m c.locals) gs
        × AlphaEach (map (instance (shifted n g)) ts) (map (instance (environment c.locals (local_names m c.locals) gs)) c.args)
        × IsValid p item_kinds (ground_proof g d) c.body (environment c.locals (local_names m c.locals) gs)

    node_valid : (g : Grounding) (d : NominalDerivation) → ((x : Var) → has_var x (local_vars 0 c.locals) ≡ true → HasTypeOf cs (kind_at item_kinds x.num) (g (rename_var m x)))
        → equates_all g (map (rename_term n) ts) (map (rename_term m) c.args) ≡ true → IsValid p item_kinds (ground_proof g d) c.body (shifted m g)
        → IsNode g d (map (λ x. g (rename_var m x)) (local_vars 0 c.locals))
    node_valid g d t e b =
        let env = item_environment m g c.locals in
        let args = subst (λ r. AreArguments (HasTermType cs item_kinds) c.args (predicate_at p.signature.predicates r)) typed.0 typed.1.0 in
        let each = equates_arguments g n m kinds item_kinds ts c.args (predicate_at p.signature.predicates q) goal_typed args e in
        let agree = agrees_on_head p q c typed m g in
        let us = map (instance (shifted n g)) ts in (
          instantiates cs c.locals m g t,
          alpha_each_sym (map (instance env) c.args) us
              (instances_agree (shifted m g) env c.args us agree.names agree.terms (alpha_each_sym us (map (instance (shifted m g)) c.args) each)),
          proofs_see_free p item_kinds (ground_proof g d) c.body (shifted m g) env b (agrees_on_body p q c typed m g),
        )

    pub clause_found : (r : Unified) → unify s.bindings s.conditions (map (rename_term n) ts) (map (rename_term m) c.args) ≡ Some r
        → (t : State) (d : NominalDerivation) → FoundFrom p item_kinds m c.body (start r) depth t d
        → FoundFrom p kinds n (atom q ts) s (suc depth) t (clause_node k m c.locals d)
    clause_found r e t d i = record {
      kept = λ j a l. i.kept j a (kind_at_front s.kinds item_kinds j a l);
      inhabited = λ h. i.inhabited (inhabited-append s.kinds item_kinds h typed.2);
      known = λ x h. elim (or_cases (has_var x (local_vars m c.locals)) (has_var x (vars_in_nodes d)) (sym (vars_of_node x d) ∙ h)) [
        | inl l ↦ local_known t.kinds i.kept x l
        | inr l ↦ i.known x l
      ];
      low = let l = i.low in omega arith;
      valid = λ g w h.
          let inner = i.valid g w (λ x l. h x (vars_of_node x d ∙ or_if_right (has_var x (local_vars m c.locals)) (has_var x (vars_in_nodes d)) l)) in
          let b = unify_back g s (map (rename_term n) ts) (map (rename_term m) c.args) r e inner.0.agreeing inner.0.meeting in
          let node = node_valid g d (λ x l.
          let v = free_is_variable c.locals x l in
          let y = rename_var m x in
          let local : has_var y (local_vars m c.locals) ≡ true = ap (has_var y) (vars_from m c.locals) ∙ has_renamed m x (local_vars 0 c.locals) ∙ l in
          subst (λ o. HasTypeOf cs o (g y)) (local_kind t.kinds i.kept x v ∙ sym v.1)
          (h y (vars_of_node y d ∙ or_if_left (has_var y (local_vars m c.locals)) (has_var y (vars_in_nodes d)) local))) b.1 inner.1 in
          let placed = subst (IsNode g d) (sym (node_terms m g c.locals)) node in
          (b.0, (c, here, placed.0, placed.1, placed.2));
    }
