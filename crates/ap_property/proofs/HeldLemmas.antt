-- A conclusion that has an answer with terms put in is derivable under them.
use Rattle.std.proofs.Common.{◌≡◌, ◌≤◌, ◌∙◌, ℕ, zero, suc, true, false, ◌||◌, List, [], ◌∷◌, ◌++◌, map, refl, sym, ap, ap₂, subst, arith}
use Rattle.std.specs.Prelude.{if◌then◌else◌}
use Rattle.std.proofs.Math.Nat.{le-max_right}
use Rattle.ap_defs.specs.declared.terms.Name.{Name}
use Rattle.ap_defs.specs.declared.terms.Var.{Var}
use Rattle.ap_defs.specs.Alpha.{alpha}
use Rattle.ap_defs.specs.Answers.{kind_at, query_outs}
use Rattle.ap_defs.specs.Derivations.{GroundProof, atom, both, equal, exists, fresh, height, left, new, right, succeed}
use Rattle.ap_defs.specs.Freshness.{var_eq}
use Rattle.ap_defs.specs.Goals as goals
use Rattle.ap_defs.specs.Goals.{NominalGoal, NominalProgram, NominalQuery}
use Rattle.ap_defs.specs.GroundProofs.{AreOfTypes, Environment, HasTypeOf, IsDerivable, IsValid, environment, term_for}
use Rattle.ap_defs.specs.Renaming.{local_names, local_vars}
use Rattle.ap_defs.specs.Resolution.{kinds_of}
use Rattle.ap_defs.specs.Terms.{GroundTerm, unit}
use Rattle.ap_defs.specs.Types as types
use Rattle.ap_defs.specs.Types.{NominalConstructor, NominalKind, NominalLocal}
use Rattle.ap_defs.specs.Unification.{has_var}
use Rattle.ap_theory.proofs.BooleanLemmas.{or_false}
use Rattle.ap_theory.proofs.GroundLemmas.{act_ground_none}
use Rattle.ap_theory.proofs.TermLemmas.{var_eq_flip, var_same}
use Rattle.ap_ground.specs.Environments.{AgreeOn}
use Rattle.ap_ground.proofs.FreeIdentifierLemmas.{proofs_see_free}
use Rattle.ap_property.specs.Fitting.{FitsLocals}
use Rattle.ap_property.specs.Properties.{conclusion, conclusion_query, hypothesis_query}
use Rattle.ap_property.specs.PutIn.{query_put_in, with_terms}
use Rattle.ap_property.specs.Stated.{Instance, stated}
use Rattle.ap_property.specs.StatementsOnProperties.{AnsweredConclusionsAreDerivable}
use Rattle.ap_property.proofs.CounterLemmas.{each_weaker}
use Rattle.ap_property.proofs.LocalLemmas.{kinds_with, vars_with, with_names}
use Rattle.ap_property.proofs.NoProofLemmas.{instance_ground, own_name}
use Rattle.ap_property.proofs.PutInLemmas.{put_in_typed}
use Rattle.ap_property.proofs.SpineLemmas.{parts_typed}
use Rattle.ap_property.proofs.StatedLemmas.{stated_instances_derivable, stated_instances_fit}

-- Fewer kinds: those behind are of names.
module _ (cs : List NominalConstructor) where
  name_has_no_type : (ss : List ℕ) (n : ℕ) (g : GroundTerm) → HasTypeOf cs (kind_at (map types.name ss) n) g → ⊥
  name_has_no_type [] n g h = h
  name_has_no_type (s ∷ ss) zero g h = h
  name_has_no_type (s ∷ ss) (suc n) g h = name_has_no_type ss n g h

  type_without : (ks : List NominalKind) (ss : List ℕ) (n : ℕ) (g : GroundTerm) → HasTypeOf cs (kind_at (ks ++ map types.name ss) n) g → HasTypeOf cs (kind_at ks n) g
  type_without [] ss n g h = absurd (name_has_no_type ss n g h)
  type_without (k ∷ ks) ss zero g h = h
  type_without (k ∷ ks) ss (suc n) g h = type_without ks ss n g h

valid_without : (p : NominalProgram) (ks : List NominalKind) (ss : List ℕ) (d : GroundProof) (g : NominalGoal) (e : Environment)
    → IsValid p (ks ++ map types.name ss) d g e → IsValid p ks d g e
valid_without p ks ss (atom k as' gs d) (goals.atom q ts) e v = v
valid_without p ks ss equal (goals.equal t u) e v = v
valid_without p ks ss fresh (goals.fresh t u) e v = v
valid_without p ks ss succeed goals.succeed e v = tt
valid_without p ks ss (both d c) (goals.both g h) e v = (valid_without p ks ss d g e v.0, valid_without p ks ss c h e v.1)
valid_without p ks ss (left d) (goals.either g h) e v = valid_without p ks ss d g e v
valid_without p ks ss (right d) (goals.either g h) e v = valid_without p ks ss d h e v
valid_without p ks ss (exists t d) (goals.exists x g) e v = (type_without p.signature.constructors ks ss x.num t v.0, valid_without p ks ss d g _ v.1)
valid_without p ks ss (new c d) (goals.new a g) e v = (v.0, v.1, valid_without p ks ss d g _ v.2)
valid_without p ks ss _ _ e v = absurd v

-- each variable has a term that is equal to the one beside it
abbrev AreEqual : (Var → GroundTerm) → List Var → List GroundTerm → Type 0
AreEqual f (x ∷ xs) (g ∷ gs) = (alpha (f x) g ≡ true) × AreEqual f xs gs
AreEqual f _ _ = Unit {0}

-- A proof with terms put in has one of the goal, which is no higher.
record HasInner (p : NominalProgram) (kinds : List NominalKind) (goal : NominalGoal) (e : Environment) (xs : List Var) (gs : List GroundTerm) (n : ℕ) : Type 0 where
  proof : GroundProof
  valid : IsValid p kinds proof goal e
  low : height proof ≤ n
  same : AreEqual e.terms xs gs

module _ (p : NominalProgram) (kinds : List NominalKind) (goal : NominalGoal) (e : Environment) (own : (b : Name) → e.names b ≡ b) where
  inner : (xs : List Var) (gs : List GroundTerm) (d : GroundProof) → IsValid p kinds d (with_terms xs gs goal) e → HasInner p kinds goal e xs gs (height d)
  inner (x ∷ xs) (g ∷ gs) (both equal d) v =
      let r = inner xs gs d v.1 in
      let m = le-max_right 0 (height d) in
      let l = r.low in
      record {
        proof = r.proof;
        valid = r.valid;
        low = omega (arith, l, m);
        same = (sym (ap₂ alpha (act_ground_none (e.terms x)) (instance_ground e own g)) ∙ v.0, r.same);
      }
  inner [] gs d v = record { proof = d; valid = v; low = omega arith; same = tt }
  inner (x ∷ xs) [] d v = record { proof = d; valid = v; low = omega arith; same = tt }
  inner (x ∷ xs) (g ∷ gs) (both c d) v = absurd v.0
  inner (x ∷ xs) (g ∷ gs) _ v = absurd v

-- Terms of variables.
others_unit : (xs : List Var) (gs : List GroundTerm) (y : Var) → has_var y xs ≡ false → term_for xs gs y ≡ unit
others_unit [] gs y n = refl
others_unit (x ∷ xs) [] y n = refl
others_unit (x ∷ xs) (g ∷ gs) y n =
    let k = or_false (var_eq y x) (has_var y xs) n in
    ap (λ b. if b then g else term_for xs gs y) (var_eq_flip x y ∙ k.0) ∙ others_unit xs gs y k.1

equal_terms : (cs : List NominalConstructor) (ks : List NominalKind) (f : Var → GroundTerm) (xs : List Var) (gs : List GroundTerm) → AreOfTypes cs ks xs gs → AreEqual f xs gs
    → (y : Var) → (has_var y xs ≡ false → f y ≡ unit) → alpha (f y) (term_for xs gs y) ≡ true
equal_terms cs ks f [] [] t h y u = ap (λ g. alpha g unit) (u refl)
equal_terms cs ks f (x ∷ xs) (g ∷ gs) t h y u =
    elim (var_eq x y) as (λ b. var_eq x y ≡ b → alpha (f y) (if b then g else term_for xs gs y) ≡ true) [
      | true ↦ λ e. subst (λ z. alpha (f z) g ≡ true) (var_same x y e) h.0
      | false ↦ λ e. equal_terms cs ks f xs gs t.1 h.1 y (λ n. u (ap₂ ◌||◌ (var_eq_flip y x ∙ e) n))
    ] refl
equal_terms cs ks f [] (g ∷ gs) t h y u = absurd t
equal_terms cs ks f (x ∷ xs) [] t h y u = absurd t

module _ (p : NominalProgram) (q : NominalQuery) (i : Instance) (fits : FitsLocals p.signature.constructors q.locals i) (gs : List GroundTerm) where
  abbrev locals : List NominalLocal
  locals = with_names q.locals i.sorts

  abbrev before : Environment
  before = environment locals (local_names 0 locals) gs

  abbrev after : Environment
  after = environment q.locals (local_names 0 q.locals) i.terms

  -- what is derivable with terms put in is derivable for them
  pub derivable_without : (n : ℕ) → IsDerivable p (query_put_in q i) gs n → IsDerivable p (conclusion_query q) i.terms n
  derivable_without n (d, valid, low) =
      let xs = local_vars 0 q.locals in
      let goal = conclusion q.goal in
      let own : (b : Name) → before.names b ≡ b = own_name (local_names 0 locals) in
      let r = inner p (kinds_of locals) goal before own xs i.terms d valid in
      let narrow : IsValid p (kinds_of q.locals) r.proof goal before =
      valid_without p (kinds_of q.locals) i.sorts r.proof goal before (subst (λ ks. IsValid p ks r.proof goal before) (kinds_with q.locals i.sorts) r.valid) in
      let others = λ (y : Var) (n : has_var y xs ≡ false). others_unit (local_vars 0 locals) gs y (ap (has_var y) (vars_with 0 q.locals i.sorts) ∙ n) in
      let agree : AgreeOn goal before after = record {
        names = λ b k. own b ∙ sym (own_name (local_names 0 q.locals) b);
        terms = λ y k. equal_terms p.signature.constructors (kinds_of q.locals) before.terms xs i.terms fits.types r.same y (others y);
      } in
      let l = r.low in
      (r.proof, proofs_see_free p (kinds_of q.locals) r.proof goal before after narrow agree, omega (arith, l, low))

pub answered_derivable : AnsweredConclusionsAreDerivable
answered_derivable p typed q t depth =
    let cs = p.signature.constructors in
    let parts = parts_typed p q t in
    each_weaker _ _ (λ a h.
    let i = stated cs q.locals a in
    let asked = put_in_typed p.signature q i parts.1 h in
    each_weaker _ _ (λ b d. (h.types, derivable_without p q i h (stated cs (query_put_in q i).locals b).terms depth d.1))
    (query_outs p.clauses depth (query_put_in q i)) (stated_instances_derivable p typed (query_put_in q i) asked depth))
    (query_outs p.clauses depth (hypothesis_query q)) (stated_instances_fit p typed (hypothesis_query q) parts.0 depth)
