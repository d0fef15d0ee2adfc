-- Parts of a goal where a search comes to it.
use Rattle.std.proofs.Common.{◌≡◌, ◌+◌, ◌<◌, ◌≤◌, ℕ, true, false, List, length, sym, ap, ◌∙◌, inl, inr, arith, true≢false}
use Rattle.ap_defs.specs.Derivations.{GroundProof}
use Rattle.ap_defs.specs.Goals as goals
use Rattle.ap_defs.specs.Goals.{NominalGoal, NominalClause, NominalProgram, clauses_of}
use Rattle.ap_defs.specs.GroundProofs.{Environment, IsValid}
use Rattle.ap_defs.specs.Occurrences.{free_names, free_vars}
use Rattle.ap_defs.specs.Permutations.{has_name}
use Rattle.ap_defs.specs.Types.{NominalConstructor, NominalKind}
use Rattle.ap_defs.specs.Unification.{has_var}
use Rattle.ap_defs.specs.declared.terms.Name.{Name}
use Rattle.ap_defs.specs.declared.terms.Swap.{Swap}
use Rattle.ap_defs.specs.declared.terms.Var.{Var}
use Rattle.ap_complete.specs.RenamedProofs.{IsReady, IsRenamed, in_range, is_brought, is_taken}
use Rattle.ap_program.specs.RawTyping.{HasTermType}
use Rattle.ap_program.specs.Typed.{EachOnce, IsTypedGoal, brought, has_number, stands_free, stands_in_term}
use Rattle.ap_theory.proofs.BooleanLemmas.{false_if_not, or_cases, or_false, or_if_left, or_if_right}
use Rattle.ap_theory.proofs.DisagreementLemmas.{has_name-append}
use Rattle.ap_ground.specs.Environments.{act_proof}
use Rattle.ap_ground.proofs.FreeIdentifierLemmas.{has_var-append}
use Rattle.ap_ground.proofs.ScopeLemmas.{stands_goal}
use Rattle.ap_complete.specs.NumberedProofs.{kinds_in}
use Rattle.ap_complete.proofs.RenamingLemmas.{brought_is, number_left, number_right, once_left, once_right, range_is, taken_within}

-- a proof of any goal, with names exchanged, has one with the search's names
abbrev pub Renames : NominalProgram → GroundProof → Type 0
Renames p proof =
    (g : NominalGoal) (s : List Swap) (kinds : List NominalKind) (n m : ℕ) (e : Environment) → IsReady p kinds n m (length (kinds_in p g proof)) g e
    → IsValid p kinds (act_proof s proof) g e → IsRenamed p kinds n m g e proof

module _ (p : NominalProgram) where
  abbrev cs : List NominalConstructor
  cs = p.signature.constructors

  pub part : (kinds : List NominalKind) (n m k m' k' : ℕ) (g h : NominalGoal) (e : Environment) → IsTypedGoal (HasTermType cs kinds) p.signature.predicates kinds g
      → m ≤ m' → m' + k' ≤ m + k → ((i : ℕ) → has_number i (brought g) ≡ true → has_number i (brought h) ≡ true)
      → ((b : Name) → has_name b (free_names g) ≡ true → has_name b (free_names h) ≡ true) → ((x : Var) → has_var x (free_vars g) ≡ true → has_var x (free_vars h) ≡ true)
      → EachOnce (brought g) → ((i : ℕ) → stands_free stands_in_term i h ≡ false → stands_free stands_in_term i g ≡ false) → IsReady p kinds n m k h e → IsReady p kinds n m' k' g e
  part kinds n m k m' k' g h e t a b c d f o w r = record {
    typed = t;
    keeps = r.keeps;
    names = λ x i. r.names x (d x i);
    clear = λ x i y j. r.clear x (taken_within n m k m' k' g h a b c x.num i) y (f y j);
    low = λ i j. (let l = r.low i (c i j) in omega arith);
    free_low = λ x i. (let l = r.free_low x (d x i) in omega arith);
    once = o;
    own = λ i j. w i (r.own i (c i j));
  }

  pub left_part : (kinds : List NominalKind) (n m k k' : ℕ) (g h : NominalGoal) (e : Environment) → k' ≤ k → IsReady p kinds n m k (goals.both g h) e → IsReady p kinds n m k' g e
  left_part kinds n m k k' g h e l r =
      part kinds n m k m k' g (goals.both g h) e r.typed.0 (omega arith) (omega arith) (λ i. number_left i (brought g) (brought h))
      (λ b i. has_name-append b (free_names g) (free_names h) ∙ or_if_left (has_name b (free_names g)) (has_name b (free_names h)) i)
      (λ x i. has_var-append x (free_vars g) (free_vars h) ∙ or_if_left (has_var x (free_vars g)) (has_var x (free_vars h)) i)
      (once_left (brought g) (brought h) r.once) (λ i w. (or_false (stands_free stands_in_term i g) (stands_free stands_in_term i h) w).0) r

  pub right_part : (kinds : List NominalKind) (n m k m' k' : ℕ) (g h : NominalGoal) (e : Environment) → m ≤ m' → m' + k' ≤ m + k → IsReady p kinds n m k (goals.both g h) e → IsReady p kinds n m' k' h e
  right_part kinds n m k m' k' g h e a b r =
      part kinds n m k m' k' h (goals.both g h) e r.typed.1 a b (λ i. number_right i (brought g) (brought h))
      (λ b i. has_name-append b (free_names g) (free_names h) ∙ or_if_right (has_name b (free_names g)) (has_name b (free_names h)) i)
      (λ x i. has_var-append x (free_vars g) (free_vars h) ∙ or_if_right (has_var x (free_vars g)) (has_var x (free_vars h)) i)
      (once_right (brought g) (brought h) r.once) (λ i w. (or_false (stands_free stands_in_term i g) (stands_free stands_in_term i h) w).1) r

  -- either has what is in both
  pub either_both : (kinds : List NominalKind) (n m k : ℕ) (g h : NominalGoal) (e : Environment) → IsReady p kinds n m k (goals.either g h) e → IsReady p kinds n m k (goals.both g h) e
  either_both kinds n m k g h e r = record { typed = r.typed; keeps = r.keeps; names = r.names; clear = r.clear; low = r.low; free_low = r.free_low; once = r.once; own = r.own }

  -- a name that the search takes has a number below the last
  pub taken_low : (kinds : List NominalKind) (n m k : ℕ) (g : NominalGoal) (e : Environment) → IsReady p kinds n m k g e → (a : Name) → is_taken n m k g a.num ≡ true → a.num < m + k
  taken_low kinds n m k g e r a t =
      elim (or_cases (in_range m k a.num) (is_brought n (brought g) a.num) t) [
        | inl i ↦ (range_is m k a.num i).1
        | inr i ↦ let b = brought_is n (brought g) a.num i in let l = r.low b.0 b.1 in let same = b.2 in omega arith
      ]

  -- a free name of the goal is none of those
  pub free_not_taken : (kinds : List NominalKind) (n m k : ℕ) (g : NominalGoal) (e : Environment) → IsReady p kinds n m k g e → (b : Name) → has_name b (free_names g) ≡ true
      → is_taken n m k g (n + b.num) ≡ false
  free_not_taken kinds n m k g e r b h =
      false_if_not (is_taken n m k g (n + b.num)) (λ t.
      elim (or_cases (in_range m k (n + b.num)) (is_brought n (brought g) (n + b.num)) t) [
        | inl i ↦ let l = (range_is m k (n + b.num) i).0 in let low = r.free_low b h in absurd (apart l low)
        | inr i ↦
            let w = brought_is n (brought g) (n + b.num) i in
            let f = w.2 in
            let same : w.0 ≡ b.num = omega arith in
            true≢false (sym (stands_goal cs p.signature.predicates kinds b g r.typed h).1 ∙ r.own b.num (ap (λ j. has_number j (brought g)) (sym same) ∙ w.1))
      ])
    where
      apart : m ≤ n + b.num → n + b.num < m → ⊥
      apart l k = omega arith
