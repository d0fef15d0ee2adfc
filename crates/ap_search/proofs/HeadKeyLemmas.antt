-- A clause that is left out by its key has no outcome, and those that are kept stand in order.
use Rattle.std.proofs.Common.{◌≡◌, ◌+◌, ◌≤◌, ℕ, suc, Bool, true, false, List, [], ◌∷◌, ◌++◌, length, map, refl, ap, ◌∙◌, arith}
use Rattle.std.specs.Prelude.{◌==◌, if◌then◌else◌, None}
use Rattle.ap_defs.specs.Goals.{NominalClause, NominalGoal}
use Rattle.ap_defs.specs.HeadKeys.{agree, first_key, kept_from}
use Rattle.ap_defs.specs.Renaming.{rename_goal, rename_term}
use Rattle.ap_defs.specs.Resolution.{Outcome, State, by_clause, below, clause_node, if_unified, kinds_of, next_number}
use Rattle.ap_defs.specs.Substitution.{under}
use Rattle.ap_defs.specs.Terms.{NominalTerm}
use Rattle.ap_defs.specs.Unification.{unify}
use Rattle.ap_paths.specs.Trees.{Ascends, AreAtMost, times}
use Rattle.ap_theory.proofs.HeadKeyLemmas.{first_differs, first_renamed}
use Rattle.ap_theory.proofs.RefusalLemmas.{unify_heads}
use Rattle.ap_theory.proofs.TermLemmas.{same_number}
use Rattle.ap_theory.specs.Variables.{IsIdempotent}

-- where the keys do not agree an atom is not unified with a clause's head
pub keys_refuse : (s : State) → IsIdempotent s.bindings → (ts us : List NominalTerm) → agree (first_key (map (under s.bindings) ts)) (first_key us) ≡ false
    → unify s.bindings s.conditions ts (map (rename_term (next_number s)) us) ≡ None
keys_refuse s idempotent ts us h =
    let vs = map (rename_term (next_number s)) us in
    unify_heads s.bindings s.conditions ts vs idempotent
    (first_differs s.bindings ts vs (ap (agree (first_key (map (under s.bindings) ts))) (first_renamed (next_number s) us) ∙ h))

pub left_out : {C : Type 0} (go : NominalGoal → State → List (Outcome C)) (s : State) → IsIdempotent s.bindings → (ts : List NominalTerm) (i : ℕ) (c : NominalClause)
    → agree (first_key (map (under s.bindings) ts)) (first_key c.args) ≡ false → by_clause go ts s i c ≡ []
left_out go s idempotent ts i c h =
    let n = next_number s in
    ap (λ o. map (below (i ∷ []) (clause_node i n c.locals)) (if_unified (go (rename_goal n c.body)) (record s { kinds = s.kinds ++ kinds_of c.locals }) o)) (keys_refuse s idempotent ts c.args h)

-- The numbers that are kept ascend, and none is beyond the clauses.
pub ascends_earlier : (i : ℕ) (ks : List ℕ) → Ascends (suc i) ks → Ascends i ks
ascends_earlier i [] h = tt
ascends_earlier i (k ∷ ks) h = let l = h.0 in (omega arith, h.1)

pub kept_ascend : (k i : ℕ) (cs : List NominalClause) → Ascends i (kept_from k i cs)
kept_ascend k i [] = tt
kept_ascend k i (c ∷ cs) =
    elim (agree k (first_key c.args)) as (λ b. Ascends i (if b then (i ∷ kept_from k (suc i) cs) else kept_from k (suc i) cs)) [
      | true ↦ (omega arith, kept_ascend k (suc i) cs)
      | false ↦ ascends_earlier i (kept_from k (suc i) cs) (kept_ascend k (suc i) cs)
    ]

pub kept_at_most : (k i w : ℕ) (cs : List NominalClause) → i + length cs ≤ suc w → AreAtMost w (kept_from k i cs)
kept_at_most k i w [] h = tt
kept_at_most k i w (c ∷ cs) h =
    elim (agree k (first_key c.args)) as (λ b. AreAtMost w (if b then (i ∷ kept_from k (suc i) cs) else kept_from k (suc i) cs)) [
      | true ↦ (omega arith, kept_at_most k (suc i) w cs (omega arith))
      | false ↦ kept_at_most k (suc i) w cs (omega arith)
    ]

abbrev counted : Bool → ℕ
counted b = if b then 1 else 0

-- a clause whose key agrees is kept
pub kept_there : (k i : ℕ) (c : NominalClause) (cs : List NominalClause) → times i (kept_from k i (c ∷ cs)) ≡ 0 → agree k (first_key c.args) ≡ false
kept_there k i c cs =
    elim (agree k (first_key c.args)) as (λ b. times i (if b then (i ∷ kept_from k (suc i) cs) else kept_from k (suc i) cs) ≡ 0 → b ≡ false) [
      | true ↦ λ h. let one : counted (i == i) ≡ 1 = ap counted (same_number i i refl) in absurd (omega (arith, one, h))
      | false ↦ λ h. refl
    ]

pub not_kept_later : (k i j : ℕ) (c : NominalClause) (cs : List NominalClause) → times j (kept_from k i (c ∷ cs)) ≡ 0 → times j (kept_from k (suc i) cs) ≡ 0
not_kept_later k i j c cs =
    elim (agree k (first_key c.args)) as (λ b. times j (if b then (i ∷ kept_from k (suc i) cs) else kept_from k (suc i) cs) ≡ 0 → times j (kept_from k (suc i) cs) ≡ 0) [
      | true ↦ λ h. omega arith
      | false ↦ λ h. h
    ]
