-- Derivable instances of a query are instances of its answers.
use Rattle.std.proofs.Common.{subst, ◌≡◌, ◌+◌, ℕ, Bool, true, false, ◌&&◌, List, [], ◌∷◌, map, refl, sym, ap, ap₂, ◌∙◌, inl, inr, arith, true≢false}
use Rattle.std.specs.Prelude.{◌⊎◌, ◌==◌, if◌then◌else◌, filter, nat_lt, codes}
use Rattle.std.specs.Str.{bytes_eq}
use Rattle.ap_defs.specs.Alpha.{fresh}
use Rattle.ap_defs.specs.Answers as answers
use Rattle.ap_defs.specs.Answers.{NominalAnswer, NominalOut, out_path, query_outs}
use Rattle.ap_defs.specs.Derivations.{path}
use Rattle.ap_defs.specs.Freshness.{Conds}
use Rattle.ap_defs.specs.Goals.{NominalProgram, NominalQuery}
use Rattle.ap_defs.specs.GroundProofs.{AlphaEach}
use Rattle.ap_defs.specs.Groundings.{Grounding, grounded, meets}
use Rattle.ap_defs.specs.Lines.{shown_binds, shown_in, terms_of_binds, var_texts}
use Rattle.ap_defs.specs.PathOrder.{has_prefix}
use Rattle.ap_defs.specs.Permutations.{act_name, inverse}
use Rattle.ap_defs.specs.Renaming.{replace_names}
use Rattle.ap_defs.specs.Terms.{GroundTerm, NominalTerm, act_ground}
use Rattle.ap_defs.specs.Types.{NominalConstructor, NominalLocal, NominalType}
use Rattle.ap_defs.specs.Unification.{has_var}
use Rattle.ap_defs.specs.declared.terms.Cond.{Cond}
use Rattle.ap_defs.specs.declared.terms.Swap.{Swap}
use Rattle.ap_defs.specs.declared.terms.Var.{Var}
use Rattle.ap_complete.specs.Restriction.{KeepsRestriction}
use Rattle.ap_program.specs.Typed.{AreTypedQueries, term_form}
use Rattle.ap_search.specs.PathTrees.{AllOutsAfter, AreInPathOrder, is_before}
use Rattle.ap_search.proofs.DepthLemmas.{query_deeper}
use Rattle.ap_search.proofs.QueryTreeLemmas.{query_in_order}
use Rattle.ap_theory.proofs.BooleanLemmas.{and_both, and_left, and_right, false_if_not}
use Rattle.ap_theory.proofs.GroundLemmas.{fresh_act}
use Rattle.ap_theory.proofs.PermutationLemmas.{inverse_act}
use Rattle.ap_theory.proofs.TermLemmas.{number_same, same_number}
use Rattle.ap_ground.specs.ShownInstances.{shown_terms, vars_among}
use Rattle.ap_ground.specs.TypedGroundings.{GivesTypes}
use Rattle.ap_ground.proofs.ShownConditionLemmas.{meets_sorted}
use Rattle.ap_complete.specs.CompleteAnswers.{HaveCompleteAnswers, IsShown}
use Rattle.ap_complete.specs.Coverings.{HasNoStuckOut, IsCovered, IsGroundInstance, IsShownInstance, SomeAnswer, SomeStuck, answered, is_stuck, replace_in_cond}
use Rattle.ap_complete.specs.NumberedProofs.{IsAmong}
use Rattle.ap_complete.specs.StatementsOnCompleteness.{AnswersAreComplete, DerivableIsAnswered, OutputsStandAlone, ProgramsAreComplete, WholeAnswersAreAll}
use Rattle.ap_complete.proofs.CoveringLemmas.{proofs_covered}

some_answer : (P : NominalAnswer → Type 0) (path : List ℕ) (a : NominalAnswer) (os : List NominalOut) → IsAmong (answers.found path a) os → P a → SomeAnswer P os
some_answer P path a [] i h = absurd i
some_answer P path a (o ∷ os) (inl e) h = subst (λ (w : NominalOut). SomeAnswer P (w ∷ os)) (sym e) (inl h)
some_answer P path a (answers.found l b ∷ os) (inr i) h = inr (some_answer P path a os i h)
some_answer P path a (answers.cut l ∷ os) (inr i) h = some_answer P path a os i h
some_answer P path a (answers.stuck l ∷ os) (inr i) h = some_answer P path a os i h

some_stuck : (l : List ℕ) (os : List NominalOut) → IsAmong (answers.stuck l) os → SomeStuck os
some_stuck l [] i = absurd i
some_stuck l (o ∷ os) (inl e) = subst (λ (w : NominalOut). SomeStuck (w ∷ os)) (sym e) tt
some_stuck l (answers.found p a ∷ os) (inr i) = some_stuck l os i
some_stuck l (answers.cut p ∷ os) (inr i) = some_stuck l os i
some_stuck l (answers.stuck p ∷ os) (inr i) = tt

each_answered : (P Q : NominalAnswer → Type 0) → ((a : NominalAnswer) → P a → Q a) → (os : List NominalOut) → SomeAnswer P os → SomeAnswer Q os
each_answered P Q w [] h = absurd h
each_answered P Q w (answers.found l a ∷ os) (inl h) = inl (w a h)
each_answered P Q w (answers.found l a ∷ os) (inr h) = inr (each_answered P Q w os h)
each_answered P Q w (answers.cut l ∷ os) h = each_answered P Q w os h
each_answered P Q w (answers.stuck l ∷ os) h = each_answered P Q w os h

pub derivable_answered : DerivableIsAnswered
derivable_answered p restricted q t depth gs h = go (proofs_covered p restricted q t depth gs h.0 h.1.0 h.1.1 h.1.2)
  where
    go : IsCovered p q depth gs (path h.1.0) → SomeAnswer (λ a. IsGroundInstance p.signature.constructors q.locals a gs) (query_outs p.clauses depth q) ⊎ SomeStuck (query_outs p.clauses depth q)
    go (answered a i w) = inl (some_answer (λ b. IsGroundInstance p.signature.constructors q.locals b gs) (path h.1.0) a (query_outs p.clauses depth q) i w)
    go (is_stuck l i k) = inr (some_stuck l (query_outs p.clauses depth q) i)

-- WHAT IS SHOWN

-- the conditions under swappings, as conditions under none
pub meets_moved : (f : Grounding) (s : List Swap) (ds : Conds) → meets f (map (replace_in_cond s) ds) ≡ meets (λ x. act_ground (inverse s) (f x)) ds
meets_moved f s [] = refl
meets_moved f s (c ∷ ds) =
    ap₂ ◌&&◌ (sym (fresh_act (inverse s) (act_name s c.name) (f c.var)) ∙ ap (λ a. fresh a (act_ground (inverse s) (f c.var))) (inverse_act s c.name)) (meets_moved f s ds)

meets_kept : (f : Grounding) (keep : Cond → Bool) (ds : Conds) → meets f ds ≡ true → meets f (filter keep ds) ≡ true
meets_kept f keep [] h = refl
meets_kept f keep (c ∷ ds) h =
    let first = fresh c.name (f c.var) in
    elim (keep c) as (λ v. meets f (if v then (c ∷ filter keep ds) else filter keep ds) ≡ true) [
      | true ↦ and_both first (meets f (filter keep ds)) (and_left first (meets f ds) h) (meets_kept f keep ds (and_right first (meets f ds) h))
      | false ↦ meets_kept f keep ds (and_right first (meets f ds) h)
    ]

types_among : (cs : List NominalConstructor) (xs : List Var) (vs : List (Var × NominalType)) (f : Grounding) → GivesTypes cs vs f → GivesTypes cs (vars_among xs vs) f
types_among cs xs [] f h = tt
types_among cs xs (v ∷ vs) f h =
    elim (has_var v.0 xs) as (λ b. GivesTypes cs (if b then (v ∷ vars_among xs vs) else vars_among xs vs) f) [
      | true ↦ (h.0, types_among cs xs vs f h.1)
      | false ↦ types_among cs xs vs f h.1
    ]

shown_equal : (h : NominalTerm → GroundTerm) (ws : List (List ℕ)) (gs : List GroundTerm) (ts : List NominalTerm) → AlphaEach gs (map h ts)
    → AlphaEach (shown_terms ws gs) (map h (terms_of_binds (shown_binds ws ts)))
shown_equal h [] gs ts e = tt
shown_equal h (w ∷ ws) [] [] e = tt
shown_equal h (w ∷ ws) (g ∷ gs) [] e = absurd e
shown_equal h (w ∷ ws) [] (t ∷ ts) e = absurd e
shown_equal h (w ∷ ws) (g ∷ gs) (t ∷ ts) e =
    elim (bytes_eq w (codes "_")) as (λ b. AlphaEach (if b then shown_terms ws gs else (g ∷ shown_terms ws gs))
    (map h (terms_of_binds (if b then shown_binds ws ts else ((w, t) ∷ shown_binds ws ts))))) [
      | true ↦ shown_equal h ws gs ts e.1
      | false ↦ (e.0, shown_equal h ws gs ts e.1)
    ]

pub shown_instance : (cs : List NominalConstructor) (locals : List NominalLocal) (gs : List GroundTerm) (a : NominalAnswer) → IsGroundInstance cs locals a gs → IsShownInstance cs locals a gs
shown_instance cs locals gs a i = record {
  swaps = i.swaps;
  leaves = i.leaves;
  grounding = i.grounding;
  types = types_among cs (shown_in locals a).vars a.vars i.grounding i.types;
  conditions =
      let back : Grounding = λ x. act_ground (inverse i.swaps) (i.grounding x) in
      meets_moved i.grounding i.swaps (shown_in locals a).conds ∙ meets_sorted back _ _ ∙ meets_kept back _ a.conds (sym (meets_moved i.grounding i.swaps a.conds) ∙ i.conditions);
  equal = shown_equal (λ t. grounded i.grounding (replace_names i.swaps t)) (var_texts locals) gs a.binds i.equal;
}

-- ANY HEIGHT

none_stuck : (os : List NominalOut) → HasNoStuckOut os → SomeStuck os → ⊥
none_stuck [] h k = k
none_stuck (answers.found l a ∷ os) h k = none_stuck os h k
none_stuck (answers.cut l ∷ os) h k = none_stuck os h k
none_stuck (answers.stuck l ∷ os) h k = h

pub whole_answers_all : WholeAnswersAreAll
whole_answers_all p keeps q t depth uncut unstuck height gs h =
    let proof = h.1.0 in
    let low = h.1.2 in
    let same = query_deeper p.clauses depth (depth + height) q (omega arith) uncut in
    elim (derivable_answered p keeps q t (depth + height) gs (h.0, (proof, h.1.1, omega arith))) [
      | inl i ↦ subst (SomeAnswer (λ a. IsGroundInstance p.signature.constructors q.locals a gs)) same i
      | inr i ↦ absurd (none_stuck (query_outs p.clauses depth q) unstuck (subst SomeStuck same i))
    ]

pub answers_complete : AnswersAreComplete
answers_complete p keeps depth q t = record {
  shown = λ gs h. elim (derivable_answered p keeps q t depth gs h) [ inl i ↦ inl (each_shown p depth q gs i) | inr i ↦ inr i ];
  whole = λ uncut unstuck height gs h. each_shown p depth q gs (whole_answers_all p keeps q t depth uncut unstuck height gs h);
}
  where
    each_shown : (p : NominalProgram) (depth : ℕ) (q : NominalQuery) (gs : List GroundTerm)
        → SomeAnswer (λ a. IsGroundInstance p.signature.constructors q.locals a gs) (query_outs p.clauses depth q) → IsShown p depth q gs
    each_shown p depth q gs i =
        each_answered (λ a. IsGroundInstance p.signature.constructors q.locals a gs) (λ a. IsShownInstance p.signature.constructors q.locals a gs)
        (shown_instance p.signature.constructors q.locals gs) (query_outs p.clauses depth q) i

queries_complete : (p : NominalProgram) → KeepsRestriction p → (depth : ℕ) (qs : List NominalQuery) → AreTypedQueries term_form p.signature qs → HaveCompleteAnswers p depth qs
queries_complete p keeps depth [] t = tt
queries_complete p keeps depth (q ∷ qs) t = (answers_complete p keeps depth q t.0, queries_complete p keeps depth qs t.1)

pub programs_complete : ProgramsAreComplete
programs_complete p keeps depth = queries_complete p keeps depth p.queries keeps.typed.1

-- ONE WAY

not_begun : (l m : List ℕ) → is_before l m ≡ true → has_prefix l m ≡ true → ⊥
not_begun [] m h k = true≢false (sym h)
not_begun (i ∷ l) [] h k = true≢false (sym h)
not_begun (i ∷ l) (j ∷ m) h k =
    not_begun l m (sym (ap (λ b. if b then is_before l m else nat_lt i j) (and_left (i == j) (has_prefix l m) k)) ∙ h) (and_right (i == j) (has_prefix l m) k)

not_beginning : (l m : List ℕ) → is_before m l ≡ true → has_prefix l m ≡ true → ⊥
not_beginning l [] h k = true≢false (sym h)
not_beginning [] (j ∷ m) h k = true≢false (sym h)
not_beginning (i ∷ l) (j ∷ m) h k =
    let same : (j == i) ≡ true = same_number j i (sym (number_same i j (and_left (i == j) (has_prefix l m) k))) in
    not_beginning l m (sym (ap (λ b. if b then is_before m l else nat_lt j i) same) ∙ h) (and_right (i == j) (has_prefix l m) k)

after_among : (p : List ℕ) (os : List NominalOut) → AllOutsAfter p os → (o : NominalOut) → IsAmong o os → is_before p (out_path o) ≡ true
after_among p [] h o i = absurd i
after_among p (w ∷ os) h o (inl e) = ap (λ z. is_before p (out_path z)) (sym e) ∙ h.0
after_among p (w ∷ os) h o (inr i) = after_among p os h.1 o i

-- where an output is at a beginning of another one's path, it is that one
beginning_is : (o w : NominalOut) (os : List NominalOut) → AreInPathOrder os → IsAmong o os → IsAmong w os → has_prefix (out_path w) (out_path o) ≡ true → o ≡ w
beginning_is o w [] h i j k = absurd i
beginning_is o w (v ∷ os) h (inl e) (inl f) k = sym e ∙ f
beginning_is o w (v ∷ os) h (inl e) (inr j) k =
    absurd (not_beginning (out_path w) (out_path o) (ap (λ z. is_before (out_path z) (out_path w)) (sym e) ∙ after_among (out_path v) os h.0 w j) k)
beginning_is o w (v ∷ os) h (inr i) (inl f) k =
    absurd (not_begun (out_path w) (out_path o) (ap (λ z. is_before (out_path z) (out_path o)) (sym f) ∙ after_among (out_path v) os h.0 o i) k)
beginning_is o w (v ∷ os) h (inr i) (inr j) k = beginning_is o w os h.1 i j k

-- what is kept of outputs in order by a path
prefix_itself : (l : List ℕ) → has_prefix l l ≡ true
prefix_itself [] = refl
prefix_itself (k ∷ l) = and_both (k == k) (has_prefix l l) (same_number k k refl) (prefix_itself l)

none_kept : (l : List ℕ) (os : List NominalOut) → AllOutsAfter l os → filter (λ o. has_prefix l (out_path o)) os ≡ []
none_kept l [] h = refl
none_kept l (w ∷ os) h =
    ap (λ b. if b then (w ∷ filter (λ o. has_prefix l (out_path o)) os) else filter (λ o. has_prefix l (out_path o)) os)
    (false_if_not (has_prefix l (out_path w)) (not_begun l (out_path w) h.0))
    ∙ none_kept l os h.1

one_kept : (o : NominalOut) (os : List NominalOut) → AreInPathOrder os → IsAmong o os → filter (λ w. has_prefix (out_path o) (out_path w)) os ≡ o ∷ []
one_kept o [] h i = absurd i
one_kept o (v ∷ os) h (inl e) =
    subst (λ (w : NominalOut). filter (λ z. has_prefix (out_path w) (out_path z)) (v ∷ os) ≡ w ∷ []) e
    (ap (λ b. if b then (v ∷ filter (λ z. has_prefix (out_path v) (out_path z)) os) else filter (λ z. has_prefix (out_path v) (out_path z)) os) (prefix_itself (out_path v))
    ∙ ap (λ l. v ∷ l) (none_kept (out_path v) os h.0))
one_kept o (v ∷ os) h (inr i) =
    ap (λ b. if b then (v ∷ filter (λ z. has_prefix (out_path o) (out_path z)) os) else filter (λ z. has_prefix (out_path o) (out_path z)) os)
    (false_if_not (has_prefix (out_path o) (out_path v)) (not_beginning (out_path o) (out_path v) (after_among (out_path v) os h.0 o i)))
    ∙ one_kept o os h.1 i

pub outputs_stand_alone : OutputsStandAlone
outputs_stand_alone p q depth o i =
    let order = query_in_order p.clauses depth q in
    (one_kept o (query_outs p.clauses depth q) order i, λ l j k. beginning_is o (answers.stuck l) (query_outs p.clauses depth q) order i j k)
