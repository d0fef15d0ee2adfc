-- The derivation to which a path leads, and that of a branch which stands at an answer.
use Rattle.std.proofs.Common.{subst, ◌≡◌, ◌-◌, ℕ, zero, suc, Bool, true, false, List, [], ◌∷◌, map, refl, sym, ap, ◌∙◌, inl, inr}
use Rattle.std.proofs.lemmas.List.{append-nil}
use Rattle.std.specs.Prelude.{if◌then◌else◌, Option, Some, filter, slice_get}
use Rattle.ap_defs.specs.Answers as answers
use Rattle.ap_defs.specs.Answers.{NominalAnswer, NominalOut, answer_in, derivation_in, out_in, out_path, outs_at}
use Rattle.ap_defs.specs.Derivations.{NominalDerivation}
use Rattle.ap_defs.specs.Goals.{Clauses, NominalProgram, NominalQuery}
use Rattle.ap_defs.specs.PathOrder.{has_prefix}
use Rattle.ap_defs.specs.Resolution.{Output, State, cut, first_state, found, solve_query, chose, stuck}
use Rattle.ap_defs.specs.Types.{NominalLocal, NominalSignature}
use Rattle.ap_program.specs.Typed.{AreTypedQueries, IsTypedProgram, IsTypedQuery, term_form}
use Rattle.ap_soundness.specs.FoundStates.{EachFound}
use Rattle.ap_defs.specs.declared.paths.Node.{Node}
use Rattle.ap_backchain.specs.Branches.{IsAnswering, IsBranchOf, IsNodeAt, path_of_branch}
use Rattle.ap_machine.specs.Positions.{Position}
use Rattle.ap_backchain.specs.Problems.{clauses_in, queries_in}
use Rattle.ap_backchain.specs.Starts.{first_position}
use Rattle.ap_backchain.specs.declared.branch.Branch.{Branch}
use Rattle.ap_backchain.specs.declared.problem.Problem.{Problem}
use Rattle.ap_backchain.proofs.BranchLemmas.{node_at}
use Rattle.ap_checks.specs.Checks.{Checks}
use Rattle.ap_checks.specs.Traces.{Finds, Traced, traced_query}
use Rattle.ap_checks.proofs.FoundCheckLemmas.{found_check}
use Rattle.ap_checks.proofs.TraceLemmas.{paths_lead}
use Rattle.ap_derive.specs.Derived.{IsDerivationAt, LeadsOn}
use Rattle.ap_derive.specs.Nodes.{DerivationNode, nodes_before}
use Rattle.ap_derive.specs.Solved.{Solved, others_solved, solved, solved_at}

-- The state and the derivation of an output with an answer.
record FoundAt (locals : List NominalLocal) (os : List Output) (path : List ℕ) (a : NominalAnswer) : Type 0 where
  state : State
  plain : NominalDerivation
  there : Finds os path state plain
  answer : answer_in locals state plain ≡ a

module _ (locals : List NominalLocal) (path : List ℕ) where
  abbrev among : List Output → List NominalOut
  among os = filter (λ o. has_prefix path (out_path o)) (map (out_in locals) os)

  first_found : (q r : List ℕ) (a b : NominalAnswer) (ps qs : List NominalOut) → answers.found q a ∷ ps ≡ answers.found r b ∷ qs → (q ≡ r) × (a ≡ b)
  first_found q r a b ps qs e = (cc, cc)

  later : (q : List ℕ) (s : State) (d : NominalDerivation) (os : List Output) (a : NominalAnswer) → FoundAt locals os path a → FoundAt locals (found q s d ∷ os) path a
  later q s d os a r = record { state = r.state; plain = r.plain; there = inr r.there; answer = r.answer }

  other_if : (o : NominalOut) (os : List NominalOut) (a : NominalAnswer) (b : Bool) → ((c : NominalAnswer) (q : List ℕ) → o ≡ answers.found q c → ⊥) → (if b then (o ∷ os) else os) ≡ answers.found path a ∷ []
      → os ≡ answers.found path a ∷ []
  other_if o os a true other e = let same : o ≡ answers.found path a = cc in absurd (other a path same)
  other_if o os a false other e = e

  found_among : (os : List Output) (a : NominalAnswer) → among os ≡ answers.found path a ∷ [] → FoundAt locals os path a
  found_among [] a e = cc
  found_among (found q s d ∷ os) a e =
      elim (has_prefix path q) as (λ b. (if b then (answers.found q (answer_in locals s d) ∷ among os) else among os) ≡ answers.found path a ∷ [] → FoundAt locals (found q s d ∷ os) path a) [
        | true ↦ λ f. let parts = first_found q path (answer_in locals s d) a (among os) [] f in record { state = s; plain = d; there = inl (parts.0, refl, refl); answer = parts.1 }
        | false ↦ λ f. later q s d os a (found_among os a f)
      ] e
  found_among (cut q ∷ os) a e =
      let r = found_among os a (other_if (answers.cut q) (among os) a (has_prefix path q) (λ c r h. cc) e) in record { state = r.state; plain = r.plain; there = r.there; answer = r.answer }
  found_among (chose q c ∷ os) a e = absurd c
  found_among (stuck q ∷ os) a e =
      let r = found_among os a (other_if (answers.stuck q) (among os) a (has_prefix path q) (λ c r h. cc) e) in record { state = r.state; plain = r.plain; there = r.there; answer = r.answer }

-- Where the search has just an answer at a path, the path leads to its state.
module _ (program : Clauses) (depth : ℕ) (q : NominalQuery) (path : List ℕ) where
  pub answer_derived : (a : NominalAnswer) → outs_at program depth q path ≡ answers.found path a ∷ []
      → (r : Traced) × IsDerivationAt program depth q path (derivation_in r.state r.derivation) × (traced_query program depth q path ≡ Some r) × (r.rest ≡ [])
  answer_derived a only =
      let f = found_among q.locals path (solve_query program depth q) a only in
      let r : Traced = record { state = f.state; derivation = f.plain; rest = [] } in
      let leads : traced_query program depth q path ≡ Some r = (paths_lead program depth q.goal (first_state q) path r).1 (path, sym (append-nil path), f.there) in (
        r,
        record {
          state = f.state;
          plain = f.plain;
          leads = leads;
          finds = f.there;
          only = only ∙ ap (λ b. answers.found path b ∷ []) (sym f.answer);
          closed = refl;
        },
        leads,
        refl,
      )

pub same_some : {X : Type 0} (o : Option X) (x y : X) → o ≡ Some x → o ≡ Some y → x ≡ y
same_some o x y h k = cc

-- Where a whole path leads.
module _ (program : Clauses) (depth : ℕ) (q : NominalQuery) (path : List ℕ) (l : LeadsOn program depth q path)
    (same : Clauses) (here : Position) (same_program : same ≡ program) (begins : here ≡ first_position depth q) where
  -- what the goals of the query are solved to, along it
  pub path_solved : solved_at same path here ≡ Some (record { state = l.traced.state; nodes = nodes_before l.traced.derivation []; rest = [] })
  path_solved =
      ap (λ x. solved_at x path here) same_program
      ∙ ap (λ x. solved_at program path x) begins
      ∙ ap (others_solved (solved program [])) l.leads
      ∙ ap (λ p. Some (record { state = l.traced.state; nodes = nodes_before l.traced.derivation []; rest = p })) l.whole

  module _ (s : State) (ns : List DerivationNode) (rest : List ℕ) (to : solved_at same path here ≡ Some (record { state = s; nodes = ns; rest = rest })) where
    reached : ◌≡◌ {A = Solved} (record { state = s; nodes = ns; rest = rest }) (record { state = l.traced.state; nodes = nodes_before l.traced.derivation []; rest = [] })
    reached = same_some (solved_at same path here) (record { state = s; nodes = ns; rest = rest }) (record { state = l.traced.state; nodes = nodes_before l.traced.derivation []; rest = [] }) to path_solved

    pub path_nodes : ns ≡ nodes_before l.traced.derivation []
    path_nodes = ap (λ (x : Solved). x.nodes) reached

    pub path_derivation : (d : NominalDerivation) → d ≡ derivation_in s l.traced.derivation → (r : Traced) → traced_query program depth q path ≡ Some r → d ≡ derivation_in r.state r.derivation
    path_derivation d e r leads =
        e ∙ ap (λ (x : Solved). derivation_in x.state l.traced.derivation) reached
        ∙ ap (λ (x : Traced). derivation_in x.state x.derivation) (same_some (traced_query program depth q path) l.traced r l.leads leads)

-- What derives the goals that were solved along the path of a problem's query.
module _ (p : Problem) (path : List ℕ) (q : NominalQuery) (asked : slice_get (queries_in p) (p.query - 1) ≡ Some q) (l : LeadsOn (clauses_in p) p.depth q path)
    (same : Clauses) (here : Position) (same_program : same ≡ clauses_in p) (begins : here ≡ first_position p.depth q)
    (s : State) (ns : List DerivationNode) (rest : List ℕ) (to : solved_at same path here ≡ Some (record { state = s; nodes = ns; rest = rest }))
    (d : NominalDerivation) (h : (e : NominalDerivation) → ns ≡ nodes_before e [] → d ≡ derivation_in s e) where
  pub path_derived : (x : NominalQuery) (r : Traced) → slice_get (queries_in p) (p.query - 1) ≡ Some x → traced_query (clauses_in p) p.depth x path ≡ Some r → d ≡ derivation_in r.state r.derivation
  path_derived x r k leads =
      let one : x ≡ q = same_some (slice_get (queries_in p) (p.query - 1)) x q k asked in
      let nodes = path_nodes (clauses_in p) p.depth q path l same here same_program begins s ns rest to in
      path_derivation (clauses_in p) p.depth q path l same here same_program begins s ns rest to d (h l.traced.derivation nodes) r
      (subst (λ (y : NominalQuery). traced_query (clauses_in p) p.depth y path ≡ Some r) one leads)

-- a property of each state that was found holds of one
each_has : (P : State → NominalDerivation → Type 0) (os : List Output) (path : List ℕ) (s : State) (d : NominalDerivation) → EachFound P os → Finds os path s d → P s d
each_has P [] path s d h f = absurd f
each_has P (found q r e ∷ os) path s d h (inl f) = subst (λ (x : State). P x d) f.1 (subst (λ (y : NominalDerivation). P r y) f.2 h.0)
each_has P (found q r e ∷ os) path s d h (inr f) = each_has P os path s d h.1 f
each_has P (cut q ∷ os) path s d h f = each_has P os path s d h f
each_has P (chose q c ∷ os) path s d h f = absurd c
each_has P (stuck q ∷ os) path s d h f = each_has P os path s d h f

same_answer : (path : List ℕ) (os : List NominalOut) (a b : NominalAnswer) → os ≡ answers.found path a ∷ [] → os ≡ answers.found path b ∷ [] → a ≡ b
same_answer path os a b h k = let e : answers.found path a ∷ [] ≡ answers.found path b ∷ [] = sym h ∙ k in cc

-- the derivation at a path checks against the answer there
pub derived_checks : (p : NominalProgram) → IsTypedProgram p → (depth : ℕ) (q : NominalQuery) → IsTypedQuery term_form p.signature q → (path : List ℕ) (a : NominalAnswer) (d : NominalDerivation)
    → IsDerivationAt p.clauses depth q path d → outs_at p.clauses depth q path ≡ answers.found path a ∷ [] → Checks p q a d
derived_checks p typed depth q fits path a d at only =
    let c = each_has (λ s e. Checks p q (answer_in q.locals s e) (derivation_in s e)) (solve_query p.clauses depth q) path at.state at.plain (found_check p typed depth q fits) at.finds in
    subst (λ (e : NominalDerivation). Checks p q a e) (sym at.closed)
    (subst (λ (b : NominalAnswer). Checks p q b (derivation_in at.state at.plain)) (same_answer path (outs_at p.clauses depth q path) (answer_in q.locals at.state at.plain) a at.only only) c)

-- A branch that stands at an answer.
pub answer_there : (p : Problem) (b : Branch) → IsBranchOf p b → IsAnswering b → (q : NominalQuery) → slice_get (queries_in p) (p.query - 1) ≡ Some q
    → (a : NominalAnswer) × (outs_at (clauses_in p) p.depth q (path_of_branch b) ≡ answers.found (path_of_branch b) a ∷ [])
answer_there p b of answering q asked =
    let f = of q asked in
    let n = node_at (clauses_in p) p.depth q b.node b.standing f.marks f.named in
    (subst (λ (m : Node). IsNodeAt (clauses_in p) p.depth q (path_of_branch b) m) answering n).1

module _ (p : Problem) (b : Branch) (of : IsBranchOf p b) (answering : IsAnswering b) (q : NominalQuery) (asked : slice_get (queries_in p) (p.query - 1) ≡ Some q) where
  abbrev there : (a : NominalAnswer) × (outs_at (clauses_in p) p.depth q (path_of_branch b) ≡ answers.found (path_of_branch b) a ∷ [])
  there = answer_there p b of answering q asked

  -- its path leads to the state of its answer
  pub branch_leads : LeadsOn (clauses_in p) p.depth q (path_of_branch b)
  branch_leads =
      let its = answer_derived (clauses_in p) p.depth q (path_of_branch b) there.0 there.1 in
      record { traced = its.0; leads = its.2; whole = its.3 }

  -- and this is its derivation
  pub branch_derived : (d : NominalDerivation) → ((r : Traced) → traced_query (clauses_in p) p.depth q (path_of_branch b) ≡ Some r → d ≡ derivation_in r.state r.derivation)
      → IsDerivationAt (clauses_in p) p.depth q (path_of_branch b) d
  branch_derived d h =
      let its = answer_derived (clauses_in p) p.depth q (path_of_branch b) there.0 there.1 in
      subst (λ (x : NominalDerivation). IsDerivationAt (clauses_in p) p.depth q (path_of_branch b) x) (sym (h its.0 its.2)) its.1

-- it has one
pub branches_have : (p : Problem) (b : Branch) → IsBranchOf p b → IsAnswering b → (q : NominalQuery) → slice_get (queries_in p) (p.query - 1) ≡ Some q
    → (d : NominalDerivation) × IsDerivationAt (clauses_in p) p.depth q (path_of_branch b) d
branches_have p b of answering q asked =
    let its = answer_derived (clauses_in p) p.depth q (path_of_branch b) (answer_there p b of answering q asked).0 (answer_there p b of answering q asked).1 in
    (derivation_in its.0.state its.0.derivation, its.1)

-- and no other
pub derived_once : (program : Clauses) (depth : ℕ) (q : NominalQuery) (path : List ℕ) (d e : NominalDerivation) → IsDerivationAt program depth q path d → IsDerivationAt program depth q path e → d ≡ e
derived_once program depth q path d e h k =
    let same : ◌≡◌ {A = Traced} (record { state = h.state; derivation = h.plain; rest = [] }) (record { state = k.state; derivation = k.plain; rest = [] }) =
    same_some (traced_query program depth q path) (record { state = h.state; derivation = h.plain; rest = [] }) (record { state = k.state; derivation = k.plain; rest = [] }) h.leads k.leads in
    h.closed ∙ ap (λ (x : Traced). derivation_in x.state x.derivation) same ∙ sym k.closed

pub typed_at : (sig : NominalSignature) (qs : List NominalQuery) (n : ℕ) (q : NominalQuery) → slice_get qs n ≡ Some q → AreTypedQueries term_form sig qs → IsTypedQuery term_form sig q
typed_at sig [] n q e h = cc
typed_at sig (r ∷ qs) zero q e h = let same : r ≡ q = cc in subst (λ (x : NominalQuery). IsTypedQuery term_form sig x) same h.0
typed_at sig (r ∷ qs) (suc n) q e h = typed_at sig qs n q e h.1
