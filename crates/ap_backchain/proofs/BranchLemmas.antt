-- Steps of branches.
use Rattle.std.proofs.Common.{◌≡◌, ℕ, zero, suc, ◌+◌, ◌-◌, ◌<◌, ◌≤◌, List, [], ◌∷◌, ◌++◌, length, map, refl, sym, ap, ◌∙◌, subst, arith}
use Rattle.std.proofs.lemmas.List.{append-nil, map-id}
use Rattle.std.specs.Global.{Global}
use Rattle.std.specs.Prelude.{Option, Some, None, option_map, Result, Ok, Err, IfOk, IfSome, Vec, slice_get}
use Rattle.ap_defs.specs.Answers.{NominalAnswer, NominalOut, answer_of, found, out_of, out_path, outs_at, outs_of, query_outs}
use Rattle.ap_defs.specs.declared.outcomes.Answer.{Answer}
use Rattle.ap_defs.specs.Goals.{Clauses, NominalQuery, clauses_of}
use Rattle.ap_defs.specs.Paths.{Choice, marked_query}
use Rattle.ap_defs.specs.declared.paths.Node.{Node}
use Rattle.ap_defs.specs.declared.paths.Node.TheVariants as nodes
use Rattle.ap_defs.specs.declared.paths.Out.{Out}
use Rattle.ap_defs.specs.declared.paths.Out.TheVariants as code
use Rattle.ap_program.specs.Typed.{IsTypedProgram, IsTypedQuery, term_form}
use Rattle.ap_paths.specs.Limits.{part}
use Rattle.ap_paths.specs.Trees.{IsChoice}
use Rattle.ap_paths.specs.declared.limits.Limit.{Limit}
use Rattle.ap_search.specs.Marks.{NominalMark, out, mark_in, mark_path, outs_among, with_choices}
use Rattle.ap_search.specs.PathTrees.{choice_at, query_choice, query_choices}
use Rattle.ap_search.specs.Prefixes.{beginning}
use Rattle.ap_search.proofs.TreeLemmas.{marked_stack_begins}
use Rattle.ap_search.proofs.PrefixLemmas.{beginning_deeper, beginning_whole}
use Rattle.ap_search.proofs.QueryTreeLemmas.{outs_at_marks, place_choice, width_choice}
use Rattle.ap_backchain.proofs.MarkLemmas.{marks_turned, settled}
use Rattle.ap_backchain.proofs.TurnLemmas.{turns_turned, width_told, written_turned}
use Rattle.ap_machine.proofs.UnboundLemmas.{marked_stack_by_unbound, stack_by_unbound}
use Rattle.ap_backchain.specs.Branches.{IsBranchOf, IsChoiceOfNode, IsNodeAt, IsStandingFor, IsStandingOf, choices_at, path_of_branch}
use Rattle.ap_turns.specs.Standings.{IsChoiceAt, IsChoosing, IsNamedNode, marks_of_standing, path_of_standing, width_of_standing}
use Rattle.ap_backchain.specs.Ends.{kept_out}
use Rattle.ap_backchain.specs.declared.run.Paths.{Paths}
use Rattle.ap_backchain.specs.declared.run.Paths.TheVariants as variants
use Rattle.ap_turns.specs.Marks.{IsSettled, choice_of, choice_of_atom, choices_among, marks_from, marks_of_turned, told_of, written_here}
use Rattle.ap_machine.specs.Machines.{position_of}
use Rattle.ap_machine.specs.Positions.{Position, Turned, ends, goes, outs_from, turned}
use Rattle.ap_backchain.specs.Problems.{clauses_in, program_of_problem, queries_in}
use Rattle.ap_backchain.specs.Starts.{first_position}
use Rattle.ap_backchain.specs.Turns.{turns_from, turns_of_turned}
use Rattle.ap_machine.specs.Unbound.{answer_by_unbound}
use Rattle.ap_backchain.specs.declared.branch.Branch.{Branch}
use Rattle.ap_turns.specs.declared.standing.Standing.{Standing}
use Rattle.ap_turns.specs.declared.standing.Standing.TheVariants as standings
use Rattle.ap_machine.specs.declared.machine.Machine.{Machine}
use Rattle.ap_search.specs.Records.{Answering}
use Rattle.ap_backchain.specs.declared.problem.Problem.{Problem}

-- A turn of a machine that doesn't choose.
module _ (program : Clauses) (answering : Answering) (here : Position) (h : choice_of program here.waiting ≡ None) where
  pub ended_marks : (o : NominalOut) → ends o ≡ turned program answering here → out o ∷ [] ≡ marks_from program answering here
  ended_marks o e = ap (marks_of_turned program answering) e ∙ marks_turned program answering here h

  pub ended_path : (o : NominalOut) → ends o ≡ turned program answering here → out_path o ≡ here.path
  ended_path o e = subst (λ (t : Turned). IsSettled here t) (sym e) (settled program answering here h)

  pub failed_marks : goes [] ≡ turned program answering here → [] ≡ marks_from program answering here
  failed_marks e = ap (marks_of_turned program answering) e ∙ marks_turned program answering here h

  pub went_marks : (next : Position) → goes (next ∷ []) ≡ turned program answering here → marks_from program answering next ≡ marks_from program answering here
  went_marks next e = sym (append-nil (marks_from program answering next)) ∙ ap (marks_of_turned program answering) e ∙ marks_turned program answering here h

  pub went_path : (next : Position) → goes (next ∷ []) ≡ turned program answering here → next.path ≡ here.path
  went_path next e = subst (λ (t : Turned). IsSettled here t) (sym e) (settled program answering here h)

  pub went_fewer : (next : Position) → goes (next ∷ []) ≡ turned program answering here → turns_from program next < turns_from program here
  went_fewer next e =
      let k : suc (turns_from program next + 0) ≡ turns_from program here = ap (λ t. suc (turns_of_turned program t)) e ∙ turns_turned program answering here in
      omega arith

-- A machine that chooses has a mark there.
pub choosing_marks : (program : Clauses) (answering : Answering) (p : Position) (o : Option Choice) → told_of program p.state p.waiting ≡ o
    → marks_from program answering p ≡ written_here with_choices p.path o ++ marks_of_turned program answering (turned program answering p)
choosing_marks program answering p o h =
    sym (written_turned with_choices program answering p)
    ∙ ap (λ x. written_here with_choices p.path x ++ marks_of_turned program answering (turned program answering p)) h

-- The node of a branch is that of the search at its path.
module _ (program : Clauses) (d : ℕ) (q : NominalQuery) where
  chooses : (c : Choice) (p : Machine) → beginning mark_path p.path.items (map (mark_in q.locals) (marked_query program d q)) ≡ marks_from program (answer_by_unbound q.locals) (position_of p)
      → told_of program (position_of p).state (position_of p).waiting ≡ Some c → query_choice program d q p.path.items ≡ Some c
  chooses c p h e =
      place_choice program d q p.path.items (marks_from program (answer_by_unbound q.locals) (position_of p)) h
      ∙ ap (choice_at p.path.items) (choosing_marks program (answer_by_unbound q.locals) (position_of p) (Some c) e)
      ∙ width_choice p.path.items c (marks_of_turned program (answer_by_unbound q.locals) (turned program (answer_by_unbound q.locals) (position_of p)))

  no_choice : (p : List ℕ) (ms : List NominalMark) → beginning mark_path p (map (mark_in q.locals) (marked_query program d q)) ≡ ms → choice_at p ms ≡ None → query_choices program d q p ≡ None
  no_choice p ms h e = ap (option_map (λ (v : Choice). v.width)) (place_choice program d q p ms h ∙ e)

  chooses_among : (o : Option Choice) (w : ℕ) (p : Machine) → beginning mark_path p.path.items (map (mark_in q.locals) (marked_query program d q)) ≡ marks_from program (answer_by_unbound q.locals) (position_of p)
      → told_of program (position_of p).state (position_of p).waiting ≡ o → option_map (λ (v : Choice). v.width) o ≡ Some w → Some w ≡ query_choices program d q p.path.items
  chooses_among None w p h e f = absurd cc
  chooses_among (Some c) w p h e f = sym (ap (option_map (λ (v : Choice). v.width)) (chooses c p h e) ∙ f)

  -- it chooses among so many where the search of the query does
  pub width_at : (s : Standing) → beginning mark_path (path_of_standing s) (map (mark_in q.locals) (marked_query program d q)) ≡ marks_of_standing program (answer_by_unbound q.locals) s
      → IsChoosing program s → width_of_standing s ≡ query_choices program d q (path_of_standing s)
  width_at (standings.Choosing w p) h k =
      let here = position_of p in
      chooses_among (told_of program here.state here.waiting) w p h refl (width_told program here.state here.waiting ∙ k)
  width_at (standings.Ended o) h k = sym (no_choice (out_path (out_of o)) _ h refl)
  width_at (standings.Failed path) h k = sym (no_choice path.items _ h refl)

  pub node_at : (n : Node) (s : Standing) → beginning mark_path (path_of_standing s) (map (mark_in q.locals) (marked_query program d q)) ≡ marks_of_standing program (answer_by_unbound q.locals) s
      → IsNamedNode program n s → IsNodeAt program d q (path_of_standing s) n
  node_at (nodes.Choice w kept) (standings.Choosing v p) h k = chooses (record { width = w; kept = kept }) p h k.1
  node_at nodes.Answer (standings.Ended (code.Found p a)) h k =
      (no_choice p _ h refl, (_, outs_at_marks program d q p ∙ ap outs_among h))
  node_at nodes.Cut (standings.Ended (code.Cut p)) h k = (no_choice p _ h refl, outs_at_marks program d q p ∙ ap outs_among h)
  node_at nodes.Stuck (standings.Ended (code.Stuck p)) h k = (no_choice p _ h refl, outs_at_marks program d q p ∙ ap outs_among h)
  node_at nodes.Failed (standings.Failed path) h k = (no_choice path.items _ h refl, outs_at_marks program d q path.items ∙ ap outs_among h)
  node_at _ _ h k = absurd k

  pub run_at : (s : Standing) → beginning mark_path (path_of_standing s) (map (mark_in q.locals) (marked_query program d q)) ≡ marks_of_standing program (answer_by_unbound q.locals) s
      → outs_among (marks_of_standing program (answer_by_unbound q.locals) s) ≡ outs_at program d q (path_of_standing s)
  run_at s h = ap outs_among (sym h) ∙ sym (outs_at_marks program d q (path_of_standing s))

  pub root_marks : (s : Standing) → marks_from program (answer_by_unbound q.locals) (first_position d q) ≡ map (mark_in q.locals) (marked_query program d q) → path_of_standing s ≡ [] → marks_of_standing program (answer_by_unbound q.locals) s ≡ marks_from program (answer_by_unbound q.locals) (first_position d q)
      → beginning mark_path (path_of_standing s) (map (mark_in q.locals) (marked_query program d q)) ≡ marks_of_standing program (answer_by_unbound q.locals) s
  root_marks s first_marks e m =
      let first = first_position d q in
      ap (λ p. beginning mark_path p (map (mark_in q.locals) (marked_query program d q))) e
      ∙ ap (beginning mark_path []) (sym first_marks)
      ∙ beginning_whole mark_path [] (marks_from program (answer_by_unbound q.locals) first) (marked_stack_begins program (answer_by_unbound q.locals) first.waiting [] first.state [])
      ∙ sym m

  pub step_marks : (s t : Standing) (k : ℕ) → beginning mark_path (path_of_standing s) (map (mark_in q.locals) (marked_query program d q)) ≡ marks_of_standing program (answer_by_unbound q.locals) s
      → path_of_standing t ≡ path_of_standing s ++ k ∷ []
      → marks_of_standing program (answer_by_unbound q.locals) t ≡ beginning mark_path (path_of_standing s ++ k ∷ []) (marks_of_standing program (answer_by_unbound q.locals) s)
      → beginning mark_path (path_of_standing t) (map (mark_in q.locals) (marked_query program d q)) ≡ marks_of_standing program (answer_by_unbound q.locals) t
  step_marks s t k h e m =
      ap (λ p. beginning mark_path p (map (mark_in q.locals) (marked_query program d q))) e
      ∙ sym (beginning_deeper mark_path (path_of_standing s) (k ∷ []) (map (mark_in q.locals) (marked_query program d q)))
      ∙ ap (beginning mark_path (path_of_standing s ++ k ∷ [])) h
      ∙ sym m

pub asked_once : {X : Type 0} (o : Option X) (x y : X) → o ≡ Some x → o ≡ Some y → x ≡ y
asked_once o x y h k = cc

-- The outputs of a problem, as far as they are wanted.
module _ (p : Problem) (paths : Paths) (limit : Limit) (query : NominalQuery) (asked : slice_get (queries_in p) (p.query - 1) ≡ Some query) (program_typed : IsTypedProgram (program_of_problem p))
    (typed : IsTypedQuery term_form (program_of_problem p).signature query) where
  abbrev first_outs : List NominalOut
  first_outs = part limit (outs_from (clauses_in p) (answer_by_unbound query.locals) (first_position p.depth query))

  abbrev AreTheOutputs : Vec Out Global → Type 0
  AreTheOutputs v = (q : NominalQuery) → slice_get (queries_in p) (p.query - 1) ≡ Some q → outs_of v.items ≡ map (kept_out paths) (part limit (query_outs (clauses_in p) p.depth q))

  first_are : (q : NominalQuery) → slice_get (queries_in p) (p.query - 1) ≡ Some q → first_outs ≡ part limit (query_outs (clauses_in p) p.depth q)
  first_are q k =
      subst (λ (x : NominalQuery). first_outs ≡ part limit (query_outs (clauses_in p) p.depth x)) (asked_once (slice_get (queries_in p) (p.query - 1)) query q asked k)
      (ap (part limit) (stack_by_unbound (program_of_problem p) program_typed p.depth query typed))

  outputs_are : (v : Vec Out Global) → outs_of v.items ≡ map (kept_out paths) first_outs → AreTheOutputs v
  outputs_are v h = λ q k. h ∙ ap (map (kept_out paths)) (first_are q k)

  pub all_outputs : {E : Type 0} (r : Result (Vec Out Global) E) → IfOk r (λ v. outs_of v.items ≡ map (kept_out paths) first_outs) → IfOk r AreTheOutputs
  all_outputs (Ok v) h = outputs_are v h
  all_outputs (Err e) h = tt

  some_outputs : (o : Option (Vec Out Global)) → IfSome o (λ v. outs_of v.items ≡ map (kept_out paths) first_outs) → IfSome o AreTheOutputs
  some_outputs None h = tt
  some_outputs (Some v) h = outputs_are v h

  pub few_outputs : {E : Type 0} (r : Result (Option (Vec Out Global)) E) → IfOk r (λ o. IfSome o (λ v. outs_of v.items ≡ map (kept_out paths) first_outs)) → IfOk r (λ o. IfSome o AreTheOutputs)
  few_outputs (Ok o) h = some_outputs o h
  few_outputs (Err e) h = tt

-- with their paths they are as they were
pub with_paths : (p : Problem) (limit : Limit) (v : Vec Out Global)
    → ((q : NominalQuery) → slice_get (queries_in p) (p.query - 1) ≡ Some q → outs_of v.items ≡ map (kept_out variants.Kept) (part limit (query_outs (clauses_in p) p.depth q)))
    → (q : NominalQuery) → slice_get (queries_in p) (p.query - 1) ≡ Some q → outs_of v.items ≡ part limit (query_outs (clauses_in p) p.depth q)
with_paths p limit v h q asked = h q asked ∙ map-id (part limit (query_outs (clauses_in p) p.depth q))

pub root_stands : (p : Problem) (query : NominalQuery) (s : Standing) → slice_get (queries_in p) (p.query - 1) ≡ Some query
    → IsTypedProgram (program_of_problem p) → IsTypedQuery term_form (program_of_problem p).signature query → path_of_standing s ≡ []
    → marks_of_standing (clauses_in p) (answer_by_unbound query.locals) s ≡ marks_from (clauses_in p) (answer_by_unbound query.locals) (first_position p.depth query) → IsChoosing (clauses_in p) s → IsStandingOf p s
root_stands p query s asked program_typed typed path marks choosing = λ q h.
    subst (λ (x : NominalQuery). IsStandingFor (clauses_in p) p.depth x s) (asked_once (slice_get (queries_in p) (p.query - 1)) query q asked h)
    (record { marks = root_marks (clauses_in p) p.depth query s (marked_stack_by_unbound (program_of_problem p) program_typed p.depth query typed) path marks; choosing = choosing })

pub atom_chooses : (program : Clauses) (d c : ℕ) → (d ≡ 0 → ⊥) → choice_of_atom program d c ≡ Some (length (clauses_of program c))
atom_chooses program zero c h = absurd (h refl)
atom_chooses program (suc d) c h = refl

pub run_is : {E : Type 0} (p : Problem) (paths : Paths) (query : NominalQuery) (b : Branch) (r : Result (Vec Out Global) E) → slice_get (queries_in p) (p.query - 1) ≡ Some query → IsBranchOf p b
    → IfOk r (λ v. outs_of v.items ≡ map (kept_out paths) (outs_among (marks_of_standing (clauses_in p) (answer_by_unbound query.locals) b.standing)))
    → IfOk r (λ v. (q : NominalQuery) → slice_get (queries_in p) (p.query - 1) ≡ Some q → outs_of v.items ≡ map (kept_out paths) (outs_at (clauses_in p) p.depth q (path_of_branch b)))
run_is p paths query b (Ok v) asked of h = λ q k.
    subst (λ (x : NominalQuery). outs_of v.items ≡ map (kept_out paths) (outs_at (clauses_in p) p.depth x (path_of_branch b))) (asked_once (slice_get (queries_in p) (p.query - 1)) query q asked k)
    (h ∙ ap (map (kept_out paths)) (run_at (clauses_in p) p.depth query b.standing (of query asked).marks))
run_is p paths query b (Err e) asked of h = tt

-- The same of a run that makes so many choices at most.
pub if_some : {A E : Type 0} (P Q : A → Type 0) → ((x : A) → P x → Q x) → (r : Result (Option A) E) → IfOk r (λ o. IfSome o P) → IfOk r (λ o. IfSome o Q)
if_some P Q f (Ok None) h = tt
if_some P Q f (Ok (Some x)) h = f x h
if_some P Q f (Err e) h = tt

pub if_none : {A E : Type 0} (P Q : Type 0) → (P → Q) → (r : Result (Option A) E) → IfOk r (λ o. o ≡ None → P) → IfOk r (λ o. o ≡ None → Q)
if_none P Q f (Ok o) h = λ e. f (h e)
if_none P Q f (Err e) h = tt

module _ (p : Problem) (query : NominalQuery) (b : Branch) (asked : slice_get (queries_in p) (p.query - 1) ≡ Some query) (of : IsBranchOf p b) where
  pub outs_below : (paths : Paths) (os : List NominalOut) → os ≡ map (kept_out paths) (outs_among (marks_of_standing (clauses_in p) (answer_by_unbound query.locals) b.standing))
      → (q : NominalQuery) → slice_get (queries_in p) (p.query - 1) ≡ Some q → os ≡ map (kept_out paths) (outs_at (clauses_in p) p.depth q (path_of_branch b))
  outs_below paths os h q k =
      subst (λ (x : NominalQuery). os ≡ map (kept_out paths) (outs_at (clauses_in p) p.depth x (path_of_branch b))) (asked_once (slice_get (queries_in p) (p.query - 1)) query q asked k)
      (h ∙ ap (map (kept_out paths)) (run_at (clauses_in p) p.depth query b.standing (of query asked).marks))

  pub choices_below : (q : NominalQuery) → slice_get (queries_in p) (p.query - 1) ≡ Some q
      → choices_among (marks_of_standing (clauses_in p) (answer_by_unbound query.locals) b.standing) ≡ choices_at (clauses_in p) p.depth q (path_of_branch b)
  choices_below q k =
      subst (λ (x : NominalQuery). choices_among (marks_of_standing (clauses_in p) (answer_by_unbound query.locals) b.standing) ≡ choices_at (clauses_in p) p.depth x (path_of_branch b))
      (asked_once (slice_get (queries_in p) (p.query - 1)) query q asked k) (sym (ap choices_among (of query asked).marks))

pub step_stands : (p : Problem) (query : NominalQuery) (s t : Standing) (k : ℕ) → slice_get (queries_in p) (p.query - 1) ≡ Some query → IsStandingOf p s
    → path_of_standing t ≡ path_of_standing s ++ k ∷ []
    → marks_of_standing (clauses_in p) (answer_by_unbound query.locals) t ≡ beginning mark_path (path_of_standing s ++ k ∷ []) (marks_of_standing (clauses_in p) (answer_by_unbound query.locals) s)
    → IsChoosing (clauses_in p) t → IsStandingOf p t
step_stands p query s t k asked of path marks choosing = λ q h.
    subst (λ (x : NominalQuery). IsStandingFor (clauses_in p) p.depth x t) (asked_once (slice_get (queries_in p) (p.query - 1)) query q asked h)
    (record { marks = step_marks (clauses_in p) p.depth query s t k (of query asked).marks path marks; choosing = choosing })

-- what stands there and is named is a branch, and a branch stands there
pub named_branch : (p : Problem) (b : Branch) (s : Standing) → b.standing ≡ s → IsStandingOf p s → IsNamedNode (clauses_in p) b.node b.standing → IsBranchOf p b
named_branch p b s e of named = λ q h.
    let there : IsStandingFor (clauses_in p) p.depth q b.standing = subst (λ (r : Standing). IsStandingFor (clauses_in p) p.depth q r) (sym e) (of q h) in
    record { marks = there.marks; choosing = there.choosing; named = named }

pub branch_stands : (p : Problem) (b : Branch) → IsBranchOf p b → IsStandingOf p b.standing
branch_stands p b of = λ q h. record { marks = (of q h).marks; choosing = (of q h).choosing }

-- a way of a choice stands before it
pub way_stands : (s : Standing) (k : ℕ) → IsChoice (width_of_standing s) k → IsChoiceAt k s
way_stands (standings.Choosing w p) k h = h
way_stands (standings.Ended o) k h = absurd h
way_stands (standings.Failed path) k h = absurd h

-- a node that is a choice has its ways where the branch stands
pub node_ways : (program : Clauses) (n : Node) (s : Standing) (k : ℕ) → IsNamedNode program n s → IsChoiceOfNode k n → IsChoice (width_of_standing s) k
node_ways program (nodes.Choice w kept) (standings.Choosing v p) k h c = (c.0, subst (λ (m : ℕ). k ≤ m) h.0 c.1)
node_ways program (nodes.Choice w kept) (standings.Ended o) k h c = absurd h
node_ways program (nodes.Choice w kept) (standings.Failed path) k h c = absurd h
node_ways program nodes.Answer s k h c = absurd c
node_ways program nodes.Cut s k h c = absurd c
node_ways program nodes.Stuck s k h c = absurd c
node_ways program nodes.Failed s k h c = absurd c

-- the answer of a branch
pub answer_at : (p : Problem) (b : Branch) (path : List ℕ) (a : Answer) (r : NominalAnswer) → IsBranchOf p b → b.standing ≡ standings.Ended (code.Found path a) → r ≡ answer_of a
    → (q : NominalQuery) → slice_get (queries_in p) (p.query - 1) ≡ Some q → outs_at (clauses_in p) p.depth q (path_of_branch b) ≡ found (path_of_branch b) r ∷ []
answer_at p b path a r of e f q asked =
    outs_at_marks (clauses_in p) p.depth q (path_of_branch b)
    ∙ ap outs_among (of q asked).marks
    ∙ ap (λ s. outs_among (marks_of_standing (clauses_in p) (answer_by_unbound q.locals) s)) e
    ∙ ap (λ x. found x (answer_of a) ∷ []) (sym (ap path_of_standing e))
    ∙ ap (λ x. found (path_of_branch b) x ∷ []) (sym f)
