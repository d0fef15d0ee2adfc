-- A choice that is taken from the path.
use Rattle.std.proofs.Common.{◌≡◌, ◌-◌, ◌<◌, ◌≤◌, ℕ, zero, suc, Bool, true, false, List, [], ◌∷◌, ◌++◌, get_or, map, refl, sym, ap, ◌∙◌, arith}
use Rattle.std.specs.Prelude.{if◌then◌else◌, ◌==◌, Option, Some, None, length, drop}
use Rattle.ap_defs.specs.Derivations as derivations
use Rattle.ap_defs.specs.Goals as goals
use Rattle.ap_defs.specs.Goals.{Clauses, NominalClause, NominalGoal, clause_of, clauses_of}
use Rattle.ap_defs.specs.GroundProofs.{clause_at}
use Rattle.ap_defs.specs.Renaming.{local_names, local_vars, rename_goal, rename_term}
use Rattle.ap_defs.specs.Resolution.{clause_node, kinds_of, next_number}
use Rattle.ap_defs.specs.Terms.{NominalTerm, susp}
use Rattle.ap_defs.specs.Unification.{Unified, unify}
use Rattle.ap_defs.specs.declared.goals.Clause.{Clause}
use Rattle.ap_defs.specs.declared.terms.Term.{Term}
use Rattle.ap_theory.proofs.TermLemmas.{number_same}
use Rattle.ap_machine.specs.Positions.{Position, enters_clause, each_position, entered, goes, unified_state, with_choice, with_goal}
use Rattle.ap_checks.specs.Traces.{trace_call, trace_clause, trace_goal, trace_side, trace_unified, traced, under_node}
use Rattle.ap_bundle.specs.Nodes.{atom, left, right}
use Rattle.ap_derive.specs.Solved.{HasOneMoreChoice, IsSolved, Selects, Solved, others_solved, rest_of, solved, solved_at, with_node}
use Rattle.ap_derive.proofs.SolvedLemmas.{Others, below_node, solved_on}

-- What is left of a path after one more choice.
next_rest : (k : ℕ) (before path rest : List ℕ) → drop (length before) path ≡ k ∷ rest → drop (length (before ++ k ∷ [])) path ≡ rest
next_rest k [] [] rest e = cc
next_rest k [] (j ∷ path) rest e = cc
next_rest k (i ∷ before) [] rest e = cc
next_rest k (i ∷ before) (j ∷ path) rest e = next_rest k before path rest e

-- the choice stands at its machine in the path
pub choice_here : (n : ℕ) (path rest : List ℕ) (k d : ℕ) → drop n path ≡ k ∷ rest → (n < length path) × (get_or path n d ≡ k)
choice_here zero [] rest k d e = cc
choice_here zero (j ∷ path) rest k d e = (omega arith, cc)
choice_here (suc n) [] rest k d e = cc
choice_here (suc n) (j ∷ path) rest k d e = let h = choice_here n path rest k d e in let l = h.0 in (omega arith, h.1)

-- The sides of a disjunction.
module _ (program : Clauses) (path : List ℕ) (d : ℕ) (g h : NominalGoal) (p : Position) where
  abbrev go : Others
  go = solved program p.waiting

  abbrev side_at : List ℕ → Option Solved
  side_at z = others_solved go (trace_side (traced program d g) (traced program d h) p.state z)

  side_has : (z : List ℕ) (r : Solved) → side_at z ≡ Some r → (k : ℕ) × (rest : List ℕ) × (z ≡ k ∷ rest)
  side_has [] r e = cc
  side_has (k ∷ rest) r e = (k, rest, refl)

  pub side_chooses : IsSolved program path (with_goal d (goals.either g h) p) → HasOneMoreChoice path p
  side_chooses s = side_has (rest_of path p) s.0 s.1

  other_side : (k : ℕ) (b c : Bool) (rest : List ℕ) (r : Solved) → ((k ≡ 1) → ⊥) → (k == 1) ≡ b → (k == 2) ≡ c
      → others_solved go (if b then under_node derivations.left (traced program d g p.state rest) else (if c then under_node derivations.right (traced program d h p.state rest) else None)) ≡ Some r → k ≡ 2
  other_side k true c rest r other e f s = absurd (other (number_same k 1 e))
  other_side k false true rest r other e f s = number_same k 2 f
  other_side k false false rest r other e f s = cc

  pub second_side : (k : ℕ) (rest : List ℕ) → ((k ≡ 1) → ⊥) → rest_of path p ≡ k ∷ rest → IsSolved program path (with_goal d (goals.either g h) p) → k ≡ 2
  second_side k rest other e s = other_side k (k == 1) (k == 2) rest s.0 other refl refl (ap side_at (sym e) ∙ s.1)

  pub left_selected : (rest : List ℕ) → rest_of path p ≡ 1 ∷ rest → Selects program path (with_goal d (goals.either g h) p) left (with_goal d g (with_choice 1 p))
  left_selected rest e =
      ap side_at e
      ∙ below_node go derivations.left left (λ f ns. refl) (traced program d g p.state rest)
      ∙ ap (λ z. with_node left (others_solved go (traced program d g p.state z))) (sym (next_rest 1 p.path path rest e))

  pub right_selected : (rest : List ℕ) → rest_of path p ≡ 2 ∷ rest → Selects program path (with_goal d (goals.either g h) p) right (with_goal d h (with_choice 2 p))
  right_selected rest e =
      ap side_at e
      ∙ below_node go derivations.right right (λ f ns. refl) (traced program d h p.state rest)
      ∙ ap (λ z. with_node right (others_solved go (traced program d h p.state z))) (sym (next_rest 2 p.path path rest e))

-- The clause of an atom.
-- where the clause of the next choice is
pub record HasClause (program : Clauses) (path : List ℕ) (d q : ℕ) (p : Position) : Type 0 where
  pub lower : ℕ
  pub deep : d ≡ suc lower
  pub choice : ℕ
  pub rest : List ℕ
  pub next : rest_of path p ≡ choice ∷ rest
  pub clause : NominalClause
  pub there : clause_at (clauses_of program q) choice ≡ Some clause

module _ (program : Clauses) (path : List ℕ) (q : ℕ) (ts : List NominalTerm) (p : Position) where
  abbrev others : Others
  others = solved program p.waiting

  clause_there : (lower k : ℕ) (rest : List ℕ) (r : Solved) (o : Option NominalClause) → others_solved others (trace_clause (trace_goal (trace_call program lower)) ts k o p.state rest) ≡ Some r
      → (c : NominalClause) × (o ≡ Some c)
  clause_there lower k rest r None e = cc
  clause_there lower k rest r (Some c) e = (c, refl)

  chosen_clause : (d : ℕ) (z : List ℕ) → rest_of path p ≡ z → (r : Solved) → others_solved others (trace_call program d q ts p.state z) ≡ Some r → HasClause program path d q p
  chosen_clause zero z same r e = let h : None ≡ Some r = e in cc
  chosen_clause (suc lower) [] same r e = cc
  chosen_clause (suc lower) (k ∷ rest) same r e =
      let c = clause_there lower k rest r (clause_at (clauses_of program q) k) e in
      record { lower = lower; deep = refl; choice = k; rest = rest; next = same; clause = c.0; there = c.1 }

  pub atom_chooses : (d : ℕ) → IsSolved program path (with_goal d (goals.atom q ts) p) → HasClause program path d q p
  atom_chooses d s = chosen_clause d (rest_of path p) refl s.0 s.1

  module _ (lower k : ℕ) (rest : List ℕ) (c : NominalClause) (next : rest_of path p ≡ k ∷ rest) where
    abbrev body : NominalGoal
    body = rename_goal (next_number p.state) c.body

    entered_on : (o : Option Unified)
        → others_solved others (trace_unified (trace_goal (trace_call program lower) body) (record (p.state) { kinds = p.state.kinds ++ kinds_of c.locals }) o rest)
        ≡ solved_on program path (goes (each_position (entered lower p k c) (unified_state (record (p.state) { kinds = p.state.kinds ++ kinds_of c.locals }) o)))
    entered_on None = refl
    entered_on (Some u) =
        ap (λ z. others_solved others (trace_goal (trace_call program lower) body (record { bindings = u.bindings; conditions = u.conditions; kinds = p.state.kinds ++ kinds_of c.locals }) z)) (sym (next_rest k p.path path rest next))

    -- the atom's node, and what entering the clause makes of the machine
    clause_selected : clause_at (clauses_of program q) k ≡ Some c
        → solved_at program path (with_goal (suc lower) (goals.atom q ts) p)
        ≡ with_node (atom k (local_names (next_number p.state) c.locals) (map (susp []) (local_vars (next_number p.state) c.locals))) (solved_on program path (goes (enters_clause lower ts p k c)))
    clause_selected there =
        let o = unify p.state.bindings p.state.conditions ts (map (rename_term (next_number p.state)) c.args) in
        let node = atom k (local_names (next_number p.state) c.locals) (map (susp []) (local_vars (next_number p.state) c.locals)) in
        ap (λ z. others_solved others (trace_call program (suc lower) q ts p.state z)) next
        ∙ ap (λ x. others_solved others (trace_clause (trace_goal (trace_call program lower)) ts k x p.state rest)) there
        ∙ below_node others (clause_node k (next_number p.state) c.locals) node (λ f ns. refl)
        (trace_unified (trace_goal (trace_call program lower) body) (record (p.state) { kinds = p.state.kinds ++ kinds_of c.locals }) o rest)
        ∙ ap (with_node node) (entered_on o)

-- The clause that stands at a machine of a list.
pub clause_within : (cs : List (Clause Term)) (k : ℕ) (c : NominalClause) → clause_at (map clause_of cs) k ≡ Some c → (1 ≤ k) × (k - 1 < length cs)
clause_within [] k c e = cc
clause_within (b ∷ cs) zero c e = cc
clause_within (b ∷ cs) (suc zero) c e = (omega arith, omega arith)
clause_within (b ∷ cs) (suc (suc k)) c e = let h = clause_within cs (suc k) c e in let l = h.1 in (omega arith, omega arith)

pub clause_read : (cs : List (Clause Term)) (n : ℕ) (b : Clause Term) (c : NominalClause) → n < length cs → b ≡ get_or cs n b → clause_at (map clause_of cs) (suc n) ≡ Some c → clause_of b ≡ c
clause_read [] n b c l e h = absurd (omega arith)
clause_read (a ∷ cs) zero b c l e h = let same : clause_of a ≡ c = cc in ap clause_of e ∙ same
clause_read (a ∷ cs) (suc n) b c l e h = clause_read cs n b c (omega arith) e h

-- The clause of the path's next choice, among the clauses of the atom's predicate.
module _ (program : Clauses) (path : List ℕ) (d q : ℕ) (ts : List NominalTerm) (p : Position) (s : IsSolved program path (with_goal d (goals.atom q ts) p))
    (cs : List (Clause Term)) (of : map clause_of cs ≡ clauses_of program q) (k : ℕ) (rest : List ℕ) (next : rest_of path p ≡ k ∷ rest) where
  abbrev its : HasClause program path d q p
  its = atom_chooses program path q ts p d s

  its_choice : its.choice ≡ k
  its_choice = let e : its.choice ∷ its.rest ≡ k ∷ rest = sym its.next ∙ next in cc

  its_clause : clause_at (map clause_of cs) k ≡ Some its.clause
  its_clause = ap (λ bs. clause_at bs k) of ∙ ap (clause_at (clauses_of program q)) (sym its_choice) ∙ its.there

  pub deep : 1 ≤ d
  deep = let e = its.deep in omega arith

  pub low : 1 ≤ k
  low = (clause_within cs k its.clause its_clause).0

  pub within : k - 1 < length cs
  within = (clause_within cs k its.clause its_clause).1

  module _ (b : Clause Term) (there : b ≡ get_or cs (k - 1) b) where
    same_clause : its.clause ≡ clause_of b
    same_clause =
        let l = low in
        let e : k ≡ suc (k - 1) = omega arith in
        sym (clause_read cs (k - 1) b its.clause within there (ap (clause_at (map clause_of cs)) (sym e) ∙ its_clause))

    abbrev entering : ℕ → NominalClause → Option Solved
    entering n c = with_node (atom k (local_names (next_number p.state) c.locals) (map (susp []) (local_vars (next_number p.state) c.locals))) (solved_on program path (goes (enters_clause n ts p k c)))

    pub selected_with : solved_at program path (with_goal d (goals.atom q ts) p) ≡ entering (d - 1) (clause_of b)
    selected_with =
        let e = its.deep in
        let f : its.lower ≡ d - 1 = omega arith in
        ap (λ n. solved_at program path (with_goal n (goals.atom q ts) p)) its.deep
        ∙ clause_selected program path q ts p its.lower k rest its.clause next (ap (clause_at (clauses_of program q)) (sym its_choice) ∙ its.there)
        ∙ ap (λ n. entering n its.clause) f
        ∙ ap (entering (d - 1)) same_clause

    pub enters : [] ≡ enters_clause (d - 1) ts p k (clause_of b) → ⊥
    enters e =
        let h : None ≡ entering (d - 1) (clause_of b) = ap (λ ps. with_node (atom k (local_names (next_number p.state) (clause_of b).locals) (map (susp []) (local_vars (next_number p.state) (clause_of b).locals))) (solved_on program path (goes ps))) e in
        let r : None ≡ Some s.0 = h ∙ sym selected_with ∙ s.1 in
        cc

    pub selected_to : (r : Position) → r ∷ [] ≡ enters_clause (d - 1) ts p k (clause_of b)
        → Selects program path (with_goal d (goals.atom q ts) p) (atom k (local_names (next_number p.state) (clause_of b).locals) (map (susp []) (local_vars (next_number p.state) (clause_of b).locals))) r
    selected_to r e =
        selected_with
        ∙ ap (λ ps. with_node (atom k (local_names (next_number p.state) (clause_of b).locals) (map (susp []) (local_vars (next_number p.state) (clause_of b).locals))) (solved_on program path (goes ps))) (sym e)
