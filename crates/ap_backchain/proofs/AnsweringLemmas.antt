-- Branches that stand at an answer.
use Rattle.std.proofs.Common.{◌≡◌, ℕ, zero, suc, ◌-◌, ◌<◌, List, [], ◌∷◌, length, refl, subst, arith}
use Rattle.std.specs.Prelude.{Some, Result, Ok, Err, IfOk, slice_get}
use Rattle.ap_defs.specs.Answers.{answer_of, found, outs_at}
use Rattle.ap_defs.specs.Goals.{NominalQuery}
use Rattle.ap_defs.specs.declared.outcomes.Answer.{Answer}
use Rattle.ap_defs.specs.declared.paths.Node.{Node}
use Rattle.ap_defs.specs.declared.paths.Node.TheVariants as nodes
use Rattle.ap_defs.specs.declared.paths.Out.TheVariants as code
use Rattle.ap_paths.specs.Trees.{IsChoice}
use Rattle.ap_backchain.specs.Branches.{IsAnswering, IsBranchOf, IsChoiceOfNode, IsStandingOf, path_of_branch}
use Rattle.ap_turns.specs.Standings.{IsChoosing, IsNamedNode, width_of_standing}
use Rattle.ap_backchain.specs.Problems.{HasQuery, clauses_in, queries_in}
use Rattle.ap_backchain.specs.declared.branch.Branch.{Branch}
use Rattle.ap_turns.specs.declared.standing.Standing.{Standing}
use Rattle.ap_turns.specs.declared.standing.Standing.TheVariants as standings
use Rattle.ap_backchain.specs.declared.problem.Problem.{Problem}
use Rattle.ap_backchain.proofs.BranchLemmas.{answer_at, node_ways}

stands_there : {A : Type 0} (xs : List A) (n : ℕ) → n < length xs → (x : A) × (slice_get xs n ≡ Some x)
stands_there [] n h = absurd (omega arith)
stands_there (x ∷ xs) zero h = (x, refl)
stands_there (x ∷ xs) (suc n) h = stands_there xs n (omega arith)

pub answering : (p : Problem) (b : Branch) (s : Standing) → HasQuery p → IsBranchOf p b → IsAnswering b → b.standing ≡ s → IsNamedNode (clauses_in p) nodes.Answer s
answering p b s h of e f =
    let low = h.0 in let high = h.1 in
    let there = stands_there (queries_in p) (p.query - 1) (omega (arith, low, high)) in
    subst (λ (r : Standing). IsNamedNode (clauses_in p) nodes.Answer r) f (subst (λ (n : Node). IsNamedNode (clauses_in p) n b.standing) e (of there.0 there.1).named)

pub answer_stands : {E : Type 0} (p : Problem) (b : Branch) (path : List ℕ) (a : Answer) (r : Result Answer E) → IsBranchOf p b → b.standing ≡ standings.Ended (code.Found path a)
    → IfOk r (λ x. answer_of x ≡ answer_of a)
    → IfOk r (λ x. (q : NominalQuery) → slice_get (queries_in p) (p.query - 1) ≡ Some q → outs_at (clauses_in p) p.depth q (path_of_branch b) ≡ found (path_of_branch b) (answer_of x) ∷ [])
answer_stands p b path a (Ok x) of e h = answer_at p b path a (answer_of x) of e h
answer_stands p b path a (Err f) of e h = tt

-- where the search of a problem chooses it knows among how many
pub standing_chooses : (p : Problem) (s : Standing) → HasQuery p → IsStandingOf p s → IsChoosing (clauses_in p) s
standing_chooses p s h of =
    let low = h.0 in let high = h.1 in
    let there = stands_there (queries_in p) (p.query - 1) (omega (arith, low, high)) in (of there.0 there.1).choosing

-- the ways of a branch are those of where it stands
pub branch_ways : (p : Problem) (b : Branch) (k : ℕ) → HasQuery p → IsBranchOf p b → IsChoiceOfNode k b.node → IsChoice (width_of_standing b.standing) k
branch_ways p b k h of chosen =
    let low = h.0 in let high = h.1 in
    let there = stands_there (queries_in p) (p.query - 1) (omega (arith, low, high)) in
    node_ways (clauses_in p) b.node b.standing k (of there.0 there.1).named chosen
