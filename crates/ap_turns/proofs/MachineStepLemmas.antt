-- Kinds and clauses at their machines.
use Rattle.std.proofs.Common.{◌≡◌, ℕ, zero, suc, ◌<◌, ◌≤◌, ◌^◌, List, [], ◌∷◌, length, get_or, map, refl, sym, ap, arith, subst}
use Rattle.std.specs.Prelude.{Some, None, Option, IfSome, MatchOption}
use Rattle.ap_defs.specs.Answers.{kind_at}
use Rattle.ap_defs.specs.Goals.{clause_of, clauses_of, query_of, Clauses, program_in}
use Rattle.ap_defs.specs.Types.{NominalSignature, kind_of}
use Rattle.ap_program.specs.Typed.{AreTypedQueries, IsTypedQuery, term_form}
use Rattle.ap_defs.specs.declared.goals.Clause.{Clause}
use Rattle.ap_defs.specs.declared.goals.Kind.{Kind}
use Rattle.ap_defs.specs.declared.goals.Query.{Query}
use Rattle.ap_defs.specs.declared.terms.Term.{Term}
use Rattle.ap_search.specs.FitStates.{AreFitClauses, AreShort, IsFitProgram}

pub kind_here : (ks : List Kind) (n : ℕ) (k : Kind) → n < length ks → k ≡ get_or ks n k → kind_at (map kind_of ks) n ≡ Some (kind_of k)
kind_here [] n k h e = absurd (omega arith)
kind_here (j ∷ ks) zero k h e = ap (λ x. Some (kind_of x)) (sym e)
kind_here (j ∷ ks) (suc n) k h e = kind_here ks n k (omega arith) e

pub kind_past : (ks : List Kind) (n : ℕ) → length ks ≤ n → kind_at (map kind_of ks) n ≡ None
kind_past [] n h = refl
kind_past (j ∷ ks) zero h = absurd (omega arith)
kind_past (j ∷ ks) (suc n) h = kind_past ks n (omega arith)

pub clauses_here : (css : List (List (Clause Term))) (n : ℕ) (cs : List (Clause Term)) → n < length css → cs ≡ get_or css n cs
    → map clause_of cs ≡ clauses_of (program_in css) n
clauses_here [] n cs h e = absurd (omega arith)
clauses_here (ds ∷ css) zero cs h e = ap (map clause_of) e
clauses_here (ds ∷ css) (suc n) cs h e = clauses_here css n cs (omega arith) e

pub clauses_past : (css : List (List (Clause Term))) (n : ℕ) → length css ≤ n → [] ≡ clauses_of (program_in css) n
clauses_past [] n h = refl
clauses_past (ds ∷ css) zero h = absurd (omega arith)
clauses_past (ds ∷ css) (suc n) h = clauses_past css n (omega arith)

pub each_below : (css : Clauses) (n : ℕ) → IsFitProgram css → AreFitClauses (clauses_of css n)
each_below [] n h = tt
each_below (cs ∷ css) zero h = h.0
each_below (cs ∷ css) (suc n) h = each_below css n h.1

pub few_clauses : (css : Clauses) (n : ℕ) → AreShort css → length (clauses_of css n) < 2 ^ 32
few_clauses [] n h = omega arith
few_clauses (cs ∷ css) zero h = h.0
few_clauses (cs ∷ css) (suc n) h = few_clauses css n h.1

pub typed_query_here : (sig : NominalSignature) (qs : List (Query Term)) (n : ℕ) (q : Query Term) → n < length qs → q ≡ get_or qs n q
    → AreTypedQueries term_form sig (map query_of qs) → IsTypedQuery term_form sig (query_of q)
typed_query_here sig [] n q h e k = absurd (omega arith)
typed_query_here sig (r ∷ qs) zero q h e k = subst (λ (x : Query Term). IsTypedQuery term_form sig (query_of x)) (sym e) k.0
typed_query_here sig (r ∷ qs) (suc n) q h e k = typed_query_here sig qs n q (omega arith) e k.1

pub some_is : {X : Type 0} (N : Type 0) {P Q : X → Type 0} (o : Option X) → MatchOption o N P → ((x : X) → P x → Q x) → IfSome o Q
some_is N None h f = tt
some_is N (Some x) h f = f x h
