-- Outputs among outputs, and what is reached.
use Rattle.std.proofs.Common.{subst, ◌≡◌, ◌+◌, ℕ, zero, suc, true, List, [], ◌∷◌, ◌++◌, map, refl, sym, ap, inl, inr, arith, true≢false}
use Rattle.std.specs.Prelude.{◌==◌, Some}
use Rattle.ap_defs.specs.Derivations as nodes
use Rattle.ap_defs.specs.Derivations.{NominalDerivation}
use Rattle.ap_defs.specs.Goals.{NominalClause, NominalGoal}
use Rattle.ap_defs.specs.GroundProofs.{clause_at}
use Rattle.ap_defs.specs.Groundings.{Grounding}
use Rattle.ap_defs.specs.PathOrder.{has_prefix}
use Rattle.ap_defs.specs.Resolution.{Output, State, below, by_clause, by_clauses, cut, each_found, found, chose, stuck}
use Rattle.ap_defs.specs.Terms.{NominalTerm}
use Rattle.ap_defs.specs.Types.{NominalKind}
use Rattle.ap_theory.proofs.BooleanLemmas.{and_both, and_left, and_right}
use Rattle.ap_theory.proofs.TermLemmas.{same_number}
use Rattle.ap_complete.specs.NumberedProofs.{IsAmong, IsReached, answered, is_stuck}

pub among_map : {A B : Type 0} (f : A → B) (x : A) (xs : List A) → IsAmong x xs → IsAmong (f x) (map f xs)
among_map f x [] h = absurd h
among_map f x (y ∷ ys) (inl e) = inl (ap f e)
among_map f x (y ∷ ys) (inr h) = inr (among_map f x ys h)

pub among_left : {A : Type 0} (x : A) (xs ys : List A) → IsAmong x xs → IsAmong x (xs ++ ys)
among_left x [] ys h = absurd h
among_left x (y ∷ xs) ys (inl e) = inl e
among_left x (y ∷ xs) ys (inr h) = inr (among_left x xs ys h)

pub among_right : {A : Type 0} (x : A) (xs ys : List A) → IsAmong x ys → IsAmong x (xs ++ ys)
among_right x [] ys h = h
among_right x (y ∷ xs) ys h = inr (among_right x xs ys h)

-- what follows from a state that was found
pub among_each : (go : State → List Output) (os : List Output) (p : List ℕ) (r : State) (d : NominalDerivation) (o : Output) → IsAmong (found p r d) os → IsAmong o (go r)
    → IsAmong (below p (nodes.both d) o) (each_found go os)
among_each go [] p r d o h k = absurd h
among_each go (o' ∷ os) p r d o (inl e) k =
    subst (λ (w : Output). IsAmong (below p (nodes.both d) o) (each_found go (w ∷ os))) (sym e)
    (among_left (below p (nodes.both d) o) (map (below p (nodes.both d)) (go r)) (each_found go os) (among_map (below p (nodes.both d)) o (go r) k))
among_each go (found p' r' d' ∷ os) p r d o (inr h) k =
    among_right (below p (nodes.both d) o) (map (below p' (nodes.both d')) (go r')) (each_found go os) (among_each go os p r d o h k)
among_each go (cut q ∷ os) p r d o (inr h) k = inr (among_each go os p r d o h k)
among_each go (chose q c ∷ os) p r d o (inr h) k = absurd c
among_each go (stuck q ∷ os) p r d o (inr h) k = inr (among_each go os p r d o h k)

-- a branch that is stuck stays
pub stuck_each : (go : State → List Output) (os : List Output) (q : List ℕ) → IsAmong (stuck q) os → IsAmong (stuck q) (each_found go os)
stuck_each go [] q h = absurd h
stuck_each go (o ∷ os) q (inl e) = subst (λ (w : Output). IsAmong (stuck q) (each_found go (w ∷ os))) (sym e) (inl refl)
stuck_each go (found p r d ∷ os) q (inr h) = among_right (stuck q) (map (below p (nodes.both d)) (go r)) (each_found go os) (stuck_each go os q h)
stuck_each go (cut p ∷ os) q (inr h) = inr (stuck_each go os q h)
stuck_each go (chose p c ∷ os) q (inr h) = absurd c
stuck_each go (stuck p ∷ os) q (inr h) = inr (stuck_each go os q h)

-- the outputs by one of the clauses
pub among_clauses : (go : NominalGoal → State → List Output) (ts : List NominalTerm) (s : State) (k i : ℕ) (rest : List NominalClause) (c : NominalClause) → clause_at rest (suc i) ≡ Some c
    → (o : Output) → IsAmong o (by_clause go ts s (k + i) c) → IsAmong o (by_clauses go ts s k rest)
among_clauses go ts s k i [] c e o h = cc
among_clauses go ts s k zero (b ∷ rest) c e o h =
    let same : b ≡ c = cc in
    let l : k + zero ≡ k = omega arith in
    among_left o (by_clause go ts s k b) (by_clauses go ts s (suc k) rest)
    (subst (λ (x : NominalClause). IsAmong o (by_clause go ts s k x)) (sym same) (subst (λ (j : ℕ). IsAmong o (by_clause go ts s j c)) l h))
among_clauses go ts s k (suc i) (b ∷ rest) c e o h =
    let l : k + suc i ≡ suc k + i = omega arith in
    among_right o (by_clause go ts s k b) (by_clauses go ts s (suc k) rest)
    (among_clauses go ts s (suc k) i rest c e o (subst (λ (j : ℕ). IsAmong o (by_clause go ts s j c)) l h))

-- Prefixes.
pub prefix_longer : (q path more : List ℕ) → has_prefix q path ≡ true → has_prefix q (path ++ more) ≡ true
prefix_longer [] path more h = refl
prefix_longer (k ∷ q) [] more h = absurd (true≢false (sym h))
prefix_longer (k ∷ q) (j ∷ path) more h =
    and_both (k == j) (has_prefix q (path ++ more)) (and_left (k == j) (has_prefix q path) h) (prefix_longer q path more (and_right (k == j) (has_prefix q path) h))

pub prefix_below : (p q path : List ℕ) → has_prefix q path ≡ true → has_prefix (p ++ q) (p ++ path) ≡ true
prefix_below [] q path h = h
prefix_below (k ∷ p) q path h = and_both (k == k) (has_prefix (p ++ q) (p ++ path)) (same_number k k refl) (prefix_below p q path h)

-- Reaching.
module _ (f : Grounding) where
  pub reached_below : (p : List ℕ) (node : NominalDerivation → NominalDerivation) (path : List ℕ) (os : List Output) (kinds : List NominalKind) → IsReached f path os kinds
      → IsReached f (p ++ path) (map (below p node) os) kinds
  reached_below p node path os kinds (answered r d i h e) = answered r (node d) (among_map (below p node) (found path r d) os i) h e
  reached_below p node path os kinds (is_stuck q i h) = is_stuck (p ++ q) (among_map (below p node) (stuck q) os i) (prefix_below p q path h)

  -- outputs among more
  pub reached_among : (path : List ℕ) (os qs : List Output) (kinds : List NominalKind) → ((o : Output) → IsAmong o os → IsAmong o qs) → IsReached f path os kinds → IsReached f path qs kinds
  reached_among path os qs kinds k (answered r d i h e) = answered r d (k (found path r d) i) h e
  reached_among path os qs kinds k (is_stuck q i h) = is_stuck q (k (stuck q) i) h

  pub reached_as : (path : List ℕ) (os : List Output) (kinds more : List NominalKind) → kinds ≡ more → IsReached f path os kinds → IsReached f path os more
  reached_as path os kinds more e h = subst (λ (l : List NominalKind). IsReached f path os l) e h
