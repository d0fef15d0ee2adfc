-- What calls of a store make of a machine.
use Rattle.std.proofs.Common.{◌≡◌, ℕ, ◌≤◌, ◌^◌, List, [], ◌∷◌, length, refl, sym, ap, ◌∙◌, subst, arith, rules}
use Rattle.std.specs.Global.{Global}
use Rattle.std.specs.Prelude.{Bool, Vec, true, false, if◌then◌else◌, Option, Some, None}
use Rattle.ap_defs.specs.declared.terms.Cond.{Cond}
use Rattle.ap_defs.specs.declared.terms.Var.{Var}
use Rattle.ap_defs.specs.declared.terms.Name.{Name}
use Rattle.ap_defs.specs.declared.terms.Swap.{Swap}
use Rattle.ap_defs.specs.Answers.{stuck}
use Rattle.ap_defs.specs.Freshness.{reduce}
use Rattle.ap_defs.specs.Resolution.{State}
use Rattle.ap_defs.specs.Substitution.{moved, under}
use Rattle.ap_defs.specs.Terms.{NominalTerm, name, susp}
use Rattle.ap_defs.specs.Types.{NominalKind}
use Rattle.ap_defs.specs.Unification.{Unified}
use Rattle.ap_search.specs.Continuations.{Waiting}
use Rattle.ap_perm.specs.Closures.{opened_term}
use Rattle.ap_perm.specs.declared.closures.Opened.{Opened}
use Rattle.ap_perm.specs.declared.closures.Opened.TheVariants as parts
use Rattle.ap_store.specs.Heads.{IsHeadUnbound}
use Rattle.ap_store.specs.Triples.{IsPrefixOf, Triple}
use Rattle.ap_store.specs.Views.{bindings_of, kinds, present, versions}
use Rattle.ap_store.specs.declared.store.Store.{Store}
use Rattle.ap_store.proofs.StoreLemmas.{next_counts}
use Rattle.ap_theory.proofs.IdempotenceLemmas.{bound_term_unbound}
use Rattle.ap_unify.specs.Unified.{IsReduced, IsResult}
use Rattle.ap_machine.specs.GoalStacks.{IsLonger}
use Rattle.ap_machine.specs.Below.{AreWaitingBelow}
use Rattle.ap_turns.specs.Turned.{turned_of}
use Rattle.ap_machine.specs.Positions.{Position, ends, goes, goes_with, reduced_state, turned_fresh, unified_state, with_state}
use Rattle.ap_machine.specs.Tracks.{GoesFrom, Track}
use Rattle.ap_machine.specs.Views.{state_in}
use Rattle.ap_machine.specs.declared.brought.Brought.{Brought}
use Rattle.ap_machine.specs.declared.frames.Cell.{Cell}
use Rattle.ap_turns.specs.declared.turns.Turn.{Turn}
use Rattle.ap_turns.specs.declared.turns.Turn.TheVariants as turns
use Rattle.ap_machine.proofs.TrackLemmas.{longer_same}

-- Numbers.
pub few_numbers : (s : Store) → (present s).next ≤ 2 ^ 64
few_numbers s = let h = s.stored.2 in let l : length s.table.items ≤ 2 ^ 64 = search rules in omega (arith, h, l)

pub same_next : (s r : Store) → kinds r ≡ kinds s → (present r).next ≡ (present s).next
same_next s r e = sym (next_counts r) ∙ ap length e ∙ next_counts s

pub waiting_kept : (s r : Store) (ws : List Waiting) → kinds r ≡ kinds s → AreWaitingBelow (present s).next ws → AreWaitingBelow (present r).next ws
waiting_kept s r ws e h = subst (λ (n : ℕ). AreWaitingBelow n ws) (sym (same_next s r e)) h

abbrev pub track_with : List Cell → List ℕ → List Brought → List Triple → List NominalKind → Track
track_with cs ps xs vs ks = record { versions = vs; kinds = ks; cells = cs; path = ps; brought = xs }

-- the search goes on with the store
pub store_goes : (s r : Store) (cs : List Cell) (ps : List ℕ) (xs : List Brought) → IsPrefixOf (versions s) (versions r) → IsLonger (kinds s) (kinds r)
    → GoesFrom (track_with cs ps xs (versions s) (kinds s)) (track_with cs ps xs (versions r) (kinds r))
store_goes s r cs ps xs h k = record {
  versions = h;
  kinds = k;
  cells = longer_same cs cs refl;
  path = longer_same ps ps refl;
  brought = longer_same xs xs refl;
}

-- Turns.
abbrev pub turn_if : Bool → Turn
turn_if solved = if solved then turns.Goes else turns.Fails

abbrev pub state_with : Triple → List NominalKind → State
state_with a ks = record { bindings = a.bindings; conditions = a.conditions; kinds = ks }

module _ (s r : Store) (p q : Position) (same : kinds r ≡ kinds s) (there : q ≡ with_state (state_in r) p) where
  -- the search goes on where a state is had
  had_state : (t : Turn) (a : Triple) (solved : Bool) → present r ≡ a → solved ≡ true → t ≡ turn_if solved → turned_of t q ≡ goes (with_state (state_with a (kinds s)) p ∷ [])
  had_state t a solved h k e =
      ap (λ (x : Turn). turned_of x q) (e ∙ ap turn_if k)
      ∙ ap (λ (x : Position). goes (x ∷ [])) (there ∙ ap (λ (b : Triple). with_state (state_with b (kinds r)) p) h ∙ ap (λ (ks : List NominalKind). with_state (state_with a ks) p) same)

  no_state : (t : Turn) (solved : Bool) → solved ≡ false → t ≡ turn_if solved → turned_of t q ≡ goes []
  no_state t solved k e = ap (λ (x : Turn). turned_of x q) (e ∙ ap turn_if k)

  pub turned_unified : (o : Option Unified) (t : Turn) (solved : Bool) → IsResult o (present s) solved (present r) → t ≡ turn_if solved → turned_of t q ≡ goes_with p (unified_state (state_in s) o)
  turned_unified None t solved h e = no_state t solved h e
  turned_unified (Some u) t solved h e = had_state t _ solved h.1 h.0 e

  pub turned_reduced : (o : Option (List Cond)) (t : Turn) (solved : Bool) → IsReduced o (present s) solved (present r) → t ≡ turn_if solved → turned_of t q ≡ goes_with p (reduced_state (state_in s) o)
  turned_reduced None t solved h e = no_state t solved h e
  turned_reduced (Some cs) t solved h e = had_state t _ solved h.1 h.0 e

-- A freshness goal whose left side was followed.
module _ (s : Store) (p : Position) (t u v w : NominalTerm) (followed : under (bindings_of s) v ≡ under (bindings_of s) t) where
  turned_as : w ≡ v → turned_fresh p (under (bindings_of s) t) u ≡ turned_fresh p (under (bindings_of s) w) u
  turned_as e = ap (λ (x : NominalTerm). turned_fresh p x u) (sym (ap (under (bindings_of s)) e ∙ followed))

  turned_to : {y : NominalTerm} → w ≡ y → w ≡ v → turned_fresh p (under (bindings_of s) t) u ≡ turned_fresh p (under (bindings_of s) y) u
  turned_to f e = turned_as e ∙ ap (λ (y : NominalTerm). turned_fresh p (under (bindings_of s) y) u) f

  pub turned_other : (o : Opened) → w ≡ opened_term o → w ≡ v → ((a : Name) → o ≡ parts.Name a → ⊥) → ((q : Vec Swap Global) (x : Var) → o ≡ parts.Susp q x → ⊥)
      → goes [] ≡ turned_fresh p (under (bindings_of s) t) u
  turned_other parts.Unit f e h k = sym (turned_to f e)
  turned_other (parts.Name a) f e h k = absurd (h a refl)
  turned_other (parts.Pair c d) f e h k = sym (turned_to f e)
  turned_other (parts.App g c) f e h k = sym (turned_to f e)
  turned_other (parts.Abs a c) f e h k = sym (turned_to f e)
  turned_other (parts.Susp q x) f e h k = absurd (k q x refl)

  pub turned_stuck : (q : List Swap) (x : Var) (ps : List ℕ) → ps ≡ p.path → w ≡ susp q x → w ≡ v → IsHeadUnbound (bindings_of s) v
      → ends (stuck ps) ≡ turned_fresh p (under (bindings_of s) t) u
  turned_stuck q x ps same f e h =
      let k : IsHeadUnbound (bindings_of s) (susp q x) = subst (λ (y : NominalTerm). IsHeadUnbound (bindings_of s) y) (sym e ∙ f) h in
      ap (λ (rs : List ℕ). ends (stuck rs)) same
      ∙ sym (turned_to f e ∙ ap (λ (o : Option NominalTerm). turned_fresh p (moved q x o) u) (bound_term_unbound (bindings_of s) x k))

  pub turned_name : (a : Name) → w ≡ name a → w ≡ v → goes_with p (reduced_state p.state (reduce a (under p.state.bindings u))) ≡ turned_fresh p (under (bindings_of s) t) u
  turned_name a f e = sym (turned_to f e)
