-- States and outputs that count as equal: bindings as finite maps, up to equality of permutations in suspensions.
use Rattle.std.specs.Prelude.{◌≡◌, ℕ, List, [], ◌∷◌}
use Rattle.ap_defs.specs.declared.terms.Name.{Name}
use Rattle.ap_defs.specs.declared.terms.Var.{Var}
use Rattle.ap_defs.specs.Derivations.{NominalDerivation}
use Rattle.ap_defs.specs.Goals.{NominalGoal, succeed, atom, equal, fresh, both, either, exists, new}
use Rattle.ap_defs.specs.Resolution.{State, Output, found, cut, stuck, Call}
use Rattle.ap_defs.specs.SameTerm.{SameTerm, SameTerms}
use Rattle.ap_defs.specs.Terms.{NominalTerm}
use Rattle.ap_theory.specs.StatementsOnUnification.{BindAlike}

-- the same substitution, and the same conditions and kinds
pub record SameState (s r : State) : Type 0 where
  pub bindings : BindAlike s.bindings r.bindings
  pub conditions : s.conditions ≡ r.conditions
  pub kinds : s.kinds ≡ r.kinds

-- goals whose terms count as equal
pub data SameGoal : NominalGoal → NominalGoal → Type 0 where
  same_succeed : SameGoal succeed succeed
  same_atom : {p : ℕ} {ts us : List NominalTerm} → SameTerms ts us → SameGoal (atom p ts) (atom p us)
  same_equal : {t u v w : NominalTerm} → SameTerm t v → SameTerm u w → SameGoal (equal t u) (equal v w)
  same_fresh : {t u v w : NominalTerm} → SameTerm t v → SameTerm u w → SameGoal (fresh t u) (fresh v w)
  same_both : {f g h k : NominalGoal} → SameGoal f h → SameGoal g k → SameGoal (both f g) (both h k)
  same_either : {f g h k : NominalGoal} → SameGoal f h → SameGoal g k → SameGoal (either f g) (either h k)
  same_exists : {x : Var} {g h : NominalGoal} → SameGoal g h → SameGoal (exists x g) (exists x h)
  same_new : {a : Name} {g h : NominalGoal} → SameGoal g h → SameGoal (new a g) (new a h)

-- the same path and derivation, and states that count as equal
pub data SameOutput : Output → Output → Type 0 where
  same_found : {p : List ℕ} {s r : State} {d : NominalDerivation} → SameState s r → SameOutput (found p s d) (found p r d)
  same_cut : {p : List ℕ} → SameOutput (cut p) (cut p)
  same_stuck : {p : List ℕ} → SameOutput (stuck p) (stuck p)

-- place by place
pub data SameOutputs : List Output → List Output → Type 0 where
  no_outputs : SameOutputs [] []
  next_output : {o q : Output} {os qs : List Output} → SameOutput o q → SameOutputs os qs → SameOutputs (o ∷ os) (q ∷ qs)

-- an atom has outputs that count as equal from states that do
abbrev pub Respects : Call → Type 0
Respects call = (p : ℕ) (ts us : List NominalTerm) (s r : State) → SameTerms ts us → SameState s r → SameOutputs (call p ts s) (call p us r)
