-- Parts that are known to stand for one term.
use Rattle.std.specs.Prelude.{◌≡◌, ℕ, true, List, [], ◌∷◌}
use Rattle.std.specs.BTreeSet.{contains}
use Rattle.std.specs.Ordering.{nat_cmp, ordering_then}
use Rattle.std.specs.declared.cmp.Ordering.{Ordering}
use Rattle.ap_defs.specs.Substitution.{Binding, under}
use Rattle.ap_defs.specs.Terms.{susp}
use Rattle.ap_defs.specs.declared.terms.Var.{Var}
use Rattle.ap_equations.specs.Plain.{plain_term}
use Rattle.ap_equations.specs.declared.plain.PlainPair.{PlainPair}
use Rattle.ap_unify.specs.declared.parts.Ahead.{Ahead}
use Rattle.ap_unify.specs.declared.parts.Turn.{Turn}
use Rattle.ap_unify.specs.declared.parts.Turn.TheVariants as turns
use Rattle.ap_unify.specs.declared.settled.Settled.{Settled}

-- both parts stand for one term
abbrev pub AreSame : List Binding → PlainPair → Type 0
AreSame s p = under s (plain_term p.left) ≡ under s (plain_term p.right)

abbrev pub AllSame : List Binding → List PlainPair → Type 0
AllSame s [] = Unit {0}
AllSame s (p ∷ ps) = AreSame s p × AllSame s ps

-- two parts stand for one term, once those do that a turn puts ahead
abbrev pub MakesSame : List Binding → Turn → Ahead → PlainPair → Type 0
MakesSame s turns.Done f p = AreSame s p
MakesSame s turns.On f p = AreSame s f.next → AreSame s p
MakesSame s turns.Both f p = AreSame s f.next → AreSame s f.later → AreSame s p
MakesSame s _ f p = Unit {0}

abbrev pub pair_cmp : ℕ × ℕ → ℕ × ℕ → Ordering
pair_cmp p q = ordering_then (nat_cmp p.0 q.0) (nat_cmp p.1 q.1)

-- the variables of each pair that is kept stand for one term
abbrev pub AreSettled : List Binding → Settled → Type 0
AreSettled s k = (x y : Var) → contains pair_cmp k.pairs (x.num, y.num) ≡ true → under s (susp [] x) ≡ under s (susp [] y)
