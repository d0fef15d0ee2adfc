-- Rules that put data types in, and the least set of data types by them.
use Rattle.std.specs.Prelude.{◌≡◌, ◌↔◌, ℕ, ◌+◌, ◌*◌, Bool, true, ◌&&◌, List, [], ◌∷◌, length, map, slice_index_or, Option, Some, None}
use Rattle.std.specs.Global.{Vec}
use Rattle.ap_defs.specs.Types.{NominalConstructor}
use Rattle.ap_types.specs.declared.least.Rule.{Rule}
use Rattle.ap_types.specs.declared.least.Least.{Least}
use Rattle.ap_types.specs.declared.rounds.Question.{Question}
use Rattle.ap_types.specs.Rounds.{Test, Within, some_passes, reached, marked}
use Rattle.ap_types.specs.Questions.{test_of}

-- all of the data types are in
abbrev pub all_are_in : (ℕ → Bool) → List ℕ → Bool
all_are_in p [] = true
all_are_in p (d ∷ ds) = p d && all_are_in p ds

-- the one that is missing is, and all of the rest are
abbrev pub all_in_from : (ℕ → Bool) → Option ℕ → List ℕ → Bool
all_in_from p None ds = true
all_in_from p (Some d) ds = p d && all_are_in p ds

-- the rules that wait at a data type
abbrev pub rules_at : List (Vec Rule) → ℕ → List Rule
rules_at vs d = slice_index_or (map (λ v. v.items) vs) d []

-- where one set has all that a rule needs, the other has what it gives
abbrev pub RulesGive : (ℕ → Bool) → (ℕ → Bool) → List Rule → Type 0
RulesGive p q [] = Unit {0}
RulesGive p q (r ∷ rs) = (all_are_in p r.needs.items ≡ true → q r.gives ≡ true) × RulesGive p q rs

-- the same of rules that wait, where the one set has the data type at which they wait
abbrev pub GivesLater : (ℕ → Bool) → (ℕ → Bool) → List (Vec Rule) → Type 0
GivesLater p q vs = (d : ℕ) → p d ≡ true → RulesGive p q (rules_at vs d)

-- the rules say what they said, and that the data type is given where the test is passed
abbrev pub Adds : List Rule → List Rule → ((ℕ → Bool) → Bool) → ℕ → Type 0
Adds old new test gives = (p q : ℕ → Bool) → RulesGive p q new ↔ (RulesGive p q old × (test p ≡ true → q gives ≡ true))

-- the rules say what the constructor says
abbrev pub Say : Test → NominalConstructor → List Rule → Type 0
Say test c rs = Adds [] rs (λ p. test p c.args) c.result

-- each data type that is marked is found in some round
abbrev pub IsSound : Test → List NominalConstructor → List Bool → Type 0
IsSound test cs table = (r : ℕ) × ((d : ℕ) → marked table d ≡ true → reached test cs r d ≡ true)

-- The rules that are left, those that wait and the table say together what the constructors say.
pub record RulesStand (test : Test) (cs : List NominalConstructor) (left : List Rule) (table : List Bool) (waiting : List (Vec Rule)) : Type 0 where
  pub sound : IsSound test cs table
  pub right : (p : ℕ → Bool) → Within (marked table) p → RulesGive p (some_passes test p cs) left × GivesLater p (some_passes test p cs) waiting
  pub whole : (p : ℕ → Bool) → Within (marked table) p → RulesGive p p left → GivesLater p p waiting → Within (some_passes test p cs) p
  pub blocked : (d : ℕ) → marked table d ≡ true → rules_at waiting d ≡ []

-- the rules that are left and the least set so far say what the constructors say
abbrev pub QuestionStands : Question → List NominalConstructor → List Rule → Least → Type 0
QuestionStands question cs left l = RulesStand (test_of question) cs left l.table.items l.waiting.items

-- what the first say, the others say
abbrev pub RulesLead : List Rule → Least → List Rule → Least → Type 0
RulesLead rs l rs' l' = (question : Question) (cs : List NominalConstructor) → QuestionStands question cs rs l → QuestionStands question cs rs' l'

-- the least set of data types by the constructors so far
abbrev pub IsLeastSoFar : Question → List NominalConstructor → Least → Type 0
IsLeastSoFar question cs l = QuestionStands question cs [] l

-- how much there is to look at in rules that are left, and in those that wait
abbrev pub rule_weight : Rule → ℕ
rule_weight r = 2 * length r.needs.items + 1

abbrev pub rules_weight : List Rule → ℕ
rules_weight [] = 0
rules_weight (r ∷ rs) = rule_weight r + rules_weight rs

abbrev pub later_weight : List (Vec Rule) → ℕ
later_weight [] = 0
later_weight (v ∷ vs) = (rules_weight v.items + length v.items) + later_weight vs

-- more places, and nothing else
abbrev pub SameMarks : List Bool → List Bool → Type 0
SameMarks old new = (d : ℕ) → marked new d ≡ marked old d

pub record SameRules (old new : List (Vec Rule)) : Type 0 where
  pub waiting : (d : ℕ) → rules_at new d ≡ rules_at old d
  pub weight : later_weight new ≡ later_weight old

-- at other data types nothing changes
abbrev pub OthersMarked : ℕ → List Bool → List Bool → Type 0
OthersMarked base old new = (d : ℕ) → (d ≡ base → ⊥) → marked new d ≡ marked old d

abbrev pub OthersWait : ℕ → List (Vec Rule) → List (Vec Rule) → Type 0
OthersWait base old new = (d : ℕ) → (d ≡ base → ⊥) → rules_at new d ≡ rules_at old d
