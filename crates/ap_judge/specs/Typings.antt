-- Lines that are known to have a type, and what waits to be looked at or to be known.
use Rattle.std.specs.Prelude.{◌≡◌, ◌<◌, ℕ, ◌+◌, ◌*◌, Bool, true, false, List, [], ◌∷◌, ◌++◌, map, Some}
use Rattle.std.specs.List.{list_all, sum_by}
use Rattle.std.specs.BTreeMap.{get}
use Rattle.std.specs.Borrow.{Bor}
use Rattle.std.specs.Ordering.{nat_cmp}
use Rattle.ap_defs.specs.declared.goals.Constructor.{Constructor}
use Rattle.ap_defs.specs.declared.terms.Ty.{Ty}
use Rattle.ap_defs.specs.declared.terms.Var.{Var}
use Rattle.ap_defs.specs.Answers.{typed_var_of}
use Rattle.ap_defs.specs.Terms.{NominalTerm}
use Rattle.ap_defs.specs.Types.{NominalConstructor, constructor_of, type_of}
use Rattle.ap_defs.specs.Typing.{VarTypes, one}
use Rattle.ap_checks.specs.TypeTests.{is_typed, type_beside}
use Rattle.ap_shared.specs.declared.arena.SharedTerms.{SharedTerms}
use Rattle.ap_shared.specs.Shared.{shared_at}
use Rattle.ap_shared.specs.SharedViews.{shared_terms}
use Rattle.ap_judge.specs.declared.types.Expected.{Expected}
use Rattle.ap_judge.specs.declared.types.Wanted.{Wanted}
use Rattle.ap_judge.specs.declared.types.Wanted.TheVariants as wanted
use Rattle.ap_judge.specs.declared.typing.Task.{Task}
use Rattle.ap_judge.specs.declared.typing.Task.TheVariants as task
use Rattle.ap_judge.specs.declared.typing.Typed.{Typed}
use Rattle.ap_judge.specs.Wanted.{expected_size, is_expected}

module _ (ts : List NominalTerm) where
  abbrev pub task_size : Task → ℕ
  task_size (task.Look e) = 2 * expected_size ts e
  task_size (task.Known i t) = 1

  module _ (cs : List NominalConstructor) (vars : VarTypes) where
    abbrev pub is_known : ℕ → Bor Ty → Type 0
    is_known i t = is_typed cs vars (shared_at ts i) (one (type_of t.now)) ≡ true

    -- the terms of these lines have their types
    abbrev pub AreTyped : Typed → Type 0
    AreTyped m = (i : ℕ) (t : Bor Ty) → get nat_cmp m.known i ≡ Some t → is_known i t

    abbrev pub passes : Task → Bool
    passes (task.Look e) = is_expected ts cs vars e
    passes (task.Known i t) = true

    -- what will be known holds where all pass that wait above it; the next one stands last
    abbrev pub AreEarned : List Task → Type 0
    AreEarned [] = Unit {0}
    AreEarned (task.Look e ∷ ks) = AreEarned ks
    AreEarned (task.Known i t ∷ ks) = (list_all passes ks ≡ true → is_known i t) × AreEarned ks

-- one leaves others in its place, and passes where they do
pub record LeavesTasks (ts : List NominalTerm) (cs : List NominalConstructor) (vars : VarTypes) (k : Task) (before after : List Task) : Type 0 where
  pub more : List Task
  pub left : after ≡ before ++ more
  pub all : list_all (passes ts cs vars) more ≡ passes ts cs vars k
  pub earned : AreEarned ts cs vars more
  pub less : sum_by (task_size ts) more < task_size ts k

abbrev pub IsTaskTaken : List NominalTerm → List NominalConstructor → VarTypes → Task → List Task → List Task → Bool → Type 0
IsTaskTaken ts cs vars k before after false = passes ts cs vars k ≡ false
IsTaskTaken ts cs vars k before after true = LeavesTasks ts cs vars k before after

-- the same of the program's constructors and an answer's variables
abbrev pub AreTypesKnown : SharedTerms → List Constructor → List (Var × Ty) → Typed → Type 0
AreTypesKnown ts cs vars m = AreTyped (shared_terms ts) (map constructor_of cs) (type_beside (map typed_var_of vars)) m

-- what will be known of a term that is to be this
abbrev pub to_be_known_at : ℕ → Wanted → List Task
to_be_known_at i (wanted.One t) = task.Known i t ∷ []
to_be_known_at i wanted.Nothing = []
to_be_known_at i (wanted.More t ts) = []
to_be_known_at i (wanted.Cell t l) = []

abbrev pub to_be_known : Expected → List Task
to_be_known e = to_be_known_at e.line e.wanted
