-- Items as they are written.
use Rattle.std.specs.Prelude.{ℕ, List, Option}
use Rattle.ap_trees.specs.Types.{Ty}
use Rattle.ap_trees.specs.Terms.{Term}
use Rattle.ap_trees.specs.Goals.{Goal}

-- what an item says
pub data Saying : Type 0 where
  ANameType : List ℕ → Saying
  ADataType : List ℕ → Saying
  AConstructor : List ℕ → List Ty → List ℕ → Saying
  APredicate : List ℕ → List Ty → Saying
  AClause : List ℕ → List Term → Option Goal → Saying
  AQuery : Goal → Saying

pub record ItemOf : Type 0 where
  pub line : ℕ
  pub form : Saying
