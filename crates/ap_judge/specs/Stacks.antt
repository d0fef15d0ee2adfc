-- What waits on a stack to be tested: the next one stands last. One that is tested fails, or what it leaves waits in its place.
use Rattle.std.specs.Prelude.{◌≡◌, ◌<◌, ◌≤◌, ℕ, ◌+◌, Bool, true, false, ◌&&◌, List, [], ◌∷◌, length, reverse, take}
use Rattle.std.specs.List.{list_all, sum_by}

-- nothing else is known where one waits
pub record IsReplaced {P : Type 0} (test : P → Bool) (size : P → ℕ) (p : P) (before after : List P) : Type 0 where
  pub all : list_all test after ≡ (test p && list_all test before)
  pub less : sum_by size after < size p + sum_by size before

abbrev pub IsTested : {P : Type 0} → (P → Bool) → (P → ℕ) → P → List P → List P → Bool → Type 0
IsTested test size p before after false = test p ≡ false
IsTested test size p before after true = IsReplaced test size p before after

module _ {P : Type 0} (mark : P → ℕ) where
  -- each waits where as much of a list stands as its mark says, and all pass the test there, the next one first
  abbrev pub all_waiting : {B : Type 0} → (List B → P → Bool) → List B → List P → Bool
  all_waiting test bs [] = true
  all_waiting test bs (p ∷ ps) = test (take (mark p) bs) p && all_waiting test bs ps

  -- what stands where one waits, stands also where those do that are tested before it
  abbrev pub AreWithin : ℕ → List P → Type 0
  AreWithin top [] = Unit {0}
  AreWithin top (p ∷ ps) = (mark p ≤ top) × AreWithin (mark p) ps

-- one was tested where a list stood
pub record IsReplacedThere {P B : Type 0} (mark : P → ℕ) (test : List B → P → Bool) (size : P → ℕ) (p : P) (bs : List B) (before : List P) (cs : List B) (after : List P) : Type 0 where
  pub all : all_waiting mark test cs (reverse after) ≡ (test bs p && all_waiting mark test bs (reverse before))
  pub within : AreWithin mark (length cs) (reverse after)
  pub less : sum_by size after < size p + sum_by size before

abbrev pub IsTestedThere : {P B : Type 0} → (P → ℕ) → (List B → P → Bool) → (P → ℕ) → P → List B → List P → List B → List P → Bool → Type 0
IsTestedThere mark test size p bs before cs after false = test bs p ≡ false
IsTestedThere mark test size p bs before cs after true = IsReplacedThere mark test size p bs before cs after
