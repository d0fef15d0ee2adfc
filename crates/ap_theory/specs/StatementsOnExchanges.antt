-- What is proved of new names, of exchanges, and of extensions of finite injections.
use Rattle.std.specs.Prelude.{◌≡◌, ◌<◌, ◌≤◌, ℕ, true, false, List, [], ◌++◌, map}
use Rattle.ap_defs.specs.GroundProofs.{AreDifferent, AreOfSorts}
use Rattle.ap_defs.specs.Permutations.{IsSamePerm, act_name, has_name}
use Rattle.ap_defs.specs.declared.terms.Name.{Name}
use Rattle.ap_theory.specs.Exchanges.{AreApart, exchange, extension, new_names}

abbrev pub NewNamesHaveSorts : Type 0
NewNamesHaveSorts = (cs as' : List Name) (m : ℕ) → AreOfSorts cs (new_names cs as' m)

abbrev pub NewNamesAreDifferent : Type 0
NewNamesAreDifferent = (cs as' : List Name) (m : ℕ) → AreDifferent (new_names cs as' m)

abbrev pub NewNamesAreNew : Type 0
NewNamesAreNew = (cs as' : List Name) (m : ℕ) → AreApart (new_names cs as' m) as'

abbrev pub NewNamesAreHigh : Type 0
NewNamesAreHigh = (cs as' : List Name) (m : ℕ) (a : Name) → has_name a (new_names cs as' m) ≡ true → m ≤ a.num

-- two lists without a common name, of the same sorts, and in which no name stands twice
abbrev pub Exchangeable : List Name → List Name → Type 0
Exchangeable cs ds = AreOfSorts cs ds × AreDifferent cs × AreDifferent ds × AreApart cs ds

abbrev pub ExchangeGoes : Type 0
ExchangeGoes = (cs ds : List Name) → Exchangeable cs ds → map (act_name (exchange cs ds)) cs ≡ ds

abbrev pub ExchangeComesBack : Type 0
ExchangeComesBack = (cs ds : List Name) → Exchangeable cs ds → map (act_name (exchange cs ds)) ds ≡ cs

abbrev pub ExchangeFixesTheRest : Type 0
ExchangeFixesTheRest = (cs ds : List Name) (a : Name) → AreOfSorts cs ds → has_name a cs ≡ false → has_name a ds ≡ false → act_name (exchange cs ds) a ≡ a

abbrev pub ExchangeUndoesItself : Type 0
ExchangeUndoesItself = (cs ds : List Name) → Exchangeable cs ds → IsSamePerm (exchange cs ds ++ exchange cs ds) []

-- the two lists may have names in common
abbrev pub InjectionExtends : Type 0
InjectionExtends = (cs ds : List Name) (m : ℕ) → AreOfSorts cs ds → AreDifferent cs → AreDifferent ds → map (act_name (extension cs ds m)) cs ≡ ds

abbrev pub ExtensionFixesTheRest : Type 0
ExtensionFixesTheRest = (cs ds : List Name) (m : ℕ) (a : Name) → AreOfSorts cs ds → has_name a cs ≡ false → has_name a ds ≡ false → a.num < m
    → act_name (extension cs ds m) a ≡ a
