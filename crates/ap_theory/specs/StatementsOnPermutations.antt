-- What is proved of permutations, as lists of swappings.
use Rattle.std.specs.Prelude.{◌≡◌, ◌≢◌, true, false, not, List, [], ◌++◌}
use Rattle.ap_defs.specs.Canonical.{canonical}
use Rattle.ap_defs.specs.Permutations.{IsSamePerm, act_name, disagreement, has_name, inverse, name_eq, names_of, swap_name, swap_of}
use Rattle.ap_defs.specs.declared.terms.Name.{Name}
use Rattle.ap_defs.specs.declared.terms.Swap.{Swap}

-- two lists in a row act one after the other, the last one first
abbrev pub ActionComposes : Type 0
ActionComposes = (p q : List Swap) (a : Name) → act_name (p ++ q) a ≡ act_name p (act_name q a)

abbrev pub ActionKeepsSorts : Type 0
ActionKeepsSorts = (p : List Swap) (a : Name) → (act_name p a).sort ≡ a.sort

abbrev pub ActionIsInjective : Type 0
ActionIsInjective = (p : List Swap) (a b : Name) → act_name p a ≡ act_name p b → a ≡ b

abbrev pub InverseUndoes : Type 0
InverseUndoes = (p : List Swap) (a : Name) → act_name (inverse p) (act_name p a) ≡ a

abbrev pub InverseIsUndone : Type 0
InverseIsUndone = (p : List Swap) (a : Name) → act_name p (act_name (inverse p) a) ≡ a

abbrev pub InversesOfEqualsAreEqual : Type 0
InversesOfEqualsAreEqual = (p q : List Swap) → IsSamePerm p q → IsSamePerm (inverse p) (inverse q)

abbrev pub UnmentionedIsFixed : Type 0
UnmentionedIsFixed = (p : List Swap) (a : Name) → has_name a (names_of p) ≡ false → act_name p a ≡ a

abbrev pub SwappingUndoesItself : Type 0
SwappingUndoesItself = (s : Swap) (a : Name) → swap_name s (swap_name s a) ≡ a

abbrev pub SwappingFlips : Type 0
SwappingFlips = (a b c : Name) → a.sort ≡ b.sort → swap_name (swap_of a b) c ≡ swap_name (swap_of b a) c

abbrev pub SwappingOfOneName : Type 0
SwappingOfOneName = (a c : Name) → swap_name (swap_of a a) c ≡ c

-- p (a b) is (p a  p b) p, for names of one sort
abbrev pub SwappingIsConjugated : Type 0
SwappingIsConjugated = (p : List Swap) (a b c : Name) → a.sort ≡ b.sort
    → act_name p (swap_name (swap_of a b) c) ≡ swap_name (swap_of (act_name p a) (act_name p b)) (act_name p c)

-- the disagreement has the names on which the two differ, and no other
abbrev pub DisagreementIsWhole : Type 0
DisagreementIsWhole = (p q : List Swap) (c : Name) → has_name c (disagreement p q) ≡ not (name_eq (act_name p c) (act_name q c))

abbrev pub EqualsDoNotDisagree : Type 0
EqualsDoNotDisagree = (p q : List Swap) → IsSamePerm p q → disagreement p q ≡ []

abbrev pub WhatDoesNotDisagreeIsEqual : Type 0
WhatDoesNotDisagreeIsEqual = (p q : List Swap) → disagreement p q ≡ [] → IsSamePerm p q

abbrev pub EqualsDisagreeAlike : Type 0
EqualsDisagreeAlike = (p q r s : List Swap) → IsSamePerm p r → IsSamePerm q s → disagreement p q ≡ disagreement r s

abbrev pub CanonicalListIsEqual : Type 0
CanonicalListIsEqual = (p : List Swap) → IsSamePerm (canonical p) p

abbrev pub EqualsHaveOneCanonicalList : Type 0
EqualsHaveOneCanonicalList = (p q : List Swap) → IsSamePerm p q → canonical p ≡ canonical q

abbrev pub CanonicalListIsItsOwn : Type 0
CanonicalListIsItsOwn = (p : List Swap) → canonical (canonical p) ≡ canonical p

-- the canonical list mentions only names that the permutation moves
abbrev pub CanonicalListMentionsTheMoved : Type 0
CanonicalListMentionsTheMoved = (p : List Swap) (c : Name) → has_name c (names_of (canonical p)) ≡ true → act_name p c ≢ c
