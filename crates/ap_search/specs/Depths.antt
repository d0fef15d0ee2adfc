-- Outputs among which none was cut at the depth.
use Rattle.std.specs.Prelude.{List, [], ◌∷◌}
use Rattle.ap_defs.specs.Answers as answers
use Rattle.ap_defs.specs.Answers.{NominalOut}
use Rattle.ap_defs.specs.Resolution as search
use Rattle.ap_defs.specs.Resolution.{Output}

abbrev pub HasNoCut : List Output → Type 0
HasNoCut [] = Unit {0}
HasNoCut (search.found p s d ∷ os) = HasNoCut os
HasNoCut (search.cut p ∷ os) = ⊥
HasNoCut (search.stuck p ∷ os) = HasNoCut os
HasNoCut (search.chose p c ∷ os) = HasNoCut os

abbrev pub HasNoCutOut : List NominalOut → Type 0
HasNoCutOut [] = Unit {0}
HasNoCutOut (answers.found p a ∷ os) = HasNoCutOut os
HasNoCutOut (answers.cut p ∷ os) = ⊥
HasNoCutOut (answers.stuck p ∷ os) = HasNoCutOut os
