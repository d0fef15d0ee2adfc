-- What a try to steal says.
use Rattle.std.specs.Prelude.{◌≡◌, ◌<◌, ◌⊎◌, [], ◌∷◌, ◌++◌}
use Rattle.ap_tools.specs.declared.deques.thief.Stolen.{Stolen}
use Rattle.ap_tools.specs.declared.deques.thief.Stolen.TheVariants.{Got, Empty, Again}
use Rattle.ap_tools.specs.Ends.{ThiefView}
use Rattle.ap_tools.specs.Rule.{PermitsFew}

-- the rule permits a deque of at most one path beside what this thief has stolen
abbrev pub FewBeside : ThiefView → Type 0
FewBeside t = PermitsFew t.stolen

abbrev pub Stole : {W : Type 0} → ThiefView → Stolen W → ThiefView → Type 0
Stole old (Got p) new = new.stolen ≡ old.stolen ++ p ∷ []
Stole old Empty new = (new.stolen ≡ old.stolen) × FewBeside old
Stole old Again new = (new.stolen ≡ old.stolen) × ((old.known < new.known) ⊎ FewBeside old)
