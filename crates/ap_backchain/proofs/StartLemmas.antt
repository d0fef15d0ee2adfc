-- A machine that has gone back to where it had nothing.
use Rattle.std.proofs.Common.{◌≡◌, ◌≤◌, List, [], ◌∷◌, ◌++◌, refl, sym, ap, subst, length, arith}
use Rattle.std.specs.Prelude.{take}
use Rattle.std.proofs.lemmas.List.{length-append}
use Rattle.ap_store.specs.Changes.{Change, empty, past_after, present_after}
use Rattle.ap_store.specs.Triples.{Triple}
use Rattle.ap_store.specs.Views.{changes, kinds, past, present}
use Rattle.ap_machine.specs.Machines.{track_of}
use Rattle.ap_machine.specs.Positions.{Position}
use Rattle.ap_machine.specs.Tracks.{IsSaveWithin, back_to, last_version, next_in, position_at}
use Rattle.ap_machine.specs.declared.machine.Machine.{Machine}
use Rattle.ap_machine.specs.declared.saves.Save.{Save}

first_version : (cs : List Change) (a : Triple) → take 1 (past_after cs a ++ present_after cs a ∷ []) ≡ a ∷ []
first_version [] a = refl
first_version (c ∷ cs) a = refl

abbrev pub beginning : Save
beginning = record { mark = record { place = 0 }; cells = 0; first = 0; path = 0; brought = 0 }

abbrev pub nothing_yet : Position
nothing_yet = record { waiting = []; path = []; state = record { bindings = []; conditions = []; kinds = [] }; brought = [] }

module _ (b : Machine) where
  versions_there : (back_to beginning (track_of b)).versions ≡ empty ∷ []
  versions_there = first_version (changes b.store) empty

  pub is_within : IsSaveWithin beginning (track_of b)
  is_within = record {
    mark = omega (arith, length-append (past b.store) (present b.store ∷ []));
    kinds = subst (λ (vs : List Triple). (last_version vs).next ≤ length (kinds b.store)) (sym versions_there) (omega arith);
    cells = omega arith;
    first = omega arith;
    path = omega arith;
    brought = omega arith;
  }

  pub position_there : position_at (back_to beginning (track_of b)) 0 ≡ nothing_yet
  position_there =
      ap (λ (vs : List Triple). record { waiting = []; path = []; state = record { bindings = (last_version vs).bindings; conditions = (last_version vs).conditions; kinds = take (last_version vs).next (kinds b.store) }; brought = [] }) versions_there

  pub next_there : next_in (back_to beginning (track_of b)) ≡ 0
  next_there = ap (λ (vs : List Triple). (last_version vs).next) versions_there
