-- What was seen of the variables that were brought.
use Rattle.std.specs.Prelude.{◌≡◌, ◌≤◌, ◌<◌, not, List, filter, length, take, slice_index_or as get_or}
use Rattle.std.proofs.Props.{props}
use Rattle.ap_defs.specs.declared.terms.Var.{Var}
use Rattle.ap_store.specs.Changes.{empty}
use Rattle.ap_store.specs.Triples.{Triple}
use Rattle.ap_theory.specs.Variables.{is_bound}
use Rattle.ap_machine.specs.Brought.{vars_of_brought}
use Rattle.ap_machine.specs.declared.brought.Brought.{Brought}
use Rattle.ap_machine.specs.declared.looks.Look.{Look}

-- those of the variables of ranges that a version of a store leaves unbound
abbrev pub unbound_at : Triple → List Brought → List Var
unbound_at v bs = filter (λ x. not (is_bound x v.bindings)) (vars_of_brought bs)

-- among these versions of a store, and of these ranges: what was open of the first ranges at an earlier version
abbrev pub HasLooked : List Triple → List Brought → Look → Type 0
HasLooked vs bs l = (l.place < length vs) × (l.looked ≤ length bs) × (l.unbound.items ≡ unbound_at (get_or vs l.place empty) (take l.looked bs))

pub look_prop : (vs : List Triple) (bs : List Brought) (l : Look) → IsProp (HasLooked vs bs l)
look_prop vs bs l = hlevel props
