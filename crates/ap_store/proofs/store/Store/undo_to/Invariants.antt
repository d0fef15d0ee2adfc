use Rattle.std.proofs.Common.{◌≡◌, ◌≤◌, length, take}
use Rattle.ap_store.specs.Triples.{IsPrefixOf}
use Rattle.ap_store.specs.Views.{kinds, past, present, versions}
use Rattle.ap_store.proofs.store.Store.undo_to.Given as goal

-- the versions so far are a prefix of those at the beginning
abbrev pub invariant-undoing : goal.invariant-undoing
invariant-undoing l = record {
  versions : IsPrefixOf (versions l.self) (versions l.initial.self);
  kinds : kinds l.self ≡ take (present l.self).next (kinds l.initial.self);
  place : l.m.place ≤ length (past l.self);
}

abbrev pub decreases-undoing : goal.decreases-undoing
decreases-undoing l = length (past l.self)
