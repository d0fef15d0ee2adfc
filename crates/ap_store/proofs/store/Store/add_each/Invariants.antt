use Rattle.std.proofs.Common.{◌≡◌, drop}
use Rattle.ap_store.specs.Triples.{IsPrefixOf, with_conditions}
use Rattle.ap_store.specs.Views.{kinds, present, versions}
use Rattle.ap_store.proofs.store.Store.add_each.Given as goal

-- the later ones are added
abbrev pub invariant-adding : goal.invariant-adding
invariant-adding l = record {
  present : present l.self ≡ with_conditions (drop l.i l.conds) (present l.initial.self);
  past : IsPrefixOf (versions l.initial.self) (versions l.self);
  kinds : kinds l.self ≡ kinds l.initial.self;
}
