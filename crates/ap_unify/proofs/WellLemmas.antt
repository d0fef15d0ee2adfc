-- What holds of each store, in the words of the laws of search.
use Rattle.std.proofs.Common.{◌≡◌, [], ◌∷◌}
use Rattle.ap_defs.specs.Freshness.{Conds}
use Rattle.ap_defs.specs.Substitution.{under}
use Rattle.ap_defs.specs.Terms.{NominalTerm}
use Rattle.ap_perm.specs.Lookups.{carried_out}
use Rattle.ap_search.specs.FitStates as search
use Rattle.ap_store.proofs.AscendingLemmas.{ascending_is_set}
use Rattle.ap_store.proofs.StoreLemmas.{carried_out_under, well_formed}
use Rattle.ap_store.specs.Triples.{AreOnUnbound, Triple}
use Rattle.ap_store.specs.Views.{bindings_of, present, rank, raw_bound}
use Rattle.ap_store.specs.WellFormed.{IsWellFormed}
use Rattle.ap_store.specs.declared.store.Store.{Store}
use Rattle.ap_theory.specs.Variables.{EachCond, IsUnbound}
use Rattle.ap_unify.proofs.SolutionLemmas.{IsWell}

conds_below : (a : Triple) (cs : Conds) → AreOnUnbound a cs → search.AreCondsBelow a.next cs
conds_below a [] h = tt
conds_below a (c ∷ cs) h = ((h.0.0, h.0.1), conds_below a cs h.1)

conds_unbound : (a : Triple) (cs : Conds) → AreOnUnbound a cs → EachCond (IsUnbound a.bindings) cs
conds_unbound a [] h = tt
conds_unbound a (c ∷ cs) h = (h.0.2, conds_unbound a cs h.1)

is_well : (a : Triple) → IsWellFormed a → IsWell a
is_well a h = record {
  bindings = h.below;
  conditions = conds_below a a.conditions h.unbound;
  idempotent = h.idempotent;
  unbound = conds_unbound a a.conditions h.unbound;
  set = ascending_is_set a.conditions h.ascending;
}

pub well : (s : Store) → IsWell (present s)
well s = is_well (present s) (well_formed s)

-- with every binding followed, a term is what it is under the bindings
pub looked : (s : Store) (t : NominalTerm) → carried_out (raw_bound s) (rank s) t ≡ under (bindings_of s) t
looked = carried_out_under
