use Rattle.std.proofs.Common.{ap, sym, ◌∙◌}
use Rattle.std.specs.Prelude.{Some}
use Rattle.ap_perm.specs.Closures.{closure_term}
use Rattle.ap_perm.specs.declared.closures.Closure.{Closure}
use Rattle.ap_store.specs.Marks.{is_ground_value}
use Rattle.ap_store.specs.Slots.{value_term}
use Rattle.ap_store.proofs.slots.found_value.Goals as goal

pub returns-in-Plain-clause-found : goal.returns-in-Plain-clause-found
returns-in-Plain-clause-found c = ap value_term c.in-Plain.is

pub returns-in-Moved-clause-found : goal.returns-in-Moved-clause-found
returns-in-Moved-clause-found c = let (p, e) = c.bare_of.ensures in (p, ap value_term c.in-Moved.is ∙ ap (λ (d : Closure). Some (closure_term d)) (sym c.deref.ensures) ∙ ap Some e)

pub returns-in-Ground-clause-found : goal.returns-in-Ground-clause-found
returns-in-Ground-clause-found c = ap value_term c.in-Ground.is

pub returns-in-Unbound-clause-mark : goal.returns-in-Unbound-clause-mark
returns-in-Unbound-clause-mark c = sym (ap is_ground_value c.in-Unbound.is)

pub returns-in-Plain-clause-mark : goal.returns-in-Plain-clause-mark
returns-in-Plain-clause-mark c = sym (ap is_ground_value c.in-Plain.is)

pub returns-in-Ground-clause-mark : goal.returns-in-Ground-clause-mark
returns-in-Ground-clause-mark c = sym (ap is_ground_value c.in-Ground.is)

pub returns-in-Moved-clause-mark : goal.returns-in-Moved-clause-mark
returns-in-Moved-clause-mark c = sym (ap is_ground_value c.in-Moved.is)
