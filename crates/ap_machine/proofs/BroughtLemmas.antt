-- Ranges of variables, one after the other.
use Rattle.std.proofs.Common.{◌≡◌, List, [], ◌∷◌, ◌++◌, sym, ap, ◌∙◌, append_assoc, append-nil}
use Rattle.std.proofs.lemmas.List.Elements.{filter-append}
use Rattle.std.specs.Prelude.{not}
use Rattle.ap_defs.specs.Resolution.{State}
use Rattle.ap_defs.specs.declared.terms.Var.{Var}
use Rattle.ap_theory.specs.Variables.{is_bound}
use Rattle.ap_machine.specs.Brought.{vars_of_brought, vars_of_one}
use Rattle.ap_machine.specs.Unbound.{unbound_vars}
use Rattle.ap_machine.specs.declared.brought.Brought.{Brought}

-- one more range
pub brought_more : (bs : List Brought) (b : Brought) → vars_of_brought (bs ++ b ∷ []) ≡ vars_of_brought bs ++ vars_of_one b
brought_more [] b = append-nil (vars_of_one b)
brought_more (c ∷ bs) b = ap (λ xs. vars_of_one c ++ xs) (brought_more bs b) ∙ sym (append_assoc (vars_of_one c) (vars_of_brought bs) (vars_of_one b))

-- the unbound ones of two lists
pub unbound_more : (s : State) (xs ys : List Var) → unbound_vars s (xs ++ ys) ≡ unbound_vars s xs ++ unbound_vars s ys
unbound_more s xs ys = filter-append (λ x. not (is_bound x s.bindings)) xs ys
