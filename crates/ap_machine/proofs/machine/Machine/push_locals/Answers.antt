use Rattle.std.proofs.Common.{◌≡◌, List, [], sym, ap, ◌∙◌, append-nil, arith}
use Rattle.std.proofs.lemmas.List.{nil_from_length}
use Rattle.ap_defs.specs.Renaming.{local_vars}
use Rattle.ap_defs.specs.Types.{locals_of}
use Rattle.ap_defs.specs.declared.goals.Local.{Local}
use Rattle.ap_defs.specs.declared.terms.Var.{Var}
use Rattle.ap_theory.proofs.TermLemmas.{number_same}
use Rattle.ap_machine.specs.Machines.{position_of}
use Rattle.ap_machine.specs.Positions.{with_vars}
use Rattle.ap_machine.proofs.machine.Machine.push_locals.Goals as goal

pub returns-then-is_empty-clause-position : goal.returns-then-is_empty-clause-position
returns-then-is_empty-clause-position c =
    let p = position_of c.args.self.now in
    let n = number_same _ 0 (sym c.is_empty.ensures ∙ c.if-is_empty.true) in
    let e : c.args.locals.now ≡ [] = sym c.items.ensures ∙ nil_from_length c.items.result.now (omega (arith, n)) in
    sym (ap (λ (ls : List Local). with_vars (local_vars c.args.base (locals_of ls)) p) e ∙ ap (λ (xs : List Var). record p { brought = xs }) (append-nil p.brought))
