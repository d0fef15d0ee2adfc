use Rattle.std.proofs.Common.{◌≡◌, ◌∙◌, ◌∷◌, map, sym, ap, subst}
use Rattle.ap_defs.specs.Answers.{typed_var_of}
use Rattle.ap_defs.specs.Types.{constructor_of, type_of}
use Rattle.ap_defs.specs.Typing.{embedded}
use Rattle.ap_defs.specs.declared.terms.Var.{Var}
use Rattle.ap_ground.specs.TypedGroundings.{HaveInhabitants}
use Rattle.ap_property.specs.Stated.{given, picks_from}
use Rattle.ap_instance.specs.Tables.{term_beside}
use Rattle.ap_instance.proofs.TableLemmas.{next_pick}
use Rattle.ap_instance.proofs.picks.picks_of.Goals as goal

pub picking-preserved : goal.picking-preserved
picking-preserved c =
    let i = c.picking.invariant in
    let cs = map constructor_of c.args.picker.now.constructors.now in
    let n = c.args.first in
    let x = c.in-Some.field-0-0.now.0 in
    let ty = type_of c.in-Some.field-0-0.now.1 in
    let vs = map typed_var_of c.in-Some.others.now in
    let all = picks_from cs n (map typed_var_of c.args.vars.now) c.args.sorts.now.items in
    let list : map typed_var_of c.picking.rest.now ≡ (x, ty) ∷ vs =
    ap (map typed_var_of) c.in-Some.ensures.cases.0 in
    let before = subst (λ l. (y : Var) → term_beside c.picking.picks.vars.keys c.picking.picks.terms.items (λ z. embedded (given (picks_from cs n l c.picking.sorts.items).0 z)) y ≡ embedded (given all.0 y)) list i.terms in
    let sorts = c.in_ok-term.ensures.sorts in
    let terms = next_pick cs n x ty vs c.picking.sorts.items c.in_ok-term.term c.in_ok-term.ensures.term c.picking.picks.vars.keys c.add.new.self.vars.keys
    c.picking.picks.terms.items c.add.new.self.terms.items (given all.0) c.in_ok-add.ensures.added before in
    record {
      as_many = c.in_ok-add.ensures.as_many;
      inhabited = (subst (HaveInhabitants cs) list i.inhabited).1;
      terms = subst (λ ss. (y : Var) → term_beside c.add.new.self.vars.keys c.add.new.self.terms.items (λ z. embedded (given (picks_from cs n vs ss).0 z)) y ≡ embedded (given all.0 y)) (sym sorts) terms;
      sorts = ap (λ ss. (picks_from cs n vs ss).1) sorts ∙ sym (ap (λ l. (picks_from cs n l c.picking.sorts.items).1) list) ∙ i.sorts;
    }
