use Rattle.std.proofs.Common.{sym, ap, ◌∙◌}
use Rattle.ap_defs.specs.RawTerms.{raw_of}
use Rattle.ap_defs.specs.Goals.{clause_over}
use Rattle.ap_trees.specs.declared.trees.Form.{Form}
use Rattle.ap_trees.specs.Trees.{form_of}
use Rattle.ap_scopes.specs.Flaws.{item_flaw}
use Rattle.ap_scopes.specs.Views.{declared_of}
use Rattle.ap_typecheck.proofs.Refusals.{first_is_none, not_redeclared}
use Rattle.ap_typecheck.proofs.items.add_item.Goals as goal

pub declare_name_type-requires-clause-new : goal.declare_name_type-requires-clause-new
declare_name_type-requires-clause-new c = not_redeclared _ (ap (λ (u : Form). item_flaw (declared_of c.args.state.now.declared) (form_of u)) (sym c.in-NameType.is) ∙ c.requires.flawless)

pub declare_data_type-requires-clause-new : goal.declare_data_type-requires-clause-new
declare_data_type-requires-clause-new c = not_redeclared _ (ap (λ (u : Form). item_flaw (declared_of c.args.state.now.declared) (form_of u)) (sym c.in-DataType.is) ∙ c.requires.flawless)

pub declare_constructor-requires-clause-new : goal.declare_constructor-requires-clause-new
declare_constructor-requires-clause-new c = not_redeclared _ (first_is_none _ _ (ap (λ (u : Form). item_flaw (declared_of c.args.state.now.declared) (form_of u)) (sym c.in-Constructor.is) ∙ c.requires.flawless))

pub declare_predicate-requires-clause-new : goal.declare_predicate-requires-clause-new
declare_predicate-requires-clause-new c = not_redeclared _ (first_is_none _ _ (ap (λ (u : Form). item_flaw (declared_of c.args.state.now.declared) (form_of u)) (sym c.in-Predicate.is) ∙ c.requires.flawless))

pub returns-in_ok-declare_name_type-in-NameType-clause-made : goal.returns-in_ok-declare_name_type-in-NameType-clause-made
returns-in_ok-declare_name_type-in-NameType-clause-made c = rw c.in-NameType.is c.in_ok-declare_name_type-in-NameType.ensures.made

pub returns-in_ok-declare_data_type-in-DataType-clause-made : goal.returns-in_ok-declare_data_type-in-DataType-clause-made
returns-in_ok-declare_data_type-in-DataType-clause-made c = rw c.in-DataType.is c.in_ok-declare_data_type-in-DataType.ensures.made

pub returns-in_ok-declare_constructor-in-Constructor-clause-made : goal.returns-in_ok-declare_constructor-in-Constructor-clause-made
returns-in_ok-declare_constructor-in-Constructor-clause-made c = rw (c.in-Constructor.is, sym c.items.ensures) c.in_ok-declare_constructor-in-Constructor.ensures.made

pub returns-in_ok-declare_predicate-in-Predicate-clause-made : goal.returns-in_ok-declare_predicate-in-Predicate-clause-made
returns-in_ok-declare_predicate-in-Predicate-clause-made c = rw (c.in-Predicate.is, sym c.items-in-Predicate.ensures) c.in_ok-declare_predicate-in-Predicate.ensures.made

pub returns-in_ok-put_clause-in-Clause-clause-made : goal.returns-in_ok-put_clause-in-Clause-clause-made
returns-in_ok-put_clause-in-Clause-clause-made c =
    let clause = clause_over raw_of c.in_ok-clause-in-Clause.clause in
    rw c.in-Clause.is (clause, c.in_ok-clause-in-Clause.ensures.ok, c.in_ok-put_clause-in-Clause.ensures.made)
