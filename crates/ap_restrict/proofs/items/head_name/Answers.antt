use Rattle.std.proofs.Common.{map, ap, sym, ◌∙◌}
use Rattle.std.specs.Prelude.{count_by}
use Rattle.ap_defs.specs.RawTerms.{raw_of}
use Rattle.ap_defs.specs.Terms.{term_of}
use Rattle.ap_defs.specs.Types.{constructor_of, locals_of}
use Rattle.ap_defs.specs.Goals.{clause_over, goal_of}
use Rattle.ap_program.specs.CarryingOut.{carried_out, map_clause}
use Rattle.ap_restrict.specs.Heads.{is_free_name}
use Rattle.ap_restrict.proofs.ItemLemmas.{carried_result}
use Rattle.ap_restrict.proofs.NameLemmas.{none_unfresh}
use Rattle.ap_restrict.proofs.items.head_name.Goals as goal

pub returns-then-count_free_names-eq0 : goal.returns-then-count_free_names-eq0
returns-then-count_free_names-eq0 c =
    none_unfresh (map constructor_of c.args.setting.now.sig.now.constructors) (map_clause carried_out (clause_over raw_of c.args.clause.now)) (locals_of c.args.clause.now.locals)
    (ap (λ ls. count_by is_free_name (locals_of ls)) (sym c.items.ensures) ∙ sym c.count_free_names.ensures ∙ c.if-count_free_names-eq0.true)

pub returns : goal.returns
returns c =
    carried_result (map constructor_of c.args.setting.now.sig.now.constructors) (clause_over raw_of c.args.clause.now) (map term_of c.items-3.result.now) (goal_of c.in_ok-body.body)
    (locals_of c.items-4.result.now) c.first_not_fresh.result
    (ap (map term_of) c.items-3.ensures ∙ c.in_ok-args.ensures ∙ ap (λ ts. map carried_out (map raw_of ts)) c.items-2.ensures) c.in_ok-body.ensures (ap locals_of c.items-4.ensures)
    c.first_not_fresh.ensures
