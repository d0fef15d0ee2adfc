use Rattle.std.proofs.Common.{◌≤◌, get_or, sym, ap, ◌∙◌, arith, inl, inr, length}
use Rattle.ap_program.specs.FreeLocals.{free_sort}
use Rattle.ap_defs.specs.declared.goals.Local.{Local}
use Rattle.ap_defs.specs.Types.{local_of}
use Rattle.ap_judge.proofs.PlaceLemmas.{get_or_any, get_or_none, name_absent, name_at, name_past}
use Rattle.ap_judge.proofs.identifiers.Identifiers.name_for.Goals as goal

pub returns-in_default : goal.returns-in_default
returns-in_default c =
    let past : length c.args.self.now ≤ c.args.b.num = c.in_default.ensures in
    sym (name_past c.args.self.now 0 c.args.names.now c.args.b (omega (arith, past)))

pub returns-then-place-names : goal.returns-then-place-names
returns-then-place-names c =
    let ls = c.args.self.now in
    let d = c.in-Some.local.now in
    let there = c.in-Some.ensures in
    sym (name_at ls 0 0 0 c.args.b.num c.args.names.now c.args.b d (omega arith) there.0 (ap (λ (l : Local). free_sort (local_of l)) (sym there.1) ∙ c.has_sort.ensures.yes c.if-has_sort.true)
    ∙ ap (λ i. get_or c.args.names.now i c.args.b) (sym there.2)
    ∙ get_or_any c.args.names.now c.in-Some.place c.args.b (record { sort = 0; num = 0 }) c.if-place-names.true)

pub returns-else-has_sort : goal.returns-else-has_sort
returns-else-has_sort c =
    let ls = c.args.self.now in
    let d = c.in-Some.local.now in
    let there = c.in-Some.ensures in
    elim c.else-has_sort.either [
      | inl e ↦
          sym (name_at ls 0 0 0 c.args.b.num c.args.names.now c.args.b d (omega arith) there.0 (ap (λ (l : Local). free_sort (local_of l)) (sym there.1) ∙ c.has_sort.ensures.yes e.0)
          ∙ ap (λ i. get_or c.args.names.now i c.args.b) (sym there.2) ∙ get_or_none c.args.names.now c.in-Some.place c.args.b e.1)
      | inr e ↦
          sym (name_absent ls 0 c.args.b.num c.args.names.now c.args.b d (omega arith)
          (λ l s g. c.has_sort.ensures.no e s (ap (λ (l : Local). free_sort (local_of l)) there.1 ∙ g)))
    ]
