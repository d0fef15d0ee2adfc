use Rattle.std.proofs.Common.{◌≡◌, [], Some, length, map, sym, ap, ◌∙◌, ◌++◌, rules}
use Rattle.std.proofs.lemmas.List.{nil_from_length}
use Rattle.ap_defs.specs.Freshness.{add_conds}
use Rattle.ap_defs.specs.Unification.{problem_of, reduce_all}
use Rattle.ap_store.specs.Triples.{Triple}
use Rattle.ap_store.specs.Views.{present}
use Rattle.ap_store.specs.declared.store.Store.{Store}
use Rattle.ap_unify.proofs.FinishLemmas.{kept_collected}
use Rattle.ap_unify.proofs.WellLemmas.{well}
use Rattle.ap_unify.proofs.finish.finish_met.Goals as goal
use Rattle.ap_unify.proofs.finish.finish_met.Goals.{then-not-is_empty+in_ok-add-in-Some, else-not-is_empty}
use Rattle.ap_unify.specs.Finishing.{items_in}
use Rattle.ap_rules.specs.Work.{problems_met}

pub returns-after-not-is_empty-clause-conditions : goal.returns-after-not-is_empty-clause-conditions
returns-after-not-is_empty-clause-conditions c =
    let a = present c.args.store.now in
    let o = reduce_all a.bindings (map problem_of c.args.work.now.taken.items ++ problems_met c.args.work.now) in
    let e = kept_collected a.conditions (well c.args.store.now).set c.in-Some.conds.items o (c.in_ok-reduce_met.ensures ∙ ap items_in c.in-Some.is) in
    elim c.if-not-is_empty.branch [
      | then-not-is_empty+in_ok-add-in-Some w ↦
          e ∙ ap Some (sym (ap (λ (r : Store). (present r).conditions) w.store-is ∙ ap (λ (b : Triple). b.conditions) w.in_ok-add-in-Some.ensures.present ∙ ap (λ cs. add_conds cs a.conditions) w.deref.ensures.value))
      | else-not-is_empty w ↦
          let none : length c.in-Some.conds.items ≡ 0 = search rules in
          let empty : c.in-Some.conds.items ≡ [] = nil_from_length c.in-Some.conds.items none in
          e ∙ ap Some (ap (λ cs. add_conds cs a.conditions) empty ∙ sym (ap (λ (r : Store). (present r).conditions) w.store-is))
    ]
