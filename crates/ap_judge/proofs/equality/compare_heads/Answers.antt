use Rattle.std.proofs.Common.{◌≡◌, sym, ap, ap₂, subst, ◌∙◌}
use Rattle.std.proofs.lemmas.Result.{IfOk-weaker, on_ok_weaker}
use Rattle.ap_defs.specs.Terms.{susp}
use Rattle.ap_judge.specs.Comparisons.{are_alike, mark_of, compared_size}
use Rattle.ap_judge.specs.Closures.{head_term, scoped_term}
use Rattle.ap_judge.specs.Tables.{IsHeadIn}
use Rattle.ap_judge.proofs.ComparisonLemmas.{alike, some_size}
use Rattle.ap_judge.proofs.StackLemmas.{tested_leaf_there}
use Rattle.ap_judge.proofs.equality.compare_heads.Goals as goal

-- a term is what its head is
pub returns-in-Unit-clause-tested : goal.returns-in-Unit-clause-tested
returns-in-Unit-clause-tested c =
    let ds = c.args.answer.now.conds in
    let ss = c.args.walk.now.binders.pairs.items in
    tested_leaf_there mark_of (are_alike ds) compared_size c.is_unit.result c.args.at.now ss c.args.walk.now.pending.items c.requires.within
    (c.is_unit.ensures ds ss ∙ ap₂ (alike ds ss) (ap head_term (sym c.in-Unit.is) ∙ c.in_ok-left.ensures.term) c.in_ok-right.ensures.term) (some_size (scoped_term c.args.at.now.left))

pub returns-in-Name-clause-tested : goal.returns-in-Name-clause-tested
returns-in-Name-clause-tested c =
    let ds = c.args.answer.now.conds in
    let ss = c.args.walk.now.binders.pairs.items in
    tested_leaf_there mark_of (are_alike ds) compared_size c.is_name_alike.result c.args.at.now ss c.args.walk.now.pending.items c.requires.within
    (c.is_name_alike.ensures ds ∙ ap₂ (alike ds ss) (ap head_term (sym c.in-Name.is) ∙ c.in_ok-left.ensures.term) c.in_ok-right.ensures.term) (some_size (scoped_term c.args.at.now.left))

pub returns-in-Susp-clause-tested : goal.returns-in-Susp-clause-tested
returns-in-Susp-clause-tested c =
    let ds = c.args.answer.now.conds in
    let ss = c.args.walk.now.binders.pairs.items in
    IfOk-weaker c.is_suspension_alike.result _ _
    (λ yes h.
    tested_leaf_there mark_of (are_alike ds) compared_size yes c.args.at.now ss c.args.walk.now.pending.items c.requires.within
    (h ∙ ap₂ (alike ds ss) (ap (λ p. susp p c.in-Susp.x) c.deref.ensures.value ∙ ap head_term (sym c.in-Susp.is) ∙ c.in_ok-left.ensures.term) c.in_ok-right.ensures.term) (some_size (scoped_term c.args.at.now.left)))
    c.is_suspension_alike.ensures

pub returns-in-Pair-clause-tested : goal.returns-in-Pair-clause-tested
returns-in-Pair-clause-tested c =
    IfOk-weaker c.compare_pairs.result _ _
    (λ yes h. h c.args.answer.now.conds c.args.at.now (sym c.in_ok-left.ensures.term ∙ ap head_term c.in-Pair.is) (sym c.in_ok-right.ensures.term)) c.compare_pairs.ensures.tested

pub returns-in-App-clause-tested : goal.returns-in-App-clause-tested
returns-in-App-clause-tested c =
    IfOk-weaker c.compare_apps.result _ _
    (λ yes h. h c.args.answer.now.conds c.args.at.now (sym c.in_ok-left.ensures.term ∙ ap head_term c.in-App.is) (sym c.in_ok-right.ensures.term)) c.compare_apps.ensures.tested

pub returns-in-Abs-clause-tested : goal.returns-in-Abs-clause-tested
returns-in-Abs-clause-tested c =
    IfOk-weaker c.compare_abstractions.result _ _
    (λ yes h. h c.args.answer.now.conds c.args.at.now (sym c.in_ok-left.ensures.term ∙ ap head_term c.in-Abs.is) (sym c.in_ok-right.ensures.term)) c.compare_abstractions.ensures.tested

-- the parts of heads are of the table
pub returns-in-Pair-clause-of : goal.returns-in-Pair-clause-of
returns-in-Pair-clause-of c =
    on_ok_weaker c.compare_pairs.result
    (λ f ts h k. let l = subst (IsHeadIn ts) c.in-Pair.is (c.in_ok-left.ensures.of ts h.0) in f ts l.0 l.1 (c.in_ok-right.ensures.of ts h.1) k) c.compare_pairs.ensures.of

pub returns-in-App-clause-of : goal.returns-in-App-clause-of
returns-in-App-clause-of c =
    on_ok_weaker c.compare_apps.result (λ f ts h k. f ts (subst (IsHeadIn ts) c.in-App.is (c.in_ok-left.ensures.of ts h.0)) (c.in_ok-right.ensures.of ts h.1) k) c.compare_apps.ensures.of

pub returns-in-Abs-clause-of : goal.returns-in-Abs-clause-of
returns-in-Abs-clause-of c =
    on_ok_weaker c.compare_abstractions.result (λ f ts h k. f ts (subst (IsHeadIn ts) c.in-Abs.is (c.in_ok-left.ensures.of ts h.0)) (c.in_ok-right.ensures.of ts h.1) k) c.compare_abstractions.ensures.of
