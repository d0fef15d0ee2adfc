use Rattle.std.proofs.Common.{◌≡◌, ◌++◌, ◌∙◌, [], ap, length, refl, rules, sym}
use Rattle.std.proofs.lemmas.List.{append-nil, nil_from_length}
use Rattle.std.specs.Prelude.{filter}
use Rattle.ap_defs.specs.Substitution.{under}
use Rattle.ap_perm.specs.Closures.{closure_term}
use Rattle.ap_store.specs.Triples.{Triple, is_on}
use Rattle.ap_store.specs.Views.{bindings_of, present}
use Rattle.ap_rules.proofs.WorkLemmas.{carried_bound, go_bound}
use Rattle.ap_equations.proofs.work.bind_var.Goals as goal
use Rattle.ap_rules.specs.declared.pairs.Work.{Work}

pub returns-clause-stage : goal.returns-clause-stage
returns-clause-stage c =
    let a = present c.args.store.now in
    let w = c.args.work.now in
    carried_bound a.bindings (bindings_of c.bind.new.self) c.args.x (under a.bindings (closure_term c.args.c)) w.equations.items w.equations.items w.problems.items w.problems.items c.requires.unbound
    (ap (λ (b : Triple). b.bindings) c.in_ok-taken.ensures.present) refl refl

pub returns-clause-goes_on : goal.returns-clause-goes_on
returns-clause-goes_on c =
    let a = present c.args.store.now in
    let w = c.args.work.now in
    let v : Work = record { equations = w.equations; problems = w.problems; taken = c.append.new.self } in
    let k : c.append.new.self.items ≡ w.taken.items ++ filter (is_on c.args.x) a.conditions = search rules in
    go_bound a (present c.bind.new.self) w v c.args.x (under a.bindings (closure_term c.args.c)) c.requires.unbound c.in_ok-taken.ensures.present refl k

pub returns-then-is_empty-clause-stage : goal.returns-then-is_empty-clause-stage
returns-then-is_empty-clause-stage c =
    let a = present c.args.store.now in
    let w = c.args.work.now in
    carried_bound a.bindings (bindings_of c.bind.new.self) c.args.x (under a.bindings (closure_term c.args.c)) w.equations.items w.equations.items w.problems.items w.problems.items c.requires.unbound
    (ap (λ (b : Triple). b.bindings) c.in_ok-taken.ensures.present) refl refl

pub returns-then-is_empty-clause-goes_on : goal.returns-then-is_empty-clause-goes_on
returns-then-is_empty-clause-goes_on c =
    let a = present c.args.store.now in
    let w = c.args.work.now in
    let n : length c.in_ok-taken.taken.items ≡ 0 = search rules in
    let e : filter (is_on c.args.x) a.conditions ≡ [] = sym c.in_ok-taken.ensures.taken ∙ nil_from_length c.in_ok-taken.taken.items n in
    go_bound a (present c.bind.new.self) w w c.args.x (under a.bindings (closure_term c.args.c)) c.requires.unbound c.in_ok-taken.ensures.present refl
    (sym (append-nil w.taken.items) ∙ ap (λ cs. w.taken.items ++ cs) (sym e))
