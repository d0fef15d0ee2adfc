use Rattle.std.proofs.Common.{◌≡◌, ℕ, ◌+◌, [], ◌++◌, length, ap, ◌∙◌, sym, subst, arith}
use Rattle.std.proofs.lemmas.List.{length-map}
use Rattle.ap_defs.specs.Goals.{NominalGoal, goal_of, query_of}
use Rattle.ap_defs.specs.Renaming.{IsGoalBelow, rename_goal}
use Rattle.ap_defs.specs.Resolution.{State, first_state, kinds_of}
use Rattle.ap_defs.specs.Types.{local_of, locals_of}
use Rattle.ap_store.specs.Triples.{Triple, with_next}
use Rattle.ap_store.specs.Views.{kinds, present}
use Rattle.ap_store.specs.declared.store.Store.{Store}
use Rattle.ap_machine.specs.Machines.{next_of}
use Rattle.ap_machine.specs.Positions.{Position, with_goal}
use Rattle.ap_machine.specs.Views.{state_in}
use Rattle.ap_turns.proofs.FitLemmas.{goal_zero}
use Rattle.ap_backchain.proofs.run.beginning.Goals as goal

pub push_goal-requires : goal.push_goal-requires
push_goal-requires c =
    let locals = c.args.query.now.locals in
    let given : next_of c.of-machine.result ≡ (present c.make.new.self).next = ap (λ (s : Store). (present s).next) c.of-machine.ensures.store in
    let made : (present c.make.new.self).next ≡ (present c.new-store.result).next + length c.items.result.now = ap (λ (v : Triple). v.next) c.in_ok-make.ensures.present in
    let none : (present c.new-store.result).next ≡ 0 = ap (λ (v : Triple). v.next) c.new-store.ensures.present in
    let same : length c.items.result.now ≡ length locals = ap length c.items.ensures in
    let many : length (locals_of locals) ≡ length locals = length-map locals local_of in
    let all : length (locals_of locals) ≡ next_of c.of-machine.result = omega (arith, given, made, none, same, many) in
    subst (λ (g : NominalGoal). IsGoalBelow (next_of c.of-machine.result) g) (sym (goal_zero (goal_of c.args.query.now.goal)))
    (subst (λ (n : ℕ). IsGoalBelow n (goal_of c.args.query.now.goal)) all c.requires)

pub returns : goal.returns
returns c =
    let store = c.make.new.self in
    let depth = c.args.depth in
    let begins : state_in store ≡ first_state (query_of c.args.query.now) =
    ap (λ (v : Triple). record { bindings = v.bindings; conditions = v.conditions; kinds = kinds store })
    (c.in_ok-make.ensures.present ∙ ap (λ (v : Triple). with_next (v.next + length c.items.result.now) v) c.new-store.ensures.present)
    ∙ ap (λ ks. record { bindings = []; conditions = []; kinds = ks })
    (c.in_ok-make.ensures.kinds ∙ ap (λ ks. ks ++ kinds_of (locals_of c.items.result.now)) c.new-store.ensures.kinds
    ∙ ap (λ ls. kinds_of (locals_of ls)) c.items.ensures) in
    c.in_ok-push_goal.ensures.position
    ∙ ap (λ (p : Position). with_goal depth (rename_goal 0 (goal_of c.args.query.now.goal)) p) c.of-machine.ensures.position
    ∙ ap (λ (g : NominalGoal). with_goal depth g (record { waiting = []; path = []; state = state_in store; brought = [] })) (goal_zero (goal_of c.args.query.now.goal))
    ∙ ap (λ (s : State). with_goal depth (goal_of c.args.query.now.goal) (record { waiting = []; path = []; state = s; brought = [] })) begins
