use Rattle.std.proofs.Common.{◌≡◌, ℕ, ◌+◌, List, [], ◌++◌, length, ap, ◌∙◌, sym, subst, arith}
use Rattle.std.proofs.lemmas.List.{length-map}
use Rattle.ap_defs.specs.Goals.{NominalGoal, goal_of, query_of}
use Rattle.ap_defs.specs.Renaming.{IsGoalBelow, rename_goal}
use Rattle.ap_defs.specs.Resolution.{State, first_state, kinds_of}
use Rattle.ap_defs.specs.Types.{local_of, locals_of}
use Rattle.ap_store.specs.Triples.{Triple}
use Rattle.ap_store.specs.Views.{kinds, present, versions}
use Rattle.ap_machine.specs.Below.{AreWaitingBelow}
use Rattle.ap_machine.specs.Looks.{HasLooked}
use Rattle.ap_machine.specs.Machines.{position_of}
use Rattle.ap_machine.specs.Positions.{Position, with_goal}
use Rattle.ap_machine.specs.Stacks.{waiting_in}
use Rattle.ap_machine.specs.Views.{state_in}
use Rattle.ap_machine.proofs.LookLemmas.{look_on}
use Rattle.ap_turns.proofs.FitLemmas.{goal_zero}
use Rattle.ap_turns.proofs.StoreTurnLemmas.{waiting_kept}
use Rattle.ap_backchain.proofs.StartLemmas.{is_within, next_there, nothing_yet, position_there}
use Rattle.ap_backchain.proofs.run.machine_again.Goals as goal

pub go_back-requires-clause-within : goal.go_back-requires-clause-within
go_back-requires-clause-within c = is_within c.args.machine

pub invariant_of-machine : goal.invariant_of-machine
invariant_of-machine c =
    let gone = c.go_back.new.self in
    let same = c.in_err-make.ensures.unchanged in
    record {
      seen = subst (λ (vs : List Triple). HasLooked vs gone.brought.items gone.look) (sym same.0) gone.seen;
      below = waiting_kept gone.store c.make.new.self (waiting_in gone.goals) same.1 gone.below;
    }

pub invariant_of-machine-2 : goal.invariant_of-machine-2
invariant_of-machine-2 c =
    let gone = c.go_back.new.self in
    let there : position_of gone ≡ nothing_yet = c.go_back.ensures.position ∙ position_there c.args.machine in
    record {
      seen = look_on (versions gone.store) (versions c.make.new.self) gone.brought.items gone.look c.in_ok-make.ensures.past gone.seen;
      below = subst (λ ws. AreWaitingBelow (present c.make.new.self).next ws) (sym (ap (λ (p : Position). p.waiting) there)) tt;
    }

pub push_goal-requires : goal.push_goal-requires
push_goal-requires c =
    let locals = c.args.query.now.locals in
    let gone = c.go_back.new.self in
    let n = (present c.make.new.self).next in
    let none : (present gone.store).next ≡ 0 = c.go_back.ensures.next ∙ next_there c.args.machine in
    let made : n ≡ (present gone.store).next + length c.items.result.now = ap (λ (v : Triple). v.next) c.in_ok-make.ensures.present in
    let same : length c.items.result.now ≡ length locals = ap length c.items.ensures in
    let many : length (locals_of locals) ≡ length locals = length-map locals local_of in
    let all : length (locals_of locals) ≡ n = omega (arith, made, none, same, many) in
    subst (λ (g : NominalGoal). IsGoalBelow n g) (sym (goal_zero (goal_of c.args.query.now.goal)))
    (subst (λ (m : ℕ). IsGoalBelow m (goal_of c.args.query.now.goal)) all c.requires)

pub returns : goal.returns
returns c =
    let gone = c.go_back.new.self in
    let store = c.make.new.self in
    let depth = c.args.depth in
    let query = c.args.query.now in
    let there : position_of gone ≡ nothing_yet = c.go_back.ensures.position ∙ position_there c.args.machine in
    let none : (present gone.store).next ≡ 0 = c.go_back.ensures.next ∙ next_there c.args.machine in
    let begins : state_in store ≡ first_state (query_of query) =
    ap (λ (v : Triple). record { bindings = v.bindings; conditions = v.conditions; kinds = kinds store }) c.in_ok-make.ensures.present
    ∙ ap (λ ks. record { bindings = (present gone.store).bindings; conditions = (present gone.store).conditions; kinds = ks }) c.in_ok-make.ensures.kinds
    ∙ ap (λ (s : State). record { bindings = s.bindings; conditions = s.conditions; kinds = s.kinds ++ kinds_of (locals_of c.items.result.now) }) (ap (λ (p : Position). p.state) there)
    ∙ ap (λ ls. record { bindings = []; conditions = []; kinds = kinds_of (locals_of ls) }) c.items.ensures in
    c.in_ok-push_goal.ensures.position
    ∙ ap (λ (p : Position). with_goal depth (rename_goal 0 (goal_of query.goal)) (record { waiting = p.waiting; path = p.path; state = state_in store; brought = p.brought })) there
    ∙ ap (λ (g : NominalGoal). with_goal depth g (record { waiting = []; path = []; state = state_in store; brought = [] })) (goal_zero (goal_of query.goal))
    ∙ ap (λ (s : State). with_goal depth (goal_of query.goal) (record { waiting = []; path = []; state = s; brought = [] })) begins
