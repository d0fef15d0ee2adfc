use Rattle.std.proofs.Common.{◌≡◌, List, [], ◌∷◌, ◌++◌, sym, ap, ap₂, ◌∙◌, append_assoc}
use Rattle.std.proofs.lemmas.Result.{on_ok_weaker}
use Rattle.std.specs.Prelude.{slice_get}
use Rattle.ap_defs.specs.declared.goals.Goal as code_goals
use Rattle.ap_defs.specs.declared.outcomes.Derivation as code_nodes
use Rattle.ap_defs.specs.declared.terms.Name.{Name}
use Rattle.ap_defs.specs.declared.terms.Term.{Term}
use Rattle.ap_defs.specs.Derivations.{derivation_of}
use Rattle.ap_defs.specs.Goals.{goal_of, program_of}
use Rattle.ap_defs.specs.Terms.{term_of}
use Rattle.ap_defs.specs.Types.{locals_of}
use Rattle.ap_spelling.specs.Spelt.{givens_of}
use Rattle.ap_spelling.specs.Words.{NominalGiven, name}
use Rattle.ap_steps.specs.Givens.{by_local, givens, var_given}
use Rattle.ap_steps.specs.Obligations.{givens_at, givens_left}
use Rattle.ap_steps.proofs.GivenLemmas.{given_next}
use Rattle.ap_steps.proofs.givens.look_at.Goals as goal

pub returns-in_ok-wait_at-in-Both-Both-clause-givens : goal.returns-in_ok-wait_at-in-Both-Both-clause-givens
returns-in_ok-wait_at-in-Both-Both-clause-givens c =
    let v = c.in-Both-Both in
    let cs = (program_of c.args.program.now).clauses in
    let ls = locals_of c.args.obligation.locals.now in
    let rest = givens_left cs c.args.waiting.now.items in
    let below : code_nodes.Derivation → code_goals.Goal Term → List NominalGiven = λ d g. givens cs ls (derivation_of d) (goal_of g) in
    let first = below v.first.value v.left.value in
    let second = below v.second.value v.right.value in
    let at : givens_at cs c.args.obligation ≡ first ++ second =
    ap₂ (λ (d : code_nodes.Derivation) (g : code_goals.Goal Term). givens cs ls (derivation_of d) (goal_of g)) v.is-0 v.is-1 in
    let later = c.in_ok-wait_at-in-Both-Both.ensures.givens cs ∙ ap (λ xs. xs ++ rest) (ap₂ below c.deref-in-Both-Both.ensures c.deref-in-Both-Both-2.ensures) in
    on_ok_weaker c.wait_at-in-Both-Both.result
    (λ h. ap (λ xs. givens_of c.args.given.now.items ++ xs)
    (h ∙ ap₂ (λ (xs ys : List NominalGiven). xs ++ ys) (ap₂ below c.deref-in-Both-Both-3.ensures c.deref-in-Both-Both-4.ensures) later
    ∙ sym (append_assoc first second rest) ∙ ap (λ xs. xs ++ rest) (sym at)))
    (c.wait_at-in-Both-Both.ensures.givens cs)

pub returns-in-Left-Either-clause-givens : goal.returns-in-Left-Either-clause-givens
returns-in-Left-Either-clause-givens c =
    let v = c.in-Left-Either in
    let cs = (program_of c.args.program.now).clauses in
    let ls = locals_of c.args.obligation.locals.now in
    let rest = givens_left cs c.args.waiting.now.items in
    let below : code_nodes.Derivation → code_goals.Goal Term → List NominalGiven = λ d g. givens cs ls (derivation_of d) (goal_of g) in
    let at : givens_at cs c.args.obligation ≡ below v.below.value v.left.value = ap₂ below v.is-0 v.is-1 in
    on_ok_weaker c.wait_at-in-Left-Either.result
    (λ h. ap (λ xs. givens_of c.args.given.now.items ++ xs) (h ∙ ap (λ xs. xs ++ rest) (ap₂ below c.deref-in-Left-Either.ensures c.deref-in-Left-Either-2.ensures ∙ sym at)))
    (c.wait_at-in-Left-Either.ensures.givens cs)

pub returns-in-Right-Either-clause-givens : goal.returns-in-Right-Either-clause-givens
returns-in-Right-Either-clause-givens c =
    let v = c.in-Right-Either in
    let cs = (program_of c.args.program.now).clauses in
    let ls = locals_of c.args.obligation.locals.now in
    let rest = givens_left cs c.args.waiting.now.items in
    let below : code_nodes.Derivation → code_goals.Goal Term → List NominalGiven = λ d g. givens cs ls (derivation_of d) (goal_of g) in
    let at : givens_at cs c.args.obligation ≡ below v.below.value v.right.value = ap₂ below v.is-0 v.is-1 in
    on_ok_weaker c.wait_at-in-Right-Either.result
    (λ h. ap (λ xs. givens_of c.args.given.now.items ++ xs) (h ∙ ap (λ xs. xs ++ rest) (ap₂ below c.deref-in-Right-Either.ensures c.deref-in-Right-Either-2.ensures ∙ sym at)))
    (c.wait_at-in-Right-Either.ensures.givens cs)

pub returns-in_ok-add_term_at-in-Exists-Exists-clause-givens : goal.returns-in_ok-add_term_at-in-Exists-Exists-clause-givens
returns-in_ok-add_term_at-in-Exists-Exists-clause-givens c =
    let v = c.in-Exists-Exists in
    let cs = (program_of c.args.program.now).clauses in
    let ls = locals_of c.args.obligation.locals.now in
    let rest = givens_left cs c.args.waiting.now.items in
    let below : code_nodes.Derivation → code_goals.Goal Term → List NominalGiven = λ d g. givens cs ls (derivation_of d) (goal_of g) in
    let of_term : Term → List NominalGiven = λ t. by_local (slice_get ls v.x.num) (var_given (term_of t)) in
    let own = of_term c.deref-in-Exists-Exists.result.now in
    let at : givens_at cs c.args.obligation ≡ own ++ below v.below.value v.goal.value =
    ap₂ below v.is-0 v.is-1 ∙ ap (λ (t : Term). of_term t ++ below v.below.value v.goal.value) (sym c.deref-in-Exists-Exists.ensures) in
    on_ok_weaker c.wait_at-in-Exists-Exists.result
    (λ h. given_next (givens_of c.args.given.now.items) (givens_of c.add_term_at.new.given.items) own (below v.below.value v.goal.value) rest
    (givens_left cs c.wait_at-in-Exists-Exists.new.waiting.items) c.in_ok-add_term_at-in-Exists-Exists.ensures
    (h ∙ ap (λ xs. xs ++ rest) (ap₂ below c.deref-in-Exists-Exists-2.ensures c.deref-in-Exists-Exists-3.ensures))
    ∙ ap (λ xs. givens_of c.args.given.now.items ++ (xs ++ rest)) (sym at))
    (c.wait_at-in-Exists-Exists.ensures.givens cs)

pub returns-in_ok-add_name_at-in-New-New-clause-givens : goal.returns-in_ok-add_name_at-in-New-New-clause-givens
returns-in_ok-add_name_at-in-New-New-clause-givens c =
    let v = c.in-New-New in
    let cs = (program_of c.args.program.now).clauses in
    let ls = locals_of c.args.obligation.locals.now in
    let rest = givens_left cs c.args.waiting.now.items in
    let below : code_nodes.Derivation → code_goals.Goal Term → List NominalGiven = λ d g. givens cs ls (derivation_of d) (goal_of g) in
    let of_name : Name → List NominalGiven = λ a. by_local (slice_get ls v.own.num) (λ w. name a w ∷ []) in
    let own = of_name c.deref-in-New-New.result.now in
    let at : givens_at cs c.args.obligation ≡ own ++ below v.below.value v.goal.value =
    ap₂ below v.is-0 v.is-1 ∙ ap (λ (a : Name). of_name a ++ below v.below.value v.goal.value) (sym c.deref-in-New-New.ensures) in
    on_ok_weaker c.wait_at-in-New-New.result
    (λ h. given_next (givens_of c.args.given.now.items) (givens_of c.add_name_at.new.given.items) own (below v.below.value v.goal.value) rest
    (givens_left cs c.wait_at-in-New-New.new.waiting.items) c.in_ok-add_name_at-in-New-New.ensures
    (h ∙ ap (λ xs. xs ++ rest) (ap₂ below c.deref-in-New-New-2.ensures c.deref-in-New-New-3.ensures))
    ∙ ap (λ xs. givens_of c.args.given.now.items ++ (xs ++ rest)) (sym at))
    (c.wait_at-in-New-New.ensures.givens cs)
