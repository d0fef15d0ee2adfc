use Rattle.std.proofs.Common.{◌≡◌, ◌∷◌, [], ℕ, List, sym, subst}
use Rattle.std.specs.Prelude.{Some}
use Rattle.std.proofs.lemmas.Result.{IfOk-weaker}
use Rattle.ap_defs.specs.Answers.{found, outs_at}
use Rattle.ap_backchain.specs.Problems.{clauses_in}
use Rattle.ap_checks.specs.Traces.{traced_query}
use Rattle.ap_derive.specs.Derived.{LeadsOn, derived}
use Rattle.ap_derive.proofs.DerivedLemmas.{branch_derived, branch_leads}
use Rattle.ap_derive.proofs.derivations.derive.Goals as goal

pub derive_along-requires-clause-leads : goal.derive_along-requires-clause-leads
derive_along-requires-clause-leads c = λ q asked.
    let p = c.args.p.now in
    subst (λ (l : List ℕ). LeadsOn (clauses_in p) p.depth q l) (sym c.path.ensures) (branch_leads p c.args.branch.now c.requires.of c.requires.answer q asked)

pub returns-clause-derivation : goal.returns-clause-derivation
returns-clause-derivation c =
    let p = c.args.p.now in
    IfOk-weaker c.derive_along.result _ _
    (λ d h q asked.
    branch_derived p c.args.branch.now c.requires.of c.requires.answer q asked (derived d)
    (λ r leads. h q r asked (subst (λ (l : List ℕ). traced_query (clauses_in p) p.depth q l ≡ Some r) (sym c.path.ensures) leads)))
    c.derive_along.ensures.derivation

pub returns-clause-checks : goal.returns-clause-checks
returns-clause-checks c =
    let p = c.args.p.now in
    IfOk-weaker c.derive_along.result _ _
    (λ d h q a asked only. h q a asked (subst (λ (l : List ℕ). outs_at (clauses_in p) p.depth q l ≡ found l a ∷ []) (sym c.path.ensures) only))
    c.derive_along.ensures.checks

pub returns-clause-grown : goal.returns-clause-grown
returns-clause-grown c = c.derive_along.ensures.grown
