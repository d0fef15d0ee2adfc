use Rattle.std.proofs.Common.{◌≡◌, ◌≤◌, false, true, get_or, MatchOption, sym, ap, subst, ◌∙◌, arith, length}
use Rattle.ap_program.specs.FreeLocals.{is_free_var}
use Rattle.ap_defs.specs.declared.goals.Local.{Local}
use Rattle.ap_defs.specs.Terms.{NominalTerm, unit}
use Rattle.ap_defs.specs.Types.{local_of}
use Rattle.ap_judge.specs.Cited.{cited_term, cited_terms}
use Rattle.ap_judge.proofs.PlaceLemmas.{var_absent, var_at, var_past}
use Rattle.ap_judge.proofs.identifiers.Identifiers.term_for.Goals as goal

pub returns-in_err-local-clause-term : goal.returns-in_err-local-clause-term
returns-in_err-local-clause-term c =
    let past : length c.args.self.now ≤ c.args.x.num = c.in_err-local.ensures in
    rw c.from_residual.ensures (var_past c.args.self.now 0 (cited_terms c.args.given) c.args.x (omega (arith, past)))

pub returns-then-not-is_variable-clause-term : goal.returns-then-not-is_variable-clause-term
returns-then-not-is_variable-clause-term c =
    let ls = c.args.self.now in
    let d = c.in_ok-local.local.now in
    let there = c.in_ok-local.ensures in
    var_absent ls 0 c.args.x.num (cited_terms c.args.given) c.args.x d (omega arith)
    (λ l. ap (λ (l : Local). is_free_var (local_of l)) (sym there.1) ∙ sym c.is_variable.ensures ∙ c.if-not-is_variable.true)

pub returns-clause-term : goal.returns-clause-term
returns-clause-term c =
    let ls = c.args.self.now in
    let ts = cited_terms c.args.given in
    let d = c.in_ok-local.local.now in
    let there = c.in_ok-local.ensures in
    let at = var_at ls 0 0 0 c.args.x.num ts c.args.x d (omega arith) there.0 (ap (λ (l : Local). is_free_var (local_of l)) (sym there.1) ∙ sym c.is_variable.ensures ∙ c.if-not-is_variable.false)
    ∙ ap (λ i. get_or ts i unit) (sym there.2) in
    subst (λ (u : NominalTerm). MatchOption c.get.result (u ≡ unit) (λ t. u ≡ cited_term t)) (sym at) c.get.ensures.term
