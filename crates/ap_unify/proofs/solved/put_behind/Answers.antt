use Rattle.std.proofs.Common.{◌≡◌, ap, arith, length, ◌∙◌}
use Rattle.std.specs.Prelude.{slice_get, unwrap_or}
use Rattle.ap_unify.proofs.SolvedLemmas.{behind_stands}
use Rattle.ap_unify.proofs.solved.put_behind.Goals as goal

pub returns-clause-found : goal.returns-clause-found
returns-clause-found c =
    let es = c.args.solved.now.known.items in
    let fs = c.push.new.self.items in
    let here : c.len-place.result ≡ length es = omega (arith, c.len-place.ensures, c.args.solved.now.known.ok.0) in
    ap (slice_get fs) (ap (λ o. unwrap_or o (length fs)) c.in_ok-insert.ensures.updates.1 ∙ here)
    ∙ ap (λ zs. slice_get zs (length es)) c.in_ok-push.ensures.items
    ∙ behind_stands es c.args.pair

pub returns-clause-others : goal.returns-clause-others
returns-clause-others c = λ ys e. c.in_ok-insert.ensures.updates.2 ys e
