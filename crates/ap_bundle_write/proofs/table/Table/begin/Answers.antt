use Rattle.std.proofs.Common.{[], ◌∷◌, ◌∙◌, ap, sym, refl, inl, inr}
use Rattle.std.specs.Prelude.{reverse}
use Rattle.std.proofs.lemmas.List.{reverse-append}
use Rattle.std.proofs.lemmas.Result.{on_ok_weaker}
use Rattle.ap_bundle_write.proofs.table.Table.begin.Goals as goal

pub returns-in_ok-push-in-Some : goal.returns-in_ok-push-in-Some
returns-in_ok-push-in-Some c =
    let b = c.requires.entered c.args.line c.in-Some.number (sym c.in-Some.ensures) in
    let old = c.args.numbers.now.items in
    inl (b.0, ap reverse c.in_ok-push-in-Some.ensures.items ∙ reverse-append old (c.in-Some.number ∷ []) ∙ ap (λ n. n ∷ reverse old) b.1, refl)

pub returns-in-None : goal.returns-in-None
returns-in-None c = on_ok_weaker c.push_steps.result (λ e. inr (refl, e)) c.push_steps.ensures
