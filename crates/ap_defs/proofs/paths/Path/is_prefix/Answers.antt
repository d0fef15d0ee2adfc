use Rattle.std.proofs.Common.{◌≡◌, ◌==◌, ◌∙◌, ap₂, rules}
use Rattle.std.specs.List.{starts_with}
use Rattle.ap_defs.proofs.PathLemmas.{starts_prefix}
use Rattle.ap_defs.proofs.paths.Path.is_prefix.Goals as goal

pub returns : goal.returns
returns c =
    let whole : c.deref.result.now ≡ c.args.other.now = search rules in
    let front : c.deref-2.result.now ≡ c.args.self.now = search rules in
    c.starts_with.ensures.value ∙ ap₂ (λ q p. starts_with (λ k j. k == j) q p) whole front ∙ starts_prefix c.args.self.now c.args.other.now
