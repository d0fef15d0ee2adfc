use Rattle.std.proofs.Common.{◌≡◌, ◌∙◌, ◌++◌, List, map, ap}
use Rattle.std.proofs.lemmas.List.{take_all}
use Rattle.ap_defs.specs.declared.terms.Swap.{Swap}
use Rattle.ap_defs.specs.Permutations.{inverse}
use Rattle.ap_defs.specs.Renaming.{replace_swap}
use Rattle.ap_theory.proofs.PermutationLemmas.{inverse-append}
use Rattle.ap_coverer.proofs.MatchLemmas.{reverse_inverse}
use Rattle.ap_coverer.proofs.matching.undoing.Goals as goal

pub returns : goal.returns
returns c =
    let acting = c.args.acting.now in
    let waiting = c.args.waiting.now in
    let swaps = c.args.swaps.now in
    let whole : c.loop-s.all.items ≡ acting ++ map (replace_swap swaps) waiting = c.loop-s.invariant ∙ ap (λ (l : List Swap). acting ++ map (replace_swap swaps) l) (take_all c.loop-s.s-index waiting c.loop-s-test.false) in
    c.reverse.ensures.items ∙ reverse_inverse c.loop-s.all.items ∙ ap inverse whole ∙ inverse-append acting (map (replace_swap swaps) waiting)
