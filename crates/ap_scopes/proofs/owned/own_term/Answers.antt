use Rattle.std.proofs.Common.{◌≡◌, [], sym, ap, ◌∙◌}
use Rattle.ap_defs.specs.RawTerms.{raw_of, pair, app}
use Rattle.ap_trees.specs.Terms as terms
use Rattle.ap_trees.specs.Trees.{term_of}
use Rattle.ap_trees.specs.Apart.{tree_together}
use Rattle.ap_scopes.specs.Resolution.{made, resolved_term}
use Rattle.ap_scopes.specs.Views.{declared_of, found_of}
use Rattle.ap_scopes.proofs.LayerLemmas.{right_goes_in, tail_goes_in, then_is}
use Rattle.ap_scopes.proofs.owned.own_term.Goals as goal

pub resolving-preserved-in-Cell : goal.resolving-preserved-in-Cell
resolving-preserved-in-Cell c =
    let d = declared_of c.args.declared.now in
    let first = raw_of c.in_ok-first-in-Cell.first in
    let head = term_of c.in-Cell.head in
    let tail = term_of c.in-Cell.tail in
    let before = found_of c.resolving.found in
    let after = found_of c.own_part.new.found in
    let is : term_of c.resolving.rest ≡ terms.Cell head tail = sym c.apart.ensures ∙ ap tree_together c.in-Cell.is in
    record {
      all = tail_goes_in (raw_of c.resolving.above) (raw_of c.in_ok-above-in-Cell.above) first (resolved_term d [] (term_of c.resolving.rest) before) (resolved_term d [] tail after) _ c.in_ok-above-in-Cell.ensures
          (ap (λ u. resolved_term d [] u before) is ∙ ap (made (app 1)) (then_is pair (resolved_term d [] head) (resolved_term d [] tail) before after first c.in_ok-first-in-Cell.ensures.value)) c.resolving.invariant.all;
      numbered = c.in_ok-first-in-Cell.ensures.numbered;
    }

pub resolving-preserved : goal.resolving-preserved
resolving-preserved c =
    let d = declared_of c.args.declared.now in
    let first = raw_of c.in_ok-first-in-Pair.first in
    let left = term_of c.in-Pair.left in
    let right = term_of c.in-Pair.right in
    let before = found_of c.resolving.found in
    let after = found_of c.own_part-in-Pair.new.found in
    let is : term_of c.resolving.rest ≡ terms.Pair left right = sym c.apart.ensures ∙ ap tree_together c.in-Pair.is in
    record {
      all = right_goes_in (raw_of c.resolving.above) (raw_of c.in_ok-above-in-Pair.above) first (resolved_term d [] (term_of c.resolving.rest) before) (resolved_term d [] right after) _ c.in_ok-above-in-Pair.ensures
          (ap (λ u. resolved_term d [] u before) is ∙ then_is pair (resolved_term d [] left) (resolved_term d [] right) before after first c.in_ok-first-in-Pair.ensures.value) c.resolving.invariant.all;
      numbered = c.in_ok-first-in-Pair.ensures.numbered;
    }
