use Rattle.std.proofs.Common.{◌≡◌, ◌≤◌, ◌+◌, false, get_or, sym, ap, ◌∙◌, arith}
use Rattle.std.specs.Option.{is_some}
use Rattle.ap_defs.specs.declared.goals.Local.{Local}
use Rattle.ap_defs.specs.Types.{local_of}
use Rattle.ap_program.specs.FreeLocals.{free_sort, is_free_var}
use Rattle.ap_judge.specs.Places.{next_if}
use Rattle.ap_judge.proofs.PlaceLemmas.{next_none, next_some, place_made}
use Rattle.ap_judge.proofs.identifiers.places_of.Goals as goal
use Rattle.ap_judge.proofs.identifiers.places_of.Goals.{then-is_some, else-is_some}

pub loop-i-preserved : goal.loop-i-preserved
loop-i-preserved c =
    let x = c.index-locals-i.result in
    let names = c.loop-i.names in
    let own = free_sort (local_of x) in
    let counted : c.if-is_some.names ≡ next_if own names =
    elim c.if-is_some.branch [
      | then-is_some w ↦ w.names-is ∙ next_some own names (ap is_some (sym c.sort_of.ensures) ∙ sym c.is_some.ensures ∙ w.if-is_some.true)
      | else-is_some w ↦ w.names-is ∙ next_none own names (ap is_some (sym c.sort_of.ensures) ∙ sym c.is_some.ensures ∙ w.if-is_some.false)
    ] in
    let few : c.if-is_some.names ≤ c.loop-i.i + 1 = elim c.if-is_some.branch [ then-is_some w ↦ omega arith | else-is_some w ↦ omega arith ] in
    record {
      places =
          place_made c.args.locals.now c.loop-i.i x c.loop-i-test.true names c.loop-i.vars c.if-is_some.names c.loop-i.places.items c.push-in-loop-i.new.self.items _
          (ap (λ (l : Local). is_free_var (local_of l)) (sym c.index-locals-i.is) ∙ sym c.is_variable.ensures ∙ c.if-is_variable.false)
          (counted ∙ ap (λ (l : Local). next_if (free_sort (local_of l)) names) c.index-locals-i.is) c.in_ok-push-2.ensures.items c.loop-i.invariant.places;
      names = few;
      vars = omega arith;
    }
