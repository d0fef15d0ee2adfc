use Rattle.std.proofs.Common.{◌≡◌, ◌+◌, ◌∷◌, length, drop, sym, ap, ◌∙◌, arith}
use Rattle.std.proofs.lemmas.List.{length-drop}
use Rattle.std.specs.Prelude.{filter, fold}
use Rattle.ap_lexer.specs.Tokens.{lexemes}
use Rattle.ap_inputs.specs.Items.{is_query, items_of_tokens, without_item}
use Rattle.ap_inputs.proofs.Cutting.{fold-filter_first, items-left, lent}
use Rattle.ap_inputs.proofs.items.without_queries.Goals as goal

pub loop-place-preserved : goal.loop-place-preserved
loop-place-preserved c =
    let item = lexemes c.first_item-item.result.now in
    let place = c.loop-place.place in
    let rest = items_of_tokens (lexemes (drop (place + length c.first_item-item.result.now) c.args.tokens.now)) in
    let kept = c.loop-place.kept in
    let new = c.leave_out.new.text in
    let cut = items-left c.args.tokens.now c.rest_of.result.now c.first_item-item.result.now place c.rest_of.ensures c.first_item-item.ensures.item in
    let same : length new ≡ length c.deref_mut.result.now = c.leave_out.auto.text in
    let as_long : length new ≡ kept.len = omega (arith, c.deref_mut.ensures.len) in
    let whole : kept.len ≡ length kept.items = omega (arith, ap length c.deref_mut.ensures.value) in
    record {
      within = omega (arith, length-drop place c.args.tokens.now, ap length c.rest_of.ensures);
      left =
          ap (λ bs. fold without_item bs (filter is_query rest)) (lent kept.len new kept.items as_long whole ∙ c.leave_out.ensures)
          ∙ sym (fold-filter_first without_item is_query c.deref_mut.result.now item rest)
          ∙ ap (λ bs. fold without_item bs (filter is_query (item ∷ rest))) c.deref_mut.ensures.value
          ∙ ap (λ is. fold without_item kept.items (filter is_query is)) (sym cut)
          ∙ c.loop-place.invariant.left;
    }
