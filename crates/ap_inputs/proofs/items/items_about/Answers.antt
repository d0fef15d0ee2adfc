use Rattle.std.proofs.Common.{◌+◌, ◌∷◌, [], ◌++◌, length, drop, sym, ap, ◌∙◌, arith, append_assoc}
use Rattle.std.proofs.lemmas.List.{length-drop}
use Rattle.std.specs.Prelude.{filter}
use Rattle.std.specs.List.{flat_map}
use Rattle.ap_lexer.specs.Tokens.{lexemes}
use Rattle.ap_inputs.specs.Items.{is_about, item_text, items_of_tokens}
use Rattle.ap_inputs.proofs.Cutting.{flat_map-filter_first, items-left}
use Rattle.ap_inputs.proofs.items.items_about.Goals as goal

pub loop-place-preserved : goal.loop-place-preserved
loop-place-preserved c =
    let item = lexemes c.first_item-item.result.now in
    let place = c.loop-place.place in
    let rest = items_of_tokens (lexemes (drop (place + length c.first_item-item.result.now) c.args.tokens.now)) in
    let shown = item_text c.args.text.now in
    let about = is_about c.args.word.now in
    let out = c.loop-place.out.items in
    let cut = items-left c.args.tokens.now c.rest_of.result.now c.first_item-item.result.now place c.rest_of.ensures c.first_item-item.ensures.item in
    record {
      within = omega (arith, length-drop place c.args.tokens.now, ap length c.rest_of.ensures);
      left =
          ap (λ bs. bs ++ flat_map shown (filter about rest)) c.in_ok-add_item.ensures
          ∙ append_assoc out (flat_map shown (filter about (item ∷ []))) (flat_map shown (filter about rest))
          ∙ ap (λ bs. out ++ bs) (sym (flat_map-filter_first shown about item rest))
          ∙ ap (λ is. out ++ flat_map shown (filter about is)) (sym cut)
          ∙ c.loop-place.invariant.left;
    }
