use Rattle.std.proofs.Common.{◌≡◌, ◌≤◌, ◌++◌, ◌∷◌, [], Ok, length, drop, arith, sym, ◌∙◌, ap, subst}
use Rattle.std.proofs.lemmas.List.{map-append, length-drop}
use Rattle.std.proofs.lemmas.Result.{err_from_is_err_and}
use Rattle.ap_lexer.specs.Tokens.{lexemes}
use Rattle.ap_trees.specs.Trees.{item_of, items_of_text}
use Rattle.ap_syntax.specs.Reading.{FirstOf, TextOutcome, Reads, after_items}
use Rattle.ap_syntax.proofs.Readings.{one_more, all_done, stops_at}
use Rattle.ap_whole.proofs.reading.read_items.Goals as goal

pub returns-in_err-item : goal.returns-in_err-item
returns-in_err-item c =
    let p = err_from_is_err_and c.from_residual.result c.from_residual.ensures.1 in
    let reads : (r : TextOutcome) → Reads c.loop-at.number (lexemes c.rest_of.result.now) r → Reads 1 (lexemes c.args.tokens.now) (after_items (items_of_text c.loop-at.items.items) r) =
    subst (λ ts. (r : TextOutcome) → Reads c.loop-at.number (lexemes ts) r → Reads 1 (lexemes c.args.tokens.now) (after_items (items_of_text c.loop-at.items.items) r)) (sym c.rest_of.ensures) c.loop-at.invariant.reads in
    rw (p.1, p.2) (stops_at c.in_err-item.field-0.0 (lexemes c.args.tokens.now) (lexemes c.rest_of.result.now) c.loop-at.number _ reads c.in_err-item.ensures.read)

pub loop-at-preserved : goal.loop-at-preserved
loop-at-preserved c =
    let fits : c.in_ok-item.len ≤ length (drop c.loop-at.at c.args.tokens.now) = subst (λ ts. c.in_ok-item.len ≤ length ts) c.rest_of.ensures c.in_ok-item.ensures.some.1 in
    let some = c.in_ok-item.ensures.some.0 in
    let first : FirstOf c.loop-at.number (lexemes (drop c.loop-at.at c.args.tokens.now)) (Ok (item_of c.in_ok-item.item, drop c.in_ok-item.len (lexemes (drop c.loop-at.at c.args.tokens.now)))) =
    subst (λ ts. FirstOf c.loop-at.number (lexemes ts) (Ok (item_of c.in_ok-item.item, drop c.in_ok-item.len (lexemes ts)))) c.rest_of.ensures c.in_ok-item.ensures.read in
    let items : items_of_text c.push.new.self.items ≡ items_of_text c.loop-at.items.items ++ item_of c.in_ok-item.item ∷ [] =
    ap items_of_text c.in_ok-push.ensures.items ∙ map-append item_of c.loop-at.items.items (c.in_ok-item.item ∷ []) in
    record {
      few = omega arith;
      inside = omega (arith, length-drop c.loop-at.at c.args.tokens.now);
      reads = λ r h. rw items (one_more (lexemes c.args.tokens.now) c.args.tokens.now c.loop-at.at c.in_ok-item.len c.loop-at.number (items_of_text c.loop-at.items.items) (item_of c.in_ok-item.item) c.loop-at.invariant.reads first r h);
    }

pub returns : goal.returns
returns c = all_done (lexemes c.args.tokens.now) c.args.tokens.now c.loop-at.at c.loop-at.number _ c.loop-at.invariant.reads (omega arith)
