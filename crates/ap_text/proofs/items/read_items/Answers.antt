use Rattle.std.proofs.Common.{◌≡◌, ◌+◌, ◌≤◌, ◌<◌, [], length, sym, ◌∙◌, subst, arith}
use Rattle.std.specs.Prelude.{count_by, MatchOption}
use Rattle.ap_defs.specs.Limits.{size_limit}
use Rattle.ap_lexer.specs.Cursors.{HasStopped, lexemes_left}
use Rattle.ap_lexer.specs.Tokens.{is_dot, item_front, after_item}
use Rattle.ap_lexer.proofs.Fronts.{less_left}
use Rattle.ap_syntax.specs.Fronts.{IsFrontOf}
use Rattle.ap_syntax.proofs.Fronts.{front_some}
use Rattle.ap_text.specs.Outlooks.{IsOutlook}
use Rattle.ap_text.proofs.Outlooks.{next_few, dots_on}
use Rattle.ap_text.proofs.items.read_items.Goals as goal

pub with_front-requires : goal.with_front-requires
with_front-requires c =
    let all = lexemes_left c.args.cursor.now in
    let left = lexemes_left c.reading.cursor in
    let front : IsFrontOf left c.in-Some.front = subst (λ o. MatchOption o ((left ≡ []) × HasStopped c.next_front.new.cursor) (IsFrontOf left)) c.in-Some.is c.in_ok-front.ensures.front in
    let few : c.reading.next + count_by is_dot left ≤ size_limit + 1 = next_few all left c.reading.next c.reading.invariant.dots c.requires.few in
    (all, left, front, omega (arith, few), c.reading.invariant.outlook)

pub reading-smaller : goal.reading-smaller
reading-smaller c =
    let left = lexemes_left c.reading.cursor in
    let front : IsFrontOf left c.in-Some.front = subst (λ o. MatchOption o ((left ≡ []) × HasStopped c.next_front.new.cursor) (IsFrontOf left)) c.in-Some.is c.in_ok-front.ensures.front in
    let less : length (after_item left) < length left = less_left left (front_some c.in-Some.front left front) in
    subst (λ ts. length ts < length left) (sym c.in_ok-front.ensures.left) less

pub reading-preserved : goal.reading-preserved
reading-preserved c =
    let all = lexemes_left c.args.cursor.now in
    let left = lexemes_left c.reading.cursor in
    let old = c.reading.invariant in
    let front : IsFrontOf left c.in-Some.front = subst (λ o. MatchOption o ((left ≡ []) × HasStopped c.next_front.new.cursor) (IsFrontOf left)) c.in-Some.is c.in_ok-front.ensures.front in
    let dots : c.dots-dots.result ≡ count_by is_dot (item_front left) = c.dots-dots.ensures.value left front in
    let after = c.with_front.new.typing in
    let outlook = c.in_ok-outlook.ensures all left front old.outlook in
    record {
      whole = c.in_ok-front.ensures.whole ∙ old.whole;
      text = c.in_ok-front.ensures.text ∙ old.text;
      dots = dots_on all left (lexemes_left c.next_front.new.cursor) c.reading.next c.dots-dots.result old.dots dots c.in_ok-front.ensures.left;
      outlook = subst (λ more. IsOutlook all more (c.reading.next + c.dots-dots.result) after c.in_ok-outlook.outlook) (sym c.in_ok-front.ensures.left)
          (subst (λ n. IsOutlook all (after_item left) (c.reading.next + n) after c.in_ok-outlook.outlook) (sym dots) outlook);
    }
