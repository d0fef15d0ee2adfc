use Rattle.std.proofs.Common.{◌≡◌, length, drop, ap, ◌∙◌, arith, length-drop}
use Rattle.std.proofs.lemmas.List.{drop-drop}
use Rattle.ap_lexer.proofs.Scans.{left_on, stop_on, more_lines}
use Rattle.ap_lexer.proofs.cursor.Cursor.pass.Goals as goal

pub invariant_of-self : goal.invariant_of-self
invariant_of-self c =
    let me = c.args.self.now in
    let p = c.args.piece in
    let fits = c.requires.cut.1.0 in
    let rest : length me.rest.now ≡ length (drop me.place me.text.now) = ap length me.left in
    record {
      front = me.front;
      inside = omega (arith, length-drop me.place me.text.now, rest, fits);
      left = c.split_at.ensures.back ∙ ap (drop p.len) me.left ∙ drop-drop p.len me.place me.text.now;
      counted = rw (c.count_lines.ensures.value, c.split_at.ensures.front) (more_lines me.text.now me.place p.len me.line me.rest.now me.counted me.left);
      ends = rw c.split_at.ensures.back (stop_on me.text.now me.place me.rest.now p me.ends c.requires.first c.requires.cut.0 fits);
    }

pub returns-clause-left : goal.returns-clause-left
returns-clause-left c =
    let me = c.args.self.now in
    left_on me.text.now me.place me.rest.now c.args.piece me.left c.requires.first c.requires.cut.0 c.requires.cut.1.0
