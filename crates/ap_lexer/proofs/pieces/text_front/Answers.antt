use Rattle.std.proofs.Common.{arith, ◌≡◌, length}
use Rattle.std.proofs.lemmas.Grind.{common_steps}
use Rattle.std.proofs.lemmas.Str.{utf8_valid_len-IsUtf8}
use Rattle.std.specs.Str.Lossy.{utf8_valid_len}
use Rattle.ap_lexer.proofs.pieces.text_front.Goals as goal

pub returns-in-Ok : goal.returns-in-Ok
returns-in-Ok c =
    let n : utf8_valid_len c.args.bytes.now ≡ length c.args.bytes.now = utf8_valid_len-IsUtf8 c.args.bytes.now c.in-Ok.ensures.cases.1 in
    rw (n, c.in-Ok.ensures.cases.0) (grind (arith, common_steps))
