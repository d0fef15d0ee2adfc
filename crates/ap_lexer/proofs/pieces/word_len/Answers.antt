use Rattle.std.proofs.Common.{◌≡◌, ◌<◌, ◌≤◌, length, slice_index, get_or, arith, sym, ◌∙◌, ap, subst}
use Rattle.std.proofs.lemmas.List.Sums.{prefix_len-le-length}
use Rattle.std.specs.List.{position_or_len}
use Rattle.ap_lexer.specs.Pieces.{ends_ascii}
use Rattle.ap_lexer.proofs.AsciiWords.{StopsLow, ascii_word}
use Rattle.ap_lexer.proofs.pieces.word_len.Goals as goal

pub returns-clause-len : goal.returns-clause-len
returns-clause-len c =
    let text = c.args.text.now in
    let len : c.ascii_len-len.result ≡ position_or_len ends_ascii text = c.ascii_len-len.ensures.len ∙ ap (position_or_len ends_ascii) c.as_bytes-bytes.ensures.value in
    let low = subst (λ bs. c.ascii_len-len.result < length bs → slice_index bs c.ascii_len-len.result < 128) c.as_bytes-bytes.ensures.value (c.is_high_at.ensures c.if-is_high_at.false) in
    let stops : StopsLow text = subst (λ k. k < length text → get_or text k 0 < 128) len low in
    len ∙ sym (ascii_word text c.utf8.text stops)

pub returns-clause-cut : goal.returns-clause-cut
returns-clause-cut c =
    let text = c.args.text.now in
    let len : c.ascii_len-len.result ≡ position_or_len ends_ascii text = c.ascii_len-len.ensures.len ∙ ap (position_or_len ends_ascii) c.as_bytes-bytes.ensures.value in
    let low = subst (λ bs. c.ascii_len-len.result < length bs → slice_index bs c.ascii_len-len.result < 128) c.as_bytes-bytes.ensures.value (c.is_high_at.ensures c.if-is_high_at.false) in
    (subst (λ k. k ≤ length text) (sym len) (prefix_len-le-length _ text), λ lt big. absurd (omega (arith, low lt, big)))
