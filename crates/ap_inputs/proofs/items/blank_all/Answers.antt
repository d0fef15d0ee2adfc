use Rattle.std.proofs.Common.{◌≡◌, get_or, ap, ◌∙◌, arith}
use Rattle.std.proofs.Math.ListN.{set}
use Rattle.std.proofs.lemmas.Grind.{common_steps}
use Rattle.std.proofs.lemmas.List.Edits.{map_over_more}
use Rattle.ap_inputs.specs.Items.{blank_for}
use Rattle.ap_inputs.proofs.items.blank_all.Goals as goal

pub loop-byte-preserved : goal.loop-byte-preserved
loop-byte-preserved c =
    let ys = c.loop-byte.bytes in
    let i = c.loop-byte.byte-index in
    let x = get_or ys i 0 in
    let read : x ≡ get_or ys i x = grind (arith, common_steps) in
    ap (λ b. set ys i b) c.blank.ensures ∙ map_over_more blank_for c.args.bytes.now ys i x (omega arith) c.loop-byte.invariant read
