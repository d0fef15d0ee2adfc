use Rattle.std.proofs.Common.{◌≡◌, sym, ◌∙◌, arith}
use Rattle.std.proofs.lemmas.List.{take_all}
use Rattle.std.proofs.lemmas.Slice.Eq.{bytes_eq-Decides}
use Rattle.ap_scopes.proofs.marks.is_word.Goals as goal

pub returns : goal.returns
returns c =
    let l = c.as_bytes-left.result.now in
    let r = c.as_bytes-right.result.now in
    let same : l ≡ r = sym (take_all c.comparing.place l (omega arith)) ∙ c.comparing.invariant ∙ take_all c.comparing.place r (omega arith) in
    sym ((bytes_eq-Decides c.args.left.now c.args.right.now).1 (sym c.as_bytes-left.ensures.value ∙ same ∙ c.as_bytes-right.ensures.value))
