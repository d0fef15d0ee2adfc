use Rattle.std.proofs.Common.{rules, arith, ◌≡◌, ◌∙◌, slice_get, Some, sym, ap}
use Rattle.std.proofs.lemmas.Grind.{common_steps}
use Rattle.std.proofs.lemmas.Option.{slice_get-get_or}
use Rattle.ap_explain.proofs.MarkLemmas.{stands}
use Rattle.ap_explain.proofs.marks.stands_at.Goals as goal

pub returns-then-byte-token : goal.returns-then-byte-token
returns-then-byte-token c = λ h.
    let found : slice_get c.args.tokens.now c.args.number ≡ Some c.in-Some.token.now =
    slice_get-get_or c.args.tokens.now c.args.number c.in-Some.token.now c.in-Some.ensures.lookup.3.0
    ∙ ap Some (sym c.in-Some.ensures.lookup.1) in
    stands c.args.tokens.now c.args.item c.args.byte c.args.number c.in-Some.token.now found
    (first_of (search rules, grind (arith, common_steps)))
    (first_of (search rules, grind (arith, common_steps)))
    (first_of (search rules, grind (arith, common_steps)))
