use Rattle.std.proofs.Common.{◌≡◌, length, get_or, ap, ◌∙◌, arith}
use Rattle.ap_defs.specs.declared.goals.Local.{Local}
use Rattle.ap_defs.specs.Types.{locals_of}
use Rattle.std.proofs.Common.{List}
use Rattle.ap_judge.specs.Places.{places_from}
use Rattle.ap_judge.proofs.PlaceLemmas.{get_or_any, length_locals, length_places}
use Rattle.ap_judge.proofs.identifiers.Identifiers.at.Goals as goal

pub index-requires : goal.index-requires
index-requires c =
    let lens : length c.self.inside.places.items ≡ length c.self.inside.locals.now =
    ap length c.self.invariant ∙ length_places 0 0 (locals_of c.self.inside.locals.now) ∙ length_locals c.self.inside.locals.now in
    omega (arith, c.if-place-locals.false, c.self.inside.places.ok, lens)

pub returns : goal.returns
returns c =
    let same : length c.self.inside.locals.now ≡ length c.args.self.now = ap length c.self.view_is in
    let lens : length (places_from 0 0 (locals_of c.self.inside.locals.now)) ≡ length c.self.inside.locals.now =
    length_places 0 0 (locals_of c.self.inside.locals.now) ∙ length_locals c.self.inside.locals.now in (
      omega (arith, c.if-place-locals.false, same),
      c.index-locals-place.is ∙ ap (λ ls. get_or ls c.args.num c.index-locals-place.result) c.self.view_is,
      c.index.ensures ∙ ap (λ ps. get_or ps c.args.num c.index.result.now) c.self.invariant
          ∙ get_or_any (places_from 0 0 (locals_of c.self.inside.locals.now)) c.args.num c.index.result.now 0 (omega (arith, c.if-place-locals.false, lens))
          ∙ ap (λ (ls : List Local). get_or (places_from 0 0 (locals_of ls)) c.args.num 0) c.self.view_is,
    )
