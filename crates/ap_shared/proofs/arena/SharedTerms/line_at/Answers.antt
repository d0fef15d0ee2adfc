use Rattle.std.proofs.Common.{◌<◌, refl, subst, length, arith}
use Rattle.std.proofs.lemmas.Option.{slice_get_read}
use Rattle.ap_shared.proofs.SharedLemmas.{line_at, terms_long}
use Rattle.ap_shared.proofs.arena.SharedTerms.line_at.Goals as goal

pub index-requires : goal.index-requires
index-requires c = omega (arith, terms_long c.args.self.now.lines.items, c.requires, c.args.self.now.lines.ok)

pub returns : goal.returns
returns c =
    let items = c.args.self.now.lines.items in
    let l = c.index.result.now in
    let few : c.args.line < length items = subst (λ n. c.args.line < n) (terms_long items) c.requires in
    line_at items c.args.line l c.args.self.now.formed (slice_get_read items (length items) c.args.line l refl few c.index.ensures)
