use Rattle.std.proofs.Common.{◌≡◌, ℕ, true, map, sym, subst, arith}
use Rattle.ap_defs.specs.Types.{constructor_of, type_of}
use Rattle.ap_types.specs.Inhabited.{inhabited_in}
use Rattle.ap_types.proofs.StillLemmas.{inhabited_stands_still}
use Rattle.ap_picks.specs.Picks.{data_bound}
use Rattle.ap_picks.proofs.ChoiceLemmas.{are_of_bound}
use Rattle.ap_picks.proofs.picking.Picker.pick.Goals as goal

pub pick_want-requires-clause-well : goal.pick_want-requires-clause-well
pick_want-requires-clause-well c =
    let cs = map constructor_of c.args.self.now.constructors.now in
    let t = type_of c.args.ty.now in
    subst (λ (r : ℕ). inhabited_in cs r t ≡ true) (sym c.requires.picker.rounds)
    ((inhabited_stands_still cs (data_bound cs) (are_of_bound cs (data_bound cs) (omega arith)) t).1 c.requires.inhabited)
