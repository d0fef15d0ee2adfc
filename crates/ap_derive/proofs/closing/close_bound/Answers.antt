use Rattle.std.proofs.Common.{◌≡◌, ◌++◌, refl, rules}
use Rattle.ap_shared.proofs.SharingLemmas.{grown_none}
use Rattle.ap_derive.specs.Closing.{closing_terms}
use Rattle.ap_derive.proofs.ClosingLemmas.{bound_closed, bound_less}
use Rattle.ap_derive.proofs.closing.close_bound.Goals as goal

pub returns : goal.returns
returns c = λ closing.
    let s = c.args.store.now in
    let p = c.args.swaps.items in
    let b = c.args.bound in
    let all = c.in_ok-all.all.items in
    let e : all ≡ p ++ b.swaps.now = search rules in
    record {
      lines = refl;
      grown = grown_none (closing_terms closing);
      within = tt;
      is = bound_closed s p c.args.x b all c.requires e;
      less = bound_less s p c.args.x b all c.requires e;
    }
