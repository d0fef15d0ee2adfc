use Rattle.std.proofs.Common.{◌∙◌, ap, arith}
use Rattle.ap_defs.specs.Terms.{susp}
use Rattle.ap_derive.proofs.ClosingLemmas.{unbound_closed, work_some}
use Rattle.ap_derive.proofs.closing.close_unbound.Goals as goal

pub returns : goal.returns
returns c =
    let s = c.args.store.now in
    let p = c.args.swaps.items in
    let x = c.args.x in
    let line = c.in_ok-line.ensures in
    record {
      lines = line.lines;
      grown = line.grown;
      within = line.within;
      is = unbound_closed s p x _ c.requires (line.line ∙ ap (λ q. susp q x) (c.in_ok-waiting.ensures ∙ c.in_ok-ascending.ensures));
      less = (let h = work_some s (susp p x) in omega (arith, h));
    }
