use Rattle.std.proofs.Common.{◌≡◌, List, [], append-nil, sym, subst}
use Rattle.ap_defs.specs.declared.terms.Name.{Name}
use Rattle.ap_defs.specs.declared.terms.Swap.{Swap}
use Rattle.ap_clearing.specs.Clearing.{Clears}
use Rattle.ap_clearing.proofs.ClearsLemmas.{no_more}
use Rattle.ap_clearing.proofs.clearing.exchanges.Goals as goal

pub returns : goal.returns
returns c =
    let start = c.args.used.now.keys in
    let none : c.clearing.rest.now ≡ [] = no_more c.clearing.rest.now c.in_default.ensures.cases in
    subst (λ (ss : List Swap). Clears start c.args.names.now ss) (append-nil c.clearing.swaps.items)
    (c.clearing.invariant.1 [] (subst (λ (cs : List Name). Clears c.clearing.used.keys cs []) (sym none) tt))
