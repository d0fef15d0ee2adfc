use Rattle.std.proofs.Common.{◌≡◌, ◌∷◌, sym, subst}
use Rattle.std.specs.Option.{option_map}
use Rattle.std.specs.Prelude.{IfOk, reverse}
use Rattle.ap_bundle.specs.declared.words.Letter.{Letter}
use Rattle.ap_bundle.specs.Forms.{term_onto}
use Rattle.ap_defs.specs.Terms.{term_of}
use Rattle.ap_bundle_read.specs.Stacks.{stacked}
use Rattle.ap_bundle_read.proofs.terms.term_onto.Goals as goal

pub returns-in-S : goal.returns-in-S
returns-in-S c =
    let ts = stacked term_of c.args.terms.now.items in
    subst (λ (l : Letter). IfOk c.susp_onto.result (λ r. option_map (λ t. term_of t ∷ ts) r ≡ term_onto l (reverse c.args.numbers.now.items) ts)) (sym c.in-S.is) (c.susp_onto.ensures ts)
