use Rattle.std.proofs.Common.{◌<◌, ◌+◌, map, ap, subst, arith}
use Rattle.ap_defs.specs.Renaming.{IsBelow, rename_swap, rename_term}
use Rattle.ap_defs.specs.Terms.{term_of}
use Rattle.ap_defs.specs.declared.terms.Term.{Term}
use Rattle.ap_store.proofs.heads.look_in.Goals as goal

pub overflow_add-x : goal.overflow_add-x
overflow_add-x c =
    let b = c.args.b in
    let k = subst (λ (u : Term). IsBelow b.end (rename_term b.base (term_of u))) c.in-Susp.is b.below in
    let l : b.base + c.in-Susp.x.num < b.end = k.1 in
    omega arith

pub returns-in-Susp : goal.returns-in-Susp
returns-in-Susp c = (map (rename_swap c.args.b.base) c.in-Susp.field-0, ap (λ (u : Term). rename_term c.args.b.base (term_of u)) c.in-Susp.is)
