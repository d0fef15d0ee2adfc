use Rattle.std.proofs.Common.{[], ap, ◌∙◌}
use Rattle.std.specs.Global.{Global}
use Rattle.std.specs.Prelude.{Vec}
use Rattle.ap_defs.specs.declared.terms.Cond.{Cond}
use Rattle.ap_store.proofs.HeldLemmas.{changed_at, held_at, length_set}
use Rattle.ap_store.proofs.held.take_out.Goals as goal

pub returns-clause-taken : goal.returns-clause-taken
returns-clause-taken c = ap (λ (v : Vec Cond Global). v.items) c.replace.ensures.value ∙ held_at c.args.held.now.items c.args.place c.index_mut.result.now c.requires c.index_mut.ensures.value

pub returns-clause-held : goal.returns-clause-held
returns-clause-held c =
    changed_at (λ cs. []) c.args.held.now.items c.args.place c.replace.new.dest c.index_mut.result.now c.requires c.index_mut.ensures.value
    (ap (λ (v : Vec Cond Global). v.items) c.replace.ensures.after ∙ c.new-nothing.ensures.items)

pub returns-clause-length : goal.returns-clause-length
returns-clause-length c = length_set c.args.held.now.items c.args.place _
