use Rattle.std.proofs.Common.{◌≡◌, ◌-◌, length, take, vec_len, ap, ◌∙◌, arith}
use Rattle.ap_store.proofs.HeldLemmas.{changed_at, length_set}
use Rattle.ap_store.proofs.held.let_go.Goals as goal

pub returns-clause-held : goal.returns-clause-held
returns-clause-held c =
    let w = c.index_mut.result.now in
    let l : vec_len w ≡ length w.items = omega arith in
    changed_at (λ cs. take (length cs - 1) cs) c.args.held.now.items c.args.place c.pop-last.new.self w c.requires c.index_mut.ensures.value
    (c.pop-last.ensures.rest ∙ ap (λ n. take (n - 1) w.items) l)

pub returns-clause-length : goal.returns-clause-length
returns-clause-length c = length_set c.args.held.now.items c.args.place _
