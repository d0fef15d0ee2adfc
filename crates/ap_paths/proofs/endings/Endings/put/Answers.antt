use Rattle.std.proofs.Common.{rules, ◌≡◌, ◌∙◌, sym, ap, subst, length, ℕ, Vec, Global}
use Rattle.std.specs.BTreeMap.{insert_entry}
use Rattle.ap_paths.specs.Merging.{insert}
use Rattle.ap_paths.specs.Ends.{ends_in, AreNumbersBelow}
use Rattle.ap_paths.proofs.Numbered.{inserted, numbered, numbered_cmp}
use Rattle.ap_paths.proofs.endings.Endings.put.Goals as goal

pub invariant_of-self-2 : goal.invariant_of-self-2
invariant_of-self-2 c =
    let es = c.self.inside.ends.entries in
    let k : Vec ℕ Global × ℕ = (c.extend_from_slice.new.self, c.len-number.result) in
    let grown : c.insert.new.self.entries ≡ insert_entry numbered_cmp es k c.args.outs = c.in_ok-insert.ensures.entries in
    let small : AreNumbersBelow c.len-number.result es = subst (λ n. AreNumbersBelow n es) (sym c.len-number.ensures.len) c.self.invariant in
    subst (λ l. AreNumbersBelow (length l) l) (sym grown) (numbered es k c.args.outs c.len-number.ensures.len small)

pub returns-clause-ok : goal.returns-clause-ok
returns-clause-ok c =
    let es = c.self.inside.ends.entries in
    let k : Vec ℕ Global × ℕ = (c.extend_from_slice.new.self, c.len-number.result) in
    let grown : c.insert.new.self.entries ≡ insert_entry numbered_cmp es k c.args.outs = c.in_ok-insert.ensures.entries in
    let small : AreNumbersBelow c.len-number.result es = subst (λ n. AreNumbersBelow n es) (sym c.len-number.ensures.len) c.self.invariant in
    let path : c.extend_from_slice.new.self.items ≡ c.args.path.now = search rules in
    ap ends_in grown ∙ inserted es k c.args.outs small ∙ ap (λ p. insert p c.args.outs (ends_in es)) path ∙ ap (insert c.args.path.now c.args.outs) c.self.view_is
