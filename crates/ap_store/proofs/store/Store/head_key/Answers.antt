use Rattle.std.proofs.Common.{sym, ap, subst, ◌∙◌}
use Rattle.ap_defs.specs.HeadKeys.{head_key}
use Rattle.ap_store.specs.Heads.{IsAtHead}
use Rattle.ap_store.specs.Views.{bindings_of, meaning_in}
use Rattle.ap_store.proofs.store.Store.head_key.Goals as goal

pub returns-in-Form : goal.returns-in-Form
returns-in-Form c =
    let h = subst (IsAtHead (bindings_of c.args.self.now) (meaning_in c.args.self.now c.args.c.now)) c.in-Form.is c.head_of.ensures in
    c.head_key.ensures ∙ sym h.1

pub returns-in-Open : goal.returns-in-Open
returns-in-Open c =
    let h = subst (IsAtHead (bindings_of c.args.self.now) (meaning_in c.args.self.now c.args.c.now)) c.in-Open.is c.head_of.ensures in
    sym (ap head_key h.1.1)
