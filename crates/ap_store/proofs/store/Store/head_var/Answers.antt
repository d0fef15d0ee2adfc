use Rattle.std.proofs.Common.{subst}
use Rattle.ap_store.specs.Heads.{IsAtHead}
use Rattle.ap_store.specs.Views.{bindings_of, meaning_in}
use Rattle.ap_store.proofs.store.Store.head_var.Goals as goal

pub returns-in-Open : goal.returns-in-Open
returns-in-Open c = subst (IsAtHead (bindings_of c.args.self.now) (meaning_in c.args.self.now c.args.c.now)) c.in-Open.is c.head_of.ensures

pub returns-in-Form : goal.returns-in-Form
returns-in-Form c = (subst (IsAtHead (bindings_of c.args.self.now) (meaning_in c.args.self.now c.args.c.now)) c.in-Form.is c.head_of.ensures).0
