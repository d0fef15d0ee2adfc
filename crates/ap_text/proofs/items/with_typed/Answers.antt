use Rattle.std.proofs.Common.{◌++◌, ◌∷◌, [], sym, subst, append_assoc}
use Rattle.ap_trees.specs.Trees.{item_of}
use Rattle.ap_typecheck.specs.Checking.{IsFirstTypeFault}
use Rattle.ap_typecheck.specs.Views.{IsRefusedByTypes}
use Rattle.ap_text.proofs.items.with_typed.Goals as goal

pub returns-in-Err-Fault : goal.returns-in-Err-Fault
returns-in-Err-Fault c = λ is t more.
    let x = item_of c.args.item in
    let fault : IsFirstTypeFault (is ++ x ∷ more) c.in-Err-Fault.fault = subst (λ e. IsRefusedByTypes e (is ++ x ∷ more)) c.in-Err-Fault.field-0-is (c.in-Err-Fault.ensures.fault is more t) in
    subst (λ js. IsFirstTypeFault js c.in-Err-Fault.fault) (sym (append_assoc is (x ∷ []) more)) fault
