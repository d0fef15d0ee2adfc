use Rattle.std.proofs.Common.{◌≡◌, ◌↔◌, Bool, IsTrue, List, [], Result, Ok, Err}
use Rattle.std.specs.Prelude.{IfOk}
use Rattle.std.specs.Global.{Vec}
use Rattle.ap_defs.specs.declared.memory.Memory.{Memory}
use Rattle.ap_defs.specs.Types.{NominalType, NominalConstructor, type_of}
use Rattle.ap_types.specs.declared.least.Rule.{Rule}
use Rattle.ap_types.specs.Rounds.{marked}
use Rattle.ap_types.specs.Inhabited.{inhabited_if, all_inhabited, IsInhabited}
use Rattle.ap_types.specs.Rules.{RulesStand}
use Rattle.ap_types.proofs.QuestionLemmas.{inhabited_so_far}
use Rattle.ap_types.proofs.inhabitants.is_inhabited.Goals as goal

answered : (r : Result Bool Memory) (table slice : List Bool) (ws : List (Vec Rule)) (t : NominalType) → slice ≡ table → IfOk r (λ b. b ≡ inhabited_if (marked slice) t)
    → IfOk r (λ b. (cs : List NominalConstructor) → RulesStand all_inhabited cs [] table ws → IsTrue b ↔ IsInhabited cs t)
answered (Ok b) table slice ws t as_slice e = λ cs h. inhabited_so_far cs table slice ws t b as_slice h e
answered (Err x) table slice ws t as_slice e = tt

pub returns : goal.returns
returns c =
    let found = c.args.inhabitants.now.found in
    answered c.is_inhabited_by.result found.table.items c.as_slice.result.now found.waiting.items (type_of c.args.ty.now) c.as_slice.ensures.value c.is_inhabited_by.ensures
