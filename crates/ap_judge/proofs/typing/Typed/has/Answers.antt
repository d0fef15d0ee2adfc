use Rattle.std.proofs.Common.{◌≡◌, sym, ◌∙◌}
use Rattle.std.proofs.lemmas.Result.{IfOk-weaker}
use Rattle.ap_defs.specs.Types.{type_of}
use Rattle.ap_judge.proofs.TypingLemmas.{typed_same}
use Rattle.ap_judge.proofs.typing.Typed.has.Goals as goal

pub returns-in-Some : goal.returns-in-Some
returns-in-Some c =
    IfOk-weaker c.is_same.result _ _
    (λ yes h e ts cs vars typed. typed_same ts cs vars c.args.line (type_of c.in-Some.known.now.now) (type_of c.args.ty.now) (sym h ∙ e) (typed c.args.line c.in-Some.known.now (sym c.in-Some.ensures.value)))
    c.is_same.ensures
