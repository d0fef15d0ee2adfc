use Rattle.ap_judge.proofs.TypingLemmas.{more_typed}
use Rattle.ap_judge.proofs.typing.Typed.keep.Goals as goal

pub returns : goal.returns
returns c = λ ts cs vars h k. more_typed ts cs vars c.args.self.now (record { known = c.insert.new.self }) c.args.line c.args.ty (λ j. c.in_ok-insert.ensures.updates.0 j) h k
