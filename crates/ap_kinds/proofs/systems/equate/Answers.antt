use Rattle.std.proofs.Common.{refl}
use Rattle.ap_defs.specs.Types.{shape_of}
use Rattle.ap_kinds.proofs.SystemLemmas.{equated_in, equated_besides}
use Rattle.ap_kinds.proofs.systems.equate.Goals as goal

pub returns-then-put_equation : goal.returns-then-put_equation
returns-then-put_equation c =
    let s = c.args.system.now in
    equated_in s.nodes.items c.put_equation.new.nodes.items s.equations.items s.names.items s.next (shape_of c.args.left) (shape_of c.args.right) (c.if-put_equation.ensures.put refl)

pub returns : goal.returns
returns c =
    let s = c.args.system.now in
    equated_besides s.nodes.items c.put_equation.new.nodes.items s.equations.items c.push.new.self.items s.names.items s.next c.args.left c.args.right
    (c.if-put_equation.ensures.none refl) (c.if-put_equation.ensures.kept refl) c.in_ok-push.ensures.items
