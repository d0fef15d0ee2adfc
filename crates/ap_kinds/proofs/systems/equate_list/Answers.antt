use Rattle.std.proofs.Common.{refl}
use Rattle.ap_defs.specs.Types.{shape_of, hole, list}
use Rattle.ap_kinds.proofs.SystemLemmas.{equated_in}
use Rattle.ap_kinds.proofs.systems.equate_list.Goals as goal

pub returns-then-put_entry : goal.returns-then-put_entry
returns-then-put_entry c =
    let s = c.args.system.now in
    equated_in s.nodes.items c.put_entry.new.nodes.items s.equations.items s.names.items s.next (shape_of c.args.want) (list (hole c.args.element)) (c.if-put_entry.ensures.put refl)
