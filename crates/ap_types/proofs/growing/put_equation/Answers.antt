use Rattle.ap_defs.specs.Types.{shape_of}
use Rattle.ap_types.specs.Triangular.{shapes_of_nodes}
use Rattle.ap_types.proofs.PutLemmas.{no_equation_right}
use Rattle.ap_types.proofs.growing.put_equation.Goals as goal

pub returns-in-None-clause-none : goal.returns-in-None-clause-none
returns-in-None-clause-none c = λ e. no_equation_right (shapes_of_nodes c.args.nodes.now.items) (shape_of c.args.left.now) (shape_of c.args.right.now) c.in-None.ensures
