use Rattle.ap_types.proofs.LoadLemmas.{loads_no_names}
use Rattle.ap_types.proofs.loading.load_name_equations.Goals as goal

pub returns : goal.returns
returns c =
    loads_no_names c.args.name_types c.args.names.now c.args.loaded.nodes.items c.args.loaded.pairs.items c.if-name_types-eq1.false c.requires.formed c.requires.within
