use Rattle.std.proofs.Common.{rules}
use Rattle.std.proofs.lemmas.List.{nil_from_length}
use Rattle.ap_derive.proofs.closing.go_to.Goals as goal

pub go_to_bare-requires-clause-bare : goal.go_to_bare-requires-clause-bare
go_to_bare-requires-clause-bare c = nil_from_length c.args.swaps.items (search rules)
