use Rattle.std.proofs.Common.{length, ap}
use Rattle.ap_defs.specs.Types.{signature_of}
use Rattle.ap_types.specs.Triangular.{assignment_of}
use Rattle.ap_kinds.specs.declared.read_types.Declared.{Declared}
use Rattle.ap_kinds.specs.ReadTypes.{IsDeclaredBy}
use Rattle.ap_kinds.proofs.PlaceLemmas.{given, given_err}
use Rattle.ap_kinds.proofs.kinds.read_table.Goals as goal

pub returns-clause-read : goal.returns-clause-read
returns-clause-read c =
    let sig = signature_of c.args.sig.now in
    let ts = assignment_of c.args.table.now in
    let by : Declared = record { name_types = length c.items.result.now; data_types = length c.items-2.result.now; inhabitants = c.args.inhabitants } in
    let declared : IsDeclaredBy by sig = record { name_types = ap length c.items.ensures; data_types = ap length c.items-2.ensures; inhabitants = c.requires.inhabited } in
    let first = c.in_ok-reads.ensures in
    given c.read_inhabited.result (λ ks k. k by sig ts declared first) c.read_inhabited.ensures.read

pub returns-clause-inhabited : goal.returns-clause-inhabited
returns-clause-inhabited c =
    let sig = signature_of c.args.sig.now in
    let ts = assignment_of c.args.table.now in
    let by : Declared = record { name_types = length c.items.result.now; data_types = length c.items-2.result.now; inhabitants = c.args.inhabitants } in
    let declared : IsDeclaredBy by sig = record { name_types = ap length c.items.ensures; data_types = ap length c.items-2.ensures; inhabitants = c.requires.inhabited } in
    let first = c.in_ok-reads.ensures in
    given c.read_inhabited.result (λ ks k. k by sig ts declared first) c.read_inhabited.ensures.inhabited

pub returns-clause-unread : goal.returns-clause-unread
returns-clause-unread c =
    let sig = signature_of c.args.sig.now in
    let ts = assignment_of c.args.table.now in
    let by : Declared = record { name_types = length c.items.result.now; data_types = length c.items-2.result.now; inhabitants = c.args.inhabitants } in
    let declared : IsDeclaredBy by sig = record { name_types = ap length c.items.ensures; data_types = ap length c.items-2.ensures; inhabitants = c.requires.inhabited } in
    let first = c.in_ok-reads.ensures in
    given_err c.read_inhabited.result (λ e k. k by sig ts declared first) c.read_inhabited.ensures.unread
