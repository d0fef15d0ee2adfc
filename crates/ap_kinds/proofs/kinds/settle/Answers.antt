use Rattle.std.proofs.Common.{inl}
use Rattle.ap_kinds.proofs.kinds.settle.Goals as goal

pub returns-in-Err-Clash-clause-err : goal.returns-in-Err-Clash-clause-err
returns-in-Err-Clash-clause-err c = inl (c.in-Err-Clash.ensures.clash c.in-Err-Clash.field-0-is)
