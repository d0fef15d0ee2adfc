-- Derivations that are refused, as the program has them.
use Rattle.ap_checker.specs.declared.refusals.Refusal.{Refusal}
use Rattle.ap_verdicts.specs.Verdicts.{RefusedProof}

abbrev pub refusal_of : Refusal → RefusedProof
refusal_of r = record { number = r.number; node = r.node; rule = r.rule }
