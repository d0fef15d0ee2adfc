-- The numbers of the rules, and verdicts as the program has them.
use Rattle.std.specs.Prelude.{ℕ, Option, Some, None}
use Rattle.ap_defs.specs.declared.outcomes.Verdict.{Verdict}
use Rattle.ap_defs.specs.declared.outcomes.Verdict.TheVariants as verdicts
use Rattle.ap_checks.specs.Checks.{NominalVerdict, Refusal, refusal_of_rule, no, yes}
use Rattle.ap_checker.specs.declared.rules.Rule.{Rule}
use Rattle.ap_checker.specs.declared.rules.Rule.TheVariants as rules

abbrev pub rule_number : Rule → ℕ
rule_number rules.Shape = 1
rule_number rules.Clause = 2
rule_number rules.Count = 3
rule_number rules.Distinct = 4
rule_number rules.Typing = 5
rule_number rules.Head = 6
rule_number rules.Equal = 7
rule_number rules.Fresh = 8
rule_number rules.NewName = 9
rule_number rules.Answer = 10

-- the refusal of the node with this number, if a rule refuses it
abbrev pub node_refused : ℕ → Option Rule → Option Refusal
node_refused n None = None
node_refused n (Some r) = Some (refusal_of_rule n (rule_number r))

-- a verdict of the program
abbrev pub verdict_said : Verdict → NominalVerdict
verdict_said verdicts.Yes = yes
verdict_said (verdicts.No node rule) = no node rule
