use Rattle.std.proofs.Common.{◌++◌, ◌∷◌, [], List}
use Rattle.std.proofs.lemmas.Result.{on_ok_weaker}
use Rattle.ap_defs.specs.Types.{NominalConstructor, constructor_of}
use Rattle.ap_types.specs.Questions.{test_of}
use Rattle.ap_types.specs.Rules.{RulesLead, IsLeastSoFar}
use Rattle.ap_types.proofs.QuestionLemmas.{test_grows}
use Rattle.ap_types.proofs.RuleLemmas.{stands_more}
use Rattle.ap_types.proofs.rounds.add_constructor.Goals as goal

pub returns : goal.returns
returns c =
    let question = c.args.question in
    let one = constructor_of c.args.constructor.now in
    let rules = c.in_ok-rules.rules.items in
    let old = c.args.least.now in
    on_ok_weaker c.add_rules.result
    (λ (h : RulesLead rules old [] c.add_rules.new.least) (cs : List NominalConstructor) (k : IsLeastSoFar question cs old).
    h question (cs ++ one ∷ []) (stands_more (test_of question) (test_grows question) cs one rules old.table.items old.waiting.items c.in_ok-rules.ensures k))
    c.add_rules.ensures
