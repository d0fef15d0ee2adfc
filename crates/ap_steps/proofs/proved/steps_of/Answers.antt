use Rattle.std.proofs.Common.{◌≡◌, List, map, sym, ap, ◌∙◌}
use Rattle.std.specs.Prelude.{Option, Vec, position}
use Rattle.std.specs.Global.{Global}
use Rattle.std.proofs.lemmas.Result.{IfOk-weaker}
use Rattle.ap_defs.specs.declared.goals.Constructor.{Constructor}
use Rattle.ap_defs.specs.Answers.{answer_of}
use Rattle.ap_defs.specs.Derivations.{derivation_of}
use Rattle.ap_defs.specs.Freshness.{var_eq}
use Rattle.ap_defs.specs.Goals.{NominalQuery, program_of, query_of}
use Rattle.ap_defs.specs.Permutations.{name_eq}
use Rattle.ap_defs.specs.Printing.{Spelling}
use Rattle.ap_defs.specs.Types.{constructor_of}
use Rattle.ap_answers.specs.Spelled.{text_at}
use Rattle.ap_bundle.specs.Bundles.{proved_of}
use Rattle.ap_steps.specs.declared.steps.Step.{Step}
use Rattle.ap_steps.specs.Proofs.{steps_on_query, query_steps, shown_steps, writing}
use Rattle.ap_steps.specs.Spelling.{spelling_by, spelt}
use Rattle.ap_steps.specs.Steps.{DerivationWriting}
use Rattle.ap_steps.specs.Writers.{written_step}
use Rattle.ap_steps.proofs.proved.steps_of.Goals as goal

pub returns : goal.returns
returns c =
    let p = program_of c.args.program.now in
    let words = c.args.words.now in
    let k = c.args.proved.now.query in
    let a = answer_of c.args.proved.now.answer in
    let d = derivation_of c.args.proved.now.derivation in
    let q = query_of c.in-Some.query.now in
    let s = c.in_ok-spelt.spelt in
    let by : List Constructor → Spelling = λ cs. record {
      names = λ n. text_at s.name_words.items (position (name_eq n) s.names.keys);
      vars = λ x. text_at s.var_words.items (position (var_eq x) s.vars.keys);
      constructors = map constructor_of cs;
    } in
    let written : Spelling → DerivationWriting = λ b. record { clauses = p.clauses; words = words; by = b } in
    let spelled : by c.items.result.now ≡ spelling_by p (spelt p q a d) = ap by c.items.ensures ∙ ap (spelling_by p) c.in_ok-spelt.ensures in
    let whole : query_steps q k a d (written (by c.items.result.now)) ≡ shown_steps p words (proved_of c.args.proved.now) =
    ap (λ b. query_steps q k a d (written b)) spelled
    ∙ sym (ap (λ (o : Option NominalQuery). steps_on_query o (λ r. query_steps r k a d (writing p words r a d))) c.in-Some.ensures) in
    IfOk-weaker c.steps_of_query.result (λ (steps : Vec Step Global). map written_step steps.items ≡ query_steps q k a d (written (by c.items.result.now)))
    (λ (steps : Vec Step Global). map written_step steps.items ≡ shown_steps p words (proved_of c.args.proved.now)) (λ steps h. h ∙ whole) c.steps_of_query.ensures
