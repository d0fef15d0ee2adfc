use Rattle.std.proofs.Common.{List, [], ◌∷◌, ◌++◌, map, sym, ap, ap₂, ◌∙◌}
use Rattle.std.proofs.lemmas.List.{append-nil}
use Rattle.std.specs.Prelude.{ℕ}
use Rattle.ap_defs.specs.declared.goals.Local.{Local}
use Rattle.ap_defs.specs.declared.terms.Term.{Term}
use Rattle.ap_defs.specs.Answers.{answer_of}
use Rattle.ap_defs.specs.Derivations.{derivation_of}
use Rattle.ap_defs.specs.Goals.{query_of}
use Rattle.ap_defs.specs.Renaming.{local_names}
use Rattle.ap_defs.specs.Terms.{term_of}
use Rattle.ap_defs.specs.Types.{locals_of}
use Rattle.ap_checks.specs.OpenEnvironments.{open_environment}
use Rattle.ap_steps.specs.declared.walk.Waiting.{Waiting}
use Rattle.ap_steps.specs.Proofs.{query_environment, root_step}
use Rattle.ap_steps.specs.Steps.{NominalStep, pieces, premises_in, sides_in}
use Rattle.ap_steps.specs.Waits.{premises_steps, steps_left}
use Rattle.ap_steps.specs.Writers.{piece_of, writing_of}
use Rattle.ap_steps.proofs.WaitLemmas.{steps_of_premises}
use Rattle.ap_steps.proofs.proved.steps_of_query.Goals as goal

pub returns : goal.returns
returns c =
    let w = writing_of c.args.writer.now in
    let q = query_of c.args.query.now in
    let a = answer_of c.args.proved.now.answer in
    let d = derivation_of c.args.proved.now.derivation in
    let its = c.in_ok-pieces.ensures
    ∙ ap₂ (λ (ls : List Local) (ts : List Term). pieces w d q.goal (open_environment (locals_of ls) (local_names 0 (locals_of ls)) (map term_of ts))) (c.in_ok-own.ensures ∙ c.items.ensures) c.items-2.ensures in
    c.in_ok-add_steps.ensures
    ∙ ap₂ (λ (xs ys : List NominalStep). xs ++ ys)
    (c.in_ok-steps.ensures ∙ ap (λ (ss : List (List ℕ)). root_step w q c.args.proved.now.query a ss ∷ []) (c.in_ok-sides.ensures.sides ∙ ap sides_in its))
    (c.in_ok-sides.ensures.steps w
    ∙ ap (λ (ws : List Waiting). premises_steps w 1 (premises_in (map piece_of c.in_ok-pieces.pieces.items)) ++ steps_left w ws) c.new-waiting.ensures.items
    ∙ append-nil (premises_steps w 1 (premises_in (map piece_of c.in_ok-pieces.pieces.items)))
    ∙ ap (λ ps. premises_steps w 1 (premises_in ps)) its ∙ sym (steps_of_premises w 1 d q.goal (query_environment q a)))
