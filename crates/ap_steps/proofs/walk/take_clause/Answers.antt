use Rattle.std.proofs.Common.{List, [], ◌∷◌, ◌++◌, map, ap, ap₂, ◌∙◌}
use Rattle.std.proofs.lemmas.List.{map-append}
use Rattle.std.specs.Prelude.{ℕ}
use Rattle.ap_defs.specs.declared.goals.Local.{Local}
use Rattle.ap_defs.specs.Derivations.{derivation_of}
use Rattle.ap_defs.specs.Goals.{clause_of, goal_of}
use Rattle.ap_defs.specs.Terms.{term_of}
use Rattle.ap_defs.specs.Types.{locals_of}
use Rattle.ap_checks.specs.OpenEnvironments.{open_environment}
use Rattle.ap_steps.specs.Steps.{NominalStep, pieces, premises_in, sides_in}
use Rattle.ap_steps.specs.Waits.{premises_steps, steps_left}
use Rattle.ap_steps.specs.Writers.{bare, piece_of, written_step, writing_of}
use Rattle.ap_steps.proofs.WaitLemmas.{clause_nodes, clause_taken}
use Rattle.ap_steps.proofs.walk.take_clause.Goals as goal

pub returns-clause-steps : goal.returns-clause-steps
returns-clause-steps c =
    let w = writing_of c.args.writer.now in
    let names = c.args.used.names.now in
    let ts = map term_of c.args.used.terms.now in
    let d = derivation_of c.args.used.body.now in
    let its = c.in_ok-pieces.ensures ∙ ap (λ (ls : List Local). pieces w d (goal_of c.args.clause.now.body) (open_environment (locals_of ls) names ts)) (c.in_ok-own.ensures ∙ c.items.ensures) in
    let old : List NominalStep = map written_step c.args.steps.now.items in
    clause_taken w c.args.depth c.args.used.number c.args.judgement.text names ts d (clause_of c.args.clause.now) (map piece_of c.in_ok-pieces.pieces.items) old
    (map written_step c.push.new.self.items) c.args.waiting.now.items c.place_pieces.new.waiting.items its
    (ap (map written_step) c.in_ok-push.ensures.items ∙ map-append written_step c.args.steps.now.items _
    ∙ ap₂ (λ (r : List ℕ) (ss : List (List ℕ)). old ++ (record { depth = c.args.depth; judgement = c.args.judgement.text; rule = r; sides = ss }) ∷ [])
    c.in_ok-rule.ensures (ap (map bare) c.of-2.ensures ∙ c.in_ok-sides.ensures.sides ∙ ap sides_in its))
    (c.in_ok-sides.ensures.steps w
    ∙ ap (λ n. premises_steps w n (premises_in (map piece_of c.in_ok-pieces.pieces.items)) ++ steps_left w c.args.waiting.now.items) c.saturating_add.ensures)

pub returns-clause-nodes : goal.returns-clause-nodes
returns-clause-nodes c =
    let w = writing_of c.args.writer.now in
    let names = c.args.used.names.now in
    let ts = map term_of c.args.used.terms.now in
    let d = derivation_of c.args.used.body.now in
    let its = c.in_ok-pieces.ensures ∙ ap (λ (ls : List Local). pieces w d (goal_of c.args.clause.now.body) (open_environment (locals_of ls) names ts)) (c.in_ok-own.ensures ∙ c.items.ensures) in
    clause_nodes w d (goal_of c.args.clause.now.body) (open_environment (locals_of c.args.clause.now.locals) names ts) (map piece_of c.in_ok-pieces.pieces.items) _ _ its
    c.in_ok-sides.ensures.nodes
