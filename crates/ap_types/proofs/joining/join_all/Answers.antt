use Rattle.std.proofs.Common.{◌++◌, ◌∷◌, [], List, length, subst, arith, ℕ}
use Rattle.std.proofs.lemmas.Result.{err_from_is_err_and}
use Rattle.ap_types.specs.Triangular.{shapes_of_nodes}
use Rattle.ap_types.specs.Joining.{TablesLead, ArePairsWithin}
use Rattle.ap_types.proofs.TableLemmas.{length_table}
use Rattle.ap_types.proofs.JoinLemmas.{leads_on, never_pair, within_front}
use Rattle.ap_types.proofs.joining.join_all.Goals as goal

split : (c : goal.In-Some) → ArePairsWithin (length (shapes_of_nodes c.steps.loaded.nodes.items)) (c.pop.new.self.items ++ (c.in-Some.x, c.in-Some.y) ∷ [])
split c = subst (ArePairsWithin (length (shapes_of_nodes c.steps.loaded.nodes.items))) c.in-Some.ensures.items c.steps.invariant.within

pub advance-requires-clause-left : goal.advance-requires-clause-left
advance-requires-clause-left c =
    let ns = c.steps.loaded.nodes.items in
    let w = (within_front (length (shapes_of_nodes ns)) c.pop.new.self.items ((c.in-Some.x, c.in-Some.y) ∷ []) (split c)).1.0 in
    omega (arith, w, length_table ns)

pub advance-requires-clause-right : goal.advance-requires-clause-right
advance-requires-clause-right c =
    let ns = c.steps.loaded.nodes.items in
    let w = (within_front (length (shapes_of_nodes ns)) c.pop.new.self.items ((c.in-Some.x, c.in-Some.y) ∷ []) (split c)).1.1 in
    omega (arith, w, length_table ns)

pub advance-requires-clause-within : goal.advance-requires-clause-within
advance-requires-clause-within c =
    let ns = c.steps.loaded.nodes.items in
    let w = (within_front (length (shapes_of_nodes ns)) c.pop.new.self.items ((c.in-Some.x, c.in-Some.y) ∷ []) (split c)).0 in
    subst (λ n. ArePairsWithin n c.pop.new.self.items) (length_table ns) w

pub returns-in_err-loaded-clause-clash : goal.returns-in_err-loaded-clause-clash
returns-in_err-loaded-clause-clash c =
    let p = err_from_is_err_and c.from_residual.result c.from_residual.ensures.1 in
    let all = c.args.first.pairs.items in
    let leads : TablesLead (shapes_of_nodes c.args.first.nodes.items) all (shapes_of_nodes c.steps.loaded.nodes.items) (c.pop.new.self.items ++ (c.in-Some.x, c.in-Some.y) ∷ []) =
    subst (λ (ps : List (ℕ × ℕ)). TablesLead (shapes_of_nodes c.args.first.nodes.items) all (shapes_of_nodes c.steps.loaded.nodes.items) ps) c.in-Some.ensures.items c.steps.invariant in
    rw (p.1, p.2) (λ i. never_pair (shapes_of_nodes c.args.first.nodes.items) (shapes_of_nodes c.steps.loaded.nodes.items) c.in-Some.x c.in-Some.y all c.pop.new.self.items
    leads (c.in_err-loaded.ensures.clash i))

pub steps-preserved : goal.steps-preserved
steps-preserved c =
    let all = c.args.first.pairs.items in
    let leads : TablesLead (shapes_of_nodes c.args.first.nodes.items) all (shapes_of_nodes c.steps.loaded.nodes.items) (c.pop.new.self.items ++ (c.in-Some.x, c.in-Some.y) ∷ []) =
    subst (λ (ps : List (ℕ × ℕ)). TablesLead (shapes_of_nodes c.args.first.nodes.items) all (shapes_of_nodes c.steps.loaded.nodes.items) ps) c.in-Some.ensures.items c.steps.invariant in
    leads_on (shapes_of_nodes c.args.first.nodes.items) (shapes_of_nodes c.steps.loaded.nodes.items) (shapes_of_nodes c.in_ok-loaded.loaded.nodes.items) all
    (c.pop.new.self.items ++ (c.in-Some.x, c.in-Some.y) ∷ []) c.in_ok-loaded.loaded.pairs.items leads c.in_ok-loaded.ensures.ok
