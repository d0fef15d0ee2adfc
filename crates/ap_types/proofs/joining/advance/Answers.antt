use Rattle.std.proofs.Common.{◌≡◌, ◌++◌, ◌∷◌, [], List, length, subst, sym, arith, ℕ}
use Rattle.ap_types.specs.declared.nodes.Node.{Node}
use Rattle.ap_types.specs.Triangular.{shapes_of_nodes}
use Rattle.ap_types.specs.Joining.{TablesLead, ArePairsWithin, pairs_of, Joins}
use Rattle.ap_types.proofs.TableLemmas.{length_table}
use Rattle.ap_types.proofs.JoinLemmas.{leads_pair, written_back}
use Rattle.ap_types.proofs.joining.advance.Goals as goal

pub returns-in_ok-pairs-in-Some-clause-ok : goal.returns-in_ok-pairs-in-Some-clause-ok
returns-in_ok-pairs-in-Some-clause-ok c =
    let ns = c.args.loaded.nodes.items in
    let ps = c.args.loaded.pairs.items in
    let new = c.join.new.nodes in
    let rest = pairs_of c.in-Some.rest in
    let pair : List (ℕ × ℕ) = (c.args.x, c.args.y) ∷ [] in
    let kept : length new ≡ length c.deref_mut.result.now = c.join.auto.nodes in
    let as_long : length new ≡ c.args.loaded.nodes.len = omega (arith, c.deref_mut.ensures.len) in
    let joins : Joins (shapes_of_nodes ns) c.args.x c.args.y (shapes_of_nodes new) rest =
    subst (λ (ms : List Node). Joins (shapes_of_nodes ms) c.args.x c.args.y (shapes_of_nodes new) rest) c.deref_mut.ensures.value c.in-Some.ensures in
    let w : ArePairsWithin (length (shapes_of_nodes ns)) ps = subst (λ n. ArePairsWithin n ps) (sym (length_table ns)) c.requires.within in
    subst (λ (ms : List Node). TablesLead (shapes_of_nodes ns) (ps ++ pair) (shapes_of_nodes ms) c.in_ok-pairs-in-Some.pairs.items) (sym (written_back new ns c.args.loaded.nodes.len as_long))
    (subst (λ (qs : List (ℕ × ℕ)). TablesLead (shapes_of_nodes ns) (ps ++ pair) (shapes_of_nodes new) qs) (sym c.in_ok-pairs-in-Some.ensures)
    (leads_pair (shapes_of_nodes ns) (shapes_of_nodes new) c.args.x c.args.y ps rest w joins))
