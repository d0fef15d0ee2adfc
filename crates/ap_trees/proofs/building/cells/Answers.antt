use Rattle.std.proofs.Common.{◌≡◌, ◌++◌, ◌∷◌, [], sym, ◌∙◌, ap}
use Rattle.std.proofs.lemmas.List.{map-append}
use Rattle.ap_trees.specs.Terms.{cells}
use Rattle.ap_trees.specs.Trees.{term_of, trees_of}
use Rattle.ap_trees.proofs.TermLists.{cells_end}
use Rattle.ap_trees.proofs.building.cells.Goals as goal

pub loop-part-preserved : goal.loop-part-preserved
loop-part-preserved c =
    let front = trees_of c.pop.new.self.items in
    let parts : trees_of c.loop-part.parts.items ≡ front ++ term_of c.in-Some.part ∷ [] =
    ap trees_of c.in-Some.ensures.items ∙ map-append term_of c.pop.new.self.items (c.in-Some.part ∷ []) in
    let before : cells (front ++ term_of c.in-Some.part ∷ []) (term_of c.loop-part.whole) ≡ cells (trees_of c.args.parts.items) (term_of c.args.end) = rw parts at c.loop-part.invariant in
    rw (c.in_ok-new.ensures.ok, c.in_ok-new-2.ensures.ok) (sym (cells_end front (term_of c.in-Some.part) (term_of c.loop-part.whole)) ∙ before)
