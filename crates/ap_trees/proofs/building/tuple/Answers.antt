use Rattle.std.proofs.Common.{◌≡◌, ◌++◌, ◌∷◌, [], sym, ◌∙◌, ap, append_assoc}
use Rattle.std.proofs.lemmas.List.{map-append}
use Rattle.ap_trees.specs.Terms.{tuple}
use Rattle.ap_trees.specs.Trees.{term_of, trees_of}
use Rattle.ap_trees.proofs.TermLists.{tuple_end}
use Rattle.ap_trees.proofs.building.tuple.Goals as goal

pub loop-part-preserved : goal.loop-part-preserved
loop-part-preserved c =
    let front = trees_of c.pop-in-loop-part.new.self.items in
    let parts : trees_of c.loop-part.parts.items ≡ front ++ term_of c.in-Some-pop.part ∷ [] =
    ap trees_of c.in-Some-pop.ensures.items ∙ map-append term_of c.pop-in-loop-part.new.self.items (c.in-Some-pop.part ∷ []) in
    let before : tuple ((front ++ term_of c.in-Some-pop.part ∷ []) ++ term_of c.loop-part.whole ∷ []) ≡ tuple (trees_of c.args.parts.items) = rw parts at c.loop-part.invariant in
    rw (c.in_ok-new.ensures.ok, c.in_ok-new-2.ensures.ok)
    (sym (tuple_end front (term_of c.in-Some-pop.part) (term_of c.loop-part.whole)) ∙ (rw append_assoc at before))
