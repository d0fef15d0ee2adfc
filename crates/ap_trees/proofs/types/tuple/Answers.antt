use Rattle.std.proofs.Common.{◌≡◌, ◌++◌, ◌∷◌, [], sym, ◌∙◌, ap, append_assoc}
use Rattle.std.proofs.lemmas.List.{map-append}
use Rattle.ap_trees.specs.Trees.{type_of_tree, types_of}
use Rattle.ap_trees.specs.Types.{tuple_type}
use Rattle.ap_trees.proofs.Lists.{tuple_end}
use Rattle.ap_trees.proofs.types.tuple.Goals as goal

pub loop-part-preserved : goal.loop-part-preserved
loop-part-preserved c =
    let front = types_of c.pop-in-loop-part.new.self.items in
    let parts : types_of c.loop-part.parts.items ≡ front ++ type_of_tree c.in-Some-pop.part ∷ [] =
    ap types_of c.in-Some-pop.ensures.items ∙ map-append type_of_tree c.pop-in-loop-part.new.self.items (c.in-Some-pop.part ∷ []) in
    let before : tuple_type ((front ++ type_of_tree c.in-Some-pop.part ∷ []) ++ type_of_tree c.loop-part.whole ∷ []) ≡ tuple_type (types_of c.args.parts.items) = rw parts at c.loop-part.invariant in
    rw (c.in_ok-new.ensures.ok, c.in_ok-new-2.ensures.ok)
    (sym (tuple_end front (type_of_tree c.in-Some-pop.part) (type_of_tree c.loop-part.whole)) ∙ (rw append_assoc at before))
