use Rattle.std.proofs.Common.{◌≡◌, ◌++◌, ◌∷◌, [], sym, ◌∙◌, ap}
use Rattle.std.proofs.lemmas.List.{map-append}
use Rattle.ap_trees.specs.Terms.{argument_terms}
use Rattle.ap_trees.specs.Trees.{term_of, terms_of, trees_of}
use Rattle.ap_trees.proofs.TermLists.{onto, onto_end, onto_last}
use Rattle.ap_trees.proofs.building.arguments.Goals as goal

pub loop-part-init : goal.loop-part-init
loop-part-init c =
    onto_last (trees_of c.pop.new.self.items) (term_of c.in-Some.last)
    ∙ sym (ap (λ ts. argument_terms (trees_of ts)) c.in-Some.ensures.items ∙ ap argument_terms (map-append term_of c.pop.new.self.items (c.in-Some.last ∷ [])))

pub loop-part-preserved : goal.loop-part-preserved
loop-part-preserved c =
    let front = trees_of c.pop-in-loop-part.new.self.items in
    let parts : trees_of c.loop-part.parts.items ≡ front ++ term_of c.in-Some-pop.part ∷ [] =
    ap trees_of c.in-Some-pop.ensures.items ∙ map-append term_of c.pop-in-loop-part.new.self.items (c.in-Some-pop.part ∷ []) in
    let before : onto (front ++ term_of c.in-Some-pop.part ∷ []) (terms_of c.loop-part.args) ≡ argument_terms (trees_of c.args.parts.items) = rw parts at c.loop-part.invariant in
    rw c.in_ok-new.ensures.ok (sym (onto_end front (term_of c.in-Some-pop.part) (terms_of c.loop-part.args)) ∙ before)
