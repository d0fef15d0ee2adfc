use Rattle.std.proofs.Common.{List, ◌++◌, ℕ, ap, ◌∙◌, append_assoc}
use Rattle.std.specs.Prelude.{codes}
use Rattle.ap_steps.specs.Latex.{page, tree}
use Rattle.ap_steps.proofs.latex.write_page.Goals as goal

pub returns : goal.returns
unfolding page
returns c =
    let old = c.args.out.now.items in
    let rules = tree 0 c.args.steps.now in
    c.in_ok-extend_from_slice-2.ensures.items
    ∙ ap (λ (xs : List ℕ). xs ++ codes "}\n") (c.in_ok-write_tree.ensures ∙ ap (λ (xs : List ℕ). xs ++ rules) c.in_ok-extend_from_slice.ensures.items)
    ∙ append_assoc (old ++ codes "\\derivation{") rules (codes "}\n")
    ∙ append_assoc old (codes "\\derivation{") (rules ++ codes "}\n")
