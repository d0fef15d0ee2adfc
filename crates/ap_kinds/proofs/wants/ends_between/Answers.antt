use Rattle.std.proofs.Common.{◌≡◌, ◌∙◌, ◌&&◌, List, map, sym, ap}
use Rattle.ap_defs.specs.declared.terms.Shape.{Shape}
use Rattle.ap_defs.specs.Types.{shape_of}
use Rattle.ap_types.specs.Equations.{equation_of}
use Rattle.ap_types.specs.Growing.{is_same}
use Rattle.ap_kinds.specs.Gathering.{is_between, ends_between}
use Rattle.ap_kinds.proofs.LastLemmas.{ends_in_last}
use Rattle.ap_kinds.proofs.wants.ends_between.Goals as goal

pub returns-then-is_same : goal.returns-then-is_same
returns-then-is_same c =
    let t = shape_of c.args.t.now in
    let u = shape_of c.args.u.now in
    let last = c.in-Some.last.now in
    let es = c.as_slice.result.now in
    let whole : ends_between t u (map equation_of c.args.system.now.equations.items) ≡ is_between t u (equation_of last) =
    ap (λ (fs : List (Shape × Shape)). ends_between t u (map equation_of fs)) (sym c.as_slice.ensures.value) ∙ ends_in_last t u es c.in-Some.field-0-1.now last c.in-Some.ensures.cases in
    c.is_same-then-is_same.ensures ∙ ap (λ b. b && is_same (shape_of last.1) u) c.if-is_same.ensures ∙ sym whole

pub returns-else-is_same : goal.returns-else-is_same
returns-else-is_same c =
    let t = shape_of c.args.t.now in
    let u = shape_of c.args.u.now in
    let last = c.in-Some.last.now in
    let es = c.as_slice.result.now in
    let whole : ends_between t u (map equation_of c.args.system.now.equations.items) ≡ is_between t u (equation_of last) =
    ap (λ (fs : List (Shape × Shape)). ends_between t u (map equation_of fs)) (sym c.as_slice.ensures.value) ∙ ends_in_last t u es c.in-Some.field-0-1.now last c.in-Some.ensures.cases in
    c.is_same.ensures ∙ sym c.if-is_same.ensures ∙ ap (λ b. b && is_same (shape_of last.1) u) c.if-is_same.ensures ∙ sym whole
