use Rattle.std.proofs.Common.{◌∙◌, ℕ, List, ◌++◌, map, ap, ap₂}
use Rattle.ap_defs.specs.declared.goals.Local.{Local}
use Rattle.ap_defs.specs.Goals.{NominalGoal, query_of}
use Rattle.ap_defs.specs.Renaming.{local_vars}
use Rattle.ap_defs.specs.Terms.{term_of}
use Rattle.ap_defs.specs.Types.{NominalLocal, locals_of}
use Rattle.ap_instance.specs.Equations.{with_equations}
use Rattle.ap_instance.proofs.GoalLemmas.{equations_with}
use Rattle.ap_property.specs.Properties.{conclusion}
use Rattle.ap_property.specs.PutIn.{name_local}
use Rattle.ap_instance.proofs.putting.put_in_of.Goals as goal

pub returns : goal.returns
returns c i is =
    let q = query_of c.args.query.now in
    let queried = λ (g : NominalGoal) (ls : List NominalLocal). record q { goal = g; locals = ls } in
    let terms = ap (map term_of) c.deref.ensures.value ∙ is.terms in
    let sorts = c.deref-2.ensures.value ∙ is.sorts in
    let goal_is = c.in_ok-goal.ensures
    ∙ ap (λ (ls : List Local). with_equations (local_vars 0 (locals_of ls)) (map term_of c.deref.result.now) (conclusion q.goal)) c.items.ensures
    ∙ ap (λ ts. with_equations (local_vars 0 q.locals) ts (conclusion q.goal)) terms
    ∙ equations_with (local_vars 0 q.locals) i.terms (conclusion q.goal) in
    let locals_are = ap locals_of c.of.ensures ∙ c.in_ok-locals.ensures
    ∙ ap (λ (ls : List Local). locals_of ls ++ map name_local c.deref-2.result.now) c.items-2.ensures
    ∙ ap (λ (ss : List ℕ). q.locals ++ map name_local ss) sorts in
    ap₂ queried goal_is locals_are
