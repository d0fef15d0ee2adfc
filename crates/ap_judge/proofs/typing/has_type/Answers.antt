use Rattle.std.proofs.Common.{◌≡◌, ◌++◌, [], ◌∷◌, map, ap, subst, sym, ◌∙◌}
use Rattle.ap_defs.specs.Answers.{typed_var_of}
use Rattle.ap_defs.specs.Types.{constructor_of, type_of}
use Rattle.ap_defs.specs.Typing.{one}
use Rattle.ap_checks.specs.TypeTests.{is_typed, type_beside}
use Rattle.ap_shared.specs.Shared.{shared_at}
use Rattle.ap_shared.specs.SharedViews.{shared_terms}
use Rattle.ap_judge.specs.declared.types.Wanted.TheVariants as wanted
use Rattle.ap_judge.specs.declared.typing.Task.{Task}
use Rattle.ap_judge.specs.declared.typing.Task.TheVariants as task
use Rattle.ap_judge.proofs.TypingLemmas.{first_all, first_earned, taken_earned, taken_false, taken_less, taken_true}
use Rattle.ap_judge.proofs.typing.has_type.Goals as goal

pub loop-next-init : goal.loop-next-init
loop-next-init c =
    let ts = shared_terms c.args.terms.now in
    let cs = map constructor_of c.args.constructors.now in
    let vars = type_beside (map typed_var_of c.args.answer.now.vars) in
    let first : Task = task.Look (record { line = c.args.line; wanted = wanted.One c.args.ty }) in
    let only = c.in_ok-push.ensures.items ∙ ap (λ ks. ks ++ first ∷ []) c.new-tasks.ensures.items in
    record {
      all = first_all ts cs vars c.push.new.self.items (record { line = c.args.line; wanted = wanted.One c.args.ty }) only;
      earned = first_earned ts cs vars c.push.new.self.items (record { line = c.args.line; wanted = wanted.One c.args.ty }) only;
      typed = c.requires;
    }

pub loop-next-preserved : goal.loop-next-preserved
loop-next-preserved c =
    let ts = shared_terms c.args.terms.now in
    let cs = map constructor_of c.args.constructors.now in
    let vars = type_beside (map typed_var_of c.args.answer.now.vars) in
    let whole = is_typed cs vars (shared_at ts c.args.line) (one (type_of c.args.ty.now)) in
    record {
      all =
          taken_true ts cs vars whole c.loop-next.tasks.items c.pop.new.self.items c.advance.new.tasks.items c.in-Some.next c.in-Some.ensures.items
          c.in_ok-advance.field-0 c.if-not-branch.false c.in_ok-advance.ensures.taken c.loop-next.invariant.all;
      earned =
          taken_earned ts cs vars whole c.loop-next.tasks.items c.pop.new.self.items c.advance.new.tasks.items c.in-Some.next c.in-Some.ensures.items
          c.in_ok-advance.field-0 c.if-not-branch.false c.in_ok-advance.ensures.taken c.loop-next.invariant.earned;
      typed = c.in_ok-advance.ensures.typed;
    }

pub loop-next-smaller : goal.loop-next-smaller
loop-next-smaller c =
    let ts = shared_terms c.args.terms.now in
    let cs = map constructor_of c.args.constructors.now in
    let vars = type_beside (map typed_var_of c.args.answer.now.vars) in
    let whole = is_typed cs vars (shared_at ts c.args.line) (one (type_of c.args.ty.now)) in
    taken_less ts cs vars whole c.loop-next.tasks.items c.pop.new.self.items c.advance.new.tasks.items c.in-Some.next c.in-Some.ensures.items
    c.in_ok-advance.field-0 c.if-not-branch.false c.in_ok-advance.ensures.taken

pub returns-then-not-branch-clause-value : goal.returns-then-not-branch-clause-value
returns-then-not-branch-clause-value c =
    let ts = shared_terms c.args.terms.now in
    let cs = map constructor_of c.args.constructors.now in
    let vars = type_beside (map typed_var_of c.args.answer.now.vars) in
    let whole = is_typed cs vars (shared_at ts c.args.line) (one (type_of c.args.ty.now)) in
    taken_false ts cs vars whole c.loop-next.tasks.items c.pop.new.self.items c.advance.new.tasks.items c.in-Some.next c.in-Some.ensures.items
    c.in_ok-advance.field-0 c.if-not-branch.true c.in_ok-advance.ensures.taken c.loop-next.invariant.all
