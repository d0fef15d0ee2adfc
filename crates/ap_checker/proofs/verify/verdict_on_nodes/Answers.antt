use Rattle.std.proofs.Common.{ap, subst, sym, ◌∙◌}
use Rattle.ap_shared.specs.declared.arena.SharedTerms.{SharedTerms}
use Rattle.ap_shared.specs.SharedViews.{shared_answer, shared_derivation, shared_terms}
use Rattle.ap_defs.specs.Goals.{program_of, query_of}
use Rattle.ap_checks.specs.Checks.{no}
use Rattle.ap_checker.specs.declared.walk.Walk.{Walk}
use Rattle.ap_checker.specs.Tables.{IsWalkIn}
use Rattle.ap_judge.specs.Typings.{AreTypesKnown}
use Rattle.ap_checker.specs.Walks.{refusal_on}
use Rattle.ap_checker.proofs.TableLemmas.{next_of, walk_next}
use Rattle.ap_checker.proofs.WalkLemmas.{turn_goes_on, turn_refuses, turn_smaller}
use Rattle.ap_checker.proofs.verify.verdict_on_nodes.Goals as goal

pub returns-in-Some-2 : goal.returns-in-Some-2
returns-in-Some-2 c =
    let p = program_of c.args.program.now in
    let a = shared_answer (shared_terms c.args.terms.now) c.args.indexed.now in
    let before : Walk = record { standing = c.truncate.new.self; pending = c.pop.new.self } in
    ap (no c.saturating_add-node.result) c.number-rule.ensures
    ∙ turn_refuses p a (refusal_on p (query_of c.args.query.now) a (shared_derivation (shared_terms c.args.terms.now) c.args.derivation.now)) c.nodes.node c.saturating_add-node.result c.nodes.walk before c.visit.new.walk c.in-Some.next c.nodes.invariant.way
    c.in-Some.ensures.items c.truncate.ensures.items c.saturating_add-node.ensures c.in_ok-rule.field-0 c.in-Some-2.rule c.in-Some-2.is (c.in_ok-rule.ensures.visited (shared_terms c.args.terms.now))

pub nodes-preserved : goal.nodes-preserved
nodes-preserved c =
    let p = program_of c.args.program.now in
    let a = shared_answer (shared_terms c.args.terms.now) c.args.indexed.now in
    let before : Walk = record { standing = c.truncate.new.self; pending = c.pop.new.self } in
    let same = next_of c.args.terms.now c.nodes.walk before c.in-Some.next c.in-Some.next.mark c.in-Some.ensures.items c.truncate.ensures.items c.nodes.invariant.of in
    record {
      way =
          turn_goes_on p a (refusal_on p (query_of c.args.query.now) a (shared_derivation (shared_terms c.args.terms.now) c.args.derivation.now)) c.nodes.node c.saturating_add-node.result c.nodes.walk before c.visit.new.walk c.in-Some.next c.nodes.invariant.way
          c.in-Some.ensures.items c.truncate.ensures.items c.saturating_add-node.ensures c.in_ok-rule.field-0 c.in_default-2.is (c.in_ok-rule.ensures.visited (shared_terms c.args.terms.now));
      of = subst (λ (ts : SharedTerms). IsWalkIn ts c.visit.new.walk) same c.in_ok-rule.ensures.of;
      typed = subst (λ (ts : SharedTerms). AreTypesKnown ts c.args.program.now.signature.constructors c.args.indexed.now.vars c.visit.new.typed) same c.in_ok-rule.ensures.typed;
    }

pub visit-requires-clause-of : goal.visit-requires-clause-of
visit-requires-clause-of c =
    let before : Walk = record { standing = c.truncate.new.self; pending = c.pop.new.self } in
    let n = c.in-Some.next.mark in
    let top = c.in-Some.ensures.items in
    let same = next_of c.args.terms.now c.nodes.walk before c.in-Some.next n top c.truncate.ensures.items c.nodes.invariant.of in
    subst (λ (ts : SharedTerms). IsWalkIn ts before) (sym same) (walk_next c.args.terms.now c.nodes.walk before c.in-Some.next n top c.truncate.ensures.items c.nodes.invariant.of)

pub visit-requires-clause-typed : goal.visit-requires-clause-typed
visit-requires-clause-typed c =
    let before : Walk = record { standing = c.truncate.new.self; pending = c.pop.new.self } in
    let same = next_of c.args.terms.now c.nodes.walk before c.in-Some.next c.in-Some.next.mark c.in-Some.ensures.items c.truncate.ensures.items c.nodes.invariant.of in
    subst (λ (ts : SharedTerms). AreTypesKnown ts c.args.program.now.signature.constructors c.args.indexed.now.vars c.nodes.typed) (sym same) c.nodes.invariant.typed

pub nodes-smaller : goal.nodes-smaller
nodes-smaller c =
    let p = program_of c.args.program.now in
    let a = shared_answer (shared_terms c.args.terms.now) c.args.indexed.now in
    let before : Walk = record { standing = c.truncate.new.self; pending = c.pop.new.self } in
    turn_smaller p a (refusal_on p (query_of c.args.query.now) a (shared_derivation (shared_terms c.args.terms.now) c.args.derivation.now)) c.nodes.node c.saturating_add-node.result c.nodes.walk before c.visit.new.walk c.in-Some.next c.nodes.invariant.way
    c.in-Some.ensures.items c.truncate.ensures.items c.saturating_add-node.ensures c.in_ok-rule.field-0 c.in_default-2.is (c.in_ok-rule.ensures.visited (shared_terms c.args.terms.now))
