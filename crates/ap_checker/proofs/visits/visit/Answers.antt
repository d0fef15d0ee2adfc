use Rattle.std.proofs.Common.{subst, sym}
use Rattle.std.proofs.lemmas.Result.{MatchResult-weaker}
use Rattle.std.specs.Prelude.{OnOk}
use Rattle.ap_defs.specs.Goals.{program_of}
use Rattle.ap_judge.specs.Typings.{AreTypesKnown}
use Rattle.ap_checker.specs.declared.walk.Obligation.{Obligation}
use Rattle.ap_checker.specs.Walks.{kinds_at}
use Rattle.ap_checker.proofs.visits.visit.Goals as goal

pub returns-in-Atom-Atom-clause-visited : goal.returns-in-Atom-Atom-clause-visited
returns-in-Atom-Atom-clause-visited c =
    let h = rw (
      c.items.ensures,
      c.items-in-Atom-Atom.ensures,
      c.items-in-Atom-Atom-2.ensures,
      c.deref.ensures,
      c.deref-in-Atom-Atom.ensures,
      c.deref-in-Atom-Atom-2.ensures,
      c.deref-in-Atom-Atom-3.ensures,
    ) at c.visit_atom.ensures.visited in
    rw (c.in-Atom-Atom.is-0, c.in-Atom-Atom.is-1) (MatchResult-weaker c.visit_atom.result h (λ r f. f (kinds_at c.args.at)) (λ e k. k))

pub returns-in-Exists-Exists-clause-visited : goal.returns-in-Exists-Exists-clause-visited
returns-in-Exists-Exists-clause-visited c =
    let h = rw (c.below-below.ensures, c.deref-in-Exists-Exists.ensures, c.deref-in-Exists-Exists-2.ensures) at c.visit_exists.ensures.visited in
    rw (c.in-Exists-Exists.is-0, c.in-Exists-Exists.is-1) h

pub visit_exists-requires-clause-typed : goal.visit_exists-requires-clause-typed
visit_exists-requires-clause-typed c =
    subst (λ (b : Obligation). AreTypesKnown b.terms.now c.args.program.now.signature.constructors c.args.answer.now.vars c.args.typed.now) (sym c.below-below.ensures) c.requires.typed

pub returns-in-Exists-Exists-clause-typed : goal.returns-in-Exists-Exists-clause-typed
returns-in-Exists-Exists-clause-typed c =
    subst (λ (b : Obligation). OnOk c.visit_exists.result (AreTypesKnown b.terms.now c.args.program.now.signature.constructors c.args.answer.now.vars c.visit_exists.new.typed)) c.below-below.ensures c.visit_exists.ensures.typed

pub returns-in-Eq-Equal-clause-visited : goal.returns-in-Eq-Equal-clause-visited
returns-in-Eq-Equal-clause-visited c =
    rw (c.in-Eq-Equal.is-0, c.in-Eq-Equal.is-1) (MatchResult-weaker c.visit_equation.result c.visit_equation.ensures (λ r f lines. f (program_of c.args.program.now) (kinds_at c.args.at) lines) (λ e k. k))

pub returns-in-Fresh-Fresh-clause-visited : goal.returns-in-Fresh-Fresh-clause-visited
returns-in-Fresh-Fresh-clause-visited c =
    rw (c.in-Fresh-Fresh.is-0, c.in-Fresh-Fresh.is-1) (MatchResult-weaker c.visit_freshness.result c.visit_freshness.ensures (λ r f lines. f (program_of c.args.program.now) (kinds_at c.args.at) lines) (λ e k. k))

pub returns-in-New-New-clause-visited : goal.returns-in-New-New-clause-visited
returns-in-New-New-clause-visited c =
    let h = rw (c.below-below-in-New-New.ensures, c.deref-in-New-New.ensures, c.deref-in-New-New-3.ensures) at c.visit_new.ensures.visited in
    rw c.in-New-New.is-0 (MatchResult-weaker c.visit_new.result h (λ r f lines. f (program_of c.args.program.now) lines) (λ e k. k))
