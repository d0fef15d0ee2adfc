use Rattle.std.proofs.Common.{◌≡◌, ◌-◌, MatchOption, sym, subst, ◌∙◌, arith}
use Rattle.ap_defs.specs.Terms.{NominalTerm, unit}
use Rattle.ap_judge.specs.Cited.{cited_term}
use Rattle.ap_judge.specs.Scopes.{nothing_put}
use Rattle.ap_judge.proofs.ScopeLemmas.{item_here, term_further, term_here}
use Rattle.ap_judge.proofs.TableLemmas.{some_weaker, standing_at}
use Rattle.ap_judge.proofs.scope.term_in.Goals as goal

pub returns-in-Some-clause-term : goal.returns-in-Some-clause-term
returns-in-Some-clause-term c =
    sym c.loop-i.invariant
    ∙ term_here c.args.scope.now c.loop-i.i (c.loop-i.i - 1) c.index-scope-i.result nothing_put (omega arith) (omega arith) c.index-scope-i.is c.args.x (cited_term c.in-Some.t) c.in-Some.ensures.term

pub loop-i-preserved : goal.loop-i-preserved
loop-i-preserved c =
    term_further c.args.scope.now c.loop-i.i (c.loop-i.i - 1) c.index-scope-i.result nothing_put (omega arith) (omega arith) c.index-scope-i.is c.args.x c.in_default.ensures.term c.in_default-item_term_at.ensures.term
    ∙ c.loop-i.invariant

pub returns-in-Some-item_term_at-clause-term : goal.returns-in-Some-item_term_at-clause-term
returns-in-Some-item_term_at-clause-term c =
    subst (λ (u : NominalTerm). MatchOption c.in-Some-item_term_at.found (u ≡ unit) (λ t. u ≡ cited_term t)) c.loop-i.invariant
    (item_here c.args.scope.now c.loop-i.i (c.loop-i.i - 1) c.index-scope-i.result nothing_put (omega arith) (omega arith) c.index-scope-i.is cited_term c.args.x c.in-Some-item_term_at.found c.in-Some-item_term_at.ensures.term)

pub returns-in-Some-clause-of : goal.returns-in-Some-clause-of
returns-in-Some-clause-of c = λ ts h. c.in-Some.ensures.of ts (standing_at c.args.scope.now (c.loop-i.i - 1) c.index-scope-i.result ts (omega arith) c.index-scope-i.is h)

pub returns-in-Some-item_term_at-clause-of : goal.returns-in-Some-item_term_at-clause-of
returns-in-Some-item_term_at-clause-of c =
    some_weaker c.in-Some-item_term_at.found _ _
    (λ t k ts h. k ts (standing_at c.args.scope.now (c.loop-i.i - 1) c.index-scope-i.result ts (omega arith) c.index-scope-i.is h)) c.in-Some-item_term_at.ensures.of
