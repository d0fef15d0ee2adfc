use Rattle.std.proofs.Common.{arith, get_or, map, refl, []}
use Rattle.ap_defs.specs.Answers.{closed_term}
use Rattle.ap_defs.specs.Terms.{NominalTerm, susp}
use Rattle.ap_defs.specs.declared.terms.Var.{Var}
use Rattle.ap_machine.specs.Views.{state_in}
use Rattle.ap_shared.specs.Shared.{shared_at}
use Rattle.ap_shared.proofs.SharingLemmas.{below_on, grown_none, grown_on, lines_end, lines_on}
use Rattle.ap_derive.specs.Closing.{closing_terms}
use Rattle.ap_derive.proofs.ClosingLemmas.{item_at}
use Rattle.ap_derive.proofs.closing.close_each.Goals as goal

pub loop-x-init : goal.loop-x-init
loop-x-init c = record {
  closing = c.requires;
  grown = grown_none (closing_terms c.args.closing.now);
  below = rw c.new-lines.ensures.items tt;
  lines = rw c.new-lines.ensures.items refl;
}

pub loop-x-preserved : goal.loop-x-preserved
loop-x-preserved c =
    let s = state_in c.args.store.now in
    let view : Var → NominalTerm = λ y. closed_term s (susp [] y) in
    let ts = closing_terms c.loop-x.closing in
    let us = closing_terms c.close_var.new.closing in
    let xs = c.args.vars.now in
    let i = c.loop-x.x-index in
    let x : Var = get_or xs i (record { num = 0 }) in
    let ls = c.loop-x.lines.items in
    let ms = c.push.new.self.items in
    let at = item_at xs i (record { num = 0 }) (omega arith) in
    let line = c.in_ok-line.ensures in
    let before = c.loop-x.invariant in
    record {
      closing = line.closing;
      grown = grown_on (closing_terms c.args.closing.now) ts us before.grown line.grown;
      below = below_on view xs ts us ls ms i c.in_ok-line.line x (omega arith) at line.grown before.below c.in_ok-push.ensures.items line.within;
      lines = lines_on view xs ts us ls ms i c.in_ok-line.line x (omega arith) at line.grown before.below c.in_ok-push.ensures.items line.line before.lines;
    }

pub returns-clause-lines : goal.returns-clause-lines
returns-clause-lines c =
    let s = state_in c.args.store.now in
    lines_end (λ (y : Var). closed_term s (susp [] y)) c.args.vars.now (closing_terms c.loop-x.closing) (map (shared_at (closing_terms c.loop-x.closing)) c.loop-x.lines.items) c.loop-x.x-index (omega arith)
    c.loop-x.invariant.lines
