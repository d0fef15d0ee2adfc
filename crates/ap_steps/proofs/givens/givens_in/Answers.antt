use Rattle.std.proofs.Common.{◌++◌, sym, ap, ◌∙◌, arith}
use Rattle.ap_defs.specs.Goals.{program_of}
use Rattle.ap_spelling.specs.Spelt.{givens_of}
use Rattle.ap_steps.specs.Obligations.{givens_left, obligation_nodes}
use Rattle.ap_steps.proofs.GivenLemmas.{last_givens, last_obligation}
use Rattle.ap_steps.proofs.givens.givens_in.Goals as goal

pub obligations-smaller : goal.obligations-smaller
obligations-smaller c =
    let whole = ap obligation_nodes c.in-Some.ensures.items ∙ last_obligation c.pop.new.self.items c.in-Some.next in
    omega (arith, whole, c.in_ok-look_at.ensures.nodes)

pub obligations-preserved : goal.obligations-preserved
obligations-preserved c =
    let cs = (program_of c.args.program.now).clauses in
    c.in_ok-look_at.ensures.givens
    ∙ ap (λ xs. givens_of c.obligations.given.items ++ xs) (sym (ap (givens_left cs) c.in-Some.ensures.items ∙ last_givens cs c.pop.new.self.items c.in-Some.next))
    ∙ c.obligations.invariant
