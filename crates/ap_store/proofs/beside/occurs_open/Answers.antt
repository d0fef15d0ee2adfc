use Rattle.std.proofs.Common.{sym, ◌∙◌}
use Rattle.ap_store.proofs.OccurrenceLemmas.{apart_not_ground, apart_not_like}
use Rattle.ap_store.proofs.beside.occurs_open.Goals as goal

pub returns-then-is_apart-clause-found : goal.returns-then-is_apart-clause-found
returns-then-is_apart-clause-found c = sym (sym (c.requires.same c.args.x) ∙ c.in_ok-is_apart.ensures c.if-is_apart.true)

pub returns-then-is_apart-clause-no_vars : goal.returns-then-is_apart-clause-no_vars
returns-then-is_apart-clause-no_vars c = λ e. absurd (apart_not_ground e)

pub returns-then-is_apart-clause-like : goal.returns-then-is_apart-clause-like
returns-then-is_apart-clause-like c = λ w e. apart_not_like w e
