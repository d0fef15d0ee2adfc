use Rattle.std.proofs.Common.{sym, ◌∙◌}
use Rattle.ap_defs.specs.Renaming.{rename_term}
use Rattle.ap_defs.specs.Terms.{term_of}
use Rattle.ap_store.proofs.FollowLemmas.{bare_occurs}
use Rattle.ap_store.proofs.OccurrenceLemmas.{apart_not_ground, apart_not_like, constant_no_vars, ground_not_like}
use Rattle.ap_store.specs.Views.{bindings_of}
use Rattle.ap_store.proofs.store.Store.occurs.Goals as goal

pub returns-then-is_constant-clause-found : goal.returns-then-is_constant-clause-found
returns-then-is_constant-clause-found c =
    let d = c.args.c.now in
    sym (constant_no_vars (bindings_of c.args.self.now) d.swaps.items d.base (term_of d.term.now) (c.is_constant.ensures.0 c.if-is_constant.true) c.args.x)

pub returns-then-is_constant-clause-no_vars : goal.returns-then-is_constant-clause-no_vars
returns-then-is_constant-clause-no_vars c = λ h.
    let d = c.args.c.now in
    constant_no_vars (bindings_of c.args.self.now) d.swaps.items d.base (term_of d.term.now) (c.is_constant.ensures.0 c.if-is_constant.true)

pub returns-then-is_constant-clause-like : goal.returns-then-is_constant-clause-like
returns-then-is_constant-clause-like c = λ w h. absurd (ground_not_like w h)

pub returns-then-is_new-clause-no_vars : goal.returns-then-is_new-clause-no_vars
returns-then-is_new-clause-no_vars c = λ e. absurd (apart_not_ground e)

pub returns-then-is_new-clause-like : goal.returns-then-is_new-clause-like
returns-then-is_new-clause-like c = λ w e. absurd (apart_not_like w e)

pub returns-clause-found : goal.returns-clause-found
returns-clause-found c =
    let b = c.args.c.now in
    c.in_ok-found.ensures.found ∙ sym (bare_occurs c.args.self.now c.args.x b.swaps.items (rename_term b.base (term_of b.term.now)))

pub returns-clause-no_vars : goal.returns-clause-no_vars
returns-clause-no_vars c =
    let b = c.args.c.now in
    λ e y. bare_occurs c.args.self.now y b.swaps.items (rename_term b.base (term_of b.term.now)) ∙ c.in_ok-found.ensures.no_vars e y

pub returns-clause-like : goal.returns-clause-like
returns-clause-like c =
    let b = c.args.c.now in
    λ w e y. bare_occurs c.args.self.now y b.swaps.items (rename_term b.base (term_of b.term.now)) ∙ c.in_ok-found.ensures.like w e y
