use Rattle.std.proofs.Common.{◌≡◌, ◌<◌, ◌+◌, [], ap, length, refl, rules, subst, sym, ◌∙◌, arith}
use Rattle.std.specs.Prelude.{None, Some}
use Rattle.ap_defs.specs.Renaming.{IsBelow, rename_term, rename_var}
use Rattle.ap_defs.specs.Substitution.{occurs}
use Rattle.ap_defs.specs.Terms.{susp, term_of}
use Rattle.ap_defs.specs.declared.terms.Term.{Term}
use Rattle.ap_store.proofs.FollowLemmas.{unbound_var}
use Rattle.ap_store.specs.Founds.{IsWhatIsFound, bare_term, is_ground_found}
use Rattle.ap_store.specs.Views.{raw_bound}
use Rattle.ap_unify.proofs.PartLemmas.{found_further, plain_susp}
use Rattle.ap_unify.proofs.heads.look_at.Goals as goal
use Rattle.ap_unify.specs.Parts.{HasVariable}
use Rattle.ap_equations.specs.Plain.{plain_term}

pub returns-then-not-is_empty : goal.returns-then-not-is_empty
returns-then-not-is_empty c =
    let p = c.args.p in
    subst (λ (u : Term). HasVariable (rename_term p.base (term_of u))) (sym c.in-Susp.is) tt

pub overflow_add-x : goal.overflow_add-x
overflow_add-x c =
    let p = c.args.p in
    let k = subst (λ (u : Term). IsBelow p.end (rename_term p.base (term_of u))) c.in-Susp.is p.below in
    let l : p.base + c.in-Susp.x.num < p.end = k.1 in
    omega arith

pub returns-in-Nothing : goal.returns-in-Nothing
returns-in-Nothing c =
    let s = c.args.store.now in
    let p = c.args.p in
    let x = rename_var p.base c.in-Susp.x in
    let n : length c.in-Susp.q ≡ 0 = search rules in
    let k : raw_bound s x ≡ None = subst (IsWhatIsFound (raw_bound s x)) c.in-Nothing.is c.found.ensures.found in
    (plain_susp p c.in-Susp.q c.in-Susp.x c.in-Susp.is n, unbound_var s x k)

pub returns-in-Moved : goal.returns-in-Moved
returns-in-Moved c =
    let p = c.args.p in
    subst (λ (u : Term). HasVariable (rename_term p.base (term_of u))) (sym c.in-Susp.is) tt

pub returns-in-Plain : goal.returns-in-Plain
returns-in-Plain c =
    let s = c.args.store.now in
    let p = c.args.p in
    let x = rename_var p.base c.in-Susp.x in
    let v = bare_term c.in-Plain.b in
    let n : length c.in-Susp.q ≡ 0 = search rules in
    let k : raw_bound s x ≡ Some v = subst (IsWhatIsFound (raw_bound s x)) c.in-Plain.is c.found.ensures.found in
    let f = found_further s x v (plain_term p) v (plain_susp p c.in-Susp.q c.in-Susp.x c.in-Susp.is n) refl k in
    (f, λ h e y. ap (occurs y) f.0 ∙ h e y)

pub returns-in-Ground : goal.returns-in-Ground
returns-in-Ground c =
    let s = c.args.store.now in
    let p = c.args.p in
    let x = rename_var p.base c.in-Susp.x in
    let v = bare_term c.in-Ground.b in
    let n : length c.in-Susp.q ≡ 0 = search rules in
    let k : raw_bound s x ≡ Some v = subst (IsWhatIsFound (raw_bound s x)) c.in-Ground.is c.found.ensures.found in
    let f = found_further s x v (plain_term p) v (plain_susp p c.in-Susp.q c.in-Susp.x c.in-Susp.is n) refl k in
    let g = found_further s x v (susp [] x) v refl refl k in
    (f, λ h e y. ap (occurs y) g.0 ∙ c.found.ensures.no_vars (ap is_ground_found c.in-Ground.is) y)
