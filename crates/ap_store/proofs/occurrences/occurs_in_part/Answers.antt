use Rattle.std.proofs.Common.{◌==◌, [], inl, inr, sym, ap, ◌∙◌, subst}
use Rattle.ap_defs.specs.Substitution.{under}
use Rattle.ap_defs.specs.Terms.{susp}
use Rattle.ap_defs.specs.declared.terms.Var.{Var}
use Rattle.ap_store.specs.Founds.{bare_term, does_occur}
use Rattle.ap_store.specs.Likes.{HaveSameVars}
use Rattle.ap_store.specs.Narrow.{IsNarrowed}
use Rattle.ap_store.specs.Views.{bindings_of}
use Rattle.ap_store.proofs.FollowLemmas.{unbound_occurs}
use Rattle.ap_store.proofs.NarrowLemmas.{end_found, end_like, end_not_ground, goes_like, goes_same}
use Rattle.ap_store.proofs.OccurrenceLemmas.{ground_not_like}
use Rattle.ap_store.proofs.occurrences.occurs_in_part.Goals as goal

pub returns-in-Ground-clause-found : goal.returns-in-Ground-clause-found
returns-in-Ground-clause-found c =
    let s = c.args.store.now in
    let h = subst (IsNarrowed s (bare_term c.args.first)) c.in-Ground.is c.narrow_down.ensures in
    sym (h c.args.x)

pub returns-in-Ground-clause-no_vars : goal.returns-in-Ground-clause-no_vars
returns-in-Ground-clause-no_vars c =
    let s = c.args.store.now in
    let h = subst (IsNarrowed s (bare_term c.args.first)) c.in-Ground.is c.narrow_down.ensures in
    λ e. h

pub returns-in-Ground-clause-like : goal.returns-in-Ground-clause-like
returns-in-Ground-clause-like c = λ w e. absurd (ground_not_like w e)

pub returns-in-Ends-clause-found : goal.returns-in-Ends-clause-found
returns-in-Ends-clause-found c =
    let s = c.args.store.now in
    let w = c.in-Ends.w in
    let h = subst (IsNarrowed s (bare_term c.args.first)) c.in-Ends.is c.narrow_down.ensures in
    ap does_occur c.at_end.ensures ∙ end_found (c.args.x.num == w.num) c.in-Ends.is_behind w ∙ sym (h.1 c.args.x ∙ unbound_occurs s c.args.x w [] h.0)

pub returns-in-Ends-clause-no_vars : goal.returns-in-Ends-clause-no_vars
returns-in-Ends-clause-no_vars c = λ e. absurd (end_not_ground (c.args.x.num == c.in-Ends.w.num) c.in-Ends.is_behind c.in-Ends.w (sym c.at_end.ensures ∙ e))

pub returns-in-Ends-clause-like : goal.returns-in-Ends-clause-like
returns-in-Ends-clause-like c =
    let s = c.args.store.now in
    let w = c.in-Ends.w in
    let h = subst (IsNarrowed s (bare_term c.args.first)) c.in-Ends.is c.narrow_down.ensures in
    λ v e. subst (λ (z : Var). HaveSameVars (under (bindings_of s) (bare_term c.args.first)) (under (bindings_of s) (susp [] z)))
    (end_like (c.args.x.num == w.num) c.in-Ends.is_behind w v (sym c.at_end.ensures ∙ e)) h.1

pub occurs_open-requires : goal.occurs_open-requires
occurs_open-requires c =
    let s = c.args.store.now in
    record { same = goes_same s (bare_term c.args.first) c.in-Goes.like c.in-Goes.b (subst (IsNarrowed s (bare_term c.args.first)) c.in-Goes.is c.narrow_down.ensures) }

pub returns-in_ok-found-in-Goes-clause-found : goal.returns-in_ok-found-in-Goes-clause-found
returns-in_ok-found-in-Goes-clause-found c =
    let s = c.args.store.now in
    let h = subst (IsNarrowed s (bare_term c.args.first)) c.in-Goes.is c.narrow_down.ensures in
    c.told_of.ensures.found ∙ c.in_ok-found-in-Goes.ensures.found ∙ sym (goes_same s (bare_term c.args.first) c.in-Goes.like c.in-Goes.b h c.args.x)

pub returns-in_ok-found-in-Goes-clause-no_vars : goal.returns-in_ok-found-in-Goes-clause-no_vars
returns-in_ok-found-in-Goes-clause-no_vars c =
    let s = c.args.store.now in
    let h = subst (IsNarrowed s (bare_term c.args.first)) c.in-Goes.is c.narrow_down.ensures in
    λ e y. goes_same s (bare_term c.args.first) c.in-Goes.like c.in-Goes.b h y ∙ c.in_ok-found-in-Goes.ensures.no_vars (c.told_of.ensures.no_vars e) y

pub returns-in_ok-found-in-Goes-clause-like : goal.returns-in_ok-found-in-Goes-clause-like
returns-in_ok-found-in-Goes-clause-like c =
    let s = c.args.store.now in
    let h = subst (IsNarrowed s (bare_term c.args.first)) c.in-Goes.is c.narrow_down.ensures in
    λ w e. elim (c.told_of.ensures.like w e) [
      | inl i ↦ absurd (c.in_ok-found-in-Goes.ensures.like w i)
      | inr i ↦ goes_like s (bare_term c.args.first) c.in-Goes.like c.in-Goes.b w h i
    ]
