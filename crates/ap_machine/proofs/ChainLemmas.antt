-- What a variable that is bound to another one stands for is what the swappings make of what that one stands for.
use Rattle.std.proofs.Common.{◌≡◌, List, [], ◌∷◌, ◌++◌, Some, append-nil, length, length-append, map, refl, sym, ap, ◌∙◌, arith, subst}
use Rattle.std.specs.Prelude.{All}
use Rattle.std.proofs.Math.Seq.{get_or-append_seam}
use Rattle.std.proofs.lemmas.List.{get_or_append_left, map-append}
use Rattle.std.proofs.lemmas.List.Elements.{All-from_get_or, All-get_or}
use Rattle.ap_defs.specs.Answers.{closed_term}
use Rattle.ap_defs.specs.Resolution.{State}
use Rattle.ap_defs.specs.Canonical.{canonical_term}
use Rattle.ap_defs.specs.Substitution.{under}
use Rattle.ap_defs.specs.Terms.{NominalTerm, susp, term_of}
use Rattle.ap_defs.specs.declared.terms.Term.{Term}
use Rattle.ap_defs.specs.declared.terms.Swap.{Swap}
use Rattle.ap_defs.specs.declared.terms.Var.{Var}
use Rattle.ap_store.specs.Views.{bindings_of, raw_bound}
use Rattle.ap_store.specs.declared.store.Store.{Store}
use Rattle.ap_theory.proofs.SameTermLemmas.{act_same, canonical_term_same, same_canonical_term}
use Rattle.ap_theory.proofs.SubstitutionLemmas.{under_act}
use Rattle.ap_search.specs.Records.{closed_vars}
use Rattle.ap_machine.specs.Chains.{IsRight}
use Rattle.ap_machine.specs.declared.chains.ToClose.{ToClose}
use Rattle.ap_machine.specs.Closed.{canonically_moved}
use Rattle.ap_machine.specs.Views.{state_in}
use Rattle.ap_machine.proofs.AnswerLemmas.{closed_bound}

-- swappings act on a term with canonical lists as on the term itself
moved_canonical : (p : List Swap) (u : NominalTerm) → canonically_moved p (canonical_term u) ≡ canonically_moved p u
moved_canonical p u = same_canonical_term (act_same p p (λ a. refl) (canonical_term_same u))

pub link_closes : (s : Store) (x y : Var) (p : List Swap) (t : NominalTerm) → raw_bound s x ≡ Some (susp p y) → t ≡ closed_term (state_in s) (susp [] y)
    → canonically_moved p t ≡ closed_term (state_in s) (susp [] x)
link_closes s x y p t e h =
    let b = bindings_of s in
    let u = under b (susp [] y) in
    ap (canonically_moved p) h ∙ moved_canonical p u ∙ ap canonical_term (sym (under_act b p (susp [] y)))
    ∙ ap (λ q. canonical_term (under b (susp q y))) (append-nil p) ∙ closed_bound s x (susp p y) e

first_right : (s : State) (ys : List ToClose) (y : ToClose) → All (IsRight s) (ys ++ y ∷ []) → All (IsRight s) ys × IsRight s y
first_right s ys y h =
    let long = length-append ys (y ∷ []) in (
      All-from_get_or (IsRight s) ys y (λ i l. subst (IsRight s) (get_or_append_left ys (y ∷ []) y i l) (All-get_or (IsRight s) (ys ++ y ∷ []) i y (omega (arith, l, long)) h)),
      subst (IsRight s) (get_or-append_seam ys y [] y) (All-get_or (IsRight s) (ys ++ y ∷ []) (length ys) y (omega (arith, long)) h),
    )

-- one more variable is taken
pub one_taken : (s : State) (ys zs : List ToClose) (y : ToClose) (ts us : List Term) (t : Term) → zs ≡ ys ++ y ∷ [] → us ≡ ts ++ t ∷ []
    → (All (IsRight s) ys → map term_of ts ≡ closed_vars s (map (λ e. e.var) ys)) → (IsRight s y → term_of t ≡ closed_term s (susp [] y.var))
    → All (IsRight s) zs → map term_of us ≡ closed_vars s (map (λ e. e.var) zs)
one_taken s ys zs y ts us t z u before one right =
    let k = first_right s ys y (subst (All (IsRight s)) z right) in
    let close : Var → NominalTerm = λ x. closed_term s (susp [] x) in
    ap (map term_of) u ∙ map-append term_of ts (t ∷ []) ∙ ap (λ vs. vs ++ term_of t ∷ []) (before k.0) ∙ ap (λ v. closed_vars s (map (λ e. e.var) ys) ++ v ∷ []) (one k.1)
    ∙ sym (ap (λ xs. map close xs) (ap (map (λ e. e.var)) z ∙ map-append (λ e. e.var) ys (y ∷ [])) ∙ map-append close (map (λ e. e.var) ys) (y.var ∷ []))
