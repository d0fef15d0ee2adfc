-- What is shown of an answer to a typed query is sound where the answer is.
use Rattle.std.proofs.Common.{◌≡◌, ℕ, zero, suc, List, [], ◌∷◌, Some, sym, ap, subst, ◌∙◌}
use Rattle.ap_defs.specs.Answers.{NominalAnswer}
use Rattle.ap_defs.specs.Goals.{NominalProgram, NominalQuery}
use Rattle.ap_defs.specs.Lines.{NominalShown, shown_in}
use Rattle.ap_defs.specs.Types.{NominalSignature}
use Rattle.ap_program.specs.Typed.{AreTypedQueries, IsTypedProgram, IsTypedQuery, term_form}
use Rattle.ap_checks.specs.Checks.{query_at}
use Rattle.ap_checks.proofs.ShownCheckedLemmas.{derivable_shown}
use Rattle.ap_answers.specs.Queries.{locals_at, query_locals}
use Rattle.ap_answers.specs.SoundlyShown.{IsDerivableAsShown, IsSoundlyShown}

typed_query_at : (sig : NominalSignature) (qs : List NominalQuery) (k : ℕ) (q : NominalQuery) → query_at qs k ≡ Some q → AreTypedQueries term_form sig qs → IsTypedQuery term_form sig q
typed_query_at sig [] k q e h = absurd (cc)
typed_query_at sig (r ∷ qs) zero q e h = absurd (cc)
typed_query_at sig (r ∷ qs) (suc zero) q e h = let same : r ≡ q = cc in subst (λ (x : NominalQuery). IsTypedQuery term_form sig x) same h.0
typed_query_at sig (r ∷ qs) (suc (suc k)) q e h = typed_query_at sig qs (suc k) q e h.1

locals_asked : (qs : List NominalQuery) (k : ℕ) (q : NominalQuery) → query_at qs (suc k) ≡ Some q → locals_at qs k ≡ q.locals
locals_asked [] k q e = absurd (cc)
locals_asked (r ∷ qs) zero q e = let same : r ≡ q = cc in ap (λ (x : NominalQuery). x.locals) same
locals_asked (r ∷ qs) (suc k) q e = locals_asked qs k q e

none_asked : (qs : List NominalQuery) (q : NominalQuery) → query_at qs zero ≡ Some q → ⊥
none_asked [] q e = cc
none_asked (r ∷ qs) q e = cc

query_asked : (p : NominalProgram) (k : ℕ) (q : NominalQuery) → query_at p.queries k ≡ Some q → query_locals p k ≡ q.locals
query_asked p zero q e = absurd (none_asked p.queries q e)
query_asked p (suc k) q e = locals_asked p.queries k q e

pub soundly_shown : (p : NominalProgram) → IsTypedProgram p → (k : ℕ) (a : NominalAnswer) (s : NominalShown) → s ≡ shown_in (query_locals p k) a → IsSoundlyShown p k a s
soundly_shown p typed k a s is q asked once inhabited depth h g types conds =
    let same : s ≡ shown_in q.locals a = is ∙ ap (λ ls. shown_in ls a) (query_asked p k q asked) in
    let fits = typed_query_at p.signature p.queries k q asked typed.1 in
    let all = derivable_shown p typed q fits a once inhabited depth h in
    (subst (λ (x : NominalShown). IsDerivableAsShown p q a.vars depth x) (sym same) (λ f t m. all f (record { types = t; conditions = m }))) g types conds
