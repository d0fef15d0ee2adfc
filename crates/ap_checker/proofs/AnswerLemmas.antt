-- Steps of the loop over the conditions of an answer, and its tests together.
use Rattle.std.proofs.Common.{◌≡◌, ◌<◌, ◌+◌, ℕ, Bool, true, false, ◌&&◌, List, map, length, get_or, drop, refl, sym, ap, ◌∙◌, add-one}
use Rattle.std.proofs.Math.Seq.{drop-cons}
use Rattle.std.specs.List.{list_all}
use Rattle.ap_defs.specs.declared.terms.Cond.{Cond}
use Rattle.ap_defs.specs.declared.terms.Ty.{Ty}
use Rattle.ap_defs.specs.declared.terms.Var.{Var}
use Rattle.ap_defs.specs.Answers.{NominalAnswer, typed_var_of}
use Rattle.ap_defs.specs.Derivations.{NominalDerivation}
use Rattle.ap_defs.specs.Goals.{NominalProgram, NominalQuery}
use Rattle.ap_defs.specs.Renaming.{local_names}
use Rattle.ap_defs.specs.Resolution.{kinds_of}
use Rattle.ap_checks.specs.Checks.{refusal_of_rule, is_answer, no, refusal, test, verdict, verdict_on}
use Rattle.ap_checks.specs.OpenEnvironments.{open_environment}
use Rattle.ap_defs.specs.Freshness.{Conds}
use Rattle.ap_defs.specs.Unification.{has_var}

abbrev pub firsts : List (Var × Ty) → List Var
firsts vs = map (λ v. v.0) (map typed_var_of vs)

module _ (vs : List (Var × Ty)) (cs : Conds) (i : ℕ) (d : Cond) (h : i < length cs) where
  conds_split : list_all (λ c. has_var c.var (firsts vs)) (drop i cs) ≡ (has_var (get_or cs i d).var (firsts vs) && list_all (λ c. has_var c.var (firsts vs)) (drop (i + 1) cs))
  conds_split =
      ap (list_all (λ c. has_var c.var (firsts vs))) (drop-cons cs i d h)
      ∙ ap (λ n. has_var (get_or cs i d).var (firsts vs) && list_all (λ c. has_var c.var (firsts vs)) (drop n cs)) (sym (add-one i))

  pub conds_not : has_var (get_or cs i d).var (map (λ v. v.0) (map typed_var_of vs)) ≡ false → list_all (λ c. has_var c.var (map (λ v. v.0) (map typed_var_of vs))) (drop i cs) ≡ false
  conds_not e = conds_split ∙ ap (λ v. v && list_all (λ c. has_var c.var (firsts vs)) (drop (i + 1) cs)) e

  pub conds_later : has_var (get_or cs i d).var (map (λ v. v.0) (map typed_var_of vs)) ≡ true
      → list_all (λ c. has_var c.var (map (λ v. v.0) (map typed_var_of vs))) (drop (i + 1) cs) ≡ list_all (λ c. has_var c.var (map (λ v. v.0) (map typed_var_of vs))) (drop i cs)
  conds_later e = sym (conds_split ∙ ap (λ v. v && list_all (λ c. has_var c.var (firsts vs)) (drop (i + 1) cs)) e)

-- an answer none of whose variables stands twice
pub fits_once : (binds once conds : Bool) → once ≡ true → (binds && conds) ≡ (binds && (once && conds))
fits_once binds once conds h = ap (λ v. binds && (v && conds)) (sym h)

pub twice_fits_not : (binds once conds : Bool) → once ≡ false → (binds && (once && conds)) ≡ false
twice_fits_not true once conds h = ap (λ v. v && conds) h
twice_fits_not false once conds h = refl

pub answer_refused : (p : NominalProgram) (q : NominalQuery) (a : NominalAnswer) (d : NominalDerivation) → is_answer p q a ≡ false → no 0 10 ≡ verdict_on p q a d
answer_refused p q a d h =
    sym (ap (λ v. verdict (test v (refusal_of_rule 0 10) (refusal p a (kinds_of q.locals) 1 d q.goal (open_environment q.locals (local_names 0 q.locals) a.binds)))) h)
