-- A clause's own names are fresh for the atom, wherever its head matches and its body has a ground proof.
use Rattle.std.proofs.Common.{◌≡◌, ℕ, zero, suc, true, List, [], ◌∷◌, map, subst, sym, ap, ◌∙◌, inl, inr}
use Rattle.std.specs.Prelude.{Some}
use Rattle.ap_defs.specs.declared.terms.Name.{Name}
use Rattle.ap_defs.specs.declared.terms.Var.{Var}
use Rattle.ap_defs.specs.Alpha.{fresh}
use Rattle.ap_defs.specs.Goals.{Clauses, NominalClause, clauses_of}
use Rattle.ap_defs.specs.GroundProofs.{AlphaEach, Environment, clause_at, environment, instance}
use Rattle.ap_defs.specs.Occurrences.{names_of_terms, names_then}
use Rattle.ap_defs.specs.Permutations.{has_name}
use Rattle.ap_defs.specs.Renaming.{local_names, local_vars}
use Rattle.ap_defs.specs.Resolution.{kinds_of}
use Rattle.ap_defs.specs.Terms.{GroundTerm, NominalTerm}
use Rattle.ap_defs.specs.Types.{NominalConstructor}
use Rattle.ap_program.specs.NameRestriction.{AreFreshForHead, AreRestrictedClauses, AreRestrictedLists, FreshForEach, IsFreshForHead, IsRestrictedClause, known_in, stated_conditions}
use Rattle.ap_theory.specs.Contexts.{Context, Fresh}
use Rattle.ap_types.specs.Holding.{MayHold}
use Rattle.ap_theory.proofs.BooleanLemmas.{or_cases, or_if_left, or_if_right}
use Rattle.ap_theory.proofs.GroundLemmas.{fresh_alpha}
use Rattle.ap_theory.proofs.PermutationLemmas.{name_eq_same}
use Rattle.ap_defs.specs.Permutations.{name_eq}
use Rattle.ap_ground.proofs.ItemEnvironmentLemmas.{locals_differ}
use Rattle.ap_ground.proofs.ListLemmas.{has_names_then}
use Rattle.ap_ground.proofs.ProofActionLemmas.{keeps_environment}
use Rattle.ap_ground.proofs.ScopeLemmas.{arguments_local, goal_local, program_clause_typed}
use Rattle.ap_complete.specs.StatementsOnFreshness.{ClauseNamesAreFresh, FreshForTerms}
use Rattle.ap_complete.proofs.ClauseNameLemmas.{body_held, fresh_instance, held_has}
use Rattle.ap_complete.proofs.HeldSortLemmas.{sorts_not_held_fresh}
use Rattle.ap_complete.proofs.NameListLemmas.{name_for_apart, name_image, term_for_fresh}

-- the restriction of one clause of a program
clause_restricted : (cs : List NominalConstructor) (list : List NominalClause) (k : ℕ) (c : NominalClause) → AreRestrictedClauses cs list → clause_at list k ≡ Some c → IsRestrictedClause cs c
clause_restricted cs [] k c h e = cc
clause_restricted cs (b ∷ list) zero c h e = cc
clause_restricted cs (b ∷ list) (suc zero) c h e = let i : b ≡ c = cc in subst (λ (x : NominalClause). IsRestrictedClause cs x) i h.0
clause_restricted cs (b ∷ list) (suc (suc k)) c h e = clause_restricted cs list (suc k) c h.1 e

program_clause_restricted : (cs : List NominalConstructor) (css : Clauses) (q k : ℕ) (c : NominalClause) → AreRestrictedLists cs css → clause_at (clauses_of css q) k ≡ Some c → IsRestrictedClause cs c
program_clause_restricted cs [] q k c h e = cc
program_clause_restricted cs (list ∷ css) zero k c h e = clause_restricted cs list k c h.0 e
program_clause_restricted cs (list ∷ css) (suc q) k c h e = program_clause_restricted cs css q k c h.1 e

one_of_head : (cs : List NominalConstructor) (c : NominalClause) (as' : List Name) → AreFreshForHead cs c as' → (b : Name) → has_name b as' ≡ true → IsFreshForHead cs c b
one_of_head cs c [] h b i = cc
one_of_head cs c (a ∷ as') h b i =
    elim (or_cases (name_eq b a) (has_name b as') i) [
      | inl j ↦ subst (λ (x : Name). IsFreshForHead cs c x) (sym (name_eq_same b a j)) h.0
      | inr j ↦ one_of_head cs c as' h.1 b j
    ]

pub clause_names_fresh : ClauseNamesAreFresh
clause_names_fresh p restricted q k c at names gs fits proof valid ts same a h =
    let sig = p.signature in
    let cs = sig.constructors in
    let own = local_names 0 c.locals in
    let e = environment c.locals names gs in
    let is = (program_clause_typed sig 0 p.clauses q k c restricted.typed.0 at).1 in
    let keeps = keeps_environment c.locals names gs fits.sorts in
    let apart = name_for_apart own names fits.sorts fits.different in
    let image = name_image own names (locals_differ 0 c.locals) fits.sorts a h in
    let b = image.0 in
    let held = body_held e keeps own apart p (kinds_of c.locals) proof c.body valid (goal_local sig c.locals c.args c.body is.3 is.1.1) b image.1 in
    let known : (d : Name) (x : Var) → has_name d own ≡ true → known_in cs c b d x → fresh (e.names d) (e.terms x) ≡ true = λ d x i j.
    elim j [
      | inl l ↦ held_has e keeps own apart (stated_conditions b c.body) held d x l
      | inr l ↦ term_for_fresh cs (kinds_of c.locals) (local_vars 0 c.locals) gs fits.types x l.0 l.1 (e.names d)
          (λ g t. sorts_not_held_fresh cs g l.0 (e.names d) t (λ m. l.2 (subst (MayHold cs l.0) (keeps d) m)))
    ] in
    each e own (known_in cs c b) a b
    (λ t o f. ap (λ d. fresh d (instance e t)) (sym image.2) ∙ fresh_instance e keeps own apart (known_in cs c b) known b image.1 t o f)
    c.args ts (arguments_local sig c.locals c.args c.body is.3 c.pred is.1.0) (one_of_head cs c own (program_clause_restricted cs p.clauses q k c restricted.names at) b image.1) same
  where
    each : (e : Environment) (own : List Name) (d : Context) (a b : Name)
        → ((t : NominalTerm) → ((x : Name) → has_name x (names_then t []) ≡ true → has_name x own ≡ true) → Fresh d b t → fresh a (instance e t) ≡ true)
        → (args : List NominalTerm) (ts : List GroundTerm) → ((x : Name) → has_name x (names_of_terms args) ≡ true → has_name x own ≡ true)
        → FreshForEach d b args → AlphaEach ts (map (instance e) args) → FreshForTerms a ts
    each e own d a b k [] [] o f s = tt
    each e own d a b k (u ∷ us) [] o f s = absurd s
    each e own d a b k [] (t ∷ ts) o f s = absurd s
    each e own d a b k (u ∷ us) (t ∷ ts) o f s = (
      fresh_alpha a t (instance e u) s.0
          ∙ k u (λ x i. o x (has_names_then x u (names_of_terms us) ∙ or_if_left (has_name x (names_then u [])) (has_name x (names_of_terms us)) i)) f.0,
      each e own d a b k us ts (λ x i. o x (has_names_then x u (names_of_terms us) ∙ or_if_right (has_name x (names_then u [])) (has_name x (names_of_terms us)) i)) f.1 s.1,
    )
