-- What typing refuses.
use Rattle.std.proofs.Common.{◌≡◌, inl, inr, ℕ, List, Option, None, Some, refl, ap, subst, ◌∙◌}
use Rattle.ap_defs.specs.RawTerms.{RawTerm}
use Rattle.ap_defs.specs.Goals.{GoalOver, ClauseOver, QueryOver}
use Rattle.ap_defs.specs.Types.{NominalKind}
use Rattle.ap_trees.specs.Terms.{Term}
use Rattle.ap_defs.specs.declared.faults.TypeKind.{TypeKind}
use Rattle.ap_trees.specs.Goals.{Goal}
use Rattle.ap_trees.specs.Items as items
use Rattle.ap_kinds.specs.declared.errors.KindsError.{KindsError}
use Rattle.ap_kinds.specs.declared.errors.KindsError.TheVariants as kinds
use Rattle.ap_kinds.specs.ItemKinds.{IsInferred, IsRefused}
use Rattle.ap_scopes.specs.Declarations.{Declared}
use Rattle.ap_scopes.specs.Flaws.{item_flaw, least_kind, redeclared_if}
use Rattle.ap_scopes.specs.Identifiers.{Found}
use Rattle.ap_scopes.specs.Resolution.{resolved_clause, resolved_query}
use Rattle.ap_typecheck.specs.declared.error.Refusal.{Refusal}
use Rattle.ap_typecheck.specs.declared.error.Refusal.TheVariants as refusals
use Rattle.ap_typecheck.specs.Checking.{TypesParts, TypesGoalParts, TypesClauseOf, TypesQueryOf, predicate_of, clause_with_kinds, query_with_kinds, IsClauseOf, IsQueryOf}
use Rattle.ap_typecheck.specs.Views.{type_refusal_of, IsRefusedBy, IsRefusedItem}

pub refused : (d : Declared) (P : List NominalKind → Type 0) (e : KindsError) → IsRefused e d.signature.constructors P → IsRefusedBy (type_refusal_of e) d P
refused d P kinds.Clash h = inl (refl, h)
refused d P kinds.Ambiguous h = inr (inl (refl, h))
refused d P kinds.Empty h = inr (inr (refl, h))
refused d P kinds.Memory h = tt

pub clause_refused : (e : Refusal) (d : Declared) (w : List ℕ) (args : List Term) (body : Option Goal) (pred : ℕ) (r : (List RawTerm × GoalOver RawTerm) × Found) → pred ≡ predicate_of d w → r ≡ resolved_clause d args body
    → IsRefusedBy e d (TypesParts d pred r) → IsRefusedBy e d (TypesClauseOf d w args body)
clause_refused e d w args body pred r ep er h = subst (λ x. IsRefusedBy e d (TypesParts d (predicate_of d w) x)) er (subst (λ p. IsRefusedBy e d (TypesParts d p r)) ep h)

pub query_refused : (e : Refusal) (d : Declared) (g : Goal) (r : GoalOver RawTerm × Found) → r ≡ resolved_query d g → IsRefusedBy e d (TypesGoalParts d r) → IsRefusedBy e d (TypesQueryOf d g)
query_refused e d g r er h = subst (λ x. IsRefusedBy e d (TypesGoalParts d x)) er h

pub clause_made : (d : Declared) (n line : ℕ) (w : List ℕ) (args : List Term) (body : Option Goal) (pred : ℕ) (r : (List RawTerm × GoalOver RawTerm) × Found) (ks : List NominalKind) (c : ClauseOver RawTerm)
    → pred ≡ predicate_of d w → r ≡ resolved_clause d args body → IsInferred d.signature.constructors (TypesParts d pred r) ks → c ≡ clause_with_kinds n line pred r ks → IsClauseOf d n line w args body c
clause_made d n line w args body pred r ks c ep er h ec = (
  ks,
  subst (λ x. IsInferred d.signature.constructors (TypesParts d (predicate_of d w) x) ks) er (subst (λ p. IsInferred d.signature.constructors (TypesParts d p r) ks) ep h),
  ec ∙ (λ j. clause_with_kinds n line (ep j) (er j) ks),
)

pub query_made : (d : Declared) (n line : ℕ) (g : Goal) (r : GoalOver RawTerm × Found) (ks : List NominalKind) (q : QueryOver RawTerm)
    → r ≡ resolved_query d g → IsInferred d.signature.constructors (TypesGoalParts d r) ks → q ≡ query_with_kinds n line r ks → IsQueryOf d n line g q
query_made d n line g r ks q er h eq = (ks, subst (λ x. IsInferred d.signature.constructors (TypesGoalParts d x) ks) er h, eq ∙ ap (λ x. query_with_kinds n line x ks) er)

-- an item whose words show no fault is refused for its types alone
pub clause_item_refused : (e : Refusal) (d : Declared) (w : List ℕ) (args : List Term) (body : Option Goal) → item_flaw d (items.AClause w args body) ≡ None → IsRefusedBy e d (TypesClauseOf d w args body) → IsRefusedItem e d (items.AClause w args body)
clause_item_refused (refusals.Kind k) d w args body f h = inr (f, h)
clause_item_refused refusals.Memory d w args body f h = tt

pub query_item_refused : (e : Refusal) (d : Declared) (g : Goal) → item_flaw d (items.AQuery g) ≡ None → IsRefusedBy e d (TypesQueryOf d g) → IsRefusedItem e d (items.AQuery g)
query_item_refused (refusals.Kind k) d g f h = inr (f, h)
query_item_refused refusals.Memory d g f h = tt

-- what is declared without a fault is new
pub not_redeclared : {A : Type 0} (x : Option A) → redeclared_if x ≡ None → x ≡ None
not_redeclared None h = refl
not_redeclared (Some a) h = absurd (cc)

pub first_is_none : (a b : Option TypeKind) → least_kind a b ≡ None → a ≡ None
first_is_none None b h = refl
first_is_none (Some k) None h = absurd (cc)
first_is_none (Some k) (Some m) h = absurd (cc)
