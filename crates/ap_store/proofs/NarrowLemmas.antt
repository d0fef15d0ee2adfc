-- Terms with the same variables.
use Rattle.std.proofs.Common.{◌≡◌, Bool, true, false, ◌||◌, List, [], refl, ap, ◌∙◌, inl, inr, subst}
use Rattle.std.specs.Prelude.{◌⊎◌, Option, Some, None, if◌then◌else◌}
use Rattle.ap_defs.specs.Renaming.{rename_term}
use Rattle.ap_defs.specs.Substitution.{Binding, bound_term, occurs, under}
use Rattle.ap_defs.specs.Terms.{NominalTerm, pair, susp, term_of}
use Rattle.ap_defs.specs.declared.terms.Name.{Name}
use Rattle.ap_defs.specs.declared.terms.Swap.{Swap}
use Rattle.ap_defs.specs.declared.terms.Term.{Term}
use Rattle.ap_defs.specs.declared.terms.Term.TheVariants as code
use Rattle.ap_defs.specs.declared.terms.Var.{Var}
use Rattle.ap_theory.proofs.BooleanLemmas.{or_assoc, or_nothing}
use Rattle.ap_store.proofs.BindLemmas.{occurs_moved}
use Rattle.ap_store.proofs.OccurrenceLemmas.{apart_not_ground, apart_not_like, like_not_ground, occurs_not_ground, occurs_not_like, same_like}
use Rattle.ap_store.specs.Founds.{bare_term, does_occur}
use Rattle.ap_store.specs.Likes.{HaveSameVars}
use Rattle.ap_store.specs.Marks.{HasNoVars}
use Rattle.ap_store.specs.Narrow.{IsAlone, IsNarrowed}
use Rattle.ap_store.specs.Views.{bindings_of}
use Rattle.ap_store.specs.declared.bare.Bare.{Bare}
use Rattle.ap_store.specs.declared.narrow.Alone.{Alone}
use Rattle.ap_store.specs.declared.narrow.Alone.TheVariants as alone
use Rattle.ap_store.specs.declared.narrow.Narrowed.TheVariants as results
use Rattle.ap_store.specs.declared.occurrences.Occurrence.TheVariants as occurrences
use Rattle.ap_store.specs.declared.store.Store.{Store}

pub same_trans : (t u v : NominalTerm) → HaveSameVars t u → HaveSameVars u v → HaveSameVars t v
same_trans t u v h k = λ y. h y ∙ k y

pub same_none : (t u : NominalTerm) → HaveSameVars t u → HasNoVars u → HasNoVars t
same_none t u h k = λ y. h y ∙ k y

module _ (bs : List Binding) where
  -- swappings that wait on a variable change no variables
  pub same_swapped : (q : List Swap) (x : Var) → HaveSameVars (under bs (susp q x)) (under bs (susp [] x))
  same_swapped q x = λ y. occurs_moved y x q [] (bound_term bs x)

  pub alone_same : (t u : NominalTerm) (a : Alone) → HaveSameVars (under bs u) (under bs t) → IsAlone bs t a → IsAlone bs u a
  alone_same t u alone.Nothing h k = λ y. h y ∙ k y
  alone_same t u (alone.One w) h k = λ y. h y ∙ k y
  alone_same t u alone.Several h k = tt

  or_same : (o : Bool) → (o || o) ≡ o
  or_same true = refl
  or_same false = refl

  -- the left term has no variables, or the right one, or both have those of one
  pub both_nothing : (t u : NominalTerm) (a : Alone) → IsAlone bs t alone.Nothing → IsAlone bs u a → IsAlone bs (pair t u) a
  both_nothing t u a h k = alone_same u (pair t u) a (λ y. ap (λ o. o || occurs y (under bs u)) (h y)) k

  pub nothing_both : (t u : NominalTerm) (a : Alone) → IsAlone bs t a → IsAlone bs u alone.Nothing → IsAlone bs (pair t u) a
  nothing_both t u a h k = alone_same t (pair t u) a (λ y. ap (λ o. occurs y (under bs t) || o) (k y) ∙ or_nothing (occurs y (under bs t))) h

  pub one_both : (t u : NominalTerm) (w : Var) → IsAlone bs t (alone.One w) → IsAlone bs u (alone.One w) → IsAlone bs (pair t u) (alone.One w)
  one_both t u w h k = λ y. ap (λ o. o || occurs y (under bs u)) (h y) ∙ ap (λ o. occurs y (under bs (susp [] w)) || o) (k y) ∙ or_same (occurs y (under bs (susp [] w)))

  -- one more part comes to those before
  pub before_more : (before left right whole : NominalTerm) → HaveSameVars (under bs (pair before (pair left right))) (under bs whole)
      → HaveSameVars (under bs (pair (pair before left) right)) (under bs whole)
  before_more before left right whole h = λ y. or_assoc (occurs y (under bs before)) (occurs y (under bs left)) (occurs y (under bs right)) ∙ h y

-- the term of a leaf
pub leaf_alone : (bs : List Binding) (n : _) (t : Term) → (t ≡ code.Unit) ⊎ ((a : Name) × (t ≡ code.Name a)) → HasNoVars (under bs (rename_term n (term_of t)))
leaf_alone bs n t (inl e) = λ y. ap (λ (u : Term). occurs y (under bs (rename_term n (term_of u)))) e
leaf_alone bs n t (inr e) = λ y. ap (λ (u : Term). occurs y (under bs (rename_term n (term_of u)))) e.1

-- what is left to look at has the same variables, whether a variable is given or not
pub goes_same : (s : Store) (t : NominalTerm) (o : Option Var) (b : Bare) → IsNarrowed s t (results.Goes o b) → HaveSameVars (under (bindings_of s) t) (under (bindings_of s) (bare_term b))
goes_same s t None b h = h
goes_same s t (Some w) b h = h.0

pub goes_like : (s : Store) (t : NominalTerm) (o : Option Var) (b : Bare) (w : Var) → IsNarrowed s t (results.Goes o b) → o ≡ Some w → HaveSameVars (under (bindings_of s) t) (under (bindings_of s) (susp [] w))
goes_like s t o b w h e = let k : IsNarrowed s t (results.Goes (Some w) b) = subst (λ (p : Option Var). IsNarrowed s t (results.Goes p b)) e h in k.1

-- what is told of an unbound variable
pub end_found : (b f : Bool) (w : Var) → does_occur (if b then occurrences.Occurs else (if f then occurrences.Like w else occurrences.Apart)) ≡ b
end_found true f w = refl
end_found false true w = refl
end_found false false w = refl

pub end_not_ground : (b f : Bool) (w : Var) → (if b then occurrences.Occurs else (if f then occurrences.Like w else occurrences.Apart)) ≡ occurrences.Ground → ⊥
end_not_ground true f w e = occurs_not_ground e
end_not_ground false true w e = like_not_ground w e
end_not_ground false false w e = apart_not_ground e

pub end_like : (b f : Bool) (w v : Var) → (if b then occurrences.Occurs else (if f then occurrences.Like w else occurrences.Apart)) ≡ occurrences.Like v → w ≡ v
end_like true f w v e = absurd (occurs_not_like v e)
end_like false true w v e = same_like w v e
end_like false false w v e = absurd (apart_not_like v e)
