-- Bound variables that are known to stand for terms with the same variables as another one.
use Rattle.std.specs.Prelude.{◌≡◌, ℕ, zero, suc, Bool, false, List, [], ◌∷◌}
use mathlib.Core.HLevel.{Unit-prop}
use Rattle.std.proofs.Props.{props}
use Rattle.ap_defs.specs.Freshness.{var_eq}
use Rattle.ap_defs.specs.HeadKeys.{head_key}
use Rattle.ap_defs.specs.Substitution.{Binding, occurs, under}
use Rattle.ap_defs.specs.Terms.{NominalTerm, susp}
use Rattle.ap_defs.specs.declared.terms.Var.{Var}
use Rattle.ap_store.specs.Changes.{Change, Made, Bound, Added, Taken, after}
use Rattle.ap_store.specs.Slots.{var_at}
use Rattle.ap_store.specs.Triples.{Triple}
use Rattle.ap_store.specs.declared.likes.Like.{Like}
use Rattle.ap_store.specs.declared.likes.Like.TheVariants as kept

-- the same variables occur in both terms
abbrev pub HaveSameVars : NominalTerm → NominalTerm → Type 0
HaveSameVars t u = (y : Var) → occurs y t ≡ occurs y u

-- the term is a suspension of the variable
abbrev pub is_suspended : Var → NominalTerm → Bool
is_suspended y (susp p x) = var_eq y x
is_suspended y _ = false

-- both terms begin with the same constructor, or are suspensions of the same variable
abbrev pub HaveSameHead : NominalTerm → NominalTerm → Type 0
HaveSameHead t u = (head_key t ≡ head_key u) × ((y : Var) → is_suspended y t ≡ is_suspended y u)

abbrev pub AreAlike : NominalTerm → NominalTerm → Type 0
AreAlike t u = HaveSameVars t u × HaveSameHead t u

-- what is kept of the number, if anything is
abbrev pub like_in : List Like → ℕ → Like
like_in [] i = kept.Nothing
like_in (l ∷ ls) zero = l
like_in (l ∷ ls) (suc i) = like_in ls i

-- what is kept holds of a term under the bindings
abbrev pub IsAlike : Like → List Binding → NominalTerm → Type 0
IsAlike kept.Nothing bs t = Unit {0}
IsAlike (kept.Vars w) bs t = HaveSameVars (under bs t) (under bs (susp [] (var_at w)))
IsAlike (kept.Head w) bs t = AreAlike (under bs t) (under bs (susp [] (var_at w)))

-- when a variable is bound, what is kept beside it holds of what it is bound to
abbrev pub IsLike : (ℕ → Like) → Change → Triple → Type 0
IsLike m (Made n) a = Unit {0}
IsLike m (Bound x t) a = IsAlike (m x.num) a.bindings t
IsLike m (Added c) a = Unit {0}
IsLike m (Taken x cs) a = Unit {0}

abbrev pub AreLikes : (ℕ → Like) → List Change → Triple → Type 0
AreLikes m [] a = Unit {0}
AreLikes m (c ∷ cs) a = IsLike m c a × AreLikes m cs (after c a)

alike_prop : (l : Like) (bs : List Binding) (t : NominalTerm) → IsProp (IsAlike l bs t)
alike_prop kept.Nothing bs t = Unit-prop
alike_prop (kept.Vars w) bs t = hlevel props
alike_prop (kept.Head w) bs t = hlevel props

like_prop : (m : ℕ → Like) (c : Change) (a : Triple) → IsProp (IsLike m c a)
like_prop m (Made n) a = Unit-prop
like_prop m (Bound x t) a = alike_prop (m x.num) a.bindings t
like_prop m (Added c) a = Unit-prop
like_prop m (Taken x cs) a = Unit-prop

pub likes_prop : (m : ℕ → Like) (cs : List Change) (a : Triple) → IsProp (AreLikes m cs a)
likes_prop m [] a = Unit-prop
likes_prop m (c ∷ cs) a = let h : IsProp (IsLike m c a) = like_prop m c a in let k : IsProp (AreLikes m cs (after c a)) = likes_prop m cs (after c a) in hlevel (props, h, k)
