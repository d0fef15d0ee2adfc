-- Terms whose head is no bound variable.
use Rattle.std.specs.Prelude.{◌≡◌, ◌<◌, ℕ, true, List, [], Option, Some, None, is_some}
use Rattle.ap_defs.specs.Renaming.{IsBelow}
use Rattle.ap_defs.specs.Substitution.{Binding, under}
use Rattle.ap_defs.specs.Terms.{NominalTerm, susp, term_of}
use Rattle.ap_defs.specs.declared.terms.Swap.{Swap}
use Rattle.ap_defs.specs.declared.terms.Var.{Var}
use Rattle.ap_perm.specs.Closures.{closure_term}
use Rattle.ap_perm.specs.Lookups.{depth_of}
use Rattle.ap_defs.specs.HeadKeys.{head_key}
use Rattle.ap_theory.specs.Variables.{IsUnbound}
use Rattle.ap_store.specs.Likes.{AreAlike}
use Rattle.ap_store.specs.Triples.{Triple}
use Rattle.ap_store.specs.Views.{bindings_of, rank, raw_bound}
use Rattle.ap_store.specs.declared.following.Followed.{Followed}
use Rattle.ap_store.specs.declared.following.Followed.TheVariants as steps
use Rattle.ap_store.specs.declared.heads.Head.{Head}
use Rattle.ap_store.specs.declared.heads.Head.TheVariants as heads
use Rattle.ap_store.specs.declared.heads.HeadLook.{HeadLook}
use Rattle.ap_store.specs.declared.heads.HeadLook.TheVariants as looks
use Rattle.ap_store.specs.declared.store.Store.{Store}

abbrev pub IsHeadUnbound : List Binding → NominalTerm → Type 0
IsHeadUnbound bs (susp p x) = IsUnbound bs x
IsHeadUnbound bs _ = Unit {0}

-- one binding is followed, or there is none at the head of the term
abbrev pub IsHeadStep : Triple → (Var → ℕ) → NominalTerm → Followed → Type 0
IsHeadStep a rank t (steps.Ended c) = (closure_term c ≡ t) × IsHeadUnbound a.bindings (closure_term c)
IsHeadStep a rank t (steps.Further c) =
    (under a.bindings (closure_term c) ≡ under a.bindings t) × (IsBelow a.next t → IsBelow a.next (closure_term c))
    × (depth_of rank (closure_term c) < depth_of rank t)

-- no variable stands at the head of the term
abbrev pub HasForm : NominalTerm → Type 0
HasForm (susp p x) = ⊥
HasForm _ = Unit {0}

-- the unbound variable of a term that is a suspension, or none where it is none
abbrev pub IsHeadVar : List Binding → NominalTerm → Option Var → Type 0
IsHeadVar bs t None = HasForm t
IsHeadVar bs t (Some x) = IsUnbound bs x × ((p : List Swap) × (t ≡ susp p x))

-- what stands at the head of the term: an unbound variable, or a term that begins alike
abbrev pub IsAtHead : List Binding → NominalTerm → Head → Type 0
IsAtHead bs t (heads.Open x) = IsHeadVar bs t (Some x)
IsAtHead bs t (heads.Form u) = HasForm t × (head_key t ≡ head_key (term_of u.now))

-- a term in which no binding is carried out is a suspension of the variable, or none
abbrev pub IsLookIn : NominalTerm → HeadLook → Type 0
IsLookIn t (looks.Ends (heads.Open x)) = ⊥
IsLookIn t (looks.Ends (heads.Form u)) = HasForm t × (head_key t ≡ head_key (term_of u.now))
IsLookIn t (looks.Further y) = (p : List Swap) × (t ≡ susp p y)

-- the head of what the variable stands for, or the variable to which it is bound, which stands for a term like its own
abbrev pub IsHeadLook : Store → Var → HeadLook → Type 0
IsHeadLook s x (looks.Ends h) = IsAtHead (bindings_of s) (under (bindings_of s) (susp [] x)) h
IsHeadLook s x (looks.Further y) =
    AreAlike (under (bindings_of s) (susp [] x)) (under (bindings_of s) (susp [] y)) × (rank s y < rank s x) × (is_some (raw_bound s x) ≡ true)
