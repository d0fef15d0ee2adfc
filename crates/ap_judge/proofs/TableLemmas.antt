-- What stands for identifiers, and what is left to compare, stays of its table.
use Rattle.std.proofs.Common.{◌≡◌, ℕ, suc, length, List, [], ◌∷◌, ◌++◌, get_or, sym, subst, arith, ◌<◌}
use Rattle.std.specs.List.{All}
use Rattle.std.specs.Prelude.{Option, Some, None, IfSome}
use Rattle.std.proofs.lemmas.List.Elements.{All-get_or, All-nil, All-cons, All-push, All-same}
use Rattle.ap_shared.specs.declared.arena.SharedTerms.{SharedTerms}
use Rattle.ap_judge.specs.declared.closures.Closure.{Closure}
use Rattle.ap_judge.specs.declared.equality.Compared.{Compared}
use Rattle.ap_judge.specs.declared.scope.Standing.{Standing}
use Rattle.ap_judge.specs.Tables.{AreStandingIn, IsClosureIn, IsComparedIn, IsStandingIn}

pub some_weaker : {A : Type 0} (o : Option A) (P Q : A → Type 0) → ((x : A) → P x → Q x) → IfSome o P → IfSome o Q
some_weaker None P Q f h = tt
some_weaker (Some x) P Q f h = f x h

-- what stands at a place
pub standing_at : (ss : List Standing) (i : ℕ) (s : Standing) (ts : SharedTerms) → i < length ss → s ≡ get_or ss i s → AreStandingIn ts ss → IsStandingIn ts s
standing_at ss i s ts l e h = subst (IsStandingIn ts) (sym e) (All-get_or (IsStandingIn ts) ss i s l h)

-- two terms more are left to compare
pub compared_put : (ts : SharedTerms) (ps qs : List Compared) (t u : Closure) (n : ℕ) → qs ≡ ps ++ (record { left = t; right = u; mark = n }) ∷ [] → IsClosureIn ts t → IsClosureIn ts u
    → All (IsComparedIn ts) ps → All (IsComparedIn ts) qs
compared_put ts ps qs t u n e h k l =
    All-same (IsComparedIn ts) qs (ps ++ (record { left = t; right = u; mark = n }) ∷ []) e (All-push (IsComparedIn ts) ps (record { left = t; right = u; mark = n }) l (h, k))

-- the last of a list, and those before it
pub last_all : {A : Type 0} (P : A → Type 0) (xs : List A) (x : A) → All P (xs ++ x ∷ []) → All P xs × P x
last_all P [] x h = (All-nil P, h 0 x (omega arith))
last_all P (y ∷ xs) x h =
    let rest = last_all P xs x (λ k d l. h (suc k) d (omega (arith, l))) in
    (All-cons P y xs (h 0 y (omega arith)) rest.0, rest.1)
