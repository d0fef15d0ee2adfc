-- Terms that are the same sign by sign are equal, and lists of which each item has something.
use Rattle.std.proofs.Common.{◌≡◌, ◌⊎◌, inl, inr, ℕ, Bool, true, false, ◌==◌, ◌&&◌, List, [], ◌∷◌, refl, ap, subst}
use Rattle.std.proofs.lemmas.Bool.Decides.{Decides-eqb}
use Rattle.std.specs.Cmp.Lexicographic.{pointwise, pointwise_decides}
use Rattle.ap_defs.specs.declared.terms.Name.{Name}
use Rattle.ap_defs.specs.declared.terms.Swap.{Swap}
use Rattle.ap_defs.specs.declared.terms.Var.{Var}
use Rattle.ap_defs.specs.Terms as terms
use Rattle.ap_defs.specs.Terms.{NominalTerm}
use Rattle.ap_bundle.specs.Tables.{same, same_name, same_swap}

pub cases : (b : Bool) → (b ≡ true) ⊎ (b ≡ false)
cases true = inl refl
cases false = inr refl

pub both : (a b : Bool) → (a && b) ≡ true → (a ≡ true) × (b ≡ true)
both true b h = (refl, h)
both false b h = (cc, cc)

pub one_number : (m n : ℕ) → (m == n) ≡ true → m ≡ n
one_number m n h = (Decides-eqb m n).0 h

pub own_number : (n : ℕ) → (n == n) ≡ true
own_number n = (Decides-eqb n n).1 refl

one_name : (a b : Name) → same_name a b ≡ true → a ≡ b
one_name a b h =
    let p = both (a.sort == b.sort) (a.num == b.num) h in
    let s = one_number a.sort b.sort p.0 in
    let n = one_number a.num b.num p.1 in
    λ i. record { sort = s i; num = n i }

own_name : (a : Name) → same_name a a ≡ true
own_name a = rw (own_number a.sort) (own_number a.num)

one_swap : (s r : Swap) → same_swap s r ≡ true → s ≡ r
one_swap s r h =
    let p = both (s.sort == r.sort) ((s.left == r.left) && (s.right == r.right)) h in
    let q = both (s.left == r.left) (s.right == r.right) p.1 in
    let e = one_number s.sort r.sort p.0 in
    let d = one_number s.left r.left q.0 in
    let f = one_number s.right r.right q.1 in
    λ i. record { sort = e i; left = d i; right = f i }

own_swap : (s : Swap) → same_swap s s ≡ true
own_swap s = rw (own_number s.sort, own_number s.left) (own_number s.right)

swap_decides : (s r : Swap) → (same_swap s r ≡ true → s ≡ r) × (s ≡ r → same_swap s r ≡ true)
swap_decides s r = (one_swap s r, λ e. subst (λ t. same_swap s t ≡ true) e (own_swap s))

pub same_true : (t u : NominalTerm) → same t u ≡ true → t ≡ u
same_true terms.unit terms.unit h = refl
same_true (terms.name a) (terms.name b) h = ap terms.name (one_name a b h)
same_true (terms.pair t u) (terms.pair v w) h =
    let p = both (same t v) (same u w) h in
    let left = same_true t v p.0 in
    let right = same_true u w p.1 in
    λ i. terms.pair (left i) (right i)
same_true (terms.app f t) (terms.app g u) h =
    let p = both (f == g) (same t u) h in
    let head = one_number f g p.0 in
    let part = same_true t u p.1 in
    λ i. terms.app (head i) (part i)
same_true (terms.abs a t) (terms.abs b u) h =
    let p = both (same_name a b) (same t u) h in
    let head = one_name a b p.0 in
    let part = same_true t u p.1 in
    λ i. terms.abs (head i) (part i)
same_true (terms.susp p x) (terms.susp q y) h =
    let b = both (pointwise same_swap p q) (x.num == y.num) h in
    let swaps = (pointwise_decides swap_decides p q).0 b.0 in
    let num = one_number x.num y.num b.1 in
    λ i. terms.susp (swaps i) (record { num = num i })
same_true t u h = cc

pub own_same : (t : NominalTerm) → same t t ≡ true
own_same terms.unit = refl
own_same (terms.name a) = own_name a
own_same (terms.pair t u) = rw (own_same t) (own_same u)
own_same (terms.app f t) = rw (own_number f) (own_same t)
own_same (terms.abs a t) = rw (own_name a) (own_same t)
own_same (terms.susp p x) = let s = (pointwise_decides swap_decides p p).1 refl in rw s (own_number x.num)
