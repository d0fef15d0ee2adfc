-- Swappings of closures.
use Rattle.std.proofs.Common.{◌≡◌, ◌≤◌, ◌+◌, ◌-◌, ℕ, List, [], ◌∷◌, length, map, subst, sym, ap, ◌∙◌, arith}
use Rattle.ap_theory.proofs.BooleanLemmas.{and_both}
use Rattle.ap_theory.proofs.PermutationLemmas.{act_sort, name_eq_same}
use Rattle.ap_theory.proofs.TermLemmas.{act_term_none, same_number}
use Rattle.ap_defs.specs.Permutations.{act_name, name_eq}
use Rattle.ap_defs.specs.Renaming.{AreSwapsBelow, IsBelow, rename_name, rename_swap, rename_term}
use Rattle.ap_defs.specs.Terms.{NominalTerm, act_term, susp, term_of}
use Rattle.ap_defs.specs.declared.terms.Name.{Name}
use Rattle.ap_defs.specs.declared.terms.Swap.{Swap}
use Rattle.ap_defs.specs.declared.terms.Term.{Term}
use Rattle.ap_defs.specs.declared.terms.Term.TheVariants as code
use Rattle.ap_defs.specs.declared.terms.Var.{Var}

swaps_below_more : (m n : ℕ) → n ≤ m → (p : List Swap) → AreSwapsBelow n p → AreSwapsBelow m p
swaps_below_more m n l [] h = tt
swaps_below_more m n l (s ∷ p) h = (omega arith, omega arith, swaps_below_more m n l p h.2)

-- the swappings of a suspension
pub waiting_below : (m n base : ℕ) (t : Term) (q r : List Swap) (x : Var) → n ≤ m → IsBelow n (rename_term base (term_of t)) → t ≡ code.Susp q x → r ≡ q
    → AreSwapsBelow m (map (rename_swap base) r)
waiting_below m n base t q r x l h e f =
    let k : IsBelow n (rename_term base (susp q x)) = subst (λ (u : Term). IsBelow n (rename_term base (term_of u))) e h in
    subst (λ (p : List Swap). AreSwapsBelow m (map (rename_swap base) p)) (sym f) (swaps_below_more m n l (map (rename_swap base) q) k.0)

-- no swapping moves a term
pub moved_by_none : (t : NominalTerm) (p : List Swap) → length p ≡ 0 → t ≡ act_term p t
moved_by_none t [] e = sym (act_term_none t)
moved_by_none t (s ∷ p) e = cc

-- a name that is numbered from elsewhere is what swappings make of it
pub settled_name : (p : List Swap) (base : ℕ) (a k m : Name) → k ≡ rename_name base a → m ≡ act_name p k → a.num ≤ m.num → rename_name (m.num - a.num) a ≡ act_name p (rename_name base a)
unfolding name_eq
settled_name p base a k m f e l =
    let h : m ≡ act_name p (rename_name base a) = e ∙ ap (act_name p) f in
    let s : m.sort ≡ a.sort = ap (λ (c : Name). c.sort) h ∙ act_sort p (rename_name base a) in
    let n : (m.num - a.num) + a.num ≡ m.num = omega (arith, l) in
    name_eq_same (rename_name (m.num - a.num) a) m (and_both _ _ (same_number a.sort m.sort (sym s)) (same_number ((m.num - a.num) + a.num) m.num n)) ∙ h
