-- A set of conditions is determined by its members.
use Rattle.std.proofs.Common.{subst, ◌≡◌, true, ◌||◌, List, [], ◌∷◌, ◌++◌, refl, sym, ap, ap₂, ◌∙◌, arith}
use Rattle.std.specs.Prelude.{if◌then◌else◌}
use Rattle.std.proofs.lemmas.Bool.Decides.{nat_tests}
use Rattle.ap_defs.specs.Freshness.{Conds, add_cond, add_conds, cond_before, cond_eq, has_cond, var_eq}
use Rattle.ap_defs.specs.Permutations.{name_eq}
use Rattle.ap_defs.specs.declared.terms.Cond.{Cond}
use Rattle.ap_defs.specs.declared.terms.Name.{Name}
use Rattle.ap_defs.specs.declared.terms.Var.{Var}
use Rattle.ap_theory.proofs.BooleanLemmas.{and_left, and_right, or_assoc, or_nothing}
use Rattle.ap_theory.proofs.OrderedLemmas.{IsAscending, IsOrder, add, ascending_add, has, member_add, same_ascending}
use Rattle.ap_theory.proofs.PermutationLemmas.{name_eq_same}
use Rattle.ap_theory.proofs.TermLemmas.{cond_eq_itself, var_same}

pub cond_eq_tells : (c d : Cond) → cond_eq c d ≡ true → c ≡ d
cond_eq_tells c d h =
    ap₂ (λ (a : Name) (x : Var). record { name = a; var = x })
    (name_eq_same c.name d.name (and_right (var_eq c.var d.var) (name_eq c.name d.name) h))
    (var_same c.var d.var (and_left (var_eq c.var d.var) (name_eq c.name d.name) h))

conds_ordered : IsOrder cond_eq cond_before
unfolding name_eq
conds_ordered = record {
  tells = cond_eq_tells;
  itself = cond_eq_itself;
  trans = λ a b c h k. grind (arith, nat_tests);
  irreflexive = λ a h. grind (arith, nat_tests);
  total = λ a b h k. grind (arith, nat_tests);
}

has_cond_has : (c : Cond) (ds : Conds) → has_cond c ds ≡ has cond_eq cond_before c ds
has_cond_has c [] = refl
has_cond_has c (d ∷ ds) = ap (λ x. cond_eq c d || x) (has_cond_has c ds)

add_cond_add : (c : Cond) (ds : Conds) → add_cond c ds ≡ add cond_eq cond_before c ds
add_cond_add c [] = refl
add_cond_add c (d ∷ ds) = ap (λ es. if cond_eq c d then (d ∷ ds) else (if cond_before c d then (c ∷ d ∷ ds) else (d ∷ es))) (add_cond_add c ds)

pub has_cond_add : (b c : Cond) (ds : Conds) → has_cond b (add_cond c ds) ≡ (cond_eq b c || has_cond b ds)
has_cond_add b c ds =
    has_cond_has b (add_cond c ds) ∙ ap (has cond_eq cond_before b) (add_cond_add c ds) ∙ member_add cond_eq cond_before conds_ordered b c ds
    ∙ ap (λ x. cond_eq b c || x) (sym (has_cond_has b ds))

pub has_cond_add_all : (b : Cond) (cs : List Cond) (ds : Conds) → has_cond b (add_conds cs ds) ≡ (has_cond b cs || has_cond b ds)
has_cond_add_all b [] ds = refl
has_cond_add_all b (c ∷ cs) ds = has_cond_add b c (add_conds cs ds) ∙ ap (λ x. cond_eq b c || x) (has_cond_add_all b cs ds) ∙ sym (or_assoc (cond_eq b c) (has_cond b cs) (has_cond b ds))

abbrev AreAscendingConds : Conds → Type 0
AreAscendingConds ds = IsAscending cond_eq cond_before ds

ascending_add_all : (cs : List Cond) (ds : Conds) → AreAscendingConds ds → AreAscendingConds (add_conds cs ds)
ascending_add_all [] ds h = h
ascending_add_all (c ∷ cs) ds h =
    subst (IsAscending cond_eq cond_before) (sym (add_cond_add c (add_conds cs ds))) (ascending_add cond_eq cond_before conds_ordered c (add_conds cs ds) (ascending_add_all cs ds h))

ascending_conds : (cs : List Cond) → AreAscendingConds (add_conds cs [])
ascending_conds cs = ascending_add_all cs [] tt

same_conds : (cs ds : Conds) → AreAscendingConds cs → AreAscendingConds ds → ((c : Cond) → has_cond c cs ≡ has_cond c ds) → cs ≡ ds
same_conds cs ds h k m = same_ascending cond_eq cond_before conds_ordered cs ds h k (λ c. sym (has_cond_has c cs) ∙ m c ∙ has_cond_has c ds)

-- in whatever order conditions are collected, the set is the same
pub add_conds_same : (cs ds : List Cond) → ((c : Cond) → has_cond c cs ≡ has_cond c ds) → add_conds cs [] ≡ add_conds ds []
add_conds_same cs ds h =
    same_conds (add_conds cs []) (add_conds ds []) (ascending_conds cs) (ascending_conds ds)
    (λ c. has_cond_add_all c cs [] ∙ or_nothing (has_cond c cs) ∙ h c ∙ sym (has_cond_add_all c ds [] ∙ or_nothing (has_cond c ds)))

pub add_conds_twice : (cs : List Cond) → add_conds (add_conds cs []) [] ≡ add_conds cs []
add_conds_twice cs = add_conds_same (add_conds cs []) cs (λ c. has_cond_add_all c cs [] ∙ or_nothing (has_cond c cs))

pub has_cond-append : (b : Cond) (cs ds : List Cond) → has_cond b (cs ++ ds) ≡ (has_cond b cs || has_cond b ds)
has_cond-append b [] ds = refl
has_cond-append b (c ∷ cs) ds = ap (λ x. cond_eq b c || x) (has_cond-append b cs ds) ∙ sym (or_assoc (cond_eq b c) (has_cond b cs) (has_cond b ds))

pub add_conds-append : (cs ds : List Cond) → add_conds (cs ++ ds) [] ≡ add_conds (add_conds cs []) (add_conds ds [])
add_conds-append cs ds =
    same_conds (add_conds (cs ++ ds) []) (add_conds (add_conds cs []) (add_conds ds [])) (ascending_conds (cs ++ ds)) (ascending_add_all (add_conds cs []) (add_conds ds []) (ascending_conds ds))
    (λ b. has_cond_add_all b (cs ++ ds) [] ∙ or_nothing (has_cond b (cs ++ ds)) ∙ has_cond-append b cs ds
    ∙ sym (has_cond_add_all b (add_conds cs []) (add_conds ds [])
    ∙ ap₂ ◌||◌ (has_cond_add_all b cs [] ∙ or_nothing (has_cond b cs)) (has_cond_add_all b ds [] ∙ or_nothing (has_cond b ds))))
