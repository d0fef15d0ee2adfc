-- How many things the items of a text make.
use Rattle.std.proofs.Common.{◌≡◌, ℕ, zero, suc, ◌+◌, ◌≤◌, List, [], ◌∷◌, ◌++◌, length, refl, sym, ap, subst, arith, length-append}
use Rattle.ap_defs.specs.RawTerms.{RawTerm}
use Rattle.ap_defs.specs.Types.{NominalConstructor, NominalType}
use Rattle.ap_defs.specs.Goals.{ClauseOver, ProgramOver}
use Rattle.ap_trees.specs.Items as items
use Rattle.ap_trees.specs.Items.{Saying, ItemOf}
use Rattle.ap_program.specs.NameRestriction.{item_count, sum_of_lengths}
use Rattle.ap_typecheck.specs.Declaring.{Made, nothing_made, put_clause}
use Rattle.ap_typecheck.specs.Checking.{Says, MakesAll, IsProgramOf}
use Rattle.ap_typecheck.specs.Views.{made_count}

put_sum : (c : ClauseOver RawTerm) (p : ℕ) (css : List (List (ClauseOver RawTerm))) → sum_of_lengths (put_clause c p css) ≤ suc (sum_of_lengths css)
put_sum c p [] = omega arith
put_sum c zero (cs ∷ css) = omega (arith, length-append cs (c ∷ []))
put_sum c (suc p) (cs ∷ css) = let rest = put_sum c p css in omega (arith, rest)

list_sum : (css : List (List (ClauseOver RawTerm))) → sum_of_lengths (css ++ [] ∷ []) ≡ sum_of_lengths css
list_sum [] = refl
list_sum (cs ∷ css) = ap (λ n. length cs + n) (list_sum css)

pub says_count : (m : Made) (n line : ℕ) (saying : Saying) (after : Made) → Says m n line saying after → made_count after ≤ suc (made_count m)
says_count m n line (items.ANameType w) after e = subst (λ a. made_count a ≤ suc (made_count m)) (sym e) (omega (arith, length-append m.declared.signature.name_types (w ∷ [])))
says_count m n line (items.ADataType w) after e = subst (λ a. made_count a ≤ suc (made_count m)) (sym e) (omega (arith, length-append m.declared.signature.data_types (w ∷ [])))
says_count m n line (items.AConstructor w args result) after e = subst (λ a. made_count a ≤ suc (made_count m)) (sym e) (omega (arith, length-append {A = NominalConstructor}))
says_count m n line (items.APredicate w args) after e = subst (λ a. made_count a ≤ suc (made_count m)) (sym e) (omega (arith, length-append {A = List NominalType}, list_sum m.clauses))
says_count m n line (items.AClause w args body) after e = subst (λ a. made_count a ≤ suc (made_count m)) (sym e.2) (omega (arith, put_sum e.0 e.0.pred m.clauses))
says_count m n line (items.AQuery g) after e = subst (λ a. made_count a ≤ suc (made_count m)) (sym e.2) (omega (arith, length-append m.queries (e.0 ∷ [])))

pub all_count : (m : Made) (n : ℕ) (is : List ItemOf) (after : Made) → MakesAll m n is after → made_count after ≤ made_count m + length is
all_count m n [] after e = subst (λ a. made_count a ≤ made_count m + 0) (sym e) (omega arith)
all_count m n (i ∷ is) after e = let first = says_count m n i.line i.form e.0 e.1.1 in let rest = all_count e.0 (suc n) is after e.2 in omega arith

pub program_count : (is : List ItemOf) (p : ProgramOver RawTerm) → IsProgramOf is p → item_count p ≤ length is
program_count is p h = subst (λ q. item_count q ≤ length is) (sym h.2) (let all = all_count nothing_made 1 is h.0 h.1 in omega arith)
