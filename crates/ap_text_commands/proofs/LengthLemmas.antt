-- How long texts are that are made from a number: with as many queries as may be asked for, each is within the limit of a text.
use Rattle.std.proofs.Common.{◌≡◌, ◌≤◌, ◌+◌, ◌*◌, ◌%◌, ℕ, zero, suc, List, ◌++◌, length, refl, ap, ◌∙◌, arith, length-append}
use Rattle.std.specs.Prelude.{codes}
use Rattle.ap_defs.specs.Limits.{size_limit}
use Rattle.ap_text_commands.specs.Generated.{Drawn, application, by_kind, calculus, drawn, generated, lambda, leaf, bound_name, next_draw, queries, query, term}
use Rattle.ap_words.specs.Sizes.{most_queries}

name_length : (n : ℕ) → length (bound_name n) ≡ 1
name_length zero = refl
name_length (suc zero) = refl
name_length (suc (suc n)) = refl

three : (a b c : List ℕ) → length (a ++ b ++ c) ≡ length a + length b + length c
three a b c = length-append (a ++ b) c ∙ ap (λ n. n + length c) (length-append a b)

five : (a b c d e : List ℕ) → length (a ++ b ++ c ++ d ++ e) ≡ length a + length b + length c + length d + length e
five a b c d e = three (a ++ b ++ c) d e ∙ ap (λ n. n + length d + length e) (three a b c)

-- the length of the longest term of at most this height
abbrev longest : ℕ → ℕ
longest zero = 6
longest (suc h) = 2 * longest h + 6

leaf_length : (x : ℕ) → length (leaf x).text ≡ 6
leaf_length x =
    let whole : length (leaf x).text ≡ 4 + length (bound_name (drawn 3 x)) + 1 = three (codes "var(") (bound_name (drawn 3 x)) (codes ")") in
    omega (arith, whole, name_length (drawn 3 x))

-- the parts of a term are no longer than this
module _ (make : ℕ → Drawn) (most : ℕ) (short : (x : ℕ) → length (make x).text ≤ most) where
  lambda_length : (x : ℕ) → length (lambda make x).text ≤ most + 7
  lambda_length x =
      let name = bound_name (drawn 3 x) in
      let body = (make (next_draw x)).text in
      let whole : length (lambda make x).text ≡ 4 + length name + 1 + length body + 1 = five (codes "lam(") name (codes "\\") body (codes ")") in
      omega (arith, whole, name_length (drawn 3 x), short (next_draw x))

  application_length : (x : ℕ) → length (application make x).text ≤ 2 * most + 6
  application_length x =
      let left = (make x).text in
      let right = (make (make x).state).text in
      let whole : length (application make x).text ≡ 4 + length left + 1 + length right + 1 = five (codes "app(") left (codes ",") right (codes ")") in
      omega (arith, whole, short x, short (make x).state)

  kind_length : 6 ≤ most → (k x : ℕ) → length (by_kind k make x).text ≤ 2 * most + 6
  kind_length some zero x = omega (arith, leaf_length x)
  kind_length some (suc zero) x = omega (arith, lambda_length x, some)
  kind_length some (suc (suc k)) x = application_length x

some_length : (h : ℕ) → 6 ≤ longest h
some_length zero = omega arith
some_length (suc h) = omega (arith, some_length h)

term_length : (h x : ℕ) → length (term h x).text ≤ longest h
term_length zero x = omega (arith, leaf_length x)
term_length (suc h) x = kind_length (term h) (longest h) (term_length h) (some_length h) (drawn 4 x) (next_draw x)

query_length : (x : ℕ) → length (query x) ≤ 113
query_length x =
    let whole : length (query x) ≡ 20 + length (term 3 x).text + 3 = three (codes "?- subst(M,a,var(b),") (term 3 x).text (codes ").\n") in
    let short : length (term 3 x).text ≤ 90 = term_length 3 x in omega (arith, whole, short)

queries_length : (n x : ℕ) → length (queries n x) ≤ 113 * n
queries_length zero x = omega arith
queries_length (suc n) x =
    let both : length (query x ++ queries n (term 3 x).state) ≡ length (query x) + length (queries n (term 3 x).state) = length-append (query x) (queries n (term 3 x).state) in
    omega (arith, both, query_length x, queries_length n (term 3 x).state)

calculus_length : length calculus ≤ 1000
calculus_length = omega arith

pub generated_length : (seed size : ℕ) → size ≤ most_queries → length (generated seed size) ≤ size_limit
generated_length seed size few =
    let both : length (generated seed size) ≡ length calculus + length (queries size (seed % 65537)) = length-append calculus (queries size (seed % 65537)) in
    omega (arith, both, calculus_length, queries_length size (seed % 65537), few)
