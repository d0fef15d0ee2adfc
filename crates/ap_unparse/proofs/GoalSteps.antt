-- Terms of an atom, one after the other.
use Rattle.std.proofs.Common.{◌≡◌, ℕ, suc, ◌+◌, ◌-◌, ◌≤◌, ◌<◌, List, [], ◌∷◌, ◌++◌, length, take, drop, get_or, sym, ap, ◌∙◌, append_assoc, arith, add-one, drop-cons}
use Rattle.std.specs.Prelude.{codes}
use Rattle.std.proofs.Math.Seq.{take-length}
use Rattle.ap_trees.specs.declared.trees.Tree.{Tree}
use Rattle.ap_trees.specs.Trees.{term_of, trees_of}
use Rattle.ap_unparse.specs.Written.{bytes_of}
use Rattle.ap_unparse.specs.WrittenTerms.{written_term}
use Rattle.ap_unparse.specs.WrittenGoals.{further_terms, arguments_of}
use Rattle.ap_unparse.proofs.ByteLemmas.{bytes_of-append}

pub further_next : (ts : List Tree) (t : Tree) (i : ℕ) (o o1 o2 all : List ℕ) → i < length ts → t ≡ get_or ts i t → o1 ≡ o ++ codes "," → o2 ≡ o1 ++ bytes_of (written_term (term_of t))
    → o ++ bytes_of (further_terms (trees_of (drop i ts))) ≡ all → o2 ++ bytes_of (further_terms (trees_of (drop (i + 1) ts))) ≡ all
further_next ts t i o o1 o2 all h e a b invariant =
    let front : drop i ts ≡ t ∷ drop (suc i) ts = drop-cons ts i t h ∙ ap (λ (x : Tree). x ∷ drop (suc i) ts) (sym e) in
    let next : o2 ++ bytes_of (further_terms (trees_of (drop (suc i) ts))) ≡ o ++ bytes_of (further_terms (trees_of (drop i ts))) =
    rw (b, a, front) (simp (bytes_of-append, append_assoc))
    in
    rw (add-one i) (next ∙ invariant)

others : (t : Tree) (ts : List Tree) → take (length (t ∷ ts) - 1) (drop 1 (t ∷ ts)) ≡ ts
others t ts = let as_many : length (t ∷ ts) - 1 ≡ length ts = omega arith in ap (λ n. take n ts) as_many ∙ take-length ts

pub arguments_written : (ts : List Tree) (t : Tree) (o o1 o2 o3 o4 : List ℕ) → 1 ≤ length ts → t ≡ get_or ts 0 t → o1 ≡ o ++ codes "(" → o2 ≡ o1 ++ bytes_of (written_term (term_of t))
    → o3 ≡ o2 ++ bytes_of (further_terms (trees_of (take (length ts - 1) (drop 1 ts)))) → o4 ≡ o3 ++ codes ")" → o4 ≡ o ++ bytes_of (arguments_of (trees_of ts))
arguments_written [] t o o1 o2 o3 o4 h e a b d f = absurd (omega arith)
arguments_written (u ∷ ts) t o o1 o2 o3 o4 h e a b d f = rw (f, d, others u ts, b, a, e) (simp (bytes_of-append, append_assoc))
