-- The least kind of some parts, one part after another.
use Rattle.std.proofs.Common.{◌≡◌, ◌<◌, ◌+◌, ℕ, zero, suc, List, [], ◌∷◌, length, drop, get_or, Option, sym, ap, ◌∙◌, arith}
use Rattle.ap_defs.specs.Types.{NominalSignature}
use Rattle.ap_defs.specs.declared.faults.TypeKind.{TypeKind}
use Rattle.ap_trees.specs.declared.trees.Tree.{Tree}
use Rattle.ap_trees.specs.declared.trees.TypeTree.{TypeTree}
use Rattle.ap_trees.specs.Trees.{term_of, trees_of, type_of_tree, types_of}
use Rattle.ap_scopes.specs.Declarations.{Declared}
use Rattle.ap_scopes.specs.Flaws.{least_kind, term_flaw, terms_flaw, type_flaw, types_flaw}
use Rattle.ap_scopes.proofs.LeastLemmas.{least_assoc}

terms_left : (d : Declared) (ts : List Tree) (i : ℕ) (t e : Tree) → i < length ts → t ≡ get_or ts i e
    → terms_flaw d (trees_of (drop i ts)) ≡ least_kind (term_flaw d (term_of t)) (terms_flaw d (trees_of (drop (suc i) ts)))
terms_left d [] i t e l is = absurd (omega arith)
terms_left d (u ∷ us) zero t e l is = ap (λ x. least_kind (term_flaw d (term_of x)) (terms_flaw d (trees_of us))) (sym is)
terms_left d (u ∷ us) (suc i) t e l is = terms_left d us i t e (omega arith) is

pub terms_next : (d : Declared) (ts : List Tree) (i : ℕ) (t e : Tree) (old new : Option TypeKind) → i < length ts → t ≡ get_or ts i e → new ≡ least_kind old (term_flaw d (term_of t))
    → least_kind old (terms_flaw d (trees_of (drop i ts))) ≡ terms_flaw d (trees_of ts) → least_kind new (terms_flaw d (trees_of (drop (i + 1) ts))) ≡ terms_flaw d (trees_of ts)
terms_next d ts i t e old new l is made before =
    let next : i + 1 ≡ suc i = omega arith in
    let rest = terms_flaw d (trees_of (drop (suc i) ts)) in
    ap (λ j. least_kind new (terms_flaw d (trees_of (drop j ts)))) next
    ∙ ap (λ k. least_kind k rest) made ∙ least_assoc old (term_flaw d (term_of t)) rest ∙ ap (least_kind old) (sym (terms_left d ts i t e l is)) ∙ before

types_left : (s : NominalSignature) (ts : List TypeTree) (i : ℕ) (t e : TypeTree) → i < length ts → t ≡ get_or ts i e
    → types_flaw s (types_of (drop i ts)) ≡ least_kind (type_flaw s (type_of_tree t)) (types_flaw s (types_of (drop (suc i) ts)))
types_left s [] i t e l is = absurd (omega arith)
types_left s (u ∷ us) zero t e l is = ap (λ x. least_kind (type_flaw s (type_of_tree x)) (types_flaw s (types_of us))) (sym is)
types_left s (u ∷ us) (suc i) t e l is = types_left s us i t e (omega arith) is

pub types_next : (s : NominalSignature) (ts : List TypeTree) (i : ℕ) (t e : TypeTree) (old new : Option TypeKind) → i < length ts → t ≡ get_or ts i e → new ≡ least_kind old (type_flaw s (type_of_tree t))
    → least_kind old (types_flaw s (types_of (drop i ts))) ≡ types_flaw s (types_of ts) → least_kind new (types_flaw s (types_of (drop (i + 1) ts))) ≡ types_flaw s (types_of ts)
types_next s ts i t e old new l is made before =
    let next : i + 1 ≡ suc i = omega arith in
    let rest = types_flaw s (types_of (drop (suc i) ts)) in
    ap (λ j. least_kind new (types_flaw s (types_of (drop j ts)))) next
    ∙ ap (λ k. least_kind k rest) made ∙ least_assoc old (type_flaw s (type_of_tree t)) rest ∙ ap (least_kind old) (sym (types_left s ts i t e l is)) ∙ before
