-- A term without parts weighs one and has one level, and each other has more.
use Rattle.std.proofs.Common.{◌≡◌, ◌<◌, ◌≤◌, arith}
use Rattle.ap_defs.specs.declared.terms.Term as code
use Rattle.ap_defs.specs.declared.terms.Term.TheViews.{size-Term, deep-Unit, deep-Name, deep-Susp, deep-Pair', deep-App', deep-Abs'}
use Rattle.ap_defs.specs.Terms as nodes
use Rattle.ap_defs.specs.Terms.{NominalTerm, term_of}
use Rattle.ap_defs.specs.Weights.{weight}

weight_some : (t : NominalTerm) → 0 < weight t
weight_some nodes.unit = omega arith
weight_some (nodes.name a) = omega arith
weight_some (nodes.susp p x) = omega arith
weight_some (nodes.pair t u) = omega arith
weight_some (nodes.app f t) = omega arith
weight_some (nodes.abs a t) = omega arith

size_some : (t : code.Term) → 0 < size-Term t
size_some code.Unit = let h = deep-Unit in omega (arith, h)
size_some (code.Name a) = let h = deep-Name a in omega (arith, h)
size_some (code.Susp p x) = let h = deep-Susp p x in omega (arith, h)
size_some (code.Pair' p t q u) = let h = deep-Pair' p t q u in omega (arith, h)
size_some (code.App' f p t) = let h = deep-App' f p t in omega (arith, h)
size_some (code.Abs' s n p t) = let h = deep-Abs' s n p t in omega (arith, h)

leaf_size : (t : code.Term) → weight (term_of t) ≡ 1 → size-Term t ≡ 1
leaf_size code.Unit e = deep-Unit
leaf_size (code.Name a) e = deep-Name a
leaf_size (code.Susp p x) e = deep-Susp p x
leaf_size (code.Pair' p t q u) e = let h = weight_some (term_of t) in absurd (omega (arith, h, e))
leaf_size (code.App' f p t) e = let h = weight_some (term_of t) in absurd (omega (arith, h, e))
leaf_size (code.Abs' s n p t) e = let h = weight_some (term_of t) in absurd (omega (arith, h, e))

parts_size : (t : code.Term) → 1 < weight (term_of t) → 1 < size-Term t
parts_size code.Unit l = absurd (omega (arith, l))
parts_size (code.Name a) l = absurd (omega (arith, l))
parts_size (code.Susp p x) l = absurd (omega (arith, l))
parts_size (code.Pair' p t q u) l = let h = deep-Pair' p t q u in let s = size_some t in omega (arith, h, s)
parts_size (code.App' f p t) l = let h = deep-App' f p t in let s = size_some t in omega (arith, h, s)
parts_size (code.Abs' s n p t) l = let h = deep-Abs' s n p t in let k = size_some t in omega (arith, h, k)

-- one without parts has fewer levels than one that weighs as much as a pair
pub leaf_lighter : (l t : code.Term) (u v : NominalTerm) → weight (term_of l) ≡ 1 → weight (nodes.pair u v) ≤ weight (term_of t) → size-Term l < size-Term t
leaf_lighter l t u v e w =
    let s = leaf_size l e in
    let k = weight_some u in
    let m = weight_some v in
    let p = parts_size t (omega (arith, w, k, m)) in
    omega (arith, s, p)
