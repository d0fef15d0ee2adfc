-- A derivation without parts weighs one and has one level, and each other has more.
use Rattle.std.proofs.Common.{◌≡◌, ℕ, ◌<◌, ◌≤◌, arith}
use Rattle.ap_shared.specs.declared.derivations.SharedDerivation as code
use Rattle.ap_shared.specs.declared.derivations.SharedDerivation.TheViews.{size-SharedDerivation, deep-Atom', deep-Both', deep-Eq, deep-Exists', deep-Fresh, deep-Left', deep-New', deep-Right', deep-True}
use Rattle.ap_defs.specs.Derivations as nodes
use Rattle.ap_defs.specs.Derivations.{DerivationOver, derivation_weight}
use Rattle.ap_shared.specs.LineDerivations.{derivation_lines}

weight_some : {T : Type 0} → (d : DerivationOver T) → 0 < derivation_weight d
weight_some (nodes.atom k as' ts d) = omega arith
weight_some nodes.equal = omega arith
weight_some nodes.fresh = omega arith
weight_some nodes.succeed = omega arith
weight_some (nodes.both d e) = omega arith
weight_some (nodes.left d) = omega arith
weight_some (nodes.right d) = omega arith
weight_some (nodes.exists t d) = omega arith
weight_some (nodes.new a d) = omega arith

size_some : (d : code.SharedDerivation) → 0 < size-SharedDerivation d
size_some (code.Atom' u p d) = let h = deep-Atom' u p d in omega (arith, h)
size_some code.Eq = let h = deep-Eq in omega (arith, h)
size_some code.Fresh = let h = deep-Fresh in omega (arith, h)
size_some code.True = let h = deep-True in omega (arith, h)
size_some (code.Both' p d q e) = let h = deep-Both' p d q e in omega (arith, h)
size_some (code.Left' p d) = let h = deep-Left' p d in omega (arith, h)
size_some (code.Right' p d) = let h = deep-Right' p d in omega (arith, h)
size_some (code.Exists' t p d) = let h = deep-Exists' t p d in omega (arith, h)
size_some (code.New' a p d) = let h = deep-New' a p d in omega (arith, h)

leaf_size : (d : code.SharedDerivation) → derivation_weight (derivation_lines d) ≡ 1 → size-SharedDerivation d ≡ 1
leaf_size (code.Atom' u p d) e = let h = weight_some (derivation_lines d) in absurd (omega (arith, h, e))
leaf_size code.Eq e = deep-Eq
leaf_size code.Fresh e = deep-Fresh
leaf_size code.True e = deep-True
leaf_size (code.Both' p d q f) e = let h = weight_some (derivation_lines d) in absurd (omega (arith, h, e))
leaf_size (code.Left' p d) e = let h = weight_some (derivation_lines d) in absurd (omega (arith, h, e))
leaf_size (code.Right' p d) e = let h = weight_some (derivation_lines d) in absurd (omega (arith, h, e))
leaf_size (code.Exists' t p d) e = let h = weight_some (derivation_lines d) in absurd (omega (arith, h, e))
leaf_size (code.New' a p d) e = let h = weight_some (derivation_lines d) in absurd (omega (arith, h, e))

parts_size : (d : code.SharedDerivation) → 1 < derivation_weight (derivation_lines d) → 1 < size-SharedDerivation d
parts_size (code.Atom' u p d) l = let h = deep-Atom' u p d in let s = size_some d in omega (arith, h, s)
parts_size code.Eq l = absurd (omega (arith, l))
parts_size code.Fresh l = absurd (omega (arith, l))
parts_size code.True l = absurd (omega (arith, l))
parts_size (code.Both' p d q e) l = let h = deep-Both' p d q e in let s = size_some d in omega (arith, h, s)
parts_size (code.Left' p d) l = let h = deep-Left' p d in let s = size_some d in omega (arith, h, s)
parts_size (code.Right' p d) l = let h = deep-Right' p d in let s = size_some d in omega (arith, h, s)
parts_size (code.Exists' t p d) l = let h = deep-Exists' t p d in let s = size_some d in omega (arith, h, s)
parts_size (code.New' a p d) l = let h = deep-New' a p d in let s = size_some d in omega (arith, h, s)

-- one without parts has fewer levels than one that weighs as much as a conjunction
pub leaf_lighter : (l d : code.SharedDerivation) (g h : DerivationOver ℕ) → derivation_weight (derivation_lines l) ≡ 1 → derivation_weight (nodes.both g h) ≤ derivation_weight (derivation_lines d) → size-SharedDerivation l < size-SharedDerivation d
leaf_lighter l d g h e w =
    let s = leaf_size l e in
    let k = weight_some g in
    let m = weight_some h in
    let p = parts_size d (omega (arith, w, k, m)) in
    omega (arith, s, p)
