-- Shapes whose parts are not taken out.
use Rattle.std.proofs.Common.{◌≡◌, ◌<◌, ◌∙◌, ℕ, false, List, Option, refl, sym, ap, subst, arith}
use Rattle.ap_defs.specs.Types.{NominalType, NominalConstructor, TypeShape, hole, unit, names, base, pair, list, abs, IsNoPair, IsNoAbs}
use Rattle.ap_defs.specs.Types as types
use Rattle.ap_defs.specs.RawTerms.{RawTerm}
use Rattle.ap_defs.specs.RawTerms as raw
use Rattle.ap_spines.proofs.SpineLemmas.{raw_size}
use Rattle.ap_kinds.specs.declared.kinds.IdentKind.{IdentKind}
use Rattle.ap_types.specs.Growing.{is_hole}
use Rattle.ap_kinds.specs.Systems.{EquationSystem}
use Rattle.ap_kinds.specs.Gathering.{Wanting, Sides, whole, typed, sides, new_sides, result_of, inside_abstraction, new_body, gather_term, IsCellWanted}

pub no_pair_sides : (o : Option ℕ) (t : TypeShape) (s : EquationSystem) → IsNoPair t → is_hole t ≡ false → sides o (whole t) s ≡ new_sides o t s
no_pair_sides o (hole x) s h e = absurd (cc)
no_pair_sides o unit s h e = refl
no_pair_sides o (names k) s h e = refl
no_pair_sides o (base d) s h e = refl
no_pair_sides o (pair t u) s h e = absurd h
no_pair_sides o (list t) s h e = refl
no_pair_sides o (abs t u) s h e = refl

pub no_abs_inside : (n : ℕ) (t : TypeShape) (s : EquationSystem) → IsNoAbs t → inside_abstraction n (whole t) s ≡ new_body n (whole t) s
no_abs_inside n (hole x) s h = refl
no_abs_inside n unit s h = refl
no_abs_inside n (names k) s h = refl
no_abs_inside n (base d) s h = refl
no_abs_inside n (pair t u) s h = refl
no_abs_inside n (list t) s h = refl
no_abs_inside n (abs t u) s h = absurd h

-- list cells where a list of the type of a hole is wanted, or of a type
pub cell_of_hole : (f x : ℕ) → f ≡ 1 → IsCellWanted f (whole (list (hole x))) (whole (hole x))
cell_of_hole f x e = subst (λ g. IsCellWanted g (whole (list (hole x))) (whole (hole x))) (sym e) (λ cs d s. refl)

pub cell_of_type : (f : ℕ) (a : NominalType) → f ≡ 1 → IsCellWanted f (typed (types.list a)) (typed a)
cell_of_type f a e = subst (λ g. IsCellWanted g (typed (types.list a)) (typed a)) (sym e) (λ cs d s. refl)

-- the element of a list cell, then its tail
pub cell_gathered : (cs : List NominalConstructor) (idents : List IdentKind) (f : ℕ) (a t u : RawTerm) (w v : Wanting) (s : EquationSystem) → a ≡ raw.pair t u → IsCellWanted f w v
    → gather_term cs idents u w (gather_term cs idents t v s) ≡ gather_term cs idents (raw.app f a) w s
cell_gathered cs idents f a t u w v s e h =
    sym (ap (λ (p : Sides). gather_term cs idents u p.right (gather_term cs idents t p.left p.system)) (h cs (result_of cs t) s))
    ∙ ap (λ (b : RawTerm). gather_term cs idents (raw.app f b) w s) (sym e)

pub cell_smaller : (a t u : RawTerm) → a ≡ raw.pair t u → (raw_size t < raw_size a) × (raw_size u < raw_size a)
cell_smaller a t u e = let n = ap raw_size e in (omega (arith, n), omega (arith, n))
