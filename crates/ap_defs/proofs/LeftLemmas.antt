-- Left parts have fewer levels than what they are parts of.
use Rattle.std.proofs.Common.{◌≡◌, ◌<◌, ◌≤◌, ℕ, arith}
use Rattle.ap_defs.specs.declared.terms.Ty as code
use Rattle.ap_defs.specs.declared.terms.Ty.TheViews.{size-Ty, deep-Pair', deep-List', deep-Abs'}
use Rattle.ap_defs.specs.Lefts.{LeftsBelow}

pub lefts_below : (n : ℕ) (t : code.Ty) → size-Ty t ≤ n → LeftsBelow n t
lefts_below n code.Unit l = tt
lefts_below n (code.Names s) l = tt
lefts_below n (code.Base d) l = tt
lefts_below n (code.Pair' p t q u) l = let h = deep-Pair' p t q u in (omega (arith, h, l), lefts_below n u (omega (arith, h, l)))
lefts_below n (code.List' p t) l = let h = deep-List' p t in lefts_below n t (omega (arith, h, l))
lefts_below n (code.Abs' s p t) l = let h = deep-Abs' s p t in lefts_below n t (omega (arith, h, l))
