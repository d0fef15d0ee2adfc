-- Terms as they are read: binders and places of swappings may be variables, and no swapping is carried out.
use Rattle.std.specs.Prelude.{ℕ}
use Rattle.ap_defs.specs.declared.terms.Name.{Name}
use Rattle.ap_defs.specs.declared.terms.Var.{Var}
use Rattle.ap_defs.specs.declared.terms.Id.{Id}
use Rattle.ap_defs.specs.declared.terms.Raw as code
use Rattle.ap_defs.specs.declared.terms.Under as under

pub data RawTerm : Type 0 where
  unit : RawTerm
  name : Name → RawTerm
  var : Var → RawTerm
  pair : RawTerm → RawTerm → RawTerm
  app : ℕ → RawTerm → RawTerm
  abs : Id → RawTerm → RawTerm
  swapped : Id → Id → RawTerm → RawTerm

abbrev mutual
  pub raw_of : code.Raw → RawTerm
  raw_of code.Unit = unit
  raw_of (code.Name a) = name a
  raw_of (code.Var x) = var x
  raw_of (code.Pair' p t q u) = pair (raw_of t) (raw_of u)
  raw_of (code.App' f p t) = app f (raw_of t)
  raw_of (code.Under' p u) = raw_under u

  pub raw_under : under.Under → RawTerm
  raw_under (under.Abs a t) = abs a (raw_of t)
  raw_under (under.Swapped s t) = swapped s.value.left s.value.right (raw_of t)
