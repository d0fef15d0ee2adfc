-- What values of this crate stand for.
use Rattle.std.specs.Prelude.{◌≡◌, map}
use Rattle.ap_defs.specs.Terms.{term_of}
use Rattle.ap_defs.specs.Typing.{embedded}
use Rattle.ap_property.specs.Stated.{Instance}
use Rattle.ap_instance.specs.declared.stating.Stated.{Stated}

-- the terms of an instance, and the sorts of its names
pub record IsStated (s : Stated) (i : Instance) : Type 0 where
  pub terms : map term_of s.terms.items ≡ map embedded i.terms
  pub sorts : s.sorts.items ≡ i.sorts
