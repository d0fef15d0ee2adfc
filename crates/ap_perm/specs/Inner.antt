-- Parts of terms to which freshness problems come by the rules of one premise.
use Rattle.std.specs.Prelude.{if◌then◌else◌}
use Rattle.ap_defs.specs.Permutations.{name_eq}
use Rattle.ap_defs.specs.Terms.{NominalTerm, abs, app, name, pair, susp, unit}
use Rattle.ap_defs.specs.declared.terms.Name.{Name}

-- the part of a term that stands below symbols and binders of other names: where the name is fresh for it, it is for the term
abbrev pub inner_part : Name → NominalTerm → NominalTerm
inner_part a unit = unit
inner_part a (name b) = name b
inner_part a (pair t u) = pair t u
inner_part a (app f t) = inner_part a t
inner_part a (abs b t) = if name_eq a b then abs b t else inner_part a t
inner_part a (susp p x) = susp p x
