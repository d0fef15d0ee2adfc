-- What stands for identifiers, and what is left to compare, is of one table, or of none.
use Rattle.std.specs.Prelude.{◌≡◌, List}
use Rattle.std.specs.List.{All}
use Rattle.ap_shared.specs.declared.arena.SharedTerms.{SharedTerms}
use Rattle.ap_judge.specs.declared.cited.Cited.{Cited}
use Rattle.ap_judge.specs.declared.cited.Cited.TheVariants as cited
use Rattle.ap_judge.specs.declared.cited.CitedTerms.{CitedTerms}
use Rattle.ap_judge.specs.declared.cited.CitedTerms.TheVariants as all
use Rattle.ap_judge.specs.declared.cited.Layer.{Layer}
use Rattle.ap_judge.specs.declared.cited.Layer.TheVariants as layer
use Rattle.ap_judge.specs.declared.closures.Closure.{Closure}
use Rattle.ap_judge.specs.declared.closures.Closure.TheVariants as closure
use Rattle.ap_judge.specs.declared.closures.Head.{Head}
use Rattle.ap_judge.specs.declared.closures.Head.TheVariants as head
use Rattle.ap_judge.specs.declared.equality.Compared.{Compared}
use Rattle.ap_judge.specs.declared.scope.Standing.{Standing}
use Rattle.ap_judge.specs.declared.scope.Standing.TheVariants as standing

abbrev pub IsCitedIn : SharedTerms → Cited → Type 0
IsCitedIn ts (cited.Line t) = t.terms.now ≡ ts
IsCitedIn ts (cited.Tree t) = Unit {0}

abbrev pub AreCitedIn : SharedTerms → CitedTerms → Type 0
AreCitedIn ts (all.Lines us) = us.terms.now ≡ ts
AreCitedIn ts (all.Trees us) = Unit {0}

abbrev pub IsLayerIn : SharedTerms → Layer → Type 0
IsLayerIn ts layer.Unit = Unit {0}
IsLayerIn ts (layer.Name a) = Unit {0}
IsLayerIn ts (layer.Pair t u) = IsCitedIn ts t × IsCitedIn ts u
IsLayerIn ts (layer.App f t) = IsCitedIn ts t
IsLayerIn ts (layer.Abs a t) = IsCitedIn ts t
IsLayerIn ts (layer.Susp p x) = Unit {0}

abbrev pub IsStandingIn : SharedTerms → Standing → Type 0
IsStandingIn ts (standing.Query ls us) = AreCitedIn ts us
IsStandingIn ts (standing.Clause ls names us) = AreCitedIn ts us
IsStandingIn ts (standing.Name a c) = Unit {0}
IsStandingIn ts (standing.Term x t) = IsCitedIn ts t

abbrev pub AreStandingIn : SharedTerms → List Standing → Type 0
AreStandingIn ts ss = All (IsStandingIn ts) ss

abbrev pub IsClosureIn : SharedTerms → Closure → Type 0
IsClosureIn ts (closure.Whole t) = IsCitedIn ts t
IsClosureIn ts (closure.Within scope t) = AreStandingIn ts scope.standing.now
IsClosureIn ts (closure.Moved p t) = IsCitedIn ts t

abbrev pub IsHeadIn : SharedTerms → Head → Type 0
IsHeadIn ts head.Unit = Unit {0}
IsHeadIn ts (head.Name a) = Unit {0}
IsHeadIn ts (head.Pair t u) = IsClosureIn ts t × IsClosureIn ts u
IsHeadIn ts (head.App f t) = IsClosureIn ts t
IsHeadIn ts (head.Abs a t) = IsClosureIn ts t
IsHeadIn ts (head.Susp p x) = Unit {0}

abbrev pub IsComparedIn : SharedTerms → Compared → Type 0
IsComparedIn ts c = IsClosureIn ts c.left × IsClosureIn ts c.right
