-- Ground terms that are equal to names, and lists of equal ground terms.
use Rattle.std.proofs.Common.{◌≡◌, true, List, [], ◌∷◌, sym, ap, true≢false}
use Rattle.ap_defs.specs.Alpha.{alpha}
use Rattle.ap_defs.specs.GroundProofs.{AlphaEach}
use Rattle.ap_defs.specs.Terms.{GroundTerm, abs, app, name, pair, unit}
use Rattle.ap_defs.specs.declared.terms.Name.{Name}
use Rattle.ap_theory.proofs.GroundLemmas.{alpha_sym}
use Rattle.ap_theory.proofs.PermutationLemmas.{name_eq_same}

-- what is equal to a name is that name
pub alpha_name : (t : GroundTerm) (a : Name) → alpha t (name a) ≡ true → t ≡ name a
alpha_name unit a h = absurd (true≢false (sym h))
alpha_name (name b) a h = ap name (name_eq_same b a h)
alpha_name (pair t u) a h = absurd (true≢false (sym h))
alpha_name (app f t) a h = absurd (true≢false (sym h))
alpha_name (abs b t) a h = absurd (true≢false (sym h))

-- equal each, the other way round
pub alpha_each_sym : (gs hs : List GroundTerm) → AlphaEach gs hs → AlphaEach hs gs
alpha_each_sym [] [] h = tt
alpha_each_sym [] (u ∷ us) h = absurd h
alpha_each_sym (t ∷ ts) [] h = absurd h
alpha_each_sym (t ∷ ts) (u ∷ us) h = (alpha_sym t u h.0, alpha_each_sym ts us h.1)
