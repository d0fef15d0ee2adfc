-- The parts on the way to what is last in a term, each of which is last in the one before, while only what is last is made.
use Rattle.std.specs.Prelude.{List, [], ◌∷◌, map}
use Rattle.std.specs.Borrow.{Bor}
use Rattle.ap_defs.specs.declared.terms.Swap.{Swap}
use Rattle.ap_defs.specs.declared.terms.Raw.{Raw}
use Rattle.ap_defs.specs.declared.terms.Id.TheVariants as ids
use Rattle.ap_defs.specs.Permutations.{act_name}
use Rattle.ap_defs.specs.RawTerms as raw
use Rattle.ap_defs.specs.RawTerms.{RawTerm, raw_of}
use Rattle.ap_defs.specs.Terms.{NominalTerm, pair, app, abs, act_term}
use Rattle.ap_program.specs.CarryingOut.{carried_out}

-- what references stand for
abbrev pub lent_terms : List (Bor Raw) → List RawTerm
lent_terms ts = map (λ t. raw_of t.now) ts

-- a part with its swappings carried out, under further ones, where this is made of what is last in it
abbrev pub carried_round : List Swap → RawTerm → NominalTerm → NominalTerm
carried_round p (raw.pair t u) last = pair (act_term p (carried_out t)) last
carried_round p (raw.app f t) last = app f last
carried_round p (raw.abs (ids.Name a) t) last = abs (act_name p a) last
carried_round p t last = last

-- the same for the parts of a way
abbrev pub carried_within : List Swap → List RawTerm → NominalTerm → NominalTerm
carried_within p [] last = last
carried_within p (t ∷ ts) last = carried_round p t (carried_within p ts last)
