-- Terms whose way down to what is last is turned round, each part on it with what is above it in place of what is below; and what is
-- taken apart, put together again.
use Rattle.ap_defs.specs.RawTerms as raw
use Rattle.ap_defs.specs.RawTerms.{RawTerm, raw_of}
use Rattle.ap_defs.specs.Terms.{NominalTerm, unit, name, app, pair, abs, susp}
use Rattle.ap_restrict.specs.declared.owned.Taken.{Taken}
use Rattle.ap_restrict.specs.declared.owned.Taken.TheVariants as apart

-- the term with this last part, by what is above it
abbrev pub brought_back : NominalTerm → NominalTerm → NominalTerm
brought_back unit t = t
brought_back (name a) t = t
brought_back (pair left above) t = brought_back above (pair left t)
brought_back (app f above) t = brought_back above (app f t)
brought_back (abs a u) t = t
brought_back (susp p x) t = t

abbrev pub taken_term : Taken → RawTerm
taken_term (apart.Cell t u) = raw.app 1 (raw.pair (raw_of t) (raw_of u))
taken_term (apart.Pair t u) = raw.pair (raw_of t) (raw_of u)
taken_term (apart.App f t) = raw.app f (raw_of t)
taken_term (apart.Whole t) = raw_of t
