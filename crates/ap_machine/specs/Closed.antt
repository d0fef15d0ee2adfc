-- Terms with all bindings carried out and canonical lists, while they are made.
use Rattle.std.specs.Prelude.{ℕ, ◌+◌, ◌*◌, List, [], ◌∷◌}
use Rattle.ap_defs.specs.Canonical.{canonical_term}
use Rattle.ap_defs.specs.Renaming.{rename_term}
use Rattle.ap_defs.specs.Substitution.{under}
use Rattle.ap_defs.specs.Terms.{NominalTerm, abs, act_term, app, pair, term_of}
use Rattle.ap_defs.specs.declared.terms.Swap.{Swap}
use Rattle.ap_defs.specs.Unification.{size}
use Rattle.ap_store.specs.Views.{bindings_of, meaning_in}
use Rattle.ap_store.specs.declared.store.Store.{Store}
use Rattle.ap_machine.specs.declared.closing.Part.{Part}
use Rattle.ap_machine.specs.declared.closing.Part.TheVariants as parts
use Rattle.ap_machine.specs.declared.closing.Round.{Round}
use Rattle.ap_machine.specs.declared.closing.Round.TheVariants as rounds

-- a part, made
abbrev pub closed_part : Store → Part → NominalTerm
closed_part s (parts.Left c) = canonical_term (meaning_in s c)
closed_part s (parts.Made t) = term_of t

-- a term in what stands round it
abbrev pub closed_round : Store → Round → NominalTerm → NominalTerm
closed_round s (rounds.RightOf t) u = pair (term_of t.value) u
closed_round s (rounds.LeftOf c) u = pair u (canonical_term (meaning_in s c.value))
closed_round s (rounds.RightIn f t) u = app f (pair (term_of t.value) u)
closed_round s (rounds.LeftIn f c) u = app f (pair u (canonical_term (meaning_in s c.value)))
closed_round s (rounds.App f) u = app f u
closed_round s (rounds.Abs r n) u = abs (record { sort = r; num = n }) u

-- the first is outermost
abbrev pub closed_within : Store → List Round → NominalTerm → NominalTerm
closed_within s [] t = t
closed_within s (r ∷ rs) t = closed_round s r (closed_within s rs t)

-- how much is left to do
abbrev pub part_work : Store → Part → ℕ
part_work s (parts.Left c) = 3 * size (meaning_in s c)
part_work s (parts.Made t) = 0

abbrev pub round_work : Store → Round → ℕ
round_work s (rounds.LeftOf c) = 2 + 3 * size (meaning_in s c.value)
round_work s (rounds.LeftIn f c) = 2 + 3 * size (meaning_in s c.value)
round_work s _ = 1

abbrev pub rounds_work : Store → List Round → ℕ
rounds_work s [] = 0
rounds_work s (r ∷ rs) = round_work s r + rounds_work s rs

-- what swappings make of a term, with canonical lists
abbrev pub canonically_moved : List Swap → NominalTerm → NominalTerm
canonically_moved p t = canonical_term (act_term p t)

-- what a term whose identifiers are numbered from here on stands for, where no swappings wait on it
abbrev pub plain_meaning : Store → ℕ → NominalTerm → NominalTerm
plain_meaning s base t = under (bindings_of s) (act_term [] (rename_term base t))
