-- What stands round a part of a closure that is copied, the parts to the right of it being copied afterwards.
use Rattle.std.specs.Prelude.{◌≡◌, ◌<◌, ℕ, ◌+◌, List, [], ◌∷◌}
use Rattle.std.specs.List.{sum_by}
use Rattle.ap_defs.specs.Spines.{term_within}
use Rattle.ap_defs.specs.Terms.{NominalTerm, pair, term_of}
use Rattle.ap_defs.specs.Unification.{size}
use Rattle.ap_judge.specs.declared.outside.Half.{Half}
use Rattle.ap_judge.specs.declared.outside.Next.{Next}
use Rattle.ap_judge.specs.declared.outside.Next.TheVariants as next
use Rattle.ap_judge.specs.declared.outside.Outside.{Outside}
use Rattle.ap_judge.specs.declared.closures.Closure.{Closure}
use Rattle.ap_judge.specs.Closures.{scoped_term}

-- the pair with this left part, within what stands round it
abbrev pub halved : Half → NominalTerm → NominalTerm
halved h t = term_within h.layers.items (pair t (scoped_term h.right))

abbrev pub within_halves : List Half → NominalTerm → NominalTerm
within_halves [] t = t
within_halves (h ∷ hs) t = halved h (within_halves hs t)

-- the whole term with this part
abbrev pub outside_of : Outside → NominalTerm → NominalTerm
outside_of o t = within_halves o.halves.items (term_within o.layers.items t)

-- how much is still to be made outside the part
abbrev pub right_size : Half → ℕ
right_size h = size (scoped_term h.right)

abbrev pub left_outside : Outside → ℕ
left_outside o = sum_by right_size o.halves.items

-- this part comes next, instead of one of n nodes, with which the whole is w
pub record IsFurther (n : ℕ) (before : Outside) (w : NominalTerm) (after : Outside) (r : Closure) : Type 0 where
  pub all : outside_of after (scoped_term r) ≡ w
  pub less : size (scoped_term r) + left_outside after < n + left_outside before

-- where a part of so many nodes is t
abbrev pub IsNextPart : ℕ → Outside → NominalTerm → Outside → Next → Type 0
IsNextPart n before t after (next.Part r) = IsFurther n before (outside_of before t) after r
IsNextPart n before t after (next.Whole u) = term_of u ≡ outside_of before t
