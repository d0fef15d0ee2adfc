-- What stands for the identifiers of an item in a derivation, and terms in which it is put in.
use Rattle.std.specs.Prelude.{if◌then◌else◌, List, ◌∷◌, map}
use Rattle.ap_defs.specs.declared.terms.Name.{Name}
use Rattle.ap_defs.specs.declared.terms.Swap.{Swap}
use Rattle.ap_defs.specs.declared.terms.Var.{Var}
use Rattle.ap_defs.specs.Freshness.{var_eq}
use Rattle.ap_defs.specs.GroundProofs.{name_for}
use Rattle.ap_defs.specs.Permutations.{name_eq}
use Rattle.ap_defs.specs.Renaming.{local_names, local_vars}
use Rattle.ap_defs.specs.Terms.{NominalTerm, unit, name, pair, app, abs, susp, act_term}
use Rattle.ap_defs.specs.Types.{NominalLocal}

-- A name for each name, and a nominal term for each variable. Only what an item has of them matters.
pub record OpenEnvironment : Type 0 where
  pub names : Name → Name
  pub terms : Var → NominalTerm

abbrev pub swap_in : OpenEnvironment → Swap → Swap
swap_in e s = record {
  sort = s.sort;
  left = (e.names (record { sort = s.sort; num = s.left })).num;
  right = (e.names (record { sort = s.sort; num = s.right })).num;
}

-- the term with its names and variables replaced at once; a binder may capture
abbrev pub put_in : OpenEnvironment → NominalTerm → NominalTerm
put_in e unit = unit
put_in e (name a) = name (e.names a)
put_in e (pair t u) = pair (put_in e t) (put_in e u)
put_in e (app f t) = app f (put_in e t)
put_in e (abs a t) = abs (e.names a) (put_in e t)
put_in e (susp p x) = act_term (map (swap_in e) p) (e.terms x)

abbrev pub with_open_term : OpenEnvironment → Var → NominalTerm → OpenEnvironment
with_open_term e x t = record e { terms = λ y. if var_eq x y then t else e.terms y }

abbrev pub with_open_name : OpenEnvironment → Name → Name → OpenEnvironment
with_open_name e a c = record e { names = λ b. if name_eq a b then c else e.names b }

-- what stands beside a variable in two lists
abbrev pub open_term_for : List Var → List NominalTerm → Var → NominalTerm
open_term_for (x ∷ xs) (t ∷ ts) y = if var_eq x y then t else open_term_for xs ts y
open_term_for _ _ y = unit

-- what gives an item's free names and variables these names and terms, in order
abbrev pub open_environment : List NominalLocal → List Name → List NominalTerm → OpenEnvironment
open_environment locals names ts = record { names = name_for (local_names 0 locals) names; terms = open_term_for (local_vars 0 locals) ts }
