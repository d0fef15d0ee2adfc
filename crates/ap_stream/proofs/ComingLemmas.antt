-- What a turn of a search adds to the outputs, where none stood before it: one, or none.
use Rattle.std.proofs.Common.{◌≡◌, ◌≤◌, List, [], ◌∷◌, ◌++◌, length, map, sym, ap, ◌∙◌, arith}
use Rattle.std.specs.Prelude.{Option, Some, None, IfSome}
use Rattle.ap_defs.specs.Answers.{NominalOut, out_of, outs_of}
use Rattle.ap_defs.specs.Goals.{Clauses}
use Rattle.ap_search.specs.Records.{Answering}
use Rattle.ap_defs.specs.declared.paths.Out.{Out}
use Rattle.ap_paths.specs.Limits.{IsWanting, part}
use Rattle.ap_paths.specs.declared.limits.Limit.{Limit}
use Rattle.ap_machine.specs.Positions.{Position, Turned, ends, goes, outs_from_each, turned}
use Rattle.ap_backchain.specs.Searches.{ended_outs, positions_followed}
use Rattle.ap_backchain.specs.Wanted.{wanted_after}
use Rattle.ap_backchain.proofs.SearchLemmas.{turn_keeps}
use Rattle.ap_backchain.proofs.WantedLemmas.{nothing_left}

one_at_most : (kept : NominalOut → NominalOut) (t : Turned) (xs : List Out) → outs_of xs ≡ map kept (ended_outs t) → length xs ≤ 1
one_at_most kept t [] e = omega arith
one_at_most kept t (x ∷ []) e = omega arith
one_at_most kept (goes ps) (x ∷ y ∷ xs) e = absurd (cc)
one_at_most kept (ends o) (x ∷ y ∷ xs) e = absurd (cc)

module _ (program : Clauses) (answering : Answering) (kept : NominalOut → NominalOut) (l m : Limit) (p : Position) (ps qs : List Position) (outs more : List Out) (all : List NominalOut)
    (none : outs ≡ []) (wanting : IsWanting l 0) (left : qs ≡ positions_followed (turned program answering p) ps) (after : m ≡ wanted_after l (ended_outs (turned program answering p)))
    (added : outs_of more ≡ outs_of outs ++ map kept (ended_outs (turned program answering p)))
    (coming : map kept (part l (outs_from_each program answering (p ∷ ps))) ≡ all) where
  added_alone : outs_of more ≡ map kept (ended_outs (turned program answering p))
  added_alone = added ∙ ap (λ (xs : List Out). outs_of xs ++ map kept (ended_outs (turned program answering p))) none

  pub few_added : length more ≤ 1
  few_added = one_at_most kept (turned program answering p) more added_alone

  -- the outputs that it adds, and those to come after it
  turn_gives : outs_of more ++ map kept (part m (outs_from_each program answering qs)) ≡ all
  turn_gives = turn_keeps program answering kept l m p ps qs [] (outs_of more) all wanting left after added_alone coming

  -- where it adds none
  pub none_given : outs_of more ≡ [] → map kept (part m (outs_from_each program answering qs)) ≡ all
  none_given e = sym (ap (λ (xs : List NominalOut). xs ++ map kept (part m (outs_from_each program answering qs))) e) ∙ turn_gives

  -- where it adds one
  pub one_given : (o : Out) → outs_of more ≡ out_of o ∷ [] → all ≡ out_of o ∷ map kept (part m (outs_from_each program answering qs))
  one_given o e = sym turn_gives ∙ ap (λ (xs : List NominalOut). xs ++ map kept (part m (outs_from_each program answering qs))) e

  -- where the search is over after it
  pub none_at_end : qs ≡ [] → outs_of more ≡ [] → all ≡ []
  none_at_end over e = sym (nothing_left m kept (outs_of more) all (ap (λ rs. outs_of more ++ map kept (part m (outs_from_each program answering rs))) (sym over) ∙ turn_gives)) ∙ e

  pub one_at_end : qs ≡ [] → (o : Option Out) → IfSome o (λ x. outs_of more ≡ out_of x ∷ []) → IfSome o (λ x. all ≡ out_of x ∷ [])
  one_at_end over None h = tt
  one_at_end over (Some x) h =
      sym (nothing_left m kept (outs_of more) all (ap (λ rs. outs_of more ++ map kept (part m (outs_from_each program answering rs))) (sym over) ∙ turn_gives)) ∙ h
