-- How many choices a search makes: one where its first goal chooses, and those of what a turn makes of the machine.
use Rattle.std.proofs.Common.{◌≡◌, ℕ, ◌+◌, List, [], ◌∷◌, ◌++◌, refl, sym, ap, ◌∙◌, arith}
use Rattle.std.specs.Prelude.{Option, Some, None, option_map}
use Rattle.ap_defs.specs.Paths.{Choice}
use Rattle.ap_defs.specs.Goals.{Clauses}
use Rattle.ap_search.specs.Marks.{NominalMark, out, choice, with_choices}
use Rattle.ap_turns.specs.Marks.{choices_among, choices_here, marks_from, marks_from_each, marks_of_turned, choices_made, told_of, written_here}
use Rattle.ap_machine.specs.Positions.{Position, Turned, ends, goes, turned}
use Rattle.ap_backchain.specs.Searches.{positions_followed}
use Rattle.ap_search.specs.Records.{Answering}
use Rattle.ap_backchain.proofs.TurnLemmas.{width_told, written_append, written_turned}

choices_both : (xs ys : List NominalMark) → choices_among (xs ++ ys) ≡ choices_among xs + choices_among ys
choices_both [] ys = omega arith
choices_both (out o ∷ xs) ys = choices_both xs ys
choices_both (choice p w ∷ xs) ys = omega (arith, choices_both xs ys)

one_here : (p : List ℕ) (o : Option Choice) → choices_among (written_here with_choices p o) ≡ choices_made (option_map (λ (c : Choice). c.width) o)
one_here p None = refl
one_here p (Some v) = refl

module _ (program : Clauses) (answering : Answering) where
  -- a machine that chooses has a mark there, before those of what a turn makes of it
  choices_turned : (p : Position)
      → choices_among (marks_from program answering p) ≡ choices_here program p + choices_among (marks_of_turned program answering (turned program answering p))
  choices_turned p =
      let rest = marks_of_turned program answering (turned program answering p) in
      ap choices_among (sym (written_turned with_choices program answering p))
      ∙ choices_both (written_here with_choices p.path (told_of program p.state p.waiting)) rest
      ∙ ap (λ n. n + choices_among rest) (one_here p.path (told_of program p.state p.waiting) ∙ ap choices_made (width_told program p.state p.waiting))

  choices_followed : (t : Turned) (ps : List Position) → choices_among (marks_from_each program answering (positions_followed t ps))
      ≡ choices_among (marks_of_turned program answering t) + choices_among (marks_from_each program answering ps)
  choices_followed (ends o) ps = omega arith
  choices_followed (goes rs) ps = ap choices_among (written_append with_choices program answering rs ps) ∙ choices_both (marks_from_each program answering rs) (marks_from_each program answering ps)

  -- a turn leaves the choices but the one that it makes
  pub turn_chooses : (p : Position) (ps qs : List Position) → qs ≡ positions_followed (turned program answering p) ps
      → choices_among (marks_from_each program answering (p ∷ ps)) ≡ choices_here program p + choices_among (marks_from_each program answering qs)
  turn_chooses p ps qs e =
      let t = turned program answering p in
      let all = choices_both (marks_from program answering p) (marks_from_each program answering ps) in
      let here = choices_turned p in
      let rest : choices_among (marks_from_each program answering qs) ≡ choices_among (marks_of_turned program answering t) + choices_among (marks_from_each program answering ps) =
      ap (λ rs. choices_among (marks_from_each program answering rs)) e ∙ choices_followed t ps in
      omega (arith, all, here, rest)

  -- where it would be one too many, more are made than may be
  pub too_many : (p : Position) (ps : List Position) → choices_here program p ≡ 1 → 1 + choices_among (marks_from_each program answering (positions_followed (turned program answering p) ps)) ≡ choices_among (marks_from_each program answering (p ∷ ps))
  too_many p ps e = let h = turn_chooses p ps (positions_followed (turned program answering p) ps) refl in omega (arith, e, h)
