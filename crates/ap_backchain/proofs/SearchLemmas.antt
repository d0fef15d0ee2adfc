-- One turn of a search keeps the outputs so far and those to come, and leaves fewer turns.
use Rattle.std.proofs.Common.{◌≡◌, suc, ◌+◌, ◌<◌, List, ◌∷◌, ◌++◌, map, refl, sym, ap, ◌∙◌, append_assoc, arith}
use Rattle.std.proofs.lemmas.List.{map-append}
use Rattle.ap_defs.specs.Answers.{NominalOut}
use Rattle.ap_defs.specs.Goals.{Clauses}
use Rattle.ap_paths.specs.Limits.{IsWanting, part}
use Rattle.ap_paths.specs.declared.limits.Limit.{Limit}
use Rattle.ap_search.specs.Continuations.{outputs_alone}
use Rattle.ap_machine.specs.Positions.{Position, Turned, ends, goes, outs_from_each, outs_of_turned, turned}
use Rattle.ap_backchain.specs.Searches.{ended_outs, positions_followed}
use Rattle.ap_backchain.specs.Turns.{turns_from, turns_from_each, turns_of_turned}
use Rattle.ap_backchain.specs.Wanted.{wanted_after}
use Rattle.ap_backchain.proofs.TurnLemmas.{outs_turned, turns_append, turns_turned, written_append}
use Rattle.ap_search.specs.Records.{Answering}
use Rattle.ap_backchain.proofs.WantedLemmas.{part_ended}

module _ (program : Clauses) (answering : Answering) (kept : NominalOut → NominalOut) where
  outs_followed : (t : Turned) (ps : List Position) → ended_outs t ++ outs_from_each program answering (positions_followed t ps) ≡ outs_of_turned program answering t ++ outs_from_each program answering ps
  outs_followed (ends o) ps = refl
  outs_followed (goes rs) ps = written_append outputs_alone program answering rs ps

  pub turn_keeps : (l m : Limit) (p : Position) (ps qs : List Position) (outs more all : List NominalOut) → IsWanting l 0
      → qs ≡ positions_followed (turned program answering p) ps → m ≡ wanted_after l (ended_outs (turned program answering p))
      → more ≡ outs ++ map kept (ended_outs (turned program answering p)) → outs ++ map kept (part l (outs_from_each program answering (p ∷ ps))) ≡ all
      → more ++ map kept (part m (outs_from_each program answering qs)) ≡ all
  turn_keeps l m p ps qs outs more all wanting e w f h =
      let t = turned program answering p in
      let rest = part m (outs_from_each program answering qs) in
      let whole : ended_outs t ++ outs_from_each program answering qs ≡ outs_from_each program answering (p ∷ ps) =
      ap (λ rs. ended_outs t ++ outs_from_each program answering rs) e ∙ outs_followed t ps ∙ ap (λ os. os ++ outs_from_each program answering ps) (outs_turned program answering p) in
      ap (λ os. os ++ map kept rest) f
      ∙ append_assoc outs (map kept (ended_outs t)) (map kept rest)
      ∙ ap (λ os. outs ++ os)
      (sym (map-append kept (ended_outs t) rest)
      ∙ ap (map kept)
      (ap (λ (k : Limit). ended_outs t ++ part k (outs_from_each program answering qs)) w
      ∙ sym (part_ended l t (outs_from_each program answering qs) wanting)
      ∙ ap (part l) whole))
      ∙ h

  turns_followed : (t : Turned) (ps : List Position) → turns_from_each program (positions_followed t ps) ≡ turns_of_turned program t + turns_from_each program ps
  turns_followed (ends o) ps = omega arith
  turns_followed (goes rs) ps = turns_append program rs ps

  pub turn_lessens : (p : Position) (ps qs : List Position) → qs ≡ positions_followed (turned program answering p) ps → turns_from_each program qs < turns_from_each program (p ∷ ps)
  turn_lessens p ps qs e =
      let h : turns_from_each program qs ≡ turns_of_turned program (turned program answering p) + turns_from_each program ps = ap (turns_from_each program) e ∙ turns_followed (turned program answering p) ps in
      let k : suc (turns_of_turned program (turned program answering p)) ≡ turns_from program p = turns_turned program answering p in
      omega arith
