use Rattle.std.proofs.Common.{refl, arith}
use Rattle.ap_machine.specs.declared.looks.Look.{Look}
use Rattle.ap_machine.proofs.LookLemmas.{look_forgotten, look_undone}
use Rattle.ap_machine.proofs.looks.Look.go_back.Goals as goal

pub returns-then-self-place : goal.returns-then-self-place
returns-then-self-place c = λ vs bs h i j.
    let l : Look = record { place = 0; looked = 0; unbound = c.truncate.new.self } in
    look_forgotten vs bs l c.args.place c.args.brought i refl refl c.truncate.ensures.items

pub returns-else-self-brought : goal.returns-else-self-brought
returns-else-self-brought c = λ vs bs h i j. look_undone vs bs c.args.self.now c.args.place c.args.brought (omega (arith, c.if-self-place.false)) (omega (arith, c.if-self-brought.false)) i j h
