use Rattle.std.proofs.Common.{◌≡◌, ◌≤◌, ◌∙◌, true, false, length, map, refl, arith, sym}
use Rattle.ap_defs.specs.Types.{constructor_of}
use Rattle.ap_types.specs.Rounds.{marked}
use Rattle.ap_picks.specs.Picks.{data_bound}
use Rattle.ap_picks.specs.declared.choices.Choice.{Choice}
use Rattle.ap_picks.proofs.ChoiceLemmas.{looked_at_length, looked_at_same, round_begins, round_turn}
use Rattle.ap_picks.proofs.choices.go_round.Goals as goal
use Rattle.ap_picks.proofs.choices.go_round.Goals.{then-choose, else-choose}

pub loop-place-init : goal.loop-place-init
loop-place-init c = record {
  as_long = refl;
  same = λ e. refl;
  within = λ same all. round_begins (map constructor_of c.args.constructors.now) c.args.rounds c.args.choices.now.items all;
}

pub loop-place-preserved : goal.loop-place-preserved
loop-place-preserved c =
    let marks = marked c.args.found.now in
    let old = c.loop-place.choices.items in
    let new = c.choose.new.choices.items in
    let con = c.index-constructors-place.result in
    let choice : Choice = record { rounds = c.args.rounds; place = c.loop-place.place } in
    let i = c.loop-place.invariant in
    let long = looked_at_length marks (constructor_of con) choice old new c.choose.result c.choose.ensures in
    let before = i.as_long in
    let room = c.requires in
    let bounded : data_bound (map constructor_of c.args.constructors.now) ≤ length old = omega (arith, before, room) in
    record {
      as_long = long ∙ i.as_long;
      same = λ e. elim c.if-choose.branch [
        | then-choose w ↦ let no : true ≡ false = sym w.more-is ∙ e in cc
        | else-choose w ↦ looked_at_same marks (constructor_of con) choice old new c.choose.result c.choose.ensures w.if-choose.false ∙ i.same (sym w.more-is ∙ e)
      ];
      within = λ same all.
          round_turn c.args.constructors.now c.args.rounds marks c.loop-place.place con choice old new c.choose.result
          c.loop-place-test.true c.index-constructors-place.is bounded refl refl c.choose.ensures same (i.within same all);
    }
