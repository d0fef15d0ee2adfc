use Rattle.std.proofs.Common.{◌≡◌, ◌∙◌, true, false, None, map, sym, ap, subst, arith}
use Rattle.std.proofs.lemmas.List.{get_or_past}
use Rattle.ap_defs.specs.declared.goals.Constructor.{Constructor}
use Rattle.ap_defs.specs.Types.{constructor_of, type_of}
use Rattle.ap_picks.specs.Choices.{IsPickedChoice, IsChoiceFor}
use Rattle.ap_picks.proofs.WantLemmas.{choice_arguments, choice_below, data_inside}
use Rattle.ap_picks.proofs.opening.Source.open_data.Goals as goal

pub returns-then-place-self : goal.returns-then-place-self
returns-then-place-self c =
    let cs = map constructor_of c.args.self.now.constructors.now in
    let none = get_or_past c.args.self.now.choices.now c.args.base None c.if-place-self.true in
    let never = subst (IsChoiceFor cs c.args.base) none (c.requires.chosen c.args.base) c.args.rounds in
    let no : true ≡ false = sym c.requires.well ∙ never in cc

pub offset_bounds-self-choice : goal.offset_bounds-self-choice
offset_bounds-self-choice c =
    let cons = c.args.self.now.constructors.now in
    let h : IsPickedChoice (map constructor_of cons) c.args.base c.in-Some.choice = subst (IsChoiceFor (map constructor_of cons) c.args.base) c.in-Some.is (c.requires.chosen c.args.base) in
    let below = choice_below cons c.args.base c.in-Some.choice h in
    let bounded = c.requires.bounded in
    omega (arith, below, bounded)

pub bounds-self-choice : goal.bounds-self-choice
bounds-self-choice c =
    let cons = c.args.self.now.constructors.now in
    let h : IsPickedChoice (map constructor_of cons) c.args.base c.in-Some.choice = subst (IsChoiceFor (map constructor_of cons) c.args.base) c.in-Some.is (c.requires.chosen c.args.base) in
    choice_below cons c.args.base c.in-Some.choice h

pub overflow_cast-number : goal.overflow_cast-number
overflow_cast-number c =
    let cons = c.args.self.now.constructors.now in
    let h : IsPickedChoice (map constructor_of cons) c.args.base c.in-Some.choice = subst (IsChoiceFor (map constructor_of cons) c.args.base) c.in-Some.is (c.requires.chosen c.args.base) in
    let below = choice_below cons c.args.base c.in-Some.choice h in
    let bounded = c.requires.bounded in
    omega (arith, below, bounded)

pub overflow_add-number : goal.overflow_add-number
overflow_add-number c =
    let cons = c.args.self.now.constructors.now in
    let h : IsPickedChoice (map constructor_of cons) c.args.base c.in-Some.choice = subst (IsChoiceFor (map constructor_of cons) c.args.base) c.in-Some.is (c.requires.chosen c.args.base) in
    let below = choice_below cons c.args.base c.in-Some.choice h in
    let bounded = c.requires.bounded in
    omega (arith, below, bounded)

pub returns : goal.returns
returns c = λ n ss ty t.
    let cons = c.args.self.now.constructors.now in
    let h : IsPickedChoice (map constructor_of cons) c.args.base c.in-Some.choice = subst (IsChoiceFor (map constructor_of cons) c.args.base) c.in-Some.is (c.requires.chosen c.args.base) in
    data_inside (map constructor_of cons) c.args.base c.in-Some.choice h c.args.rounds c.requires.well n ss ty t c.items.result
    (ap (map type_of) c.items.ensures ∙ ap (λ (x : Constructor). map type_of x.args) (sym c.index-self-choice.is)
    ∙ choice_arguments cons c.args.base c.in-Some.choice h c.index-self-choice.result c.index-self-choice.is)
