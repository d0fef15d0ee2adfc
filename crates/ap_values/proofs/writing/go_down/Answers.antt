use Rattle.std.proofs.Common.{refl, subst}
use Rattle.ap_types.specs.Entries.{IsEntryOf}
use Rattle.ap_values.proofs.WritingLemmas.{made_open, made_unit, made_names, made_base, down_pair, down_list, down_abs}
use Rattle.ap_values.proofs.writing.go_down.Goals as goal

pub returns-in-Place : goal.returns-in-Place
returns-in-Place c = λ f x h. made_open f c.args.layers.now.items x c.in-Place.x _ refl (subst (IsEntryOf f x) c.in-Place.is h)

pub returns-in-Unit : goal.returns-in-Unit
returns-in-Unit c = λ f x h. made_unit f c.args.layers.now.items x _ refl (subst (IsEntryOf f x) c.in-Unit.is h)

pub returns-in-Names : goal.returns-in-Names
returns-in-Names c = λ f x h. made_names f c.args.layers.now.items x c.in-Names.sort _ refl (subst (IsEntryOf f x) c.in-Names.is h)

pub returns-in-Base : goal.returns-in-Base
returns-in-Base c = λ f x h. made_base f c.args.layers.now.items x c.in-Base.base _ refl (subst (IsEntryOf f x) c.in-Base.is h)

pub returns-in_ok-push-in-Pair : goal.returns-in_ok-push-in-Pair
returns-in_ok-push-in-Pair c = λ f x h.
    down_pair f c.args.layers.now.items c.push.new.self.items x c.in-Pair.y c.in-Pair.z c.in_ok-push-in-Pair.ensures.items (subst (IsEntryOf f x) c.in-Pair.is h)

pub returns-in_ok-push-in-List : goal.returns-in_ok-push-in-List
returns-in_ok-push-in-List c = λ f x h.
    down_list f c.args.layers.now.items c.push-in-List.new.self.items x c.in-List.y c.in_ok-push-in-List.ensures.items (subst (IsEntryOf f x) c.in-List.is h)

pub returns-in_ok-push-in-Abs : goal.returns-in_ok-push-in-Abs
returns-in_ok-push-in-Abs c = λ f x h.
    down_abs f c.args.layers.now.items c.push-in-Abs.new.self.items x c.in-Abs.y c.in-Abs.z c.in_ok-push-in-Abs.ensures.items (subst (IsEntryOf f x) c.in-Abs.is h)
