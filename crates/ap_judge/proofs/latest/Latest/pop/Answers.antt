use Rattle.std.proofs.Common.{if◌then◌else◌, sym, ap, ◌∙◌, arith}
use Rattle.std.specs.BTreeMap.{get}
use Rattle.std.specs.Ordering.{is_eq}
use Rattle.ap_judge.specs.Indexes.{sought_cmp}
use Rattle.ap_judge.proofs.LatestLemmas.{none_popped, popped}
use Rattle.ap_judge.proofs.latest.Latest.pop.Goals as goal

pub returns-in_default : goal.returns-in_default
returns-in_default c = λ keys is.
    none_popped keys c.args.key c.args.self.now (record { places = c.args.self.now.places; before = c.pop.new.self }) (omega (arith, c.in_default.ensures.cases.0, c.args.self.now.before.ok)) is

pub returns-in_ok-insert-in-Some-before : goal.returns-in_ok-insert-in-Some-before
returns-in_ok-insert-in-Some-before c = λ keys is.
    popped keys c.args.key c.args.self.now (record { places = c.insert.new.self; before = c.pop.new.self }) c.in-Some.before c.in-Some.ensures.items
    (λ q. c.in_ok-insert-in-Some-before.ensures.updates.0 q ∙ ap (λ o. if is_eq (sought_cmp c.args.key q) then o else get sought_cmp c.args.self.now.places q) (sym c.in-Some-before.is)) is

pub returns-in-None : goal.returns-in-None
returns-in-None c = λ keys is.
    popped keys c.args.key c.args.self.now (record { places = c.remove.new.self; before = c.pop.new.self }) c.in-Some.before c.in-Some.ensures.items
    (λ q. c.remove.ensures.updates.0 q ∙ ap (λ o. if is_eq (sought_cmp c.args.key q) then o else get sought_cmp c.args.self.now.places q) (sym c.in-None.is)) is
