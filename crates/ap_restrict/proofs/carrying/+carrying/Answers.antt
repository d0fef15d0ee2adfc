use Rattle.std.proofs.Common.{◌≡◌, ◌≤◌, ◌<◌, ◌+◌, ◌*◌, refl, sym, ap, ◌∙◌, arith}
use Rattle.ap_defs.specs.declared.terms.Raw.{Raw}
use Rattle.ap_defs.specs.RawTerms.{raw_of, raw_under, pair, app, abs}
use Rattle.ap_defs.specs.Terms.{term_of}
use Rattle.ap_restrict.specs.Ways.{lent_terms, carried_within}
use Rattle.ap_restrict.proofs.CarryingLemmas.{way_is, way_on, way_longer, size_on, under_round}
use Rattle.ap_restrict.proofs.carrying.+carrying.Goals as goal

pub carry_spine-loop-rest-preserved-in-Pair : goal.carry_spine-loop-rest-preserved-in-Pair
carry_spine-loop-rest-preserved-in-Pair t c =
    let p = c.args.swaps.now in
    let left = raw_of c.in-Pair.field-0.value in
    let last = raw_of c.deref-rest.result.now in
    let is : raw_of c.loop-rest.rest.now ≡ pair left last = ap raw_of c.in-Pair.is ∙ ap (λ (u : Raw). pair left (raw_of u)) (sym c.deref-rest.ensures) in
    let e = c.in_ok-push-in-Pair.ensures.items in
    record {
      all = way_on p c.loop-rest.way.items c.push.new.self.items c.loop-rest.rest last _ e (rw is refl) c.loop-rest.invariant.all;
      parts = size_on c.loop-rest.way.items c.push.new.self.items c.loop-rest.rest last _ e (rw is refl) c.loop-rest.invariant.parts;
    }

pub carry_spine-loop-rest-preserved-in-App : goal.carry_spine-loop-rest-preserved-in-App
carry_spine-loop-rest-preserved-in-App t c =
    let p = c.args.swaps.now in
    let f = c.in-App.field-0 in
    let last = raw_of c.deref-rest-in-App.result.now in
    let is : raw_of c.loop-rest.rest.now ≡ app f last = ap raw_of c.in-App.is ∙ ap (λ (u : Raw). app f (raw_of u)) (sym c.deref-rest-in-App.ensures) in
    let e = c.in_ok-push-in-App.ensures.items in
    record {
      all = way_on p c.loop-rest.way.items c.push-in-App.new.self.items c.loop-rest.rest last _ e (rw is refl) c.loop-rest.invariant.all;
      parts = size_on c.loop-rest.way.items c.push-in-App.new.self.items c.loop-rest.rest last _ e (rw is refl) c.loop-rest.invariant.parts;
    }

pub carry_spine-loop-rest-preserved : goal.carry_spine-loop-rest-preserved
carry_spine-loop-rest-preserved t c =
    let p = c.args.swaps.now in
    let i = c.in-Abs.field-0 in
    let last = raw_of c.in-Abs.last in
    let is : raw_of c.loop-rest.rest.now ≡ abs i last = ap raw_of c.in-Under.is ∙ ap raw_under (sym c.deref.ensures) ∙ ap raw_under c.in-Abs.is in
    let e = c.in_ok-push-in-Abs.ensures.items in
    record {
      all = way_on p c.loop-rest.way.items c.push-in-Abs.new.self.items c.loop-rest.rest last _ e (rw is (under_round p i last)) c.loop-rest.invariant.all;
      parts = size_on c.loop-rest.way.items c.push-in-Abs.new.self.items c.loop-rest.rest last _ e (rw is refl) c.loop-rest.invariant.parts;
    }

pub carry_within-carry_round-requires : goal.carry_within-carry_round-requires
carry_within-carry_round-requires t c =
    let longer = way_longer c.pop.new.self.items c.loop-part.parts.items c.in-Some.part c.in-Some.ensures.items in
    let smaller = c.loop-part.invariant.smaller in
    (omega arith, tt)

pub carry_within-loop-part-preserved : goal.carry_within-loop-part-preserved
carry_within-loop-part-preserved t c =
    let p = c.args.swaps.now in
    let e = c.in-Some.ensures.items in
    let longer = way_longer c.pop.new.self.items c.loop-part.parts.items c.in-Some.part e in
    let smaller = c.loop-part.invariant.smaller in
    record {
      all = ap (carried_within p (lent_terms c.pop.new.self.items)) c.in_ok-made.ensures
          ∙ sym (way_is p c.pop.new.self.items c.loop-part.parts.items c.in-Some.part (term_of c.loop-part.made) e) ∙ c.loop-part.invariant.all;
      smaller = omega arith;
    }
