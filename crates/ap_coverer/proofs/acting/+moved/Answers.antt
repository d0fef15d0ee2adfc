use Rattle.std.proofs.Common.{◌≡◌, ◌∙◌, sym, ap}
use Rattle.ap_defs.specs.Terms.{abs, act_term, app, pair, term_of}
use Rattle.ap_defs.specs.declared.spines.TermLayer.TheVariants as around
use Rattle.ap_defs.specs.declared.terms.Term.{Term}
use Rattle.ap_defs.proofs.SpineLemmas.{term_goes_in, term_smaller}
use Rattle.ap_coverer.proofs.acting.+moved.Goals as goal

pub loop-rest-preserved-in-Pair : goal.loop-rest-preserved-in-Pair
loop-rest-preserved-in-Pair t c =
    let act = act_term c.args.swaps.now in
    let made = c.in_ok-moved-in-Pair.field-0 in
    let left = term_of c.deref.result.now in
    let right = term_of c.deref-rest.result.now in
    let e : term_of c.loop-rest.rest.now ≡ pair left right =
    ap term_of c.in-Pair.is ∙ ap (λ (u : Term). pair (term_of u) (term_of c.in-Pair.right.value)) (sym c.deref.ensures) ∙ ap (λ (u : Term). pair left (term_of u)) (sym c.deref-rest.ensures) in
    let k : act (term_of c.loop-rest.rest.now) ≡ pair (term_of made) (act right) = ap act e ∙ ap (λ u. pair u (act right)) (sym c.in_ok-moved-in-Pair.ensures) in
    let whole : term_of c.loop-rest.rest.now ≡ pair (term_of c.in-Pair.left.value) right = ap term_of c.in-Pair.is ∙ ap (λ (u : Term). pair (term_of c.in-Pair.left.value) (term_of u)) (sym c.deref-rest.ensures) in
    record {
      all = term_goes_in c.loop-rest.layers.items c.push.new.self.items (around.Left made) _ (act right) _ c.in_ok-push-in-Pair.ensures.items k c.loop-rest.invariant.all;
      smaller = term_smaller (around.Left c.in-Pair.left.value) _ right _ whole c.loop-rest.invariant.smaller;
    }

pub loop-rest-preserved-in-App : goal.loop-rest-preserved-in-App
loop-rest-preserved-in-App t c =
    let act = act_term c.args.swaps.now in
    let part = term_of c.deref-rest-in-App.result.now in
    let e : term_of c.loop-rest.rest.now ≡ app c.in-App.f part = ap term_of c.in-App.is ∙ ap (λ (u : Term). app c.in-App.f (term_of u)) (sym c.deref-rest-in-App.ensures) in
    record {
      all = term_goes_in c.loop-rest.layers.items c.push-in-App.new.self.items (around.App c.in-App.f) _ (act part) _ c.in_ok-push-in-App.ensures.items (ap act e) c.loop-rest.invariant.all;
      smaller = term_smaller (around.App c.in-App.f) _ part _ e c.loop-rest.invariant.smaller;
    }

pub loop-rest-preserved : goal.loop-rest-preserved
loop-rest-preserved t c =
    let act = act_term c.args.swaps.now in
    let part = term_of c.deref-rest-in-Abs.result.now in
    let e : term_of c.loop-rest.rest.now ≡ abs (record { sort = c.in-Abs.sort; num = c.in-Abs.num }) part = ap term_of c.in-Abs.is ∙ ap (λ (u : Term). abs (record { sort = c.in-Abs.sort; num = c.in-Abs.num }) (term_of u)) (sym c.deref-rest-in-Abs.ensures) in
    let k : act (term_of c.loop-rest.rest.now) ≡ abs c.image-in-Abs.result (act part) = ap act e ∙ ap (λ b. abs b (act part)) (sym c.image-in-Abs.ensures) in
    record {
      all = term_goes_in c.loop-rest.layers.items c.push-in-Abs.new.self.items (around.Abs c.image-in-Abs.result) _ (act part) _ c.in_ok-push-in-Abs.ensures.items k c.loop-rest.invariant.all;
      smaller = term_smaller (around.Abs (record { sort = c.in-Abs.sort; num = c.in-Abs.num })) _ part _ e c.loop-rest.invariant.smaller;
    }
