use Rattle.std.proofs.Common.{◌≡◌, ◌<◌, ◌+◌, ◌-◌, length, ap, ◌∙◌, arith}
use Rattle.ap_store.specs.Triples.{Triple}
use Rattle.ap_store.specs.Views.{present, versions}
use Rattle.ap_store.proofs.StoreLemmas.{one_fits, one_more_added}
use Rattle.ap_store.proofs.TrailLemmas.{goes_on_both}
use Rattle.ap_store.proofs.store.Store.add_each.Goals as goal

pub add_one-requires : goal.add_one-requires
add_one-requires c =
    let l : c.adding.i - 1 < length c.args.conds.now = omega arith in
    one_fits (present c.args.self.now) (present c.adding.self) c.args.conds.now (c.adding.i - 1) _ l (ap (λ (a : Triple). a.next) c.adding.invariant.present) (ap (λ (a : Triple). a.bindings) c.adding.invariant.present)
    c.requires

pub adding-preserved : goal.adding-preserved
adding-preserved c =
    let e : c.adding.i ≡ c.adding.i - 1 + 1 = omega arith in
    let l : c.adding.i - 1 < length c.args.conds.now = omega arith in
    record {
      present = one_more_added (present c.args.self.now) (present c.adding.self) (present c.add_one.new.self) c.args.conds.now c.adding.i (c.adding.i - 1) _ e l c.adding.invariant.present c.in_ok-add_one.ensures.present;
      past = goes_on_both (versions c.args.self.now) (versions c.adding.self) (versions c.add_one.new.self) c.adding.invariant.past c.add_one.ensures.past;
      kinds = c.add_one.ensures.kinds ∙ c.adding.invariant.kinds;
    }
