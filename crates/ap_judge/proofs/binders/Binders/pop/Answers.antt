use Rattle.std.proofs.Common.{◌++◌, [], ◌∷◌, map, sym, subst}
use Rattle.ap_judge.specs.Binders.{left_key, right_key}
use Rattle.ap_judge.specs.Latest.{IsLatest}
use Rattle.ap_judge.proofs.LatestLemmas.{pairs_less}
use Rattle.ap_judge.proofs.binders.Binders.pop.Goals as goal

pub returns-in_ok-pop-2-clause-found : goal.returns-in_ok-pop-2-clause-found
returns-in_ok-pop-2-clause-found c =
    let ss = c.pop.new.self.items in
    let both = pairs_less ss c.in-Some.s c.args.self.now c.requires.found c.in-Some.ensures.items in
    record {
      lefts = c.in_ok-pop.ensures (map left_key ss) (subst (λ k. IsLatest (map left_key ss ++ k ∷ []) c.args.self.now.lefts) (sym c.left_key.ensures) both.0);
      rights = c.in_ok-pop-2.ensures (map right_key ss) (subst (λ k. IsLatest (map right_key ss ++ k ∷ []) c.args.self.now.rights) (sym c.right_key.ensures) both.1);
    }
