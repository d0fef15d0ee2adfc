use Rattle.std.proofs.Common.{◌≡◌, ◌++◌, [], ◌∷◌, length, map, subst, arith}
use Rattle.std.proofs.lemmas.List.{length-map}
use Rattle.ap_judge.specs.Binders.{left_key, right_key}
use Rattle.ap_judge.specs.Latest.{IsLatest}
use Rattle.ap_judge.proofs.LatestLemmas.{pairs_more}
use Rattle.ap_judge.proofs.binders.Binders.push.Goals as goal

pub returns-clause-found : goal.returns-clause-found
returns-clause-found c =
    let ss = c.args.self.now.pairs.items in
    let lefts : length (map left_key ss) ≡ length ss = length-map ss left_key in
    let rights : length (map right_key ss) ≡ length ss = length-map ss right_key in
    pairs_more ss c.args.s (record { pairs = c.push-3.new.self; lefts = c.push.new.self; rights = c.push-2.new.self }) c.in_ok-push-3.ensures.items
    (subst (λ k. IsLatest (map left_key ss ++ k ∷ []) c.push.new.self) c.left_key.ensures
    (c.in_ok-push.ensures (map left_key ss) (omega (arith, c.len-place.ensures, c.args.self.now.pairs.ok, lefts)) c.requires.lefts))
    (subst (λ k. IsLatest (map right_key ss ++ k ∷ []) c.push-2.new.self) c.right_key.ensures
    (c.in_ok-push-2.ensures (map right_key ss) (omega (arith, c.len-place.ensures, c.args.self.now.pairs.ok, rights)) c.requires.rights))
