use Rattle.ap_coverer.proofs.FollowLemmas.{branch_ends, no_choice_left, refused_choice}
use Rattle.ap_coverer.proofs.following.follow.Goals as goal

pub returns-then-not-offers-clause-ended : goal.returns-then-not-offers-clause-ended
returns-then-not-offers-clause-ended c =
    let b = c.following.branch in
    let rest = c.following.rest.now in
    branch_ends c.args.p.now b c.args.path.now rest c.requires.query c.following.invariant.of c.following.invariant.whole c.following.invariant.there c.requires.covers
    (refused_choice rest c.in-Some.others.now c.node.result.now b.node c.in-Some.choice.now c.offers.result c.in-Some.ensures.cases.0 c.node.ensures.node c.offers.ensures.all c.if-not-offers.true)

pub returns-clause-ended : goal.returns-clause-ended
returns-clause-ended c =
    let b = c.following.branch in
    let rest = c.following.rest.now in
    branch_ends c.args.p.now b c.args.path.now rest c.requires.query c.following.invariant.of c.following.invariant.whole c.following.invariant.there c.requires.covers
    (no_choice_left rest b.node c.in_default.ensures.cases)
