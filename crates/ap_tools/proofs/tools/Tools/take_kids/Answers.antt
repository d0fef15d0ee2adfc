use Rattle.std.proofs.Common.{rules, ◌∙◌, ◌∷◌, ◌++◌, sym, ap}
use Rattle.ap_tools.proofs.OwnEntries.{choice_at}
use Rattle.ap_tools.proofs.Fresh.{kids_more, kids_held}
use Rattle.ap_tools.proofs.tools.Tools.take_kids.Goals as goal

pub child-requires : goal.child-requires
child-requires g c = choice_at _ c.args.kids.now _ 0 (search rules) c.requires

pub loop-i-preserved : goal.loop-i-preserved
loop-i-preserved g c =
    let v = c.loop-i.invariant in
    let p = c.args.path.now in
    let ks = c.args.kids.now in
    let more = kids_more p ks c.loop-i.i c.in_ok-kid.kid (search rules) c.in_ok-kid.ensures in (
      search rules,
      λ alone.
          c.in_ok-put.ensures.first (v.0.2 ∙ alone)
          ∙ ap (λ l. c.in_ok-kid.kid ∷ l) (v.1 alone)
          ∙ ap (λ l. l ++ c.args.self.now.hand.items) (sym more),
      λ h. kids_held h _ _ c.in_ok-kid.kid _ _ _ more (c.in_ok-put.ensures.held h) (v.2 h),
      λ h. c.in_ok-put.ensures.fetched h ∙ v.3 h,
    )
