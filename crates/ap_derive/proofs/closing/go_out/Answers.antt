use Rattle.std.proofs.Common.{length, subst, sym}
use Rattle.ap_derive.specs.Closing.{PartGoesOut, IsRoundWithin, closing_terms}
use Rattle.ap_derive.specs.declared.closing.Round.{Round}
use Rattle.ap_derive.proofs.ClosingLemmas.{abs_out, app_out, bound_out, left_out, right_out}
use Rattle.ap_derive.specs.declared.closing.Part.TheVariants as parts
use Rattle.ap_derive.proofs.closing.go_out.Goals as goal

pub add_line-requires : goal.add_line-requires
add_line-requires c = (subst (λ (r : Round). IsRoundWithin (length (closing_terms c.args.closing.now)) r) c.in-RightOf.is c.requires.round, c.requires.made)

pub returns-in_ok-line-in-RightOf : goal.returns-in_ok-line-in-RightOf
returns-in_ok-line-in-RightOf c =
    let old = c.args.closing.now in
    let new = c.add_line.new.closing in
    let rs = c.args.rounds.now.items in
    let line = c.in_ok-line-in-RightOf.ensures in
    subst (λ (r : Round). PartGoesOut old new rs rs r c.args.made (parts.Made c.in_ok-line-in-RightOf.line)) (sym c.in-RightOf.is)
    (right_out old new rs c.args.made c.in-RightOf.left c.in_ok-line-in-RightOf.line line.lines line.grown line.within line.line)

pub returns-in_ok-push-in-LeftOf : goal.returns-in_ok-push-in-LeftOf
returns-in_ok-push-in-LeftOf c =
    let old = c.args.closing.now in
    subst (λ (r : Round). PartGoesOut old old c.args.rounds.now.items c.push.new.self.items r c.args.made (parts.Left c.in-LeftOf.right)) (sym c.in-LeftOf.is)
    (left_out old c.args.rounds.now.items c.push.new.self.items c.args.made c.in-LeftOf.right c.requires.made c.in_ok-push-in-LeftOf.ensures.items)

pub returns-in_ok-line-in-App : goal.returns-in_ok-line-in-App
returns-in_ok-line-in-App c =
    let old = c.args.closing.now in
    let new = c.add_line-in-App.new.closing in
    let rs = c.args.rounds.now.items in
    let line = c.in_ok-line-in-App.ensures in
    subst (λ (r : Round). PartGoesOut old new rs rs r c.args.made (parts.Made c.in_ok-line-in-App.line)) (sym c.in-App.is)
    (app_out old new rs c.args.made c.in-App.f c.in_ok-line-in-App.line line.lines line.grown line.within line.line)

pub returns-in_ok-line-in-Abs : goal.returns-in_ok-line-in-Abs
returns-in_ok-line-in-Abs c =
    let old = c.args.closing.now in
    let new = c.add_line-in-Abs.new.closing in
    let rs = c.args.rounds.now.items in
    let line = c.in_ok-line-in-Abs.ensures in
    subst (λ (r : Round). PartGoesOut old new rs rs r c.args.made (parts.Made c.in_ok-line-in-Abs.line)) (sym c.in-Abs.is)
    (abs_out old new rs c.args.made c.in-Abs.a c.in_ok-line-in-Abs.line line.lines line.grown line.within line.line)

pub returns-in-Bound : goal.returns-in-Bound
returns-in-Bound c =
    let old = c.args.closing.now in
    let new = c.keep.new.closing in
    let rs = c.args.rounds.now.items in
    subst (λ (r : Round). PartGoesOut old new rs rs r c.args.made (parts.Made c.args.made)) (sym c.in-Bound.is)
    (bound_out old new rs c.args.made c.in-Bound.x c.keep.ensures.terms c.keep.ensures.lines c.requires.made)
