use Rattle.std.proofs.Common.{◌≡◌, ◌∙◌, ◌+◌, ◌-◌, ◌≤◌, sym, subst, drop, length, suc, ℕ}
use Rattle.ap_play.specs.Covers.{covers}
use Rattle.ap_play.proofs.Covering.{choice_in, next_kid, barren_choice, all_covered}
use Rattle.ap_play.proofs.kids.cover.Goals as goal
use Rattle.ap_play.proofs.kids.cover.Goals.{then-starts_at, else-starts_at+in_ok-is_barren+else-not-branch}

pub is_barren-requires-after_bounds : goal.is_barren-requires-after_bounds
is_barren-requires-after_bounds g c _ _ = choice_in (g.T.Tree.choices c.args.tree.now) c.args.path.now c.args.width c.loop-i.i c.requires.inside c.requires.wide c.loop-i-test.true

pub loop-i-preserved : goal.loop-i-preserved
loop-i-preserved g c =
    let at = g.T.Tree.at c.args.tree.now in
    let p = c.args.path.now in
    let ks = c.args.kids.now in
    let i = c.loop-i.i in
    let w = c.args.width in
    let said = c.loop-i.invariant in
    let P : ℕ → Type 0 = λ m. (covers at p 1 w ks ≡ covers at p (suc (i + 1)) (w - (i + 1)) (drop m ks)) × (m ≤ length ks) in
    elim c.if-starts_at.branch [
      | then-starts_at v ↦
          let n = next_kid at p i w c.loop-i.next ks c.loop-i-test.true (sym c.starts_at.ensures ∙ v.if-starts_at.true) in
          subst P (sym v.next-is) (said.0 ∙ n.0, n.1)
      | else-starts_at+in_ok-is_barren+else-not-branch v ↦
          let n = barren_choice at p i w c.loop-i.next ks c.loop-i-test.true (sym c.starts_at.ensures ∙ v.if-starts_at.false) (sym v.in_ok-is_barren.ensures ∙ v.if-not-branch.false) in
          subst P (sym v.next-is) (said.0 ∙ n, said.1)
    ]

pub returns : goal.returns
returns g c =
    let said = c.loop-i.invariant in
    sym (said.0 ∙ all_covered (g.T.Tree.at c.args.tree.now) c.args.path.now c.loop-i.i c.args.width c.loop-i.next c.args.kids.now c.loop-i.auto.i-end c.loop-i-test.false said.1)
