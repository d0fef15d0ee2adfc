use Rattle.std.proofs.Common.{[], ◌∷◌, if◌then◌else◌, Bool, List, ℕ, sym, subst}
use Rattle.ap_tools.specs.Order.{IsSole}
use Rattle.ap_tools.specs.Accounts.{EndsJust}
use Rattle.ap_tools.proofs.Accounting.{ends_keep, needed_keeps}
use Rattle.ap_steal.proofs.step.run_path.Goals as goal

pub returns-then-not-needed-clause-order : goal.returns-then-not-needed-clause-order
returns-then-not-needed-clause-order g c alone sole =
    let p = c.path.result.now in
    let hand = c.args.tools.now.hand.items in
    let seat = c.args.seat.now in
    let new = c.is_needed.new.seat in
    let here = subst (λ (x : List ℕ). IsSole (x ∷ hand) seat.number seat.seen) (sym c.path.ensures.same) sole in
    subst (λ (b : Bool). IsSole (if b then p ∷ hand else hand) new.number new.seen) c.if-not-needed.true (c.in_ok-needed.ensures.order hand here)

pub returns-clause-order : goal.returns-clause-order
returns-clause-order g c alone sole =
    let p = c.path.result.now in
    let hand = c.args.tools.now.hand.items in
    let seat = c.args.seat.now in
    let new = c.is_needed.new.seat in
    let here = subst (λ (x : List ℕ). IsSole (x ∷ hand) seat.number seat.seen) (sym c.path.ensures.same) sole in
    let after = subst (λ (b : Bool). IsSole (if b then p ∷ hand else hand) new.number new.seen) c.if-not-needed.false (c.in_ok-needed.ensures.order hand here) in
    c.visit_path-2.ensures.order alone (subst (λ (x : List ℕ). IsSole (x ∷ hand) new.number new.seen) c.path.ensures.same after)

pub returns-then-not-needed-clause-held : goal.returns-then-not-needed-clause-held
returns-then-not-needed-clause-held g c =
    let seat = c.args.seat.now in
    let after = c.is_needed.new.seat.seen in
    let q = c.path.result.now in
    let ends = subst (λ (b : Bool). EndsJust seat.number seat.seen (if b then [] else q ∷ []) after) c.if-not-needed.true c.in_ok-needed.ensures.ended in
    ends_keep seat.number seat.seen after (c.args.path.now ∷ []) c.args.tools.now (subst (λ (k : List ℕ). EndsJust seat.number seat.seen (k ∷ []) after) c.path.ensures.same ends)

pub returns-clause-held : goal.returns-clause-held
returns-clause-held g c =
    let seat = c.args.seat.now in
    let between = c.is_needed.new.seat in
    let q = c.path.result.now in
    let ends = subst (λ (b : Bool). EndsJust seat.number seat.seen (if b then [] else q ∷ []) between.seen) c.if-not-needed.false c.in_ok-needed.ensures.ended in
    needed_keeps seat.number between.number seat.seen between.seen c.visit_path-2.new.seat.seen c.args.path.now c.args.tools.now c.visit_path-2.new.tools c.visit_path-2.result c.is_needed.ensures.same.1 ends c.visit_path-2.ensures.held
