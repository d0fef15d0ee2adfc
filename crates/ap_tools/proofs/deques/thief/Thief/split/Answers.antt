use Rattle.std.proofs.Common.{rules, arith, ◌≡◌, ◌∙◌, [], ◌∷◌, length, length-append, ap, sym, subst}
use Rattle.std.specs.declared.alloc.Global.{Global}
use Rattle.atomic_blocks.specs.Lent.{RowsId}
use Rattle.crossbeam_deque.specs.Handles.{IsPassOf, stealer_deque, stealer_flavor}
use Rattle.ap_tools.specs.declared.deques.hand.Hand.{Hand}
use Rattle.ap_tools.specs.Ends.{ThiefView}
use Rattle.ap_tools.proofs.Spares.{spare_rest, spare_last, no_spare, thief_knows}
use Rattle.ap_tools.proofs.deques.thief.Thief.split.Goals as goal

pub with_one-requires : goal.with_one-requires
with_one-requires g c =
    let s : (stealer_deque c.in_ok-stealer.stealer ≡ stealer_deque c.self.inside.stealer) × (stealer_flavor c.in_ok-stealer.stealer ≡ stealer_flavor c.self.inside.stealer) = search rules in
    let last = spare_last (stealer_deque c.self.inside.stealer) _ _ _ c.in-Some.ensures.items c.self.invariant.3 in (
      s.1 ∙ c.self.invariant.0,
      subst (λ (d : RowsId × Global). IsPassOf d c.in-Some.pass) (sym s.0) last.0,
      thief_knows _ [] last.1,
      no_spare (stealer_deque c.in_ok-stealer.stealer),
    )

pub invariant_of-self : goal.invariant_of-self
invariant_of-self g c =
    let v = c.self.invariant in
    (v.0, v.1, v.2, spare_rest (stealer_deque c.self.inside.stealer) _ _ _ c.in-Some.ensures.items v.3)

pub returns-clause-parts : goal.returns-clause-parts
returns-clause-parts g c =
    let s : (stealer_deque c.in_ok-stealer.stealer ≡ stealer_deque c.self.inside.stealer) × (stealer_flavor c.in_ok-stealer.stealer ≡ stealer_flavor c.self.inside.stealer) = search rules in
    let last = spare_last (stealer_deque c.self.inside.stealer) _ _ _ c.in-Some.ensures.items c.self.invariant.3 in
    let n = ap length c.in-Some.ensures.items in
    let p = ap (λ (t : ThiefView). t.parts) c.self.view_is in
    let made = c.with_one.ensures in (
      ap (λ (t : ThiefView). t.deque) made ∙ s.0 ∙ ap (λ (t : ThiefView). t.deque) c.self.view_is,
      ap (λ (t : ThiefView). t.parts) made,
      ap (λ (t : ThiefView). t.stolen) made ∙ ap (λ (v : Hand). v.stolen) last.1,
      omega (arith, length-append c.pop.new.self.items (c.in-Some.pass ∷ [])),
    )
