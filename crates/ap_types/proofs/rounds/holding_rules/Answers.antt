use Rattle.std.proofs.Common.{◌+◌, ◌||◌, ℕ, Bool, [], List, map, take, sym, subst, refl}
use Rattle.std.proofs.lemmas.List.{take_all}
use Rattle.ap_defs.specs.Types.{type_of}
use Rattle.ap_defs.specs.declared.terms.Ty.{Ty}
use Rattle.ap_types.specs.declared.least.Rule.{Rule}
use Rattle.ap_types.specs.Holding.{holds_if, some_holds}
use Rattle.ap_types.specs.Rules.{Adds}
use Rattle.ap_types.proofs.RuleLemmas.{adds_none, adds_same, adds_either, some_holds_next}
use Rattle.ap_types.proofs.rounds.holding_rules.Goals as goal

pub loop-ty-init : goal.loop-ty-init
loop-ty-init c =
    subst (λ (rs : List Rule). Adds [] rs (λ p. some_holds c.args.sort p []) c.args.gives) (sym c.new-rules.ensures.items)
    (adds_none [] (λ p. some_holds c.args.sort p []) c.args.gives (λ p. refl))

pub loop-ty-preserved : goal.loop-ty-preserved
loop-ty-preserved c =
    let i = c.loop-ty.ty-index in
    let ty = c.ty-item.result in
    let args = c.args.args.now in
    let sort = c.args.sort in
    let new = c.add_holding.new.rules.items in
    let before = λ (p : ℕ → Bool). some_holds sort p (map type_of (take i args)) in
    let here = λ (p : ℕ → Bool). holds_if sort p (type_of ty) in
    adds_same [] new (λ p. before p || here p) (λ p. some_holds sort p (map type_of (take (i + 1) args))) c.args.gives
    (λ p. some_holds_next sort p args i ty c.loop-ty-test.true c.ty-item.is)
    (adds_either [] c.loop-ty.rules.items new before here c.args.gives c.loop-ty.invariant c.in_ok-add_holding.ensures)

pub returns : goal.returns
returns c =
    subst (λ (ts : List Ty). Adds [] c.loop-ty.rules.items (λ p. some_holds c.args.sort p (map type_of ts)) c.args.gives)
    (take_all c.loop-ty.ty-index c.args.args.now c.loop-ty-test.false) c.loop-ty.invariant
