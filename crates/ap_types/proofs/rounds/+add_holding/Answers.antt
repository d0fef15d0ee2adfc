use Rattle.std.proofs.Common.{◌≡◌, ◌||◌, ℕ, Bool, sym, ap, arith}
use Rattle.std.specs.Prelude.{◌==◌}
use Rattle.std.proofs.lemmas.Result.{on_ok_weaker}
use Rattle.ap_defs.specs.Types.{type_of, pair}
use Rattle.ap_defs.proofs.SpineLemmas.{type_size}
use Rattle.ap_defs.specs.declared.terms.Ty.{Ty}
use Rattle.ap_types.specs.Holding.{holds_if}
use Rattle.ap_types.specs.Rules.{Adds}
use Rattle.ap_types.proofs.RuleLemmas.{adds_none, adds_same, adds_either}
use Rattle.ap_types.proofs.rounds.+add_holding.Goals as goal

pub returns-in-Unit : goal.returns-in-Unit
returns-in-Unit t c =
    c.loop-rest.invariant.all c.loop-rest.rules.items
    (adds_none c.loop-rest.rules.items (λ p. holds_if c.args.sort p (type_of c.loop-rest.rest.now)) c.args.gives (λ p. ap (λ (r : Ty). holds_if c.args.sort p (type_of r)) c.in-Unit.is))

pub returns-in-Names : goal.returns-in-Names
returns-in-Names t c =
    on_ok_weaker c.add_names.result
    (λ (h : Adds c.loop-rest.rules.items c.add_names.new.rules.items (λ p. c.in-Names.other == c.args.sort) c.args.gives).
    c.loop-rest.invariant.all c.add_names.new.rules.items
    (adds_same c.loop-rest.rules.items c.add_names.new.rules.items (λ p. c.in-Names.other == c.args.sort) (λ p. holds_if c.args.sort p (type_of c.loop-rest.rest.now)) c.args.gives
    (λ p. sym (ap (λ (r : Ty). holds_if c.args.sort p (type_of r)) c.in-Names.is)) h))
    c.add_names.ensures

pub returns-in-Base : goal.returns-in-Base
returns-in-Base t c =
    on_ok_weaker c.add_base.result
    (λ (h : Adds c.loop-rest.rules.items c.add_base.new.rules.items (λ p. p c.in-Base.base) c.args.gives).
    c.loop-rest.invariant.all c.add_base.new.rules.items
    (adds_same c.loop-rest.rules.items c.add_base.new.rules.items (λ p. p c.in-Base.base) (λ p. holds_if c.args.sort p (type_of c.loop-rest.rest.now)) c.args.gives
    (λ p. sym (ap (λ (r : Ty). holds_if c.args.sort p (type_of r)) c.in-Base.is)) h))
    c.add_base.ensures

pub loop-rest-preserved-in-Pair : goal.loop-rest-preserved-in-Pair
loop-rest-preserved-in-Pair t c =
    let left = λ (p : ℕ → Bool). holds_if c.args.sort p (type_of c.in-Pair.left.value) in
    let right = λ (p : ℕ → Bool). holds_if c.args.sort p (type_of c.in-Pair.right.value) in
    let now = c.loop-rest.rules.items in
    let mid = c.add_holding.new.rules.items in
    let first : Adds now mid left c.args.gives = rw c.deref.ensures at c.in_ok-add_holding-in-Pair.ensures in
    record {
      all = λ new h.
          let second : Adds mid new right c.args.gives = rw c.deref-rest.ensures at h in
          c.loop-rest.invariant.all new
          (adds_same now new (λ p. left p || right p) (λ p. holds_if c.args.sort p (type_of c.loop-rest.rest.now)) c.args.gives
          (λ p. sym (ap (λ (r : Ty). holds_if c.args.sort p (type_of r)) c.in-Pair.is))
          (adds_either now mid new left right c.args.gives first second));
      smaller =
          let whole : type_size (type_of c.loop-rest.rest.now) ≡ type_size (pair (type_of c.in-Pair.left.value) (type_of c.in-Pair.right.value)) = ap (λ (r : Ty). type_size (type_of r)) c.in-Pair.is in
          let right : type_size (type_of c.deref-rest.result.now) ≡ type_size (type_of c.in-Pair.right.value) = ap (λ (r : Ty). type_size (type_of r)) c.deref-rest.ensures in
          omega (arith, c.loop-rest.invariant.smaller);
    }
