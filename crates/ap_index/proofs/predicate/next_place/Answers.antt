use Rattle.std.proofs.Common.{ℕ, ◌+◌, not, ap, ◌∙◌, arith, drop}
use Rattle.std.specs.List.{prefix_len}
use Rattle.ap_index.specs.Matching.{key_agrees}
use Rattle.ap_index.proofs.KeyLemmas.{narrow_match, narrow_drop, nothing_behind, wide_match, wild_match}
use Rattle.ap_index.proofs.predicate.next_place.Goals as goal
use Rattle.ap_index.proofs.predicate.next_place.Goals.{then-key, else-key}

pub returns-then-key-eq0 : goal.returns-then-key-eq0
returns-then-key-eq0 c =
    let e = wild_match c.args.key (drop c.args.from c.args.keys.now) c.if-key-eq0.true in
    omega (arith, e)

pub returns-then-keys-from : goal.returns-then-keys-from
returns-then-keys-from c =
    let e = nothing_behind c.args.key c.args.from c.args.keys.now c.if-keys-from.true in
    omega (arith, e)

pub returns : goal.returns
returns c =
    let rest = drop c.args.from c.args.keys.now in
    let narrow = narrow_drop c.args.from c.args.keys.now c.requires.narrow in
    let with_key = λ (k : ℕ). c.args.from + prefix_len (λ x. not (key_agrees k x)) rest in
    c.next_within.ensures
    ∙ elim c.if-key.branch [
      | then-key w ↦ ap with_key w.wanted-is ∙ ap (λ (n : ℕ). c.args.from + n) (narrow_match c.args.key rest narrow c.if-key-eq0.false)
      | else-key w ↦ ap with_key w.wanted-is ∙ ap (λ (n : ℕ). c.args.from + n) (wide_match c.args.key rest narrow (omega (arith, w.if-key.false)))
    ]
