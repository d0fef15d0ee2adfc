use Rattle.std.proofs.Common.{◌≡◌, ◌≢◌, ◌≤◌, ◌+◌, ◌-◌, ◌++◌, ℕ, suc, List, length, take, refl, ap, ◌∙◌, arith}
use Rattle.ap_answers.specs.Words.{knows}
use Rattle.ap_answers.proofs.FreeLemmas.{first_few, first_then_rest, numbers_next}
use Rattle.ap_answers.proofs.words.generated_numbers.Goals as goal

pub loop-i-preserved : goal.loop-i-preserved
loop-i-preserved c =
    let limit = c.in-Some.limit in
    let one : limit - c.loop-i.i ≡ suc (limit - (c.loop-i.i + 1)) = omega arith in
    let wanting : length c.loop-i.numbers.items ≢ c.args.count = omega arith in
    let next =
    numbers_next c.args.letter.now c.args.words.now (knows c.args.taken.now) c.args.count (c.loop-i.i + 1) (limit - c.loop-i.i) (limit - (c.loop-i.i + 1))
    c.loop-i.numbers.items c.keep_number.new.numbers.items _ c.requires.taken one c.loop-i.invariant.few wanting c.in_ok-keep_number.ensures c.loop-i.invariant.all
    in
    record { all = next.0; few = next.1 }

pub loop-i-init : goal.loop-i-init
loop-i-init c =
    let tried = c.args.free.now.tried in
    let limit = c.in-Some.limit in
    let below : tried ≤ length c.args.words.now = c.requires.free.1 in
    let both : tried + (limit - tried) ≡ c.args.count + length c.args.words.now = omega arith in
    let made = c.extend_from_slice.new.self.items in
    let first : made ≡ take c.args.count c.as_slice.result.now =
    c.in_ok-extend_from_slice.ensures.items ∙ ap (λ (ks : List ℕ). ks ++ c.first_of.result.now) c.in_ok-numbers.ensures.items ∙ c.first_of.ensures
    in
    record {
      all =
          first_then_rest c.args.letter.now c.args.words.now c.args.count tried (tried + 1) (limit - tried) c.as_slice.result.now made
          (c.as_slice.ensures.value ∙ c.requires.free.0) both refl first;
      few = first_few c.args.count c.as_slice.result.now made first;
    }
