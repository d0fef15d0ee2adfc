use Rattle.std.proofs.Common.{◌≤◌, ◌<◌, ap, arith, length, refl, sym, ◌∙◌}
use Rattle.std.specs.BTreeMap.{get}
use Rattle.std.specs.Prelude.{slice_get, unwrap_or}
use Rattle.ap_fresh.proofs.StepLemmas.{on_ok}
use Rattle.ap_perm.specs.Images.{key_cmp}
use Rattle.ap_unify.proofs.SolvedLemmas.{behind_there, set_length, set_stands, set_there}
use Rattle.ap_unify.proofs.solved.learn.Goals as goal
use Rattle.ap_unify.specs.Solved.{put_there, variables_of}

pub returns-then-place-len-clause-known : goal.returns-then-place-len-clause-known
returns-then-place-len-clause-known c =
    let es = c.args.solved.now.known.items in
    let within : c.place_of-place.result < length es = omega (arith, c.len.ensures, c.args.solved.now.known.ok.0, c.if-place-len.true) in
    c.put_in_place.ensures ∙ set_there es c.place_of-place.result c.args.pair within ∙ ap (λ i. put_there es i c.args.pair) c.place_of-place.ensures

pub returns-then-place-len-clause-found : goal.returns-then-place-len-clause-found
returns-then-place-len-clause-found c =
    let es = c.args.solved.now.known.items in
    let fs = c.put_in_place.new.known.items in
    let found = get key_cmp c.args.solved.now.places (variables_of c.args.pair) in
    let within : c.place_of-place.result < length es = omega (arith, c.len.ensures, c.args.solved.now.known.ok.0, c.if-place-len.true) in
    ap (λ n. slice_get fs (unwrap_or found n)) (ap length c.put_in_place.ensures ∙ set_length es c.place_of-place.result c.args.pair)
    ∙ ap (slice_get fs) (sym c.place_of-place.ensures)
    ∙ ap (λ zs. slice_get zs c.place_of-place.result) c.put_in_place.ensures
    ∙ set_stands es c.place_of-place.result c.args.pair within

pub returns-then-place-len-clause-others : goal.returns-then-place-len-clause-others
returns-then-place-len-clause-others c = λ ys e. refl

pub returns-clause-known : goal.returns-clause-known
returns-clause-known c =
    let es = c.args.solved.now.known.items in
    let past : length es ≤ c.place_of-place.result = omega (arith, c.len.ensures, c.args.solved.now.known.ok.0, c.if-place-len.false) in
    on_ok c.put_behind.result (λ e. e ∙ behind_there es c.place_of-place.result c.args.pair past ∙ ap (λ i. put_there es i c.args.pair) c.place_of-place.ensures) c.put_behind.ensures.known
