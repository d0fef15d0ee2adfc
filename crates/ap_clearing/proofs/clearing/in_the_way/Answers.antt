use Rattle.std.proofs.Common.{◌≡◌, ◌∙◌, ◌++◌, ◌+◌, Bool, drop, sym, ap, Vec, Global}
use Rattle.std.specs.Prelude.{filter}
use Rattle.ap_defs.specs.declared.terms.Name.{Name}
use Rattle.ap_defs.specs.Permutations.{has_name}
use Rattle.ap_instance.proofs.NameLemmas.{name_missing}
use Rattle.ap_clearing.proofs.ClearsLemmas.{next_kept}
use Rattle.ap_clearing.proofs.clearing.in_the_way.Goals.{in-Some+in_ok-keep, in_default}
use Rattle.ap_clearing.proofs.clearing.in_the_way.Goals as goal

pub loop-place-preserved : goal.loop-place-preserved
loop-place-preserved c =
    let keys = c.args.names.now.known.keys in
    let keep : Name → Bool = λ b. has_name b c.args.there.now.keys in
    let place = c.loop-place.place in
    let so_far = c.loop-place.found.items in
    let whole = filter keep (drop c.args.names.now.free keys) in
    let all : so_far ++ filter keep (drop place keys) ≡ whole = c.loop-place.invariant in
    elim c.match-get_index.branch [
      | in-Some+in_ok-keep w ↦
          ap (λ (v : Vec Name Global). v.items ++ filter keep (drop (place + 1) keys)) w.found-is
          ∙ next_kept keep so_far w.keep.new.found.items keys place w.in-Some.name.now whole w.in_ok-keep.ensures (sym w.in-Some.ensures.key) all
      | in_default w ↦
          ap (λ (v : Vec Name Global). v.items ++ filter keep (drop (place + 1) keys)) w.found-is
          ∙ ap (λ l. so_far ++ filter keep l) (sym (name_missing keys place (sym w.in_default.ensures.key))) ∙ all
    ]
