use Rattle.std.proofs.Common.{◌≡◌, ◌∙◌, ◌++◌, ◌+◌, ℕ, drop, map, sym, ap, Vec, Global}
use Rattle.ap_instance.specs.Settled.{sort_of}
use Rattle.ap_instance.proofs.NameLemmas.{name_missing, next_sort}
use Rattle.ap_instance.proofs.names.Names.sorts.Goals.{in-Some+in_ok-push, in_default}
use Rattle.ap_instance.proofs.names.Names.sorts.Goals as goal

pub loop-place-preserved : goal.loop-place-preserved
loop-place-preserved c =
    let keys = c.args.self.now.known.keys in
    let place = c.loop-place.place in
    let so_far = c.loop-place.sorts.items in
    let whole = map sort_of (drop c.args.self.now.free keys) in
    let all : so_far ++ map sort_of (drop place keys) ≡ whole = c.loop-place.invariant in
    elim c.match-get_index.branch [
      | in-Some+in_ok-push w ↦
          ap (λ (v : Vec ℕ Global). v.items ++ map sort_of (drop (place + 1) keys)) w.sorts-is
          ∙ next_sort so_far w.push.new.self.items keys place w.in-Some.name.now whole w.in_ok-push.ensures.items (sym w.in-Some.ensures.key) all
      | in_default w ↦
          ap (λ (v : Vec ℕ Global). v.items ++ map sort_of (drop (place + 1) keys)) w.sorts-is
          ∙ ap (λ l. so_far ++ map sort_of l) (sym (name_missing keys place (sym w.in_default.ensures.key))) ∙ all
    ]
