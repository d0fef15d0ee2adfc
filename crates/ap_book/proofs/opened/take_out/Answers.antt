use Rattle.std.proofs.Common.{◌≡◌, ◌∙◌, sym, ap, subst, true, true≢false, List, ℕ, ◌+◌}
use Rattle.ap_paths.specs.History.{is_open}
use Rattle.ap_paths.proofs.Frontiers.{path_same}
use Rattle.ap_paths.specs.Weights.{weigh}
use Rattle.ap_book.specs.Kept.{paths_of}
use Rattle.ap_book.proofs.Opening.{after_remove, has_open}
use Rattle.ap_book.proofs.opened.take_out.Goals as goal

pub unreachable-requires : goal.unreachable-requires
unreachable-requires c =
    let there = ap (λ p. is_open p (paths_of c.args.opened.now.keys)) c.choices.ensures ∙ c.requires in
    true≢false (sym (c.in_default.ensures.variant ∙ has_open c.choices.result.now c.args.opened.now.keys ∙ there))

pub returns-clause-path : goal.returns-clause-path
returns-clause-path c = sym (path_same c.choices.result.now c.in-Some.taken.items c.in-Some.ensures.same_key) ∙ c.choices.ensures

pub returns-clause-taken : goal.returns-clause-taken
returns-clause-taken c = λ h.
    let p = c.choices.result.now in
    let there : is_open p (paths_of c.args.opened.now.keys) ≡ true = ap (λ p. is_open p (paths_of c.args.opened.now.keys)) c.choices.ensures ∙ c.requires in
    subst (λ (q : List ℕ). weigh h (paths_of c.take.new.self.keys) + h q ≡ weigh h (paths_of c.args.opened.now.keys)) c.choices.ensures
    (after_remove p c.args.opened.now.keys c.take.new.self.keys c.take.ensures.keys there h)
