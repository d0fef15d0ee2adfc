use Rattle.std.proofs.Common.{◌≡◌, ◌≤◌, min, List, ◌++◌, length, take, map, refl, sym, ap, ◌∙◌, subst, arith}
use Rattle.std.proofs.lemmas.List.{length-map, length-take-le}
use Rattle.ap_defs.specs.Goals.{clause_of}
use Rattle.ap_defs.specs.Renaming.{rename_term}
use Rattle.ap_defs.specs.Resolution.{kinds_of}
use Rattle.ap_defs.specs.Terms.{term_of}
use Rattle.ap_defs.specs.Types.{NominalKind, local_of, locals_of}
use Rattle.ap_defs.specs.declared.terms.Term.{Term}
use Rattle.ap_store.specs.Triples.{IsPrefixOf, Triple}
use Rattle.ap_store.specs.Views.{kinds, present, versions}
use Rattle.ap_store.proofs.TrailLemmas.{goes_on_both}
use Rattle.ap_machine.specs.Below.{AreWaitingBelow}
use Rattle.ap_machine.specs.Looks.{HasLooked}
use Rattle.ap_machine.specs.Machines.{position_of, track_of}
use Rattle.ap_machine.specs.Stacks.{cells_of, waiting_in}
use Rattle.ap_turns.proofs.HeadLemmas.{args_below, head_below, head_next, head_none, head_some, made_kinds, made_next, position_back, present_back, terms_cut, track_back, versions_back, waiting_made}
use Rattle.ap_turns.proofs.StoreTurnLemmas.{store_goes, waiting_kept}
use Rattle.ap_machine.proofs.LookLemmas.{look_on}
use Rattle.ap_machine.proofs.TrackLemmas.{goes_same}
use Rattle.ap_turns.proofs.clauses.unify_head.Goals as goal

pub unify-requires-clause-lengths : goal.unify-requires-clause-lengths
unify-requires-clause-lengths c =
    let k = c.min-count.result in
    let l : k ≤ length c.args.args.now = omega (arith, c.min-count.ensures) in
    let m : k ≤ length c.items-head.result.now = omega (arith, c.min-count.ensures) in
    length-take-le k c.args.args.now l ∙ sym (length-take-le k c.items-head.result.now m)

pub unify-requires-clause-left : goal.unify-requires-clause-left
unify-requires-clause-left c =
    args_below c.in_ok-start.start (present c.args.machine.now.store).next c.args.base c.args.args.now c.min-count.result (omega (arith, c.in_ok-start.ensures.first)) c.requires.args

pub unify-requires-clause-right : goal.unify-requires-clause-right
unify-requires-clause-right c =
    let s = c.args.machine.now.store in let r = c.make.new.self in
    let made = made_next s r c.items.result.now c.args.clause.now.locals c.in_ok-start.ensures.present c.items.ensures in
    let k = c.min-count.result in let n = c.in_ok-start.start in let heads = c.items-head.result.now in
    head_below c.next-end.result (length (locals_of c.args.clause.now.locals)) n c.args.clause.now.args heads k (omega (arith, made, c.next-end.ensures, c.in_ok-start.ensures.first)) c.items-head.ensures c.requires.clause.0

pub unify-requires-clause-left_made : goal.unify-requires-clause-left_made
unify-requires-clause-left_made c =
    let s = c.args.machine.now.store in let r = c.make.new.self in
    let made = made_next s r c.items.result.now c.args.clause.now.locals c.in_ok-start.ensures.present c.items.ensures in
    args_below (present r).next (present s).next c.args.base c.args.args.now c.min-count.result (omega (arith, made)) c.requires.args

pub unify-requires-clause-right_made : goal.unify-requires-clause-right_made
unify-requires-clause-right_made c =
    let s = c.args.machine.now.store in let r = c.make.new.self in
    let made = made_next s r c.items.result.now c.args.clause.now.locals c.in_ok-start.ensures.present c.items.ensures in
    let k = c.min-count.result in let n = c.in_ok-start.start in let heads = c.items-head.result.now in
    head_below (present r).next (length (locals_of c.args.clause.now.locals)) n c.args.clause.now.args heads k (omega (arith, made, c.in_ok-start.ensures.first)) c.items-head.ensures c.requires.clause.0

pub invariant_of-machine-in-Break-branch-2 : goal.invariant_of-machine-in-Break-branch-2
invariant_of-machine-in-Break-branch-2 c =
    let s = c.args.machine.now.store in let r = c.make.new.self in
    record {
      below = waiting_kept r c.unify.new.store (waiting_in c.args.machine.now.goals) c.unify.ensures.kinds (waiting_made s r c.items.result.now (waiting_in c.args.machine.now.goals) c.in_ok-start.ensures.present c.args.machine.now.below);
      seen = look_on (versions s) (versions c.unify.new.store) c.args.machine.now.brought.items c.args.machine.now.look
          (goes_on_both (versions s) (versions r) (versions c.unify.new.store) c.in_ok-start.ensures.past c.unify.ensures.past) c.args.machine.now.seen;
    }

pub invariant_of-machine-then-branch : goal.invariant_of-machine-then-branch
invariant_of-machine-then-branch c =
    let s = c.args.machine.now.store in let r = c.make.new.self in
    record {
      below = waiting_kept r c.unify.new.store (waiting_in c.args.machine.now.goals) c.unify.ensures.kinds (waiting_made s r c.items.result.now (waiting_in c.args.machine.now.goals) c.in_ok-start.ensures.present c.args.machine.now.below);
      seen = look_on (versions s) (versions c.unify.new.store) c.args.machine.now.brought.items c.args.machine.now.look
          (goes_on_both (versions s) (versions r) (versions c.unify.new.store) c.in_ok-start.ensures.past c.unify.ensures.past) c.args.machine.now.seen;
    }

pub returns-then-branch-clause-state : goal.returns-then-branch-clause-state
returns-then-branch-clause-state c =
    let s = c.args.machine.now.store in let r = c.make.new.self in
    let more = made_kinds s r c.items.result.now c.args.clause.now.locals c.in_ok-start.ensures.kinds c.items.ensures in
    let d = c.unify.new.store in
    let cl = clause_of c.args.clause.now in
    let ts = map (rename_term c.args.base) (map term_of c.args.args.now) in
    let k = c.min-count.result in let n = c.in_ok-start.start in let heads = c.items-head.result.now in
    let many : length c.items.result.now ≡ length cl.locals = ap length c.items.ensures ∙ sym (length-map c.args.clause.now.locals local_of) in
    let left : map (rename_term c.args.base) (map term_of (take k c.args.args.now)) ≡ take k ts = terms_cut c.args.base c.args.args.now k in
    let right : map (rename_term n) (map term_of (take k heads)) ≡ take k (map (rename_term n) cl.args) =
    ap (λ (us : List Term). map (rename_term n) (map term_of (take k us))) c.items-head.ensures ∙ terms_cut n c.args.clause.now.args k in
    let enough : min (length ts) (length cl.args) ≤ k =
    omega (arith, length-map (map term_of c.args.args.now) (rename_term c.args.base), length-map c.args.args.now term_of, length-map c.args.clause.now.args term_of, ap length c.items-head.ensures, c.min-count.ensures) in (
      c.in_ok-start.ensures.first,
      head_next s r d ts cl (length c.items.result.now) many c.in_ok-start.ensures.present more c.unify.ensures.kinds n c.in_ok-start.ensures.first,
      head_some s r d ts cl (length c.items.result.now) many c.in_ok-start.ensures.present more c.unify.ensures.kinds
          n c.in_ok-start.ensures.first (map (rename_term c.args.base) (map term_of (take k c.args.args.now))) (map (rename_term n) (map term_of (take k heads))) k left right enough c.in_ok-unify.field-0 c.in_ok-unify.ensures.defined c.if-branch.true,
      refl,
    )

pub returns-then-branch-clause-goes : goal.returns-then-branch-clause-goes
returns-then-branch-clause-goes c =
    let b = c.args.machine.now in
    let s = c.args.machine.now.store in let r = c.make.new.self in
    let d = c.unify.new.store in
    let on : IsPrefixOf (versions s) (versions d) = goes_on_both (versions s) (versions r) (versions d) c.in_ok-start.ensures.past c.unify.ensures.past in
    let longer : (ks : List NominalKind) × (kinds d ≡ kinds s ++ ks) = (kinds_of (locals_of c.items.result.now), c.unify.ensures.kinds ∙ c.in_ok-start.ensures.kinds) in
    store_goes s d (cells_of b.goals) b.path.items b.brought.items on longer

pub invariant_of-machine-else-branch : goal.invariant_of-machine-else-branch
invariant_of-machine-else-branch c =
    let s = c.args.machine.now.store in let r = c.make.new.self in
    let d = c.unify.new.store in
    let on : IsPrefixOf (versions s) (versions d) = goes_on_both (versions s) (versions r) (versions d) c.in_ok-start.ensures.past c.unify.ensures.past in
    let longer : (ks : List NominalKind) × (kinds d ≡ kinds s ++ ks) = (kinds_of (locals_of c.items.result.now), c.unify.ensures.kinds ∙ c.in_ok-start.ensures.kinds) in
    record {
      below = subst (λ (a : Triple). AreWaitingBelow a.next (waiting_in c.args.machine.now.goals)) (sym (present_back s d c.undo_to.new.self c.mark-mark.result.place on longer c.mark-mark.ensures c.undo_to.ensures.versions c.undo_to.ensures.kinds)) c.args.machine.now.below;
      seen = subst (λ (vs : List Triple). HasLooked vs c.args.machine.now.brought.items c.args.machine.now.look) (sym (versions_back s d c.undo_to.new.self c.mark-mark.result.place on longer c.mark-mark.ensures c.undo_to.ensures.versions c.undo_to.ensures.kinds)) c.args.machine.now.seen;
    }

pub returns-else-branch-clause-state : goal.returns-else-branch-clause-state
returns-else-branch-clause-state c =
    let s = c.args.machine.now.store in let r = c.make.new.self in
    let more = made_kinds s r c.items.result.now c.args.clause.now.locals c.in_ok-start.ensures.kinds c.items.ensures in
    let d = c.unify.new.store in
    let cl = clause_of c.args.clause.now in
    let ts = map (rename_term c.args.base) (map term_of c.args.args.now) in
    let k = c.min-count.result in let n = c.in_ok-start.start in let heads = c.items-head.result.now in
    let many : length c.items.result.now ≡ length cl.locals = ap length c.items.ensures ∙ sym (length-map c.args.clause.now.locals local_of) in
    let left : map (rename_term c.args.base) (map term_of (take k c.args.args.now)) ≡ take k ts = terms_cut c.args.base c.args.args.now k in
    let right : map (rename_term n) (map term_of (take k heads)) ≡ take k (map (rename_term n) cl.args) =
    ap (λ (us : List Term). map (rename_term n) (map term_of (take k us))) c.items-head.ensures ∙ terms_cut n c.args.clause.now.args k in
    let enough : min (length ts) (length cl.args) ≤ k =
    omega (arith, length-map (map term_of c.args.args.now) (rename_term c.args.base), length-map c.args.args.now term_of, length-map c.args.clause.now.args term_of, ap length c.items-head.ensures, c.min-count.ensures) in
    head_none s r d ts cl (length c.items.result.now) many c.in_ok-start.ensures.present more c.unify.ensures.kinds
    n c.in_ok-start.ensures.first (map (rename_term c.args.base) (map term_of (take k c.args.args.now))) (map (rename_term n) (map term_of (take k heads))) k left right enough c.in_ok-unify.field-0 c.in_ok-unify.ensures.defined c.if-branch.false

pub returns-else-branch-clause-goes : goal.returns-else-branch-clause-goes
returns-else-branch-clause-goes c =
    let b = c.args.machine.now in
    let s = c.args.machine.now.store in let r = c.make.new.self in
    let d = c.unify.new.store in
    let on : IsPrefixOf (versions s) (versions d) = goes_on_both (versions s) (versions r) (versions d) c.in_ok-start.ensures.past c.unify.ensures.past in
    let longer : (ks : List NominalKind) × (kinds d ≡ kinds s ++ ks) = (kinds_of (locals_of c.items.result.now), c.unify.ensures.kinds ∙ c.in_ok-start.ensures.kinds) in
    goes_same (track_of b) _ (track_back s d c.undo_to.new.self c.mark-mark.result.place on longer c.mark-mark.ensures c.undo_to.ensures.versions c.undo_to.ensures.kinds (cells_of b.goals) b.path.items b.brought.items)

pub returns-else-branch-clause-none : goal.returns-else-branch-clause-none
returns-else-branch-clause-none c =
    let b = c.args.machine.now in
    let s = c.args.machine.now.store in let r = c.make.new.self in
    let d = c.unify.new.store in
    let on : IsPrefixOf (versions s) (versions d) = goes_on_both (versions s) (versions r) (versions d) c.in_ok-start.ensures.past c.unify.ensures.past in
    let longer : (ks : List NominalKind) × (kinds d ≡ kinds s ++ ks) = (kinds_of (locals_of c.items.result.now), c.unify.ensures.kinds ∙ c.in_ok-start.ensures.kinds) in
    λ h. (
      track_back s d c.undo_to.new.self c.mark-mark.result.place on longer c.mark-mark.ensures c.undo_to.ensures.versions c.undo_to.ensures.kinds (cells_of b.goals) b.path.items b.brought.items,
      position_back s d c.undo_to.new.self c.mark-mark.result.place on longer c.mark-mark.ensures c.undo_to.ensures.versions c.undo_to.ensures.kinds (position_of b),
    )
