use Rattle.std.proofs.Common.{◌≡◌, ◌∷◌, [], ◌++◌, ap, arith, refl, subst, sym}
use Rattle.std.proofs.lemmas.Grind.{common_steps}
use Rattle.ap_defs.specs.Answers.{closed_term}
use Rattle.ap_defs.specs.Canonical.{canonical_term}
use Rattle.ap_defs.specs.Substitution.{under}
use Rattle.ap_defs.specs.Terms.{NominalTerm, susp}
use Rattle.ap_machine.specs.Views.{state_in}
use Rattle.ap_perm.specs.Closures.{closure_term}
use Rattle.ap_store.specs.Views.{bindings_of}
use Rattle.ap_derive.specs.Closing.{LeadsToWhole, left_in_part, left_in_rounds}
use Rattle.ap_derive.specs.declared.closing.Part.{Part}
use Rattle.ap_derive.proofs.ClosingLemmas.{made_is, made_within, popped_within, reaches_first, reaches_in, reaches_out, work_pushed}
use Rattle.ap_derive.proofs.closing.close_var.Goals as goal

pub walking-init : goal.walking-init
walking-init c =
    let s = c.args.store.now in
    reaches_first s c.args.closing.now c.args.closing.now c.go_to.new.closing (closed_term (state_in s) (susp [] c.args.x)) c.new-rounds.result.items c.go_to.new.rounds.items
    (susp c.new-none.result.items c.args.x) c.in_ok-part.part c.new-rounds.ensures.items (ap (λ q. canonical_term (under (bindings_of s) (susp q c.args.x))) c.new-none.ensures.items) c.requires
    c.in_ok-part.ensures

pub go_in-requires : goal.go_in-requires
go_in-requires c = c.walking.invariant.closing

pub walking-preserved-in-Left : goal.walking-preserved-in-Left
walking-preserved-in-Left c =
    let s = c.args.store.now in
    let whole = closed_term (state_in s) (susp [] c.args.x) in
    let rs = c.walking.rounds.items in
    reaches_in s c.args.closing.now c.walking.closing c.go_in.new.closing whole rs c.go_in.new.rounds.items c.in-Left.c c.in_ok-inner-in-Left.inner c.in_ok-inner-in-Left.ensures
    (subst (λ (p : Part). LeadsToWhole s c.args.closing.now c.walking.closing rs p whole) c.in-Left.is c.walking.invariant)

pub walking-smaller-in-Left : goal.walking-smaller-in-Left
walking-smaller-in-Left c =
    let s = c.args.store.now in
    let less = c.in_ok-inner-in-Left.ensures.less in
    let is = ap (λ (p : Part). left_in_part s p) c.in-Left.is in
    omega (arith, less, is)

pub go_out-requires-clause-made : goal.go_out-requires-clause-made
go_out-requires-clause-made c =
    let s = c.args.store.now in
    let whole = closed_term (state_in s) (susp [] c.args.x) in
    let rs = c.walking.rounds.items in
    made_within s c.args.closing.now c.walking.closing rs c.in-Made.line whole (subst (λ (p : Part). LeadsToWhole s c.args.closing.now c.walking.closing rs p whole) c.in-Made.is c.walking.invariant)

pub go_out-requires-clause-round : goal.go_out-requires-clause-round
go_out-requires-clause-round c =
    let s = c.args.store.now in
    let whole = closed_term (state_in s) (susp [] c.args.x) in
    let rs = c.walking.rounds.items in
    popped_within s c.args.closing.now c.walking.closing rs c.pop.new.self.items c.in-Some.round c.in-Made.line whole c.in-Some.ensures.items
    (subst (λ (p : Part). LeadsToWhole s c.args.closing.now c.walking.closing rs p whole) c.in-Made.is c.walking.invariant)

pub walking-preserved : goal.walking-preserved
walking-preserved c =
    let s = c.args.store.now in
    let whole = closed_term (state_in s) (susp [] c.args.x) in
    let rs = c.walking.rounds.items in
    reaches_out s c.args.closing.now c.walking.closing c.go_out.new.closing whole rs c.pop.new.self.items c.go_out.new.rounds.items c.in-Some.round c.in-Made.line c.in_ok-outer-in-Made.outer
    c.in-Some.ensures.items c.in_ok-outer-in-Made.ensures (subst (λ (p : Part). LeadsToWhole s c.args.closing.now c.walking.closing rs p whole) c.in-Made.is c.walking.invariant)

pub walking-smaller : goal.walking-smaller
walking-smaller c =
    let s = c.args.store.now in
    let less = c.in_ok-outer-in-Made.ensures.less s in
    let is = ap (λ (p : Part). left_in_part s p) c.in-Made.is in
    let popped = work_pushed c.pop.new.self.items c.walking.rounds.items c.in-Some.round c.in-Some.ensures.items s in
    omega (arith, less, is, popped)

pub returns-in_default-clause-closing : goal.returns-in_default-clause-closing
returns-in_default-clause-closing c = c.walking.invariant.closing

pub returns-in_default-clause-grown : goal.returns-in_default-clause-grown
returns-in_default-clause-grown c = c.walking.invariant.grown

pub returns-in_default-clause-within : goal.returns-in_default-clause-within
returns-in_default-clause-within c =
    let s = c.args.store.now in
    let whole = closed_term (state_in s) (susp [] c.args.x) in
    let rs = c.walking.rounds.items in
    made_within s c.args.closing.now c.walking.closing rs c.in-Made.line whole (subst (λ (p : Part). LeadsToWhole s c.args.closing.now c.walking.closing rs p whole) c.in-Made.is c.walking.invariant)

pub returns-in_default-clause-line : goal.returns-in_default-clause-line
returns-in_default-clause-line c =
    let s = c.args.store.now in
    let whole = closed_term (state_in s) (susp [] c.args.x) in
    let rs = c.walking.rounds.items in
    let none : c.walking.rounds.items ≡ [] = grind (arith, common_steps) in
    made_is s c.args.closing.now c.walking.closing rs c.in-Made.line whole none (subst (λ (p : Part). LeadsToWhole s c.args.closing.now c.walking.closing rs p whole) c.in-Made.is c.walking.invariant)
