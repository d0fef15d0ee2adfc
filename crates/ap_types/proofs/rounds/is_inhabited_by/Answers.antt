use Rattle.std.proofs.Common.{◌∙◌, sym, append-nil, arith}
use Rattle.std.proofs.lemmas.List.{nil_from_length}
use Rattle.ap_defs.specs.Types.{type_of}
use Rattle.ap_defs.proofs.SpineLemmas.{type_size}
use Rattle.ap_types.specs.Inhabited.{inhabited_if}
use Rattle.ap_types.specs.Needed.{own_inhabited, needed_parts}
use Rattle.ap_types.specs.Rounds.{marked}
use Rattle.ap_types.proofs.InhabitedParts.{inhabited_test, needed_smaller}
use Rattle.ap_types.proofs.PartTests.{ends_here, fails_here, goes_on, fewer_left}
use Rattle.ap_types.proofs.rounds.is_inhabited_by.Goals as goal

pub parts-preserved : goal.parts-preserved
parts-preserved c =
    let found = marked c.args.table.now in
    goes_on type_of needed_parts (inhabited_if found) (own_inhabited found) (inhabited_test found) c.parts.waiting.items (type_of c.parts.part.now) c.push_needed.new.waiting.items c.pop.new.self.items c.in-Some.next
    c.in-Some.ensures.items c.in_ok-push_needed.ensures (sym c.own_inhabited.ensures ∙ c.if-not-own_inhabited.false) ∙ c.parts.invariant

pub parts-smaller : goal.parts-smaller
parts-smaller c =
    fewer_left type_of type_size (needed_parts (type_of c.parts.part.now)) c.parts.waiting.items c.push_needed.new.waiting.items c.pop.new.self.items (type_of c.parts.part.now) c.in-Some.next
    (needed_smaller (type_of c.parts.part.now)) c.in-Some.ensures.items c.in_ok-push_needed.ensures

pub returns-then-not-own_inhabited : goal.returns-then-not-own_inhabited
returns-then-not-own_inhabited c =
    let found = marked c.args.table.now in
    sym (fails_here type_of needed_parts (inhabited_if found) (own_inhabited found) (inhabited_test found) c.parts.waiting.items (type_of c.parts.part.now)
    (sym c.own_inhabited.ensures ∙ c.if-not-own_inhabited.true)) ∙ c.parts.invariant

pub returns-in_default : goal.returns-in_default
returns-in_default c =
    let found = marked c.args.table.now in
    let none = nil_from_length c.pop.new.self.items (let l = c.pop.new.self.ok.0 in let h = c.in_default.ensures.cases in omega (arith, l, h.1)) in
    ends_here type_of needed_parts (inhabited_if found) (own_inhabited found) (inhabited_test found) c.parts.waiting.items (type_of c.parts.part.now) c.push_needed.new.waiting.items
    (c.in_default.ensures.items ∙ append-nil c.pop.new.self.items ∙ none) c.in_ok-push_needed.ensures (sym c.own_inhabited.ensures ∙ c.if-not-own_inhabited.false) ∙ c.parts.invariant
