use Rattle.std.proofs.Common.{◌∙◌, sym, append-nil, arith}
use Rattle.std.proofs.lemmas.List.{nil_from_length}
use Rattle.ap_defs.specs.Types.{type_of}
use Rattle.ap_types.specs.Barred.{own_barred, type_parts}
use Rattle.ap_types.specs.Rounds.{marked}
use Rattle.ap_types.proofs.BarredParts.{bars, barred_test, holds_here, holds_none}
use Rattle.ap_types.proofs.PartTests.{goes_on}
use Rattle.ap_types.proofs.rounds.holds_by.Goals as goal

pub parts-preserved : goal.parts-preserved
parts-preserved c =
    let found = marked c.args.table.now in
    goes_on type_of type_parts (bars c.args.sort found) (own_barred c.args.sort found) (barred_test c.args.sort found) c.parts.waiting.items (type_of c.parts.part.now) c.push_type_parts.new.waiting.items
    c.pop.new.self.items c.in-Some.next c.in-Some.ensures.items c.in_ok-push_type_parts.ensures (sym c.own_barred.ensures ∙ c.if-not-own_barred.false) ∙ c.parts.invariant

pub returns-then-not-own_barred : goal.returns-then-not-own_barred
returns-then-not-own_barred c =
    holds_here type_of c.args.sort (marked c.args.table.now) c.parts.waiting.items (type_of c.parts.part.now) (type_of c.args.t.now) c.parts.invariant (sym c.own_barred.ensures ∙ c.if-not-own_barred.true)

pub returns-in_default : goal.returns-in_default
returns-in_default c =
    let none = nil_from_length c.pop.new.self.items (let l = c.pop.new.self.ok.0 in let h = c.in_default.ensures.cases in omega (arith, l, h.1)) in
    holds_none type_of c.args.sort (marked c.args.table.now) c.parts.waiting.items (type_of c.parts.part.now) (type_of c.args.t.now) c.parts.invariant c.push_type_parts.new.waiting.items
    (c.in_default.ensures.items ∙ append-nil c.pop.new.self.items ∙ none) c.in_ok-push_type_parts.ensures (sym c.own_barred.ensures ∙ c.if-not-own_barred.false)
