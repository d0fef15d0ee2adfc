use Rattle.std.proofs.Common.{rules, ◌≡◌, ℕ, List, set, refl, arith}
use Rattle.ap_tools.specs.Owners.{stolen_of}
use Rattle.ap_tools.proofs.Accounting.{stolen_more, stolen_same, stole_none}
use Rattle.ap_tools.proofs.tools.Tools.rob_next.Goals as goal

pub returns-in-Got-clause-took : goal.returns-in-Got-clause-took
returns-in-Got-clause-took g c h =
    let others = c.args.self.now.others.items in
    let more = stolen_more h others c.if-next-len.at c.index_mut.result.now c.steal.new.self c.in-Got.path (search rules) c.index_mut.ensures.value c.in-Got.ensures.stole in
    omega arith

pub returns-in-Empty : goal.returns-in-Empty
returns-in-Empty g c =
    let others = c.args.self.now.others.items in
    let old = c.index_mut.result.now in
    let step : (h : List ℕ → ℕ) → stolen_of h (set others c.if-next-len.at c.steal.new.self) ≡ stolen_of h others = λ h.
    stolen_same h others c.if-next-len.at old c.steal.new.self (search rules) c.index_mut.ensures.value (stole_none old c.steal.new.self c.steal.result c.in-Empty.is c.steal.ensures.stole) in
    record { kept = (refl, refl, refl); took = λ h. (let same = step h in omega arith) }
