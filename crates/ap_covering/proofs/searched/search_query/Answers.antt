use Rattle.std.proofs.Common.{◌≡◌, refl, sym, ap, ◌∙◌, arith, subst}
use Rattle.ap_defs.specs.Answers.{outs_of, query_outs}
use Rattle.ap_defs.specs.Goals.{program_of}
use Rattle.ap_cover.specs.Covers.{outs_asked}
use Rattle.ap_covering.proofs.SearchedLemmas.{outs_found, outs_high, outs_none}
use Rattle.ap_covering.proofs.searched.search_query.Goals as goal

pub returns-then-query-eq0 : goal.returns-then-query-eq0
returns-then-query-eq0 g c =
    let p = program_of c.args.program.now in
    record { asked = refl; outs = ap outs_of c.new-outs.ensures.items ∙ outs_none p c.args.depth ∙ ap (outs_asked p c.args.depth) (sym c.if-query-eq0.true) }

pub returns-then-query-count : goal.returns-then-query-count
returns-then-query-count g c =
    let p = program_of c.args.program.now in
    let count = c.query_count-count.ensures in
    record { asked = refl; outs = ap outs_of c.new-outs-then-query-count.ensures.items ∙ outs_high p c.args.depth c.args.query (omega (arith, count)) }

pub returns : goal.returns
returns g c =
    let p = program_of c.args.program.now in
    let count = c.query_count-count.ensures in
    record {
      asked = refl;
      outs = outs_found p c.args.depth c.args.query (outs_of c.in_ok-outs.outs.items) (omega arith) (omega (arith, count))
          (λ q found. subst (λ d. outs_of c.in_ok-outs.outs.items ≡ query_outs p.clauses d q) c.get.ensures.number (c.in_ok-outs.ensures q found));
    }
