use Rattle.std.proofs.Common.{◌≡◌, ◌<◌, ◌∙◌, sym, ap, ◌++◌, ◌∷◌, [], map, length, subst}
use Rattle.std.proofs.lemmas.List.{map-append}
use Rattle.ap_defs.specs.RawTerms.{raw_of}
use Rattle.ap_defs.specs.Goals.{clause_over, query_over}
use Rattle.ap_scopes.specs.Views.{declared_of}
use Rattle.ap_typecheck.proofs.Tables.{put_is}
use Rattle.ap_typecheck.proofs.items.put_clause.Goals as goal

pub returns-clause-made : goal.returns-clause-made
returns-clause-made c =
    let old = c.args.state.now in
    let within : c.args.clause.pred < length old.clauses.items = subst (λ n. c.args.clause.pred < n) (sym c.requires.kept.listed) c.requires.declared in
    let grown : map (clause_over raw_of) c.push.new.self.items ≡ map (clause_over raw_of) c.index_mut.result.now.items ++ clause_over raw_of c.args.clause ∷ [] =
    ap (map (clause_over raw_of)) c.in_ok-push.ensures.items ∙ map-append (clause_over raw_of) c.index_mut.result.now.items (c.args.clause ∷ []) in
    let clauses = put_is (λ cs. map (clause_over raw_of) cs.items) (clause_over raw_of c.args.clause) old.clauses.items c.args.clause.pred c.index_mut.result.now c.push.new.self within c.index_mut.ensures.value grown in
    λ j. record { declared = declared_of old.declared; clauses = clauses j; queries = map (query_over raw_of) old.queries.items }
