use Rattle.std.proofs.Common.{◌∙◌, ◌≤◌, List, length, map, ap, sym, subst}
use Rattle.std.specs.List.{list_all}
use Rattle.ap_backchain.specs.Branches.{path_of_branch}
use Rattle.ap_bundle.specs.Bundles.{proved_of}
use Rattle.ap_cover.specs.Ground.{ground_terms, is_ground_term}
use Rattle.ap_defs.specs.declared.goals.Constructor.{Constructor}
use Rattle.ap_defs.specs.declared.terms.Term.{Term}
use Rattle.ap_defs.specs.Answers.{answer_of}
use Rattle.ap_defs.specs.Goals.{query_of}
use Rattle.ap_defs.specs.Limits.{size_limit}
use Rattle.ap_defs.specs.Terms.{NominalTerm, term_of}
use Rattle.ap_defs.specs.Types.{NominalConstructor, NominalLocal, constructor_of, locals_of}
use Rattle.ap_property.specs.StatementsOnProperties.{HasTypedVars}
use Rattle.ap_clearing.specs.Clearing.{Clears, in_the_way, used_names}
use Rattle.ap_coverer.specs.Covering.{AreMatched}
use Rattle.ap_coverer.proofs.CovererLemmas.{covered_there, few_constructors, terms_ground, typed_there}
use Rattle.ap_coverer.proofs.covering.covering_at.Goals as goal

pub picker_of-requires : goal.picker_of-requires
picker_of-requires c =
    subst (λ (cs : List Constructor). length cs ≤ size_limit) (sym c.requires.constructors) (few_constructors c.args.p.now.program.now c.requires.restricted)

pub covering_of-requires-clause-typed : goal.covering_of-requires-clause-typed
covering_of-requires-clause-typed c =
    let p = c.args.p.now in
    let q = query_of c.query_of_problem-query.result.now in
    let a = answer_of c.in_ok-answer.answer in
    let same = ap (map constructor_of) (c.in_ok-picker.ensures.constructors ∙ c.requires.constructors) in
    subst (λ (cs : List NominalConstructor). HasTypedVars cs a) (sym same)
    (typed_there p c.requires.query c.requires.restricted (proved_of c.args.proved.now) c.requires.checks c.requires.closed c.requires.within
    q c.query_of_problem-query.ensures.query a (path_of_branch c.args.branch.now) c.in_ok-answer.ensures)

pub covering_of-requires-clause-closed : goal.covering_of-requires-clause-closed
covering_of-requires-clause-closed c =
    ap (λ (ts : List Term). list_all is_ground_term (map term_of ts)) c.items-terms.ensures ∙ terms_ground (proved_of c.args.proved.now) c.requires.closed

pub returns : goal.returns
returns c =
    let p = c.args.p.now in
    let q = query_of c.query_of_problem-query.result.now in
    let a = answer_of c.in_ok-answer.answer in
    let made = c.in_ok-covering.covering in
    let cs = ap (map constructor_of) (c.in_ok-picker.ensures.constructors ∙ c.requires.constructors) in
    let ts = ap (map term_of) c.items-terms.ensures in
    let ls = ap locals_of c.items.ensures in
    covered_there p c.requires.query c.requires.restricted (proved_of c.args.proved.now) c.requires.checks c.requires.closed c.requires.within
    q c.query_of_problem-query.ensures.query a (path_of_branch c.args.branch.now) c.requires.path c.in_ok-answer.ensures made.swaps.items made.grounding.items
    (subst (λ (l : List NominalLocal). Clears (used_names l a (proved_of c.args.proved.now).answer.binds) (in_the_way l a (proved_of c.args.proved.now).answer.binds) made.swaps.items) ls
    (subst (λ (bs : List NominalTerm). Clears (used_names (locals_of c.items.result.now) a bs) (in_the_way (locals_of c.items.result.now) a bs) made.swaps.items) ts c.in_ok-covering.ensures.swaps))
    (subst (λ (l : List NominalConstructor). AreMatched l a (ground_terms (proved_of c.args.proved.now).answer.binds) made.swaps.items made.grounding.items) cs
    (subst (λ (bs : List NominalTerm). AreMatched (map constructor_of c.in_ok-picker.picker.constructors.now) a (ground_terms bs) made.swaps.items made.grounding.items) ts c.in_ok-covering.ensures.grounding))
