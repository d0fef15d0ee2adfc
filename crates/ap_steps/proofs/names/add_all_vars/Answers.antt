use Rattle.std.proofs.Common.{◌≡◌, ◌+◌, ◌<◌, ◌≤◌, List, ◌∷◌, drop, length, map, suc, sym, ap, ◌∙◌, add-one, drop-cons}
use Rattle.std.specs.List.{flat_map}
use Rattle.std.proofs.lemmas.List.{drop_all}
use Rattle.std.proofs.lemmas.List.Concat.{flat_map-cons}
use denote.Ref.{Bor}
use Rattle.ap_defs.specs.declared.outcomes.Derivation as code
use Rattle.ap_defs.specs.declared.terms.Cond.{Cond}
use Rattle.ap_defs.specs.declared.terms.Var.{Var}
use Rattle.ap_defs.specs.Derivations.{derivation_of}
use Rattle.ap_defs.specs.Occurrences.{vars_of_terms}
use Rattle.ap_defs.specs.Terms.{term_of}
use Rattle.ap_answers.specs.Occurring.{more_vars}
use Rattle.ap_steps.specs.Names.{derivations_of, own_vars, subderivations}
use Rattle.ap_steps.proofs.NameLemmas.{all_vars, vars_done, vars_next}
use Rattle.ap_steps.proofs.names.add_all_vars.Goals as goal

abbrev own_of : List (Bor code.Derivation) → List Var
own_of ds = flat_map own_vars (derivations_of ds)

pub loop-i-preserved : goal.loop-i-preserved
loop-i-preserved c =
    let nodes = c.args.nodes.now in
    let i = c.loop-i.i in
    let x = c.index-nodes-i.result in
    let within : i < length nodes = c.loop-i-test.true in
    let front : drop i nodes ≡ x ∷ drop (i + 1) nodes =
    drop-cons nodes i x within ∙ ap (λ (y : Bor code.Derivation). y ∷ drop (suc i) nodes) (sym c.index-nodes-i.is) ∙ ap (λ n. x ∷ drop n nodes) (sym (add-one i)) in
    vars_next own_of (λ (d : Bor code.Derivation). own_vars (derivation_of d.now)) (drop i nodes) (drop (i + 1) nodes) x
    c.loop-i.vars.keys c.add_own_vars.new.vars.keys _ (λ y ys. flat_map-cons own_vars (derivation_of y.now) (derivations_of ys)) front
    c.in_ok-add_own_vars.ensures c.loop-i.invariant

pub returns : goal.returns
returns c = λ d same.
    let nodes = c.args.nodes.now in
    let past : length nodes ≤ c.loop-i.i = c.loop-i-test.false in
    let done : c.loop-i.vars.keys ≡ more_vars c.add_vars_in.new.vars.keys (own_of nodes) =
    vars_done c.loop-i.vars.keys _ (own_of (drop c.loop-i.i nodes)) (ap own_of (drop_all c.loop-i.i nodes past)) c.loop-i.invariant in
    let first : c.add_vars_of.new.vars.keys ≡ more_vars c.args.vars.now.keys (vars_of_terms (map term_of c.args.answer.now.binds)) =
    c.in_ok-add_vars_of.ensures ∙ ap (λ ts. more_vars c.args.vars.now.keys (vars_of_terms (map term_of ts))) c.items.ensures in
    let second : c.add_vars_in.new.vars.keys ≡ more_vars c.add_vars_of.new.vars.keys (map (λ (x : Cond). x.var) c.args.answer.now.conds) =
    c.in_ok-add_vars_in.ensures ∙ ap (λ (cs : List Cond). more_vars c.add_vars_of.new.vars.keys (map (λ (x : Cond). x.var) cs)) c.items-2.ensures in
    all_vars c.args.vars.now.keys c.add_vars_of.new.vars.keys c.add_vars_in.new.vars.keys c.loop-i.vars.keys (vars_of_terms (map term_of c.args.answer.now.binds))
    (map (λ (x : Cond). x.var) c.args.answer.now.conds) (flat_map own_vars (subderivations d)) first second (done ∙ ap (λ ds. more_vars c.add_vars_in.new.vars.keys (flat_map own_vars ds)) same)
