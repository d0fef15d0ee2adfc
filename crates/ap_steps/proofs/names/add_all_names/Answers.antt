use Rattle.std.proofs.Common.{◌≡◌, ◌+◌, ◌<◌, ◌≤◌, List, ◌∷◌, drop, length, map, suc, sym, ap, ◌∙◌, add-one, drop-cons}
use Rattle.std.specs.List.{flat_map}
use Rattle.std.proofs.lemmas.List.{drop_all}
use Rattle.std.proofs.lemmas.List.Concat.{flat_map-cons}
use denote.Ref.{Bor}
use Rattle.ap_defs.specs.declared.outcomes.Derivation as code
use Rattle.ap_defs.specs.declared.terms.Cond.{Cond}
use Rattle.ap_defs.specs.declared.terms.Name.{Name}
use Rattle.ap_defs.specs.Derivations.{derivation_of}
use Rattle.ap_defs.specs.Occurrences.{names_of_terms}
use Rattle.ap_defs.specs.Terms.{term_of}
use Rattle.ap_answers.specs.Occurring.{more_names}
use Rattle.ap_steps.specs.Names.{derivations_of, own_names, subderivations}
use Rattle.ap_steps.proofs.NameLemmas.{all_names, names_done, names_next}
use Rattle.ap_steps.proofs.names.add_all_names.Goals as goal

abbrev own_of : List (Bor code.Derivation) → List Name
own_of ds = flat_map own_names (derivations_of ds)

pub loop-i-preserved : goal.loop-i-preserved
loop-i-preserved c =
    let nodes = c.args.nodes.now in
    let i = c.loop-i.i in
    let x = c.index-nodes-i.result in
    let within : i < length nodes = c.loop-i-test.true in
    let front : drop i nodes ≡ x ∷ drop (i + 1) nodes =
    drop-cons nodes i x within ∙ ap (λ (y : Bor code.Derivation). y ∷ drop (suc i) nodes) (sym c.index-nodes-i.is) ∙ ap (λ n. x ∷ drop n nodes) (sym (add-one i)) in
    names_next own_of (λ (d : Bor code.Derivation). own_names (derivation_of d.now)) (drop i nodes) (drop (i + 1) nodes) x
    c.loop-i.names.keys c.add_own_names.new.names.keys _ (λ y ys. flat_map-cons own_names (derivation_of y.now) (derivations_of ys)) front
    c.in_ok-add_own_names.ensures c.loop-i.invariant

pub returns : goal.returns
returns c = λ d same.
    let nodes = c.args.nodes.now in
    let past : length nodes ≤ c.loop-i.i = c.loop-i-test.false in
    let done : c.loop-i.names.keys ≡ more_names c.add_names_in.new.names.keys (own_of nodes) =
    names_done c.loop-i.names.keys _ (own_of (drop c.loop-i.i nodes)) (ap own_of (drop_all c.loop-i.i nodes past)) c.loop-i.invariant in
    let first : c.add_names_of.new.names.keys ≡ more_names c.args.names.now.keys (names_of_terms (map term_of c.args.answer.now.binds)) =
    c.in_ok-add_names_of.ensures ∙ ap (λ ts. more_names c.args.names.now.keys (names_of_terms (map term_of ts))) c.items.ensures in
    let second : c.add_names_in.new.names.keys ≡ more_names c.add_names_of.new.names.keys (map (λ (x : Cond). x.name) c.args.answer.now.conds) =
    c.in_ok-add_names_in.ensures ∙ ap (λ (cs : List Cond). more_names c.add_names_of.new.names.keys (map (λ (x : Cond). x.name) cs)) c.items-2.ensures in
    all_names c.args.names.now.keys c.add_names_of.new.names.keys c.add_names_in.new.names.keys c.loop-i.names.keys (names_of_terms (map term_of c.args.answer.now.binds))
    (map (λ (x : Cond). x.name) c.args.answer.now.conds) (flat_map own_names (subderivations d)) first second (done ∙ ap (λ ds. more_names c.add_names_in.new.names.keys (flat_map own_names ds)) same)
