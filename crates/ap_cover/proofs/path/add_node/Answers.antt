use Rattle.std.proofs.Common.{suc, ◌+◌, ◌∷◌, ◌++◌, sym, ap, ap₂, ◌∙◌}
use Rattle.ap_defs.specs.declared.outcomes.ClauseUse.{ClauseUse}
use Rattle.ap_defs.specs.declared.outcomes.Derivation.{Derivation}
use Rattle.ap_defs.specs.Derivations.{derivation_of, path, derivation_weight}
use Rattle.ap_cover.specs.Waiting.{paths_waiting, weight_waiting}
use Rattle.ap_cover.proofs.PathLemmas.{both_lighter, both_wait, node_chosen, node_waits, one_lighter}
use Rattle.ap_cover.proofs.path.add_node.Goals as goal

pub returns-in-Atom-clause-weight : goal.returns-in-Atom-clause-weight
returns-in-Atom-clause-weight c =
    one_lighter c.choose_then.result _ (derivation_weight (derivation_of c.deref-in-Atom.result.now)) (weight_waiting c.args.waiting.now.items) (derivation_weight (derivation_of c.args.node.derivation.now))
    (ap (λ e. derivation_weight (derivation_of e)) c.in-Atom.is ∙ ap (λ e. suc (derivation_weight (derivation_of e))) (sym c.deref-in-Atom.ensures)) c.choose_then.ensures.weight

pub returns-in-Atom-clause-path : goal.returns-in-Atom-clause-path
returns-in-Atom-clause-path c =
    node_chosen c.choose_then.result _ c.args.choices.now.items (c.deref.result.now.clause ∷ path (derivation_of c.deref-in-Atom.result.now)) (paths_waiting c.args.waiting.now.items) (path (derivation_of c.args.node.derivation.now))
    (ap (λ e. path (derivation_of e)) c.in-Atom.is
    ∙ ap₂ (λ (u : ClauseUse) (e : Derivation). u.clause ∷ path (derivation_of e)) (sym c.deref.ensures) (sym c.deref-in-Atom.ensures)) c.choose_then.ensures.path

pub returns-in-Left-clause-weight : goal.returns-in-Left-clause-weight
returns-in-Left-clause-weight c =
    one_lighter c.choose_then-in-Left.result _ (derivation_weight (derivation_of c.deref-in-Left.result.now)) (weight_waiting c.args.waiting.now.items) (derivation_weight (derivation_of c.args.node.derivation.now))
    (ap (λ e. derivation_weight (derivation_of e)) c.in-Left.is ∙ ap (λ e. suc (derivation_weight (derivation_of e))) (sym c.deref-in-Left.ensures)) c.choose_then-in-Left.ensures.weight

pub returns-in-Left-clause-path : goal.returns-in-Left-clause-path
returns-in-Left-clause-path c =
    node_chosen c.choose_then-in-Left.result _ c.args.choices.now.items (1 ∷ path (derivation_of c.deref-in-Left.result.now)) (paths_waiting c.args.waiting.now.items) (path (derivation_of c.args.node.derivation.now))
    (ap (λ e. path (derivation_of e)) c.in-Left.is ∙ ap (λ e. 1 ∷ path (derivation_of e)) (sym c.deref-in-Left.ensures)) c.choose_then-in-Left.ensures.path

pub returns-in-Right-clause-weight : goal.returns-in-Right-clause-weight
returns-in-Right-clause-weight c =
    one_lighter c.choose_then-in-Right.result _ (derivation_weight (derivation_of c.deref-in-Right.result.now)) (weight_waiting c.args.waiting.now.items) (derivation_weight (derivation_of c.args.node.derivation.now))
    (ap (λ e. derivation_weight (derivation_of e)) c.in-Right.is ∙ ap (λ e. suc (derivation_weight (derivation_of e))) (sym c.deref-in-Right.ensures)) c.choose_then-in-Right.ensures.weight

pub returns-in-Right-clause-path : goal.returns-in-Right-clause-path
returns-in-Right-clause-path c =
    node_chosen c.choose_then-in-Right.result _ c.args.choices.now.items (2 ∷ path (derivation_of c.deref-in-Right.result.now)) (paths_waiting c.args.waiting.now.items) (path (derivation_of c.args.node.derivation.now))
    (ap (λ e. path (derivation_of e)) c.in-Right.is ∙ ap (λ e. 2 ∷ path (derivation_of e)) (sym c.deref-in-Right.ensures)) c.choose_then-in-Right.ensures.path

pub returns-in-Exists-clause-weight : goal.returns-in-Exists-clause-weight
returns-in-Exists-clause-weight c =
    one_lighter c.wait_for.result _ (derivation_weight (derivation_of c.deref-in-Exists.result.now)) (weight_waiting c.args.waiting.now.items) (derivation_weight (derivation_of c.args.node.derivation.now))
    (ap (λ e. derivation_weight (derivation_of e)) c.in-Exists.is ∙ ap (λ e. suc (derivation_weight (derivation_of e))) (sym c.deref-in-Exists.ensures)) c.wait_for.ensures.weight

pub returns-in-Exists-clause-path : goal.returns-in-Exists-clause-path
returns-in-Exists-clause-path c =
    node_waits c.wait_for.result c.args.choices.now.items _ (path (derivation_of c.deref-in-Exists.result.now)) (paths_waiting c.args.waiting.now.items) (path (derivation_of c.args.node.derivation.now))
    (ap (λ e. path (derivation_of e)) c.in-Exists.is ∙ ap (λ e. path (derivation_of e)) (sym c.deref-in-Exists.ensures)) c.wait_for.ensures.path

pub returns-in-New-clause-weight : goal.returns-in-New-clause-weight
returns-in-New-clause-weight c =
    one_lighter c.wait_for-in-New.result _ (derivation_weight (derivation_of c.deref-in-New.result.now)) (weight_waiting c.args.waiting.now.items) (derivation_weight (derivation_of c.args.node.derivation.now))
    (ap (λ e. derivation_weight (derivation_of e)) c.in-New.is ∙ ap (λ e. suc (derivation_weight (derivation_of e))) (sym c.deref-in-New.ensures)) c.wait_for-in-New.ensures.weight

pub returns-in-New-clause-path : goal.returns-in-New-clause-path
returns-in-New-clause-path c =
    node_waits c.wait_for-in-New.result c.args.choices.now.items _ (path (derivation_of c.deref-in-New.result.now)) (paths_waiting c.args.waiting.now.items) (path (derivation_of c.args.node.derivation.now))
    (ap (λ e. path (derivation_of e)) c.in-New.is ∙ ap (λ e. path (derivation_of e)) (sym c.deref-in-New.ensures)) c.wait_for-in-New.ensures.path

pub returns-in-Both-clause-weight : goal.returns-in-Both-clause-weight
returns-in-Both-clause-weight c =
    both_lighter c.wait_for_both.result _ (derivation_weight (derivation_of c.deref-in-Both.result.now)) (derivation_weight (derivation_of c.deref-in-Both-2.result.now)) (weight_waiting c.args.waiting.now.items)
    (derivation_weight (derivation_of c.args.node.derivation.now))
    (ap (λ e. derivation_weight (derivation_of e)) c.in-Both.is
    ∙ ap₂ (λ d e. suc (derivation_weight (derivation_of d) + derivation_weight (derivation_of d) + derivation_weight (derivation_of e))) (sym c.deref-in-Both.ensures) (sym c.deref-in-Both-2.ensures))
    c.wait_for_both.ensures.weight

pub returns-in-Both-clause-path : goal.returns-in-Both-clause-path
returns-in-Both-clause-path c =
    both_wait c.wait_for_both.result c.args.choices.now.items _ (path (derivation_of c.deref-in-Both.result.now)) (path (derivation_of c.deref-in-Both-2.result.now))
    (paths_waiting c.args.waiting.now.items) (path (derivation_of c.args.node.derivation.now))
    (ap (λ e. path (derivation_of e)) c.in-Both.is
    ∙ ap₂ (λ d e. path (derivation_of d) ++ path (derivation_of e)) (sym c.deref-in-Both.ensures) (sym c.deref-in-Both-2.ensures))
    c.wait_for_both.ensures.path
