use Rattle.std.proofs.Common.{◌≡◌, [], map, sym, ap, ◌∙◌, subst}
use Rattle.std.proofs.lemmas.Result.{IfOk-weaker}
use Rattle.ap_defs.specs.Goals as goals
use Rattle.ap_defs.specs.Goals.{program_in}
use Rattle.ap_defs.specs.Renaming.{local_names, local_vars, rename_term}
use Rattle.ap_defs.specs.Resolution.{next_number}
use Rattle.ap_defs.specs.Terms.{susp, term_of}
use Rattle.ap_defs.specs.Types.{locals_of}
use Rattle.ap_store.proofs.StoreLemmas.{next_counts}
use Rattle.ap_machine.specs.Machines.{position_of}
use Rattle.ap_machine.specs.Positions.{with_goal}
use Rattle.ap_backchain.proofs.ChooseLemmas.{fit_here}
use Rattle.ap_bundle.specs.Nodes.{atom}
use Rattle.ap_derive.specs.Nodes.{DerivationNode, selected_node}
use Rattle.ap_derive.specs.Solved.{Selects}
use Rattle.ap_derive.proofs.ChoiceLemmas.{atom_chooses, enters, low, selected_to, within}
use Rattle.ap_derive.proofs.selecting.select_clause.Goals as goal

pub next_choice-choice-requires : goal.next_choice-choice-requires
next_choice-choice-requires c =
    let h = atom_chooses (program_in c.args.clauses.now) c.args.path.now c.args.pred (map (rename_term c.args.frame.base) (map term_of c.args.args.now)) (position_of c.args.machine.now) c.args.frame.depth c.requires.solved in
    (h.choice, h.rest, h.next)

pub overflow_sub-clause : goal.overflow_sub-clause
overflow_sub-clause c =
    low (program_in c.args.clauses.now) c.args.path.now c.args.frame.depth c.args.pred (map (rename_term c.args.frame.base) (map term_of c.args.args.now)) (position_of c.args.machine.now) c.requires.solved
    c.clauses_at-candidates.result.now c.clauses_at-candidates.ensures.clauses c.next_choice-choice.result c.next_choice-choice.ensures.0 c.next_choice-choice.ensures.1

pub bounds-candidates-choice : goal.bounds-candidates-choice
bounds-candidates-choice c =
    within (program_in c.args.clauses.now) c.args.path.now c.args.frame.depth c.args.pred (map (rename_term c.args.frame.base) (map term_of c.args.args.now)) (position_of c.args.machine.now) c.requires.solved
    c.clauses_at-candidates.result.now c.clauses_at-candidates.ensures.clauses c.next_choice-choice.result c.next_choice-choice.ensures.0 c.next_choice-choice.ensures.1

pub enter_clause-requires-clause-clause : goal.enter_clause-requires-clause-clause
enter_clause-requires-clause-clause c =
    let k = c.next_choice-choice.result in
    let there =
    within (program_in c.args.clauses.now) c.args.path.now c.args.frame.depth c.args.pred (map (rename_term c.args.frame.base) (map term_of c.args.args.now)) (position_of c.args.machine.now) c.requires.solved
    c.clauses_at-candidates.result.now c.clauses_at-candidates.ensures.clauses k c.next_choice-choice.ensures.0 c.next_choice-choice.ensures.1 in
    fit_here c.clauses_at-candidates.result.now _ c.index-candidates-choice.result there c.index-candidates-choice.is c.clauses_at-candidates.ensures.below

pub unreachable-requires : goal.unreachable-requires
unreachable-requires c =
    enters (program_in c.args.clauses.now) c.args.path.now c.args.frame.depth c.args.pred (map (rename_term c.args.frame.base) (map term_of c.args.args.now)) (position_of c.args.machine.now) c.requires.solved
    c.clauses_at-candidates.result.now c.clauses_at-candidates.ensures.clauses c.next_choice-choice.result c.next_choice-choice.ensures.0 c.next_choice-choice.ensures.1
    c.index-candidates-choice.result c.index-candidates-choice.is (rw c.if-branch.false at c.in_ok-enter_clause.ensures.entered)

pub returns : goal.returns
returns c =
    let program = program_in c.args.clauses.now in let path = c.args.path.now in let d = c.args.frame.depth in
    let ts = map (rename_term c.args.frame.base) (map term_of c.args.args.now) in let p = position_of c.args.machine.now in
    let k = c.next_choice-choice.result in let base = c.next-base.result in let locals = c.items.result.now in
    let n = next_number p.state in
    let same : base ≡ n = c.next-base.ensures ∙ sym (next_counts c.args.machine.now.store) in
    let r = position_of c.enter_clause.new.machine in
    let given = atom k (local_names base (locals_of locals)) (map (susp []) (local_vars base (locals_of locals))) in
    let to =
    selected_to program path d c.args.pred ts p c.requires.solved c.clauses_at-candidates.result.now c.clauses_at-candidates.ensures.clauses k c.next_choice-choice.ensures.0 c.next_choice-choice.ensures.1
    c.index-candidates-choice.result c.index-candidates-choice.is r (rw c.if-branch.true at c.in_ok-enter_clause.ensures.entered) in
    let node =
    ap (λ j. atom k (local_names j (locals_of locals)) (map (susp []) (local_vars j (locals_of locals)))) same
    ∙ ap (λ ls. atom k (local_names n (locals_of ls)) (map (susp []) (local_vars n (locals_of ls)))) c.items.ensures in
    IfOk-weaker c.selected_atom.result (λ m. selected_node m ≡ given) (λ m. Selects program path (with_goal d (goals.atom c.args.pred ts) p) (selected_node m) r)
    (λ m h. subst (λ (x : DerivationNode). Selects program path (with_goal d (goals.atom c.args.pred ts) p) x r) (sym (h ∙ node)) to) c.selected_atom.ensures
