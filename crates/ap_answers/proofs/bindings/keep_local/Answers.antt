use Rattle.std.proofs.Common.{◌≡◌, [], ◌++◌, List, map, sym, subst}
use Rattle.std.proofs.lemmas.List.{nil_from_length}
use Rattle.ap_defs.specs.Lines.{shown_binds}
use Rattle.ap_defs.specs.Terms.{term_of}
use Rattle.ap_defs.specs.Types.{local_of}
use Rattle.ap_defs.specs.declared.terms.Term.{Term}
use Rattle.ap_answers.specs.Bindings.{binds_of, with_text}
use Rattle.ap_answers.proofs.BindingLemmas.{none_shown}
use Rattle.ap_answers.proofs.bindings.keep_local.Goals as goal

pub returns-in-None : goal.returns-in-None
returns-in-None c = λ ws.
    let l = local_of c.args.local.now in
    let bs = binds_of c.args.binds.now.items in
    let none : c.args.terms.now ≡ [] = nil_from_length c.args.terms.now c.in-None.ensures.cases in
    subst (λ (ts : List Term). bs ++ shown_binds ws (map term_of ts) ≡ bs ++ shown_binds (with_text l ws) (map term_of ts)) (sym none) (none_shown l ws bs)
