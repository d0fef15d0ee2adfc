-- A display shows what is shown of the answer.
use Rattle.std.proofs.Common.{◌≡◌, zero, [], List, ap, ap₂, ◌∙◌}
use Rattle.std.specs.Prelude.{filter}
use Rattle.ap_defs.specs.declared.terms.Name.{Name}
use Rattle.ap_defs.specs.declared.terms.Var.{Var}
use Rattle.ap_defs.specs.Types.{NominalLocal}
use Rattle.ap_defs.specs.Answers.{NominalAnswer}
use Rattle.ap_defs.specs.Renaming.{local_names}
use Rattle.ap_defs.specs.Occurrences.{names_of_terms, vars_of_terms}
use Rattle.ap_defs.specs.Printing.{first_vars}
use Rattle.ap_defs.specs.Lines.{ShownBind, terms_of_binds, var_texts, shown_binds, shown_in, sort_conds, printed_before}
use Rattle.ap_answers.specs.declared.shown.Display.{Display}
use Rattle.ap_answers.specs.Bindings.{binds_of}
use Rattle.ap_answers.specs.Occurring.{more_names}
use Rattle.ap_answers.specs.Conditions.{occurs_in}
use Rattle.ap_answers.specs.Displays.{Shows}
use Rattle.ap_answers.specs.VarSets.{vars_of_set}
use Rattle.ap_answers.proofs.MembershipLemmas.{shown_filter}

pub shows : (locals : List NominalLocal) (a : NominalAnswer) (d : Display) → binds_of d.binds.items ≡ shown_binds (var_texts locals) a.binds
    → d.names.keys ≡ more_names (local_names zero locals) (names_of_terms (terms_of_binds (binds_of d.binds.items)))
    → vars_of_set d.vars ≡ first_vars [] (vars_of_terms (terms_of_binds (binds_of d.binds.items)))
    → d.conds.items ≡ sort_conds (printed_before d.names.keys (vars_of_set d.vars)) (filter (occurs_in d.names.keys (vars_of_set d.vars)) a.conds)
    → Shows locals d (shown_in locals a)
shows locals a d b n v c =
    let names = n ∙ ap (λ (ds : List ShownBind). more_names (local_names zero locals) (names_of_terms (terms_of_binds ds))) b in
    let vars = v ∙ ap (λ (ds : List ShownBind). first_vars [] (vars_of_terms (terms_of_binds ds))) b in
    record {
      binds = b;
      names = names;
      vars = vars;
      conds =
          c ∙ ap₂ (λ (ks : List Name) (xs : List Var). sort_conds (printed_before ks xs) (filter (occurs_in ks xs) a.conds)) names vars
          ∙ ap (sort_conds (printed_before (more_names (local_names zero locals) (names_of_terms (terms_of_binds (shown_binds (var_texts locals) a.binds)))) (first_vars [] (vars_of_terms (terms_of_binds (shown_binds (var_texts locals) a.binds))))))
          (shown_filter locals (terms_of_binds (shown_binds (var_texts locals) a.binds)) a.conds);
    }
