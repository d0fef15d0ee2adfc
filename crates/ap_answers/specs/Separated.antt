-- Bindings and conditions behind the first, each behind a comma.
use Rattle.std.specs.Prelude.{ℕ, List, [], ◌∷◌, ◌++◌, codes}
use Rattle.ap_defs.specs.declared.terms.Cond.{Cond}
use Rattle.ap_defs.specs.Printing.{Spelling}
use Rattle.ap_defs.specs.Lines.{ShownBind, bind_text, cond_text}

abbrev pub further_binds : Spelling → List ShownBind → List ℕ
further_binds by [] = []
further_binds by (b ∷ bs) = codes ", " ++ (bind_text by b ++ further_binds by bs)

abbrev pub further_conds : Spelling → List Cond → List ℕ
further_conds by [] = []
further_conds by (c ∷ cs) = codes ", " ++ (cond_text by c ++ further_conds by cs)
