use Rattle.std.proofs.Common.{◌≡◌, ◌++◌, [], ◌∷◌, List, ℕ, length, map, refl, rules, sym, ap, ◌∙◌}
use Rattle.std.proofs.lemmas.List.{nil_from_length}
use Rattle.std.specs.Prelude.{codes}
use Rattle.ap_defs.specs.Answers.{NominalAnswer, answer_of}
use Rattle.ap_defs.specs.Freshness.{Conds}
use Rattle.ap_defs.specs.Goals.{NominalProgram, program_of}
use Rattle.ap_defs.specs.Lines.{ShownBind, answer_text, shown_binds, shown_in, shown_text, spelling_for, var_texts}
use Rattle.ap_defs.specs.Printing.{Spelling}
use Rattle.ap_defs.specs.Terms.{term_of}
use Rattle.ap_defs.specs.Types.{NominalLocal, locals_of}
use Rattle.ap_defs.specs.declared.terms.Term.{Term}
use Rattle.ap_answers.proofs.answers.write_answer.Goals as goal

none_shown : (ws : List (List ℕ)) → shown_binds ws [] ≡ []
none_shown [] = refl
none_shown (w ∷ ws) = refl

shown_yes : (by : Spelling) (bs : List ShownBind) (conds : Conds) → bs ≡ [] → codes "yes" ≡ shown_text by bs conds
shown_yes by [] conds e = refl
shown_yes by (b ∷ bs) conds e = cc

yes_text : (program : NominalProgram) (locals : List NominalLocal) (a : NominalAnswer) → a.binds ≡ [] → codes "yes" ≡ answer_text program locals a
yes_text program locals a e =
    let s = shown_in locals a in
    shown_yes (spelling_for program locals s) s.binds s.conds (ap (shown_binds (var_texts locals)) e ∙ none_shown (var_texts locals))

pub returns-then-is_empty : goal.returns-then-is_empty
returns-then-is_empty c =
    let n : length c.items.result.now ≡ 0 = search rules in
    let e : c.items.result.now ≡ [] = nil_from_length c.items.result.now n in
    let f : map term_of c.items.result.now ≡ [] = ap (λ (ts : List Term). map term_of ts) e in
    let text = yes_text (program_of c.args.program.now) (locals_of c.args.locals.now) (answer_of c.args.answer.now) (ap (λ (ts : List Term). map term_of ts) (sym c.items.ensures) ∙ f) in
    c.in_ok-extend_from_slice.ensures.items ∙ ap (λ bs. c.args.out.now.items ++ bs) text
