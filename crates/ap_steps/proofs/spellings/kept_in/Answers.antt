use Rattle.std.proofs.Common.{◌≡◌, List, [], ◌∷◌, map, ap, ap₂, ◌∙◌}
use Rattle.std.specs.Prelude.{None}
use mathlib.Core.Path.{fun_ext}
use Rattle.ap_answers.specs.Locals.{lent_texts}
use Rattle.ap_defs.specs.declared.goals.Constructor.{Constructor}
use Rattle.ap_defs.specs.Lines.{var_texts}
use Rattle.ap_defs.specs.Types.{constructor_of, locals_of}
use Rattle.ap_spelling.specs.Spelt.{last_of}
use Rattle.ap_spelling.specs.Words.{Numbered, kept_words, numbered_next}
use Rattle.ap_steps.specs.Spelling.{text_of_constructor}
use Rattle.ap_steps.proofs.spellings.kept_in.Goals as goal

pub returns : goal.returns
returns c =
    let ls = locals_of c.args.locals.now in
    let none : Numbered = λ w. None in
    let none_yet : last_of c.new-last.result ≡ none = fun_ext (λ w. c.new-last.ensures w) in
    let vars : last_of c.keep_each.new.last ≡ kept_words (var_texts ls) none =
    c.in_ok-keep_each.ensures ∙ ap₂ kept_words (ap lent_texts c.as_slice.ensures.value ∙ c.in_ok-words.ensures) none_yet in
    c.in_ok-set_last.ensures
    ∙ ap (numbered_next (95 ∷ []) 0)
    (c.in_ok-keep_constructors.ensures
    ∙ ap₂ (λ (cs : List Constructor) (last : Numbered). kept_words (map text_of_constructor (map constructor_of cs)) last) c.items.ensures vars)
