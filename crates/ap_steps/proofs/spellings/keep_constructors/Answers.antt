use Rattle.std.proofs.Common.{List, map, sym, ap, ◌∙◌}
use Rattle.ap_defs.specs.declared.goals.Constructor.{Constructor}
use Rattle.ap_defs.specs.Types.{constructor_of}
use Rattle.ap_spelling.specs.Spelt.{last_of}
use Rattle.ap_spelling.specs.Words.{kept_words, numbered_next}
use Rattle.ap_steps.specs.Spelling.{text_of_constructor}
use Rattle.ap_steps.proofs.spellings.keep_constructors.Goals as goal

pub constructors-preserved : goal.constructors-preserved
constructors-preserved c =
    ap (kept_words (map text_of_constructor (map constructor_of c.in-Some.others.now))) (c.in_ok-set_last.ensures ∙ ap (λ w. numbered_next w 0 (last_of c.constructors.last)) c.as_str.ensures)
    ∙ sym (ap (λ (cs : List Constructor). kept_words (map text_of_constructor (map constructor_of cs)) (last_of c.constructors.last)) c.in-Some.ensures.cases.0)
    ∙ c.constructors.invariant
