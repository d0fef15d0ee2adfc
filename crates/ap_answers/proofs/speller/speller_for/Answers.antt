use Rattle.std.proofs.Common.{◌≡◌, ◌-◌, ◌++◌, ℕ, List, length, codes, ap, arith}
use Rattle.ap_defs.specs.Lines.{name_texts}
use Rattle.ap_defs.specs.Types.{locals_of}
use Rattle.ap_defs.specs.Goals.{program_of}
use Rattle.ap_answers.specs.Spelled.{texts_of}
use Rattle.ap_answers.specs.VarSets.{vars_of_set}
use Rattle.ap_answers.specs.Words.{numbered_words}
use Rattle.ap_answers.proofs.SpellingLemmas.{spells}
use Rattle.ap_answers.proofs.speller.speller_for.Goals as goal

pub returns : goal.returns
returns c = λ s k v.
    let shared = c.in_ok-shared.shared.items in
    let made = numbered_words (codes "n") c.in_ok-made.made.items in
    rw c.items-constructors.ensures
    (spells (program_of c.args.program.now) (locals_of c.args.locals.now) s c.args.names.now.keys (vars_of_set c.args.vars.now) (shared ++ made) made
    (texts_of c.in_ok-var_texts.var_texts)
    k v (ap (λ (ws : List (List ℕ)). ws ++ made) c.in_ok-shared.ensures)
    (let as_many : length shared ≡ length (name_texts (locals_of c.args.locals.now)) = ap length c.in_ok-shared.ensures in
    let count : c.saturating_sub-others.result ≡ length c.args.names.now.keys - length (name_texts (locals_of c.args.locals.now)) = omega (arith, c.in_ok-shared.shared.ok.0) in
    rw (c.items-words.ensures, count) at c.in_ok-made.ensures)
    (rw (c.items-words.ensures, c.len-3.ensures) at c.in_ok-var_texts.ensures))
