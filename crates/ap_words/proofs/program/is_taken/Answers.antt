use Rattle.std.proofs.Common.{◌≡◌, ◌∙◌, true, map, string_bytes, subst, sym}
use Rattle.clap.specs.Words.{App, app_of, takes}
use Rattle.ap_words.proofs.program.is_taken.Goals as goal

-- where clap would take the words, only memory can be wanting
pub returns : goal.returns
returns c taken =
    let made : takes (app_of c.in_ok-program.field-0) (map string_bytes c.args.words.now) ≡ true =
    subst (λ (a : App). takes a (map string_bytes c.args.words.now) ≡ true) (sym c.in_ok-program.ensures) taken in
    absurd (c.in_default.not-OutOfMemory (c.kind.ensures ∙ c.in-Err.ensures.passes made))
