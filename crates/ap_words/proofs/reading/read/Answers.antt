use Rattle.std.proofs.Common.{◌≡◌, ◌∙◌, sym, true≢false, Some, map, string_bytes}
use Rattle.ap_words.specs.Words.{asked_of}
use Rattle.ap_words.proofs.Taken.{accepted_taken}
use Rattle.ap_words.proofs.reading.read.Goals as goal

pub returns-else-branch : goal.returns-else-branch
returns-else-branch c =
    let asked : asked_of (map string_bytes c.args.words.now) ≡ Some c.in-Some.asked = sym c.in_ok-asked.ensures ∙ c.in-Some.is in
    absurd (true≢false (sym (c.in_ok-is_taken.ensures (accepted_taken (map string_bytes c.args.words.now) c.in-Some.asked asked)) ∙ c.if-branch.false))
