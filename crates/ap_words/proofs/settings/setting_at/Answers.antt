use Rattle.std.proofs.Common.{◌∙◌, ap₂, sym, subst, arith, Some, None, List, ℕ, string_bytes}
use Rattle.std.proofs.lemmas.Str.Pattern.{split_parts}
use Rattle.clap.proofs.CutLemmas.{Lacks}
use Rattle.ap_words.specs.Words.{setting_of}
use Rattle.ap_words.proofs.Steps.{joined_at, two_at, last_at}
use Rattle.ap_words.proofs.settings.setting_at.Goals as goal

pub returns-in-Some-clause-first : goal.returns-in-Some-clause-first
returns-in-Some-clause-first c =
    let parts = split_parts 61 c.as_str-word.result.now (Some (c.in-Some.name, c.in-Some.value)) c.in-Some.ensures.cases (omega arith) in
    joined_at string_bytes c.args.options.now c.args.words.now c.args.at c.index-words-at.result c.requires c.index-words-at.is c.in-Some.name.now c.in-Some.value.now
    c.setting_named.result (sym c.as_str-word.ensures.value ∙ parts.0) parts.1 c.setting_named.ensures

pub returns-then-at-words-clause-first : goal.returns-then-at-words-clause-first
returns-then-at-words-clause-first c =
    let lacks = split_parts 61 c.as_str-word.result.now None c.in_default.ensures.cases (omega arith) in
    two_at string_bytes c.args.options.now c.args.words.now c.args.at c.index-words-at.result c.requires c.index-words-at.is c.index-words-at-then-at-words.result
    c.setting_named-then-at-words.result (subst (λ (t : List ℕ). Lacks 61 t) c.as_str-word.ensures.value lacks) c.if-at-words.true c.index-words-at-then-at-words.is
    (c.setting_named-then-at-words.ensures ∙ ap₂ (setting_of c.args.options.now) c.as_str-word.ensures.value c.as_str.ensures.value)

pub returns-else-at-words-clause-first : goal.returns-else-at-words-clause-first
returns-else-at-words-clause-first c =
    let lacks = split_parts 61 c.as_str-word.result.now None c.in_default.ensures.cases (omega arith) in
    last_at string_bytes c.args.options.now c.args.words.now c.args.at c.index-words-at.result c.requires c.index-words-at.is
    (subst (λ (t : List ℕ). Lacks 61 t) c.as_str-word.ensures.value lacks) (omega arith)
