use Rattle.std.proofs.Common.{◌∙◌, ◌++◌, ap, sym, drop, map, List, Option, string_bytes}
use Rattle.std.specs.Prelude.{option_map}
use Rattle.ap_words.specs.declared.settings.Setting.{Setting}
use Rattle.ap_words.specs.Words.{both_settings, settings_of}
use Rattle.ap_words.proofs.Steps.{one_more}
use Rattle.ap_words.proofs.settings.read_settings.Goals as goal

pub loop-at-preserved : goal.loop-at-preserved
loop-at-preserved c =
    let rest = settings_of c.args.options.now (drop c.setting_at-first.result.1 (map string_bytes c.args.words.now)) in
    record {
      in_range = c.setting_at-first.ensures.further.1;
      read = c.loop-at.invariant.read
          ∙ ap (option_map (λ (ss : List Setting). c.loop-at.found.items ++ ss))
          (c.setting_at-first.ensures.first ∙ ap (λ (o : Option Setting). both_settings o rest) c.in-Some.is)
          ∙ one_more c.loop-at.found.items c.in-Some.setting rest
          ∙ ap (λ (xs : List Setting). option_map (λ (ss : List Setting). xs ++ ss) rest) (sym c.in_ok-push.ensures.items);
    }
