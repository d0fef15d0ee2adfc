use Rattle.std.proofs.Common.{◌≡◌, ◌+◌, map, set, refl, ap, ◌∙◌}
use Rattle.ap_scopes.specs.Marks.{is_table}
use Rattle.ap_scopes.specs.Words.{with_word}
use Rattle.ap_scopes.proofs.MarkLemmas.{table_put}
use Rattle.ap_scopes.proofs.Tables.{insert-map}
use Rattle.ap_scopes.proofs.words.Words.put.Goals as goal

pub invariant_of-self-2 : goal.invariant_of-self-2
invariant_of-self-2 c =
    let keys = c.args.self.now.words.keys in
    let latest = c.args.self.now.latest.items in
    let word = c.args.word.now in
    let added : map (λ k. k.now) c.insert.new.self.keys ≡ with_word (map (λ k. k.now) keys) word = ap (map (λ k. k.now)) c.in_ok-insert.ensures.keys ∙ insert-map keys c.args.word in
    record {
      marked = ap (is_table (set latest c.mark.result (c.len-place.result + 1))) added
          ∙ table_put latest _ (map (λ k. k.now) keys) word c.mark.result c.len-place.result c.args.self.now.marked c.requires c.mark.ensures.value c.mark.ensures.below refl;
    }

pub returns : goal.returns
returns c = ap (map (λ k. k.now)) c.in_ok-insert.ensures.keys ∙ insert-map c.args.self.now.words.keys c.args.word
