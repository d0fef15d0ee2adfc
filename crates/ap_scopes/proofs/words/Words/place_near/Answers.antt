use Rattle.std.proofs.Common.{◌≡◌, Some, sym, ap, ◌∙◌}
use Rattle.std.specs.Str.{bytes_eq}
use Rattle.std.specs.List.{slice_get}
use Rattle.ap_scopes.proofs.MarkLemmas.{found_there, read_there}
use Rattle.ap_scopes.proofs.Tables.{position-map}
use Rattle.ap_scopes.proofs.words.Words.place_near.Goals as goal

pub returns-then-is_word-clause-value : goal.returns-then-is_word-clause-value
returns-then-is_word-clause-value c =
    let keys = c.args.self.now.words.keys in
    let there : slice_get keys c.args.near ≡ Some c.in-Some.known.now =
    ap (λ ks. slice_get ks c.args.near) (sym c.as_slice-words.ensures.keys) ∙ read_there c.as_slice-words.result.now c.args.near _ c.in-Some.ensures.lookup.0 c.in-Some.ensures.lookup.1 in
    sym (found_there keys c.args.near c.in-Some.known.now c.args.word.now c.as_slice-words.ensures.unique there (sym c.is_word.ensures ∙ c.if-is_word.true))

pub returns-clause-value : goal.returns-clause-value
returns-clause-value c = c.get_index_of.ensures.index ∙ position-map (λ k. k.now) (bytes_eq c.args.word.now) c.args.self.now.words.keys
