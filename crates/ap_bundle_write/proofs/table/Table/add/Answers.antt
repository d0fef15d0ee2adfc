use Rattle.std.proofs.Common.{◌≡◌, [], ◌∷◌, ◌∙◌, map, true, false, not, ap, refl, sym, Bool}
use Rattle.std.proofs.lemmas.List.{map-append}
use Rattle.std.specs.List.{list_any}
use Rattle.ap_bundle.specs.Tables.{same}
use Rattle.ap_shared.specs.Shared.{shared_at}
use Rattle.ap_shared.specs.SharedPlaces.{shared_term}
use Rattle.ap_shared.specs.SharedViews.{shared_terms}
use Rattle.ap_bundle_write.specs.Tables.{held_terms}
use Rattle.ap_bundle_write.proofs.WordLemmas.{word_decides}
use Rattle.ap_bundle_write.proofs.EntryLemmas.{found_words, place_words, lines_added, parts_added}
use Rattle.ap_bundle_write.proofs.table.Table.add.Goals as goal

-- the answer of the set says whether the term is new
absent : (a b : Bool) → b ≡ not a → b ≡ true → a ≡ false
absent true b e h = cc
absent false b e h = refl

present : (a b : Bool) → b ≡ not a → b ≡ false → a ≡ true
present true b e h = refl
present false b e h = cc

pub returns-in_ok-push-clause-table : goal.returns-in_ok-push-clause-table
returns-in_ok-push-clause-table c =
    let table = held_terms c.args.self.now in
    let t = shared_at (shared_terms c.args.terms.now) c.args.line in
    let found = found_words word_decides (λ v. v.items) table t c.args.words.items c.requires.parts c.requires.words c.args.self.now.lines.keys table c.requires.table.lines c.requires.table.parts in
    let new = absent _ c.in_ok-number.is_new c.in_ok-number.ensures.added c.if-is_new.true in
    let keys = rw new at c.in_ok-number.ensures.keys in
    let held_now = ap (map shared_term) c.in_ok-push.ensures.items ∙ map-append shared_term c.args.self.now.terms.items (_ ∷ []) in
    record {
      lines = rw (keys, held_now) (lines_added (λ v. v.items) table t c.requires.parts c.args.self.now.lines.keys c.args.words c.requires.words c.requires.table.lines c.requires.table.parts);
      parts = rw held_now (parts_added table t c.requires.parts c.requires.table.parts);
    }

pub returns-in_ok-push-clause-held : goal.returns-in_ok-push-clause-held
returns-in_ok-push-clause-held c =
    let table = held_terms c.args.self.now in
    let t = shared_at (shared_terms c.args.terms.now) c.args.line in
    let found = found_words word_decides (λ v. v.items) table t c.args.words.items c.requires.parts c.requires.words c.args.self.now.lines.keys table c.requires.table.lines c.requires.table.parts in
    let new : list_any (same t) table ≡ false = sym found ∙ absent _ c.in_ok-number.is_new c.in_ok-number.ensures.added c.if-is_new.true in
    rw new (ap (map shared_term) c.in_ok-push.ensures.items ∙ map-append shared_term c.args.self.now.terms.items (_ ∷ []))

pub returns-in_ok-push-clause-number : goal.returns-in_ok-push-clause-number
returns-in_ok-push-clause-number c =
    let table = held_terms c.args.self.now in
    let t = shared_at (shared_terms c.args.terms.now) c.args.line in
    c.in_ok-number.ensures.index ∙ place_words word_decides (λ v. v.items) table t c.args.words.items c.requires.parts c.requires.words c.args.self.now.lines.keys table c.requires.table.lines c.requires.table.parts

pub returns-else-is_new-clause-held : goal.returns-else-is_new-clause-held
returns-else-is_new-clause-held c =
    let table = held_terms c.args.self.now in
    let t = shared_at (shared_terms c.args.terms.now) c.args.line in
    let found = found_words word_decides (λ v. v.items) table t c.args.words.items c.requires.parts c.requires.words c.args.self.now.lines.keys table c.requires.table.lines c.requires.table.parts in
    let there : list_any (same t) table ≡ true = sym found ∙ present _ c.in_ok-number.is_new c.in_ok-number.ensures.added c.if-is_new.false in
    rw there refl

pub returns-else-is_new-clause-number : goal.returns-else-is_new-clause-number
returns-else-is_new-clause-number c =
    let table = held_terms c.args.self.now in
    let t = shared_at (shared_terms c.args.terms.now) c.args.line in
    c.in_ok-number.ensures.index ∙ place_words word_decides (λ v. v.items) table t c.args.words.items c.requires.parts c.requires.words c.args.self.now.lines.keys table c.requires.table.lines c.requires.table.parts
