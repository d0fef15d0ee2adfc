use Rattle.std.proofs.Common.{ℕ, min, max, length, ap, ◌∙◌, arith}
use Rattle.ap_index.specs.Places.{bucket}
use Rattle.ap_index.proofs.PlaceLemmas.{nothing_there, of_both, place_past, place_there}
use Rattle.ap_index.proofs.places.next_within.Goals as goal

pub returns-then-start-end : goal.returns-then-start-end
returns-then-start-end c =
    let starts = c.args.places.now.starts.items in
    let ends = c.args.places.now.ends.items in
    let b = bucket (length c.args.keys.now) c.args.key in
    let within = c.bucket_of-b.ensures.within in
    let low = c.requires.starts in
    let high = c.requires.ends in
    nothing_there c.args.keys.now starts ends c.args.key c.requires.within c.args.from c.max-start.result c.min-end.result c.requires.from
    (c.max-start.ensures ∙ ap (λ (n : ℕ). max c.args.from n) (c.min.ensures ∙ of_both min starts c.bucket_of-b.result b _ _ c.bucket_of-b.ensures.is (omega (arith, within, low)) c.index.ensures c.index-2.ensures))
    (c.min-end.ensures ∙ ap (λ (n : ℕ). min (length c.args.keys.now) n) (c.max.ensures ∙ of_both max ends c.bucket_of-b.result b _ _ c.bucket_of-b.ensures.is (omega (arith, within, high)) c.index-3.ensures c.index-4.ensures))
    c.if-start-end.true

pub returns-then-place-end : goal.returns-then-place-end
returns-then-place-end c =
    let starts = c.args.places.now.starts.items in
    let ends = c.args.places.now.ends.items in
    let b = bucket (length c.args.keys.now) c.args.key in
    let within = c.bucket_of-b.ensures.within in
    let low = c.requires.starts in
    let high = c.requires.ends in
    place_there c.args.keys.now starts ends c.args.key c.requires.within c.args.from c.max-start.result c.min-end.result c.requires.from
    (c.max-start.ensures ∙ ap (λ (n : ℕ). max c.args.from n) (c.min.ensures ∙ of_both min starts c.bucket_of-b.result b _ _ c.bucket_of-b.ensures.is (omega (arith, within, low)) c.index.ensures c.index-2.ensures))
    (c.min-end.ensures ∙ ap (λ (n : ℕ). min (length c.args.keys.now) n) (c.max.ensures ∙ of_both max ends c.bucket_of-b.result b _ _ c.bucket_of-b.ensures.is (omega (arith, within, high)) c.index-3.ensures c.index-4.ensures))
    c.if-start-end.false c.next_match-place.result c.next_match-place.ensures c.if-place-end.true

pub returns-else-place-end : goal.returns-else-place-end
returns-else-place-end c =
    let starts = c.args.places.now.starts.items in
    let ends = c.args.places.now.ends.items in
    let b = bucket (length c.args.keys.now) c.args.key in
    let within = c.bucket_of-b.ensures.within in
    let low = c.requires.starts in
    let high = c.requires.ends in
    place_past c.args.keys.now starts ends c.args.key c.requires.within c.args.from c.max-start.result c.min-end.result c.requires.from
    (c.max-start.ensures ∙ ap (λ (n : ℕ). max c.args.from n) (c.min.ensures ∙ of_both min starts c.bucket_of-b.result b _ _ c.bucket_of-b.ensures.is (omega (arith, within, low)) c.index.ensures c.index-2.ensures))
    (c.min-end.ensures ∙ ap (λ (n : ℕ). min (length c.args.keys.now) n) (c.max.ensures ∙ of_both max ends c.bucket_of-b.result b _ _ c.bucket_of-b.ensures.is (omega (arith, within, high)) c.index-3.ensures c.index-4.ensures))
    c.if-start-end.false c.next_match-place.result c.next_match-place.ensures c.if-place-end.false
