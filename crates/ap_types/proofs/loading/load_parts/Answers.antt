use Rattle.std.proofs.Common.{◌≡◌, ◌<◌, ◌+◌, ◌∙◌, [], ◌∷◌, ◌++◌, List, ℕ, Bor, length, get_or, sym, ap, arith}
use Rattle.std.proofs.lemmas.List.{length-map, get_or-map}
use Rattle.ap_defs.specs.declared.terms.Shape.{Shape}
use Rattle.ap_defs.specs.Types.{TypeShape, shape_of}
use Rattle.ap_types.specs.Triangular.{shapes_of_nodes}
use Rattle.ap_types.specs.Loading.{lent_shapes, taken}
use Rattle.ap_types.proofs.TableLemmas.{length_table, table_push}
use Rattle.ap_types.proofs.PartLemmas.{loading_begins, loading_next, loading_ends, sizes_next}
use Rattle.ap_types.proofs.loading.load_parts.Goals as goal

pub parts-init : goal.parts-init
parts-init c =
    let ns = c.args.nodes.now.items in
    let t = shape_of c.args.t.now in
    let long = length_table ns in
    let none : length c.new-waiting.result.items ≡ 0 = ap length c.new-waiting.ensures.items in
    loading_begins (shapes_of_nodes ns) t (lent_shapes c.place_of.new.waiting.items) (c.len-first.result + length c.new-waiting.result.items) c.in_ok-start.start
    (omega (arith, c.requires.bound)) (omega (arith, c.len-first.ensures))
    (c.in_ok-start.ensures.waiting ∙ ap (λ (rs : List (Bor Shape)). lent_shapes rs ++ taken t) c.new-waiting.ensures.items)
    c.in_ok-start.ensures.place

-- the part that is next has its place in the list of shapes
part_at : (ws : List (Bor Shape)) (i : ℕ) (r : Bor Shape) → i < length ws → r ≡ get_or ws i r → (i < length (lent_shapes ws)) × (shape_of r.now ≡ get_or (lent_shapes ws) i (shape_of r.now))
part_at ws i r l e =
    let long = length-map ws (λ (s : Bor Shape). shape_of s.now) in
    (omega arith, ap (λ (s : Bor Shape). shape_of s.now) e ∙ sym (get_or-map (λ (s : Bor Shape). shape_of s.now) ws i r (shape_of r.now) l))

pub parts-preserved : goal.parts-preserved
parts-preserved c =
    let ns = c.args.nodes.now.items in
    let ws = c.parts.waiting.items in
    let r = c.index-part.result.now in
    let k = c.len-first.result + length ws in
    let part = part_at ws c.parts.next r (omega (arith, c.parts-test.true, c.len.ensures)) c.index-part.ensures in
    let first = length_table ns in
    let long = length-map ws (λ (s : Bor Shape). shape_of s.now) in
    loading_next (shapes_of_nodes ns) (shape_of c.args.t.now) (shapes_of_nodes c.parts.nodes.items) (lent_shapes ws) (shapes_of_nodes c.push.new.self.items) (lent_shapes c.entry_of.new.waiting.items)
    c.in_ok-start.start c.parts.next k (shape_of r.now) c.parts.invariant part.0 part.1 (omega (arith, c.len-first.ensures, first, long)) c.in_ok-entry.ensures.waiting
    (ap shapes_of_nodes c.in_ok-push.ensures.items ∙ table_push c.parts.nodes.items c.in_ok-entry.entry ∙ ap (λ (e : TypeShape). shapes_of_nodes c.parts.nodes.items ++ e ∷ []) c.in_ok-entry.ensures.entry)

pub parts-smaller : goal.parts-smaller
parts-smaller c =
    let ws = c.parts.waiting.items in
    let r = c.index-part.result.now in
    let part = part_at ws c.parts.next r (omega (arith, c.parts-test.true, c.len.ensures)) c.index-part.ensures in
    sizes_next (lent_shapes ws) (lent_shapes c.entry_of.new.waiting.items) c.parts.next (shape_of r.now) part.0 part.1 c.in_ok-entry.ensures.waiting

pub returns : goal.returns
returns c =
    let ws = c.parts.waiting.items in
    let long = length-map ws (λ (s : Bor Shape). shape_of s.now) in
    loading_ends (shapes_of_nodes c.args.nodes.now.items) (shape_of c.args.t.now) (shapes_of_nodes c.parts.nodes.items) (lent_shapes ws) c.in_ok-start.start c.parts.next
    c.requires.formed c.parts.invariant (omega (arith, c.parts-test.false, c.len.ensures, long))
