-- Shapes without parts in tables.
use Rattle.std.proofs.Common.{◌≡◌, ◌≤◌, ◌+◌, ◌∙◌, ℕ, suc, List, [], ◌∷◌, ◌++◌, length, refl, sym, ap, arith}
use Rattle.ap_defs.specs.Types.{TypeShape, hole, unit, names, base}
use Rattle.ap_types.specs.declared.nodes.Node.{Node}
use Rattle.ap_types.specs.declared.nodes.Node.TheVariants as nodes
use Rattle.ap_types.specs.Equations.{bound_of}
use Rattle.ap_types.specs.Triangular.{layer_of, shapes_of_nodes, AreFormed}
use Rattle.ap_types.specs.Loading.{taken, place_in, parts_taken, entry_in}
use Rattle.ap_types.specs.Joining.{Loads}
use Rattle.ap_types.proofs.TableLemmas.{extends_itself, length_table, table_push}
use Rattle.ap_types.proofs.PartLemmas.{loading_begins, loading_next, loading_ends}

-- a hole has its place already
pub loads_hole : (ns : List Node) (x : ℕ) → AreFormed (shapes_of_nodes ns) → suc x ≤ length ns → Loads (shapes_of_nodes ns) (hole x) (shapes_of_nodes ns) x
loads_hole ns x h l = let long = length_table ns in record { extends = extends_itself (shapes_of_nodes ns) h; within = omega (arith, l, long); stands = λ f k. refl }

-- a shape without parts takes the next place
abbrev IsPlain : TypeShape → Type 0
IsPlain t = (taken t ≡ t ∷ []) × (parts_taken t ≡ []) × (bound_of t ≡ 0) × ((k : ℕ) → place_in k t ≡ k) × ((k : ℕ) → entry_in k t ≡ t)

loads_plain : (ts us : List TypeShape) (t : TypeShape) (x : ℕ) → AreFormed ts → IsPlain t → us ≡ ts ++ t ∷ [] → x ≡ length ts → Loads ts t us x
loads_plain ts us t x h p e l =
    let begin = loading_begins ts t (t ∷ []) (length ts) x (omega (arith, p.2)) refl (sym p.0) (l ∙ sym (p.3 (length ts))) in
    let k = length ts + 1 in
    let next = loading_next ts t ts (t ∷ []) us (t ∷ []) x 0 k t begin (omega arith) refl (omega arith) (ap (λ (vs : List TypeShape). t ∷ vs) (sym p.1)) (e ∙ ap (λ u. ts ++ u ∷ []) (sym (p.4 k))) in
    loading_ends ts t us (t ∷ []) x 1 h next (omega arith)

loads_entry : (ns ms : List Node) (n : Node) (t : TypeShape) (x : ℕ) → AreFormed (shapes_of_nodes ns) → IsPlain t → layer_of n ≡ t → ms ≡ ns ++ n ∷ [] → x ≡ length ns
    → Loads (shapes_of_nodes ns) t (shapes_of_nodes ms) x
loads_entry ns ms n t x h p e f l =
    loads_plain (shapes_of_nodes ns) (shapes_of_nodes ms) t x h p (ap shapes_of_nodes f ∙ table_push ns n ∙ ap (λ u. shapes_of_nodes ns ++ u ∷ []) e) (l ∙ sym (length_table ns))

pub loads_unit : (ns ms : List Node) (x : ℕ) → AreFormed (shapes_of_nodes ns) → ms ≡ ns ++ nodes.Unit ∷ [] → x ≡ length ns → Loads (shapes_of_nodes ns) unit (shapes_of_nodes ms) x
loads_unit ns ms x h e l = loads_entry ns ms nodes.Unit unit x h (refl, refl, refl, (λ k. refl), (λ k. refl)) refl e l

pub loads_names : (ns ms : List Node) (s x : ℕ) → AreFormed (shapes_of_nodes ns) → ms ≡ ns ++ nodes.Names s ∷ [] → x ≡ length ns → Loads (shapes_of_nodes ns) (names s) (shapes_of_nodes ms) x
loads_names ns ms s x h e l = loads_entry ns ms (nodes.Names s) (names s) x h (refl, refl, refl, (λ k. refl), (λ k. refl)) refl e l

pub loads_base : (ns ms : List Node) (d x : ℕ) → AreFormed (shapes_of_nodes ns) → ms ≡ ns ++ nodes.Base d ∷ [] → x ≡ length ns → Loads (shapes_of_nodes ns) (base d) (shapes_of_nodes ms) x
loads_base ns ms d x h e l = loads_entry ns ms (nodes.Base d) (base d) x h (refl, refl, refl, (λ k. refl), (λ k. refl)) refl e l
