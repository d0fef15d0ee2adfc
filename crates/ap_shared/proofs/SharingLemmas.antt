-- What was shared stays as it is where the table grows.
use Rattle.std.proofs.Common.{◌≡◌, ℕ, zero, suc, ◌+◌, ◌<◌, ◌≤◌, List, [], ◌∷◌, ◌++◌, length, drop, map, Option, None, Some, refl, ap, ap₂, sym, subst, ◌∙◌, append_assoc, arith, length-append, get_or, add-one, drop-cons}
use Rattle.std.specs.List.{AllByRecursion}
use Rattle.std.proofs.lemmas.List.{map-append, append-nil}
use Rattle.ap_defs.specs.Answers.{typed_var_of}
use Rattle.ap_defs.specs.Derivations.{DerivationOver, NominalDerivation, map_terms}
use Rattle.ap_defs.specs.Terms.{NominalTerm}
use Rattle.ap_bundle.specs.Nodes.{Node, atom, equal, fresh, succeed, both, left, right, exists, new, preorder, derivation_from}
use Rattle.ap_shared.specs.LineDerivations.{derivation_lines}
use Rattle.ap_shared.specs.FirstNodes.{first_node, map_node, node_terms}
use Rattle.ap_shared.specs.Shared.{AreLinesBelow, IsGrown, shared_at}
use Rattle.ap_shared.specs.SharedViews.{shared_answer, shared_derivation}
use Rattle.ap_shared.specs.declared.derivations.SharedAnswer.{SharedAnswer}
use Rattle.ap_shared.specs.declared.derivations.SharedDerivation.{SharedDerivation}
use Rattle.ap_shared.proofs.NodeLemmas.{from_mapped, later}
use Rattle.ap_shared.proofs.SharedLemmas.{at_front, below_more, terms_front}

pub grown_none : (ts : List NominalTerm) → IsGrown ts ts
grown_none ts = ([], sym (append-nil ts))

pub grown_on : (ts us vs : List NominalTerm) → IsGrown ts us → IsGrown us vs → IsGrown ts vs
grown_on ts us vs g h = (g.0 ++ h.0, h.1 ∙ ap (λ z. z ++ h.0) g.1 ∙ append_assoc ts g.0 h.0)

grown_long : (ts us : List NominalTerm) → IsGrown ts us → length ts ≤ length us
grown_long ts us g = let e = ap length g.1 ∙ length-append ts g.0 in omega (arith, e)

pub lines_grown : (ts us : List NominalTerm) (ls : List ℕ) → IsGrown ts us → AreLinesBelow (length ts) ls → (map (shared_at us) ls ≡ map (shared_at ts) ls) × AreLinesBelow (length us) ls
lines_grown ts us ls g h = (ap (λ vs. map (shared_at vs) ls) g.1 ∙ terms_front ts g.0 ls h, below_more (length ts) (length us) ls (grown_long ts us g) h)

below_last : (n : ℕ) (ls : List ℕ) (i : ℕ) → AreLinesBelow n ls → i < n → AreLinesBelow n (ls ++ i ∷ [])
below_last n [] i h l = (l, tt)
below_last n (j ∷ ls) i h l = (h.0, below_last n ls i h.1 l)

next_item : {A : Type 0} (xs : List A) (i : ℕ) (x : A) → i < length xs → x ≡ get_or xs i x → drop i xs ≡ x ∷ drop (i + 1) xs
next_item xs i x h e = rw (add-one, drop-cons xs i x) (ap (λ z. z ∷ drop (suc i) xs) (sym e))

pub no_item : {A : Type 0} (xs : List A) (i : ℕ) → length xs ≤ i → drop i xs ≡ []
no_item [] zero h = refl
no_item [] (suc i) h = refl
no_item (x ∷ xs) zero h = absurd (omega arith)
no_item (x ∷ xs) (suc i) h = no_item xs i (omega arith)

-- terms that are entered one after another
module _ {A : Type 0} (view : A → NominalTerm) (xs : List A) (ts us : List NominalTerm) (ls ms : List ℕ) (i line : ℕ) (x : A) (within : i < length xs) (is : x ≡ get_or xs i x)
    (grown : IsGrown ts us) (below : AreLinesBelow (length ts) ls) (pushed : ms ≡ ls ++ line ∷ []) where
  pub below_on : line < length us → AreLinesBelow (length us) ms
  below_on there = subst (AreLinesBelow (length us)) (sym pushed) (below_last (length us) ls line (let p = lines_grown ts us ls grown below in p.1) there)

  pub lines_on : shared_at us line ≡ view x → map (shared_at ts) ls ++ map view (drop i xs) ≡ map view xs → map (shared_at us) ms ++ map view (drop (i + 1) xs) ≡ map view xs
  lines_on here before =
      let rest = map view (drop (i + 1) xs) in
      let old : map (shared_at us) ls ≡ map (shared_at ts) ls = let p = lines_grown ts us ls grown below in p.0 in
      let front : map (shared_at us) ms ≡ map (shared_at ts) ls ++ view x ∷ [] = ap (map (shared_at us)) pushed ∙ map-append (shared_at us) ls (line ∷ []) ∙ ap₂ (λ vs t. vs ++ t ∷ []) old here in
      ap (λ z. z ++ rest) front ∙ append_assoc (map (shared_at ts) ls) (view x ∷ []) rest ∙ ap (λ z. map (shared_at ts) ls ++ map view z) (sym (next_item xs i x within is)) ∙ before

pub lines_end : {A : Type 0} (view : A → NominalTerm) (xs : List A) (ts vs : List NominalTerm) (i : ℕ) → length xs ≤ i → vs ++ map view (drop i xs) ≡ map view xs → vs ≡ map view xs
lines_end view xs ts vs i past e = sym (append-nil vs) ∙ ap (λ z. vs ++ map view z) (sym (no_item xs i past)) ∙ e

-- nodes whose lines are there
abbrev pub AreNodesBelow : ℕ → List (Node ℕ) → Type 0
AreNodesBelow n ns = AllByRecursion (λ m. AreLinesBelow n (node_terms m)) ns

node_grown : (ts us : List NominalTerm) (n : Node ℕ) → IsGrown ts us → AreLinesBelow (length ts) (node_terms n) → map_node (shared_at us) n ≡ map_node (shared_at ts) n
node_grown ts us (atom k names ls) g h = ap (atom k names) (let p = lines_grown ts us ls g h in p.0)
node_grown ts us equal g h = refl
node_grown ts us fresh g h = refl
node_grown ts us succeed g h = refl
node_grown ts us both g h = refl
node_grown ts us left g h = refl
node_grown ts us right g h = refl
node_grown ts us (exists i) g h = ap exists (ap (λ vs. shared_at vs i) g.1 ∙ at_front ts g.0 i h.0)
node_grown ts us (new a) g h = refl

nodes_grown : (ts us : List NominalTerm) (ns : List (Node ℕ)) → IsGrown ts us → AreNodesBelow (length ts) ns
    → (map (map_node (shared_at us)) ns ≡ map (map_node (shared_at ts)) ns) × AreNodesBelow (length us) ns
nodes_grown ts us [] g h = (refl, tt)
nodes_grown ts us (n ∷ ns) g h =
    let more = nodes_grown ts us ns g h.1 in
    let one = lines_grown ts us (node_terms n) g h.0 in
    (ap₂ (λ m ms. m ∷ ms) (node_grown ts us n g h.0) more.0, (one.1, more.1))

nodes_last : (n : ℕ) (ns : List (Node ℕ)) (m : Node ℕ) → AreNodesBelow n ns → AreLinesBelow n (node_terms m) → AreNodesBelow n (ns ++ m ∷ [])
nodes_last n [] m h l = (l, tt)
nodes_last n (k ∷ ns) m h l = (h.0, nodes_last n ns m h.1 l)

-- nodes that are shared one after another
module _ (ts us : List NominalTerm) (ns ms : List (Node ℕ)) (n : Node ℕ) (grown : IsGrown ts us) (below : AreNodesBelow (length ts) ns) (pushed : ms ≡ ns ++ n ∷ []) where
  pub nodes_below : AreLinesBelow (length us) (node_terms n) → AreNodesBelow (length us) ms
  nodes_below there = subst (AreNodesBelow (length us)) (sym pushed) (nodes_last (length us) ns n (let p = nodes_grown ts us ns grown below in p.1) there)

  pub nodes_on : (m : Node NominalTerm) (whole rest all : List (Node NominalTerm)) → map_node (shared_at us) n ≡ m → whole ≡ m ∷ rest → map (map_node (shared_at ts)) ns ++ whole ≡ all
      → map (map_node (shared_at us)) ms ++ rest ≡ all
  nodes_on m whole rest all here top before =
      let old : map (map_node (shared_at us)) ns ≡ map (map_node (shared_at ts)) ns = let p = nodes_grown ts us ns grown below in p.0 in
      let front : map (map_node (shared_at us)) ms ≡ map (map_node (shared_at ts)) ns ++ m ∷ [] =
      ap (map (map_node (shared_at us))) pushed ∙ map-append (map_node (shared_at us)) ns (n ∷ []) ∙ ap₂ (λ vs v. vs ++ v ∷ []) old here in
      ap (λ z. z ++ rest) front ∙ append_assoc (map (map_node (shared_at ts)) ns) (m ∷ []) rest ∙ ap (λ z. map (map_node (shared_at ts)) ns ++ z) (sym top) ∙ before

-- the derivation that shared nodes are
module _ (ts : List NominalTerm) (ns : List (Node ℕ)) (d : NominalDerivation) (are : map (map_node (shared_at ts)) ns ≡ preorder d) where
  pub derivation_there : (s : SharedDerivation) → Some (derivation_lines s) ≡ derivation_from ns → shared_derivation ts s ≡ d
  derivation_there s found =
      let from = from_mapped (shared_at ts) ns d are in
      let both_some : ◌≡◌ {A = Option (DerivationOver ℕ)} (Some (derivation_lines s)) (Some from.0) = found ∙ from.1 in
      let same : derivation_lines s ≡ from.0 = cc in
      ap (map_terms (shared_at ts)) same ∙ from.2

  pub derivation_not_none : ◌≡◌ {A = Option (DerivationOver ℕ)} None (derivation_from ns) → ⊥
  derivation_not_none none =
      let from = from_mapped (shared_at ts) ns d are in
      let never : ◌≡◌ {A = Option (DerivationOver ℕ)} None (Some from.0) = none ∙ from.1 in
      cc

pub answer_grown : (ts us : List NominalTerm) (a : SharedAnswer) → IsGrown ts us → AreLinesBelow (length ts) a.binds → shared_answer us a ≡ shared_answer ts a
answer_grown ts us a g h = ap (λ bs. record { binds = bs; conds = a.conds; vars = map typed_var_of a.vars }) (let p = lines_grown ts us a.binds g h in p.0)
