-- Derivations are read as the lines of their nodes.
use Rattle.std.proofs.Common.{◌≡◌, ◌∙◌, ℕ, zero, suc, ◌+◌, ◌<◌, ◌≤◌, ◌^◌, List, [], ◌∷◌, ◌++◌, length, Some, Ok, Err, refl, ap, sym, subst, append_assoc, arith, inl, inr, length-append, map}
use Rattle.std.proofs.lemmas.List.{append-nil}
use Rattle.std.specs.List.{flat_map, join_with_byte}
use Rattle.ap_defs.specs.declared.terms.Name.{Name}
use Rattle.ap_defs.specs.Terms.{NominalTerm}
use Rattle.ap_defs.specs.Derivations as derivation
use Rattle.ap_defs.specs.Derivations.{NominalDerivation, DerivationOver, terms_in}
use Rattle.ap_bundle.specs.declared.faults.BundleKind.TheVariants.{Node}
use Rattle.ap_bundle.specs.declared.words.NodeWord.{NodeWord}
use Rattle.ap_bundle.specs.declared.words.NodeWord.TheVariants as word
use Rattle.ap_bundle.specs.declared.words.Word.{Word}
use Rattle.ap_bundle.specs.declared.words.Word.TheVariants as words
use Rattle.ap_bundle.specs.Words.{line, word_text}
use Rattle.ap_bundle.specs.Forms.{name_words}
use Rattle.ap_bundle.specs.Nodes as nodes
use Rattle.ap_bundle.specs.Nodes.{preorder, children, node_onto, derivations, derivation_from, one}
use Rattle.ap_bundle.specs.LineForms as lines
use Rattle.ap_bundle.specs.LineForms.{NodeLine, node_form, node_behind, atom_line, new_line}
use Rattle.ap_bundle.specs.Readers.{Unread, Reader, ◌>>=◌, unended, read_form, repeated}
use Rattle.ap_bundle.specs.Written.{node_line, node_lines, name_line}
use Rattle.ap_bundle.specs.Reading.{read_name, read_atom, read_exists, read_behind, read_node, read_nodes, read_derivation}
use Rattle.ap_bundle_laws.specs.Laws.{Each, IsListOf, FitsName, FitsDerivation}
use Rattle.ap_bundle_laws.proofs.GoodLemmas.{at, IsGood, good_then, good_as, good_repeated, good_each, room_for, room_append, parted}
use Rattle.ap_bundle_laws.proofs.WordLemmas.{Fits}
use Rattle.ap_bundle_laws.proofs.LineLemmas.{good_form, good_name, small_read, name_read, name_fits}

abbrev FlatNode : Type 0
FlatNode = nodes.Node NominalTerm

-- a node that is one line
good_whole : (term : Reader NominalTerm) (room : ℕ) (k : NodeWord) (ws : List Word) (n : FlatNode) → Each Fits ws → node_behind k ws ≡ Some (lines.whole n) → IsGood (read_node term) room room (node_line k ws) n
unfolding read_node
good_whole term room k ws n h e =
    let good = good_form Node node_form room (words.Node k) ws (lines.whole n) (tt, h) e in
    record {
      whole = λ rest. rw (good.whole rest) refl;
      part = λ v u eq some. rw (good.part v u eq some) refl;
    }

atom_read : (k m n : ℕ) → k < 2 ^ 32 → atom_line {T = NominalTerm} (words.Number k ∷ words.Number m ∷ words.Number n ∷ []) ≡ Some (lines.atom k m n)
unfolding atom_line
atom_read k m n h = rw (small_read k (words.Number m ∷ words.Number n ∷ []) h) refl

new_read : (a : Name) → FitsName a → new_line {T = NominalTerm} (name_words a) ≡ Some (lines.whole (nodes.new a))
unfolding new_line
new_read a h = rw (name_read a [] h) refl

-- these nodes lead from so many wanted derivations to none, and not before their end
abbrev Leads : List FlatNode → ℕ → Type 0
Leads [] m = m ≡ 0
Leads (x ∷ xs) m = (k : ℕ) × (m ≡ suc k) × Leads xs (k + children x)

leads : (d : NominalDerivation) (k : ℕ) (ns : List FlatNode) → Leads ns k → Leads (preorder d ++ ns) (suc k)
leads (derivation.atom c names ts d) k ns h = (k, refl, subst (Leads (preorder d ++ ns)) (omega arith) (leads d k ns h))
leads derivation.equal k ns h = (k, refl, subst (Leads ns) (omega arith) h)
leads derivation.fresh k ns h = (k, refl, subst (Leads ns) (omega arith) h)
leads derivation.succeed k ns h = (k, refl, subst (Leads ns) (omega arith) h)
leads (derivation.both d e) k ns h =
    (k, refl, subst (λ z. Leads z (k + 2)) (sym (append_assoc (preorder d) (preorder e) ns)) (subst (Leads (preorder d ++ (preorder e ++ ns))) (omega arith) (leads d (suc k) (preorder e ++ ns) (leads e k ns h))))
leads (derivation.left d) k ns h = (k, refl, subst (Leads (preorder d ++ ns)) (omega arith) (leads d k ns h))
leads (derivation.right d) k ns h = (k, refl, subst (Leads (preorder d ++ ns)) (omega arith) (leads d k ns h))
leads (derivation.exists t d) k ns h = (k, refl, subst (Leads (preorder d ++ ns)) (omega arith) (leads d k ns h))
leads (derivation.new a d) k ns h = (k, refl, subst (Leads (preorder d ++ ns)) (omega arith) (leads d k ns h))

pub each_parts : {A : Type 0} (P : A → Type 0) (xs ys : List A) → Each P (xs ++ ys) → Each P xs × Each P ys
each_parts P [] ys h = (tt, h)
each_parts P (x ∷ xs) ys h = let more = each_parts P xs ys h.1 in ((h.0, more.0), more.1)

-- the derivation is what its nodes are
again : (d : NominalDerivation) (ns : List FlatNode) (ds : List NominalDerivation) → derivations ns ≡ Some ds → derivations (preorder d ++ ns) ≡ Some (d ∷ ds)
again (derivation.atom c names ts d) ns ds e = rw (again d ns ds e) refl
again derivation.equal ns ds e = rw e refl
again derivation.fresh ns ds e = rw e refl
again derivation.succeed ns ds e = rw e refl
again (derivation.both d f) ns ds e = rw (append_assoc (preorder d) (preorder f) ns, again d (preorder f ++ ns) (f ∷ ds) (again f ns ds e)) refl
again (derivation.left d) ns ds e = rw (again d ns ds e) refl
again (derivation.right d) ns ds e = rw (again d ns ds e) refl
again (derivation.exists t d) ns ds e = rw (again d ns ds e) refl
again (derivation.new a d) ns ds e = rw (again d ns ds e) refl

from_nodes : (d : NominalDerivation) → derivation_from (preorder d) ≡ Some d
unfolding derivation_from
from_nodes d = let e = again d [] [] refl in rw (sym (append-nil (preorder d)), e) refl

-- each node takes a byte at least
line_some : (k : NodeWord) (ws : List Word) → 0 < length (node_line k ws)
unfolding line
line_some k ws = omega (arith, length-append (join_with_byte 32 (map word_text (words.Node k ∷ ws))) (10 ∷ []))

-- How a term is read as it is written, in either version: P says what has to hold of it.
module _ (term : Reader NominalTerm) (text : NominalTerm → List ℕ) (before : NominalTerm → ℕ → ℕ) (P : NominalTerm → Type 0)
    (good_one : (left : ℕ) (t : NominalTerm) → P t → IsGood term (before t left) left (text t) t) where
  abbrev FitsNode : FlatNode → Type 0
  FitsNode (nodes.atom k names ts) = (k < 2 ^ 32) × IsListOf FitsName names × IsListOf P ts
  FitsNode nodes.equal = Unit {0}
  FitsNode nodes.fresh = Unit {0}
  FitsNode nodes.succeed = Unit {0}
  FitsNode nodes.both = Unit {0}
  FitsNode nodes.left = Unit {0}
  FitsNode nodes.right = Unit {0}
  FitsNode (nodes.exists t) = P t
  FitsNode (nodes.new a) = FitsName a

  abbrev node_room : FlatNode → ℕ → ℕ
  node_room (nodes.atom k names ts) left = room_for before ts left
  node_room nodes.equal left = left
  node_room nodes.fresh left = left
  node_room nodes.succeed left = left
  node_room nodes.both left = left
  node_room nodes.left left = left
  node_room nodes.right left = left
  node_room (nodes.exists t) left = before t left
  node_room (nodes.new a) left = left

  good_atom : (left k : ℕ) (names : List Name) (ts : List NominalTerm) → FitsNode (nodes.atom k names ts)
      → IsGood (read_atom term k (length names) (length ts)) (room_for before ts left) left (flat_map name_line names ++ flat_map text ts) (nodes.atom k names ts)
  unfolding read_atom
  good_atom left k names ts h =
      let room = room_for before ts left in
      let first = good_each read_name name_line FitsName good_name room names h.1.1 in
      let second = good_repeated term text before P good_one left ts h.2.1 in
      good_then (repeated read_name (length names)) (λ (as' : List Name) (p : Unread). repeated term (length ts) p >>= λ us. Ok (nodes.atom k as' us.0, us.1)) room room left (flat_map name_line names) (flat_map text ts) names (nodes.atom k names ts) first
      (good_as (repeated term (length ts)) (nodes.atom k names) room left (flat_map text ts) ts second)

  good_node : (left : ℕ) (n : FlatNode) → FitsNode n → IsGood (read_node term) (node_room n left) left (node_lines text n) n
  unfolding read_node read_exists
  good_node left (nodes.atom k names ts) h =
      let room = room_for before ts left in
      let head = good_form Node node_form room (words.Node word.Atom) (words.Number k ∷ words.Number (length names) ∷ words.Number (length ts) ∷ []) (lines.atom k (length names) (length ts)) (tt, (omega (arith, h.0), (h.1.0, (h.2.0, tt)))) (atom_read k (length names) (length ts) h.0) in
      good_then (read_form Node node_form) (read_behind term) room room left (node_line word.Atom (words.Number k ∷ words.Number (length names) ∷ words.Number (length ts) ∷ [])) (flat_map name_line names ++ flat_map text ts) (lines.atom k (length names) (length ts)) (nodes.atom k names ts) head (good_atom left k names ts h)
  good_node left nodes.equal h = good_whole term left word.Eq [] nodes.equal tt refl
  good_node left nodes.fresh h = good_whole term left word.Fresh [] nodes.fresh tt refl
  good_node left nodes.succeed h = good_whole term left word.True [] nodes.succeed tt refl
  good_node left nodes.both h = good_whole term left word.And [] nodes.both tt refl
  good_node left nodes.left h = good_whole term left word.Left [] nodes.left tt refl
  good_node left nodes.right h = good_whole term left word.Right [] nodes.right tt refl
  good_node left (nodes.exists t) h =
      let room = before t left in
      let head = good_form Node node_form room (words.Node word.Exists) [] lines.exists (tt, tt) refl in
      good_then (read_form Node node_form) (read_behind term) room room left (node_line word.Exists []) (text t) lines.exists (nodes.exists t) head
      (good_as term nodes.exists room left (text t) t (good_one left t h))
  good_node left (nodes.new a) h = good_whole term left word.New (name_words a) (nodes.new a) (name_fits a h) (new_read a h)

  -- the room for the nodes of a derivation is that for its terms
  nodes_room : (d : NominalDerivation) (left : ℕ) → room_for node_room (preorder d) left ≡ room_for before (terms_in d) left
  nodes_room (derivation.atom c names ts d) left = ap (room_for before ts) (nodes_room d left) ∙ sym (room_append before ts (terms_in d) left)
  nodes_room derivation.equal left = refl
  nodes_room derivation.fresh left = refl
  nodes_room derivation.succeed left = refl
  nodes_room (derivation.both d e) left =
      room_append node_room (preorder d) (preorder e) left ∙ ap (room_for node_room (preorder d)) (nodes_room e left) ∙ nodes_room d (room_for before (terms_in e) left) ∙ sym (room_append before (terms_in d) (terms_in e) left)
  nodes_room (derivation.left d) left = nodes_room d left
  nodes_room (derivation.right d) left = nodes_room d left
  nodes_room (derivation.exists t d) left = ap (before t) (nodes_room d left)
  nodes_room (derivation.new a d) left = nodes_room d left

  fits_nodes : (d : NominalDerivation) (ns : List FlatNode) → FitsDerivation d → Each P (terms_in d) → Each FitsNode ns → Each FitsNode (preorder d ++ ns)
  fits_nodes (derivation.atom c names ts d) ns h t k = let parts = each_parts P ts (terms_in d) t in ((h.0, h.1, (h.2.0, parts.0)), fits_nodes d ns h.3 parts.1 k)
  fits_nodes derivation.equal ns h t k = (tt, k)
  fits_nodes derivation.fresh ns h t k = (tt, k)
  fits_nodes derivation.succeed ns h t k = (tt, k)
  fits_nodes (derivation.both d e) ns h t k =
      let parts = each_parts P (terms_in d) (terms_in e) t in
      (tt, subst (Each FitsNode) (sym (append_assoc (preorder d) (preorder e) ns)) (fits_nodes d (preorder e ++ ns) h.0 parts.0 (fits_nodes e ns h.1 parts.1 k)))
  fits_nodes (derivation.left d) ns h t k = (tt, fits_nodes d ns h t k)
  fits_nodes (derivation.right d) ns h t k = (tt, fits_nodes d ns h t k)
  fits_nodes (derivation.exists u d) ns h t k = (t.0, fits_nodes d ns h.1 t.1 k)
  fits_nodes (derivation.new a d) ns h t k = (h.0, fits_nodes d ns h.1 t k)

  -- nodes are read, where the bound allows for so many
  nodes_whole : (left bound m : ℕ) (ns : List FlatNode) (rest : List ℕ) → Leads ns m → Each FitsNode ns → length ns ≤ bound
      → read_nodes term bound m (at (flat_map (node_lines text) ns ++ rest) (room_for node_room ns left)) ≡ Ok (ns, at rest left)
  unfolding read_nodes
  nodes_whole left bound m [] rest l h few = rw l refl
  nodes_whole left zero m (n ∷ ns) rest l h few = absurd (omega arith)
  nodes_whole left (suc bound) m (n ∷ ns) rest l h few =
      let good = good_node (room_for node_room ns left) n h.0 in
      let more = nodes_whole left bound (l.0 + children n) ns rest l.2 h.1 (omega arith) in
      rw (l.1, append_assoc (node_lines text n) (flat_map (node_lines text) ns) rest, good.whole (flat_map (node_lines text) ns ++ rest), more) refl

  nodes_part : (left bound m : ℕ) (ns : List FlatNode) (v u : List ℕ) → Leads ns m → Each FitsNode ns → flat_map (node_lines text) ns ≡ v ++ u → 0 < length u
      → read_nodes term bound m (at v (room_for node_room ns left)) ≡ Err unended
  unfolding read_nodes
  nodes_part left bound m [] v u l h e some = absurd (omega (arith, ap length e, length-append v u))
  nodes_part left zero m (n ∷ ns) v u l h e some = rw l.1 refl
  nodes_part left (suc bound) m (n ∷ ns) v u l h e some =
      let good = good_node (room_for node_room ns left) n h.0 in
      elim (parted (node_lines text n) (flat_map (node_lines text) ns) v u e some) [
        | inl s ↦ rw (l.1, good.part v s.0 s.1 s.2) refl
        | inr s ↦ rw (l.1, s.1, good.whole s.0, nodes_part left bound (l.0 + children n) ns s.0 u l.2 h.1 s.2 some) refl
      ]

  some_bytes : (n : FlatNode) → 0 < length (node_lines text n)
  some_bytes (nodes.atom k names ts) =
      let ws = words.Number k ∷ words.Number (length names) ∷ words.Number (length ts) ∷ [] in
      omega (arith, line_some word.Atom ws, length-append (node_line word.Atom ws) (flat_map name_line names ++ flat_map text ts))
  some_bytes nodes.equal = line_some word.Eq []
  some_bytes nodes.fresh = line_some word.Fresh []
  some_bytes nodes.succeed = line_some word.True []
  some_bytes nodes.both = line_some word.And []
  some_bytes nodes.left = line_some word.Left []
  some_bytes nodes.right = line_some word.Right []
  some_bytes (nodes.exists t) = omega (arith, line_some word.Exists [], length-append (node_line word.Exists []) (text t))
  some_bytes (nodes.new a) = line_some word.New (name_words a)

  few_nodes : (ns : List FlatNode) → length ns ≤ length (flat_map (node_lines text) ns)
  few_nodes [] = omega arith
  few_nodes (n ∷ ns) = omega (arith, some_bytes n, few_nodes ns, length-append (node_lines text n) (flat_map (node_lines text) ns))

  pub good_derivation : (left : ℕ) (d : NominalDerivation) → FitsDerivation d → Each P (terms_in d) → IsGood (read_derivation term) (room_for before (terms_in d) left) left (flat_map (node_lines text) (preorder d)) d
  unfolding read_derivation
  good_derivation left d h t =
      let nil = append-nil (preorder d) in
      let room = nodes_room d left in
      let leads_to : Leads (preorder d) 1 = subst (λ z. Leads z 1) nil (leads d 0 [] refl) in
      let fits : Each FitsNode (preorder d) = subst (Each FitsNode) nil (fits_nodes d [] h t tt) in
      let texts = flat_map (node_lines text) (preorder d) in
      subst (λ n. IsGood (read_derivation term) n left texts d) room
      (record {
        whole = λ rest. rw (nodes_whole left (length (texts ++ rest)) 1 (preorder d) rest leads_to fits (omega (arith, few_nodes (preorder d), length-append texts rest)), from_nodes d) refl;
        part = λ v u e some. rw (nodes_part left (length v) 1 (preorder d) v u leads_to fits e some) refl;
      })
