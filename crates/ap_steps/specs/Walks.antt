-- What is left of a walk over a body, and of one over a derivation.
use Rattle.std.specs.Prelude.{◌≡◌, ◌≤◌, ℕ, suc, ◌+◌, List, [], ◌∷◌, ◌++◌, length, map, reverse, take}
use denote.Ref.{Bor}
use Rattle.ap_defs.specs.declared.goals.Goal as code_goals
use Rattle.ap_defs.specs.declared.outcomes.Derivation as code_nodes
use Rattle.ap_defs.specs.declared.terms.Term.{Term}
use Rattle.ap_defs.specs.Derivations.{NominalDerivation, derivation_of}
use Rattle.ap_defs.specs.Goals.{NominalGoal, goal_of}
use Rattle.ap_defs.specs.Terms.{NominalTerm}
use Rattle.ap_checks.specs.Checks.{node_count}
use Rattle.ap_checks.specs.OpenEnvironments.{OpenEnvironment, put_in}
use Rattle.ap_judge.specs.declared.scope.Standing.{Standing}
use Rattle.ap_judge.specs.Scopes.{environment_of}
use Rattle.ap_steps.specs.declared.bodies.Body.{Body}
use Rattle.ap_steps.specs.declared.bodies.Part.{Part}
use Rattle.ap_steps.specs.Steps.{NominalPiece, DerivationWriting, atom_text, pieces, premise, relation_text, side}
use Rattle.ap_steps.specs.Writers.{piece_of}

abbrev pub part_at : Bor code_nodes.Derivation → Bor (code_goals.Goal Term) → ℕ → Part
part_at d g n = record { derivation = d; goal = g; mark = n }

-- the piece of an atom, and that of an equation or a freshness goal
abbrev pub premise_piece : DerivationWriting → NominalDerivation → ℕ → List NominalTerm → OpenEnvironment → NominalPiece
premise_piece w d q us e = premise (record { derivation = d; pred = q; judgement = atom_text w q (map (put_in e) us) })

abbrev pub side_piece : DerivationWriting → List ℕ → NominalTerm → NominalTerm → OpenEnvironment → NominalPiece
side_piece w sign t u e = side (relation_text w sign (put_in e t) (put_in e u))

abbrev pub pieces_at : DerivationWriting → Part → OpenEnvironment → List NominalPiece
pieces_at w t e = pieces w (derivation_of t.derivation.now) (goal_of t.goal.now) e

-- the pieces of all that is left, the next node first
abbrev pub pieces_left : DerivationWriting → List Standing → List Part → List NominalPiece
pieces_left w ss [] = []
pieces_left w ss (t ∷ ts) = pieces_at w t (environment_of (take t.mark ss)) ++ pieces_left w ss ts

-- how many nodes are left
abbrev pub nodes_in_parts : List Part → ℕ
nodes_in_parts [] = 0
nodes_in_parts (t ∷ ts) = node_count (derivation_of t.derivation.now) + nodes_in_parts ts

-- what stands where a node is, stands there also where a later one is
abbrev pub ArePartsMarked : ℕ → List Part → Type 0
ArePartsMarked top [] = Unit {0}
ArePartsMarked top (t ∷ ts) = (t.mark ≤ top) × ArePartsMarked t.mark ts

-- the node that is next stands last
abbrev pub parts_pending : Body → List Part
parts_pending b = reverse b.pending.items

-- a node was looked at: its pieces are kept, or are left in front of what was left before
pub record WritesOn (w : DerivationWriting) (d : NominalDerivation) (g : NominalGoal) (before after : Body) : Type 0 where
  pub kept : map piece_of after.pieces.items ++ pieces_left w after.standing.items (parts_pending after)
      ≡ map piece_of before.pieces.items ++ (pieces w d g (environment_of before.standing.items) ++ pieces_left w before.standing.items (parts_pending before))
  pub nodes : suc (nodes_in_parts (parts_pending after)) ≤ node_count d + nodes_in_parts (parts_pending before)
  pub marked : ArePartsMarked (length after.standing.items) (parts_pending after)

-- with the pieces of what is left those so far are all
pub record IsWritingOnWay (w : DerivationWriting) (whole : List NominalPiece) (b : Body) : Type 0 where
  pub kept : map piece_of b.pieces.items ++ pieces_left w b.standing.items (parts_pending b) ≡ whole
  pub marked : ArePartsMarked (length b.standing.items) (parts_pending b)
