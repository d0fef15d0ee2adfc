-- Premises that wait, and the steps below a goal as those of its premises.
use Rattle.std.proofs.Common.{◌≡◌, ◌≤◌, ◌+◌, ℕ, List, [], ◌∷◌, ◌++◌, map, refl, sym, ap, ap₂, ◌∙◌, arith, append_assoc, reverse}
use Rattle.std.proofs.lemmas.List.{append-nil, map-append, reverse-append}
use Rattle.ap_defs.specs.declared.terms.Name.{Name}
use Rattle.ap_defs.specs.Terms.{NominalTerm}
use Rattle.ap_defs.specs.Derivations as nodes
use Rattle.ap_defs.specs.Derivations.{NominalDerivation, derivation_of}
use Rattle.ap_defs.specs.Goals as goals
use Rattle.ap_defs.specs.Goals.{NominalClause, NominalGoal, clauses_of}
use Rattle.ap_checks.specs.Checks.{node_count}
use Rattle.ap_checks.specs.OpenEnvironments.{OpenEnvironment, open_environment, with_open_name, with_open_term}
use Rattle.ap_steps.specs.declared.steps.Phrase.{Phrase}
use Rattle.ap_steps.specs.declared.bodies.Piece.{Piece}
use Rattle.ap_steps.specs.declared.walk.Waiting.{Waiting}
use Rattle.ap_steps.specs.Writers.{bare, piece_of, premise_of}
use Rattle.ap_steps.specs.Steps.{NominalPiece, NominalPremise, NominalStep, DerivationWriting, clause_steps, deeper, pieces, premise, premises_in, side, sides_in, step_by, steps_below}
use Rattle.ap_steps.specs.Waits.{premise_nodes, premise_steps, premises_steps, steps_left, steps_of_waiting, waiting_nodes}

pub premises_append : (ps qs : List NominalPiece) → premises_in (ps ++ qs) ≡ premises_in ps ++ premises_in qs
premises_append [] qs = refl
premises_append (side t ∷ ps) qs = premises_append ps qs
premises_append (premise p ∷ ps) qs = ap (λ (xs : List NominalPremise). p ∷ xs) (premises_append ps qs)

pub sides_append : (ps qs : List NominalPiece) → sides_in (ps ++ qs) ≡ sides_in ps ++ sides_in qs
sides_append [] qs = refl
sides_append (side t ∷ ps) qs = ap (λ (xs : List (List ℕ)). t ∷ xs) (sides_append ps qs)
sides_append (premise p ∷ ps) qs = sides_append ps qs

pub steps_append : (w : DerivationWriting) (n : ℕ) (ps qs : List NominalPremise) → premises_steps w n (ps ++ qs) ≡ premises_steps w n ps ++ premises_steps w n qs
steps_append w n [] qs = refl
steps_append w n (p ∷ ps) qs =
    ap (λ xs. premise_steps w n p ++ xs) (steps_append w n ps qs) ∙ sym (append_assoc (premise_steps w n p) (premises_steps w n ps) (premises_steps w n qs))

pub nodes_append : (ps qs : List NominalPremise) → premise_nodes (ps ++ qs) ≡ premise_nodes ps + premise_nodes qs
nodes_append [] qs = omega arith
nodes_append (p ∷ ps) qs = let more = nodes_append ps qs in omega (arith, more)

-- the steps below a goal are those of its premises
pub steps_of_premises : (w : DerivationWriting) (n : ℕ) (d : NominalDerivation) (g : NominalGoal) (e : OpenEnvironment) → steps_below w n d g e ≡ premises_steps w n (premises_in (pieces w d g e))
steps_of_premises w n (nodes.atom k names ts d) (goals.atom q us) e = sym (append-nil (steps_below w n (nodes.atom k names ts d) (goals.atom q us) e))
steps_of_premises w n nodes.equal (goals.equal t u) e = refl
steps_of_premises w n nodes.fresh (goals.fresh t u) e = refl
steps_of_premises w n (nodes.both d f) (goals.both g h) e =
    ap₂ (λ (xs ys : List NominalStep). xs ++ ys) (steps_of_premises w n d g e) (steps_of_premises w n f h e)
    ∙ sym (ap (premises_steps w n) (premises_append (pieces w d g e) (pieces w f h e)) ∙ steps_append w n (premises_in (pieces w d g e)) (premises_in (pieces w f h e)))
steps_of_premises w n (nodes.left d) (goals.either g h) e = steps_of_premises w n d g e
steps_of_premises w n (nodes.right d) (goals.either g h) e = steps_of_premises w n d h e
steps_of_premises w n (nodes.exists t d) (goals.exists x g) e = steps_of_premises w n d g (with_open_term e x t)
steps_of_premises w n (nodes.new c d) (goals.new b g) e = steps_of_premises w n d g (with_open_name e b c)
steps_of_premises w n _ _ e = refl

-- a goal's premises have no more nodes than its derivation
pub nodes_of_premises : (w : DerivationWriting) (d : NominalDerivation) (g : NominalGoal) (e : OpenEnvironment) → premise_nodes (premises_in (pieces w d g e)) ≤ node_count d
nodes_of_premises w (nodes.atom k names ts d) (goals.atom q us) e = omega arith
nodes_of_premises w nodes.equal (goals.equal t u) e = omega arith
nodes_of_premises w nodes.fresh (goals.fresh t u) e = omega arith
nodes_of_premises w (nodes.both d f) (goals.both g h) e =
    let all = ap premise_nodes (premises_append (pieces w d g e) (pieces w f h e)) ∙ nodes_append (premises_in (pieces w d g e)) (premises_in (pieces w f h e)) in
    let one = nodes_of_premises w d g e in
    let two = nodes_of_premises w f h e in
    omega (arith, all, one, two)
nodes_of_premises w (nodes.left d) (goals.either g h) e = let one = nodes_of_premises w d g e in omega (arith, one)
nodes_of_premises w (nodes.right d) (goals.either g h) e = let one = nodes_of_premises w d h e in omega (arith, one)
nodes_of_premises w (nodes.exists t d) (goals.exists x g) e = let one = nodes_of_premises w d g (with_open_term e x t) in omega (arith, one)
nodes_of_premises w (nodes.new c d) (goals.new b g) e = let one = nodes_of_premises w d g (with_open_name e b c) in omega (arith, one)
nodes_of_premises w _ _ e = omega arith

-- the last of those that wait comes first
pub last_steps : (w : DerivationWriting) (xs : List Waiting) (x : Waiting) → steps_left w (xs ++ x ∷ []) ≡ steps_of_waiting w x ++ steps_left w xs
last_steps w [] x = sym (append-nil (steps_of_waiting w x))
last_steps w (y ∷ xs) x = ap (λ ys. ys ++ steps_of_waiting w y) (last_steps w xs x) ∙ append_assoc (steps_of_waiting w x) (steps_left w xs) (steps_of_waiting w y)

pub last_nodes : (xs : List Waiting) (x : Waiting) → waiting_nodes (xs ++ x ∷ []) ≡ node_count (derivation_of x.premise.derivation.now) + waiting_nodes xs
last_nodes [] x = omega arith
last_nodes (y ∷ xs) x = let more = last_nodes xs x in omega (arith, more)

-- one premise more waits
pub premise_waits : (w : DerivationWriting) (n : ℕ) (xs ys : List Waiting) (x : Waiting) → ys ≡ xs ++ x ∷ [] → x.depth ≡ n
    → steps_left w ys ≡ premises_steps w n (premise_of x.premise ∷ []) ++ steps_left w xs
premise_waits w n xs ys x e h =
    ap (steps_left w) e ∙ last_steps w xs x
    ∙ ap (λ zs. zs ++ steps_left w xs) (ap (λ m. premise_steps w m (premise_of x.premise)) h ∙ sym (append-nil (premise_steps w n (premise_of x.premise))))

pub premise_counts : (xs ys : List Waiting) (x : Waiting) → ys ≡ xs ++ x ∷ [] → waiting_nodes ys ≡ premise_nodes (premise_of x.premise ∷ []) + waiting_nodes xs
premise_counts xs ys x e = let all = ap waiting_nodes e in let last = last_nodes xs x in omega (arith, all, last)

pub bare_turned : (xs : List Phrase) → map bare (reverse xs) ≡ reverse (map bare xs)
bare_turned [] = refl
bare_turned (x ∷ xs) =
    ap (map bare) (reverse-append (x ∷ []) xs) ∙ map-append bare (reverse xs) (x ∷ []) ∙ ap (λ ys. ys ++ bare x ∷ []) (bare_turned xs) ∙ sym (reverse-append (bare x ∷ []) (map bare xs))

sides_turned : (q : NominalPiece) → reverse (sides_in (q ∷ [])) ≡ sides_in (q ∷ [])
sides_turned (side t) = refl
sides_turned (premise p) = refl

-- The last of the pieces that are left was placed.
module _ (ps rest : List Piece) (x : Piece) (taken : ps ≡ rest ++ x ∷ []) where
  parted : map piece_of ps ≡ map piece_of rest ++ piece_of x ∷ []
  parted = ap (map piece_of) taken ∙ map-append piece_of rest (x ∷ [])

  pub placed_sides : (ss us : List Phrase) (all : List (List ℕ)) → map bare us ≡ map bare ss ++ sides_in (piece_of x ∷ [])
      → sides_in (map piece_of ps) ++ reverse (map bare ss) ≡ all → sides_in (map piece_of rest) ++ reverse (map bare us) ≡ all
  placed_sides ss us all e h =
      let X = sides_in (piece_of x ∷ []) in
      ap (λ ts. sides_in (map piece_of rest) ++ reverse ts) e
      ∙ ap (λ ts. sides_in (map piece_of rest) ++ ts) (reverse-append (map bare ss) X ∙ ap (λ ts. ts ++ reverse (map bare ss)) (sides_turned (piece_of x)))
      ∙ sym (append_assoc (sides_in (map piece_of rest)) X (reverse (map bare ss)))
      ∙ ap (λ ts. ts ++ reverse (map bare ss)) (sym (ap sides_in parted ∙ sides_append (map piece_of rest) (piece_of x ∷ []))) ∙ h

  pub placed_steps : (w : DerivationWriting) (n : ℕ) (ws us : List Waiting) (all : List NominalStep) → steps_left w us ≡ premises_steps w n (premises_in (piece_of x ∷ [])) ++ steps_left w ws
      → premises_steps w n (premises_in (map piece_of ps)) ++ steps_left w ws ≡ all → premises_steps w n (premises_in (map piece_of rest)) ++ steps_left w us ≡ all
  placed_steps w n ws us all e h =
      let X = premises_steps w n (premises_in (piece_of x ∷ [])) in
      ap (λ ts. premises_steps w n (premises_in (map piece_of rest)) ++ ts) e
      ∙ sym (append_assoc (premises_steps w n (premises_in (map piece_of rest))) X (steps_left w ws))
      ∙ ap (λ ts. ts ++ steps_left w ws)
      (sym (ap (λ qs. premises_steps w n (premises_in qs)) parted ∙ ap (premises_steps w n) (premises_append (map piece_of rest) (piece_of x ∷ []))
      ∙ steps_append w n (premises_in (map piece_of rest)) (premises_in (piece_of x ∷ [])))) ∙ h

  pub placed_nodes : (m k all : ℕ) → k ≡ premise_nodes (premises_in (piece_of x ∷ [])) + m
      → premise_nodes (premises_in (map piece_of ps)) + m ≡ all → premise_nodes (premises_in (map piece_of rest)) + k ≡ all
  placed_nodes m k all e h =
      let same : premise_nodes (premises_in (map piece_of ps)) ≡ premise_nodes (premises_in (map piece_of rest)) + premise_nodes (premises_in (piece_of x ∷ [])) =
      ap (λ qs. premise_nodes (premises_in qs)) parted ∙ ap premise_nodes (premises_append (map piece_of rest) (piece_of x ∷ []))
      ∙ nodes_append (premises_in (map piece_of rest)) (premises_in (piece_of x ∷ [])) in
      omega (arith, e, h, same)

-- What is made of an atom that was solved by a clause: its step, with the premises of the clause's body waiting.
pub clause_taken : (w : DerivationWriting) (n k : ℕ) (judgement : List ℕ) (names : List Name) (ts : List NominalTerm) (d : NominalDerivation) (c : NominalClause)
    (pieces' : List NominalPiece) (before after : List NominalStep) (old new : List Waiting) → pieces' ≡ pieces w d c.body (open_environment c.locals names ts)
    → after ≡ before ++ step_by w n judgement k names ts d c ∷ [] → steps_left w new ≡ premises_steps w (deeper n) (premises_in pieces') ++ steps_left w old
    → after ++ steps_left w new ≡ before ++ (clause_steps w n judgement k names ts d c ++ steps_left w old)
clause_taken w n k judgement names ts d c pieces' before after old new e f h =
    let s = step_by w n judgement k names ts d c in
    let below = steps_below w (deeper n) d c.body (open_environment c.locals names ts) in
    ap₂ (λ (xs ys : List NominalStep). xs ++ ys) f
    (h ∙ ap (λ ps. premises_steps w (deeper n) (premises_in ps) ++ steps_left w old) e
    ∙ ap (λ xs. xs ++ steps_left w old) (sym (steps_of_premises w (deeper n) d c.body (open_environment c.locals names ts))))
    ∙ append_assoc before (s ∷ []) (below ++ steps_left w old)

pub clause_nodes : (w : DerivationWriting) (d : NominalDerivation) (g : NominalGoal) (e : OpenEnvironment) (pieces' : List NominalPiece) (m k : ℕ)
    → pieces' ≡ pieces w d g e → k ≡ premise_nodes (premises_in pieces') + m → k ≤ node_count d + m
clause_nodes w d g e pieces' m k h f =
    let few = nodes_of_premises w d g e in
    let same = ap (λ ps. premise_nodes (premises_in ps)) h in
    omega (arith, f, few, same)
