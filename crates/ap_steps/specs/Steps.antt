-- A derivation as steps: one for each atom, under that in whose rule's body it stands, in preorder.
use Rattle.std.specs.Prelude.{ℕ, ◌+◌, ◌-◌, ◌^◌, min, List, [], ◌∷◌, ◌++◌, map, codes, slice_get, unwrap_or, Option, Some, None}
use Rattle.std.specs.Fmt.{decimal}
use Rattle.ap_defs.specs.declared.terms.Name.{Name}
use Rattle.ap_defs.specs.Derivations as nodes
use Rattle.ap_defs.specs.Derivations.{NominalDerivation}
use Rattle.ap_defs.specs.Goals as goals
use Rattle.ap_defs.specs.Goals.{Clauses, NominalClause, NominalGoal, clauses_of}
use Rattle.ap_defs.specs.GroundProofs.{clause_at}
use Rattle.ap_defs.specs.Printing.{Spelling, term_text}
use Rattle.ap_defs.specs.Terms.{NominalTerm}
use Rattle.ap_checks.specs.OpenEnvironments.{OpenEnvironment, open_environment, put_in, with_open_name, with_open_term}

-- How a derivation is written: the clauses of its program, the words of the predicates, and the spelling.
pub record DerivationWriting : Type 0 where
  pub clauses : Clauses
  pub words : List (List ℕ)
  pub by : Spelling

-- A step: how many it stands under, the judgement, its rule, and the conditions at the rule's side.
pub record NominalStep : Type 0 where
  pub depth : ℕ
  pub judgement : List ℕ
  pub rule : List ℕ
  pub sides : List (List ℕ)

-- texts behind a comma each, and then the end
abbrev pub further_texts : List (List ℕ) → List ℕ
further_texts [] = codes ")"
further_texts (t ∷ ts) = codes "," ++ (t ++ further_texts ts)

-- the arguments of an atom
abbrev pub arguments_text : List (List ℕ) → List ℕ
arguments_text [] = []
arguments_text (t ∷ ts) = codes "(" ++ (t ++ further_texts ts)

-- an atom
abbrev pub atom_text : DerivationWriting → ℕ → List NominalTerm → List ℕ
atom_text w q ts = unwrap_or (slice_get w.words q) [] ++ arguments_text (map (term_text w.by) ts)

-- an equation or a freshness condition, by its sign
abbrev pub relation_text : DerivationWriting → List ℕ → NominalTerm → NominalTerm → List ℕ
relation_text w sign t u = term_text w.by t ++ (sign ++ term_text w.by u)

-- An atom of a body, with the derivation of it.
pub record NominalPremise : Type 0 where
  pub derivation : NominalDerivation
  pub pred : ℕ
  pub judgement : List ℕ

-- What a body has: conditions at the side of the rule, and premises.
pub data NominalPiece : Type 0 where
  side : List ℕ → NominalPiece
  premise : NominalPremise → NominalPiece

abbrev pub pieces : DerivationWriting → NominalDerivation → NominalGoal → OpenEnvironment → List NominalPiece
pieces w (nodes.atom k names ts d) (goals.atom q us) e =
    premise (record { derivation = nodes.atom k names ts d; pred = q; judgement = atom_text w q (map (put_in e) us) }) ∷ []
pieces w nodes.equal (goals.equal t u) e = side (relation_text w (codes " = ") (put_in e t) (put_in e u)) ∷ []
pieces w nodes.fresh (goals.fresh t u) e = side (relation_text w (codes " # ") (put_in e t) (put_in e u)) ∷ []
pieces w (nodes.both d f) (goals.both g h) e = pieces w d g e ++ pieces w f h e
pieces w (nodes.left d) (goals.either g h) e = pieces w d g e
pieces w (nodes.right d) (goals.either g h) e = pieces w d h e
pieces w (nodes.exists t d) (goals.exists x g) e = pieces w d g (with_open_term e x t)
pieces w (nodes.new c d) (goals.new b g) e = pieces w d g (with_open_name e b c)
pieces w _ _ e = []

abbrev pub sides_in : List NominalPiece → List (List ℕ)
sides_in [] = []
sides_in (side t ∷ ps) = t ∷ sides_in ps
sides_in (premise p ∷ ps) = sides_in ps

abbrev pub premises_in : List NominalPiece → List NominalPremise
premises_in [] = []
premises_in (side t ∷ ps) = premises_in ps
premises_in (premise p ∷ ps) = p ∷ premises_in ps

-- the rule of the clause with this number at a line
abbrev pub clause_rule : ℕ → ℕ → List ℕ
clause_rule k line = codes "clause " ++ decimal k ++ codes ", line " ++ decimal line

-- the steps by the clause of an atom; there are none where there is no such clause
abbrev pub steps_by_clause : Option NominalClause → (NominalClause → List NominalStep) → List NominalStep
steps_by_clause None steps = []
steps_by_clause (Some c) steps = steps c

-- one deeper; a number that doesn't fit in 64 bits is given as the greatest that does
abbrev pub deeper : ℕ → ℕ
deeper n = min (n + 1) (2 ^ 64 - 1)

-- the step of an atom that was solved by a clause, with these names and terms for its free identifiers
abbrev pub step_by : DerivationWriting → ℕ → List ℕ → ℕ → List Name → List NominalTerm → NominalDerivation → NominalClause → NominalStep
step_by w n judgement k names ts d c = record {
  depth = n;
  judgement = judgement;
  rule = clause_rule k c.line;
  sides = sides_in (pieces w d c.body (open_environment c.locals names ts));
}

-- the steps at a depth, below a goal
abbrev pub steps_below : DerivationWriting → ℕ → NominalDerivation → NominalGoal → OpenEnvironment → List NominalStep
steps_below w n (nodes.atom k names ts d) (goals.atom q us) e =
    steps_by_clause (clause_at (clauses_of w.clauses q) k) (λ c.
    step_by w n (atom_text w q (map (put_in e) us)) k names ts d c ∷ steps_below w (deeper n) d c.body (open_environment c.locals names ts))
steps_below w n (nodes.both d f) (goals.both g h) e = steps_below w n d g e ++ steps_below w n f h e
steps_below w n (nodes.left d) (goals.either g h) e = steps_below w n d g e
steps_below w n (nodes.right d) (goals.either g h) e = steps_below w n d h e
steps_below w n (nodes.exists t d) (goals.exists x g) e = steps_below w n d g (with_open_term e x t)
steps_below w n (nodes.new c d) (goals.new b g) e = steps_below w n d g (with_open_name e b c)
steps_below w n _ _ e = []

-- the step of an atom by a clause, and those below it
abbrev pub clause_steps : DerivationWriting → ℕ → List ℕ → ℕ → List Name → List NominalTerm → NominalDerivation → NominalClause → List NominalStep
clause_steps w n judgement k names ts d c =
    step_by w n judgement k names ts d c ∷ steps_below w (deeper n) d c.body (open_environment c.locals names ts)
