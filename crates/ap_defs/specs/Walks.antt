-- Terms while they are made anew, part by part: what is made of a term's parts is what `f` makes of each.
use Rattle.std.specs.Prelude.{ℕ, ◌+◌, ◌*◌, List, [], ◌∷◌, ◌++◌}
use Rattle.ap_defs.specs.declared.walks.TermFrame.{TermFrame}
use Rattle.ap_defs.specs.declared.walks.TermFrame.TheVariants as round_term
use Rattle.ap_defs.specs.declared.walks.TermPart.{TermPart}
use Rattle.ap_defs.specs.declared.walks.TermPart.TheVariants as of_term
use Rattle.ap_defs.specs.Spines.{term_in}
use Rattle.std.specs.Borrow.{Bor}
use Rattle.ap_defs.specs.declared.terms.Term.{Term}
use Rattle.ap_defs.specs.declared.walks.Parts.{Parts}
use Rattle.ap_defs.specs.Terms.{NominalTerm, abs, app, name, pair, susp, term_of, unit}
use Rattle.ap_defs.specs.Unification.{size}

-- what is made of a part
abbrev pub term_made : (NominalTerm → NominalTerm) → TermPart → NominalTerm
term_made f (of_term.Left t) = f (term_of t.now)
term_made f (of_term.Made t) = term_of t

-- what was made, in what stands round it
abbrev pub term_framed : (NominalTerm → NominalTerm) → TermFrame → NominalTerm → NominalTerm
term_framed f (round_term.In l) t = term_in l t
term_framed f (round_term.Before u) t = pair t (f (term_of u.now))

-- the first is outermost
abbrev pub term_in_frames : (NominalTerm → NominalTerm) → List TermFrame → NominalTerm → NominalTerm
term_in_frames f [] t = t
term_in_frames f (k ∷ ks) t = term_framed f k (term_in_frames f ks t)

-- how much is left to do
abbrev pub term_work : TermPart → ℕ
term_work (of_term.Left t) = 3 * size (term_of t.now)
term_work (of_term.Made t) = 0

abbrev pub term_frame_work : TermFrame → ℕ
term_frame_work (round_term.In l) = 1
term_frame_work (round_term.Before t) = 2 + 3 * size (term_of t.now)

abbrev pub term_frames_work : List TermFrame → ℕ
term_frames_work [] = 0
term_frames_work (k ∷ ks) = term_frame_work k + term_frames_work ks

-- The parts of a term, itself first, and those of a left part before those of the right one.
abbrev pub parts_of : NominalTerm → List NominalTerm
parts_of (pair t u) = pair t u ∷ (parts_of t ++ parts_of u)
parts_of (app f t) = app f t ∷ parts_of t
parts_of (abs a t) = abs a t ∷ parts_of t
parts_of unit = unit ∷ []
parts_of (name a) = name a ∷ []
parts_of (susp p x) = susp p x ∷ []

-- those of terms that wait, of which the last comes first
abbrev pub waiting_parts : List (Bor Term) → List NominalTerm
waiting_parts [] = []
waiting_parts (t ∷ ts) = waiting_parts ts ++ parts_of (term_of t.now)

abbrev pub parts_left : Parts → List NominalTerm
parts_left p = waiting_parts p.waiting.items
