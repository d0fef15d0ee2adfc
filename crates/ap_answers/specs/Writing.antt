-- Terms while they are written.
use Rattle.std.specs.Prelude.{ℕ, ◌+◌, ◌*◌, List, [], ◌∷◌, ◌++◌, Option, None, Some, reverse}
use Rattle.ap_defs.specs.Printing.{Spelling, TermContext, term_at}
use Rattle.ap_defs.specs.Terms.{NominalTerm, term_of}
use Rattle.ap_defs.specs.Unification.{size}
use Rattle.ap_answers.specs.Places.{between, part_after, written_place}
use Rattle.ap_answers.specs.declared.text.Part.{Part}

-- behind what is written: a term at a place, and behind that what is kept, the last first
abbrev pub closed_text : Spelling → List ℕ → NominalTerm → TermContext → List ℕ → List ℕ
closed_text by out t place closers = out ++ (term_at by t place ++ reverse closers)

-- behind what is written: a part, and what stands behind that
abbrev pub part_text : Spelling → List ℕ → Part → List ℕ
part_text by out p = closed_text by out (term_of p.term.now) (written_place p.place) p.closers.items

-- behind the left part of a pair at this place: the right one, and what stands behind that
abbrev pub right_text : Spelling → List ℕ → Part → List ℕ
right_text by out p =
    let place = written_place p.place in
    (out ++ between place) ++ (term_at by (term_of p.term.now) (part_after place) ++ reverse p.closers.items)

-- behind what is written: the right parts that wait, of which the last is written first
abbrev pub waiting_text : Spelling → List ℕ → List Part → List ℕ
waiting_text by out [] = out
waiting_text by out (p ∷ ps) = right_text by (waiting_text by out ps) p

-- the whole text, where there is a next part and where there is none
abbrev pub text_left : Spelling → List ℕ → List Part → Option Part → List ℕ
text_left by out ps None = waiting_text by out ps
text_left by out ps (Some p) = waiting_text by (part_text by out p) ps

-- how much is left to do
abbrev pub part_work : Part → ℕ
part_work p = 2 * size (term_of p.term.now)

abbrev pub next_work : Option Part → ℕ
next_work None = 0
next_work (Some p) = part_work p

abbrev pub waiting_work : List Part → ℕ
waiting_work [] = 0
waiting_work (p ∷ ps) = 1 + part_work p + waiting_work ps
