-- Goals that begin with a word and a bracket: their terms are read once.
use Rattle.std.proofs.Common.{◌≡◌, ℕ, suc, ◌+◌, List, ◌∷◌, length, Option, None, Some, refl, arith, subst}
use Rattle.ap_trees.specs.Readers.{separated, after_comma, after_close}
use Rattle.ap_trees.specs.Symbols.{Sym, Ident, Open, Close}
use Rattle.ap_trees.specs.Terms.{Term, Apply, argument_terms}
use Rattle.ap_trees.specs.TermGrammar.{AreTerms}
use Rattle.ap_trees.specs.TermReader.{read_term, word_term, application}
use Rattle.ap_trees.specs.Goals.{Atom}
use Rattle.ap_trees.proofs.Lists.{some_is}
use Rattle.ap_trees.proofs.TypeLaws.{close_is}
use Rattle.ap_trees.proofs.TermLaws.{term_sound, terms_sound, terms_only, closes}
use Rattle.ap_syntax.specs.Marks.{after_equal, after_fresh, read_ident}
use Rattle.ap_syntax.specs.GoalReader.{terms_inside, atom_arguments, read_atom, atom_goal, relation_or_atom, read_flat, parts_inside, applied_by, applied_goal}

-- the terms, up to what follows them
abbrev parts_of : List Sym → Option (List Term × List Sym)
parts_of us = separated after_comma (read_term (suc (length us))) (length us) us

one_more : (n : ℕ) → n + 1 ≡ suc n
one_more n = omega arith

-- those of the atom, which are read less deep
atom_parts : (us after rest : List Sym) (parts : List Term) → parts_of us ≡ Some (parts, after) → after_close after ≡ Some rest → separated after_comma (read_term (length us)) (length us) us ≡ Some (parts, Close ∷ rest)
atom_parts us after rest parts got close =
    let n = suc (length us) in
    let are : AreTerms us parts after = some_is (parts_of us) (parts, after) (λ x. AreTerms us x.0 x.1) got (terms_sound (read_term n) (term_sound n) (length us) us) in
    let ends : after ≡ Close ∷ rest = some_is (after_close after) rest (λ vs. after ≡ Close ∷ vs) close (close_is after) in
    terms_only (subst (AreTerms us parts) ends are) (length us) (length us) (omega arith) (omega arith) closes refl

atom_is : (w : List ℕ) (us after rest : List Sym) (parts : List Term) → parts_of us ≡ Some (parts, after) → after_close after ≡ Some rest → atom_goal (Ident w ∷ Open ∷ us) ≡ Some (Atom w parts, rest)
unfolding atom_goal read_atom atom_arguments terms_inside
atom_is w us after rest parts got close = rw (atom_parts us after rest parts got close) refl

by_fresh : (w : List ℕ) (us after rest : List Sym) (parts : List Term) (fresh : Option (List Sym)) → parts_of us ≡ Some (parts, after) → after_close after ≡ Some rest
    → relation_or_atom (Ident w ∷ Open ∷ us) (Apply w (argument_terms parts)) None fresh ≡ applied_by w parts rest None fresh
by_fresh w us after rest parts (Some vs) got close = refl
by_fresh w us after rest parts None got close = atom_is w us after rest parts got close

by_equal : (w : List ℕ) (us after rest : List Sym) (parts : List Term) (equal fresh : Option (List Sym)) → parts_of us ≡ Some (parts, after) → after_close after ≡ Some rest
    → relation_or_atom (Ident w ∷ Open ∷ us) (Apply w (argument_terms parts)) equal fresh ≡ applied_by w parts rest equal fresh
by_equal w us after rest parts (Some vs) fresh got close = refl
by_equal w us after rest parts None fresh got close = by_fresh w us after rest parts fresh got close

by_close : (w : List ℕ) (us after : List Sym) (parts : List Term) (close : Option (List Sym)) → parts_of us ≡ Some (parts, after) → after_close after ≡ close → read_flat (Ident w ∷ Open ∷ us) ≡ applied_goal w us
unfolding read_flat read_term word_term application applied_goal parts_inside
by_close w us after parts None got close = rw (one_more (length us), got, close) refl
by_close w us after parts (Some rest) got close = rw (one_more (length us), got, close) (by_equal w us after rest parts (after_equal rest) (after_fresh rest) got close)

by_parts : (w : List ℕ) (us : List Sym) (parts : Option (List Term × List Sym)) → parts_of us ≡ parts → read_flat (Ident w ∷ Open ∷ us) ≡ applied_goal w us
unfolding read_flat read_term word_term application applied_goal parts_inside
by_parts w us None got = rw (one_more (length us), got) refl
by_parts w us (Some x) got = by_close w us x.1 x.0 (after_close x.1) got refl

-- what is read behind the word and the bracket is the goal
pub flat_applied : (w : List ℕ) (us : List Sym) → read_flat (Ident w ∷ Open ∷ us) ≡ applied_goal w us
flat_applied w us = by_parts w us (parts_of us) refl

-- an atom whose parts are read
pub atom_gives : (ts us rest : List Sym) (w : List ℕ) (args : List Term) → read_ident ts ≡ Some (w, us) → atom_arguments us ≡ Some (args, rest) → read_atom ts ≡ Some ((w, args), rest)
unfolding read_atom
atom_gives ts us rest w args word got = rw (word, got) refl

-- what is behind the terms of a word
pub with_parts : (w : List ℕ) (ts rest : List Sym) (parts : List Term) → parts_inside ts ≡ Some (parts, rest) → applied_goal w ts ≡ applied_by w parts rest (after_equal rest) (after_fresh rest)
unfolding applied_goal
with_parts w ts rest parts got = rw got refl
