-- Obligations that wait.
use Rattle.std.proofs.Common.{◌≡◌, ◌<◌, ◌≤◌, ◌+◌, ℕ, zero, suc, min, List, [], ◌∷◌, ◌++◌, map, length, drop, get_or, refl, sym, ap, ap₂, ◌∙◌, arith, add-one, append_assoc, drop-cons}
use Rattle.std.proofs.lemmas.List.{append-nil}
use Rattle.std.specs.Prelude.{slice_get, Some, None}
use denote.Ref.{Bor}
use Rattle.ap_answers.specs.Locals.{lent_texts}
use Rattle.ap_defs.specs.declared.goals.Local.{Local}
use Rattle.ap_defs.specs.declared.terms.Name.{Name}
use Rattle.ap_defs.specs.declared.terms.Term.{Term}
use Rattle.ap_defs.specs.Derivations.{derivation_of}
use Rattle.ap_defs.specs.Goals.{Clauses}
use Rattle.ap_defs.specs.Terms.{NominalTerm, term_of}
use Rattle.ap_defs.specs.Types.{local_of, locals_of}
use Rattle.ap_checks.specs.Checks.{node_count}
use Rattle.ap_spelling.specs.Words.{NominalGiven, Numbered, kept_words, numbered_next}
use Rattle.ap_steps.specs.declared.givens.Obligation.{Obligation}
use Rattle.ap_steps.specs.Givens.{names_given, vars_given}
use Rattle.ap_steps.specs.Obligations.{givens_at, givens_left, obligation_nodes}

-- the last of those that wait comes first
pub last_givens : (cs : Clauses) (ps : List Obligation) (p : Obligation) → givens_left cs (ps ++ p ∷ []) ≡ givens_at cs p ++ givens_left cs ps
last_givens cs [] p = sym (append-nil (givens_at cs p))
last_givens cs (q ∷ ps) p = ap (λ xs. xs ++ givens_at cs q) (last_givens cs ps p) ∙ append_assoc (givens_at cs p) (givens_left cs ps) (givens_at cs q)

pub last_obligation : (ps : List Obligation) (p : Obligation) → obligation_nodes (ps ++ p ∷ []) ≡ node_count (derivation_of p.derivation.now) + obligation_nodes ps
last_obligation [] p = omega arith
last_obligation (q ∷ ps) p = let more = last_obligation ps p in omega (arith, more)

no_words : (as' : List Name) → names_given as' [] ≡ []
no_words [] = refl
no_words (a ∷ as') = refl

no_terms : (ts : List NominalTerm) → vars_given ts [] ≡ []
no_terms [] = refl
no_terms (t ∷ ts) = refl

-- past the end of one of the lists nothing is given
pub no_names_left : (as' : List Name) (ws : List (Bor (List ℕ))) (i : ℕ) → min (length as') (length ws) ≤ i → names_given (drop i as') (lent_texts (drop i ws)) ≡ []
no_names_left [] ws zero h = refl
no_names_left [] ws (suc i) h = refl
no_names_left (a ∷ as') [] zero h = refl
no_names_left (a ∷ as') [] (suc i) h = no_words (drop i as')
no_names_left (a ∷ as') (w ∷ ws) zero h = absurd (omega (arith, h))
no_names_left (a ∷ as') (w ∷ ws) (suc i) h = no_names_left as' ws i (omega (arith, h))

pub no_vars_left : (ts : List Term) (ws : List (Bor (List ℕ))) (i : ℕ) → min (length ts) (length ws) ≤ i → vars_given (map term_of (drop i ts)) (lent_texts (drop i ws)) ≡ []
no_vars_left [] ws zero h = refl
no_vars_left [] ws (suc i) h = refl
no_vars_left (t ∷ ts) [] zero h = refl
no_vars_left (t ∷ ts) [] (suc i) h = no_terms (map term_of (drop i ts))
no_vars_left (t ∷ ts) (w ∷ ws) zero h = absurd (omega (arith, h))
no_vars_left (t ∷ ts) (w ∷ ws) (suc i) h = no_vars_left ts ws i (omega (arith, h))

-- the identifier of a number, if there is one
pub local_past : (ls : List Local) (n : ℕ) → length ls ≤ n → slice_get (locals_of ls) n ≡ None
local_past [] n h = refl
local_past (l ∷ ls) zero h = absurd (omega (arith, h))
local_past (l ∷ ls) (suc n) h = local_past ls n (omega (arith, h))

pub local_there : (ls : List Local) (n : ℕ) (l : Local) → n < length ls → l ≡ get_or ls n l → slice_get (locals_of ls) n ≡ Some (local_of l)
local_there [] n l h e = absurd (omega (arith, h))
local_there (x ∷ ls) zero l h e = ap (λ (y : Local). Some (local_of y)) (sym e)
local_there (x ∷ ls) (suc n) l h e = local_there ls n l (omega (arith, h)) e

-- something is given, and what is below waits
pub given_next : (g0 g1 b d w0 w1 : List NominalGiven) → g1 ≡ g0 ++ b → w1 ≡ d ++ w0 → g1 ++ w1 ≡ g0 ++ ((b ++ d) ++ w0)
given_next g0 g1 b d w0 w1 e h = ap₂ (λ (xs ys : List NominalGiven). xs ++ ys) e h ∙ append_assoc g0 b (d ++ w0) ∙ ap (λ xs. g0 ++ xs) (sym (append_assoc b d w0))

pub clause_next : (g0 g1 g2 n v d w0 w1 : List NominalGiven) → g1 ≡ g0 ++ n → g2 ≡ g1 ++ v → w1 ≡ d ++ w0 → g2 ++ w1 ≡ g0 ++ ((n ++ (v ++ d)) ++ w0)
clause_next g0 g1 g2 n v d w0 w1 e f h =
    ap₂ (λ (xs ys : List NominalGiven). xs ++ ys) (f ∙ ap (λ xs. xs ++ v) e) h
    ∙ append_assoc (g0 ++ n) v (d ++ w0) ∙ append_assoc g0 n (v ++ (d ++ w0))
    ∙ ap (λ xs. g0 ++ xs) (ap (λ xs. n ++ xs) (sym (append_assoc v d w0)) ∙ sym (append_assoc n (v ++ d) w0))

-- the next of the words that are kept
pub kept_next : (ws : List (Bor (List ℕ))) (i : ℕ) (w : Bor (List ℕ)) (before after all : Numbered) → i < length ws → w ≡ get_or ws i w → after ≡ numbered_next w.now 0 before
    → kept_words (lent_texts (drop i ws)) before ≡ all → kept_words (lent_texts (drop (i + 1) ws)) after ≡ all
kept_next ws i w before after all h e is old =
    let first : drop i ws ≡ w ∷ drop (i + 1) ws = drop-cons ws i w h ∙ ap₂ (λ (x : Bor (List ℕ)) n. x ∷ drop n ws) (sym e) (sym (add-one i)) in
    ap (kept_words (lent_texts (drop (i + 1) ws))) is ∙ sym (ap (λ (vs : List (Bor (List ℕ))). kept_words (lent_texts vs) before) first) ∙ old
