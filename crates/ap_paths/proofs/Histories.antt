-- A history that is one entry longer.
use Rattle.std.proofs.Common.{◌≡◌, ℕ, Bool, true, false, ◌||◌, List, [], ◌∷◌, ◌++◌, refl, sym, ap, ◌∙◌}
use Rattle.std.proofs.lemmas.Bool.{and_parts}
use Rattle.ap_paths.specs.Entries.{TreeEntry}
use Rattle.ap_paths.specs.Merging.{EndedPath, ends_after, ends_from}
use Rattle.ap_paths.specs.History.{open_after, open_from, open_of, is_stop, has_stop, may_enter, legal_from, is_reached, are_reached, is_legal}

or-false : (b : Bool) → b || false ≡ b
or-false true = refl
or-false false = refl

or_assoc : (a b c : Bool) → a || (b || c) ≡ (a || b) || c
or_assoc true b c = refl
or_assoc false b c = refl

pub open_from-last : (ps : List (List ℕ)) (es : List TreeEntry) (e : TreeEntry) → open_from ps (es ++ e ∷ []) ≡ open_after (open_from ps es) e
open_from-last ps [] e = refl
open_from-last ps (x ∷ xs) e = open_from-last (open_after ps x) xs e

pub open_of-last : (es : List TreeEntry) (e : TreeEntry) → open_of (es ++ e ∷ []) ≡ open_after (open_of es) e
open_of-last es e = open_from-last ([] ∷ []) es e

pub has_stop-last : (es : List TreeEntry) (e : TreeEntry) → has_stop (es ++ e ∷ []) ≡ has_stop es || is_stop e
has_stop-last [] e = elim (is_stop e) as (λ b. b || false ≡ false || b) [ true ↦ refl | false ↦ refl ]
has_stop-last (x ∷ xs) e = ap (λ b. is_stop x || b) (has_stop-last xs e) ∙ elim (is_stop x) as (λ b. b || (has_stop xs || is_stop e) ≡ (b || has_stop xs) || is_stop e) [ true ↦ refl | false ↦ refl ]

legal_from-last : (ps : List (List ℕ)) (b : Bool) (es : List TreeEntry) (e : TreeEntry) → legal_from ps b es ≡ true → may_enter (open_from ps es) (b || has_stop es) e ≡ true → legal_from ps b (es ++ e ∷ []) ≡ true
legal_from-last ps b [] e h may = rw (sym (or-false b)) (rw may refl)
legal_from-last ps b (x ∷ xs) e h may =
    let parts = and_parts (may_enter ps b x) (legal_from (open_after ps x) (b || is_stop x) xs) h in
    let same : b || (is_stop x || has_stop xs) ≡ (b || is_stop x) || has_stop xs = or_assoc b (is_stop x) (has_stop xs) in
    let later = legal_from-last (open_after ps x) (b || is_stop x) xs e parts.1 (rw (sym same) may) in
    rw (parts.0, later) refl

pub ends_from-last : (ends : List EndedPath) (es : List TreeEntry) (e : TreeEntry) → ends_from ends (es ++ e ∷ []) ≡ ends_after (ends_from ends es) e
ends_from-last ends [] e = refl
ends_from-last ends (x ∷ xs) e = ends_from-last (ends_after ends x) xs e

are_reached-last : (ends : List EndedPath) (es : List TreeEntry) (e : TreeEntry) → are_reached ends es ≡ true → is_reached (ends_from ends es) e ≡ true → are_reached ends (es ++ e ∷ []) ≡ true
are_reached-last ends [] e h reached = rw reached refl
are_reached-last ends (x ∷ xs) e h reached =
    let parts = and_parts (is_reached ends x) (are_reached (ends_after ends x) xs) h in
    let later = are_reached-last (ends_after ends x) xs e parts.1 reached in
    rw (parts.0, later) refl

-- each path of a legal history was open, and before each that was left out so many answers had ended
pub legal_parts : (es : List TreeEntry) → is_legal es ≡ true → (legal_from ([] ∷ []) false es ≡ true) × (are_reached [] es ≡ true)
legal_parts es h = and_parts (legal_from ([] ∷ []) false es) (are_reached [] es) h

pub is_legal-last : (es : List TreeEntry) (e : TreeEntry) → is_legal es ≡ true → may_enter (open_of es) (has_stop es) e ≡ true → is_reached (ends_from [] es) e ≡ true → is_legal (es ++ e ∷ []) ≡ true
is_legal-last es e h may reached =
    let parts = legal_parts es h in
    let opened = legal_from-last ([] ∷ []) false es e parts.0 may in
    let enough = are_reached-last [] es e parts.1 reached in
    rw (opened, enough) refl

pub or_false : (b : Bool) → b ≡ b || false
or_false true = refl
or_false false = refl
