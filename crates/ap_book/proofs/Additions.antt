-- The answers before a path, entry by entry.
use Rattle.std.proofs.Common.{◌≡◌, ℕ, ◌+◌, ◌<◌, true, false, if◌then◌else◌, List, [], ◌∷◌, length, get_or, take, refl, ap, ◌∙◌, arith}
use Rattle.std.proofs.lemmas.List.{take_more}
use Rattle.ap_defs.specs.Answers.{NominalOut}
use Rattle.ap_paths.specs.declared.entries.Entry.{Entry}
use Rattle.ap_paths.specs.Entries.{TreeEntry, split, done, skip, stop, entry_of, entries_of}
use Rattle.ap_paths.specs.Limits.{found_in}
use Rattle.ap_paths.specs.Merging.{is_path_before, EndedPath, insert, ends_after, ends_from, found_before}
use Rattle.ap_paths.specs.History.{answers_before}
use Rattle.ap_paths.proofs.Histories.{ends_from-last}
use Rattle.ap_book.specs.Counts.{adds}
use Rattle.ap_book.proofs.Keeping.{entries_of-last}

found_insert : (p q : List ℕ) (os : List NominalOut) (ends : List EndedPath) → found_before p (insert q os ends) ≡ (if is_path_before q p then found_in os else 0) + found_before p ends
found_insert p q os [] = refl
found_insert p q os (e ∷ es) =
    elim (is_path_before q e.0) as (λ b. found_before p (if b then (q, os) ∷ e ∷ es else e ∷ insert q os es) ≡ (if is_path_before q p then found_in os else 0) + found_before p (e ∷ es))
    [ true ↦ refl | false ↦ omega (arith, found_insert p q os es) ]

found_after : (p : List ℕ) (ends : List EndedPath) (e : TreeEntry) → found_before p (ends_after ends e) ≡ adds p e + found_before p ends
found_after p ends (split s q ks) = omega arith
found_after p ends (done s q os) = found_insert p q os ends
found_after p ends (skip s q n) = omega arith
found_after p ends (stop s) = omega arith

-- one more entry was counted
pub counted_next : (p : List ℕ) (xs : List Entry) (i : ℕ) (d : Entry) → i < length xs → answers_before p (entries_of (take (i + 1) xs)) ≡ adds p (entry_of (get_or xs i d)) + answers_before p (entries_of (take i xs))
counted_next p xs i d l =
    ap (λ (es : List Entry). answers_before p (entries_of es)) (take_more xs i d l)
    ∙ ap (answers_before p) (entries_of-last (take i xs) (get_or xs i d))
    ∙ ap (found_before p) (ends_from-last [] (entries_of (take i xs)) (entry_of (get_or xs i d)))
    ∙ found_after p (ends_from [] (entries_of (take i xs))) (entry_of (get_or xs i d))
