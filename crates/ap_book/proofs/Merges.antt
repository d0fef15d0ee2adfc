-- The merged outputs as values, and as the definition has them.
use Rattle.std.proofs.Common.{◌≡◌, ℕ, true, false, if◌then◌else◌, List, [], ◌∷◌, ◌++◌, refl, ap, ◌∙◌}
use Rattle.ap_paths.specs.declared.entries.Entry.{Entry}
use Rattle.ap_paths.specs.declared.entries.Entry.TheVariants.{Split, Done, Skip, Stop}
use Rattle.ap_paths.specs.declared.runs.Run.{Run}
use Rattle.ap_defs.specs.Answers.{NominalOut}
use Rattle.ap_paths.specs.Runs.{outs_of_runs}
use Rattle.ap_paths.proofs.RunLemmas.{runs_both}
use Rattle.ap_paths.specs.Entries.{entries_of}
use Rattle.ap_paths.specs.Merging.{is_path_before, insert, ends_from, all_outs, merged}
use Rattle.ap_book.specs.Values.{ended_from, all_values, merged_values}

-- the view of outputs goes through all this
viewed : List (List ℕ × List Run) → List (List ℕ × List NominalOut)
viewed [] = []
viewed (e ∷ es) = (e.0, outs_of_runs e.1) ∷ viewed es

viewed_insert : (p : List ℕ) (os : List Run) (es : List (List ℕ × List Run)) → viewed (insert p os es) ≡ insert p (outs_of_runs os) (viewed es)
unfolding viewed
viewed_insert p os [] = refl
viewed_insert p os (e ∷ es) =
    elim (is_path_before p e.0) as (λ b. viewed (if b then (p, os) ∷ e ∷ es else e ∷ insert p os es) ≡ (if b then (p, outs_of_runs os) ∷ (e.0, outs_of_runs e.1) ∷ viewed es else (e.0, outs_of_runs e.1) ∷ insert p (outs_of_runs os) (viewed es)))
    [ true ↦ refl | false ↦ ap (λ l. (e.0, outs_of_runs e.1) ∷ l) (viewed_insert p os es) ]

viewed_ends : (ends : List (List ℕ × List Run)) (history : List Entry) → viewed (ended_from ends history) ≡ ends_from (viewed ends) (entries_of history)
unfolding viewed
viewed_ends ends [] = refl
viewed_ends ends (Split seat p ks ∷ es) = viewed_ends ends es
viewed_ends ends (Done seat p os ∷ es) = viewed_ends (insert p os ends) es ∙ ap (λ l. ends_from l (entries_of es)) (viewed_insert p os ends)
viewed_ends ends (Skip seat p n ∷ es) = viewed_ends ends es
viewed_ends ends (Stop seat ∷ es) = viewed_ends ends es

viewed_outs : (es : List (List ℕ × List Run)) → outs_of_runs (all_values es) ≡ all_outs (viewed es)
unfolding viewed
viewed_outs [] = refl
viewed_outs (e ∷ es) = runs_both e.1 (all_values es) ∙ ap (λ l. outs_of_runs e.1 ++ l) (viewed_outs es)

pub merged_view : (history : List Entry) → outs_of_runs (merged_values history) ≡ merged (entries_of history)
unfolding viewed
merged_view history = viewed_outs (ended_from [] history) ∙ ap all_outs (viewed_ends [] history)

pub ended_more : (ends : List (List ℕ × List Run)) (e : Entry) (es : List Entry) → ended_from ends (e ∷ es) ≡ ended_from (ended_from ends (e ∷ [])) es
ended_more ends (Split seat p ks) es = refl
ended_more ends (Done seat p os) es = refl
ended_more ends (Skip seat p n) es = refl
ended_more ends (Stop seat) es = refl
