-- Lines of proofs one after the other.
use Rattle.std.proofs.Common.{◌≡◌, ◌<◌, ◌≤◌, ◌+◌, ◌-◌, ℕ, suc, List, [], ◌∷◌, ◌++◌, map, flat_map, length, take, drop, get_or, sym, ap, ap₂, ◌∙◌, add-one, append_assoc, arith}
use Rattle.std.proofs.Math.Seq.{drop-cons, take-length}
use Rattle.std.specs.Fmt.{decimal}
use Rattle.ap_defs.specs.Answers.{NominalOut}
use Rattle.ap_defs.specs.Derivations.{derivation_of, path}
use Rattle.ap_defs.specs.Goals.{NominalProgram}
use Rattle.ap_defs.specs.declared.outcomes.Proved.{Proved}
use Rattle.ap_bundle.specs.Bundles.{proved_of}
use Rattle.ap_cover.specs.Covers.{cover_of, outs_asked}
use Rattle.ap_covering.specs.CoverLines.{cover_line, dotted, path_text}
use Rattle.ap_covering.specs.ProofLines.{cover_lines}

-- with the line of the proof at a place the lines of those after it are left
pub next_line : (p : NominalProgram) (depth : ℕ) (ds : List Proved) (i : ℕ) (d : Proved) (os : List NominalOut) (out more all : List ℕ) → i < length ds
    → d ≡ get_or ds i d → os ≡ outs_asked p depth d.query
    → more ≡ out ++ cover_line (i + 1) d.query (cover_of (path (derivation_of d.derivation)) os)
    → out ++ cover_lines p depth (i + 1) (map proved_of (drop i ds)) ≡ all → more ++ cover_lines p depth (i + 1 + 1) (map proved_of (drop (i + 1) ds)) ≡ all
next_line p depth ds i d os out more all h at outs is before =
    let line = cover_line (i + 1) d.query (cover_of (path (derivation_of d.derivation)) (outs_asked p depth d.query)) in
    let rest = cover_lines p depth (suc (i + 1)) (map proved_of (drop (suc i) ds)) in
    let here : drop i ds ≡ d ∷ drop (suc i) ds = drop-cons ds i d h ∙ ap (λ x. x ∷ drop (suc i) ds) (sym at) in
    ap₂ (λ (n k : ℕ). more ++ cover_lines p depth n (map proved_of (drop k ds))) (add-one (i + 1)) (add-one i)
    ∙ ap (λ xs. xs ++ rest) (is ∙ ap (λ xs. out ++ cover_line (i + 1) d.query (cover_of (path (derivation_of d.derivation)) xs)) outs)
    ∙ append_assoc out line rest
    ∙ ap (λ xs. out ++ cover_lines p depth (i + 1) (map proved_of xs)) (sym here)
    ∙ before

others : {A : Type 0} (x : A) (xs : List A) → take (length (x ∷ xs) - 1) (drop 1 (x ∷ xs)) ≡ xs
others x xs = let k : length (x ∷ xs) - 1 ≡ length xs = omega arith in ap (λ n. take n xs) k ∙ take-length xs

-- the first choice of a path, and then the others
pub path_written : (path old first new : List ℕ) → 1 ≤ length path → first ≡ old ++ decimal (get_or path 0 0)
    → new ≡ first ++ flat_map dotted (take (length path - 1) (drop 1 path)) → new ≡ old ++ path_text path
path_written [] old first new l e f = absurd (omega arith)
path_written (k ∷ ks) old first new l e f =
    f ∙ ap₂ (λ (xs : List ℕ) (js : List ℕ). xs ++ flat_map dotted js) e (others k ks) ∙ append_assoc old (decimal k) (flat_map dotted ks)
