-- A text many times over.
use Rattle.std.proofs.Common.{◌≡◌, ℕ, zero, suc, ◌+◌, List, ◌++◌, sym, ap, ◌∙◌, append_assoc, add-one}
use Rattle.std.proofs.lemmas.List.{append-nil}
use Rattle.ap_steps.specs.Depths.{repeated}

repeated_end : (n : ℕ) (text : List ℕ) → repeated (suc n) text ≡ repeated n text ++ text
repeated_end zero text = append-nil text
repeated_end (suc n) text = ap (λ bs. text ++ bs) (repeated_end n text) ∙ sym (append_assoc text (repeated n text) text)

-- once more
pub repeated_more : (n : ℕ) (text start : List ℕ) → start ++ repeated (n + 1) text ≡ (start ++ repeated n text) ++ text
repeated_more n text start =
    ap (λ m. start ++ repeated m text) (add-one n) ∙ ap (λ bs. start ++ bs) (repeated_end n text) ∙ sym (append_assoc start (repeated n text) text)
