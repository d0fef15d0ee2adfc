-- Outputs are of a kind, and are counted by it, without their paths as with them.
use Rattle.std.proofs.Common.{◌≡◌, suc, Bool, true, false, List, [], ◌∷◌, length, map, refl, ap, ◌∙◌}
use Rattle.std.specs.Prelude.{if◌then◌else◌, filter}
use Rattle.ap_defs.specs.Answers.{NominalOut, cut, found, stuck}
use Rattle.ap_defs.specs.Lines.{count_of, is_cut, is_found, is_stuck}
use Rattle.ap_backchain.specs.Ends.{without_path}

pub count_without : (test : NominalOut → Bool) → ((o : NominalOut) → test (without_path o) ≡ test o) → (os : List NominalOut) → count_of test (map without_path os) ≡ count_of test os
count_without test same [] = refl
count_without test same (o ∷ os) =
    ap (λ (b : Bool). length (if b then (without_path o ∷ filter test (map without_path os)) else filter test (map without_path os))) (same o)
    ∙ elim (test o) as (λ b. length (if b then (without_path o ∷ filter test (map without_path os)) else filter test (map without_path os))
    ≡ length (if b then (o ∷ filter test os) else filter test os)) [ true ↦ ap suc (count_without test same os) | false ↦ count_without test same os ]

pub found_without : (o : NominalOut) → is_found (without_path o) ≡ is_found o
found_without (found p a) = refl
found_without (cut p) = refl
found_without (stuck p) = refl

pub cut_without : (o : NominalOut) → is_cut (without_path o) ≡ is_cut o
cut_without (found p a) = refl
cut_without (cut p) = refl
cut_without (stuck p) = refl

pub stuck_without : (o : NominalOut) → is_stuck (without_path o) ≡ is_stuck o
stuck_without (found p a) = refl
stuck_without (cut p) = refl
stuck_without (stuck p) = refl
