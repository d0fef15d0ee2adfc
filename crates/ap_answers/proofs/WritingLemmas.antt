-- The last of the right parts that wait is written first.
use Rattle.std.proofs.Common.{◌≡◌, ℕ, ◌+◌, ◌<◌, List, [], ◌∷◌, ◌++◌, Option, None, Some, Result, Ok, Err, refl, ap, ◌∙◌, arith, append_assoc}
use Rattle.std.specs.Prelude.{IfOk, reverse}
use Rattle.ap_defs.specs.declared.memory.Memory.{Memory}
use Rattle.ap_defs.specs.Printing.{Spelling}
use Rattle.ap_answers.specs.Writing.{next_work, part_work, right_text, text_left, waiting_text, waiting_work}
use Rattle.ap_answers.specs.declared.text.Part.{Part}

pub waiting_last : (by : Spelling) (out : List ℕ) (ps : List Part) (p : Part) → waiting_text by out (ps ++ p ∷ []) ≡ waiting_text by (right_text by out p) ps
waiting_last by out [] p = refl
waiting_last by out (q ∷ ps) p = ap (λ all. right_text by all q) (waiting_last by out ps p)

pub work_last : (ps : List Part) (p : Part) → waiting_work (ps ++ p ∷ []) ≡ waiting_work ps + (1 + part_work p)
work_last [] p = omega arith
work_last (q ∷ ps) p = let h = work_last ps p in omega (arith, h)

-- a part without parts, and what stands behind it
pub leaf_written : (text o o1 k : List ℕ) → o1 ≡ o ++ text → o1 ++ reverse k ≡ o ++ (text ++ reverse k)
leaf_written text o o1 k e = ap (λ bs. bs ++ reverse k) e ∙ append_assoc o text (reverse k)

-- where parts wait, what is left of one part stands before them
text_behind : (by : Spelling) (out : List ℕ) (ps : List Part) (next : Option Part) → text_left by out ps next ≡ waiting_text by (text_left by out [] next) ps
text_behind by out ps None = refl
text_behind by out ps (Some p) = refl

pub written_behind : (by : Spelling) (out : List ℕ) (ps : List Part) (r : Result (Option Part) Memory) (whole all : List ℕ) → IfOk r (λ next. text_left by out [] next ≡ whole) → whole ≡ all → IfOk r (λ next. text_left by out ps next ≡ waiting_text by all ps)
written_behind by out ps (Ok next) whole all h e = text_behind by out ps next ∙ ap (λ o. waiting_text by o ps) (h ∙ e)
written_behind by out ps (Err m) whole all h e = tt

pub less_behind : (ps : List Part) (r : Result (Option Part) Memory) (n m : ℕ) → IfOk r (λ next. next_work next < n) → n ≡ m → IfOk r (λ next. waiting_work ps + next_work next < waiting_work ps + m)
less_behind ps (Ok next) n m h e = omega (arith, h, e)
less_behind ps (Err x) n m h e = tt
