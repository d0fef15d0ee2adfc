-- Texts with commas between them, the first and then the others.
use Rattle.std.proofs.Common.{◌≡◌, ℕ, ◌≤◌, List, [], ◌∷◌, ◌++◌, map, length, drop, take, ◌-◌, get_or, sym, ap, ◌∙◌, arith, append_assoc}
use Rattle.std.specs.Prelude.{codes}
use Rattle.std.proofs.lemmas.List.{append-nil}
use Rattle.std.proofs.Math.Seq.{take-length}
use Rattle.ap_defs.specs.declared.terms.Cond.{Cond}
use Rattle.ap_defs.specs.Printing.{Spelling}
use Rattle.ap_defs.specs.Lines.{ShownBind, bind_text, cond_text, comma_joined, where_text, shown_text}
use Rattle.ap_answers.specs.declared.bindings.Binding.{Binding}
use Rattle.ap_answers.specs.Bindings.{bind_of, binds_of}
use Rattle.ap_answers.specs.Separated.{further_binds, further_conds}

joined_binds : (by : Spelling) (b : ShownBind) (bs : List ShownBind) → comma_joined (map (bind_text by) (b ∷ bs)) ≡ bind_text by b ++ further_binds by bs
joined_binds by b [] = sym (append-nil (bind_text by b))
joined_binds by b (d ∷ bs) =
    append_assoc (bind_text by b) (codes ", ") (comma_joined (map (bind_text by) (d ∷ bs))) ∙ ap (λ text. bind_text by b ++ (codes ", " ++ text)) (joined_binds by d bs)

joined_conds : (by : Spelling) (c : Cond) (cs : List Cond) → comma_joined (map (cond_text by) (c ∷ cs)) ≡ cond_text by c ++ further_conds by cs
joined_conds by c [] = sym (append-nil (cond_text by c))
joined_conds by c (d ∷ cs) =
    append_assoc (cond_text by c) (codes ", ") (comma_joined (map (cond_text by) (d ∷ cs))) ∙ ap (λ text. cond_text by c ++ (codes ", " ++ text)) (joined_conds by d cs)

others : {A : Type 0} (x : A) (xs : List A) → take (length (x ∷ xs) - 1) (drop 1 (x ∷ xs)) ≡ xs
others x xs = let as_many : length (x ∷ xs) - 1 ≡ length xs = omega arith in ap (λ n. take n xs) as_many ∙ take-length xs

pub conds_written : (by : Spelling) (cs : List Cond) (c : Cond) (o o1 o2 o3 : List ℕ) → 1 ≤ length cs → c ≡ get_or cs 0 c
    → o1 ≡ o ++ codes " where " → o2 ≡ o1 ++ cond_text by c → o3 ≡ o2 ++ further_conds by (take (length cs - 1) (drop 1 cs)) → o3 ≡ o ++ where_text by cs
conds_written by [] c o o1 o2 o3 h e a b d = absurd (omega arith)
conds_written by (f ∷ cs) c o o1 o2 o3 h e a b d =
    rw (d, others f cs, b, a, e) (append_assoc (o ++ codes " where ") (cond_text by f) (further_conds by cs) ∙ append_assoc o (codes " where ") (cond_text by f ++ further_conds by cs)
    ∙ ap (λ text. o ++ (codes " where " ++ text)) (sym (joined_conds by f cs)))

pub binds_written : (by : Spelling) (bs : List Binding) (b : Binding) (cs : List Cond) (o o1 o2 : List ℕ) → 1 ≤ length bs → b ≡ get_or bs 0 b
    → o1 ≡ o ++ bind_text by (bind_of b) → o2 ≡ o1 ++ further_binds by (binds_of (take (length bs - 1) (drop 1 bs))) → o2 ++ where_text by cs ≡ o ++ shown_text by (binds_of bs) cs
binds_written by [] b cs o o1 o2 h e a d = absurd (omega arith)
binds_written by (f ∷ bs) b cs o o1 o2 h e a d =
    rw (d, others f bs, a, e) (ap (λ text. text ++ where_text by cs) (append_assoc o (bind_text by (bind_of f)) (further_binds by (binds_of bs)))
    ∙ append_assoc o (bind_text by (bind_of f) ++ further_binds by (binds_of bs)) (where_text by cs)
    ∙ ap (λ text. o ++ (text ++ where_text by cs)) (sym (joined_binds by (bind_of f) (binds_of bs))))
