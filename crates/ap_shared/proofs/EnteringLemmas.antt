-- The walk that enters a term: each step behind the parts of a term finds their lines last.
use Rattle.std.proofs.Common.{◌≡◌, ℕ, ◌+◌, ◌<◌, List, [], ◌∷◌, ◌++◌, length, map, Option, Some, refl, ap, ap₂, sym, subst, ◌∙◌, arith, append_assoc, length-append}
use Rattle.std.specs.Prelude.{reverse}
use Rattle.std.proofs.lemmas.List.{map-append, reverse-append}
use Rattle.ap_defs.specs.Terms as terms
use Rattle.ap_defs.specs.Terms.{NominalTerm}
use Rattle.ap_bundle.specs.Tables.{with_parts}
use Rattle.ap_shared.specs.declared.entering.Step.{Step}
use Rattle.ap_shared.specs.Entering.{WalkStep, enter, leave, walk_step, steps_waiting, steps_through, taken_by}
use Rattle.ap_shared.specs.Shared.{AreLinesBelow, shared_at}
use Rattle.ap_shared.proofs.SharedLemmas.{at_last, terms_front, below_more}

-- the parts of the term come first, the last of them before the others, and then these
abbrev pub OnTop : NominalTerm → List NominalTerm → List NominalTerm → Type 0
OnTop terms.unit ts rest = ts ≡ rest
OnTop (terms.name a) ts rest = ts ≡ rest
OnTop (terms.pair t u) ts rest = ts ≡ u ∷ (t ∷ rest)
OnTop (terms.app f t) ts rest = ts ≡ t ∷ rest
OnTop (terms.abs a t) ts rest = ts ≡ t ∷ rest
OnTop (terms.susp p x) ts rest = ts ≡ rest

-- the steps lead from a table, and the terms whose lines wait, to this table and this one term
abbrev pub Leads : List WalkStep → List NominalTerm → List NominalTerm → List NominalTerm → NominalTerm → Type 0
Leads [] table ts end t = (table ≡ end) × (ts ≡ t ∷ [])
Leads (enter u ∷ ks) table ts end t = Leads ks (table ++ with_parts u) (u ∷ ts) end t
Leads (leave u ∷ ks) table ts end t = (rest : List NominalTerm) × OnTop u ts rest × Leads ks (table ++ u ∷ []) (u ∷ rest) end t

pub entered : (u : NominalTerm) (ks : List WalkStep) (table ts end : List NominalTerm) (t : NominalTerm) → Leads (enter u ∷ ks) table ts end t → Leads (steps_through u ++ ks) table ts end t
entered terms.unit ks table ts end t l = (ts, refl, l)
entered (terms.name a) ks table ts end t l = (ts, refl, l)
entered (terms.pair v w) ks table ts end t l =
    let all : table ++ (with_parts v ++ (with_parts w ++ terms.pair v w ∷ [])) ≡ ((table ++ with_parts v) ++ with_parts w) ++ terms.pair v w ∷ [] =
    sym (append_assoc table (with_parts v) (with_parts w ++ terms.pair v w ∷ [])) ∙ sym (append_assoc (table ++ with_parts v) (with_parts w) (terms.pair v w ∷ [])) in
    (ts, refl, subst (λ us. Leads ks us (terms.pair v w ∷ ts) end t) all l)
entered (terms.app f v) ks table ts end t l =
    (ts, refl, subst (λ us. Leads ks us (terms.app f v ∷ ts) end t) (sym (append_assoc table (with_parts v) (terms.app f v ∷ []))) l)
entered (terms.abs a v) ks table ts end t l =
    (ts, refl, subst (λ us. Leads ks us (terms.abs a v ∷ ts) end t) (sym (append_assoc table (with_parts v) (terms.abs a v ∷ []))) l)
entered (terms.susp p x) ks table ts end t l = (ts, refl, l)

-- lines that are left over behind the parts of a term
pub record AreLeft (table : List NominalTerm) (u : NominalTerm) (ls : List ℕ) (rest : List NominalTerm) : Type 0 where
  pub others : List ℕ
  pub taken : taken_by table u ls ≡ Some (u, others)
  pub stand : map (shared_at table) others ≡ rest

cons_of : {A : Type 0} (x y : A) (xs ys : List A) → x ∷ xs ≡ y ∷ ys → (x ≡ y) × (xs ≡ ys)
cons_of x y xs ys e = let h : x ≡ y = cc in let t : xs ≡ ys = cc in (h, t)

pub top_left : (table : List NominalTerm) (u : NominalTerm) (ls : List ℕ) (rest : List NominalTerm) → OnTop u (map (shared_at table) ls) rest → AreLeft table u ls rest
top_left table terms.unit ls rest e = record { others = ls; taken = refl; stand = e }
top_left table (terms.name a) ls rest e = record { others = ls; taken = refl; stand = e }
top_left table (terms.pair v w) [] rest e = cc
top_left table (terms.pair v w) (i ∷ []) rest e = cc
top_left table (terms.pair v w) (i ∷ (j ∷ ls)) rest e =
    let p = cons_of (shared_at table i) w (map (shared_at table) (j ∷ ls)) (v ∷ rest) e in
    let q = cons_of (shared_at table j) v (map (shared_at table) ls) rest p.1 in
    record { others = ls; taken = ap₂ (λ t u. Some (terms.pair t u, ls)) q.0 p.0; stand = q.1 }
top_left table (terms.app f v) [] rest e = cc
top_left table (terms.app f v) (i ∷ ls) rest e =
    let p = cons_of (shared_at table i) v (map (shared_at table) ls) rest e in
    record { others = ls; taken = ap (λ t. Some (terms.app f t, ls)) p.0; stand = p.1 }
top_left table (terms.abs a v) [] rest e = cc
top_left table (terms.abs a v) (i ∷ ls) rest e =
    let p = cons_of (shared_at table i) v (map (shared_at table) ls) rest e in
    record { others = ls; taken = ap (λ t. Some (terms.abs a t, ls)) p.0; stand = p.1 }
top_left table (terms.susp p x) ls rest e = record { others = ls; taken = refl; stand = e }

-- the first of lines that are there, and the others
module _ (n : ℕ) (ls more : List ℕ) (i : ℕ) (popped : ls ≡ more ++ i ∷ []) (h : AreLinesBelow n (reverse ls)) where
  split : AreLinesBelow n (i ∷ reverse more)
  split = subst (AreLinesBelow n) (ap reverse popped ∙ reverse-append more (i ∷ [])) h

  pub first_within : i < n
  first_within = split.0

  pub others_below : AreLinesBelow n (reverse more)
  others_below = split.1

-- how much is left to do
abbrev pub walk_work : NominalTerm → ℕ
walk_work terms.unit = 2
walk_work (terms.name a) = 2
walk_work (terms.pair t u) = 2 + (walk_work t + walk_work u)
walk_work (terms.app f t) = 2 + walk_work t
walk_work (terms.abs a t) = 2 + walk_work t
walk_work (terms.susp p x) = 2

abbrev pub weigh_steps : List WalkStep → ℕ
weigh_steps [] = 0
weigh_steps (enter t ∷ ks) = walk_work t + weigh_steps ks
weigh_steps (leave t ∷ ks) = 1 + weigh_steps ks

pub lighter : (u : NominalTerm) (ks : List WalkStep) → weigh_steps (steps_through u ++ ks) < weigh_steps (enter u ∷ ks)
lighter terms.unit ks = omega arith
lighter (terms.name a) ks = omega arith
lighter (terms.pair t u) ks = omega arith
lighter (terms.app f t) ks = omega arith
lighter (terms.abs a t) ks = omega arith
lighter (terms.susp p x) ks = omega arith

-- what stands on top of a stack is the next step
pub steps_last : (ks : List Step) (k : Step) → steps_waiting (ks ++ k ∷ []) ≡ walk_step k ∷ steps_waiting ks
steps_last ks k = ap reverse (map-append walk_step ks (k ∷ [])) ∙ reverse-append (map walk_step ks) (walk_step k ∷ [])

pair_of : {A B : Type 0} (a c : A) (b d : B) → ◌≡◌ {A = Option (A × B)} (Some (a, b)) (Some (c, d)) → (a ≡ c) × (b ≡ d)
pair_of {A} {B} a c b d e = let p : ◌≡◌ {A = A × B} (a, b) (c, d) = cc in (ap (λ (q : A × B). q.0) p, ap (λ (q : A × B). q.1) p)

-- what is known behind the parts of a term
module _ (u : NominalTerm) (ks : List WalkStep) (table end : List NominalTerm) (t : NominalTerm) (ls : List ℕ) (l : Leads (leave u ∷ ks) table (map (shared_at table) ls) end t) where
  pub lines_left : AreLeft table u ls l.0
  lines_left = top_left table u ls l.0 l.1

  pub left_taken : taken_by table u ls ≡ Some (u, lines_left.others)
  left_taken = lines_left.taken

  pub left_walk : (v : NominalTerm) (others : List ℕ) (new : List NominalTerm) (line : ℕ) → Some (v, others) ≡ taken_by table u ls → AreLinesBelow (length table) others
      → new ≡ table ++ v ∷ [] → line ≡ length table → AreLinesBelow (length new) (line ∷ others) × Leads ks new (map (shared_at new) (line ∷ others)) end t
  left_walk v others new line got below grew at =
      let same = pair_of v u others lines_left.others (got ∙ lines_left.taken) in
      let grew_u : new ≡ table ++ u ∷ [] = grew ∙ ap (λ w. table ++ w ∷ []) same.0 in
      let here : shared_at new line ≡ u = ap₂ shared_at grew_u at ∙ at_last table u in
      let there : map (shared_at new) others ≡ l.0 = ap (λ us. map (shared_at us) others) grew ∙ terms_front table (v ∷ []) others below ∙ ap (map (shared_at table)) same.1 ∙ lines_left.stand in
      let long : length new ≡ length table + 1 = ap length grew ∙ length-append table (v ∷ []) in (
        (omega (arith, long, at), below_more (length table) (length new) others (omega (arith, long)) below),
        subst (λ us. Leads ks us (map (shared_at new) (line ∷ others)) end t) (sym grew_u)
            (subst (λ us. Leads ks (table ++ u ∷ []) us end t) (sym (ap₂ (λ w ws. w ∷ ws) here there)) l.2),
      )
