-- What waits, and derivations one after another.
use Rattle.std.proofs.Common.{◌≡◌, ◌+◌, ℕ, List, [], ◌∷◌, ◌++◌, map, Option, None, Some, refl, sym, ap, ap₂, subst, ◌∙◌, append_assoc, arith, Result}
use Rattle.std.specs.List.{AllByRecursion}
use Rattle.std.specs.Prelude.{IfOk}
use Rattle.std.proofs.lemmas.List.{map-append}
use Rattle.std.proofs.lemmas.Result.{IfOk-weaker}
use Rattle.ap_defs.specs.Derivations.{DerivationOver, NominalDerivation, derivation_weight, map_terms}
use Rattle.ap_defs.specs.Derivations as nodes
use Rattle.ap_defs.specs.Goals as goals
use Rattle.ap_defs.specs.Goals.{Clauses, NominalClause, NominalGoal, clauses_of}
use Rattle.ap_defs.specs.GroundProofs.{clause_at}
use Rattle.ap_defs.specs.Terms.{NominalTerm}
use Rattle.ap_derive.specs.Uses.{ClauseUse, of_body, uses, uses_in_each}
use Rattle.ap_derive.proofs.UseLemmas.{with_uses_append}
use Rattle.ap_derive.specs.declared.counting.walk.Waiting.{Waiting}
use Rattle.ap_derive.specs.Tables.{with_uses}
use Rattle.ap_derive.specs.Waiting.{bare_derivation, uses_of_all, uses_waiting, weight_of_all}

-- what a derivation uses does not depend on its terms
body_over : (o : Option NominalClause) (f h : NominalGoal → List ClauseUse) → ((g : NominalGoal) → f g ≡ h g) → of_body o f ≡ of_body o h
body_over None f h e = refl
body_over (Some c) f h e = e c.body

pub uses_over : (program : Clauses) (f h : ℕ → NominalTerm) (d : DerivationOver ℕ) (g : NominalGoal) → uses program (map_terms f d) g ≡ uses program (map_terms h d) g
uses_over program f h (nodes.atom k as' us d) (goals.atom p ts) =
    ap (λ vs. record { pred = p; number = k } ∷ vs) (body_over (clause_at (clauses_of program p) k) (uses program (map_terms f d)) (uses program (map_terms h d)) (λ g. uses_over program f h d g))
uses_over program f h (nodes.both d e) (goals.both g k) = ap₂ (λ us vs. us ++ vs) (uses_over program f h d g) (uses_over program f h e k)
uses_over program f h (nodes.left d) (goals.either g k) = uses_over program f h d g
uses_over program f h (nodes.right d) (goals.either g k) = uses_over program f h d k
uses_over program f h (nodes.exists t d) (goals.exists x g) = uses_over program f h d g
uses_over program f h (nodes.new a d) (goals.new b g) = uses_over program f h d g
uses_over program f h d g = refl

pub last_first : (program : Clauses) (ws : List Waiting) (w : Waiting) → uses_of_all program (ws ++ w ∷ []) ≡ uses_waiting program w ++ uses_of_all program ws
last_first program [] w = append_none (uses_waiting program w)
  where
    append_none : (us : List ClauseUse) → us ≡ us ++ []
    append_none [] = refl
    append_none (u ∷ us) = ap (λ vs. u ∷ vs) (append_none us)
last_first program (v ∷ ws) w =
    ap (λ us. us ++ uses_waiting program v) (last_first program ws w) ∙ append_assoc (uses_waiting program w) (uses_of_all program ws) (uses_waiting program v)

pub each_append : (program : Clauses) (g : NominalGoal) (ds es : List NominalDerivation) → uses_in_each program g (ds ++ es) ≡ uses_in_each program g ds ++ uses_in_each program g es
each_append program g [] es = refl
each_append program g (d ∷ ds) es =
    ap (λ us. uses program d g ++ us) (each_append program g ds es) ∙ sym (append_assoc (uses program d g) (uses_in_each program g ds) (uses_in_each program g es))

pub last_weight : (ws : List Waiting) (w : Waiting) → weight_of_all (ws ++ w ∷ []) ≡ derivation_weight (bare_derivation w.derivation.now) + weight_of_all ws
last_weight [] w = refl
last_weight (v ∷ ws) w = let more = last_weight ws w in omega (arith, more)

-- a node whose uses are these, of which those below it wait
pub node_waits : {T E : Type 0} (r : Result T E) (program : Clauses) (w : Waiting) (us : List ClauseUse) (old new : List Waiting) (t : List (List ℕ))
    → uses_waiting program w ≡ us → IfOk r (λ _. uses_of_all program new ≡ us ++ uses_of_all program old)
    → IfOk r (λ _. with_uses (uses_of_all program new) t ≡ with_uses (uses_waiting program w ++ uses_of_all program old) t)
node_waits r program w us old new t e h =
    IfOk-weaker r (λ _. uses_of_all program new ≡ us ++ uses_of_all program old)
    (λ _. with_uses (uses_of_all program new) t ≡ with_uses (uses_waiting program w ++ uses_of_all program old) t)
    (λ _ p. ap (λ vs. with_uses vs t) (p ∙ ap (λ vs. vs ++ uses_of_all program old) (sym e))) h

pub node_counts : {T E : Type 0} (r : Result T E) (program : Clauses) (w : Waiting) (us : List ClauseUse) (old : List Waiting) (t before : List (List ℕ))
    → uses_waiting program w ≡ us → IfOk r (λ _. t ≡ with_uses (us ++ uses_of_all program old) before)
    → IfOk r (λ _. t ≡ with_uses (uses_waiting program w ++ uses_of_all program old) before)
node_counts r program w us old t before e h =
    IfOk-weaker r (λ _. t ≡ with_uses (us ++ uses_of_all program old) before) (λ _. t ≡ with_uses (uses_waiting program w ++ uses_of_all program old) before)
    (λ _ p. p ∙ ap (λ vs. with_uses (vs ++ uses_of_all program old) before) (sym e)) h

-- the uses at the first of the paths that are left, and then at the others
pub count_first : {P : Type 0} (program : Clauses) (g : NominalGoal) (at : P → NominalDerivation) (path : P) (rest others : List P) (d : NominalDerivation)
    (t new total : List (List ℕ)) → rest ≡ path ∷ others → d ≡ at path → new ≡ with_uses (uses program d g) t
    → with_uses (uses_in_each program g (map at rest)) t ≡ total → with_uses (uses_in_each program g (map at others)) new ≡ total
count_first program g at path rest others d t new total e f h all =
    ap (with_uses (uses_in_each program g (map at others))) (h ∙ ap (λ d. with_uses (uses program d g) t) f)
    ∙ sym (with_uses_append (uses program (at path) g) (uses_in_each program g (map at others)) t)
    ∙ ap (λ ps. with_uses (uses_in_each program g (map at ps)) t) (sym e) ∙ all

pub paths_left : {P : Type 0} (Q : P → Type 0) (path : P) (rest others : List P) → rest ≡ path ∷ others → AllByRecursion Q rest → Q path × AllByRecursion Q others
paths_left Q path rest others e h = subst (AllByRecursion Q) e h

-- the uses of two parts of the paths
pub uses_of_parts : {P : Type 0} (program : Clauses) (g : NominalGoal) (at : P → NominalDerivation) (left right : List P)
    → uses_in_each program g (map at left) ++ uses_in_each program g (map at right) ≡ uses_in_each program g (map at (left ++ right))
uses_of_parts program g at left right = sym (each_append program g (map at left) (map at right)) ∙ ap (uses_in_each program g) (sym (map-append at left right))
