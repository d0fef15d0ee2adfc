-- The facts of a body are the conditions that it states, each with the name on the left.
use Rattle.std.proofs.Common.{◌≡◌, ◌<◌, ◌+◌, ℕ, Bool, true, false, cond, ◌&&◌, ◌||◌, List, [], ◌∷◌, ◌++◌, map, take, length, get_or, refl, sym, ap, ap₂, ◌∙◌, inl, inr}
use Rattle.std.specs.Prelude.{Option, Some, None, if◌then◌else◌}
use Rattle.std.proofs.Common.{arith}
use Rattle.std.proofs.lemmas.List.{take_more}
use Rattle.std.proofs.lemmas.Bool.Decides.{nat_tests}
use Rattle.std.proofs.lemmas.List.Folds.{list_any-append}
use Rattle.ap_defs.specs.declared.terms.Name.{Name}
use Rattle.ap_defs.specs.declared.terms.Var.{Var}
use Rattle.ap_defs.specs.declared.terms.Cond.{Cond}
use Rattle.ap_defs.specs.Permutations.{name_eq}
use Rattle.ap_defs.specs.Terms as terms
use Rattle.ap_defs.specs.Terms.{NominalTerm}
use Rattle.ap_defs.specs.Freshness.{Conds, cond_eq, var_eq, has_cond, reduce}
use Rattle.ap_defs.specs.Freshness as freshness
use Rattle.ap_defs.specs.Goals as goals
use Rattle.ap_defs.specs.Goals.{NominalGoal}
use Rattle.ap_theory.proofs.ConditionSetLemmas.{has_cond-append}
use Rattle.ap_theory.proofs.PermutationLemmas.{name_tells, name_eq_itself}
use Rattle.ap_program.specs.NameRestriction.{conditions_left, stated_conditions}
use Rattle.ap_facts.specs.declared.facts.Fact.{Fact}
use Rattle.ap_facts.specs.Facts.{is_refuted, left_by, fact_of, facts_of, has_fact, fact_eq}

abbrev unless : Bool → Conds → Option Conds
unless true cs = None
unless false cs = Some cs

both_unless : (p q : Bool) (cs ds : Conds) → freshness.both (unless p cs) (unless q ds) ≡ unless (p || q) (cs ++ ds)
both_unless true q cs ds = refl
both_unless false true cs ds = refl
both_unless false false cs ds = refl

abbrev under_binder : Bool → Bool → Conds → Option Conds → Type 0
under_binder same p cs r = (if same then Some [] else r) ≡ unless (if same then false else p) (if same then [] else cs)

binder_unless : (same p : Bool) (cs : Conds) (r : Option Conds) → r ≡ unless p cs → under_binder same p cs r
binder_unless true p cs r e = refl
binder_unless false p cs r e = e

name_unless : (same : Bool) → (if same then None else Some []) ≡ unless same []
name_unless true = refl
name_unless false = refl

reduce_unless : (a : Name) (t : NominalTerm) → reduce a t ≡ unless (is_refuted a t) (left_by a t)
reduce_unless a terms.unit = refl
reduce_unless a (terms.name b) = name_unless (name_eq a b)
reduce_unless a (terms.pair t u) =
    ap₂ freshness.both (reduce_unless a t) (reduce_unless a u) ∙ both_unless (is_refuted a t) (is_refuted a u) (left_by a t) (left_by a u)
reduce_unless a (terms.app f t) = reduce_unless a t
reduce_unless a (terms.abs b t) = binder_unless (name_eq a b) (is_refuted a t) (left_by a t) (reduce a t) (reduce_unless a t)
reduce_unless a (terms.susp p x) = refl

abbrev fact : Name → Name → Var → Fact
fact a b x = record { left = a; name = b; var = x }

abbrev cond_with : Name → Var → Cond
cond_with b x = record { name = b; var = x }

turned : (p q : Bool) → (true && (p && q)) ≡ (q && p)
turned true true = refl
turned true false = refl
turned false true = refl
turned false false = refl

same_fact : (a b : Name) (x : Var) (c : Cond) → fact_eq (fact a b x) (fact_of a c) ≡ cond_eq (cond_with b x) c
same_fact a b x c = ap (λ v. v && (name_eq b c.name && var_eq x c.var)) (name_eq_itself a) ∙ turned (name_eq b c.name) (var_eq x c.var)

facts_of_name : (a b : Name) (x : Var) (cs : Conds) → has_fact (fact a b x) (map (fact_of a) cs) ≡ has_cond (cond_with b x) cs
facts_of_name a b x [] = refl
facts_of_name a b x (c ∷ cs) = ap₂ (λ v w. v || w) (same_fact a b x c) (facts_of_name a b x cs)

other_fact : (a d b : Name) (x : Var) (c : Cond) → name_eq a d ≡ false → fact_eq (fact a b x) (fact_of d c) ≡ false
other_fact a d b x c e = ap (λ v. v && (name_eq b c.name && var_eq x c.var)) e

facts_of_other : (a d b : Name) (x : Var) (cs : Conds) → name_eq a d ≡ false → has_fact (fact a b x) (map (fact_of d) cs) ≡ false
facts_of_other a d b x [] e = refl
facts_of_other a d b x (c ∷ cs) e = ap₂ (λ v w. v || w) (other_fact a d b x c e) (facts_of_other a d b x cs e)

abbrev facts_unless : Bool → List Fact → List Fact
facts_unless p fs = if p then [] else fs

left_unless : (p : Bool) (a : Name) (cs : Conds) → facts_unless p (map (fact_of a) cs) ≡ map (fact_of a) (conditions_left (unless p cs))
left_unless true a cs = refl
left_unless false a cs = refl

facts_at : (a : Name) (t : NominalTerm) → facts_unless (is_refuted a t) (map (fact_of a) (left_by a t)) ≡ map (fact_of a) (conditions_left (reduce a t))
facts_at a t = left_unless (is_refuted a t) a (left_by a t) ∙ ap (λ r. map (fact_of a) (conditions_left r)) (sym (reduce_unless a t))

fresh_facts : (a d b : Name) (x : Var) (t : NominalTerm)
    → has_fact (fact a b x) (facts_of (goals.fresh (terms.name d) t)) ≡ has_cond (cond_with b x) (stated_conditions a (goals.fresh (terms.name d) t))
fresh_facts a d b x t =
    ap (has_fact (fact a b x)) (facts_at d t) ∙ elim (name_tells a d) [
      | inl e ↦ rw e.0 (rw (← e.1) (facts_of_name a b x (conditions_left (reduce a t))))
      | inr n ↦ rw n.0 (facts_of_other a d b x (conditions_left (reduce d t)) n.0)
    ]

pub facts_stated : (a b : Name) (x : Var) (g : NominalGoal) → has_fact (fact a b x) (facts_of g) ≡ has_cond (cond_with b x) (stated_conditions a g)
facts_stated a b x (goals.both g h) =
    list_any-append (fact_eq (fact a b x)) (facts_of g) (facts_of h)
    ∙ ap₂ (λ v w. v || w) (facts_stated a b x g) (facts_stated a b x h)
    ∙ sym (has_cond-append (cond_with b x) (stated_conditions a g) (stated_conditions a h))
facts_stated a b x (goals.fresh (terms.name d) t) = fresh_facts a d b x t
facts_stated a b x _ = refl

fact_eq_flip : (e f : Fact) → fact_eq e f ≡ fact_eq f e
unfolding name_eq
fact_eq_flip e f = grind (arith, nat_tests)

either_order : (p old : Bool) → cond p true old ≡ (old || (p || false))
either_order true true = refl
either_order true false = refl
either_order false true = refl
either_order false false = refl

-- a set to which one more fact is added
pub fact_added : (f k d : Fact) (fs : List Fact) (i : ℕ) (old new : Bool) → i < length fs → k ≡ get_or fs i d → new ≡ cond (fact_eq k f) true old
    → old ≡ has_fact f (take i fs) → new ≡ has_fact f (take (i + 1) fs)
fact_added f k d fs i old new l e n o =
    let more : take (i + 1) fs ≡ take i fs ++ k ∷ [] = take_more fs i d l ∙ ap (λ h. take i fs ++ h ∷ []) (sym e) in
    n ∙ ap (λ p. cond p true old) (fact_eq_flip k f) ∙ either_order (fact_eq f k) old ∙ ap (λ b. b || (fact_eq f k || false)) o
    ∙ sym (list_any-append (fact_eq f) (take i fs) (k ∷ [])) ∙ ap (has_fact f) (sym more)
