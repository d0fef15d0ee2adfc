-- A swapping under others, and the way to what is last in a term.
use Rattle.std.proofs.Common.{◌≡◌, ◌+◌, ℕ, List, [], ◌∷◌, ◌++◌, refl, sym, ap, ◌∙◌, arith}
use Rattle.std.proofs.lemmas.List.{map-append}
use Rattle.std.specs.Borrow.{Bor}
use Rattle.ap_defs.specs.declared.terms.Id.{Id}
use Rattle.ap_defs.specs.declared.terms.Id.TheVariants as ids
use Rattle.ap_defs.specs.declared.terms.Raw.{Raw}
use Rattle.ap_defs.specs.declared.terms.Swap.{Swap}
use Rattle.ap_defs.specs.RawTerms as raw
use Rattle.ap_defs.specs.RawTerms.{RawTerm, raw_of}
use Rattle.ap_defs.specs.Terms.{NominalTerm, act_term}
use Rattle.ap_theory.proofs.TermLemmas.{act_term-append}
use Rattle.ap_program.specs.CarryingOut.{carried_out}
use Rattle.ap_restrict.specs.Ways.{lent_terms, carried_round, carried_within}

-- what acts on what other swappings have acted on
pub act_within : (p q : List Swap) (t : NominalTerm) → act_term p (act_term q t) ≡ act_term (p ++ q) t
act_within p q t = sym (act_term-append p q t)

-- how many parts there are
abbrev pub raw_size : RawTerm → ℕ
raw_size raw.unit = 1
raw_size (raw.name a) = 1
raw_size (raw.var x) = 1
raw_size (raw.pair t u) = 1 + raw_size t + raw_size u
raw_size (raw.app f t) = 1 + raw_size t
raw_size (raw.abs i t) = 1 + raw_size t
raw_size (raw.swapped i j t) = 1 + raw_size t

-- how many parts there are but for those of what is last
abbrev pub own_size : RawTerm → ℕ
own_size (raw.pair t u) = 1 + raw_size t
own_size t = 1

abbrev pub way_size : List RawTerm → ℕ
way_size [] = 0
way_size (t ∷ ts) = own_size t + way_size ts

-- the last part of a way is innermost
pub within_last : (p : List Swap) (ts : List RawTerm) (t : RawTerm) (last : NominalTerm) → carried_within p (ts ++ t ∷ []) last ≡ carried_within p ts (carried_round p t last)
within_last p [] t last = refl
within_last p (u ∷ ts) t last = ap (carried_round p u) (within_last p ts t last)

pub way_last : (ts : List RawTerm) (t : RawTerm) → way_size (ts ++ t ∷ []) ≡ way_size ts + own_size t
way_last [] t = omega arith
way_last (u ∷ ts) t = omega (arith, way_last ts t)

-- one part further on the way
pub lent_further : (ws vs : List (Bor Raw)) (r : Bor Raw) → vs ≡ ws ++ r ∷ [] → lent_terms vs ≡ lent_terms ws ++ raw_of r.now ∷ []
lent_further ws vs r e = ap lent_terms e ∙ map-append (λ t. raw_of t.now) ws (r ∷ [])

pub way_is : (p : List Swap) (ws vs : List (Bor Raw)) (r : Bor Raw) (last : NominalTerm) → vs ≡ ws ++ r ∷ [] → carried_within p (lent_terms vs) last ≡ carried_within p (lent_terms ws) (carried_round p (raw_of r.now) last)
way_is p ws vs r last e = ap (λ ts. carried_within p ts last) (lent_further ws vs r e) ∙ within_last p (lent_terms ws) (raw_of r.now) last

-- it goes on inside one more part, what is last in which it is
pub way_on : (p : List Swap) (ws vs : List (Bor Raw)) (r : Bor Raw) (last : RawTerm) (whole : NominalTerm) → vs ≡ ws ++ r ∷ [] → carried_round p (raw_of r.now) (act_term p (carried_out last)) ≡ act_term p (carried_out (raw_of r.now))
    → carried_within p (lent_terms ws) (act_term p (carried_out (raw_of r.now))) ≡ whole → carried_within p (lent_terms vs) (act_term p (carried_out last)) ≡ whole
way_on p ws vs r last whole e step h = way_is p ws vs r (act_term p (carried_out last)) e ∙ ap (carried_within p (lent_terms ws)) step ∙ h

pub way_longer : (ws vs : List (Bor Raw)) (r : Bor Raw) → vs ≡ ws ++ r ∷ [] → way_size (lent_terms vs) ≡ way_size (lent_terms ws) + own_size (raw_of r.now)
way_longer ws vs r e = ap way_size (lent_further ws vs r e) ∙ way_last (lent_terms ws) (raw_of r.now)

pub size_on : (ws vs : List (Bor Raw)) (r : Bor Raw) (last : RawTerm) (n : ℕ) → vs ≡ ws ++ r ∷ [] → own_size (raw_of r.now) + raw_size last ≡ raw_size (raw_of r.now) → way_size (lent_terms ws) + raw_size (raw_of r.now) ≡ n
    → way_size (lent_terms vs) + raw_size last ≡ n
size_on ws vs r last n e own h = let longer = way_longer ws vs r e in omega arith

-- an abstraction round what is carried out in it
pub under_round : (p : List Swap) (i : Id) (t : RawTerm) → carried_round p (raw.abs i t) (act_term p (carried_out t)) ≡ act_term p (carried_out (raw.abs i t))
under_round p (ids.Name a) t = refl
under_round p (ids.Var x) t = refl
