-- Heads that what they begin with keeps apart from an atom.
use Rattle.std.proofs.Common.{◌≡◌, ℕ, zero, suc, ◌+◌, Bool, true, false, List, drop, [], ◌∷◌, ◌++◌, map, length, refl, sym, ap, ap₂, ◌∙◌, arith}
use Rattle.std.proofs.lemmas.List.{drop-drop}
use Rattle.ap_defs.specs.Goals.{NominalClause, clause_of}
use Rattle.ap_defs.specs.HeadKeys.{agree, first_key}
use Rattle.ap_defs.specs.Renaming.{rename_term}
use Rattle.ap_defs.specs.Resolution.{kinds_of}
use Rattle.ap_defs.specs.Substitution.{under}
use Rattle.ap_defs.specs.Terms.{NominalTerm, term_of}
use Rattle.ap_defs.specs.declared.goals.Clause.{Clause}
use Rattle.ap_defs.specs.declared.terms.Term.{Term}
use Rattle.ap_store.specs.Views.{bindings_of, kinds, present}
use Rattle.ap_store.specs.declared.store.Store.{Store}
use Rattle.ap_store.proofs.StoreLemmas.{well_formed}
use Rattle.ap_theory.proofs.HeadKeyLemmas.{first_differs, first_renamed}
use Rattle.ap_theory.proofs.RefusalLemmas.{unify_heads}
use Rattle.ap_machine.specs.Positions.{Position, enters_clause, positions_by_clauses, clause_state, each_position, entered, unified_state}
use Rattle.ap_machine.specs.Machines.{position_of}
use Rattle.ap_backchain.specs.ChoicePoints.{positions_left}
use Rattle.ap_machine.specs.Views.{state_in}
use Rattle.ap_machine.specs.declared.machine.Machine.{Machine}
use Rattle.ap_backchain.specs.declared.points.Rest.TheVariants as rests
use Rattle.ap_backchain.specs.declared.points.Untried.{Untried}
use Rattle.std.specs.List.{position_or_len}
use Rattle.std.specs.Prelude.{None}

pub head_apart : (s : Store) (ts : List NominalTerm) (c : NominalClause) → agree (first_key (map (under (bindings_of s)) ts)) (first_key c.args) ≡ false
    → clause_state ts (state_in s) c ≡ None
head_apart s ts c h =
    let a = present s in let us = map (rename_term (length (kinds s))) c.args in
    let k = ap (agree (first_key (map (under a.bindings) ts))) (first_renamed (length (kinds s)) c.args) ∙ h in
    ap (unified_state (record { bindings = a.bindings; conditions = a.conditions; kinds = kinds s ++ kinds_of c.locals }))
    (unify_heads a.bindings a.conditions ts us (well_formed s).idempotent (first_differs a.bindings ts us k))

drop_map : (n : ℕ) (cs : List (Clause Term)) → drop n (map clause_of cs) ≡ map clause_of (drop n cs)
drop_map zero cs = refl
drop_map (suc n) [] = refl
drop_map (suc n) (c ∷ cs) = drop_map n cs

-- the search goes on from no machine by such a clause
module _ (s : Store) (d : ℕ) (ts : List NominalTerm) (p : Position) (here : p.state ≡ state_in s) (key : ℕ) (is : key ≡ first_key (map (under (bindings_of s)) ts)) where
  none_apart : (i : ℕ) (c : NominalClause) → agree key (first_key c.args) ≡ false → enters_clause d ts p i c ≡ []
  none_apart i c h =
      let k : agree (first_key (map (under (bindings_of s)) ts)) (first_key c.args) ≡ false = ap (λ l. agree l (first_key c.args)) (sym is) ∙ h in
      ap (λ a. each_position (entered d p i c) (clause_state ts a c)) here ∙ ap (each_position (entered d p i c)) (head_apart s ts c k)

  abbrev meets : NominalClause → Bool
  meets c = agree key (first_key c.args)

  -- so the clauses before the first that may be entered can be left out
  pub skipped : (i : ℕ) (cs : List NominalClause) → positions_by_clauses d ts p i cs ≡ positions_by_clauses d ts p (i + position_or_len meets cs) (drop (position_or_len meets cs) cs)
  skipped i [] = refl
  skipped i (c ∷ cs) = by_first (meets c) refl (skipped (suc i) cs)
    where
      by_first : (b : Bool) → meets c ≡ b → positions_by_clauses d ts p (suc i) cs ≡ positions_by_clauses d ts p (suc i + position_or_len meets cs) (drop (position_or_len meets cs) cs) → positions_by_clauses d ts p i (c ∷ cs) ≡ positions_by_clauses d ts p (i + position_or_len meets (c ∷ cs)) (drop (position_or_len meets (c ∷ cs)) (c ∷ cs))
      by_first true h k = let e : i + 0 ≡ i = omega arith in rw h (ap (λ m. positions_by_clauses d ts p m (c ∷ cs)) (sym e))
      by_first false h k =
          let n = position_or_len meets cs in
          let e : suc i + n ≡ i + suc n = omega arith in
          let l : suc n ≡ 1 + n = omega arith in
          rw h (ap (λ ps. ps ++ positions_by_clauses d ts p (suc i) cs) (none_apart i c h) ∙ k ∙ ap (λ m. positions_by_clauses d ts p m (drop n cs)) e ∙ ap (λ m. positions_by_clauses d ts p (i + m) (drop m (c ∷ cs))) l)

-- what is left is left after the clauses that cannot be entered
pub left_skipped : (b : Machine) (u : Untried) (key : ℕ) → key ≡ first_key (map (under (bindings_of b.store)) (map (rename_term u.base) (map term_of u.args.now)))
    → (from next : ℕ) → next ≡ from + position_or_len (λ c. agree key (first_key c.args)) (map clause_of (drop from u.clauses.now))
    → positions_left (rests.Clauses (record u { tried = from })) (position_of b) ≡ positions_left (rests.Clauses (record u { tried = next })) (position_of b)
left_skipped b u key is from next e =
    let ts = map (rename_term u.base) (map term_of u.args.now) in
    let cs = map clause_of (drop from u.clauses.now) in
    let n = position_or_len (λ (c : NominalClause). agree key (first_key c.args)) cs in
    let k : suc from + n ≡ suc next = omega (arith, e) in
    let d : drop n cs ≡ map clause_of (drop next u.clauses.now) =
    drop_map n (drop from u.clauses.now) ∙ ap (map clause_of) (drop-drop n from u.clauses.now) ∙ ap (λ m. map clause_of (drop m u.clauses.now)) (sym e) in
    skipped b.store u.depth ts (position_of b) refl key is (suc from) cs ∙ ap₂ (λ m (ds : List NominalClause). positions_by_clauses u.depth ts (position_of b) m ds) k d
