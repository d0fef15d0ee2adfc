-- Heads of clauses that are unified with atoms.
use Rattle.std.proofs.Common.{◌≡◌, ℕ, zero, suc, ◌+◌, ◌≤◌, min, List, [], ◌∷◌, ◌++◌, length, take, map, true, false, refl, sym, ap, ap₂, ◌∙◌, length-append, arith, subst}
use Rattle.std.proofs.lemmas.List.{length-map, take-append-le, take_all}
use Rattle.std.specs.Prelude.{Bool, None, Option, Some}
use Rattle.ap_defs.specs.Freshness.{Conds}
use Rattle.ap_defs.specs.Goals.{NominalClause}
use Rattle.ap_defs.specs.Renaming.{AreBelow, IsBelow, rename_term}
use Rattle.ap_defs.specs.Resolution.{State, kinds_of}
use Rattle.ap_defs.specs.Substitution.{Binding, under, ◌≐◌}
use Rattle.ap_defs.specs.Terms.{NominalTerm, term_of}
use Rattle.ap_defs.specs.Types.{NominalKind, local_of, locals_of}
use Rattle.ap_defs.specs.declared.goals.Local.{Local}
use Rattle.ap_defs.specs.Unification.{Unified, ending, equations_of, finish, unify}
use Rattle.ap_defs.specs.declared.terms.Term.{Term}
use Rattle.ap_program.proofs.RenamingLemmas.{are_below_more, are_renamed_below}
use Rattle.ap_search.specs.Continuations.{Waiting}
use Rattle.ap_store.specs.Triples.{IsPrefixOf, Triple, with_next}
use Rattle.ap_store.specs.Views.{bindings_of, kinds, past, present, versions}
use Rattle.ap_store.specs.declared.store.Store.{Store}
use Rattle.ap_store.proofs.StoreLemmas.{next_counts}
use Rattle.ap_store.proofs.TrailLemmas.{prefix_is}
use Rattle.ap_unify.specs.Unified.{IsResult}
use Rattle.ap_machine.specs.Below.{AreWaitingBelow}
use Rattle.ap_machine.specs.Positions.{Position, clause_state, unified_state, with_state}
use Rattle.ap_machine.specs.Tracks.{last_version}
use Rattle.ap_machine.specs.Views.{state_in}
use Rattle.ap_machine.specs.declared.brought.Brought.{Brought}
use Rattle.ap_machine.specs.declared.frames.Cell.{Cell}
use Rattle.ap_turns.proofs.FitLemmas.{waiting_more}
use Rattle.ap_turns.proofs.StoreTurnLemmas.{same_next, state_with, track_with}
use Rattle.ap_machine.proofs.TrackLemmas.{last_present}

equations_cut : (s : List Binding) (ts us : List NominalTerm) (k : ℕ) → min (length ts) (length us) ≤ k → equations_of s (take k ts) (take k us) ≡ equations_of s ts us
equations_cut s [] us zero h = refl
equations_cut s [] us (suc k) h = refl
equations_cut s (t ∷ ts) [] zero h = refl
equations_cut s (t ∷ ts) [] (suc k) h = refl
equations_cut s (t ∷ ts) (u ∷ us) zero h = absurd (omega arith)
equations_cut s (t ∷ ts) (u ∷ us) (suc k) h = ap (λ es. (under s t ≐ under s u) ∷ es) (equations_cut s ts us k (omega (arith, h)))

-- what one list has more than the other is not looked at
pub unify_cut : (s : List Binding) (ds : Conds) (ts us : List NominalTerm) (k : ℕ) → min (length ts) (length us) ≤ k → unify s ds (take k ts) (take k us) ≡ unify s ds ts us
unfolding unify
unify_cut s ds ts us k h = ap (λ es. finish ds (ending (record { equations = es; problems = []; bindings = s }))) (equations_cut s ts us k h)

-- terms that are renamed, up to where they are compared
pub terms_cut : (n : ℕ) (ts : List Term) (k : ℕ) → map (rename_term n) (map term_of (take k ts)) ≡ take k (map (rename_term n) (map term_of ts))
terms_cut n [] zero = refl
terms_cut n [] (suc k) = refl
terms_cut n (t ∷ ts) zero = refl
terms_cut n (t ∷ ts) (suc k) = ap (λ us. rename_term n (term_of t) ∷ us) (terms_cut n ts k)

cut_below : (m n : ℕ) (ts : List Term) (k : ℕ) → AreBelow m (map (rename_term n) (map term_of ts)) → AreBelow m (map (rename_term n) (map term_of (take k ts)))
cut_below m n [] zero h = tt
cut_below m n [] (suc k) h = tt
cut_below m n (t ∷ ts) zero h = tt
cut_below m n (t ∷ ts) (suc k) h = (h.0, cut_below m n ts k h.1)

pub args_below : (m n base : ℕ) (ts : List Term) (k : ℕ) → n ≤ m → AreBelow n (map (rename_term base) (map term_of ts)) → AreBelow m (map (rename_term base) (map term_of (take k ts)))
args_below m n base ts k l h = cut_below m base ts k (are_below_more m n l (map (rename_term base) (map term_of ts)) h)

pub head_below : (m n base : ℕ) (ts us : List Term) (k : ℕ) → base + n ≤ m → us ≡ ts → AreBelow n (map term_of ts) → AreBelow m (map (rename_term base) (map term_of (take k us)))
head_below m n base ts us k l e h =
    subst (λ (vs : List Term). AreBelow m (map (rename_term base) (map term_of (take k vs)))) (sym e)
    (args_below m (base + n) base ts k l (are_renamed_below base n (map term_of ts) h))

-- a list of one term
pub one_below : (m n base : ℕ) (ts : List Term) (t : Term) → ts ≡ t ∷ [] → m ≡ n → IsBelow n (rename_term base (term_of t)) → AreBelow m (map (rename_term base) (map term_of ts))
one_below m n base ts t e f h =
    subst (λ (us : List Term). AreBelow m (map (rename_term base) (map term_of us))) (sym e) (subst (λ k. IsBelow k (rename_term base (term_of t))) (sym f) h, tt)

-- a clause's identifiers, from the list of them that was given numbers
pub made_next : (s r : Store) (ls ms : List Local) → present r ≡ with_next ((present s).next + length ls) (present s) → ls ≡ ms → (present r).next ≡ (present s).next + length (locals_of ms)
made_next s r ls ms h e = ap (λ (a : Triple). a.next) h ∙ ap (λ (ns : List Local). (present s).next + length ns) e ∙ ap (λ n. (present s).next + n) (sym (length-map ms local_of))

pub made_kinds : (s r : Store) (ls ms : List Local) → kinds r ≡ kinds s ++ kinds_of (locals_of ls) → ls ≡ ms → kinds r ≡ kinds s ++ kinds_of (locals_of ms)
made_kinds s r ls ms h e = h ∙ ap (λ (ns : List Local). kinds s ++ kinds_of (locals_of ns)) e

pub waiting_made : (s r : Store) (ls : List Local) (ws : List Waiting) → present r ≡ with_next ((present s).next + length ls) (present s) → AreWaitingBelow (present s).next ws → AreWaitingBelow (present r).next ws
waiting_made s r ls ws h k = let e : (present r).next ≡ (present s).next + length ls = ap (λ (a : Triple). a.next) h in waiting_more (present r).next (present s).next (omega (arith, e)) ws k

-- A store r in which the identifiers of a clause were given numbers, and d, in which its head was unified.
module _ (s r d : Store) (ts : List NominalTerm) (c : NominalClause) (count : ℕ) (many : count ≡ length c.locals)
    (made : present r ≡ with_next ((present s).next + count) (present s)) (grown : kinds r ≡ kinds s ++ kinds_of c.locals) (kept : kinds d ≡ kinds r) where
  abbrev renamed_kinds : State
  renamed_kinds = record { bindings = (bindings_of s); conditions = (present s).conditions; kinds = kinds s ++ kinds_of c.locals }

  none_unified : (o : Option Unified) (solved : Bool) → IsResult o (present r) solved (present d) → solved ≡ false → unified_state renamed_kinds o ≡ None
  none_unified None solved h k = refl
  none_unified (Some u) solved h k = let e : solved ≡ true = h.0 in cc

  one_unified : (o : Option Unified) (solved : Bool) → IsResult o (present r) solved (present d) → solved ≡ true → unified_state renamed_kinds o ≡ Some (state_in d)
  one_unified None solved h k = cc
  one_unified (Some u) solved h k =
      ap Some (sym (ap (λ (a : Triple). state_with a (kinds d)) h.1 ∙ ap (state_with (record { bindings = u.bindings; conditions = u.conditions; next = (present r).next })) (kept ∙ grown)))

  pub head_next : (n : ℕ) → n ≡ (present s).next → (present d).next ≡ n + length c.locals
  head_next n e = let k : (present r).next ≡ (present s).next + count = ap (λ (a : Triple). a.next) made in let f = same_next r d kept in omega (arith, many, k, f, e)

  -- what was compared is what clauses are entered by
  module _ (n : ℕ) (first : n ≡ (present s).next) (ls rs : List NominalTerm) (k : ℕ) (left : ls ≡ take k ts) (right : rs ≡ take k (map (rename_term n) c.args)) (enough : min (length ts) (length c.args) ≤ k)
      (solved : Bool) (result : IsResult (unify (bindings_of r) (present r).conditions ls rs) (present r) solved (present d)) where
    compared : unify (bindings_of r) (present r).conditions ls rs ≡ unify (bindings_of s) (present s).conditions ts (map (rename_term (length (kinds s))) c.args)
    compared =
        let e : n ≡ length (kinds s) = first ∙ sym (next_counts s) in
        let m = length-map c.args (rename_term n) in
        ap (λ (a : Triple). unify a.bindings a.conditions ls rs) made
        ∙ ap (λ us. unify (bindings_of s) (present s).conditions us rs) left
        ∙ ap (λ us. unify (bindings_of s) (present s).conditions (take k ts) us) right
        ∙ unify_cut (bindings_of s) (present s).conditions ts (map (rename_term n) c.args) k (omega (arith, enough, m))
        ∙ ap (λ m. unify (bindings_of s) (present s).conditions ts (map (rename_term m) c.args)) e

    same_result : IsResult (unify (bindings_of s) (present s).conditions ts (map (rename_term (length (kinds s))) c.args)) (present r) solved (present d)
    same_result = subst (λ (o : Option Unified). IsResult o (present r) solved (present d)) compared result

    pub head_none : solved ≡ false → clause_state ts (state_in s) c ≡ None
    head_none h = none_unified _ solved same_result h

    pub head_some : solved ≡ true → clause_state ts (state_in s) c ≡ Some (state_in d)
    head_some h = one_unified _ solved same_result h

-- A store f that went back to where s was.
module _ (s d f : Store) (m : ℕ) (goes : IsPrefixOf (versions s) (versions d)) (more : (ks : List NominalKind) × (kinds d ≡ kinds s ++ ks))
    (mark : m ≡ length (past s)) (back : versions f ≡ take (m + 1) (versions d)) (left : kinds f ≡ take (present f).next (kinds d)) where
  pub versions_back : versions f ≡ versions s
  versions_back =
      let l : length (versions s) ≡ m + 1 = omega (arith, length-append (past s) (present s ∷ []), mark) in
      back ∙ sym (prefix_is (versions s) (versions d) (m + 1) goes l)

  pub present_back : present f ≡ present s
  present_back = sym (last_present (past f) (present f)) ∙ ap last_version versions_back ∙ last_present (past s) (present s)

  kinds_back : kinds f ≡ kinds s
  kinds_back =
      let n = (present s).next in
      let l : n ≤ length (kinds s) = omega (arith, next_counts s) in
      let k : length (kinds s) ≤ n = omega (arith, next_counts s) in
      left ∙ ap (λ (a : Triple). take a.next (kinds d)) present_back ∙ ap (take n) more.1 ∙ take-append-le n (kinds s) more.0 l ∙ take_all n (kinds s) k

  pub track_back : (cs : List Cell) (ps : List ℕ) (xs : List Brought) → track_with cs ps xs (versions f) (kinds f) ≡ track_with cs ps xs (versions s) (kinds s)
  track_back cs ps xs = ap₂ (track_with cs ps xs) versions_back kinds_back

  pub position_back : (p : Position) → with_state (state_in f) p ≡ with_state (state_in s) p
  position_back p = ap₂ (λ (a : Triple) (ks : List NominalKind). with_state (state_with a ks) p) present_back kinds_back
