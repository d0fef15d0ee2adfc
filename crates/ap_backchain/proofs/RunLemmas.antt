-- What a search finds again when it goes back to a choice, and what a choice makes of a machine.
use Rattle.std.specs.Global.{Global}
use Rattle.std.specs.Prelude.{Some, Result, Ok, Err, OnOk, Vec, reverse}
use Rattle.std.proofs.Common.{◌≡◌, ℕ, zero, suc, true, nat_lt, ◌+◌, ◌-◌, ◌<◌, ◌≤◌, List, [], ◌∷◌, ◌++◌, length, get_or, map, drop, refl, sym, ap, ap₂, ◌∙◌, subst, arith}
use Rattle.std.proofs.Math.Decide.{dec_lt}
use Rattle.std.proofs.lemmas.List.{drop_all, reverse-append}
use Rattle.std.proofs.Math.Seq.{drop-cons}
use Rattle.ap_defs.specs.Goals.{Clauses, NominalGoal, succeed, atom, equal, fresh, both, either, exists, new, clause_of, clauses_of}
use Rattle.ap_defs.specs.Renaming.{rename_term}
use Rattle.ap_defs.specs.Terms.{NominalTerm, term_of}
use Rattle.ap_defs.specs.declared.goals.Clause.{Clause}
use Rattle.ap_defs.specs.declared.terms.Term.{Term}
use Rattle.ap_machine.specs.Below.{AreWaitingBelow}
use Rattle.ap_turns.specs.Marks.{choice_of_atom, choice_of_goal}
use Rattle.ap_machine.specs.Machines.{next_of, position_of, track_of}
use Rattle.ap_backchain.specs.ChoicePoints.{ArePoints, IsFitRest, IsPoint, positions_left, positions_pending}
use Rattle.ap_machine.specs.Positions.{Position, enters_clause, positions_by_clauses, goes, turned_atom, turned_goal}
use Rattle.ap_backchain.specs.Searches.{HasPoints, ended_outs, pending_positions}
use Rattle.ap_machine.specs.Tracks.{GoesFrom, IsSaveWithin, Track, back_to, next_in, position_at}
use Rattle.ap_machine.specs.declared.machine.Machine.{Machine}
use Rattle.ap_backchain.specs.declared.points.ChoicePoint.{ChoicePoint}
use Rattle.ap_backchain.specs.declared.points.Rest.{Rest}
use Rattle.ap_backchain.specs.declared.points.Rest.TheVariants as rests
use Rattle.ap_machine.specs.declared.saves.Save.{Save}
use Rattle.ap_backchain.specs.declared.points.Untried.{Untried}
use Rattle.ap_machine.proofs.MachineLemmas.{next_here}
use Rattle.ap_backchain.proofs.PointLemmas.{pending_from, points_from}
use Rattle.ap_machine.proofs.TrackLemmas.{back_from, within_from}

pub on_ok : {T E P : Type 0} (r : Result T E) → P → OnOk r P
on_ok (Ok x) p = p
on_ok (Err e) p = tt

-- A choice is kept where the search stood, and the search goes on.
module _ (s : Save) (t u : Track) (r : Rest) (ps : List ChoicePoint) (w : IsSaveWithin s t) (e : back_to s t ≡ t) (g : GoesFrom t u) where
  pending_kept : positions_pending u (record { save = s; rest = r } ∷ ps) ≡ positions_left r (position_at t s.first) ++ positions_pending t ps
  pending_kept = ap (λ v. positions_left r (position_at v s.first) ++ positions_pending v ps) (back_from s t u w g ∙ e)

  points_kept : AreWaitingBelow (next_in t) (position_at t s.first).waiting → IsFitRest (next_in t) r → ArePoints t ps → ArePoints u (record { save = s; rest = r } ∷ ps)
  points_kept below fit h =
      let f : t ≡ back_to s u = sym (back_from s t u w g ∙ e) in (
        record {
          within = within_from s t u w g;
          waiting = subst (λ (v : Track). AreWaitingBelow (next_in v) (position_at v s.first).waiting) f below;
          rest = subst (λ (v : Track). IsFitRest (next_in v) r) f fit;
        },
        subst (λ (v : Track). ArePoints v ps) f h,
      )

pub last_first : (ps qs : List ChoicePoint) (p : ChoicePoint) → qs ≡ ps ++ p ∷ [] → reverse qs ≡ p ∷ reverse ps
last_first ps qs p e = ap reverse e ∙ reverse-append ps (p ∷ [])

-- The same of machines and their choices.
module _ (s : Save) (b d : Machine) (w : IsSaveWithin s (track_of b)) (e : back_to s (track_of b) ≡ track_of b) (f : position_at (track_of b) s.first ≡ position_of b)
    (g : GoesFrom (track_of b) (track_of d)) (r : Rest) (us vs : Vec ChoicePoint Global) (l : vs.items ≡ us.items ++ record { save = s; rest = r } ∷ []) where
  pub pending_with : pending_positions d vs ≡ positions_left r (position_of b) ++ pending_positions b us
  pending_with =
      ap (positions_pending (track_of d)) (last_first us.items vs.items (record { save = s; rest = r }) l)
      ∙ pending_kept s (track_of b) (track_of d) r (reverse us.items) w e g
      ∙ ap (λ p. positions_left r p ++ pending_positions b us) f

  pub points_with : IsFitRest (next_of b) r → HasPoints b us → HasPoints d vs
  points_with fit h =
      let n : next_of b ≡ next_in (track_of b) = sym (next_here b) in
      subst (λ (ps : List ChoicePoint). ArePoints (track_of d) ps) (sym (last_first us.items vs.items (record { save = s; rest = r }) l))
      (points_kept s (track_of b) (track_of d) r (reverse us.items) w e g
      (subst (λ (p : Position). AreWaitingBelow (next_in (track_of b)) p.waiting) (sym f) (subst (λ (m : ℕ). AreWaitingBelow m (position_of b).waiting) n b.below))
      (subst (λ (m : ℕ). IsFitRest m r) n fit) h)

-- The choices stay while the search goes on.
module _ (b d : Machine) (us vs : Vec ChoicePoint Global) (l : vs.items ≡ us.items) (h : HasPoints b us) where
  pub pending_goes : GoesFrom (track_of b) (track_of d) → pending_positions d vs ≡ pending_positions b us
  pending_goes g = ap (λ (ps : List ChoicePoint). positions_pending (track_of d) (reverse ps)) l ∙ pending_from (track_of b) (track_of d) (reverse us.items) h g

  pub points_goes : GoesFrom (track_of b) (track_of d) → HasPoints d vs
  points_goes g = subst (λ (ps : List ChoicePoint). ArePoints (track_of d) (reverse ps)) (sym l) (points_from (track_of b) (track_of d) (reverse us.items) h g)

module _ (b d : Machine) (vs : Vec ChoicePoint Global) (t : track_of d ≡ track_of b) where
  pub pending_same : pending_positions d vs ≡ pending_positions b vs
  pending_same = ap (λ v. positions_pending v (reverse vs.items)) t

  pub points_same : HasPoints b vs → HasPoints d vs
  points_same h = subst (λ (v : Track). ArePoints v (reverse vs.items)) (sym t) h

-- The first of the clauses that are left.
pub clause_left : (u : Untried) (i : ℕ) (c : Clause Term) (p : Position) → i < length u.clauses.now → c ≡ get_or u.clauses.now i c
    → positions_left (rests.Clauses (record u { tried = i })) p
    ≡ enters_clause u.depth (map (rename_term u.base) (map term_of u.args.now)) p (i + 1) (clause_of c) ++ positions_left (rests.Clauses (record u { tried = i + 1 })) p
clause_left u i c p h e =
    let j : suc i ≡ i + 1 = omega arith in
    let ts = map (rename_term u.base) (map term_of u.args.now) in
    ap (λ bs. positions_by_clauses u.depth ts p (suc i) (map clause_of bs)) (drop-cons u.clauses.now i c h ∙ ap (λ x. x ∷ drop (suc i) u.clauses.now) (sym e))
    ∙ ap (λ k. enters_clause u.depth ts p k (clause_of c) ++ positions_by_clauses u.depth ts p (suc k) (map clause_of (drop k u.clauses.now))) j

pub no_clause_left : (u : Untried) (i : ℕ) (p : Position) → length u.clauses.now ≤ i → positions_left (rests.Clauses (record u { tried = i })) p ≡ []
no_clause_left u i p l = ap (λ cs. positions_by_clauses u.depth (map (rename_term u.base) (map term_of u.args.now)) p (suc i) (map clause_of cs)) (drop_all i u.clauses.now l)

-- The clauses after the n-th are kept, if there are any.
module _ (s : Save) (b d : Machine) (w : IsSaveWithin s (track_of b)) (e : back_to s (track_of b) ≡ track_of b) (f : position_at (track_of b) s.first ≡ position_of b)
    (g : GoesFrom (track_of b) (track_of d)) (u : Untried) (n : ℕ) (us vs : Vec ChoicePoint Global)
    (kept : n < length u.clauses.now → vs.items ≡ us.items ++ record { save = s; rest = rests.Clauses (record u { tried = n }) } ∷ [])
    (none : length u.clauses.now ≤ n → vs.items ≡ us.items) (h : HasPoints b us) where
  pub pending_rest : pending_positions d vs ≡ positions_left (rests.Clauses (record u { tried = n })) (position_of b) ++ pending_positions b us
  pending_rest =
      elim (dec_lt n (length u.clauses.now)) [
        | yes k ↦ pending_with s b d w e f g (rests.Clauses (record u { tried = n })) us vs (kept k)
        | no k ↦
            let l : length u.clauses.now ≤ n = omega arith in
            pending_goes b d us vs (none l) h g ∙ ap (λ ps. ps ++ pending_positions b us) (sym (no_clause_left u n (position_of b) l))
      ]

  pub points_rest : IsFitRest (next_of b) (rests.Clauses (record u { tried = n })) → HasPoints d vs
  points_rest fit =
      elim (dec_lt n (length u.clauses.now)) [
        | yes k ↦ points_with s b d w e f g (rests.Clauses (record u { tried = n })) us vs (kept k) fit h
        | no k ↦ let l : length u.clauses.now ≤ n = omega arith in points_goes b d us vs (none l) h g
      ]

pub next_same : (b d : Machine) → track_of d ≡ track_of b → next_of d ≡ next_of b
next_same b d e = sym (next_here d) ∙ ap next_in e ∙ next_here b

-- The latest choice.
module _ (b : Machine) (us vs : Vec ChoicePoint Global) (p : ChoicePoint) (l : vs.items ≡ us.items ++ p ∷ []) where
  pub latest_pending : pending_positions b vs ≡ positions_left p.rest (position_at (back_to p.save (track_of b)) p.save.first) ++ positions_pending (back_to p.save (track_of b)) (reverse us.items)
  latest_pending = ap (positions_pending (track_of b)) (last_first us.items vs.items p l)

  pub latest_points : HasPoints b vs → IsPoint (track_of b) p × ArePoints (back_to p.save (track_of b)) (reverse us.items)
  latest_points h = subst (λ (ps : List ChoicePoint). ArePoints (track_of b) ps) (last_first us.items vs.items p l) h

  -- once the search has gone back to it
  pub pending_back : (d : Machine) → track_of d ≡ back_to p.save (track_of b) → position_of d ≡ position_at (back_to p.save (track_of b)) p.save.first
      → positions_left p.rest (position_of d) ++ pending_positions d us ≡ pending_positions b vs
  pending_back d t q = ap₂ (λ (x : Position) (v : Track). positions_left p.rest x ++ positions_pending v (reverse us.items)) q t ∙ sym latest_pending

  pub points_back : (d : Machine) → track_of d ≡ back_to p.save (track_of b) → HasPoints b vs → HasPoints d us
  points_back d t h = subst (λ (v : Track). ArePoints v (reverse us.items)) (sym t) (latest_points h).1

pub atom_goes : (program : Clauses) (n c : ℕ) (ts : List NominalTerm) (p : Position) (w : ℕ) → choice_of_atom program n c ≡ Some w
    → goes (positions_by_clauses (n - 1) ts p 1 (clauses_of program c)) ≡ turned_atom program n c ts p
atom_goes program zero c ts p w h = cc
atom_goes program (suc n) c ts p w h = let e : suc n - 1 ≡ n = omega arith in ap (λ m. goes (positions_by_clauses m ts p 1 (clauses_of program c))) e

pub deep_atom : (program : Clauses) (n c w : ℕ) → choice_of_atom program n c ≡ Some w → 1 ≤ n
deep_atom program zero c w h = cc
deep_atom program (suc n) c w h = omega arith

pub atom_chooses : (program : Clauses) (n c : ℕ) → nat_lt 0 n ≡ true → (w : ℕ) × (choice_of_atom program n c ≡ Some w)
atom_chooses program zero c h = cc
atom_chooses program (suc n) c h = (length (clauses_of program c), refl)

-- A choice does not end the search.
pub ended_goal : (program : Clauses) (d : ℕ) (g : NominalGoal) (p : Position) (w : ℕ) → choice_of_goal program d g ≡ Some w → ended_outs (turned_goal program d g p) ≡ []
ended_goal program zero (atom c ts) p w h = cc
ended_goal program (suc d) (atom c ts) p w h = refl
ended_goal program d (either g k) p w h = refl
ended_goal program d succeed p w h = cc
ended_goal program d (equal t u) p w h = cc
ended_goal program d (fresh t u) p w h = cc
ended_goal program d (both g k) p w h = cc
ended_goal program d (exists x g) p w h = cc
ended_goal program d (new a g) p w h = cc

-- where no choice has a way left
pub no_points : (b d : Machine) (vs : Vec ChoicePoint Global) → vs.items ≡ [] → (pending_positions d vs ≡ pending_positions b vs) × HasPoints d vs
no_points b d vs e = (
  ap (λ (us : List ChoicePoint). positions_pending (track_of d) (reverse us)) e ∙ sym (ap (λ (us : List ChoicePoint). positions_pending (track_of b) (reverse us)) e),
  subst (λ (us : List ChoicePoint). ArePoints (track_of d) (reverse us)) (sym e) tt,
)
