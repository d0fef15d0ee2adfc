-- At `exists` and `new` a ground proof has one with the names of a search.
use Rattle.std.proofs.Common.{subst, ◌≡◌, ◌≢◌, ◌+◌, ◌<◌, ℕ, Bool, true, false, ◌&&◌, List, [], ◌∷◌, ◌++◌, map, length, refl, sym, ap, ◌∙◌, inl, inr, arith, true≢false}
use Rattle.std.specs.Prelude.{◌==◌, not, if◌then◌else◌}
use Rattle.ap_defs.specs.Alpha.{alpha, fresh}
use Rattle.ap_defs.specs.Answers.{kind_at}
use Rattle.ap_defs.specs.Derivations as nodes
use Rattle.ap_defs.specs.Derivations.{GroundProof, height, path}
use Rattle.ap_defs.specs.Freshness.{var_eq}
use Rattle.ap_defs.specs.Goals as goals
use Rattle.ap_defs.specs.Goals.{NominalGoal, NominalClause, NominalProgram, clauses_of}
use Rattle.ap_defs.specs.GroundProofs.{Environment, IsNew, IsValid, with_name, with_term}
use Rattle.ap_defs.specs.Occurrences.{free_names, free_vars, without_name}
use Rattle.ap_defs.specs.Permutations.{act_name, has_name, swap_of}
use Rattle.ap_defs.specs.Renaming.{rename_name}
use Rattle.ap_defs.specs.Terms.{GroundTerm, act_ground}
use Rattle.ap_defs.specs.Types.{NominalConstructor, NominalKind}
use Rattle.ap_defs.specs.declared.terms.Name.{Name}
use Rattle.ap_defs.specs.declared.terms.Swap.{Swap}
use Rattle.ap_defs.specs.declared.terms.Var.{Var}
use Rattle.ap_complete.specs.RenamedProofs.{IsReady, IsRenamed, in_range, is_brought, is_taken}
use Rattle.ap_complete.specs.Restriction.{KeepsRestriction}
use Rattle.ap_program.specs.Typed.{brought, has_number, stands_free, stands_in_term}
use Rattle.ap_theory.proofs.BooleanLemmas.{or_if_left, or_if_right}
use Rattle.ap_theory.proofs.GroundLemmas.{alpha_itself, alpha_swap_fresh}
use Rattle.ap_theory.proofs.PermutationLemmas.{has_without_name, name_tells, swap_left, swap_other}
use Rattle.ap_theory.proofs.TermLemmas.{number_same, same_number}
use Rattle.ap_ground.specs.Environments.{AgreeOn, KeepsSorts, act_environment, act_proof}
use Rattle.ap_ground.proofs.FreeIdentifierLemmas.{has_without_var, proofs_see_free}
use Rattle.ap_ground.proofs.GroundTypingLemmas.{type_of_act}
use Rattle.ap_ground.proofs.ProofActionLemmas.{proofs_equivariant}
use Rattle.ap_ground.proofs.OccurrenceLemmas.{has_without}
use Rattle.ap_ground.proofs.ShiftLemmas.{rename_apart}
use Rattle.ap_complete.specs.NumberedProofs.{kinds_in}
use Rattle.ap_complete.proofs.ClearingLemmas.{clearing}
use Rattle.ap_complete.proofs.RenamingLemmas.{act_proof-append, among_vars, is_brought_true, taken_within}
use Rattle.ap_complete.proofs.ReadyLemmas.{Renames, free_not_taken, taken_low}

-- what is brought inside stands free outside only where it stands free inside
another : (i j : ℕ) (b : Bool) (js : List ℕ) → has_number j js ≡ false → has_number i js ≡ true → (not (i == j) && b) ≡ false → b ≡ false
another i j b js h k f =
    elim (i == j) as (λ v. (i == j) ≡ v → (not v && b) ≡ false → b ≡ false) [
      | true ↦ λ e w. absurd (true≢false (sym k ∙ ap (λ l. has_number l js) (number_same i j e) ∙ h))
      | false ↦ λ e w. w
    ] refl f

module _ (p : NominalProgram) (restricted : KeepsRestriction p) where
  abbrev cs : List NominalConstructor
  cs = p.signature.constructors

  pub exists_renamed : (d : GroundProof) → Renames p d → (x : Var) (g : NominalGoal) (t : GroundTerm) (s : List Swap) (kinds : List NominalKind) (n m : ℕ) (e : Environment)
      → IsReady p kinds n m (length (kinds_in p g d)) (goals.exists x g) e → IsValid p kinds (act_proof s (nodes.exists t d)) (goals.exists x g) e
      → IsRenamed p kinds n m (goals.exists x g) e (nodes.exists t d)
  exists_renamed d ih x g t s kinds n m e r v =
      let k = length (kinds_in p g d) in
      let goal = goals.exists x g in
      let t' = act_ground s t in
      let c = clearing (λ (a : Name). is_taken n m k goal a.num) (m + k) (taken_low p kinds n m k goal e r) (t' ∷ []) (map e.terms (free_vars goal)) in
      let u = act_ground c.perm t' in
      let e' = with_term e x u in
      let agree : AgreeOn g (act_environment c.perm (with_term e x t')) e' = record {
        names = λ b i. let l = r.free_low b i in
            ap (act_name c.perm) (r.names b i) ∙ c.fixed (rename_name n b) (free_not_taken p kinds n m k goal e r b i) (omega arith) ∙ sym (r.names b i);
        terms = λ y i.
            elim (var_eq x y) as (λ w. var_eq x y ≡ w → alpha (act_ground c.perm (if w then t' else e.terms y)) (if w then u else e.terms y) ≡ true) [
              | true ↦ λ j. alpha_itself u
              | false ↦ λ j.
                  let there = has_without_var x y (free_vars g) j i in
                  c.left (e.terms y) (among_vars e.terms y (free_vars goal) there) (λ a h. r.clear a h y there)
            ] refl;
      } in
      let moved : IsValid p kinds (act_proof c.perm (act_proof s d)) g e' =
      proofs_see_free p kinds (act_proof c.perm (act_proof s d)) g (act_environment c.perm (with_term e x t')) e'
      (proofs_equivariant p restricted.typed c.perm kinds (act_proof s d) g (with_term e x t') v.1 r.keeps) agree in
      let ready : IsReady p kinds n m k g e' = record {
        typed = r.typed.1;
        keeps = r.keeps;
        names = r.names;
        clear = λ a h y i.
            let taken = taken_within n m k m k g goal (omega arith) (omega arith) (λ j l. or_if_right (j == x.num) (has_number j (brought g)) l) a.num h in
            elim (var_eq x y) as (λ w. var_eq x y ≡ w → fresh a (if w then u else e.terms y) ≡ true) [
              | true ↦ λ j. (c.cleared a taken).0
              | false ↦ λ j. r.clear a taken y (has_without_var x y (free_vars g) j i)
            ] refl;
        low = λ i h. r.low i (or_if_right (i == x.num) (has_number i (brought g)) h);
        free_low = r.free_low;
        once = r.once.1;
        own = λ i h. another i x.num (stands_free stands_in_term i g) (brought g) r.once.0 h (r.own i (or_if_right (i == x.num) (has_number i (brought g)) h));
      } in
      let w = ih g (c.perm ++ s) kinds n m e' ready (subst (λ (z : GroundProof). IsValid p kinds z g e') (act_proof-append c.perm s d) moved) in
      record {
        result = nodes.exists u w.result;
        valid = (type_of_act cs c.perm (kind_at kinds x.num) t' v.0, w.valid);
        named = w.named;
        same_path = w.same_path;
        same_height = w.same_height;
        same_kinds = w.same_kinds;
      }

  pub new_renamed : (d : GroundProof) → Renames p d → (a : Name) (g : NominalGoal) (c : Name) (s : List Swap) (kinds : List NominalKind) (n m : ℕ) (e : Environment)
      → IsReady p kinds n m (length (kinds_in p g d)) (goals.new a g) e → IsValid p kinds (act_proof s (nodes.new c d)) (goals.new a g) e
      → IsRenamed p kinds n m (goals.new a g) e (nodes.new c d)
  new_renamed d ih a g c s kinds n m e r v =
      let k = length (kinds_in p g d) in
      let goal = goals.new a g in
      let c' = act_name s c in
      let own = rename_name n a in
      let w = swap_of c' own ∷ [] in
      let e' = with_name e a own in
      let here : has_number a.num (brought goal) ≡ true = or_if_left (a.num == a.num) (has_number a.num (brought g)) (same_number a.num a.num refl) in
      let taken : is_taken n m k goal own.num ≡ true = or_if_right (in_range m k own.num) (is_brought n (brought goal) own.num) (is_brought_true n (brought goal) a.num here) in
      let other : (b : Name) → a ≢ b → has_name b (free_names goal) ≡ true → e.names b ≢ own = λ b i h q. i (sym (rename_apart n b a (sym (r.names b h) ∙ q))) in
      let agree : AgreeOn g (act_environment w (with_name e a c')) e' = record {
        names = λ b i.
            elim (name_tells a b) [
              | inl j ↦ rw j.0 (swap_left c' own v.0)
              | inr j ↦
                  let there = has_without_name a b (free_names g) (λ q. j.1 (sym q)) i in
                  rw j.0 (swap_other c' own (e.names b) v.0 (v.1.apart b there) (other b j.1 there))
            ];
        terms = λ x i. alpha_swap_fresh c' own (e.terms x) v.0 (v.1.fresh_for x i) (r.clear own taken x i);
      } in
      let keeps' : KeepsSorts e' = λ b. elim (name_tells a b) [ inl j ↦ rw j.0 (ap (λ (x : Name). x.sort) j.1) | inr j ↦ rw j.0 (r.keeps b) ] in
      let keeps_c : KeepsSorts (with_name e a c') = λ b. elim (name_tells a b) [ inl j ↦ rw j.0 (v.0 ∙ ap (λ (x : Name). x.sort) j.1) | inr j ↦ rw j.0 (r.keeps b) ] in
      let moved : IsValid p kinds (act_proof w (act_proof s d)) g e' =
      proofs_see_free p kinds (act_proof w (act_proof s d)) g (act_environment w (with_name e a c')) e'
      (proofs_equivariant p restricted.typed w kinds (act_proof s d) g (with_name e a c') v.2 keeps_c) agree in
      let ready : IsReady p kinds n m k g e' = record {
        typed = r.typed.1;
        keeps = keeps';
        names = λ b i.
            elim (name_tells a b) [
              | inl j ↦ rw j.0 (ap (rename_name n) j.1)
              | inr j ↦ rw j.0 (r.names b (has_without_name a b (free_names g) (λ q. j.1 (sym q)) i))
            ];
        clear = λ b h. r.clear b (taken_within n m k m k g goal (omega arith) (omega arith) (λ j l. or_if_right (j == a.num) (has_number j (brought g)) l) b.num h);
        low = λ i h. r.low i (or_if_right (i == a.num) (has_number i (brought g)) h);
        free_low = λ b i.
            elim (name_tells a b) [
              | inl j ↦ subst (λ (x : Name). n + x.num < m) j.1 (r.low a.num here)
              | inr j ↦ r.free_low b (has_without_name a b (free_names g) (λ q. j.1 (sym q)) i)
            ];
        once = r.once.1;
        own = λ i h. another i a.num (stands_free stands_in_term i g) (brought g) r.once.0 h (r.own i (or_if_right (i == a.num) (has_number i (brought g)) h));
      } in
      let z = ih g (w ++ s) kinds n m e' ready (subst (λ (y : GroundProof). IsValid p kinds y g e') (act_proof-append w s d) moved) in
      let is_new : IsNew own goal e = record {
        apart = λ b h. elim (name_tells a b) [
          | inl j ↦ λ q. absurd (gone a (free_names g) (subst (λ (x : Name). has_name x (free_names goal) ≡ true) (sym j.1) h))
          | inr j ↦ other b j.1 h
        ];
        fresh_for = r.clear own taken;
      } in
      record {
        result = nodes.new own z.result;
        valid = (refl, is_new, z.valid);
        named = (refl, z.named);
        same_path = z.same_path;
        same_height = z.same_height;
        same_kinds = z.same_kinds;
      }
    where
      gone : (a : Name) (bs : List Name) → has_name a (without_name a bs) ≡ true → ⊥
      gone a bs h = (has_without a a bs h).1 refl
