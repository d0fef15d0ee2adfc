-- What waits to be looked at, and what will be known once it has passed.
use Rattle.std.proofs.Common.{◌≡◌, ◌<◌, ◌+◌, ◌*◌, ℕ, Bool, true, false, ◌&&◌, List, [], ◌∷◌, ◌++◌, refl, sym, ap, ap₂, subst, ◌∙◌, arith, append_assoc}
use Rattle.std.proofs.lemmas.List.Folds.{list_all-append}
use Rattle.std.proofs.lemmas.List.Sums.{sum_by-append}
use Rattle.std.specs.List.{list_all, sum_by}
use Rattle.std.specs.BTreeMap.{get}
use Rattle.std.specs.Borrow.{Bor}
use Rattle.std.specs.Ordering.{is_eq, nat_cmp}
use Rattle.std.proofs.lemmas.List.{append-nil}
use Rattle.std.specs.Prelude.{Option, Some, None, cond}
use Rattle.ap_defs.specs.declared.terms.Ty.{Ty}
use Rattle.ap_defs.specs.Terms.{NominalTerm}
use Rattle.ap_defs.specs.Types.{NominalConstructor, NominalType, type_of}
use Rattle.ap_defs.specs.Typing.{VarTypes, one}
use Rattle.ap_judge.specs.declared.types.Expected.{Expected}
use Rattle.ap_judge.specs.declared.types.Wanted.{Wanted}
use Rattle.ap_judge.specs.declared.types.Wanted.TheVariants as wanted
use Rattle.ap_judge.specs.declared.typing.Task.{Task}
use Rattle.ap_judge.specs.declared.typing.Task.TheVariants as task
use Rattle.ap_judge.specs.declared.typing.Typed.{Typed}
use Rattle.ap_judge.specs.Typings.{AreEarned, AreTyped, IsTaskTaken, LeavesTasks, is_known, to_be_known, to_be_known_at, passes, task_size}
use Rattle.ap_judge.specs.Wanted.{IsLooked, expected_size, is_expected}
use Rattle.ap_judge.proofs.ComparisonLemmas.{some_size}
use Rattle.ap_theory.proofs.TermLemmas.{number_same}
use Rattle.ap_checks.specs.TypeTests.{is_typed, type_eq}
use Rattle.ap_judge.proofs.IndexLemmas.{at_number}
use Rattle.ap_judge.proofs.StackLemmas.{and_true, and_turned}
use Rattle.ap_judge.proofs.TypeLemmas.{both_left, both_right, same_type}
use Rattle.ap_shared.specs.Shared.{shared_at}

and_both : (x y : Bool) → x ≡ true → y ≡ true → (x && y) ≡ true
and_both x y e h = ap₂ ◌&&◌ e h

module _ (ts : List NominalTerm) (cs : List NominalConstructor) (vars : VarTypes) where
  abbrev all : List Task → Bool
  all ks = list_all (passes ts cs vars) ks

  -- nothing is known at first
  pub nothing_typed : (m : Typed) → m.known.entries ≡ [] → AreTyped ts cs vars m
  nothing_typed m none i t e = cc

  -- one more is known
  pub more_typed : (m n : Typed) (i : ℕ) (t : Bor Ty) → ((j : ℕ) → get nat_cmp n.known j ≡ cond (is_eq (nat_cmp i j)) (Some t) (get nat_cmp m.known j))
      → is_known ts cs vars i t → AreTyped ts cs vars m → AreTyped ts cs vars n
  more_typed m n i t new h k j u e =
      elim (is_eq (nat_cmp i j)) as (λ b. is_eq (nat_cmp i j) ≡ b → cond b (Some t) (get nat_cmp m.known j) ≡ Some u → is_known ts cs vars j u) [
        | true ↦ λ same f.
            let at : i ≡ j = number_same i j (sym (at_number i j) ∙ same) in
            let this : t ≡ u = cc in
            subst (λ (v : Bor Ty). is_known ts cs vars j v) this (subst (λ n. is_known ts cs vars n t) at h)
        | false ↦ λ other f. k j u f
      ] refl (sym (new j) ∙ e)

  -- what is known of a type is known of one that is the same
  pub typed_same : (i : ℕ) (t u : NominalType) → type_eq t u ≡ true → is_typed cs vars (shared_at ts i) (one t) ≡ true → is_typed cs vars (shared_at ts i) (one u) ≡ true
  typed_same i t u same h = subst (λ v. is_typed cs vars (shared_at ts i) (one v) ≡ true) (same_type t u same) h

  -- the next one, where it will be known
  pub earned_last : (ks : List Task) (i : ℕ) (t : Bor Ty) → AreEarned ts cs vars (ks ++ task.Known i t ∷ []) → is_known ts cs vars i t
  earned_last [] i t h = h.0 refl
  earned_last (task.Look e ∷ ks) i t h = earned_last ks i t h
  earned_last (task.Known j u ∷ ks) i t h = earned_last ks i t h.1

  -- the next one gives way to others
  module _ (k : Task) (more : List Task) (enough : all more ≡ true → passes ts cs vars k ≡ true) where
    last_passes : (ks : List Task) → all (ks ++ more) ≡ true → all (ks ++ k ∷ []) ≡ true
    last_passes ks h =
        let both : (all ks && all more) ≡ true = sym (list_all-append (passes ts cs vars) ks more) ∙ h in
        list_all-append (passes ts cs vars) ks (k ∷ [])
        ∙ and_both (all ks) (passes ts cs vars k && true) (both_left (all ks) (all more) both)
        (and_true (passes ts cs vars k) ∙ enough (both_right (all ks) (all more) both))

    pub earned_on : (ks : List Task) → AreEarned ts cs vars (ks ++ k ∷ []) → AreEarned ts cs vars more → AreEarned ts cs vars (ks ++ more)
    earned_on [] h m = m
    earned_on (task.Look e ∷ ks) h m = earned_on ks h m
    earned_on (task.Known i t ∷ ks) h m = (λ p. h.0 (last_passes ks p), earned_on ks h.1 m)

  -- ONE TURN OF THE LOOP, where the last one was taken

  module _ (whole : Bool) (ws ks after : List Task) (k : Task) (top : ws ≡ ks ++ k ∷ []) where
    all_top : all ws ≡ (all ks && passes ts cs vars k)
    all_top = ap (list_all (passes ts cs vars)) top ∙ list_all-append (passes ts cs vars) ks (k ∷ []) ∙ ap (λ b. all ks && b) (and_true (passes ts cs vars k))

    pub taken_false : (r : Bool) → r ≡ false → IsTaskTaken ts cs vars k ks after r → all ws ≡ whole → false ≡ whole
    taken_false r e h inv =
        let fails : passes ts cs vars k ≡ false = subst (λ b. IsTaskTaken ts cs vars k ks after b) e h in
        sym (and_turned (all ks) false) ∙ sym (ap (λ b. all ks && b) fails) ∙ sym all_top ∙ inv

    module _ (r : Bool) (e : r ≡ true) (h : IsTaskTaken ts cs vars k ks after r) where
      left : LeavesTasks ts cs vars k ks after
      left = subst (λ b. IsTaskTaken ts cs vars k ks after b) e h

      pub taken_true : all ws ≡ whole → all after ≡ whole
      taken_true inv =
          ap (list_all (passes ts cs vars)) left.left ∙ list_all-append (passes ts cs vars) ks left.more ∙ ap (λ b. all ks && b) left.all ∙ sym all_top ∙ inv

      pub taken_earned : AreEarned ts cs vars ws → AreEarned ts cs vars after
      taken_earned earned =
          subst (AreEarned ts cs vars) (sym left.left)
          (earned_on k left.more (λ p. sym left.all ∙ p) ks (subst (AreEarned ts cs vars) top earned) left.earned)

      pub taken_less : sum_by (task_size ts) after < sum_by (task_size ts) ws
      taken_less =
          let new : sum_by (task_size ts) after ≡ sum_by (task_size ts) ks + sum_by (task_size ts) left.more = ap (sum_by (task_size ts)) left.left ∙ sum_by-append (task_size ts) ks left.more in
          let old : sum_by (task_size ts) ws ≡ sum_by (task_size ts) ks + sum_by (task_size ts) (k ∷ []) = ap (sum_by (task_size ts)) top ∙ sum_by-append (task_size ts) ks (k ∷ []) in
          omega (arith, new, old, left.less)

  -- WHAT ONE LEAVES

  pub leaves_none : (k : Task) (ks : List Task) → passes ts cs vars k ≡ true → 0 < task_size ts k → LeavesTasks ts cs vars k ks ks
  leaves_none k ks h l = record { more = []; left = sym (append-nil ks); all = sym h; earned = tt; less = l }

  look_size : (e : Expected) → 0 < expected_size ts e
  look_size e = some_size (shared_at ts e.line)

  pub known_leaves : (i : ℕ) (t : Bor Ty) (ks : List Task) → LeavesTasks ts cs vars (task.Known i t) ks ks
  known_leaves i t ks = leaves_none (task.Known i t) ks refl (omega arith)

  pub passed_leaves : (e : Expected) (ks : List Task) → is_expected ts cs vars e ≡ true → LeavesTasks ts cs vars (task.Look e) ks ks
  passed_leaves e ks h = leaves_none (task.Look e) ks h (let some = look_size e in omega (arith, some))

  -- what will be known of a term, below what is left of it
  noted_all : (i : ℕ) (w : Wanted) (ks : List Task) → all (to_be_known_at i w ++ ks) ≡ all ks
  noted_all i (wanted.One t) ks = refl
  noted_all i wanted.Nothing ks = refl
  noted_all i (wanted.More t us) ks = refl
  noted_all i (wanted.Cell t l) ks = refl

  noted_earned : (i : ℕ) (w : Wanted) (ks : List Task) → (all ks ≡ true → is_expected ts cs vars (record { line = i; wanted = w }) ≡ true) → AreEarned ts cs vars ks → AreEarned ts cs vars (to_be_known_at i w ++ ks)
  noted_earned i (wanted.One t) ks h k = (h, k)
  noted_earned i wanted.Nothing ks h k = k
  noted_earned i (wanted.More t us) ks h k = k
  noted_earned i (wanted.Cell t l) ks h k = k

  noted_less : (i : ℕ) (w : Wanted) (ks : List Task) → sum_by (task_size ts) (to_be_known_at i w ++ ks) < 2 + sum_by (task_size ts) ks
  noted_less i (wanted.One t) ks =
      let sums : sum_by (task_size ts) (to_be_known_at i (wanted.One t) ++ ks) ≡ sum_by (task_size ts) (task.Known i t ∷ []) + sum_by (task_size ts) ks = sum_by-append (task_size ts) (task.Known i t ∷ []) ks in
      omega (arith, sums)
  noted_less i wanted.Nothing ks = let sums : sum_by (task_size ts) (to_be_known_at i wanted.Nothing ++ ks) ≡ sum_by (task_size ts) ks = refl in omega (arith, sums)
  noted_less i (wanted.More t us) ks = let sums : sum_by (task_size ts) (to_be_known_at i (wanted.More t us) ++ ks) ≡ sum_by (task_size ts) ks = refl in omega (arith, sums)
  noted_less i (wanted.Cell t l) ks = let sums : sum_by (task_size ts) (to_be_known_at i (wanted.Cell t l) ++ ks) ≡ sum_by (task_size ts) ks = refl in omega (arith, sums)

  module _ (e : Expected) where
    pub part_leaves : (p : Expected) (ks ms after : List Task) → ms ≡ ks ++ to_be_known e → after ≡ ms ++ task.Look p ∷ [] → (is_expected ts cs vars e ≡ is_expected ts cs vars p) × (expected_size ts p < expected_size ts e)
        → LeavesTasks ts cs vars (task.Look e) ks after
    part_leaves p ks ms after d f h = record {
      more = to_be_known e ++ task.Look p ∷ [];
      left = f ∙ ap (λ zs. zs ++ task.Look p ∷ []) d ∙ append_assoc ks (to_be_known e) (task.Look p ∷ []);
      all = noted_all e.line e.wanted (task.Look p ∷ []) ∙ and_true (is_expected ts cs vars p) ∙ sym h.0;
      earned = noted_earned e.line e.wanted (task.Look p ∷ []) (λ q. h.0 ∙ sym (and_true (is_expected ts cs vars p)) ∙ q) tt;
      less = let few = noted_less e.line e.wanted (task.Look p ∷ []) in omega (arith, few, h.1);
    }

    pub parts_leave : (p q : Expected) (ks ms ns after : List Task) → ms ≡ ks ++ to_be_known e → ns ≡ ms ++ task.Look q ∷ [] → after ≡ ns ++ task.Look p ∷ []
        → (is_expected ts cs vars e ≡ (is_expected ts cs vars p && is_expected ts cs vars q)) × (expected_size ts p + expected_size ts q < expected_size ts e)
        → LeavesTasks ts cs vars (task.Look e) ks after
    parts_leave p q ks ms ns after d f g h =
        let rest = task.Look q ∷ task.Look p ∷ [] in
        let both : all rest ≡ is_expected ts cs vars e = ap (λ b. is_expected ts cs vars q && b) (and_true (is_expected ts cs vars p)) ∙ and_turned (is_expected ts cs vars q) (is_expected ts cs vars p) ∙ sym h.0 in
        record {
          more = to_be_known e ++ rest;
          left =
              g ∙ ap (λ zs. zs ++ task.Look p ∷ []) (f ∙ ap (λ zs. zs ++ task.Look q ∷ []) d) ∙ append_assoc (ks ++ to_be_known e) (task.Look q ∷ []) (task.Look p ∷ [])
              ∙ append_assoc ks (to_be_known e) rest;
          all = noted_all e.line e.wanted rest ∙ both;
          earned = noted_earned e.line e.wanted rest (λ r. sym both ∙ r) tt;
          less = let few = noted_less e.line e.wanted rest in omega (arith, few, h.1);
        }

  -- at the beginning and at the end
  pub first_all : (ks : List Task) (e : Expected) → ks ≡ task.Look e ∷ [] → all ks ≡ is_expected ts cs vars e
  first_all ks e only = ap (list_all (passes ts cs vars)) only ∙ and_true (is_expected ts cs vars e)

  pub first_earned : (ks : List Task) (e : Expected) → ks ≡ task.Look e ∷ [] → AreEarned ts cs vars ks
  first_earned ks e only = subst (AreEarned ts cs vars) (sym only) tt

  pub taken_end : (whole : Bool) (ks : List Task) → all ks ≡ whole → ks ≡ [] → true ≡ whole
  taken_end whole ks inv none = sym (ap (list_all (passes ts cs vars)) none) ∙ inv
