-- Where a search covers a path, following the path ends at what covers it.
use Rattle.std.proofs.Common.{subst, ◌≡◌, ◌⊎◌, ◌+◌, ◌-◌, ◌<◌, ◌≤◌, ℕ, zero, suc, Bool, true, false, List, [], ◌∷◌, ◌++◌, length, refl, sym, ap, ◌∙◌, append_assoc, append-nil, inl, inr, arith, true≢false}
use Rattle.std.specs.Prelude.{◌==◌, if◌then◌else◌, filter, Option, Some, None, slice_get, option_map}
use Rattle.ap_defs.specs.Answers as answers
use Rattle.ap_defs.specs.Answers.{NominalAnswer, NominalOut, out_path, outs_at, query_outs}
use Rattle.ap_defs.specs.Goals.{Clauses, NominalQuery}
use Rattle.ap_defs.specs.PathOrder.{has_prefix}
use Rattle.ap_defs.specs.Paths.{Choice}
use Rattle.ap_defs.specs.declared.paths.Node.{Node}
use Rattle.ap_defs.specs.declared.paths.Node.TheVariants as nodes
use Rattle.ap_paths.specs.Trees.{Choices, GoesOn, InChoiceTree, IsChoice, joined_below}
use Rattle.ap_search.specs.PathTrees.{query_choice, query_choices}
use Rattle.ap_search.proofs.PrefixLemmas.{prefix_itself, prefix_longer, prefix_shorter}
use Rattle.ap_search.proofs.QueryTreeLemmas.{query_tree}
use Rattle.ap_theory.proofs.BooleanLemmas.{and_both, and_left, and_right}
use Rattle.ap_theory.proofs.TermLemmas.{number_same, same_number}
use Rattle.ap_backchain.specs.Branches.{IsBranchOf, IsChoiceOfNode, IsNodeAt, path_of_branch}
use Rattle.ap_backchain.specs.Problems.{HasQuery, clauses_in, queries_in}
use Rattle.ap_backchain.specs.declared.branch.Branch.{Branch}
use Rattle.ap_backchain.specs.declared.problem.Problem.{Problem}
use Rattle.ap_backchain.proofs.BranchLemmas.{node_at}
use Rattle.ap_complete.specs.NumberedProofs.{IsAmong}
use Rattle.ap_coverer.specs.Followed.{Covers, CoversPath, IsEnd, IsInSearch, by_answer, by_stuck}

prefix_on : (l m path : List ℕ) → has_prefix l m ≡ true → has_prefix m path ≡ true → has_prefix l path ≡ true
prefix_on [] m path h k = refl
prefix_on (a ∷ l) [] path h k = absurd (true≢false (sym h))
prefix_on (a ∷ l) (b ∷ m) [] h k = absurd (true≢false (sym k))
prefix_on (a ∷ l) (b ∷ m) (c ∷ path) h k =
    and_both (a == c) (has_prefix l path) (same_number a c (number_same a b (and_left (a == b) (has_prefix l m) h) ∙ number_same b c (and_left (b == c) (has_prefix m path) k)))
    (prefix_on l m path (and_right (a == b) (has_prefix l m) h) (and_right (b == c) (has_prefix m path) k))

-- a path has one next entry
same_next : (p : List ℕ) (i j : ℕ) (path : List ℕ) → has_prefix (p ++ i ∷ []) path ≡ true → has_prefix (p ++ j ∷ []) path ≡ true → i ≡ j
same_next [] i j [] h k = absurd (true≢false (sym h))
same_next [] i j (a ∷ path) h k = number_same i a (and_left (i == a) true h) ∙ sym (number_same j a (and_left (j == a) true k))
same_next (b ∷ p) i j [] h k = absurd (true≢false (sym h))
same_next (b ∷ p) i j (a ∷ path) h k = same_next p i j path (and_right (b == a) (has_prefix (p ++ i ∷ []) path) h) (and_right (b == a) (has_prefix (p ++ j ∷ []) path) k)

pub goes_one_further : (c : Choices) (q ks : List ℕ) (k : ℕ) → GoesOn c q ks → IsChoice (c (q ++ ks)) k → GoesOn c q (ks ++ k ∷ [])
goes_one_further c q [] k h i = (subst (λ (p : List ℕ). IsChoice (c p) k) (append-nil q) i, tt)
goes_one_further c q (j ∷ ks) k h i =
    (h.0, goes_one_further c (q ++ j ∷ []) ks k h.1 (subst (λ (p : List ℕ). IsChoice (c p) k) (sym (append_assoc q (j ∷ []) ks)) i))

among_filtered : (keep : NominalOut → Bool) (o : NominalOut) (os : List NominalOut) → IsAmong o os → keep o ≡ true → IsAmong o (filter keep os)
among_filtered keep o [] i h = absurd i
among_filtered keep o (w ∷ os) (inl e) h =
    subst (λ (b : Bool). IsAmong o (if b then (w ∷ filter keep os) else filter keep os)) (sym (ap keep e ∙ h)) (inl e)
among_filtered keep o (w ∷ os) (inr i) h =
    elim (keep w) as (λ b. IsAmong o (if b then (w ∷ filter keep os) else filter keep os)) [ true ↦ inr (among_filtered keep o os i h) | false ↦ among_filtered keep o os i h ]

filtered_kept : (keep : NominalOut → Bool) (o : NominalOut) (os : List NominalOut) → IsAmong o (filter keep os) → keep o ≡ true
filtered_kept keep o [] i = absurd i
filtered_kept keep o (w ∷ os) i =
    elim (keep w) as (λ b. keep w ≡ b → IsAmong o (if b then (w ∷ filter keep os) else filter keep os) → keep o ≡ true) [
      | true ↦ λ e j. elim j [ inl s ↦ ap keep (sym s) ∙ e | inr k ↦ filtered_kept keep o os k ]
      | false ↦ λ e j. filtered_kept keep o os j
    ] refl i

among_split : (o : NominalOut) (xs ys : List NominalOut) → IsAmong o (xs ++ ys) → IsAmong o xs ⊎ IsAmong o ys
among_split o [] ys i = inr i
among_split o (x ∷ xs) ys (inl e) = inl (inl e)
among_split o (x ∷ xs) ys (inr i) = elim (among_split o xs ys i) [ inl j ↦ inl (inr j) | inr j ↦ inr j ]

module _ (program : Clauses) (depth : ℕ) (q : NominalQuery) where
  abbrev choices : Choices
  choices = query_choices program depth q

  abbrev at : List ℕ → List NominalOut
  at = outs_at program depth q

  below : (o : NominalOut) (p : List ℕ) (i n : ℕ) → IsAmong o (joined_below at p i n) → (k : ℕ) × (i ≤ k) × (k < i + n) × (has_prefix (p ++ k ∷ []) (out_path o) ≡ true)
  below o p i zero h = absurd h
  below o p i (suc n) h =
      elim (among_split o (at (p ++ i ∷ [])) (joined_below at p (suc i) n) h) [
        | inl j ↦ (i, omega arith, omega arith, filtered_kept (λ w. has_prefix (p ++ i ∷ []) (out_path w)) o (query_outs program depth q) j)
        | inr j ↦ let r = below o p (suc i) n j in let l = r.1 in let m = r.2 in (r.0, omega (arith, l), omega (arith, m), r.3)
      ]

  below_choice : (o : NominalOut) (p : List ℕ) (w : ℕ) → InChoiceTree choices p → choices p ≡ Some w → IsAmong o (at p)
      → (k : ℕ) × (1 ≤ k) × (k ≤ w) × (has_prefix (p ++ k ∷ []) (out_path o) ≡ true)
  below_choice o p w t e i =
      let r = below o p 1 w (subst (IsAmong o) (query_tree program depth q p w e) i) in
      let m = r.2 in
      (r.0, r.1, omega (arith, m), r.3)

  module _ (o : NominalOut) (among : IsAmong o (query_outs program depth q)) (path : List ℕ) (begins : has_prefix (out_path o) path ≡ true) where
    among_at : (p : List ℕ) → has_prefix p (out_path o) ≡ true → IsAmong o (at p)
    among_at p h = among_filtered (λ w. has_prefix p (out_path w)) o (query_outs program depth q) among h

    -- the way to the path comes to the output
    goes_within : (done ks : List ℕ) → InChoiceTree choices done → GoesOn choices done ks → has_prefix (done ++ ks) path ≡ true → has_prefix done (out_path o) ≡ true
        → has_prefix (done ++ ks) (out_path o) ≡ true
    goes_within done [] t g h k = ap (λ l. has_prefix l (out_path o)) (append-nil done) ∙ k
    goes_within done (j ∷ ks) t g h k =
        elim (choices done) as (λ v. choices done ≡ v → has_prefix (done ++ j ∷ ks) (out_path o) ≡ true) [
          | None ↦ λ e. absurd (subst (λ (v : Option ℕ). IsChoice v j) e g.0)
          | Some w ↦ λ e.
              let r = below_choice o done w t e (among_at done k) in
              let whole : has_prefix ((done ++ j ∷ []) ++ ks) path ≡ true = ap (λ l. has_prefix l path) (append_assoc done (j ∷ []) ks) ∙ h in
              let same : r.0 ≡ j = same_next done r.0 j path (prefix_on (done ++ r.0 ∷ []) (out_path o) path r.3 begins) (prefix_shorter (done ++ j ∷ []) ks path whole) in
              let here : has_prefix (done ++ j ∷ []) (out_path o) ≡ true = subst (λ (i : ℕ). has_prefix (done ++ i ∷ []) (out_path o) ≡ true) same r.3 in
              subst (λ (l : List ℕ). has_prefix l (out_path o) ≡ true) (append_assoc done (j ∷ []) ks)
              (goes_within (done ++ j ∷ []) ks (goes_one_further choices [] done j t g.0) g.1 whole here)
        ] refl

    -- so where it stops it stands at the output
    module _ (l rest : List ℕ) (whole : l ++ rest ≡ path) (tree : InChoiceTree choices l) where
      begun : has_prefix l (out_path o) ≡ true
      begun = goes_within [] l tt tree (prefix_shorter l rest path (ap (has_prefix (l ++ rest)) (sym whole) ∙ prefix_itself (l ++ rest))) refl

      no_choice : (w : ℕ) → choices l ≡ Some w → ((k : ℕ) (ks : List ℕ) → rest ≡ k ∷ ks → (1 ≤ k) × (k ≤ w) → ⊥) → ⊥
      no_choice w e refused =
          let r = below_choice o l w tree e (among_at l begun) in
          let next : has_prefix (l ++ r.0 ∷ []) path ≡ true = prefix_on (l ++ r.0 ∷ []) (out_path o) path r.3 begins in
          elim rest as (λ z. rest ≡ z → ⊥) [
            | [] ↦ λ i.
                let same : l ≡ path = sym (append-nil l) ∙ ap (λ z. l ++ z) (sym i) ∙ whole in
                true≢false (sym (prefix_itself path) ∙ ap (has_prefix path) (sym same) ∙ prefix_longer l r.0 path next)
            | k ∷ ks ↦ λ i.
                let there : (l ++ k ∷ []) ++ ks ≡ path = append_assoc l (k ∷ []) ks ∙ ap (λ z. l ++ z) (sym i) ∙ whole in
                let same : r.0 ≡ k = same_next l r.0 k path next (prefix_shorter (l ++ k ∷ []) ks path (ap (λ z. has_prefix z path) there ∙ prefix_itself path)) in
                refused k ks i (subst (λ (j : ℕ). (1 ≤ j) × (j ≤ w)) same (r.1, r.2))
          ] refl

      only : (w : NominalOut) → at l ≡ w ∷ [] → w ≡ o
      only w e = elim (subst (IsAmong o) e (among_at l begun)) [ inl i ↦ i | inr i ↦ absurd i ]

-- a choice has its width
width_there : (program : Clauses) (depth : ℕ) (q : NominalQuery) (l : List ℕ) (w : ℕ) (kept : List ℕ) → query_choice program depth q l ≡ Some (record { width = w; kept = kept }) → query_choices program depth q l ≡ Some w
width_there program depth q l w kept h = ap (option_map (λ (c : Choice). c.width)) h

-- where it stops it stands at the answer of the path, or is stuck at a beginning of it
module _ (program : Clauses) (depth : ℕ) (q : NominalQuery) (path l rest : List ℕ) (whole : l ++ rest ≡ path) (tree : InChoiceTree (query_choices program depth q) l) where
  abbrev Refused : Node → Type 0
  Refused n = (k : ℕ) (ks : List ℕ) → rest ≡ k ∷ ks → IsChoiceOfNode k n → ⊥

  answers_differ : (m : List ℕ) (a b : NominalAnswer) → answers.found m a ≡ answers.found path b → m ≡ path
  answers_differ m a b e = cc

  at_answer : (a : NominalAnswer) → IsAmong (answers.found path a) (query_outs program depth q) → (n : Node) → IsNodeAt program depth q l n → Refused n → IsEnd n l path
  at_answer a i (nodes.Choice w kept) h r = no_choice program depth q (answers.found path a) i path (prefix_itself path) l rest whole tree w (width_there program depth q l w kept h) r
  at_answer a i nodes.Answer h r = answers_differ l h.1.0 a (only program depth q (answers.found path a) i path (prefix_itself path) l rest whole tree (answers.found l h.1.0) h.1.1)
  at_answer a i nodes.Cut h r = absurd (let e = only program depth q (answers.found path a) i path (prefix_itself path) l rest whole tree (answers.cut l) h.1 in cc)
  at_answer a i nodes.Stuck h r = absurd (let e = only program depth q (answers.found path a) i path (prefix_itself path) l rest whole tree (answers.stuck l) h.1 in cc)
  at_answer a i nodes.Failed h r = absurd (subst (IsAmong (answers.found path a)) h.1 (among_at program depth q (answers.found path a) i path (prefix_itself path) l
      (begun program depth q (answers.found path a) i path (prefix_itself path) l rest whole tree)))

  at_stuck : (m : List ℕ) → IsAmong (answers.stuck m) (query_outs program depth q) → has_prefix m path ≡ true → (n : Node) → IsNodeAt program depth q l n → Refused n → IsEnd n l path
  at_stuck m i b (nodes.Choice w kept) h r = no_choice program depth q (answers.stuck m) i path b l rest whole tree w (width_there program depth q l w kept h) r
  at_stuck m i b nodes.Answer h r = absurd (let e = only program depth q (answers.stuck m) i path b l rest whole tree (answers.found l h.1.0) h.1.1 in cc)
  at_stuck m i b nodes.Cut h r = absurd (let e = only program depth q (answers.stuck m) i path b l rest whole tree (answers.cut l) h.1 in cc)
  at_stuck m i b nodes.Stuck h r =
      let e : answers.stuck l ≡ answers.stuck m = only program depth q (answers.stuck m) i path b l rest whole tree (answers.stuck l) h.1 in
      ap (λ (z : NominalOut). has_prefix (out_path z) path) e ∙ b
  at_stuck m i b nodes.Failed h r = absurd (subst (IsAmong (answers.stuck m)) h.1 (among_at program depth q (answers.stuck m) i path b l (begun program depth q (answers.stuck m) i path b l rest whole tree)))

  pub ended : Covers program depth q path → (n : Node) → IsNodeAt program depth q l n → Refused n → IsEnd n l path
  ended (by_answer a i) n h r = at_answer a i n h r
  ended (by_stuck m i b) n h r = at_stuck m i b n h r

-- BRANCHES

pub there_is : (qs : List NominalQuery) (k : ℕ) → k < length qs → (q : NominalQuery) × (slice_get qs k ≡ Some q)
there_is [] k h = absurd (omega arith)
there_is (q ∷ qs) zero h = (q, refl)
there_is (q ∷ qs) (suc k) h = there_is qs k (omega arith)

pub branch_node : (p : Problem) (b : Branch) → IsBranchOf p b → (q : NominalQuery) → slice_get (queries_in p) (p.query - 1) ≡ Some q → IsNodeAt (clauses_in p) p.depth q (path_of_branch b) b.node
branch_node p b of q asked = let w = of q asked in node_at (clauses_in p) p.depth q b.node b.standing w.marks w.named

choice_there : (program : Clauses) (depth : ℕ) (q : NominalQuery) (l : List ℕ) (n : Node) (k : ℕ) → IsNodeAt program depth q l n → IsChoiceOfNode k n → IsChoice (query_choices program depth q l) k
choice_there program depth q l (nodes.Choice w kept) k h c = subst (λ (o : Option ℕ). IsChoice o k) (sym (width_there program depth q l w kept h)) c
choice_there program depth q l _ k h c = absurd c

pub in_search_next : (p : Problem) (b : Branch) (k : ℕ) (l : List ℕ) → IsBranchOf p b → IsChoiceOfNode k b.node → IsInSearch p (path_of_branch b) → l ≡ path_of_branch b ++ k ∷ [] → IsInSearch p l
in_search_next p b k l of chosen there e q asked =
    let c = query_choices (clauses_in p) p.depth q in
    subst (InChoiceTree c) (sym e)
    (goes_one_further c [] (path_of_branch b) k (there q asked) (choice_there (clauses_in p) p.depth q (path_of_branch b) b.node k (branch_node p b of q asked) chosen))

pub branch_ends : (p : Problem) (b : Branch) (path rest : List ℕ) → HasQuery p → IsBranchOf p b → path_of_branch b ++ rest ≡ path → IsInSearch p (path_of_branch b) → CoversPath p path
    → ((k : ℕ) (ks : List ℕ) → rest ≡ k ∷ ks → IsChoiceOfNode k b.node → ⊥) → IsEnd b.node (path_of_branch b) path
branch_ends p b path rest has of whole there covers refused =
    let w = there_is (queries_in p) (p.query - 1) (let i = has.0 in let j = has.1 in omega (arith, i, j)) in
    ended (clauses_in p) p.depth w.0 path (path_of_branch b) rest whole (there w.0 w.1) (covers w.0 w.1) b.node (branch_node p b of w.0 w.1) refused

-- a path has no next entry that the node offers: it is refused, or there is none
pub refused_choice : (rest others : List ℕ) (m n : Node) (choice : ℕ) (offered : Bool) → rest ≡ choice ∷ others → m ≡ n → (IsChoiceOfNode choice m → offered ≡ true) → offered ≡ false
    → (k : ℕ) (ks : List ℕ) → rest ≡ k ∷ ks → IsChoiceOfNode k n → ⊥
refused_choice rest others m n choice offered e same all refused k ks i h =
    let first : k ≡ choice = heads k choice ks others (sym i ∙ e) in
    true≢false (sym (all (subst (λ (j : ℕ). IsChoiceOfNode j m) first (subst (IsChoiceOfNode k) (sym same) h))) ∙ refused)
  where
    heads : (i j : ℕ) (is js : List ℕ) → i ∷ is ≡ j ∷ js → i ≡ j
    heads i j is js e = cc

pub no_choice_left : (rest : List ℕ) (n : Node) → length rest ≡ 0 → (k : ℕ) (ks : List ℕ) → rest ≡ k ∷ ks → IsChoiceOfNode k n → ⊥
no_choice_left rest n e k ks i h = let l : length (k ∷ ks) ≡ 0 = sym (ap length i) ∙ e in omega (arith, l)
