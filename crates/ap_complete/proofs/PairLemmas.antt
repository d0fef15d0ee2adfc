-- The terms that a ground proof gives to the variables of a search.
use Rattle.std.proofs.Common.{subst, ◌≡◌, ◌+◌, ◌<◌, ◌≤◌, ℕ, zero, suc, Bool, true, false, ◌||◌, List, [], ◌∷◌, ◌++◌, map, length, refl, sym, ap, ap₂, ◌∙◌, inl, inr, arith, true≢false}
use Rattle.std.specs.Prelude.{◌==◌, if◌then◌else◌, Option, Some, None}
use Rattle.std.proofs.lemmas.List.{length-append, length-map}
use Rattle.ap_defs.specs.Derivations as nodes
use Rattle.ap_defs.specs.Derivations.{GroundProof}
use Rattle.ap_defs.specs.Freshness.{var_eq}
use Rattle.ap_defs.specs.Goals as goals
use Rattle.ap_defs.specs.Goals.{NominalGoal, NominalClause, NominalProgram, clauses_of}
use Rattle.ap_defs.specs.GroundProofs.{AreOfTypes, Environment, IsValid, clause_at, environment, with_name, with_term}
use Rattle.ap_defs.specs.Groundings.{Grounding}
use Rattle.ap_defs.specs.Renaming.{local_vars, rename_var, var_unless}
use Rattle.ap_defs.specs.Resolution.{kinds_of}
use Rattle.ap_defs.specs.Terms.{GroundTerm}
use Rattle.ap_defs.specs.Types as types
use Rattle.ap_defs.specs.Types.{NominalConstructor, NominalKind, NominalLocal, NominalType}
use Rattle.ap_defs.specs.Unification.{has_var}
use Rattle.ap_defs.specs.declared.terms.Var.{Var}
use Rattle.ap_program.specs.Typed.{AreMarked, EachOnce, IsTypedProgram, brought, has_number, is_marked}
use Rattle.ap_theory.proofs.BooleanLemmas.{false_if_not, or_cases, or_false, or_if_left, or_if_right}
use Rattle.ap_theory.proofs.TermLemmas.{number_same, same_number, same_var, var_same}
use Rattle.ap_ground.proofs.ScopeLemmas.{program_clause_typed}
use Rattle.ap_ground.proofs.ItemEnvironmentLemmas.{vars_from}
use Rattle.ap_complete.specs.RenamedProofs.{in_range, is_brought, is_taken}
use Rattle.ap_complete.specs.NumberedProofs.{IsGiven, kinds_in, kinds_of_use}
use Rattle.ap_complete.proofs.RenamingLemmas.{brought_is, is_brought_true, marked_below, number_left, number_right, once_left, once_right, one_marked, range_is, range_true, taken_within}

-- a variable and the term for it
abbrev pub Pairs : Type 0
Pairs = List (Var × GroundTerm)

abbrev pub zipped : List Var → List GroundTerm → Pairs
zipped (x ∷ xs) (g ∷ gs) = (x, g) ∷ zipped xs gs
zipped _ _ = []

abbrev pub pairs_of_use : ℕ → List GroundTerm → (ℕ → ℕ → NominalGoal → Pairs) → Option NominalClause → Pairs
pairs_of_use m gs inner None = []
pairs_of_use m gs inner (Some c) = zipped (local_vars m c.locals) gs ++ inner m (m + length c.locals) c.body

-- the variables that a search numbers beside a proof, with the proof's terms
abbrev pub pairs_in : NominalProgram → ℕ → ℕ → NominalGoal → GroundProof → Pairs
pairs_in p n m (goals.atom q ts) (nodes.atom k names gs d) = pairs_of_use m gs (λ i j g. pairs_in p i j g d) (clause_at (clauses_of p.clauses q) k)
pairs_in p n m (goals.both g h) (nodes.both d e) = pairs_in p n m g d ++ pairs_in p n (m + length (kinds_in p g d)) h e
pairs_in p n m (goals.either g h) (nodes.left d) = pairs_in p n m g d
pairs_in p n m (goals.either g h) (nodes.right d) = pairs_in p n m h d
pairs_in p n m (goals.exists x g) (nodes.exists t d) = (rename_var n x, t) ∷ pairs_in p n m g d
pairs_in p n m (goals.new a g) (nodes.new c d) = pairs_in p n m g d
pairs_in p n m _ _ = []

abbrev pub has_key : Var → Pairs → Bool
has_key x [] = false
has_key x (v ∷ ps) = var_eq x v.0 || has_key x ps

abbrev pub KeysApart : Pairs → Type 0
KeysApart [] = Unit {0}
KeysApart (v ∷ ps) = (has_key v.0 ps ≡ false) × KeysApart ps

abbrev pub Gives : Grounding → Pairs → Type 0
Gives f [] = Unit {0}
Gives f (v ∷ ps) = (v.1 ≡ f v.0) × Gives f ps

-- what stands beside a variable first, and another grounding's term where nothing does
abbrev pub looked : Pairs → Grounding → Grounding
looked [] f x = f x
looked (v ∷ ps) f x = if var_eq x v.0 then v.1 else looked ps f x

has_key-append : (x : Var) (ps qs : Pairs) → has_key x (ps ++ qs) ≡ true → (has_key x ps ≡ true → ⊥) → has_key x qs ≡ true
has_key-append x [] qs h n = h
has_key-append x (v ∷ ps) qs h n =
    elim (or_cases (var_eq x v.0) (has_key x (ps ++ qs)) h) [
      | inl e ↦ absurd (n (or_if_left (var_eq x v.0) (has_key x ps) e))
      | inr e ↦ has_key-append x ps qs e (λ k. n (or_if_right (var_eq x v.0) (has_key x ps) k))
    ]

pub apart-append : (ps qs : Pairs) → KeysApart ps → KeysApart qs → ((x : Var) → has_key x ps ≡ true → has_key x qs ≡ true → ⊥) → KeysApart (ps ++ qs)
apart-append [] qs h k w = k
apart-append (v ∷ ps) qs h k w = (
  false_if_not (has_key v.0 (ps ++ qs)) (λ e.
      w v.0 (or_if_left (var_eq v.0 v.0) (has_key v.0 ps) (same_var v.0 v.0 refl)) (has_key-append v.0 ps qs e (λ i. true≢false (sym i ∙ h.0)))),
  apart-append ps qs h.1 k (λ x i. w x (or_if_right (var_eq x v.0) (has_key x ps) i)),
)

pub gives-append : (f : Grounding) (ps qs : Pairs) → Gives f (ps ++ qs) → Gives f ps × Gives f qs
gives-append f [] qs h = (tt, h)
gives-append f (v ∷ ps) qs h = let r = gives-append f ps qs h.1 in ((h.0, r.0), r.1)

-- where no variable stands twice the look-up gives each pair
look_later : (f : Grounding) (v : Var × GroundTerm) (ps qs : Pairs) → has_key v.0 qs ≡ false → Gives (looked ps f) qs → Gives (looked (v ∷ ps) f) qs
look_later f v ps [] h k = tt
look_later f v ps (w ∷ qs) h k =
    let r = or_false (var_eq v.0 w.0) (has_key v.0 qs) h in
    let other : var_eq w.0 v.0 ≡ false = false_if_not (var_eq w.0 v.0) (λ e. true≢false (sym (same_var v.0 w.0 (sym (var_same w.0 v.0 e))) ∙ r.0)) in
    (k.0 ∙ sym (ap (λ b. if b then v.1 else looked ps f w.0) other), look_later f v ps qs r.1 k.1)

pub looked_gives : (f : Grounding) (ps : Pairs) → KeysApart ps → Gives (looked ps f) ps
looked_gives f [] h = tt
looked_gives f (v ∷ ps) h =
    (sym (ap (λ b. if b then v.1 else looked ps f v.0) (same_var v.0 v.0 refl)), look_later f v ps ps h.0 (looked_gives f ps h.1))

-- AN ITEM'S VARIABLES

pub record VarPlace (m : ℕ) (ls : List NominalLocal) (i : ℕ) : Type 0 where
  pub place : ℕ
  pub number : i ≡ m + place
  pub below : place < length ls
  pub unmarked : is_marked ls place ≡ false

pub var_place : (m : ℕ) (ls : List NominalLocal) (x : Var) → has_var x (local_vars m ls) ≡ true → VarPlace m ls x.num
var_place m [] x h = absurd (true≢false (sym h))
var_place m (l ∷ ls) x h = first l.bound l.kind refl h (λ k. next (var_place (suc m) ls x k))
  where
    next : VarPlace (suc m) ls x.num → VarPlace m (l ∷ ls) x.num
    next r = let e = r.number in let b = r.below in record { place = suc r.place; number = omega arith; below = omega arith; unmarked = r.unmarked }

    first : (b : Bool) (k : NominalKind) → l.bound ≡ b → has_var x (var_unless b k m (local_vars (suc m) ls)) ≡ true
        → (has_var x (local_vars (suc m) ls) ≡ true → VarPlace m (l ∷ ls) x.num) → VarPlace m (l ∷ ls) x.num
    first true k e i later = later i
    first false (types.name s) e i later = later i
    first false (types.var t) e i later =
        elim (or_cases (var_eq x (record { num = m })) (has_var x (local_vars (suc m) ls)) i) [
          | inl j ↦
              let same : x.num ≡ m = ap (λ (y : Var). y.num) (var_same x (record { num = m }) j) in
              record { place = zero; number = omega arith; below = omega arith; unmarked = e }
          | inr j ↦ later j
        ]

zipped_key : (xs : List Var) (gs : List GroundTerm) (x : Var) → has_key x (zipped xs gs) ≡ true → has_var x xs ≡ true
zipped_key [] gs x h = h
zipped_key (y ∷ ys) [] x h = absurd (true≢false (sym h))
zipped_key (y ∷ ys) (g ∷ gs) x h = elim (or_cases (var_eq x y) (has_key x (zipped ys gs)) h) [
  | inl e ↦ or_if_left (var_eq x y) (has_var x ys) e
  | inr e ↦ or_if_right (var_eq x y) (has_var x ys) (zipped_key ys gs x e)
]

abbrev VarsApart : List Var → Type 0
VarsApart [] = Unit {0}
VarsApart (x ∷ xs) = (has_var x xs ≡ false) × VarsApart xs

zipped_apart : (xs : List Var) (gs : List GroundTerm) → VarsApart xs → KeysApart (zipped xs gs)
zipped_apart [] gs h = tt
zipped_apart (x ∷ xs) [] h = tt
zipped_apart (x ∷ xs) (g ∷ gs) h = (false_if_not (has_key x (zipped xs gs)) (λ e. true≢false (sym (zipped_key xs gs x e) ∙ h.0)), zipped_apart xs gs h.1)

item_vars_apart : (m : ℕ) (ls : List NominalLocal) → VarsApart (local_vars m ls)
item_vars_apart m [] = tt
item_vars_apart m (l ∷ ls) = first l.bound l.kind (item_vars_apart (suc m) ls)
  where
    no_place : VarPlace (suc m) ls m → ⊥
    no_place r = let e = r.number in omega arith

    first : (b : Bool) (k : NominalKind) → VarsApart (local_vars (suc m) ls) → VarsApart (var_unless b k m (local_vars (suc m) ls))
    first true k h = h
    first false (types.name s) h = h
    first false (types.var t) h = (false_if_not (has_var (record { num = m }) (local_vars (suc m) ls)) (λ e. no_place (var_place (suc m) ls (record { num = m }) e)), h)

-- THE TERMS OF A PROOF

once_apart : (js ks : List ℕ) → EachOnce (js ++ ks) → (i : ℕ) → has_number i js ≡ true → has_number i ks ≡ true → ⊥
once_apart [] ks h i a b = true≢false (sym a)
once_apart (j ∷ js) ks h i a b =
    elim (or_cases (i == j) (has_number i js) a) [
      | inl e ↦ true≢false (sym (number_right j js ks (ap (λ l. has_number l ks) (sym (number_same i j e)) ∙ b)) ∙ h.0)
      | inr e ↦ once_apart js ks h.1 i e b
    ]

module _ (p : NominalProgram) (typed : IsTypedProgram p) where
  abbrev cs : List NominalConstructor
  cs = p.signature.constructors

  -- what is given to an item's variables is distinct from what is given in its goal
  pub item_keys : (m k : ℕ) (locals : List NominalLocal) (gs : List GroundTerm) (g : NominalGoal) (ps : Pairs) → AreMarked locals (brought g)
      → ((x : Var) → has_key x ps ≡ true → is_taken m (m + length locals) k g x.num ≡ true) → KeysApart ps → KeysApart (zipped (local_vars m locals) gs ++ ps)
  item_keys m k locals gs g ps marked taken apart =
      apart-append (zipped (local_vars m locals) gs) ps (zipped_apart (local_vars m locals) gs (item_vars_apart m locals)) apart
      (λ x i j.
      let w = var_place m locals x (zipped_key (local_vars m locals) gs x i) in
      elim (or_cases (in_range (m + length locals) k x.num) (is_brought m (brought g) x.num) (taken x j)) [
        | inl l ↦ high w.place w.below x.num w.number (range_is (m + length locals) k x.num l).0
        | inr l ↦
            let b = brought_is m (brought g) x.num l in
            let f = b.2 in
            let o = w.number in
            let same : b.0 ≡ w.place = omega arith in
            true≢false (sym (one_marked locals (brought g) marked b.0 b.1) ∙ ap (is_marked locals) same ∙ w.unmarked)
      ])
    where
      high : (i : ℕ) → i < length locals → (j : ℕ) → j ≡ m + i → m + length locals ≤ j → ⊥
      high i l j e k = omega arith

  -- and stands among the numbers that are taken
  item_taken : (m k : ℕ) (locals : List NominalLocal) (gs : List GroundTerm) (g : NominalGoal) (ps : Pairs) → AreMarked locals (brought g)
      → ((x : Var) → has_key x ps ≡ true → is_taken m (m + length locals) k g x.num ≡ true) → (x : Var) → has_key x (zipped (local_vars m locals) gs ++ ps) ≡ true
      → in_range m (length locals + k) x.num ≡ true
  item_taken m k locals gs g ps marked taken x h =
      elim (has_key x (zipped (local_vars m locals) gs)) as (λ v. has_key x (zipped (local_vars m locals) gs) ≡ v → in_range m (length locals + k) x.num ≡ true) [
        | true ↦ λ e.
            let w = var_place m locals x (zipped_key (local_vars m locals) gs x e) in
            let f = w.number in
            let b = w.below in
            range_true m (length locals + k) x.num (omega arith) (omega arith)
        | false ↦ λ e.
            let j = has_key-append x (zipped (local_vars m locals) gs) ps h (λ i. true≢false (sym i ∙ e)) in
            elim (or_cases (in_range (m + length locals) k x.num) (is_brought m (brought g) x.num) (taken x j)) [
              | inl l ↦
                  let r = range_is (m + length locals) k x.num l in
                  let low = r.0 in
                  let high = r.1 in
                  range_true m (length locals + k) x.num (omega arith) (omega arith)
              | inr l ↦
                  let b = brought_is m (brought g) x.num l in
                  let f = b.2 in
                  let low = marked_below locals b.0 (one_marked locals (brought g) marked b.0 b.1) in
                  range_true m (length locals + k) x.num (omega arith) (omega arith)
            ]
      ] refl

  abbrev KeysTaken : GroundProof → Type 0
  KeysTaken d = (g : NominalGoal) (n m : ℕ) (kinds : List NominalKind) (e : Environment) → IsValid p kinds d g e → (x : Var) → has_key x (pairs_in p n m g d) ≡ true
      → is_taken n m (length (kinds_in p g d)) g x.num ≡ true

  counted : (locals : List NominalLocal) (more : List NominalKind) → length (kinds_of locals ++ more) ≡ length locals + length more
  counted locals more = length-append (kinds_of locals) more ∙ ap (λ j. j + length more) (length-map locals (λ l. l.kind))

  pub keys_taken : (d : GroundProof) → KeysTaken d
  keys_taken nodes.succeed goals.succeed n m kinds e v x h = absurd (true≢false (sym h))
  keys_taken nodes.equal (goals.equal t u) n m kinds e v x h = absurd (true≢false (sym h))
  keys_taken nodes.fresh (goals.fresh t u) n m kinds e v x h = absurd (true≢false (sym h))
  keys_taken (nodes.both d f) (goals.both g h) n m kinds e v x i =
      let kd = length (kinds_in p g d) in
      let kf = length (kinds_in p h f) in
      let all = length (kinds_in p g d ++ kinds_in p h f) in
      let sum : all ≡ kd + kf = length-append (kinds_in p g d) (kinds_in p h f) in
      elim (has_key x (pairs_in p n m g d)) as (λ w. has_key x (pairs_in p n m g d) ≡ w → is_taken n m all (goals.both g h) x.num ≡ true) [
        | true ↦ λ j. taken_within n m all m kd g (goals.both g h) (omega arith) (omega arith) (λ l. number_left l (brought g) (brought h)) x.num (keys_taken d g n m kinds e v.0 x j)
        | false ↦ λ j.
            let there = has_key-append x (pairs_in p n m g d) (pairs_in p n (m + kd) h f) i (λ l. true≢false (sym l ∙ j)) in
            taken_within n m all (m + kd) kf h (goals.both g h) (omega arith) (omega arith) (λ l. number_right l (brought g) (brought h)) x.num (keys_taken f h n (m + kd) kinds e v.1 x there)
      ] refl
  keys_taken (nodes.left d) (goals.either g h) n m kinds e v x i =
      let k = length (kinds_in p g d) in
      taken_within n m k m k g (goals.either g h) (omega arith) (omega arith) (λ l. number_left l (brought g) (brought h)) x.num (keys_taken d g n m kinds e v x i)
  keys_taken (nodes.right d) (goals.either g h) n m kinds e v x i =
      let k = length (kinds_in p h d) in
      taken_within n m k m k h (goals.either g h) (omega arith) (omega arith) (λ l. number_right l (brought g) (brought h)) x.num (keys_taken d h n m kinds e v x i)
  keys_taken (nodes.exists t d) (goals.exists y g) n m kinds e v x i =
      let k = length (kinds_in p g d) in
      let goal = goals.exists y g in
      elim (or_cases (var_eq x (rename_var n y)) (has_key x (pairs_in p n m g d)) i) [
        | inl j ↦
            let same : x.num ≡ n + y.num = ap (λ (z : Var). z.num) (var_same x (rename_var n y) j) in
            let here : has_number y.num (brought goal) ≡ true = or_if_left (y.num == y.num) (has_number y.num (brought g)) (same_number y.num y.num refl) in
            or_if_right (in_range m k x.num) (is_brought n (brought goal) x.num) (ap (is_brought n (brought goal)) same ∙ is_brought_true n (brought goal) y.num here)
        | inr j ↦ taken_within n m k m k g goal (omega arith) (omega arith) (λ l q. or_if_right (l == y.num) (has_number l (brought g)) q) x.num (keys_taken d g n m kinds (with_term e y t) v.1 x j)
      ]
  keys_taken (nodes.new c d) (goals.new a g) n m kinds e v x i =
      let k = length (kinds_in p g d) in
      taken_within n m k m k g (goals.new a g) (omega arith) (omega arith) (λ l q. or_if_right (l == a.num) (has_number l (brought g)) q) x.num (keys_taken d g n m kinds (with_name e a c) v.2 x i)
  keys_taken (nodes.atom k names gs d) (goals.atom q ts) n m kinds e v x i =
      let c = v.0 in
      let of = clause_at (clauses_of p.clauses q) k in
      let is = (program_clause_typed p.signature 0 p.clauses q k c typed.0 v.1).1 in
      let ps = pairs_in p m (m + length c.locals) c.body d in
      let there : has_key x (zipped (local_vars m c.locals) gs ++ ps) ≡ true = subst (λ (o : Option NominalClause). has_key x (pairs_of_use m gs (λ i j g. pairs_in p i j g d) o) ≡ true) v.1 i in
      let inner = length (kinds_in p c.body d) in
      let all : length (kinds_of_use (λ g. kinds_in p g d) of) ≡ length c.locals + inner = ap (λ o. length (kinds_of_use (λ g. kinds_in p g d) o)) v.1 ∙ counted c.locals (kinds_in p c.body d) in
      or_if_left (in_range m (length (kinds_of_use (λ g. kinds_in p g d) of)) x.num) false
      (ap (λ j. in_range m j x.num) all
      ∙ item_taken m inner c.locals gs c.body ps is.3.marked (λ y j. keys_taken d c.body m (m + length c.locals) (kinds_of c.locals) (environment c.locals names gs) v.4 y j) x there)
  keys_taken _ _ n m kinds e v x h = absurd v

  -- no variable stands twice
  pub keys_apart : (d : GroundProof) (g : NominalGoal) (n m : ℕ) (kinds : List NominalKind) (e : Environment) → IsValid p kinds d g e
      → ((i : ℕ) → has_number i (brought g) ≡ true → n + i < m) → EachOnce (brought g) → KeysApart (pairs_in p n m g d)
  keys_apart nodes.succeed goals.succeed n m kinds e v l o = tt
  keys_apart nodes.equal (goals.equal t u) n m kinds e v l o = tt
  keys_apart nodes.fresh (goals.fresh t u) n m kinds e v l o = tt
  keys_apart (nodes.both d f) (goals.both g h) n m kinds e v l o =
      let kd = length (kinds_in p g d) in
      apart-append (pairs_in p n m g d) (pairs_in p n (m + kd) h f)
      (keys_apart d g n m kinds e v.0 (λ i j. l i (number_left i (brought g) (brought h) j)) (once_left (brought g) (brought h) o))
      (keys_apart f h n (m + kd) kinds e v.1 (λ i j. (let low = l i (number_right i (brought g) (brought h) j) in omega arith)) (once_right (brought g) (brought h) o))
      (λ x i j. parts x (keys_taken d g n m kinds e v.0 x i) (keys_taken f h n (m + kd) kinds e v.1 x j))
    where
      parts : (x : Var) → is_taken n m (length (kinds_in p g d)) g x.num ≡ true → is_taken n (m + length (kinds_in p g d)) (length (kinds_in p h f)) h x.num ≡ true → ⊥
      parts x i j =
          elim (or_cases (in_range m (length (kinds_in p g d)) x.num) (is_brought n (brought g) x.num) i) [
            | inl a ↦ elim (or_cases (in_range (m + length (kinds_in p g d)) (length (kinds_in p h f)) x.num) (is_brought n (brought h) x.num) j) [
              | inl b ↦ far x.num (range_is m (length (kinds_in p g d)) x.num a).1 (range_is (m + length (kinds_in p g d)) (length (kinds_in p h f)) x.num b).0
              | inr b ↦ let w = brought_is n (brought h) x.num b in near x.num w.0 w.2 (l w.0 (number_right w.0 (brought g) (brought h) w.1)) (range_is m (length (kinds_in p g d)) x.num a).0
            ]
            | inr a ↦
                let u = brought_is n (brought g) x.num a in
                elim (or_cases (in_range (m + length (kinds_in p g d)) (length (kinds_in p h f)) x.num) (is_brought n (brought h) x.num) j) [
                  | inl b ↦ let r = (range_is (m + length (kinds_in p g d)) (length (kinds_in p h f)) x.num b).0 in near x.num u.0 u.2 (l u.0 (number_left u.0 (brought g) (brought h) u.1)) (omega arith)
                  | inr b ↦
                      let w = brought_is n (brought h) x.num b in
                      let eq = w.2 in
                      let eq' = u.2 in
                      let same : w.0 ≡ u.0 = omega arith in
                      once_apart (brought g) (brought h) o u.0 u.1 (ap (λ i. has_number i (brought h)) (sym same) ∙ w.1)
                ]
          ]
        where
          far : (i : ℕ) → i < m + length (kinds_in p g d) → m + length (kinds_in p g d) ≤ i → ⊥
          far i a b = omega arith

          near : (i j : ℕ) → i ≡ n + j → n + j < m → m ≤ i → ⊥
          near i j e a b = omega arith
  keys_apart (nodes.left d) (goals.either g h) n m kinds e v l o = keys_apart d g n m kinds e v (λ i j. l i (number_left i (brought g) (brought h) j)) (once_left (brought g) (brought h) o)
  keys_apart (nodes.right d) (goals.either g h) n m kinds e v l o = keys_apart d h n m kinds e v (λ i j. l i (number_right i (brought g) (brought h) j)) (once_right (brought g) (brought h) o)
  keys_apart (nodes.exists t d) (goals.exists y g) n m kinds e v l o = (
    false_if_not (has_key (rename_var n y) (pairs_in p n m g d)) (λ i. not_there (keys_taken d g n m kinds (with_term e y t) v.1 (rename_var n y) i)),
    keys_apart d g n m kinds (with_term e y t) v.1 (λ i j. l i (or_if_right (i == y.num) (has_number i (brought g)) j)) o.1,
  )
    where
      low : n + y.num < m
      low = l y.num (or_if_left (y.num == y.num) (has_number y.num (brought g)) (same_number y.num y.num refl))

      apart : m ≤ n + y.num → ⊥
      apart h = let k = low in omega arith

      not_there : is_taken n m (length (kinds_in p g d)) g (n + y.num) ≡ true → ⊥
      not_there i =
          elim (or_cases (in_range m (length (kinds_in p g d)) (n + y.num)) (is_brought n (brought g) (n + y.num)) i) [
            | inl a ↦ apart (range_is m (length (kinds_in p g d)) (n + y.num) a).0
            | inr a ↦
                let w = brought_is n (brought g) (n + y.num) a in
                let eq = w.2 in
                let same : w.0 ≡ y.num = omega arith in
                true≢false (sym (ap (λ i. has_number i (brought g)) (sym same) ∙ w.1) ∙ o.0)
          ]
  keys_apart (nodes.new c d) (goals.new a g) n m kinds e v l o = keys_apart d g n m kinds (with_name e a c) v.2 (λ i j. l i (or_if_right (i == a.num) (has_number i (brought g)) j)) o.1
  keys_apart (nodes.atom k names gs d) (goals.atom q ts) n m kinds e v l o =
      let c = v.0 in
      let is = (program_clause_typed p.signature 0 p.clauses q k c typed.0 v.1).1 in
      let ps = pairs_in p m (m + length c.locals) c.body d in
      let env = environment c.locals names gs in
      subst (λ (o : Option NominalClause). KeysApart (pairs_of_use m gs (λ i j g. pairs_in p i j g d) o)) (sym v.1)
      (item_keys m (length (kinds_in p c.body d)) c.locals gs c.body ps is.3.marked (keys_taken d c.body m (m + length c.locals) (kinds_of c.locals) env v.4)
      (keys_apart d c.body m (m + length c.locals) (kinds_of c.locals) env v.4
      (λ i j. (let low = marked_below c.locals i (one_marked c.locals (brought c.body) is.3.marked i j) in omega arith)) is.3.once))
  keys_apart _ _ n m kinds e v l o = absurd v

  -- GIVING

  pub zipped_given : (f : Grounding) (m : ℕ) (kinds : List NominalKind) (xs : List Var) (gs : List GroundTerm) → AreOfTypes cs kinds xs gs → Gives f (zipped (map (rename_var m) xs) gs)
      → gs ≡ map (λ x. f (rename_var m x)) xs
  zipped_given f m kinds [] [] h k = refl
  zipped_given f m kinds (x ∷ xs) (g ∷ gs) h k = ap₂ ◌∷◌ k.0 (zipped_given f m kinds xs gs h.1 k.1)
  zipped_given f m kinds [] (g ∷ gs) h k = absurd h
  zipped_given f m kinds (x ∷ xs) [] h k = absurd h

  pub item_given : (f : Grounding) (m : ℕ) (locals : List NominalLocal) (gs : List GroundTerm) → AreOfTypes cs (kinds_of locals) (local_vars 0 locals) gs → Gives f (zipped (local_vars m locals) gs)
      → gs ≡ map (λ x. f (rename_var m x)) (local_vars 0 locals)
  item_given f m locals gs h k = zipped_given f m (kinds_of locals) (local_vars 0 locals) gs h (subst (λ (xs : List Var). Gives f (zipped xs gs)) (vars_from m locals) k)

  pub is_given : (f : Grounding) (d : GroundProof) (g : NominalGoal) (n m : ℕ) (kinds : List NominalKind) (e : Environment) → IsValid p kinds d g e → Gives f (pairs_in p n m g d) → IsGiven p f n m g d
  is_given f nodes.succeed goals.succeed n m kinds e v k = tt
  is_given f nodes.equal (goals.equal t u) n m kinds e v k = tt
  is_given f nodes.fresh (goals.fresh t u) n m kinds e v k = tt
  is_given f (nodes.both d c) (goals.both g h) n m kinds e v k =
      let r = gives-append f (pairs_in p n m g d) (pairs_in p n (m + length (kinds_in p g d)) h c) k in
      (is_given f d g n m kinds e v.0 r.0, is_given f c h n (m + length (kinds_in p g d)) kinds e v.1 r.1)
  is_given f (nodes.left d) (goals.either g h) n m kinds e v k = is_given f d g n m kinds e v k
  is_given f (nodes.right d) (goals.either g h) n m kinds e v k = is_given f d h n m kinds e v k
  is_given f (nodes.exists t d) (goals.exists x g) n m kinds e v k = (k.0, is_given f d g n m kinds (with_term e x t) v.1 k.1)
  is_given f (nodes.new c d) (goals.new a g) n m kinds e v k = is_given f d g n m kinds (with_name e a c) v.2 k
  is_given f (nodes.atom i names gs d) (goals.atom q ts) n m kinds e v k =
      let c = v.0 in
      let own = subst (λ (o : Option NominalClause). Gives f (pairs_of_use m gs (λ i j g. pairs_in p i j g d) o)) v.1 k in
      let r = gives-append f (zipped (local_vars m c.locals) gs) (pairs_in p m (m + length c.locals) c.body d) own in
      (c, v.1, item_given f m c.locals gs v.2.types r.0, is_given f d c.body m (m + length c.locals) (kinds_of c.locals) (environment c.locals names gs) v.4 r.1)
  is_given f _ _ n m kinds e v k = absurd v
