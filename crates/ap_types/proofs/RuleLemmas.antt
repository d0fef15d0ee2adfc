-- Rules that put data types in, looked at one after the other.
use Rattle.std.proofs.Common.{◌≡◌, ◌↔◌, ◌<◌, ◌≤◌, ◌⊎◌, ◌∙◌, ◌+◌, ℕ, zero, suc, Bool, true, false, ◌&&◌, ◌||◌, List, [], ◌∷◌, ◌++◌, length, map, set, take, get_or, refl, sym, ap, subst, inl, inr, arith}
use Rattle.std.specs.Global.{Vec}
use Rattle.std.specs.Prelude.{◌==◌}
use Rattle.std.proofs.lemmas.Bool.Decides.{eqb_tells}
use Rattle.std.proofs.lemmas.List.{get_or-set_same, get_or-set_other}
use Rattle.std.proofs.Math.Bool.{or_assoc}
use Rattle.ap_defs.specs.declared.terms.Ty.{Ty}
use Rattle.ap_defs.specs.declared.goals.Constructor.{Constructor}
use Rattle.ap_defs.specs.Types.{NominalConstructor, type_of, constructor_of}
use Rattle.ap_types.specs.Holding.{holds_if, some_holds}
use Rattle.ap_types.specs.declared.least.Rule.{Rule}
use Rattle.ap_types.specs.Rounds.{Test, Within, IsLeastSet, some_passes, reached, marked}
use Rattle.ap_types.specs.Rules.{all_are_in, rules_at, RulesGive, Adds, Say, RulesStand, rules_weight, later_weight, SameMarks, OthersMarked, OthersWait}
use Rattle.ap_types.proofs.BooleanLemmas.{and_left, and_right, and_both, or_cases, or_if_left, or_if_right}
use Rattle.ap_types.proofs.RoundLemmas.{Grows, some_passes_grows, reached_more, reached_closed}

-- Lists of rules.
pub gives_front : (p q : ℕ → Bool) (xs ys : List Rule) → RulesGive p q (xs ++ ys) → RulesGive p q xs
gives_front p q [] ys h = tt
gives_front p q (x ∷ xs) ys h = (h.0, gives_front p q xs ys h.1)

pub gives_back : (p q : ℕ → Bool) (xs ys : List Rule) → RulesGive p q (xs ++ ys) → RulesGive p q ys
gives_back p q [] ys h = h
gives_back p q (x ∷ xs) ys h = gives_back p q xs ys h.1

pub gives_both : (p q : ℕ → Bool) (xs ys : List Rule) → RulesGive p q xs → RulesGive p q ys → RulesGive p q (xs ++ ys)
gives_both p q [] ys h k = k
gives_both p q (x ∷ xs) ys h k = (h.0, gives_both p q xs ys h.1 k)

gives_more : (p q s : ℕ → Bool) → Within q s → (xs : List Rule) → RulesGive p q xs → RulesGive p s xs
gives_more p q s w [] h = tt
gives_more p q s w (x ∷ xs) h = ((λ e. w x.gives (h.0 e)), gives_more p q s w xs h.1)

pub no_rules : (xs : List Rule) → length xs ≡ 0 → xs ≡ []
no_rules [] h = refl
no_rules (x ∷ xs) h = absurd (omega arith)

pub weight_append : (xs ys : List Rule) → rules_weight (xs ++ ys) ≡ rules_weight xs + rules_weight ys
weight_append [] ys = omega arith
weight_append (x ∷ xs) ys = let k = weight_append xs ys in omega arith

pub all_in_append : (p : ℕ → Bool) (ds es : List ℕ) → all_are_in p (ds ++ es) ≡ (all_are_in p ds && all_are_in p es)
all_in_append p [] es = refl
all_in_append p (d ∷ ds) es = elim (p d) as (λ b. (b && all_are_in p (ds ++ es)) ≡ ((b && all_are_in p ds) && all_are_in p es)) [ true ↦ all_in_append p ds es | false ↦ refl ]

-- What rules say.
pub adds_rule : (old new : List Rule) (r : Rule) → new ≡ old ++ r ∷ [] → Adds old new (λ p. all_are_in p r.needs.items) r.gives
adds_rule old new r e p q = subst (λ rs. RulesGive p q rs ↔ (RulesGive p q old × (all_are_in p r.needs.items ≡ true → q r.gives ≡ true))) (sym e)
    ((λ h. (gives_front p q old (r ∷ []) h, (gives_back p q old (r ∷ []) h).0)), (λ h. gives_both p q old (r ∷ []) h.0 (h.1, tt)))

pub adds_same : (old new : List Rule) (f g : (ℕ → Bool) → Bool) (d : ℕ) → ((p : ℕ → Bool) → f p ≡ g p) → Adds old new f d → Adds old new g d
adds_same old new f g d e h p q = subst (λ b. RulesGive p q new ↔ (RulesGive p q old × (b ≡ true → q d ≡ true))) (e p) (h p q)

pub adds_either : (old mid new : List Rule) (f g : (ℕ → Bool) → Bool) (d : ℕ) → Adds old mid f d → Adds mid new g d → Adds old new (λ p. f p || g p) d
adds_either old mid new f g d h k p q = (
  (λ n. let m = (k p q).0 n in let o = (h p q).0 m.0 in (o.0, λ e. elim (or_cases (f p) (g p) e) [ inl i ↦ o.1 i | inr i ↦ m.1 i ])),
  (λ o. (k p q).1 ((h p q).1 (o.0, λ i. o.1 (or_if_left (f p) (g p) i)), λ i. o.1 (or_if_right (f p) (g p) i))),
)

pub adds_none : (old : List Rule) (f : (ℕ → Bool) → Bool) (d : ℕ) → ((p : ℕ → Bool) → f p ≡ false) → Adds old old f d
adds_none old f d never p q = ((λ h. (h, λ e. let n = never p in cc)), (λ h. h.0))

pub no_needs : (p : ℕ → Bool) (ds : List ℕ) → ds ≡ [] → all_are_in p ds ≡ true
no_needs p ds e = ap (all_are_in p) e

pub one_need : (p : ℕ → Bool) (ds : List ℕ) (d : ℕ) → ds ≡ d ∷ [] → all_are_in p ds ≡ p d
one_need p ds d e = ap (all_are_in p) e ∙ elim (p d) as (λ b. (b && true) ≡ b) [ true ↦ refl | false ↦ refl ]

pub same_numbers : (m n : ℕ) → m ≡ n → (m == n) ≡ true
same_numbers m n e = elim (eqb_tells m n) [ inl w ↦ w.0 | inr w ↦ absurd (w.1 e) ]

pub other_numbers : (m n : ℕ) → (m ≡ n → ⊥) → (m == n) ≡ false
other_numbers m n d = elim (eqb_tells m n) [ inl w ↦ absurd (d w.1) | inr w ↦ w.0 ]

some_holds_suc : (sort : ℕ) (p : ℕ → Bool) (ts : List Ty) (i : ℕ) (t : Ty) → i < length ts → t ≡ get_or ts i t
    → (some_holds sort p (map type_of (take i ts)) || holds_if sort p (type_of t)) ≡ some_holds sort p (map type_of (take (suc i) ts))
some_holds_suc sort p [] i t l e = absurd (omega arith)
some_holds_suc sort p (u ∷ ts) zero t l e = ap (λ x. holds_if sort p (type_of x)) e ∙ or_false (holds_if sort p (type_of u))
  where
    or_false : (b : Bool) → b ≡ (b || false)
    or_false true = refl
    or_false false = refl
some_holds_suc sort p (u ∷ ts) (suc i) t l e =
    or_assoc (holds_if sort p (type_of u)) (some_holds sort p (map type_of (take i ts))) (holds_if sort p (type_of t))
    ∙ ap (λ b. holds_if sort p (type_of u) || b) (some_holds_suc sort p ts i t (omega arith) e)

pub some_holds_next : (sort : ℕ) (p : ℕ → Bool) (ts : List Ty) (i : ℕ) (t : Ty) → i < length ts → t ≡ get_or ts i t
    → (some_holds sort p (map type_of (take i ts)) || holds_if sort p (type_of t)) ≡ some_holds sort p (map type_of (take (i + 1) ts))
some_holds_next sort p ts i t l e = subst (λ n. (some_holds sort p (map type_of (take i ts)) || holds_if sort p (type_of t)) ≡ some_holds sort p (map type_of (take n ts))) (let k : suc i ≡ i + 1 = omega arith in k) (some_holds_suc sort p ts i t l e)

constructors_suc : (cs : List Constructor) (i : ℕ) (c : Constructor) → i < length cs → c ≡ get_or cs i c → map constructor_of (take i cs) ++ constructor_of c ∷ [] ≡ map constructor_of (take (suc i) cs)
constructors_suc [] i c l e = absurd (omega arith)
constructors_suc (b ∷ cs) zero c l e = ap (λ x. constructor_of x ∷ []) e
constructors_suc (b ∷ cs) (suc i) c l e = ap (λ xs. constructor_of b ∷ xs) (constructors_suc cs i c (omega arith) e)

pub constructors_next : (cs : List Constructor) (i : ℕ) (c : Constructor) → i < length cs → c ≡ get_or cs i c → map constructor_of (take i cs) ++ constructor_of c ∷ [] ≡ map constructor_of (take (i + 1) cs)
constructors_next cs i c l e = constructors_suc cs i c l e ∙ ap (λ n. map constructor_of (take n cs)) (let k : suc i ≡ i + 1 = omega arith in k)

-- Marks.
pub marked_push : (bs : List Bool) → SameMarks bs (bs ++ false ∷ [])
marked_push [] zero = refl
marked_push [] (suc d) = refl
marked_push (b ∷ bs) zero = refl
marked_push (b ∷ bs) (suc d) = marked_push bs d

pub marked_set_same : (bs : List Bool) (d : ℕ) → d < length bs → marked (set bs d true) d ≡ true
marked_set_same bs d l = get_or-set_same bs d true false l

pub marked_set_other : (bs : List Bool) (d : ℕ) → OthersMarked d bs (set bs d true)
marked_set_other bs d e n = get_or-set_other bs d e true false n

-- Rules that wait.
pub rules_push : (vs : List (Vec Rule)) (v : Vec Rule) → v.items ≡ [] → (d : ℕ) → rules_at (vs ++ v ∷ []) d ≡ rules_at vs d
rules_push [] v h zero = h
rules_push [] v h (suc d) = refl
rules_push (u ∷ vs) v h zero = refl
rules_push (u ∷ vs) v h (suc d) = rules_push vs v h d

pub later_push : (vs : List (Vec Rule)) (v : Vec Rule) → v.items ≡ [] → later_weight (vs ++ v ∷ []) ≡ later_weight vs
later_push [] v h = rw h refl
later_push (u ∷ vs) v h = ap (λ n. (rules_weight u.items + length u.items) + n) (later_push vs v h)

pub rules_there : (vs : List (Vec Rule)) (d : ℕ) (v : Vec Rule) → d < length vs → v ≡ get_or vs d v → rules_at vs d ≡ v.items
rules_there [] d v l e = absurd (omega arith)
rules_there (u ∷ vs) zero v l e = ap (λ x. x.items) (sym e)
rules_there (u ∷ vs) (suc d) v l e = rules_there vs d v (omega arith) e

pub rules_past : (vs : List (Vec Rule)) (d : ℕ) → length vs ≤ d → rules_at vs d ≡ []
rules_past [] d l = refl
rules_past (u ∷ vs) zero l = absurd (omega arith)
rules_past (u ∷ vs) (suc d) l = rules_past vs d (omega arith)

pub rules_set_same : (vs : List (Vec Rule)) (d : ℕ) (v : Vec Rule) → d < length vs → rules_at (set vs d v) d ≡ v.items
rules_set_same [] d v l = absurd (omega arith)
rules_set_same (u ∷ vs) zero v l = refl
rules_set_same (u ∷ vs) (suc d) v l = rules_set_same vs d v (omega arith)

pub rules_set_other : (vs : List (Vec Rule)) (d : ℕ) (v : Vec Rule) → OthersWait d vs (set vs d v)
rules_set_other [] d v e n = refl
rules_set_other (u ∷ vs) zero v zero n = absurd (n refl)
rules_set_other (u ∷ vs) zero v (suc e) n = refl
rules_set_other (u ∷ vs) (suc d) v zero n = refl
rules_set_other (u ∷ vs) (suc d) v (suc e) n = rules_set_other vs d v e (λ s. n (ap suc s))

pub later_set : (vs : List (Vec Rule)) (d : ℕ) (old v : Vec Rule) → d < length vs → old ≡ get_or vs d old
    → later_weight (set vs d v) + (rules_weight old.items + length old.items) ≡ later_weight vs + (rules_weight v.items + length v.items)
later_set [] d old v l e = absurd (omega arith)
later_set (u ∷ vs) zero old v l e =
    let w : rules_weight old.items ≡ rules_weight u.items = ap (λ x. rules_weight x.items) e in
    let n : length old.items ≡ length u.items = ap (λ x. length x.items) e in
    omega arith
later_set (u ∷ vs) (suc d) old v l e = let k = later_set vs d old v (omega arith) e in omega arith

-- Constructors.
passes_more : (test : Test) (p : ℕ → Bool) (cs ds : List NominalConstructor) (d : ℕ) → some_passes test p cs d ≡ true → some_passes test p (cs ++ ds) d ≡ true
passes_more test p [] ds d h = cc
passes_more test p (c ∷ cs) ds d h = elim (or_cases ((c.result == d) && test p c.args) (some_passes test p cs d) h) [
  | inl a ↦ or_if_left ((c.result == d) && test p c.args) (some_passes test p (cs ++ ds) d) a
  | inr a ↦ or_if_right ((c.result == d) && test p c.args) (some_passes test p (cs ++ ds) d) (passes_more test p cs ds d a)
]

passes_last : (test : Test) (p : ℕ → Bool) (cs : List NominalConstructor) (c : NominalConstructor) → test p c.args ≡ true → some_passes test p (cs ++ c ∷ []) c.result ≡ true
passes_last test p [] c h = or_if_left ((c.result == c.result) && test p c.args) false (and_both (c.result == c.result) (test p c.args) (same_numbers c.result c.result refl) h)
passes_last test p (d ∷ cs) c h = or_if_right ((d.result == c.result) && test p d.args) (some_passes test p (cs ++ c ∷ []) c.result) (passes_last test p cs c h)

passes_split : (test : Test) (p : ℕ → Bool) (cs : List NominalConstructor) (c : NominalConstructor) (d : ℕ) → some_passes test p (cs ++ c ∷ []) d ≡ true
    → (some_passes test p cs d ≡ true) ⊎ ((c.result ≡ d) × (test p c.args ≡ true))
passes_split test p [] c d h = elim (or_cases ((c.result == d) && test p c.args) false h) [
  | inl a ↦ elim (eqb_tells c.result d) [
    | inl w ↦ inr (w.1, and_right (c.result == d) (test p c.args) a)
    | inr w ↦ let no : (c.result == d) ≡ true = and_left (c.result == d) (test p c.args) a in cc
  ]
  | inr a ↦ cc
]
passes_split test p (b ∷ cs) c d h = elim (or_cases ((b.result == d) && test p b.args) (some_passes test p (cs ++ c ∷ []) d) h) [
  | inl a ↦ inl (or_if_left ((b.result == d) && test p b.args) (some_passes test p cs d) a)
  | inr a ↦ elim (passes_split test p cs c d a) [
    | inl k ↦ inl (or_if_right ((b.result == d) && test p b.args) (some_passes test p cs d) k)
    | inr k ↦ inr k
  ]
]

module _ (test : Test) (grows : Grows test) where
  reached_with : (cs ds : List NominalConstructor) (r : ℕ) → Within (reached test cs r) (reached test (cs ++ ds) r)
  reached_with cs ds zero d e = cc
  reached_with cs ds (suc r) d e =
      passes_more test (reached test (cs ++ ds) r) cs ds d (some_passes_grows test grows (reached test cs r) (reached test (cs ++ ds) r) (reached_with cs ds r) cs d e)

  -- One more constructor, whose rules are left.
  pub stands_more : (cs : List NominalConstructor) (c : NominalConstructor) (rules : List Rule) (table : List Bool) (ws : List (Vec Rule))
      → Say test c rules → RulesStand test cs [] table ws → RulesStand test (cs ++ c ∷ []) rules table ws
  stands_more cs c rules table ws say h = record {
    sound = (h.sound.0, λ d m. reached_with cs (c ∷ []) h.sound.0 d (h.sound.1 d m));
    right = λ p w. (
      (say p (some_passes test p (cs ++ c ∷ []))).1 (tt, λ a. passes_last test p cs c a),
      λ d e. gives_more p (some_passes test p cs) (some_passes test p (cs ++ c ∷ [])) (λ x i. passes_more test p cs (c ∷ []) x i) (rules_at ws d) ((h.right p w).1 d e),
    );
    whole = λ p w left later d e. elim (passes_split test p cs c d e) [
      | inl a ↦ h.whole p w tt later d a
      | inr a ↦ subst (λ x. p x ≡ true) a.0 (((say p p).0 left).1 a.1)
    ];
    blocked = h.blocked;
  }

  -- Where no rule is left, the table is the least set.
  pub stands_least : (cs : List NominalConstructor) (table : List Bool) (ws : List (Vec Rule)) → RulesStand test cs [] table ws → IsLeastSet test cs (marked table)
  stands_least cs table ws h = record {
    sound = h.sound;
    whole = reached_closed test grows cs (marked table)
        (h.whole (marked table) (λ d e. e) tt (λ d m. subst (λ rs. RulesGive (marked table) (marked table) rs) (sym (h.blocked d m)) tt));
  }

  -- A rule whose needs are in gives its data type, and the rules that waited for this are left.
  pub stands_given : (cs : List NominalConstructor) (rest next : List Rule) (rule : Rule) (table table' : List Bool) (ws ws' : List (Vec Rule))
      → ((p : ℕ → Bool) → Within (marked table) p → all_are_in p rule.needs.items ≡ true) → marked table' rule.gives ≡ true → OthersMarked rule.gives table table'
      → next ≡ rules_at ws rule.gives → rules_at ws' rule.gives ≡ [] → OthersWait rule.gives ws ws'
      → RulesStand test cs (rest ++ rule ∷ []) table ws → RulesStand test cs (rest ++ next) table' ws'
  stands_given cs rest next rule table table' ws ws' met here others given none later h = record {
    sound = (
      suc h.sound.0,
      λ d m. elim (eqb_tells d rule.gives) [
        | inl w ↦ subst (λ x. reached test cs (suc h.sound.0) x ≡ true) (sym w.1)
            ((gives_back (reached test cs h.sound.0) (some_passes test (reached test cs h.sound.0) cs) rest (rule ∷ []) (h.right (reached test cs h.sound.0) h.sound.1).0).0
            (met (reached test cs h.sound.0) h.sound.1))
        | inr w ↦ reached_more test grows cs h.sound.0 (suc h.sound.0) (omega arith) d (h.sound.1 d (sym (others d w.1) ∙ m))
      ],
    );
    right = λ p w. let g = h.right p (below p w) in let q = some_passes test p cs in (
      gives_both p q rest next (gives_front p q rest (rule ∷ []) g.0) (subst (λ rs. RulesGive p q rs) (sym given) (g.1 rule.gives (w rule.gives here))),
      λ d e. elim (eqb_tells d rule.gives) [
        | inl i ↦ subst (λ rs. RulesGive p q rs) (sym (ap (rules_at ws') i.1 ∙ none)) tt
        | inr i ↦ subst (λ rs. RulesGive p q rs) (sym (later d i.1)) (g.1 d e)
      ],
    );
    whole = λ p w left waits. h.whole p (below p w)
        (gives_both p p rest (rule ∷ []) (gives_front p p rest next left) ((λ e. w rule.gives here), tt))
        (λ d e. elim (eqb_tells d rule.gives) [
          | inl i ↦ subst (λ rs. RulesGive p p rs) (given ∙ sym (ap (rules_at ws) i.1)) (gives_back p p rest next left)
          | inr i ↦ subst (λ rs. RulesGive p p rs) (later d i.1) (waits d e)
        ]);
    blocked = λ d m. elim (eqb_tells d rule.gives) [
      | inl i ↦ ap (rules_at ws') i.1 ∙ none
      | inr i ↦ later d i.1 ∙ h.blocked d (sym (others d i.1) ∙ m)
    ];
  }
    where
      below : (p : ℕ → Bool) → Within (marked table') p → Within (marked table) p
      below p w d e = elim (eqb_tells d rule.gives) [
        | inl i ↦ subst (λ x. p x ≡ true) (sym i.1) (w rule.gives here)
        | inr i ↦ w d (others d i.1 ∙ e)
      ]

-- Before the first constructor.
pub stands_nothing : (test : Test) (table : List Bool) (ws : List (Vec Rule)) → table ≡ [] → ws ≡ [] → RulesStand test [] [] table ws
stands_nothing test table ws et ew = subst (λ t. RulesStand test [] [] t ws) (sym et) (subst (λ v. RulesStand test [] [] [] v) (sym ew) (record {
  sound = (zero, λ d m. cc);
  right = λ p w. (tt, λ d e. tt);
  whole = λ p w left later d e. cc;
  blocked = λ d m. refl;
}))

-- A rule waits at a data type that it needs and that is not in.
pub stands_waiting : (test : Test) (cs : List NominalConstructor) (rest next : List Rule) (rule less : Rule) (d : ℕ) (table : List Bool) (ws ws' : List (Vec Rule))
    → less.gives ≡ rule.gives → marked table d ≡ false → ((p : ℕ → Bool) → Within (marked table) p → all_are_in p rule.needs.items ≡ (p d && all_are_in p less.needs.items))
    → next ≡ [] → rules_at ws' d ≡ rules_at ws d ++ less ∷ [] → OthersWait d ws ws'
    → RulesStand test cs (rest ++ rule ∷ []) table ws → RulesStand test cs (rest ++ next) table ws'
stands_waiting test cs rest next rule less d table ws ws' same out needs none here later h = record {
  sound = h.sound;
  right = λ p w. let g = h.right p w in let q = some_passes test p cs in (
    gives_both p q rest next (gives_front p q rest (rule ∷ []) g.0) (subst (λ rs. RulesGive p q rs) (sym none) tt),
    λ e i. elim (eqb_tells e d) [
      | inl k ↦ subst (λ rs. RulesGive p q rs) (sym (ap (rules_at ws') k.1 ∙ here))
          (gives_both p q (rules_at ws d) (less ∷ []) (subst (λ x. RulesGive p q (rules_at ws x)) k.1 (g.1 e i)) (
            (λ a. subst (λ x. q x ≡ true) (sym same) ((gives_back p q rest (rule ∷ []) g.0).0 (needs p w ∙ and_both (p d) (all_are_in p less.needs.items) (subst (λ x. p x ≡ true) k.1 i) a))),
            tt,
          ))
      | inr k ↦ subst (λ rs. RulesGive p q rs) (sym (later e k.1)) (g.1 e i)
    ],
  );
  whole = λ p w left waits. h.whole p w
      (gives_both p p rest (rule ∷ []) (gives_front p p rest next left) (
        (λ a. let both : (p d && all_are_in p less.needs.items) ≡ true = sym (needs p w) ∙ a in
            subst (λ x. p x ≡ true) same
            ((gives_back p p (rules_at ws d) (less ∷ []) (subst (λ rs. RulesGive p p rs) here (waits d (and_left (p d) (all_are_in p less.needs.items) both)))).0
            (and_right (p d) (all_are_in p less.needs.items) both))),
        tt,
      ))
      (λ e i. elim (eqb_tells e d) [
        | inl k ↦ subst (λ x. RulesGive p p (rules_at ws x)) (sym k.1)
            (gives_front p p (rules_at ws d) (less ∷ []) (subst (λ rs. RulesGive p p rs) here (waits d (subst (λ x. p x ≡ true) k.1 i))))
        | inr k ↦ subst (λ rs. RulesGive p p rs) (later e k.1) (waits e i)
      ]);
  blocked = λ e m. elim (eqb_tells e d) [
    | inl k ↦ let in_ : marked table d ≡ true = subst (λ x. marked table x ≡ true) k.1 m in cc
    | inr k ↦ later e k.1 ∙ h.blocked e m
  ];
}
