-- Places that become alike.
use Rattle.std.proofs.Common.{◌≡◌, ◌<◌, ◌≤◌, ◌+◌, ◌*◌, ◌↔◌, ◌∙◌, ℕ, true, List, [], ◌∷◌, ◌++◌, length, set, take, drop, refl, sym, ap, ap₂, inl, inr, subst, arith, length-append, Option, Some, None}
use Rattle.std.specs.Prelude.{MatchOption}
use Rattle.std.proofs.lemmas.Bool.Decides.{eqb_tells}
use Rattle.ap_defs.specs.Types.{TypeShape, hole, unit, names, base, pair, list, abs}
use Rattle.ap_types.specs.declared.nodes.Node.{Node}
use Rattle.ap_types.specs.declared.nodes.Node.TheVariants as nodes
use Rattle.ap_types.specs.Equations.{Filling, filled, bound_of}
use Rattle.ap_types.specs.Solving.{shape_at}
use Rattle.ap_types.specs.Triangular.{layer_of, Fits, IsFormed, AreFormed}
use Rattle.ap_types.specs.Joining.{Agree, ArePairsWithin, is_root, roots, FindsRoot, parts, fuller, Joins, NeverAlike, TablesLead, NeverAgree}
use Rattle.ap_types.proofs.TableLemmas.{at_set_same, at_set_other, length_set, formed_bound}
use Rattle.ap_types.proofs.LoadLemmas.{agree_append, within_append}
use Rattle.ap_types.proofs.LinkLemmas.{equal_or_not, no_root, roots_fewer, set_formed}

-- What two entries of roots say together.
abbrev pub Says : Filling → TypeShape → Node → Type 0
Says f s (nodes.Place x) = Unit {0}
Says f s nodes.Unit = s ≡ unit
Says f s (nodes.Names r) = s ≡ names r
Says f s (nodes.Base d) = s ≡ base d
Says f s (nodes.Pair x y) = s ≡ pair (f x) (f y)
Says f s (nodes.List x) = s ≡ list (f x)
Says f s (nodes.Abs x y) = s ≡ abs (f x) (f y)

says_of : (f : Filling) (s : TypeShape) (n : Node) → s ≡ filled f (layer_of n) → Says f s n
says_of f s (nodes.Place x) h = tt
says_of f s nodes.Unit h = h
says_of f s (nodes.Names r) h = h
says_of f s (nodes.Base d) h = h
says_of f s (nodes.Pair x y) h = h
says_of f s (nodes.List x) h = h
says_of f s (nodes.Abs x y) h = h

of_says : (f : Filling) (x : ℕ) (n : Node) → is_root x (layer_of n) ≡ true → Says f (f x) n → f x ≡ filled f (layer_of n)
of_says f x (nodes.Place y) r h = elim (eqb_tells x y) [ inl w ↦ ap f w.1 | inr w ↦ let e = w.0 in cc ]
of_says f x nodes.Unit r h = h
of_says f x (nodes.Names s) r h = h
of_says f x (nodes.Base d) r h = h
of_says f x (nodes.Pair y z) r h = h
of_says f x (nodes.List y) r h = h
of_says f x (nodes.Abs y z) r h = h

some_same : (ps qs : List (ℕ × ℕ)) → ◌≡◌ {A = Option (List (ℕ × ℕ))} (Some ps) (Some qs) → ps ≡ qs
some_same ps qs e = cc

agrees : (f : Filling) (ps : List (ℕ × ℕ)) → ◌≡◌ {A = Option (List (ℕ × ℕ))} (Some []) (Some ps) → Agree f ps
agrees f ps e = subst (Agree f) (some_same [] ps e) tt

first_open : (f : Filling) (s : TypeShape) (n : Node) (ps : List (ℕ × ℕ)) → ◌≡◌ {A = Option (List (ℕ × ℕ))} (Some []) (Some ps) → (Unit {0} × Says f s n) ↔ (Says f s n × Agree f ps)
first_open f s n ps e = ((λ h. (h.1, agrees f ps e)), (λ h. (tt, h.0)))

second_open : (f : Filling) (s : TypeShape) (n : Node) (ps : List (ℕ × ℕ)) → ◌≡◌ {A = Option (List (ℕ × ℕ))} (Some []) (Some ps) → (Says f s n × Unit {0}) ↔ (Says f s n × Agree f ps)
second_open f s n ps e = ((λ h. (h.0, agrees f ps e)), (λ h. (h.0, tt)))

same_entries : (f : Filling) (s : TypeShape) (n m : Node) (ps : List (ℕ × ℕ)) → n ≡ m → ◌≡◌ {A = Option (List (ℕ × ℕ))} (Some []) (Some ps) → (Says f s n × Says f s m) ↔ (Says f s n × Agree f ps)
same_entries f s n m ps i e = ((λ h. (h.0, agrees f ps e)), (λ h. (h.0, subst (Says f s) i h.0)))

pair_parts : (a b c d : TypeShape) → ◌≡◌ {A = TypeShape} (pair a b) (pair c d) → (a ≡ c) × (b ≡ d)
pair_parts a b c d h = (cc, cc)

abs_parts : (a b c d : TypeShape) → ◌≡◌ {A = TypeShape} (abs a b) (abs c d) → (a ≡ c) × (b ≡ d)
abs_parts a b c d h = (cc, cc)

list_part : (a b : TypeShape) → ◌≡◌ {A = TypeShape} (list a) (list b) → a ≡ b
list_part a b h = cc

names_part : (r s : ℕ) → ◌≡◌ {A = TypeShape} (names r) (names s) → r ≡ s
names_part r s h = cc

base_part : (c d : ℕ) → ◌≡◌ {A = TypeShape} (base c) (base d) → c ≡ d
base_part c d h = cc

-- where the parts are alike, both entries are said just where the fuller one is
meet : (f : Filling) (s : TypeShape) (m n : Node) (ps : List (ℕ × ℕ)) → parts m n ≡ Some ps → (Says f s m × Says f s n) ↔ (Says f s (fuller m n) × Agree f ps)
meet f s (nodes.Place x) (nodes.Place y) ps e = second_open f s (nodes.Place x) ps e
meet f s (nodes.Place x) n ps e = first_open f s n ps e
meet f s m (nodes.Place y) ps e = second_open f s m ps e
meet f s nodes.Unit nodes.Unit ps e = same_entries f s nodes.Unit nodes.Unit ps refl e
meet f s (nodes.Names r) (nodes.Names q) ps e =
    elim (eqb_tells r q) [ inl w ↦ same_entries f s (nodes.Names r) (nodes.Names q) ps (ap nodes.Names w.1) (rw w.0 at e) | inr w ↦ let i = (rw w.0 at e) in cc ]
meet f s (nodes.Base r) (nodes.Base q) ps e =
    elim (eqb_tells r q) [ inl w ↦ same_entries f s (nodes.Base r) (nodes.Base q) ps (ap nodes.Base w.1) (rw w.0 at e) | inr w ↦ let i = (rw w.0 at e) in cc ]
meet f s (nodes.Pair x y) (nodes.Pair v w) ps e =
    let i = some_same ((x, v) ∷ (y, w) ∷ []) ps e in (
      (λ h. let p = pair_parts (f x) (f y) (f v) (f w) (sym h.0 ∙ h.1) in (h.0, subst (Agree f) i (p.0, (p.1, tt)))),
      (λ h. let p = subst (Agree f) (sym i) h.1 in (h.0, h.0 ∙ ap₂ pair p.0 p.1.0)),
    )
meet f s (nodes.List x) (nodes.List v) ps e =
    let i = some_same ((x, v) ∷ []) ps e in (
      (λ h. (h.0, subst (Agree f) i (list_part (f x) (f v) (sym h.0 ∙ h.1), tt))),
      (λ h. let p = subst (Agree f) (sym i) h.1 in (h.0, h.0 ∙ ap list p.0)),
    )
meet f s (nodes.Abs x y) (nodes.Abs v w) ps e =
    let i = some_same ((x, v) ∷ (y, w) ∷ []) ps e in (
      (λ h. let p = abs_parts (f x) (f y) (f v) (f w) (sym h.0 ∙ h.1) in (h.0, subst (Agree f) i (p.0, (p.1, tt)))),
      (λ h. let p = subst (Agree f) (sym i) h.1 in (h.0, h.0 ∙ ap₂ abs p.0 p.1.0)),
    )
meet f s _ _ ps e = cc

never_both : (f : Filling) (s : TypeShape) (m n : Node) → parts m n ≡ None → Says f s m → Says f s n → ⊥
never_both f s (nodes.Place x) n e h k = cc
never_both f s m (nodes.Place y) e h k = cc
never_both f s nodes.Unit nodes.Unit e h k = cc
never_both f s (nodes.Names r) (nodes.Names q) e h k =
    elim (eqb_tells r q) [ inl w ↦ let i = (rw w.0 at e) in cc | inr w ↦ w.1 (names_part r q (sym h ∙ k)) ]
never_both f s (nodes.Base r) (nodes.Base q) e h k =
    elim (eqb_tells r q) [ inl w ↦ let i = (rw w.0 at e) in cc | inr w ↦ w.1 (base_part r q (sym h ∙ k)) ]
never_both f s (nodes.Pair x y) (nodes.Pair v w) e h k = cc
never_both f s (nodes.List x) (nodes.List v) e h k = cc
never_both f s (nodes.Abs x y) (nodes.Abs v w) e h k = cc
never_both f s _ _ e h k = cc

fuller_formed : (n x y : ℕ) (a b : Node) → IsFormed n x (layer_of a) → IsFormed n y (layer_of b) → IsFormed n x (layer_of (fuller a b))
fuller_formed n x y (nodes.Place v) (nodes.Place w) h k = h
fuller_formed n x y (nodes.Place v) b h k = k
fuller_formed n x y a b h k = h

fuller_root : (x : ℕ) (a b : Node) → is_root x (layer_of a) ≡ true → is_root x (layer_of (fuller a b)) ≡ true
fuller_root x (nodes.Place v) (nodes.Place w) h = h
fuller_root x (nodes.Place v) b h = refl
fuller_root x a b h = h

parts_within : (n : ℕ) (a b : Node) (ps : List (ℕ × ℕ)) → bound_of (layer_of a) ≤ n → bound_of (layer_of b) ≤ n → parts a b ≡ Some ps → ArePairsWithin n ps × (length ps ≤ 2)
parts_within n (nodes.Place x) b ps h k e = let P : List (ℕ × ℕ) → Type 0 = λ qs. ArePairsWithin n qs × (length qs ≤ 2) in subst P (some_same [] ps e) (tt, omega arith)
parts_within n a (nodes.Place y) ps h k e = let P : List (ℕ × ℕ) → Type 0 = λ qs. ArePairsWithin n qs × (length qs ≤ 2) in subst P (some_same [] ps e) (tt, omega arith)
parts_within n nodes.Unit nodes.Unit ps h k e = let P : List (ℕ × ℕ) → Type 0 = λ qs. ArePairsWithin n qs × (length qs ≤ 2) in subst P (some_same [] ps e) (tt, omega arith)
parts_within n (nodes.Names r) (nodes.Names q) ps h k e =
    let P : List (ℕ × ℕ) → Type 0 = λ qs. ArePairsWithin n qs × (length qs ≤ 2) in
    elim (eqb_tells r q) [ inl w ↦ subst P (some_same [] ps (rw w.0 at e)) (tt, omega arith) | inr w ↦ let i = (rw w.0 at e) in cc ]
parts_within n (nodes.Base r) (nodes.Base q) ps h k e =
    let P : List (ℕ × ℕ) → Type 0 = λ qs. ArePairsWithin n qs × (length qs ≤ 2) in
    elim (eqb_tells r q) [ inl w ↦ subst P (some_same [] ps (rw w.0 at e)) (tt, omega arith) | inr w ↦ let i = (rw w.0 at e) in cc ]
parts_within n (nodes.Pair x y) (nodes.Pair v w) ps h k e =
    let P : List (ℕ × ℕ) → Type 0 = λ qs. ArePairsWithin n qs × (length qs ≤ 2) in
    subst P (some_same ((x, v) ∷ (y, w) ∷ []) ps e) ((omega arith, omega arith, (omega arith, omega arith, tt)), omega arith)
parts_within n (nodes.List x) (nodes.List v) ps h k e =
    let P : List (ℕ × ℕ) → Type 0 = λ qs. ArePairsWithin n qs × (length qs ≤ 2) in
    subst P (some_same ((x, v) ∷ []) ps e) ((omega arith, omega arith, tt), omega arith)
parts_within n (nodes.Abs x y) (nodes.Abs v w) ps h k e =
    let P : List (ℕ × ℕ) → Type 0 = λ qs. ArePairsWithin n qs × (length qs ≤ 2) in
    subst P (some_same ((x, v) ∷ (y, w) ∷ []) ps e) ((omega arith, omega arith, (omega arith, omega arith, tt)), omega arith)
parts_within n _ _ ps h k e = cc

-- Two roots.
module _ (ts : List TypeShape) (keep gone : ℕ) (a b : Node) (formed : AreFormed ts) (order : keep < gone) (within : gone < length ts)
    (first : layer_of a ≡ shape_at ts keep) (second : layer_of b ≡ shape_at ts gone)
    (kept : is_root keep (shape_at ts keep) ≡ true) (joined : is_root gone (shape_at ts gone) ≡ true) where
  abbrev one : List TypeShape
  one = set ts keep (layer_of (fuller a b))

  abbrev two : List TypeShape
  two = set one gone (hole keep)

  long : length one ≡ length ts
  long = length_set ts keep (layer_of (fuller a b))

  gone_other : (gone ≡ keep → ⊥)
  gone_other e = omega arith

  at_gone : shape_at two gone ≡ hole keep
  at_gone = at_set_same one gone (hole keep) (let l = long in omega arith)

  at_keep : shape_at two keep ≡ layer_of (fuller a b)
  at_keep =
      at_set_other one gone keep (hole keep) (λ e. gone_other (sym e)) ∙ at_set_same ts keep (layer_of (fuller a b)) (omega arith)

  at_other : (x : ℕ) → (x ≡ gone → ⊥) → (x ≡ keep → ⊥) → shape_at two x ≡ shape_at ts x
  at_other x d e = at_set_other one gone x (hole keep) d ∙ at_set_other ts keep x (layer_of (fuller a b)) e

  a_root : is_root keep (layer_of a) ≡ true
  a_root = ap (is_root keep) first ∙ kept

  b_root : is_root gone (layer_of b) ≡ true
  b_root = ap (is_root gone) second ∙ joined

  says_first : (f : Filling) → Fits f ts → Says f (f keep) a
  says_first f h = says_of f (f keep) a (h keep ∙ ap (filled f) (sym first))

  says_second : (f : Filling) → Fits f ts → f keep ≡ f gone → Says f (f keep) b
  says_second f h e = says_of f (f keep) b (e ∙ h gone ∙ ap (filled f) (sym second))

  pub never_roots : parts a b ≡ None → NeverAlike ts keep gone
  never_roots e f h i = never_both f (f keep) a b e (says_first f h) (says_second f h i)

  fits_two : (f : Filling) → Fits f ts → f keep ≡ f gone → Says f (f keep) (fuller a b) → Fits f two
  fits_two f h i s x =
      elim (equal_or_not x gone) [
        | inl e ↦ subst (λ y. f y ≡ filled f (shape_at two y)) (sym e) (sym i ∙ sym (ap (filled f) at_gone))
        | inr d ↦ elim (equal_or_not x keep) [
          | inl e ↦
              subst (λ y. f y ≡ filled f (shape_at two y)) (sym e)
              (of_says f keep (fuller a b) (fuller_root keep a b a_root) s ∙ sym (ap (filled f) at_keep))
          | inr o ↦ h x ∙ sym (ap (filled f) (at_other x d o))
        ]
      ]

  fits_back : (f : Filling) → Fits f two → f keep ≡ f gone → Says f (f keep) a → Says f (f gone) b → Fits f ts
  fits_back f h i s r x =
      elim (equal_or_not x gone) [
        | inl e ↦ subst (λ y. f y ≡ filled f (shape_at ts y)) (sym e) (of_says f gone b b_root r ∙ ap (filled f) second)
        | inr d ↦ elim (equal_or_not x keep) [
          | inl e ↦ subst (λ y. f y ≡ filled f (shape_at ts y)) (sym e) (of_says f keep a a_root s ∙ ap (filled f) first)
          | inr o ↦ h x ∙ ap (filled f) (at_other x d o)
        ]
      ]

  bound_first : bound_of (layer_of a) ≤ length ts
  bound_first = formed_bound (length ts) keep (layer_of a) (omega arith) (subst (IsFormed (length ts) keep) (sym first) (formed keep))

  bound_second : bound_of (layer_of b) ≤ length ts
  bound_second = formed_bound (length ts) gone (layer_of b) within (subst (IsFormed (length ts) gone) (sym second) (formed gone))

  one_formed : AreFormed one
  one_formed =
      set_formed ts keep (layer_of (fuller a b)) (omega arith) formed
      (fuller_formed (length ts) keep gone a b (subst (IsFormed (length ts) keep) (sym first) (formed keep)) (subst (IsFormed (length ts) gone) (sym second) (formed gone)))

  old_root : (x : ℕ) → is_root x (shape_at two x) ≡ true → is_root x (shape_at ts x) ≡ true
  old_root x h =
      elim (equal_or_not x gone) [
        | inl e ↦ subst (λ y. is_root y (shape_at ts y) ≡ true) (sym e) joined
        | inr d ↦ elim (equal_or_not x keep) [
          | inl e ↦ subst (λ y. is_root y (shape_at ts y) ≡ true) (sym e) kept
          | inr o ↦ ap (is_root x) (sym (at_other x d o)) ∙ h
        ]
      ]

  roots_less : roots two < roots ts
  roots_less =
      roots_fewer ts two gone (length_set one gone (hole keep) ∙ long) old_root within (ap (is_root gone) at_gone ∙ no_root gone keep order) joined

  pub joins_roots : (ps : List (ℕ × ℕ)) → parts a b ≡ Some ps → Joins ts keep gone two ps
  joins_roots ps e =
      let w = parts_within (length ts) a b ps bound_first bound_second e in
      let as_long = length_set one gone (hole keep) ∙ long in record {
        solved = λ f.
            let m = meet f (f keep) a b ps e in (
              (λ h. let k = m.0 (says_first f h.0, says_second f h.0 h.1) in (fits_two f h.0 h.1 k.0, k.1)),
              (λ h.
                  let i : f gone ≡ f keep = h.0 gone ∙ ap (filled f) at_gone in
                  let s = says_of f (f keep) (fuller a b) (h.0 keep ∙ ap (filled f) at_keep) in
                  let k = m.1 (s, h.1) in
                  (fits_back f h.0 (sym i) k.0 (subst (λ t. Says f t b) (sym i) k.1), sym i)),
            );
        formed = set_formed one gone (hole keep) (let l = long in omega arith) one_formed (omega arith);
        as_long = as_long;
        within = subst (λ n. ArePairsWithin n ps) (sym as_long) w.0;
        fewer = let l = roots_less in let m = w.1 in omega arith;
      }

-- Two places, by their roots.
pub joins_found : (ts us vs ws : List TypeShape) (x y l r : ℕ) (ps : List (ℕ × ℕ)) → FindsRoot ts x us l → FindsRoot us y vs r → Joins vs l r ws ps → Joins ts x y ws ps
joins_found ts us vs ws x y l r ps h k j = record {
  solved = λ f.
      let a = j.solved f in (
        (λ e.
            let m = (h.rewrites.same f).0 e.0 in
            let n = (k.rewrites.same f).0 m in
            a.0 (n, sym (h.alike f m) ∙ e.1 ∙ k.alike f n)),
        (λ e.
            let n = a.1 e in
            let m = (k.rewrites.same f).1 n.0 in
            ((h.rewrites.same f).1 m, h.alike f m ∙ n.1 ∙ sym (k.alike f n.0))),
      );
  formed = j.formed;
  as_long = j.as_long ∙ k.rewrites.as_long ∙ h.rewrites.as_long;
  within = j.within;
  fewer = let a = j.fewer in let b = h.rewrites.no_more in let c = k.rewrites.no_more in omega arith;
}

pub joins_same : (ts us vs : List TypeShape) (x y l r : ℕ) → FindsRoot ts x us l → FindsRoot us y vs r → l ≡ r → Joins ts x y vs []
joins_same ts us vs x y l r h k e = record {
  solved = λ f. (
    (λ i. ((k.rewrites.same f).0 ((h.rewrites.same f).0 i.0), tt)),
    (λ i.
        let m = (k.rewrites.same f).1 i.0 in
        ((h.rewrites.same f).1 m, h.alike f m ∙ ap f e ∙ sym (k.alike f i.0))),
  );
  formed = k.rewrites.formed;
  as_long = k.rewrites.as_long ∙ h.rewrites.as_long;
  within = tt;
  fewer = let b = h.rewrites.no_more in let c = k.rewrites.no_more in omega arith;
}

pub joins_turned : (ts us : List TypeShape) (x y : ℕ) (ps : List (ℕ × ℕ)) → Joins ts x y us ps → Joins ts y x us ps
joins_turned ts us x y ps j = record {
  solved = λ f. ((λ e. (j.solved f).0 (e.0, sym e.1)), (λ e. let n = (j.solved f).1 e in (n.0, sym n.1)));
  formed = j.formed;
  as_long = j.as_long;
  within = j.within;
  fewer = j.fewer;
}

pub never_found : (ts us vs : List TypeShape) (x y l r : ℕ) → FindsRoot ts x us l → FindsRoot us y vs r → NeverAlike vs l r → NeverAlike ts x y
never_found ts us vs x y l r h k n f e i =
    let m = (h.rewrites.same f).0 e in
    let o = (k.rewrites.same f).0 m in
    n f o (sym (h.alike f m) ∙ i ∙ k.alike f o)

pub never_turned : (ts : List TypeShape) (x y : ℕ) → NeverAlike ts x y → NeverAlike ts y x
never_turned ts x y n f e i = n f e (sym i)

-- Tables and pairs.
pub leads_itself : (ts : List TypeShape) (ps : List (ℕ × ℕ)) → AreFormed ts → ArePairsWithin (length ts) ps → TablesLead ts ps ts ps
leads_itself ts ps h w = record { solved = λ f. ((λ e. e), (λ e. e)); formed = h; as_long = refl; within = w }

pub leads_on : (ts us vs : List TypeShape) (ps qs rs : List (ℕ × ℕ)) → TablesLead ts ps us qs → TablesLead us qs vs rs → TablesLead ts ps vs rs
leads_on ts us vs ps qs rs h k = record {
  solved = λ f. ((λ e. (k.solved f).0 ((h.solved f).0 e)), (λ e. (h.solved f).1 ((k.solved f).1 e)));
  formed = k.formed;
  as_long = k.as_long ∙ h.as_long;
  within = k.within;
}

pub leads_pair : (ts us : List TypeShape) (x y : ℕ) (ps rest : List (ℕ × ℕ)) → ArePairsWithin (length ts) ps → Joins ts x y us rest → TablesLead ts (ps ++ (x, y) ∷ []) us (ps ++ rest)
leads_pair ts us x y ps rest w j = record {
  solved = λ f.
      let a = agree_append f ps ((x, y) ∷ []) in
      let b = agree_append f ps rest in (
        (λ e. let c = a.0 e.1 in let d = (j.solved f).0 (e.0, c.1.0) in (d.0, b.1 (c.0, d.1))),
        (λ e. let c = b.0 e.1 in let d = (j.solved f).1 (e.0, c.1) in (d.0, a.1 (c.0, (d.1, tt)))),
      );
  formed = j.formed;
  as_long = j.as_long;
  within = within_append (length us) ps rest (subst (λ n. ArePairsWithin n ps) (sym j.as_long) w) j.within;
}

pub fewer_left : (ts us : List TypeShape) (x y : ℕ) (ps rest : List (ℕ × ℕ)) → Joins ts x y us rest → length (ps ++ rest) + 3 * roots us ≤ length ps + 3 * roots ts
fewer_left ts us x y ps rest j = let a = j.fewer in let l = length-append ps rest in omega arith

pub never_pair : (ts us : List TypeShape) (x y : ℕ) (all ps : List (ℕ × ℕ)) → TablesLead ts all us (ps ++ (x, y) ∷ []) → NeverAlike us x y → NeverAgree ts all
never_pair ts us x y all ps h n f e a = let k = (h.solved f).0 (e, a) in n f k.0 ((agree_append f ps ((x, y) ∷ [])).0 k.1).1.0

-- the pairs that are left before the last
pub within_front : (n : ℕ) (ps qs : List (ℕ × ℕ)) → ArePairsWithin n (ps ++ qs) → ArePairsWithin n ps × ArePairsWithin n qs
within_front n [] qs h = (tt, h)
within_front n (p ∷ ps) qs h = let k = within_front n ps qs h.2 in ((h.0, h.1, k.0), k.1)

-- A vector that is written through as a slice of the same length.
pub written_back : {A : Type 0} → (new old : List A) (n : ℕ) → length new ≡ n → take n (new ++ drop (length new) old) ≡ new
written_back {A = A} new old n h = subst (λ m. take m (new ++ drop (length new) old) ≡ new) h (front new (drop (length new) old))
  where
    front : (xs ys : List A) → take (length xs) (xs ++ ys) ≡ xs
    front [] ys = refl
    front (x ∷ xs) ys = ap (λ zs. x ∷ zs) (front xs ys)

-- The same for what the program returns.
pub match_found : {R : Type 0} (r : Option R) (pairs : R → List (ℕ × ℕ)) (ts vs ws : List TypeShape) (x y l m : ℕ) → (NeverAlike vs l m → NeverAlike ts x y)
    → ((us : List TypeShape) (ps : List (ℕ × ℕ)) → Joins vs l m us ps → Joins ts x y us ps)
    → MatchOption r (NeverAlike vs l m) (λ p. Joins vs l m ws (pairs p)) → MatchOption r (NeverAlike ts x y) (λ p. Joins ts x y ws (pairs p))
match_found None pairs ts vs ws x y l m n j h = n h
match_found (Some p) pairs ts vs ws x y l m n j h = j ws (pairs p) h
