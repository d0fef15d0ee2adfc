-- A term's equations are solved by the types that type it.
use Rattle.std.proofs.Common.{◌≡◌, ◌<◌, ◌∙◌, ◌⊎◌, inl, inr, ℕ, zero, suc, List, Bool, true, false, length, refl, sym, ap, subst, arith}
use Rattle.std.specs.Prelude.{if◌then◌else◌}
use Rattle.ap_defs.specs.declared.terms.Name.{Name}
use Rattle.ap_defs.specs.declared.terms.Var.{Var}
use Rattle.ap_defs.specs.RawTerms as raw
use Rattle.ap_defs.specs.RawTerms.{RawTerm}
use Rattle.ap_defs.specs.Types.{NominalType, NominalConstructor, hole, unit, base, pair, list, abs}
use Rattle.ap_defs.specs.Types as types
use Rattle.ap_defs.specs.Typing as typing
use Rattle.ap_defs.specs.Typing.{Want, one}
use Rattle.ap_defs.specs.Printing.{constructor_in}
use Rattle.ap_program.specs.RawTyping.{IsTypedRaw}
use Rattle.ap_kinds.specs.declared.kinds.IdentKind.{IdentKind}
use Rattle.ap_kinds.specs.Sorts.{id_with_sort, name_with_sort, with_sorts}
use Rattle.ap_kinds.specs.Systems.{EquationSystem, system_refused, is_name_at, is_var_at}
use Rattle.ap_kinds.specs.Gathering.{Wanting, nothing, meet, meet_unit, meet_swapped, result_of, sides, inside_cell, inside_declared, inside_abstraction, name_place, one_sort, gather_term}
use Rattle.ap_kinds.proofs.Assignments.{Assign}
use Rattle.ap_kinds.proofs.IdentLemmas.{kinds_by, name_number, var_number, name_of_sort, sort_of_name, own_name, var_of_type, type_of_var}
use Rattle.ap_kinds.proofs.Inversions.{Splits, typed_name, typed_var, typed_pair, pair_typed, typed_nil, typed_cell, typed_app, app_typed, typed_abs, typed_swapped, typed_unit, typed_of}
use Rattle.ap_kinds.proofs.Gathers.{IsMade, Suits, want_by, suits_grows, want_same, below_idents, Gathers, gathers_map, gathers_refused, gathers_then, TypedBy, typed_same, opens_one, opens_two_for}
use Rattle.ap_kinds.proofs.Steps.{hole_shape, gathers_meet, gathers_unit, gathers_swapped}
use Rattle.ap_kinds.proofs.Opening.{LeftOf, opens_sides, CellOf, NilOf, DeclaredOf, opens_cell, opens_nil, opens_declared}
use Rattle.ap_kinds.proofs.Binding.{BodyOf, opens_abstraction, OneSort, gathers_one_sort}

-- the term is what is wanted
abbrev pub Wants : List NominalConstructor → List IdentKind → RawTerm → Wanting → Assign → Type 0
Wants cs idents t w φ = TypedBy cs idents φ t (want_by φ w)

wants_unit : (n : ℕ) (cs : List NominalConstructor) (idents : List IdentKind) (w : Wanting) (s : EquationSystem) → IsMade n idents s → Suits n w s
    → Gathers n idents (Wants cs idents raw.unit w) s (meet_unit w s)
wants_unit n cs idents w s m h =
    gathers_map n idents (λ φ. (want_by φ w ≡ typing.nothing) ⊎ (want_by φ w ≡ one types.unit)) (Wants cs idents raw.unit w) s (meet_unit w s)
    (λ φ f r e. elim e [
      | inl d ↦ subst (IsTypedRaw cs (kinds_by φ idents) raw.unit) (sym d) tt
      | inr d ↦ subst (IsTypedRaw cs (kinds_by φ idents) raw.unit) (sym d) tt
    ])
    (λ φ f r h. typed_unit cs (kinds_by φ idents) (want_by φ w) h)
    (gathers_unit n idents w s m h)

wants_name : (n : ℕ) (cs : List NominalConstructor) (idents : List IdentKind) (a : Name) (w : Wanting) (s : EquationSystem) (b : Bool) → is_name_at idents a.num ≡ b → IsMade n idents s → Suits n w s
    → Gathers n idents (Wants cs idents (raw.name a) w) s (if b then meet w (hole a.num) s else system_refused s)
wants_name n cs idents a w s true e m h =
    let below : a.num < s.next = let l = name_number idents a.num e in let past = m.past in omega arith in
    gathers_map n idents (λ φ. want_by φ w ≡ one (φ a.num)) (Wants cs idents (raw.name a) w) s (meet w (hole a.num) s)
    (λ φ f r d.
    let k = f.named a.num e in
    subst (IsTypedRaw cs (kinds_by φ idents) (raw.name (name_with_sort (kinds_by φ idents) a))) (sym (d ∙ ap one k.1)) (name_of_sort n idents φ a k.0 e k.1))
    (λ φ f r t.
    let k = typed_name cs (kinds_by φ idents) (name_with_sort (kinds_by φ idents) a) (want_by φ w) t in
    k.1 ∙ ap one (sym (sort_of_name n idents φ a k.0 f k.2).1))
    (gathers_meet n idents w (hole a.num) s m h (hole_shape n a.num s below))
wants_name n cs idents a w s false e m h =
    gathers_refused n idents (Wants cs idents (raw.name a) w) s m
    (λ φ f t.
    let k = typed_name cs (kinds_by φ idents) (name_with_sort (kinds_by φ idents) a) (want_by φ w) t in
    let c = own_name n idents φ a k.0 k.2 in
    cc)

wants_var : (n : ℕ) (cs : List NominalConstructor) (idents : List IdentKind) (x : Var) (w : Wanting) (s : EquationSystem) (b : Bool) → is_var_at idents x.num ≡ b → IsMade n idents s → Suits n w s
    → Gathers n idents (Wants cs idents (raw.var x) w) s (if b then meet w (hole x.num) s else system_refused s)
wants_var n cs idents x w s true e m h =
    let below : x.num < s.next = let l = var_number idents x.num e in let past = m.past in omega arith in
    gathers_map n idents (λ φ. want_by φ w ≡ one (φ x.num)) (Wants cs idents (raw.var x) w) s (meet w (hole x.num) s)
    (λ φ f r d. subst (IsTypedRaw cs (kinds_by φ idents) (raw.var x)) (sym d) (var_of_type idents φ x e))
    (λ φ f r t.
    let k = typed_var cs (kinds_by φ idents) x (want_by φ w) t in
    k.1 ∙ ap one (sym (type_of_var idents φ x k.0 k.2).1))
    (gathers_meet n idents w (hole x.num) s m h (hole_shape n x.num s below))
wants_var n cs idents x w s false e m h =
    gathers_refused n idents (Wants cs idents (raw.var x) w) s m
    (λ φ f t.
    let k = typed_var cs (kinds_by φ idents) x (want_by φ w) t in
    let c = (type_of_var idents φ x k.0 k.2).0 in
    cc)

pub gathers_term : (n : ℕ) (cs : List NominalConstructor) (idents : List IdentKind) (t : RawTerm) (w : Wanting) (s : EquationSystem) → IsMade n idents s → Suits n w s
    → Gathers n idents (Wants cs idents t w) s (gather_term cs idents t w s)
gathers_term n cs idents raw.unit w s m h = wants_unit n cs idents w s m h
gathers_term n cs idents (raw.name a) w s m h = wants_name n cs idents a w s (is_name_at idents a.num) refl m h
gathers_term n cs idents (raw.var x) w s m h = wants_var n cs idents x w s (is_var_at idents x.num) refl m h
gathers_term n cs idents (raw.pair t u) w s m h =
    let d = result_of cs t in
    let o = opens_sides n idents d w s m h in
    let s1 = (sides d w s).system in
    let l = (sides d w s).left in
    let r = (sides d w s).right in
    let s2 = gather_term cs idents t l s1 in
    let g = gathers_term n cs idents t l s1 o.made o.left in
    let k = gathers_term n cs idents u r s2 g.made (suits_grows n r s1 s2 g.grows o.right) in
    gathers_map n idents (λ φ. (a : Want) × (b : Want) × Splits (want_by φ w) a b × TypedBy cs idents φ t a × TypedBy cs idents φ u b) (Wants cs idents (raw.pair t u) w)
    s (gather_term cs idents u r s2)
    (λ φ f i z. pair_typed cs (kinds_by φ idents) (with_sorts (kinds_by φ idents) t) (with_sorts (kinds_by φ idents) u) (want_by φ w) z.0 z.1 z.2 z.3 z.4)
    (λ φ f i z. typed_pair cs (kinds_by φ idents) (with_sorts (kinds_by φ idents) t) (with_sorts (kinds_by φ idents) u) (want_by φ w) z)
    (opens_two_for n cs idents (LeftOf d) (λ φ a b. Splits (want_by φ w) a b) s s1 s2 (gather_term cs idents u r s2) l r t u (λ φ a b i. typed_of cs (kinds_by φ idents) t a i) m.past o g k)
gathers_term n cs idents (raw.app zero t) w s m h =
    let o = opens_nil n idents w s m h in
    let s1 = (inside_cell w s).system in
    let g = gathers_term n cs idents t nothing s1 o.made o.left in
    gathers_map n idents (λ φ. (a : Want) × NilOf w φ a typing.nothing × TypedBy cs idents φ t a) (Wants cs idents (raw.app zero t) w) s (gather_term cs idents t nothing s1)
    (λ φ f i z.
    let inner : TypedBy cs idents φ t typing.nothing = subst (λ (v : Want). TypedBy cs idents φ t v) z.1.2 z.2 in
    subst (IsTypedRaw cs (kinds_by φ idents) (raw.app zero (with_sorts (kinds_by φ idents) t))) (sym z.1.1) inner)
    (λ φ f i z.
    let k = typed_nil cs (kinds_by φ idents) (with_sorts (kinds_by φ idents) t) (want_by φ w) z in
    (typing.nothing, (k.0, k.1, refl, refl), k.2))
    (opens_one n cs idents (NilOf w) s s1 (gather_term cs idents t nothing s1) nothing t m.past o g)
gathers_term n cs idents (raw.app (suc zero) t) w s m h =
    let o = opens_cell n idents w s m h in
    let s1 = (inside_cell w s).system in
    let v = (inside_cell w s).want in
    let g = gathers_term n cs idents t v s1 o.made o.left in
    gathers_map n idents (λ φ. (a : Want) × CellOf w φ a typing.nothing × TypedBy cs idents φ t a) (Wants cs idents (raw.app (suc zero) t) w) s (gather_term cs idents t v s1)
    (λ φ f i z.
    let inner : TypedBy cs idents φ t (typing.more z.1.0 (one (types.list z.1.0))) = subst (λ (b : Want). TypedBy cs idents φ t b) z.1.2 z.2 in
    subst (IsTypedRaw cs (kinds_by φ idents) (raw.app (suc zero) (with_sorts (kinds_by φ idents) t))) (sym z.1.1) inner)
    (λ φ f i z.
    let k = typed_cell cs (kinds_by φ idents) (with_sorts (kinds_by φ idents) t) (want_by φ w) z in
    (typing.more k.0 (one (types.list k.0)), (k.0, k.1, refl, refl), k.2))
    (opens_one n cs idents (CellOf w) s s1 (gather_term cs idents t v s1) v t m.past o g)
gathers_term n cs idents (raw.app (suc (suc j)) t) w s m h =
    let c = constructor_in cs (suc (suc j)) in
    let o = opens_declared n idents c w s m h in
    let s1 = (inside_declared c w s).system in
    let v = (inside_declared c w s).want in
    let g = gathers_term n cs idents t v s1 o.made o.left in
    gathers_map n idents (λ φ. (a : Want) × DeclaredOf c w φ a typing.nothing × TypedBy cs idents φ t a) (Wants cs idents (raw.app (suc (suc j)) t) w) s (gather_term cs idents t v s1)
    (λ φ f i z.
    subst (IsTypedRaw cs (kinds_by φ idents) (raw.app (suc (suc j)) (with_sorts (kinds_by φ idents) t))) (sym z.1.1)
    (app_typed cs (kinds_by φ idents) j (with_sorts (kinds_by φ idents) t) z.1.0 z.0 z.1.2 z.2))
    (λ φ f i z.
    let k = typed_app cs (kinds_by φ idents) j (with_sorts (kinds_by φ idents) t) (want_by φ w) z in
    (k.1, (types.base k.0, k.2, k.3, refl), k.4))
    (opens_one n cs idents (DeclaredOf c w) s s1 (gather_term cs idents t v s1) v t m.past o g)
gathers_term n cs idents (raw.abs i t) w s m h =
    let o = opens_abstraction n idents i w s m h in
    let b = inside_abstraction (name_place idents i s).hole w (name_place idents i s).system in
    let g = gathers_term n cs idents t b.want b.system o.made o.left in
    gathers_map n idents (λ φ. (a : Want) × BodyOf idents i w φ a typing.nothing × TypedBy cs idents φ t a) (Wants cs idents (raw.abs i t) w) s (gather_term cs idents t b.want b.system)
    (λ φ f r z.
    let inner : TypedBy cs idents φ t (one z.1.1) = subst (λ (v : Want). TypedBy cs idents φ t v) z.1.4 z.2 in
    subst (IsTypedRaw cs (kinds_by φ idents) (raw.abs (id_with_sort (kinds_by φ idents) i) (with_sorts (kinds_by φ idents) t))) (sym z.1.3) (z.1.2, inner))
    (λ φ f r z.
    let k = typed_abs cs (kinds_by φ idents) (id_with_sort (kinds_by φ idents) i) (with_sorts (kinds_by φ idents) t) (want_by φ w) z in
    (one k.1, (k.0, k.1, k.3, k.2, refl, refl), k.4))
    (opens_one n cs idents (BodyOf idents i w) s b.system (gather_term cs idents t b.want b.system) b.want t m.past o g)
gathers_term n cs idents (raw.swapped i j t) w s m h =
    let s1 = one_sort idents i j s in
    let p = gathers_one_sort n idents i j s m in
    let s2 = meet_swapped w s1 in
    let q = gathers_swapped n idents w s1 p.made in
    let h2 = suits_grows n w s1 s2 q.grows (suits_grows n w s s1 p.grows h) in
    let g = gathers_term n cs idents t w s2 q.made h2 in
    let One = λ (φ : Assign). (a : NominalType) × (want_by φ w ≡ one a) in
    let tail = gathers_then n idents One (Wants cs idents t w) s1 s2 (gather_term cs idents t w s2) q g
    (λ φ ψ a z. typed_same cs idents φ ψ t (want_by φ w) (want_by ψ w) (below_idents (length idents) s1.next φ ψ p.made.past a) (want_same n w s1 φ ψ a (suits_grows n w s s1 p.grows h)) z) p.made.past in
    let all = gathers_then n idents (OneSort idents i j) (λ φ. One φ × Wants cs idents t w φ) s s1 (gather_term cs idents t w s2) p tail
    (λ φ ψ a z.
    let e = want_same n w s φ ψ a h in
    ((z.0.0, sym e ∙ z.0.1), typed_same cs idents φ ψ t (want_by φ w) (want_by ψ w) (below_idents (length idents) s.next φ ψ m.past a) e z.1)) m.past in
    gathers_map n idents (λ φ. OneSort idents i j φ × (One φ × Wants cs idents t w φ)) (Wants cs idents (raw.swapped i j t) w) s (gather_term cs idents t w s2)
    (λ φ f r z.
    let inner : TypedBy cs idents φ t (one z.1.0.0) = subst (λ (v : Want). TypedBy cs idents φ t v) z.1.0.1 z.1.1 in
    subst (IsTypedRaw cs (kinds_by φ idents) (raw.swapped (id_with_sort (kinds_by φ idents) i) (id_with_sort (kinds_by φ idents) j) (with_sorts (kinds_by φ idents) t))) (sym z.1.0.1) (z.0, inner))
    (λ φ f r z.
    let k = typed_swapped cs (kinds_by φ idents) (id_with_sort (kinds_by φ idents) i) (id_with_sort (kinds_by φ idents) j) (with_sorts (kinds_by φ idents) t) (want_by φ w) z in
    (k.2, ((k.0, k.1), subst (λ (v : Want). TypedBy cs idents φ t v) (sym k.1) k.3))) all
