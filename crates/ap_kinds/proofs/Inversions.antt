-- What a typed term of each form is wanted as.
use Rattle.std.proofs.Common.{◌≡◌, ◌<◌, ℕ, zero, suc, ◌⊎◌, ◌∙◌, inl, inr, List, [], ◌∷◌, refl, sym, ap, subst, arith, Option, Some, None}
use Rattle.ap_defs.specs.declared.terms.Name.{Name}
use Rattle.ap_defs.specs.declared.terms.Var.{Var}
use Rattle.ap_defs.specs.declared.terms.Id.{Id}
use Rattle.ap_defs.specs.RawTerms as raw
use Rattle.ap_defs.specs.RawTerms.{RawTerm}
use Rattle.ap_defs.specs.Types.{NominalType, NominalKind, NominalConstructor, unit, names, base, pair, list, abs}
use Rattle.ap_defs.specs.Typing.{Want, nothing, one, more, arguments, IsApplication}
use Rattle.ap_defs.specs.Printing.{constructor_in}
use Rattle.ap_program.specs.RawTyping.{IsNameOf, IsVarOf, IsOfSort, AreOfOneSort, IsTypedRaw}
use Rattle.ap_kinds.specs.Gathering.{result_in, result_of}
use Rattle.ap_kinds.specs.Sorts.{with_sorts}
use Rattle.ap_kinds.proofs.Lookups.{constructor_low}

pub typed_name : (cs : List NominalConstructor) (ks : List NominalKind) (a : Name) (w : Want) → IsTypedRaw cs ks (raw.name a) w → (s : ℕ) × (w ≡ one (names s)) × IsNameOf ks a s
typed_name cs ks a (one (names s)) h = (s, refl, h)
typed_name cs ks a _ h = absurd h

pub typed_var : (cs : List NominalConstructor) (ks : List NominalKind) (x : Var) (w : Want) → IsTypedRaw cs ks (raw.var x) w → (t : NominalType) × (w ≡ one t) × IsVarOf ks x t
typed_var cs ks x (one t) h = (t, refl, h)
typed_var cs ks x _ h = absurd h

-- how the want of a pair is split
abbrev pub Splits : Want → Want → Want → Type 0
Splits (one (pair a b)) l r = (l ≡ one a) × (r ≡ one b)
Splits (more a w) l r = (l ≡ one a) × (r ≡ w)
Splits _ l r = ⊥

pub typed_pair : (cs : List NominalConstructor) (ks : List NominalKind) (t u : RawTerm) (w : Want) → IsTypedRaw cs ks (raw.pair t u) w
    → (l : Want) × (r : Want) × Splits w l r × IsTypedRaw cs ks t l × IsTypedRaw cs ks u r
typed_pair cs ks t u (one (pair a b)) h = (one a, one b, (refl, refl), h.0, h.1)
typed_pair cs ks t u (more a w) h = (one a, w, (refl, refl), h.0, h.1)
typed_pair cs ks t u _ h = absurd h

pub pair_typed : (cs : List NominalConstructor) (ks : List NominalKind) (t u : RawTerm) (w l r : Want) → Splits w l r → IsTypedRaw cs ks t l → IsTypedRaw cs ks u r → IsTypedRaw cs ks (raw.pair t u) w
pair_typed cs ks t u (one (pair a b)) l r s h k = (subst (IsTypedRaw cs ks t) s.0 h, subst (IsTypedRaw cs ks u) s.1 k)
pair_typed cs ks t u (more a w) l r s h k = (subst (IsTypedRaw cs ks t) s.0 h, subst (IsTypedRaw cs ks u) s.1 k)
pair_typed cs ks t u _ l r s h k = absurd s

no_constructor : (cs : List NominalConstructor) (f : ℕ) (typed : Want → Type 0) (d : ℕ) → f < 2 → IsApplication typed (constructor_in cs f) d → ⊥
no_constructor [] f typed d l h = h
no_constructor (c ∷ cs) zero typed d l h = h
no_constructor (c ∷ cs) (suc zero) typed d l h = h
no_constructor (c ∷ cs) (suc (suc f)) typed d l h = omega arith

pub typed_nil : (cs : List NominalConstructor) (ks : List NominalKind) (t : RawTerm) (w : Want) → IsTypedRaw cs ks (raw.app zero t) w
    → (a : NominalType) × (w ≡ one (list a)) × IsTypedRaw cs ks t nothing
typed_nil cs ks t (one (list a)) h = (a, refl, h)
typed_nil cs ks t (one (base d)) h = absurd (no_constructor cs 0 (IsTypedRaw cs ks t) d (omega arith) h)
typed_nil cs ks t _ h = absurd h

pub typed_cell : (cs : List NominalConstructor) (ks : List NominalKind) (t : RawTerm) (w : Want) → IsTypedRaw cs ks (raw.app (suc zero) t) w
    → (a : NominalType) × (w ≡ one (list a)) × IsTypedRaw cs ks t (more a (one (list a)))
typed_cell cs ks t (one (list a)) h = (a, refl, h)
typed_cell cs ks t (one (base d)) h = absurd (no_constructor cs 1 (IsTypedRaw cs ks t) d (omega arith) h)
typed_cell cs ks t _ h = absurd h

-- a declared constructor, its data type and its arguments
abbrev pub Declares : Option NominalConstructor → NominalType → Want → Type 0
Declares None a w = ⊥
Declares (Some c) a w = (a ≡ base c.result) × (w ≡ arguments c.args)

applied : (typed : Want → Type 0) (o : Option NominalConstructor) (d : ℕ) → IsApplication typed o d → (w : Want) × Declares o (base d) w × typed w
applied typed None d h = absurd h
applied typed (Some c) d h = (arguments c.args, (ap base (sym h.0), refl), h.1)

applies : (typed : Want → Type 0) (o : Option NominalConstructor) (d : ℕ) (w : Want) → Declares o (base d) w → typed w → IsApplication typed o d
applies typed None d w h k = absurd h
applies typed (Some c) d w h k = let e : ◌≡◌ {A = NominalType} (base d) (base c.result) = h.0 in (cc, subst typed h.1 k)

pub typed_app : (cs : List NominalConstructor) (ks : List NominalKind) (f : ℕ) (t : RawTerm) (w : Want) → IsTypedRaw cs ks (raw.app (suc (suc f)) t) w
    → (d : ℕ) × (v : Want) × (w ≡ one (base d)) × Declares (constructor_in cs (suc (suc f))) (base d) v × IsTypedRaw cs ks t v
typed_app cs ks f t (one (base d)) h = let r = applied (IsTypedRaw cs ks t) (constructor_in cs (suc (suc f))) d h in (d, r.0, refl, r.1, r.2)
typed_app cs ks f t _ h = absurd h

declared_base : (o : Option NominalConstructor) (a : NominalType) (w : Want) → Declares o a w → (d : ℕ) × (a ≡ base d)
declared_base None a w h = absurd h
declared_base (Some c) a w h = (c.result, h.0)

pub app_typed : (cs : List NominalConstructor) (ks : List NominalKind) (f : ℕ) (t : RawTerm) (a : NominalType) (v : Want) → Declares (constructor_in cs (suc (suc f))) a v → IsTypedRaw cs ks t v
    → IsTypedRaw cs ks (raw.app (suc (suc f)) t) (one a)
app_typed cs ks f t a v h k =
    let o = constructor_in cs (suc (suc f)) in
    let r = declared_base o a v h in
    subst (λ b. IsTypedRaw cs ks (raw.app (suc (suc f)) t) (one b)) (sym r.1)
    (applies (IsTypedRaw cs ks t) o r.0 v (subst (λ b. Declares o b v) r.1 h) k)

pub typed_abs : (cs : List NominalConstructor) (ks : List NominalKind) (i : Id) (t : RawTerm) (w : Want) → IsTypedRaw cs ks (raw.abs i t) w
    → (s : ℕ) × (b : NominalType) × (w ≡ one (abs s b)) × IsOfSort ks i s × IsTypedRaw cs ks t (one b)
typed_abs cs ks i t (one (abs s b)) h = (s, b, refl, h.0, h.1)
typed_abs cs ks i t _ h = absurd h

pub typed_swapped : (cs : List NominalConstructor) (ks : List NominalKind) (i j : Id) (t : RawTerm) (w : Want) → IsTypedRaw cs ks (raw.swapped i j t) w
    → (a : NominalType) × (w ≡ one a) × AreOfOneSort ks i j × IsTypedRaw cs ks t (one a)
typed_swapped cs ks i j t (one a) h = (a, refl, h.0, h.1)
typed_swapped cs ks i j t _ h = absurd h

pub typed_unit : (cs : List NominalConstructor) (ks : List NominalKind) (w : Want) → IsTypedRaw cs ks raw.unit w → (w ≡ nothing) ⊎ (w ≡ one unit)
typed_unit cs ks nothing h = inl refl
typed_unit cs ks (one unit) h = inr refl
typed_unit cs ks _ h = absurd h

-- what a term can be wanted as by its data type, if it has one
abbrev pub IsOf : Option ℕ → Want → Type 0
IsOf None a = Unit {0}
IsOf (Some d) a = a ≡ one (base d)

of_none : (o : Option NominalConstructor) (a : Want) → o ≡ None → IsOf (result_in o) a
of_none o a e = subst (λ (p : Option NominalConstructor). IsOf (result_in p) a) (sym e) tt

of_declared : (o : Option NominalConstructor) (a v : Want) (d : ℕ) → a ≡ one (base d) → Declares o (base d) v → IsOf (result_in o) a
of_declared None a v d e h = absurd h
of_declared (Some c) a v d e h = e ∙ ap one h.0

pub typed_of : (cs : List NominalConstructor) (ks : List NominalKind) (t : RawTerm) (a : Want) → IsTypedRaw cs ks (with_sorts ks t) a → IsOf (result_of cs t) a
typed_of cs ks (raw.app zero t) a h = of_none (constructor_in cs 0) a (constructor_low cs 0 (omega arith))
typed_of cs ks (raw.app (suc zero) t) a h = of_none (constructor_in cs 1) a (constructor_low cs 1 (omega arith))
typed_of cs ks (raw.app (suc (suc f)) t) a h =
    let k = typed_app cs ks f (with_sorts ks t) a h in
    of_declared (constructor_in cs (suc (suc f))) a k.1 k.0 k.2 k.3
typed_of cs ks raw.unit a h = tt
typed_of cs ks (raw.name b) a h = tt
typed_of cs ks (raw.var x) a h = tt
typed_of cs ks (raw.pair t u) a h = tt
typed_of cs ks (raw.abs i t) a h = tt
typed_of cs ks (raw.swapped i j t) a h = tt
