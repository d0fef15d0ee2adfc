-- Heads of closures that are made by other constructors.
use Rattle.std.proofs.Common.{◌≡◌, ◌==◌, ℕ, List, [], ◌∷◌, length, false, refl, sym, ◌∙◌}
use Rattle.ap_defs.specs.declared.terms.Name.{Name}
use Rattle.ap_defs.specs.declared.terms.Swap.{Swap}
use Rattle.ap_defs.specs.declared.terms.Var.{Var}
use Rattle.ap_defs.specs.Terms.{NominalTerm, abs, act_term, app, name, pair, susp, unit}
use Rattle.ap_theory.proofs.TermLemmas.{act_term_none}
use Rattle.ap_judge.specs.declared.closures.Head.{Head}
use Rattle.ap_judge.specs.declared.closures.Head.TheVariants as heads
use Rattle.ap_judge.specs.declared.closures.Closure.{Closure}
use Rattle.ap_judge.specs.Closures.{head_term}
use Rattle.ap_judge.proofs.BinderLemmas.{shape}

abbrev pub Apart : NominalTerm → Head → Type 0
Apart t h = (shape t == shape (head_term h)) ≡ false

pub other_than_unit : (h : Head) → (h ≡ heads.Unit → ⊥) → Apart unit h
other_than_unit heads.Unit n = absurd (n refl)
other_than_unit (heads.Name b) n = refl
other_than_unit (heads.Susp q y) n = refl
other_than_unit (heads.Pair v w) n = refl
other_than_unit (heads.App g v) n = refl
other_than_unit (heads.Abs b v) n = refl

pub other_than_name : (a : Name) (h : Head) → ((b : Name) → h ≡ heads.Name b → ⊥) → Apart (name a) h
other_than_name a heads.Unit n = refl
other_than_name a (heads.Name b) n = absurd (n b refl)
other_than_name a (heads.Susp q y) n = refl
other_than_name a (heads.Pair v w) n = refl
other_than_name a (heads.App g v) n = refl
other_than_name a (heads.Abs b v) n = refl

pub other_than_susp : (p : List Swap) (x : Var) (h : Head) → ((q : _) (y : _) → h ≡ heads.Susp q y → ⊥) → Apart (susp p x) h
other_than_susp p x heads.Unit n = refl
other_than_susp p x (heads.Name b) n = refl
other_than_susp p x (heads.Susp q y) n = absurd (n q y refl)
other_than_susp p x (heads.Pair v w) n = refl
other_than_susp p x (heads.App g v) n = refl
other_than_susp p x (heads.Abs b v) n = refl

pub other_than_pair : (t u : NominalTerm) (h : Head) → ((v w : Closure) → h ≡ heads.Pair v w → ⊥) → Apart (pair t u) h
other_than_pair t u heads.Unit n = refl
other_than_pair t u (heads.Name b) n = refl
other_than_pair t u (heads.Susp q y) n = refl
other_than_pair t u (heads.Pair v w) n = absurd (n v w refl)
other_than_pair t u (heads.App g v) n = refl
other_than_pair t u (heads.Abs b v) n = refl

pub other_than_app : (f : ℕ) (t : NominalTerm) (h : Head) → ((g : ℕ) (v : Closure) → h ≡ heads.App g v → ⊥) → Apart (app f t) h
other_than_app f t heads.Unit n = refl
other_than_app f t (heads.Name b) n = refl
other_than_app f t (heads.Susp q y) n = refl
other_than_app f t (heads.Pair v w) n = refl
other_than_app f t (heads.App g v) n = absurd (n g v refl)
other_than_app f t (heads.Abs b v) n = refl

pub other_than_abs : (a : Name) (t : NominalTerm) (h : Head) → ((b : Name) (v : Closure) → h ≡ heads.Abs b v → ⊥) → Apart (abs a t) h
other_than_abs a t heads.Unit n = refl
other_than_abs a t (heads.Name b) n = refl
other_than_abs a t (heads.Susp q y) n = refl
other_than_abs a t (heads.Pair v w) n = refl
other_than_abs a t (heads.App g v) n = refl
other_than_abs a t (heads.Abs b v) n = absurd (n b v refl)

-- no swappings leave a term
pub unmoved : (p : List Swap) (t h : NominalTerm) → length p ≡ 0 → h ≡ t → h ≡ act_term p t
unmoved [] t h e k = k ∙ sym (act_term_none t)
unmoved (s ∷ p) t h e k = cc
