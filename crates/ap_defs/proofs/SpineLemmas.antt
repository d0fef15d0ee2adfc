-- The last of layers is innermost.
use Rattle.std.proofs.Common.{◌≡◌, ◌≤◌, ◌+◌, ℕ, List, [], ◌∷◌, ◌++◌, refl, sym, ap, ◌∙◌, arith}
use Rattle.ap_defs.specs.declared.spines.TermLayer.{TermLayer}
use Rattle.ap_defs.specs.declared.spines.TypeLayer.{TypeLayer}
use Rattle.ap_defs.specs.declared.spines.GoalLayer.{GoalLayer}
use Rattle.ap_defs.specs.Terms.{NominalTerm}
use Rattle.ap_defs.specs.declared.spines.TermLayer.TheVariants as around_term
use Rattle.ap_defs.specs.declared.spines.TypeLayer.TheVariants as around_type
use Rattle.ap_defs.specs.Unification.{size}
use Rattle.ap_defs.specs.Types.{NominalType, unit, names, base, pair, list, abs}
use Rattle.ap_defs.specs.Goals.{NominalGoal}
use Rattle.ap_defs.specs.Spines.{term_in, term_within, type_in, type_within, goal_in, goal_within}

pub term_within_last : (ls : List TermLayer) (l : TermLayer) (t : NominalTerm) → term_within (ls ++ l ∷ []) t ≡ term_within ls (term_in l t)
term_within_last [] l t = refl
term_within_last (k ∷ ls) l t = ap (λ u. term_in k u) (term_within_last ls l t)

pub type_within_last : (ls : List TypeLayer) (l : TypeLayer) (t : NominalType) → type_within (ls ++ l ∷ []) t ≡ type_within ls (type_in l t)
type_within_last [] l t = refl
type_within_last (k ∷ ls) l t = ap (λ u. type_in k u) (type_within_last ls l t)

pub goal_within_last : (ls : List GoalLayer) (l : GoalLayer) (g : NominalGoal) → goal_within (ls ++ l ∷ []) g ≡ goal_within ls (goal_in l g)
goal_within_last [] l g = refl
goal_within_last (k ∷ ls) l g = ap (λ h. goal_in k h) (goal_within_last ls l g)

-- a part goes on inside one more layer
pub term_goes_in : (ls ks : List TermLayer) (l : TermLayer) (w t x : NominalTerm) → ks ≡ ls ++ l ∷ [] → w ≡ term_in l t → term_within ls w ≡ x → term_within ks t ≡ x
term_goes_in ls ks l w t x h e k = ap (λ ms. term_within ms t) h ∙ term_within_last ls l t ∙ ap (term_within ls) (sym e) ∙ k

pub type_goes_in : (ls ks : List TypeLayer) (l : TypeLayer) (w t x : NominalType) → ks ≡ ls ++ l ∷ [] → w ≡ type_in l t → type_within ls w ≡ x → type_within ks t ≡ x
type_goes_in ls ks l w t x h e k = ap (λ ms. type_within ms t) h ∙ type_within_last ls l t ∙ ap (type_within ls) (sym e) ∙ k

pub goal_goes_in : (ls ks : List GoalLayer) (l : GoalLayer) (w g x : NominalGoal) → ks ≡ ls ++ l ∷ [] → w ≡ goal_in l g → goal_within ls w ≡ x → goal_within ks g ≡ x
goal_goes_in ls ks l w g x h e k = ap (λ ms. goal_within ms g) h ∙ goal_within_last ls l g ∙ ap (goal_within ls) (sym e) ∙ k

-- the part is smaller
term_in_more : (l : TermLayer) (t : NominalTerm) → size t ≤ size (term_in l t)
term_in_more (around_term.Left u) t = omega arith
term_in_more (around_term.App f) t = omega arith
term_in_more (around_term.Abs a) t = omega arith

pub term_smaller : (l : TermLayer) (w t : NominalTerm) (n : ℕ) → w ≡ term_in l t → size w ≤ n → size t ≤ n
term_smaller l w t n e h = let k : size (term_in l t) ≤ n = rw e at h in let m = term_in_more l t in omega arith

abbrev pub type_size : NominalType → ℕ
type_size unit = 1
type_size (names s) = 1
type_size (base d) = 1
type_size (pair t u) = 1 + type_size t + type_size u
type_size (list t) = 1 + type_size t
type_size (abs s t) = 1 + type_size t

type_in_more : (l : TypeLayer) (t : NominalType) → type_size t ≤ type_size (type_in l t)
type_in_more (around_type.Left u) t = omega arith
type_in_more around_type.List t = omega arith
type_in_more (around_type.Abs s) t = omega arith

pub type_smaller : (l : TypeLayer) (w t : NominalType) (n : ℕ) → w ≡ type_in l t → type_size w ≤ n → type_size t ≤ n
type_smaller l w t n e h = let k : type_size (type_in l t) ≤ n = rw e at h in let m = type_in_more l t in omega arith
