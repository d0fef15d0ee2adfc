-- What is read off a shape, by what is read off its parts.
use Rattle.std.proofs.Common.{◌≡◌, ◌∙◌, ℕ, Bool, true, ◌&&◌, refl, ap}
use Rattle.ap_defs.specs.Types.{NominalConstructor, NominalKind, TypeShape, type_of, hole, unit, names, base, pair, list, abs}
use Rattle.ap_defs.specs.Types as types
use Rattle.ap_kinds.specs.declared.read_types.TypeRead.{TypeRead}
use Rattle.ap_kinds.specs.Reading.{is_closed, is_sort, sort_in_shape, read_type}
use Rattle.ap_kinds.specs.ReadTypes.{IsRead, is_sort_type, sort_in_type}

sort_read : (t : TypeShape) → sort_in_type (read_type t) ≡ sort_in_shape t
sort_read (hole x) = refl
sort_read unit = refl
sort_read (names s) = refl
sort_read (base d) = refl
sort_read (pair t u) = refl
sort_read (list t) = refl
sort_read (abs t u) = refl

is_sort_read : (t : TypeShape) → is_sort_type (read_type t) ≡ is_sort t
is_sort_read (hole x) = refl
is_sort_read unit = refl
is_sort_read (names s) = refl
is_sort_read (base d) = refl
is_sort_read (pair t u) = refl
is_sort_read (list t) = refl
is_sort_read (abs t u) = refl

pub sort_of_read : (n m : ℕ) (p : ℕ → Bool) (t : TypeShape) (r : TypeRead) → IsRead n m p t r → sort_in_type (type_of r.ty) ≡ sort_in_shape t
sort_of_read n m p t r h = ap sort_in_type h.ty ∙ sort_read t

module _ (n m : ℕ) (p : ℕ → Bool) (t u : TypeShape) (l r v : TypeRead) (h : IsRead n m p t l) (k : IsRead n m p u r) where
  pub pair_read : type_of v.ty ≡ types.pair (type_of l.ty) (type_of r.ty) → v.declared ≡ (l.declared && r.declared) → v.closed ≡ (l.closed && r.closed) → v.inhabited ≡ (l.inhabited && r.inhabited)
      → IsRead n m p (pair t u) v
  pair_read e d c i = record {
    ty = e ∙ (λ j. types.pair (h.ty j) (k.ty j));
    declared = d ∙ (λ j. h.declared j && k.declared j);
    closed = c ∙ (λ j. h.closed j && k.closed j);
    inhabited = i ∙ (λ j. h.inhabited j && k.inhabited j);
  }

  pub abs_read : type_of v.ty ≡ types.abs (sort_in_type (type_of l.ty)) (type_of r.ty) → v.declared ≡ (l.declared && r.declared) → v.closed ≡ (is_sort_type (type_of l.ty) && r.closed)
      → v.inhabited ≡ r.inhabited → IsRead n m p (abs t u) v
  abs_read e d c i = record {
    ty = e ∙ (λ j. types.abs (sort_in_type (h.ty j)) (k.ty j)) ∙ ap (λ s. types.abs s (read_type u)) (sort_read t);
    declared = d ∙ (λ j. h.declared j && k.declared j);
    closed = c ∙ (λ j. is_sort_type (h.ty j) && k.closed j) ∙ ap (λ b. b && is_closed u) (is_sort_read t);
    inhabited = i ∙ k.inhabited;
  }

pub list_read : (n m : ℕ) (p : ℕ → Bool) (t : TypeShape) (l v : TypeRead) → IsRead n m p t l → type_of v.ty ≡ types.list (type_of l.ty) → v.declared ≡ l.declared → v.closed ≡ l.closed → v.inhabited ≡ true
    → IsRead n m p (list t) v
list_read n m p t l v h e d c i = record { ty = e ∙ ap types.list h.ty; declared = d ∙ h.declared; closed = c ∙ h.closed; inhabited = i }

pub same_read : (n m : ℕ) (p : ℕ → Bool) (t : TypeShape) (l v : TypeRead) → IsRead n m p t l → type_of v.ty ≡ type_of l.ty → v.declared ≡ l.declared → v.closed ≡ l.closed → v.inhabited ≡ l.inhabited → IsRead n m p t v
same_read n m p t l v h e d c i = record { ty = e ∙ h.ty; declared = d ∙ h.declared; closed = c ∙ h.closed; inhabited = i ∙ h.inhabited }
