-- The names of identifiers, whose numbers rise.
use Rattle.std.proofs.Common.{◌≡◌, ℕ, suc, ◌+◌, ◌<◌, Bool, true, false, List, [], ◌∷◌, ◌++◌, length, drop, get_or, refl, sym, ap, ◌∙◌, append_assoc, arith, add-one, drop-cons}
use Rattle.ap_program.specs.FreeLocals.{sort_unless}
use Rattle.std.specs.Prelude.{None, Some}
use Rattle.std.proofs.lemmas.Bool.Decides.{nat_tests}
use Rattle.ap_defs.specs.declared.terms.Name.{Name}
use Rattle.ap_defs.specs.declared.goals.Local.{Local}
use Rattle.ap_defs.specs.Permutations.{has_name, name_eq}
use Rattle.ap_defs.specs.Types as types
use Rattle.ap_defs.specs.Types.{NominalKind, kind_of, locals_of}
use Rattle.ap_defs.specs.Renaming.{local_names, name_unless}
use Rattle.ap_answers.specs.Locals.{AllBelow}
use Rattle.ap_answers.specs.Occurring.{more_names}

below_more : (n : ℕ) (as' : List Name) → AllBelow n as' → AllBelow (n + 1) as'
below_more n [] h = tt
below_more n (a ∷ as') h = (omega (arith, h.0), below_more n as' h.1)

below_append : (n : ℕ) (as' bs : List Name) → AllBelow n as' → AllBelow n bs → AllBelow n (as' ++ bs)
below_append n [] bs h k = k
below_append n (a ∷ as') bs h k = (h.0, below_append n as' bs h.1 k)

apart_eq : (s n : ℕ) (a : Name) → a.num < n → name_eq (record { sort = s; num = n }) a ≡ false
unfolding name_eq
apart_eq s n a h = grind (arith, nat_tests)

not_among : (s n : ℕ) (as' : List Name) → AllBelow n as' → has_name (record { sort = s; num = n }) as' ≡ false
not_among s n [] h = refl
not_among s n (a ∷ as') h = rw (apart_eq s n a h.0) (not_among s n as' h.1)

pub none_free : (b : Bool) (k : NominalKind) (n : ℕ) (as' : List Name) → sort_unless b k ≡ None → name_unless b k n as' ≡ as'
none_free true k n as' e = refl
none_free false (types.name s) n as' e = cc
none_free false (types.var t) n as' e = refl

one_free : (b : Bool) (k : NominalKind) (n s : ℕ) (as' : List Name) → sort_unless b k ≡ Some s → name_unless b k n as' ≡ record { sort = s; num = n } ∷ as'
one_free true k n s as' e = cc
one_free false (types.name r) n s as' e = let same : r ≡ s = cc in ap (λ q. record { sort = q; num = n } ∷ as') same
one_free false (types.var t) n s as' e = cc

pub free_added : (b : Bool) (k : NominalKind) (n s : ℕ) (as' bs : List Name) → AllBelow n as' → sort_unless b k ≡ Some s → bs ≡ more_names as' (record { sort = s; num = n } ∷ []) → bs ≡ as' ++ name_unless b k n []
free_added b k n s as' bs h e d = d ∙ rw (not_among s n as' h, one_free b k n s [] e) refl

pub free_below : (n s : ℕ) (as' bs : List Name) → AllBelow n as' → bs ≡ more_names as' (record { sort = s; num = n } ∷ []) → AllBelow (n + 1) bs
free_below n s as' bs h d = rw (d, not_among s n as' h) (below_append (n + 1) as' (record { sort = s; num = n } ∷ []) (below_more n as' h) (omega arith, tt))

pub none_below : (n : ℕ) (as' : List Name) → AllBelow n as' → AllBelow (n + 1) as'
none_below = below_more

name_front : (b : Bool) (k : NominalKind) (n : ℕ) (as' : List Name) → name_unless b k n as' ≡ name_unless b k n [] ++ as'
name_front true k n as' = refl
name_front false (types.name s) n as' = refl
name_front false (types.var t) n as' = refl

pub free_next : (ls : List Local) (l : Local) (i : ℕ) (as' bs all : List Name) → i < length ls → l ≡ get_or ls i l
    → as' ++ local_names i (locals_of (drop i ls)) ≡ all → bs ≡ as' ++ name_unless l.bound (kind_of l.kind) i []
    → bs ++ local_names (i + 1) (locals_of (drop (i + 1) ls)) ≡ all
free_next ls l i as' bs all h e invariant d =
    let front : drop i ls ≡ l ∷ drop (suc i) ls = drop-cons ls i l h ∙ ap (λ (x : Local). x ∷ drop (suc i) ls) (sym e) in
    let named : local_names i (locals_of (drop i ls)) ≡ name_unless l.bound (kind_of l.kind) i [] ++ local_names (suc i) (locals_of (drop (suc i) ls)) =
    ap (λ (m : List Local). local_names i (locals_of m)) front ∙ name_front l.bound (kind_of l.kind) i (local_names (suc i) (locals_of (drop (suc i) ls))) in
    rw (d, add-one i) (append_assoc as' (name_unless l.bound (kind_of l.kind) i []) (local_names (suc i) (locals_of (drop (suc i) ls))) ∙ ap (λ r. as' ++ r) (sym named) ∙ invariant)
