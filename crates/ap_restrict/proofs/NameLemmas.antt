-- The first free name that is not fresh for the head, from the front.
use Rattle.std.proofs.Common.{◌≡◌, ◌<◌, ◌+◌, ℕ, suc, Bool, true, false, List, [], ◌∷◌, length, get_or, drop, refl, arith, sym, ap, ◌∙◌, subst, inl, inr}
use Rattle.std.proofs.Math.Seq.{drop-cons}
use Rattle.std.proofs.lemmas.List.Sums.{sum_by-cons}
use Rattle.std.specs.Prelude.{cond, count_by, None, Option, Some}
use Rattle.ap_defs.specs.declared.terms.Name.{Name}
use Rattle.ap_defs.specs.declared.goals.Local.{Local}
use Rattle.ap_defs.specs.Types as types
use Rattle.ap_defs.specs.Types.{NominalKind, NominalLocal, NominalConstructor, local_of, locals_of}
use Rattle.ap_defs.specs.Goals.{NominalClause}
use Rattle.ap_defs.specs.Renaming.{local_names, name_unless}
use Rattle.ap_program.specs.NameRestriction.{IsFreshForHead}
use Rattle.ap_program.specs.FreeLocals.{free_sort, sort_unless}
use Rattle.ap_restrict.specs.Heads.{IsFirstUnfresh, is_free_name, name_when}

abbrev name_with : ℕ → ℕ → Name
name_with s n = record { sort = s; num = n }

skipped : (b : Bool) (k : NominalKind) (n : ℕ) (names : List Name) → sort_unless b k ≡ None → name_unless b k n names ≡ names
skipped true (types.name s) n names e = refl
skipped true (types.var t) n names e = refl
skipped false (types.name s) n names e = cc
skipped false (types.var t) n names e = refl

counted : (b : Bool) (k : NominalKind) (n s : ℕ) (names : List Name) → sort_unless b k ≡ Some s → name_unless b k n names ≡ name_with s n ∷ names
counted true (types.name r) n s names e = cc
counted true (types.var t) n s names e = cc
counted false (types.name r) n s names e = cc
counted false (types.var t) n s names e = cc

unnamed_first : (b : Bool) (k : NominalKind) (n : ℕ) (names : List Name) → name_when b k ≡ false → name_unless b k n names ≡ names
unnamed_first true (types.name s) n names e = refl
unnamed_first true (types.var t) n names e = refl
unnamed_first false (types.name s) n names e = cc
unnamed_first false (types.var t) n names e = refl

none_counted : (b : Bool) (n m : ℕ) → n ≡ cond b 1 0 + m → n ≡ 0 → (b ≡ false) × (m ≡ 0)
none_counted true n m s e = absurd (omega arith)
none_counted false n m s e = (refl, omega arith)

-- where no identifier is a free name, there are none
unnamed : (n : ℕ) (ls : List NominalLocal) → count_by is_free_name ls ≡ 0 → local_names n ls ≡ []
unnamed n [] e = refl
unnamed n (l ∷ ls) e =
    let more = sum_by-cons (λ x. cond (is_free_name x) 1 0) l ls in
    let none = none_counted (is_free_name l) (count_by is_free_name (l ∷ ls)) (count_by is_free_name ls) more e in
    unnamed_first l.bound l.kind n (local_names (suc n) ls) none.0 ∙ unnamed (suc n) ls none.1

pub none_unfresh : (cs : List NominalConstructor) (c : NominalClause) (ls : List NominalLocal) → count_by is_free_name ls ≡ 0 → IsFirstUnfresh cs c (local_names 0 ls) None
none_unfresh cs c ls e = subst (λ names. IsFirstUnfresh cs c names None) (sym (unnamed 0 ls e)) tt

answer_next : (cs : List NominalConstructor) (c : NominalClause) (a : Name) (names : List Name) (o : Option Name)
    → IsFreshForHead cs c a → IsFirstUnfresh cs c names o → IsFirstUnfresh cs c (a ∷ names) o
answer_next cs c a names None f h = (f, h)
answer_next cs c a names (Some b) f h = inr (f, h)

-- the names of the identifiers from number i on
abbrev pub names_from : ℕ → List Local → List Name
names_from i ls = local_names i (locals_of (drop i ls))

from_next : (i : ℕ) (ls : List Local) (l d : Local) → i < length ls → l ≡ get_or ls i d → names_from i ls ≡ name_unless l.bound (local_of l).kind i (names_from (suc i) ls)
from_next i ls l d h e =
    ap (λ rest. local_names i (locals_of rest)) (drop-cons ls i d h) ∙ ap (λ x. name_unless x.bound (local_of x).kind i (names_from (suc i) ls)) (sym e)

-- One identifier on: one that is no free name, one whose name is fresh, and one whose name is not.
pub next_skips : (cs : List NominalConstructor) (c : NominalClause) (i : ℕ) (ls : List Local) (l d : Local) → i < length ls → l ≡ get_or ls i d → free_sort (local_of l) ≡ None
    → (o : Option Name) → IsFirstUnfresh cs c (names_from (suc i) ls) o → IsFirstUnfresh cs c (names_from i ls) o
next_skips cs c i ls l d h e f o a =
    subst (λ names. IsFirstUnfresh cs c names o) (sym (from_next i ls l d h e ∙ skipped l.bound (local_of l).kind i (names_from (suc i) ls) f)) a

pub next_fresh : (cs : List NominalConstructor) (c : NominalClause) (i s : ℕ) (ls : List Local) (l d : Local) → i < length ls → l ≡ get_or ls i d → free_sort (local_of l) ≡ Some s
    → IsFreshForHead cs c (name_with s i) → (o : Option Name) → IsFirstUnfresh cs c (names_from (suc i) ls) o → IsFirstUnfresh cs c (names_from i ls) o
next_fresh cs c i s ls l d h e f n o a =
    subst (λ names. IsFirstUnfresh cs c names o) (sym (from_next i ls l d h e ∙ counted l.bound (local_of l).kind i s (names_from (suc i) ls) f))
    (answer_next cs c (name_with s i) (names_from (suc i) ls) o n a)

pub next_found : (cs : List NominalConstructor) (c : NominalClause) (i s : ℕ) (ls : List Local) (l d : Local) → i < length ls → l ≡ get_or ls i d → free_sort (local_of l) ≡ Some s
    → (IsFreshForHead cs c (name_with s i) → ⊥) → IsFirstUnfresh cs c (names_from i ls) (Some (name_with s i))
next_found cs c i s ls l d h e f n =
    subst (λ names. IsFirstUnfresh cs c names (Some (name_with s i))) (sym (from_next i ls l d h e ∙ counted l.bound (local_of l).kind i s (names_from (suc i) ls) f))
    (inl (refl, n))
