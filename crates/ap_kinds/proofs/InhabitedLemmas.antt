-- Kinds that are read one after the other, and whether their variables are of inhabited types, by the data types that are marked.
use Rattle.std.proofs.Common.{◌≡◌, ◌<◌, ◌≤◌, ◌+◌, ◌∙◌, ◌↔◌, ◌&&◌, ◌++◌, ℕ, Bool, true, false, List, [], ◌∷◌, map, drop, get_or, length, append_assoc, refl, sym, ap, subst, arith}
use Rattle.std.proofs.lemmas.List.{at_drop_more, drop_all, map-append, append-nil}
use Rattle.ap_defs.specs.declared.goals.Kind.{Kind}
use Rattle.ap_defs.specs.Types.{NominalKind, NominalSignature, NominalConstructor, TypeShape, name, var, kind_of}
use Rattle.ap_types.specs.declared.inhabitants.Inhabitants.{Inhabitants}
use Rattle.ap_types.specs.Rounds.{marked}
use Rattle.ap_types.specs.Inhabited.{inhabited_if}
use Rattle.ap_types.specs.Solving.{shape_at}
use Rattle.ap_types.specs.Tables.{AreInhabitants}
use Rattle.ap_types.proofs.BooleanLemmas.{and_left, and_right, and_both}
use Rattle.ap_types.proofs.QuestionLemmas.{inhabited_so_far}
use Rattle.ap_program.specs.Typed.{AreInhabited}
use Rattle.ap_kinds.specs.declared.kinds.IdentKind.{IdentKind}
use Rattle.ap_kinds.specs.declared.kinds.IdentKind.TheVariants as classes
use Rattle.ap_kinds.specs.declared.read_types.Declared.{Declared}
use Rattle.ap_kinds.specs.declared.read_types.TypeRead.{TypeRead}
use Rattle.ap_kinds.specs.Reading.{read_kind, read_kinds, name_count, data_count, AllDeclared, SomeUndeclared, AllClosed, SomeOpen}
use Rattle.ap_kinds.specs.ReadTypes.{AreFirstRead, IsDeclaredBy, read_at, kind_inhabited_if, are_inhabited_if}

-- they are inhabited where the question by the marks says so
pub kinds_inhabited : (cs : List NominalConstructor) (i : Inhabitants) → AreInhabitants cs i → (ks : List NominalKind) → (are_inhabited_if (marked i.found.table.items) ks ≡ true) ↔ AreInhabited cs ks
kinds_inhabited cs i h [] = ((λ e. tt), (λ k. refl))
kinds_inhabited cs i h (name s ∷ ks) = kinds_inhabited cs i h ks
kinds_inhabited cs i h (var t ∷ ks) =
    let p = marked i.found.table.items in
    let one = inhabited_so_far cs i.found.table.items i.found.table.items i.found.waiting.items t (inhabited_if p t) refl h refl in
    let rest = kinds_inhabited cs i h ks in (
      (λ e. (one.0 (and_left (inhabited_if p t) (are_inhabited_if p ks) e), rest.0 (and_right (inhabited_if p t) (are_inhabited_if p ks) e))),
      (λ k. and_both (inhabited_if p t) (are_inhabited_if p ks) (one.1 k.0) (rest.1 k.1)),
    )

-- the kind of the next identifier, and those of the rest
kinds_here : (ts : List TypeShape) (cs : List IdentKind) (i : ℕ) → i < length cs → read_kinds ts i (drop i cs) ≡ read_kind (get_or cs i classes.Name) (shape_at ts i) ∷ read_kinds ts (i + 1) (drop (i + 1) cs)
kinds_here ts cs i l = at_drop_more (read_kinds ts i) cs i classes.Name l

none_left : (ts : List TypeShape) (cs : List IdentKind) (i : ℕ) → length cs ≤ i → read_kinds ts i (drop i cs) ≡ []
none_left ts cs i l = ap (read_kinds ts i) (drop_all i cs l)

-- where the next one is inhabited, all that are left are where the rest are
one_inhabited : (p : ℕ → Bool) (ts : List TypeShape) (cs : List IdentKind) (i : ℕ) (b : Bool) → i < length cs → b ≡ kind_inhabited_if p (read_kind (get_or cs i classes.Name) (shape_at ts i))
    → (b && are_inhabited_if p (read_kinds ts (i + 1) (drop (i + 1) cs))) ≡ are_inhabited_if p (read_kinds ts i (drop i cs))
one_inhabited p ts cs i b l h =
    let rest = read_kinds ts (i + 1) (drop (i + 1) cs) in
    ap (λ a. a && are_inhabited_if p rest) h ∙ sym (ap (are_inhabited_if p) (kinds_here ts cs i l))

pub goes_on : (p : ℕ → Bool) (ts : List TypeShape) (cs : List IdentKind) (i : ℕ) → i < length cs → true ≡ kind_inhabited_if p (read_kind (get_or cs i classes.Name) (shape_at ts i))
    → are_inhabited_if p (read_kinds ts (i + 1) (drop (i + 1) cs)) ≡ are_inhabited_if p (read_kinds ts i (drop i cs))
goes_on p ts cs i l h = one_inhabited p ts cs i true l h

pub fails_here : (p : ℕ → Bool) (ts : List TypeShape) (cs : List IdentKind) (i : ℕ) → i < length cs → false ≡ kind_inhabited_if p (read_kind (get_or cs i classes.Name) (shape_at ts i))
    → false ≡ are_inhabited_if p (read_kinds ts i (drop i cs))
fails_here p ts cs i l h = one_inhabited p ts cs i false l h

pub all_inhabited : (p : ℕ → Bool) (ts : List TypeShape) (cs : List IdentKind) (i : ℕ) → length cs ≤ i → true ≡ are_inhabited_if p (read_kinds ts i (drop i cs))
all_inhabited p ts cs i l = sym (ap (are_inhabited_if p) (none_left ts cs i l))

-- one more kind was read
pub one_more : (ts : List TypeShape) (cs : List IdentKind) (i : ℕ) (ks new : List Kind) (k : Kind) → i < length cs → kind_of k ≡ read_kind (get_or cs i classes.Name) (shape_at ts i) → new ≡ ks ++ k ∷ []
    → map kind_of new ++ read_kinds ts (i + 1) (drop (i + 1) cs) ≡ map kind_of ks ++ read_kinds ts i (drop i cs)
one_more ts cs i ks new k l h f =
    let rest = read_kinds ts (i + 1) (drop (i + 1) cs) in
    ap (λ xs. map kind_of xs ++ rest) f
    ∙ ap (λ xs. xs ++ rest) (map-append kind_of ks (k ∷ []))
    ∙ append_assoc (map kind_of ks) (kind_of k ∷ []) rest
    ∙ ap (λ x. map kind_of ks ++ x ∷ rest) h
    ∙ sym (ap (λ xs. map kind_of ks ++ xs) (kinds_here ts cs i l))

pub all_kinds : (ts : List TypeShape) (cs : List IdentKind) (i : ℕ) (ks : List Kind) → length cs ≤ i → map kind_of ks ++ read_kinds ts i (drop i cs) ≡ map kind_of ks
all_kinds ts cs i ks l = ap (λ xs. map kind_of ks ++ xs) (none_left ts cs i l) ∙ append-nil (map kind_of ks)

-- What is declared and closed, by what was read.
pub all_declared : (d : Declared) (ts : List TypeShape) (rs : List TypeRead) (count i : ℕ) → AreFirstRead d count ts rs → length rs ≤ i → ((k : ℕ) → k < i → (read_at rs k).declared ≡ true)
    → AllDeclared d.name_types d.data_types count ts
all_declared d ts rs count i h l a x b = let m = h.as_many in sym (h.each x b).declared ∙ a x (omega (arith, b, l, m))

pub some_undeclared : (d : Declared) (ts : List TypeShape) (rs : List TypeRead) (count x : ℕ) → AreFirstRead d count ts rs → x < length rs → (read_at rs x).declared ≡ false
    → SomeUndeclared d.name_types d.data_types count ts
some_undeclared d ts rs count x h l e = let m = h.as_many in let b : x < count = omega (arith, l, m) in (x, b, sym (h.each x b).declared ∙ e)

pub all_closed : (d : Declared) (ts : List TypeShape) (rs : List TypeRead) (count i : ℕ) → AreFirstRead d count ts rs → length rs ≤ i → ((k : ℕ) → k < i → (read_at rs k).closed ≡ true) → AllClosed count ts
all_closed d ts rs count i h l a x b = let m = h.as_many in sym (h.each x b).closed ∙ a x (omega (arith, b, l, m))

pub some_open : (d : Declared) (ts : List TypeShape) (rs : List TypeRead) (count x : ℕ) → AreFirstRead d count ts rs → x < length rs → (read_at rs x).closed ≡ false → SomeOpen count ts
some_open d ts rs count x h l e = let m = h.as_many in let b : x < count = omega (arith, l, m) in (x, b, sym (h.each x b).closed ∙ e)

-- the same by a signature
pub all_declared_in : (d : Declared) (sig : NominalSignature) (ts : List TypeShape) (count : ℕ) → IsDeclaredBy d sig → AllDeclared d.name_types d.data_types count ts → AllDeclared (name_count sig) (data_count sig) count ts
all_declared_in d sig ts count h a = subst (λ n. AllDeclared n (data_count sig) count ts) h.name_types (subst (λ m. AllDeclared d.name_types m count ts) h.data_types a)

pub some_undeclared_in : (d : Declared) (sig : NominalSignature) (ts : List TypeShape) (count : ℕ) → IsDeclaredBy d sig → SomeUndeclared d.name_types d.data_types count ts
    → SomeUndeclared (name_count sig) (data_count sig) count ts
some_undeclared_in d sig ts count h a = subst (λ n. SomeUndeclared n (data_count sig) count ts) h.name_types (subst (λ m. SomeUndeclared d.name_types m count ts) h.data_types a)
