-- A text has one program or one first fault.
use Rattle.std.proofs.Common.{◌≡◌, inl, inr, ℕ, suc, List, [], ◌∷◌, None, Some, sym, ap, subst, ◌∙◌}
use Rattle.ap_defs.specs.RawTerms.{RawTerm}
use Rattle.ap_defs.specs.Goals.{ProgramOver}
use Rattle.ap_defs.specs.Types.{NominalKind}
use Rattle.ap_trees.specs.Items as items
use Rattle.ap_trees.specs.Items.{Saying, ItemOf}
use Rattle.ap_kinds.specs.ItemKinds.{IsInferred}
use Rattle.ap_program.specs.Typed.{AreInhabited}
use Rattle.ap_scopes.specs.Declarations.{Declared}
use Rattle.ap_scopes.specs.Words.{words_of}
use Rattle.ap_defs.specs.declared.faults.TypeFault.{TypeFault}
use Rattle.ap_defs.specs.declared.faults.TypeKind.{TypeKind}
use Rattle.ap_typecheck.specs.Declaring.{Made, nothing_made, with_clause_made, with_query, program_made}
use Rattle.ap_typecheck.specs.Checking.{TypesClauseOf, TypesQueryOf, clause_with, query_with, Says, Makes, MakesAll, IsMistyped, SaysMistyped, IsTypeFaultOf, IsFaultAmong, IsProgramOf, IsFirstTypeFault}

-- an item says one thing
says_one : (m : Made) (n line : ℕ) (saying : Saying) (a b : Made) → Says m n line saying a → Says m n line saying b → a ≡ b
says_one m n line (items.ANameType w) a b h k = h ∙ sym k
says_one m n line (items.ADataType w) a b h k = h ∙ sym k
says_one m n line (items.AConstructor w args result) a b h k = h ∙ sym k
says_one m n line (items.APredicate w args) a b h k = h ∙ sym k
says_one m n line (items.AClause w args body) a b h k =
    let same : k.1.0 ≡ h.1.0 = h.1.1.0.1 k.1.0 k.1.1.0.0 in
    h.2 ∙ ap (λ c. with_clause_made c m) (h.1.2 ∙ sym (k.1.2 ∙ ap (clause_with m.declared n line w args body) same)) ∙ sym k.2
says_one m n line (items.AQuery g) a b h k =
    let same : k.1.0 ≡ h.1.0 = h.1.1.0.1 k.1.0 k.1.1.0.0 in
    h.2 ∙ ap (λ q. with_query q m) (h.1.2 ∙ sym (k.1.2 ∙ ap (query_with m.declared n line g) same)) ∙ sym k.2

-- what is typed is not mistyped
typed_right : (kind : TypeKind) (d : Declared) (P : List NominalKind → Type 0) (ks : List NominalKind) → IsInferred d.signature.constructors P ks → IsMistyped kind d P → ⊥
typed_right kind d P ks h (inl k) = k.1 ks h.0.0
typed_right kind d P ks h (inr (inl k)) = k.1.4 (h.0.1 k.1.0 k.1.2 ∙ sym (h.0.1 k.1.1 k.1.3))
typed_right kind d P ks h (inr (inr k)) = k.1.2 (subst (λ x. AreInhabited d.signature.constructors x) (sym (h.0.1 k.1.0 k.1.1.0)) h.1)

says_right : (kind : TypeKind) (m : Made) (n line : ℕ) (saying : Saying) (a : Made) → Says m n line saying a → SaysMistyped kind m.declared saying → ⊥
says_right kind m n line (items.ANameType w) a h k = k
says_right kind m n line (items.ADataType w) a h k = k
says_right kind m n line (items.AConstructor w args result) a h k = k
says_right kind m n line (items.APredicate w args) a h k = k
says_right kind m n line (items.AClause w args body) a h k = typed_right kind m.declared (TypesClauseOf m.declared w args body) h.1.0 h.1.1 k
says_right kind m n line (items.AQuery g) a h k = typed_right kind m.declared (TypesQueryOf m.declared g) h.1.0 h.1.1 k

makes_right : (kind : TypeKind) (m : Made) (n : ℕ) (i : ItemOf) (a : Made) → Makes m n i a → IsTypeFaultOf kind m.declared i.form → ⊥
makes_right kind m n i a h (inl k) = absurd (let e : None ≡ Some kind = sym h.0 ∙ k in cc)
makes_right kind m n i a h (inr k) = says_right kind m n i.line i.form a h.1 k.1

-- an item has one fault
mistyped_one : (a b : TypeKind) (d : Declared) (P : List NominalKind → Type 0) → IsMistyped a d P → IsMistyped b d P → a ≡ b
mistyped_one a b d P (inl h) (inl k) = h.0 ∙ sym k.0
mistyped_one a b d P (inl h) (inr (inl k)) = absurd (h.1 k.1.0 k.1.2)
mistyped_one a b d P (inl h) (inr (inr k)) = absurd (h.1 k.1.0 k.1.1.0)
mistyped_one a b d P (inr (inl h)) (inl k) = absurd (k.1 h.1.0 h.1.2)
mistyped_one a b d P (inr (inl h)) (inr (inl k)) = h.0 ∙ sym k.0
mistyped_one a b d P (inr (inl h)) (inr (inr k)) = absurd (h.1.4 (k.1.1.1 h.1.0 h.1.2 ∙ sym (k.1.1.1 h.1.1 h.1.3)))
mistyped_one a b d P (inr (inr h)) (inl k) = absurd (k.1 h.1.0 h.1.1.0)
mistyped_one a b d P (inr (inr h)) (inr (inl k)) = absurd (k.1.4 (h.1.1.1 k.1.0 k.1.2 ∙ sym (h.1.1.1 k.1.1 k.1.3)))
mistyped_one a b d P (inr (inr h)) (inr (inr k)) = h.0 ∙ sym k.0

says_mistyped_one : (a b : TypeKind) (d : Declared) (saying : Saying) → SaysMistyped a d saying → SaysMistyped b d saying → a ≡ b
says_mistyped_one a b d (items.ANameType w) h k = absurd h
says_mistyped_one a b d (items.ADataType w) h k = absurd h
says_mistyped_one a b d (items.AConstructor w args result) h k = absurd h
says_mistyped_one a b d (items.APredicate w args) h k = absurd h
says_mistyped_one a b d (items.AClause w args body) h k = mistyped_one a b d (TypesClauseOf d w args body) h k
says_mistyped_one a b d (items.AQuery g) h k = mistyped_one a b d (TypesQueryOf d g) h k

fault_one : (a b : TypeKind) (d : Declared) (saying : Saying) → IsTypeFaultOf a d saying → IsTypeFaultOf b d saying → a ≡ b
fault_one a b d saying (inl h) (inl k) = let e : Some a ≡ Some b = sym h ∙ k in cc
fault_one a b d saying (inl h) (inr k) = absurd (let e : Some a ≡ None = sym h ∙ k.0 in cc)
fault_one a b d saying (inr h) (inl k) = absurd (let e : None ≡ Some b = sym h.0 ∙ k in cc)
fault_one a b d saying (inr h) (inr k) = says_mistyped_one a b d saying h.1 k.1

makes_one : (m : Made) (n : ℕ) (is : List ItemOf) (a b : Made) → MakesAll m n is a → MakesAll m n is b → a ≡ b
makes_one m n [] a b h k = h ∙ sym k
makes_one m n (i ∷ is) a b h k =
    let same : k.0 ≡ h.0 = says_one m n i.line i.form k.0 h.0 k.1.1 h.1.1 in
    makes_one h.0 (suc n) is a b h.2 (subst (λ x. MakesAll x (suc n) is b) same k.2)

not_both : (m : Made) (n : ℕ) (is : List ItemOf) (a : Made) (f : TypeFault) → MakesAll m n is a → IsFaultAmong m n is f → ⊥
not_both m n [] a f h k = k
not_both m n (i ∷ is) a f h (inl k) = makes_right f.kind m n i h.0 h.1 k.1
not_both m n (i ∷ is) a f h (inr k) =
    let same : k.0 ≡ h.0 = says_one m n i.line i.form k.0 h.0 k.1.1 h.1.1 in
    not_both h.0 (suc n) is a f h.2 (subst (λ x. IsFaultAmong x (suc n) is f) same k.2)

pub same_fault : (f g : TypeFault) → f.place ≡ g.place → f.kind ≡ g.kind → f ≡ g
same_fault f g a b = λ j. record { place = a j; kind = b j }

among_one : (m : Made) (n : ℕ) (is : List ItemOf) (f g : TypeFault) → IsFaultAmong m n is f → IsFaultAmong m n is g → f ≡ g
among_one m n [] f g h k = absurd h
among_one m n (i ∷ is) f g (inl h) (inl k) = same_fault f g (h.0 ∙ sym k.0) (fault_one f.kind g.kind m.declared i.form h.1 k.1)
among_one m n (i ∷ is) f g (inl h) (inr k) = absurd (makes_right f.kind m n i k.0 k.1 h.1)
among_one m n (i ∷ is) f g (inr h) (inl k) = absurd (makes_right g.kind m n i h.0 h.1 k.1)
among_one m n (i ∷ is) f g (inr h) (inr k) =
    let same : k.0 ≡ h.0 = says_one m n i.line i.form k.0 h.0 k.1.1 h.1.1 in
    among_one h.0 (suc n) is f g h.2 (subst (λ x. IsFaultAmong x (suc n) is g) same k.2)

pub program_one : (is : List ItemOf) (p q : ProgramOver RawTerm) → IsProgramOf is p → IsProgramOf is q → p ≡ q
program_one is p q h k = h.2 ∙ ap (program_made (words_of is)) (makes_one nothing_made 1 is h.0 k.0 h.1 k.1) ∙ sym k.2

pub first_one : (is : List ItemOf) (f g : TypeFault) → IsFirstTypeFault is f → IsFirstTypeFault is g → f ≡ g
first_one is f g h k = among_one nothing_made 1 is f g h k

pub never_both : (is : List ItemOf) (p : ProgramOver RawTerm) (f : TypeFault) → IsProgramOf is p → IsFirstTypeFault is f → ⊥
never_both is p f h k = not_both nothing_made 1 is h.0 f h.1 k
