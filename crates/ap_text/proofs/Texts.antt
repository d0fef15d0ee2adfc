-- A text has one program or one first fault.
use Rattle.std.proofs.Common.{◌≡◌, ℕ, List, Ok, Err, sym, ap, subst, ◌∙◌}
use Rattle.ap_defs.specs.RawTerms.{RawTerm}
use Rattle.ap_defs.specs.Goals.{ProgramOver, NominalProgram}
use Rattle.ap_defs.specs.declared.faults.Fault.{Fault}
use Rattle.ap_defs.specs.declared.faults.Fault.TheVariants as faults
use Rattle.ap_defs.specs.declared.faults.SyntaxFault.{SyntaxFault}
use Rattle.ap_lexer.specs.Tokens.{Lexeme, lexed}
use Rattle.ap_trees.specs.Items.{ItemOf}
use Rattle.ap_syntax.specs.Reading.{Reads, TextOutcome}
use Rattle.ap_syntax.proofs.Readings.{one_reading}
use Rattle.ap_typecheck.proofs.Uniqueness as typing
use Rattle.ap_typecheck.specs.Checking.{IsProgramOf, IsFirstTypeFault}
use Rattle.ap_program.specs.CarryingOut.{carried_out_program}
use Rattle.ap_program.specs.NameRestriction.{items_of, AllPass, IsNameFault}
use Rattle.ap_restrict.specs.Outcomes.{IsRefusal}
use Rattle.ap_restrict.specs.declared.errors.NameError.{NameError}
use Rattle.ap_restrict.specs.declared.errors.NameError.TheVariants as names
use Rattle.ap_text.specs.Texts.{HasItems, HasSyntaxFault, IsProgramOfText, IsFaultOfText, faulty_token, faulty_item, ill_typed, ill_named, IsRefusedText, of_names}
use Rattle.ap_text.proofs.NameFaults.{name_fault_one, passes_or_fault}

-- the tokens of a text are one list, and it reads in one way
same_tokens : (text : List ℕ) (ts us : List Lexeme) → lexed text ≡ Ok ts → lexed text ≡ Ok us → us ≡ ts
same_tokens text ts us h k = let e : Ok us ≡ Ok ts = sym k ∙ h in cc

reads_one : (text : List ℕ) (ts us : List Lexeme) (r s : TextOutcome) → lexed text ≡ Ok ts → lexed text ≡ Ok us → Reads 1 ts r → Reads 1 us s → r ≡ s
reads_one text ts us r s h k reads others = one_reading reads (subst (λ xs. Reads 1 xs s) (same_tokens text ts us h k) others)

items_one : (text : List ℕ) (is js : List ItemOf) → HasItems text is → HasItems text js → is ≡ js
items_one text is js h k = let e : ◌≡◌ {A = TextOutcome} (Ok is) (Ok js) = reads_one text h.0 k.0 (Ok is) (Ok js) h.1 k.1 h.2 k.2 in cc

syntax_one : (text : List ℕ) (f g : SyntaxFault) → HasSyntaxFault text f → HasSyntaxFault text g → f ≡ g
syntax_one text f g h k = let e : ◌≡◌ {A = TextOutcome} (Err f) (Err g) = reads_one text h.0 k.0 (Err f) (Err g) h.1 k.1 h.2 k.2 in cc

items_or_fault : (text : List ℕ) (is : List ItemOf) (f : SyntaxFault) → HasItems text is → HasSyntaxFault text f → ⊥
items_or_fault text is f h k = absurd (let e : ◌≡◌ {A = TextOutcome} (Ok is) (Err f) = reads_one text h.0 k.0 (Ok is) (Err f) h.1 k.1 h.2 k.2 in cc)

tokens_or_fault : (text : List ℕ) (ts : List Lexeme) (f : SyntaxFault) → lexed text ≡ Ok ts → lexed text ≡ Err f → ⊥
tokens_or_fault text ts f h k = absurd (let e : Ok ts ≡ Err f = sym h ∙ k in cc)

-- the program of a text is one
raw_one : (text : List ℕ) (is js : List ItemOf) (p q : ProgramOver RawTerm) → HasItems text is → HasItems text js → IsProgramOf is p → IsProgramOf js q → p ≡ q
raw_one text is js p q h k made other = typing.program_one js p q (subst (λ xs. IsProgramOf xs p) (items_one text is js h k) made) other

pub program_one : (text : List ℕ) (p q : NominalProgram) → IsProgramOfText text p → IsProgramOfText text q → p ≡ q
program_one text p q h k = h.carried ∙ ap carried_out_program (raw_one text h.items k.items h.raw k.raw h.read k.read h.typed k.typed) ∙ sym k.carried

-- its first fault is one
pub fault_one : (text : List ℕ) (f g : Fault) → IsFaultOfText text f → IsFaultOfText text g → f ≡ g
fault_one text _ _ (faulty_token f h) (faulty_token g k) = ap (λ x. faults.Syntax x) (let e : Err f ≡ Err g = sym h ∙ k in cc)
fault_one text _ _ (faulty_token f h) (faulty_item g k) = absurd (tokens_or_fault text k.0 f k.1 h)
fault_one text _ _ (faulty_token f h) (ill_typed js g k l) = absurd (tokens_or_fault text k.0 f k.1 h)
fault_one text _ _ (faulty_token f h) (ill_named js q g k l m) = absurd (tokens_or_fault text k.0 f k.1 h)
fault_one text _ _ (faulty_item f h) (faulty_token g k) = absurd (tokens_or_fault text h.0 g h.1 k)
fault_one text _ _ (faulty_item f h) (faulty_item g k) = ap (λ x. faults.Syntax x) (syntax_one text f g h k)
fault_one text _ _ (faulty_item f h) (ill_typed js g k l) = absurd (items_or_fault text js f k h)
fault_one text _ _ (faulty_item f h) (ill_named js q g k l m) = absurd (items_or_fault text js f k h)
fault_one text _ _ (ill_typed is f h i) (faulty_token g k) = absurd (tokens_or_fault text h.0 g h.1 k)
fault_one text _ _ (ill_typed is f h i) (faulty_item g k) = absurd (items_or_fault text is g h k)
fault_one text _ _ (ill_typed is f h i) (ill_typed js g k l) =
    ap (λ x. faults.Types x) (typing.first_one js f g (subst (λ xs. IsFirstTypeFault xs f) (items_one text is js h k) i) l)
fault_one text _ _ (ill_typed is f h i) (ill_named js q g k l m) =
    absurd (typing.never_both js q f l (subst (λ xs. IsFirstTypeFault xs f) (items_one text is js h k) i))
fault_one text _ _ (ill_named is p f h i j) (faulty_token g k) = absurd (tokens_or_fault text h.0 g h.1 k)
fault_one text _ _ (ill_named is p f h i j) (faulty_item g k) = absurd (items_or_fault text is g h k)
fault_one text _ _ (ill_named is p f h i j) (ill_typed js g k l) =
    absurd (typing.never_both is p g i (subst (λ xs. IsFirstTypeFault xs g) (items_one text js is k h) l))
fault_one text _ _ (ill_named is p f h i j) (ill_named js q g k l m) =
    ap (λ x. faults.Names x) (name_fault_one q.signature.constructors (items_of q) f g (subst (λ x. IsNameFault x f) (raw_one text is js p q h k i l) j) m)

-- it has not both
pub program_or_fault : (text : List ℕ) (p : NominalProgram) (f : Fault) → IsProgramOfText text p → IsFaultOfText text f → ⊥
program_or_fault text p _ h (faulty_token g k) = tokens_or_fault text h.read.0 g h.read.1 k
program_or_fault text p _ h (faulty_item g k) = items_or_fault text h.items g h.read k
program_or_fault text p _ h (ill_typed js g k l) = typing.never_both h.items h.raw g h.typed (subst (λ xs. IsFirstTypeFault xs g) (items_one text js h.items k h.read) l)
program_or_fault text p _ h (ill_named js q g k l m) =
    passes_or_fault h.raw.signature.constructors (items_of h.raw) g h.kept
    (subst (λ x. IsNameFault x g) (raw_one text js h.items q h.raw k h.read l h.typed) m)

-- what the name restriction refuses
pub names_refused : (e : NameError) (text : List ℕ) (items : List ItemOf) (raw : ProgramOver RawTerm) → HasItems text items → IsProgramOf items raw → IsRefusal raw e
    → IsRefusedText (of_names e) text
names_refused (names.Fault f) text items raw read typed h = ill_named items raw f read typed h
names_refused names.Memory text items raw read typed h = tt
