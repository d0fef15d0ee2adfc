-- Tokens have one reading, and how it goes on from one item to the next.
use Rattle.std.proofs.Common.{◌≡◌, ℕ, ◌+◌, ◌<◌, ◌≤◌, Bool, true, false, List, [], ◌∷◌, ◌++◌, length, take, drop, get_or, Option, None, Some, IfSome, Result, Ok, Err, refl, sym, ap, ◌∙◌, arith, subst, append_assoc, append-nil}
use Rattle.std.proofs.lemmas.List.{take-map, drop-map, drop-drop}
use Rattle.std.proofs.lemmas.Grind.{common_steps}
use Rattle.ap_lexer.specs.declared.token.Token.{Token}
use Rattle.ap_lexer.specs.Tokens.{Lexeme, lexeme, lexemes}
use Rattle.ap_trees.specs.Symbols.{Sym, syms_of}
use Rattle.ap_trees.specs.Items.{Saying, ItemOf}
use Rattle.ap_defs.specs.declared.faults.SyntaxFault.{SyntaxFault}
use Rattle.ap_syntax.specs.declared.faults.SynError.{SynError}
use Rattle.ap_syntax.specs.declared.faults.SynError.TheVariants as errors
use Rattle.ap_defs.specs.declared.faults.SyntaxKind.TheVariants as kinds
use Rattle.ap_syntax.specs.ItemGrammar.{IsItem}
use Rattle.ap_syntax.specs.ItemReader.{read_item}
use Rattle.ap_syntax.specs.Nesting.{is_too_deep}
use Rattle.ap_syntax.specs.Reading.{first_dot, before, fault, First, unended, too_deep, no_item, an_item, after_items, FirstOf, TextOutcome, Reads, all_read, faulty, goes_on, GivesOneOf, FailsAsOneOf}
use Rattle.ap_syntax.proofs.ItemLaws.{item_sound, item_only}

-- what the first of some tokens reads as, by the reader
abbrev item_or_fault : ℕ → Lexeme → List Lexeme → ℕ → Option Saying → Result (ItemOf × List Lexeme) SyntaxFault
item_or_fault i t ts place None = Err (fault i t kinds.Grammar)
item_or_fault i t ts place (Some form) = Ok (record { line = t.line; form = form }, drop (place + 1) ts)

abbrev deep_or_item : ℕ → Lexeme → List Lexeme → ℕ → Bool → Result (ItemOf × List Lexeme) SyntaxFault
deep_or_item i t ts place true = Err (fault i t kinds.TooDeep)
deep_or_item i t ts place false = item_or_fault i t ts place (read_item (before place ts))

abbrev outcome_by : ℕ → Lexeme → List Lexeme → Option ℕ → Result (ItemOf × List Lexeme) SyntaxFault
outcome_by i t ts None = Err (fault i t kinds.Unended)
outcome_by i t ts (Some place) = deep_or_item i t ts place (is_too_deep (before place ts))

none_by : (ts : List Sym) (r : Option Saying) → IfSome r (λ f. IsItem ts f) → ((form : Saying) → ¬ IsItem ts form) → r ≡ None
none_by ts None h never = refl
none_by ts (Some f) h never = absurd (never f h)

first_is : {i : ℕ} {t : Lexeme} {ts : List Lexeme} {o : Result (ItemOf × List Lexeme) SyntaxFault} → First i t ts o → outcome_by i t (t ∷ ts) (first_dot (t ∷ ts)) ≡ o
first_is {i} {t} {ts} (unended none) = ap (outcome_by i t (t ∷ ts)) none
first_is {i} {t} {ts} (too_deep place dot deep) = ap (outcome_by i t (t ∷ ts)) dot ∙ ap (deep_or_item i t (t ∷ ts) place) deep
first_is {i} {t} {ts} (no_item place dot deep never) =
    ap (outcome_by i t (t ∷ ts)) dot ∙ ap (deep_or_item i t (t ∷ ts) place) deep
    ∙ ap (item_or_fault i t (t ∷ ts) place) (none_by (before place (t ∷ ts)) _ (item_sound (before place (t ∷ ts))) never)
first_is {i} {t} {ts} (an_item place form dot deep h) =
    ap (outcome_by i t (t ∷ ts)) dot ∙ ap (deep_or_item i t (t ∷ ts) place) deep ∙ ap (item_or_fault i t (t ∷ ts) place) (item_only h)

one_first : {i : ℕ} {t : Lexeme} {ts : List Lexeme} {a b : Result (ItemOf × List Lexeme) SyntaxFault} → First i t ts a → First i t ts b → a ≡ b
one_first h g = sym (first_is h) ∙ first_is g

-- There is one reading.
pub one_reading : {i : ℕ} {ts : List Lexeme} {r s : Result (List ItemOf) SyntaxFault} → Reads i ts r → Reads i ts s → r ≡ s
one_reading all_read all_read = refl
one_reading (faulty f h) (faulty g k) = let same = one_first h k in let e : f ≡ g = cc same in ap (λ v. Err v) e
one_reading (faulty f h) (goes_on y rest s k l) = let same = one_first h k in absurd (cc same)
one_reading (goes_on x rest r h g) (faulty f k) = let same = one_first h k in absurd (cc same)
one_reading (goes_on {item = i} x rest r h g) (goes_on y others s k l) =
    let same = one_first h k in
    let pair : ◌≡◌ {A = ItemOf × List Lexeme} (x, rest) (y, others) = cc same in
    let item : x ≡ y = ap (λ (p : ItemOf × List Lexeme). p.0) pair in
    let tokens : rest ≡ others = ap (λ (p : ItemOf × List Lexeme). p.1) pair in
    let more : r ≡ s = one_reading g (subst (λ us. Reads (i + 1) us s) (sym tokens) l) in
    ap (λ v. after_items (v ∷ []) r) item ∙ ap (after_items (y ∷ [])) more

pub next_of : (i : ℕ) (ts : List Lexeme) (x : ItemOf) (rest : List Lexeme) (r : Result (List ItemOf) SyntaxFault) → FirstOf i ts (Ok (x, rest)) → Reads (i + 1) rest r → Reads i ts (after_items (x ∷ []) r)
next_of i [] x rest r h g = absurd h
next_of i (t ∷ ts) x rest r h g = goes_on x rest r h g

pub fault_of : (i : ℕ) (ts : List Lexeme) (f : SyntaxFault) → FirstOf i ts (Err f) → Reads i ts (Err f)
fault_of i [] f h = absurd h
fault_of i (t ∷ ts) f h = faulty f h

-- the code finds no `.`
pub unended_of : (i : ℕ) (tokens : List Token) (d : Token) → 0 < length tokens → first_dot (lexemes tokens) ≡ None → FirstOf i (lexemes tokens) (Err (fault i (lexeme (get_or tokens 0 d)) kinds.Unended))
unended_of i [] d some none = absurd (omega (arith, some))
unended_of i (t ∷ ts) d some none = unended none

pub after_items-append : (front more : List ItemOf) (r : Result (List ItemOf) SyntaxFault) → after_items front (after_items more r) ≡ after_items (front ++ more) r
after_items-append front more (Ok xs) = ap (λ v. Ok v) (sym (append_assoc front more xs))
after_items-append front more (Err f) = refl

-- from one reading to every reading
pub gives_every : {X : Type 0} (view : X → List ItemOf) (given : Result X SynError) (i : ℕ) (ts : List Lexeme) → GivesOneOf view given (Reads i ts) → (r : Result (List ItemOf) SyntaxFault) → Reads i ts r → GivesOneOf view given (λ s. s ≡ r)
gives_every view (Ok x) i ts h r g = one_reading h g
gives_every view (Err errors.Memory) i ts h r g = tt
gives_every view (Err (errors.Fault f)) i ts h r g = one_reading h g

drop_past : (tokens : List Token) (at : ℕ) → length tokens ≤ at → drop at tokens ≡ []
drop_past tokens at past = grind (arith, common_steps)

drop_more : (tokens : List Token) (at len : ℕ) → lexemes (drop (at + len) tokens) ≡ drop len (lexemes (drop at tokens))
drop_more tokens at len = ap lexemes (sym (drop-drop len at tokens)) ∙ sym (drop-map lexeme len (drop at tokens))

-- one more item
pub one_more : (all : List Lexeme) (tokens : List Token) (at len n : ℕ) (front : List ItemOf) (x : ItemOf) → ((r : TextOutcome) → Reads n (lexemes (drop at tokens)) r → Reads 1 all (after_items front r))
    → FirstOf n (lexemes (drop at tokens)) (Ok (x, drop len (lexemes (drop at tokens)))) → (r : TextOutcome) → Reads (n + 1) (lexemes (drop (at + len) tokens)) r → Reads 1 all (after_items (front ++ x ∷ []) r)
one_more all tokens at len n front x reads first r h =
    let here : Reads (n + 1) (drop len (lexemes (drop at tokens))) r = subst (λ ts. Reads (n + 1) ts r) (drop_more tokens at len) h in
    subst (Reads 1 all) (after_items-append front (x ∷ []) r) (reads (after_items (x ∷ []) r) (next_of n (lexemes (drop at tokens)) x (drop len (lexemes (drop at tokens))) r first here))

-- nothing more
pub all_done : (all : List Lexeme) (tokens : List Token) (at n : ℕ) (front : List ItemOf) → ((r : TextOutcome) → Reads n (lexemes (drop at tokens)) r → Reads 1 all (after_items front r)) → length tokens ≤ at → Reads 1 all (Ok front)
all_done all tokens at n front reads past =
    let cut : [] ≡ lexemes (drop at tokens) = sym (ap lexemes (drop_past tokens at past)) in
    subst (λ v. Reads 1 all (Ok v)) (append-nil front) (reads (Ok []) (subst (λ ts. Reads n ts (Ok [])) cut all_read))

-- a fault
pub stops_at : (e : SynError) (all ts : List Lexeme) (n : ℕ) (front : List ItemOf) → ((r : TextOutcome) → Reads n ts r → Reads 1 all (after_items front r)) → FailsAsOneOf e (FirstOf n ts) → FailsAsOneOf e (Reads 1 all)
stops_at errors.Memory all ts n front reads h = tt
stops_at (errors.Fault f) all ts n front reads h = reads (Err f) (fault_of n ts f h)

pub before_is : (tokens : List Token) (place : ℕ) → syms_of (lexemes (take place tokens)) ≡ before place (lexemes tokens)
before_is tokens place = ap syms_of (sym (take-map lexeme place tokens))
