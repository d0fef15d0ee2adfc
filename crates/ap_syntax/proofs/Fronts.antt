-- The tokens of the first item read as all tokens do.
use Rattle.std.proofs.Common.{◌≡◌, ℕ, suc, ◌+◌, ◌<◌, Bool, true, false, cond, List, [], ◌∷◌, ◌++◌, append-nil, length, take, drop, get_or, Option, None, Some, IfSome, Result, Ok, Err, nat_lt, refl, sym, ap, ◌∙◌, arith, subst, if◌then◌else◌}
use Rattle.std.proofs.lemmas.Bool.{or_parts}
use Rattle.std.proofs.lemmas.Bool.Decides.{nat_tests}
use Rattle.std.proofs.lemmas.List.{map-append}
use Rattle.std.proofs.lemmas.List.Sums.{sum_by-append}
use Rattle.std.specs.List.{list_any}
use Rattle.std.specs.Option.{option_map}
use Rattle.std.specs.Prelude.{count_by}
use Rattle.ap_defs.specs.declared.faults.SyntaxFault.{SyntaxFault}
use Rattle.ap_defs.specs.declared.faults.SyntaxKind.TheVariants as kinds
use Rattle.ap_lexer.specs.declared.token.Token.{Token}
use Rattle.ap_lexer.specs.Tokens.{Lexeme, lexeme, lexemes, is_dot, item_front, after_item}
use Rattle.ap_lexer.proofs.Fronts.{goes_on, ends, no_end}
use Rattle.ap_trees.specs.declared.symbols.Symbol.{Symbol}
use Rattle.ap_trees.specs.Symbols.{Sym, sym as sym_of_symbol, sym_of, syms, syms_of}
use Rattle.ap_trees.specs.Items.{Saying, ItemOf}
use Rattle.ap_syntax.specs.declared.faults.SynError.{SynError}
use Rattle.ap_syntax.specs.declared.faults.SynError.TheVariants as errors
use Rattle.ap_syntax.specs.ItemGrammar.{IsItem}
use Rattle.ap_syntax.specs.ItemReader.{read_item}
use Rattle.ap_syntax.specs.declared.front.Front.{Front}
use Rattle.ap_syntax.specs.Fronts.{HasBefore, IsFrontOf}
use Rattle.ap_syntax.specs.Nesting.{is_too_deep}
use Rattle.ap_syntax.specs.Reading.{first_dot, before, fault, First, unended, too_deep, no_item, an_item, FirstOf, form_or_fault, item_or_fault, GivesOneOf}
use Rattle.ap_syntax.proofs.ItemLaws.{item_sound, item_only}

one_later : (i n : ℕ) → cond (nat_lt (1 + i) (suc n)) (Some (1 + i)) None ≡ option_map suc (cond (nat_lt i n) (Some i) None)
one_later i n = by (nat_lt i n) refl
  where
    by : (b : Bool) → nat_lt i n ≡ b → cond (nat_lt (1 + i) (suc n)) (Some (1 + i)) None ≡ option_map suc (cond b (Some i) None)
    by true e = let h : nat_lt (1 + i) (suc n) ≡ true = grind (arith, nat_tests) in rw h (ap (λ n. Some n) (let k : 1 + i ≡ suc i = omega arith in k))
    by false e = let h : nat_lt (1 + i) (suc n) ≡ false = grind (arith, nat_tests) in rw h refl

dot_next : (t : Lexeme) (ts : List Lexeme) → first_dot (t ∷ ts) ≡ cond (is_dot t) (Some 0) (option_map suc (first_dot ts))
dot_next t ts = by (is_dot t) refl
  where
    by : (b : Bool) → is_dot t ≡ b → first_dot (t ∷ ts) ≡ cond b (Some 0) (option_map suc (first_dot ts))
    by true e = let h : nat_lt 0 (suc (length ts)) ≡ true = grind (arith, nat_tests) in rw (e, h) refl
    by false e = rw e (one_later _ _)

front_rest : (ts : List Lexeme) (place : ℕ) → first_dot ts ≡ Some place → drop (place + 1) ts ≡ after_item ts
front_rest [] place e = absurd (cc e)
front_rest (t ∷ ts) place e = by (is_dot t) (first_dot ts) refl (front_rest ts) place (sym (dot_next t ts) ∙ e)
  where
    by : (b : Bool) (r : Option ℕ) → first_dot ts ≡ r → ((i : ℕ) → first_dot ts ≡ Some i → drop (i + 1) ts ≡ after_item ts) → (place : ℕ) → cond b (Some 0) (option_map suc r) ≡ Some place
        → drop (place + 1) (t ∷ ts) ≡ (if b then ts else after_item ts)
    by true r k rest place h = let none : 0 ≡ place = cc in subst (λ n. drop (n + 1) (t ∷ ts) ≡ ts) none refl
    by false None k rest place h = absurd (cc)
    by false (Some i) k rest place h =
        let more : place + 1 ≡ suc (i + 1) = let one : suc i ≡ place = cc in omega (arith, one) in
        ap (λ n. drop n (t ∷ ts)) more ∙ rest i k

abbrev with_rest : List Lexeme → Result ItemOf SyntaxFault → Result (ItemOf × List Lexeme) SyntaxFault
with_rest rest (Ok x) = Ok (x, rest)
with_rest rest (Err f) = Err f

-- an item that a `.` ends
ended : (i : ℕ) (t : Lexeme) (ts : List Lexeme) (place : ℕ) → first_dot (t ∷ ts) ≡ Some place
    → First i t ts (with_rest (drop (place + 1) (t ∷ ts)) (item_or_fault i t.line (before place (t ∷ ts))))
ended i t ts place dot = by (is_too_deep (before place (t ∷ ts))) refl (read_item (before place (t ∷ ts))) refl
  where
    by : (b : Bool) → is_too_deep (before place (t ∷ ts)) ≡ b → (r : Option Saying) → read_item (before place (t ∷ ts)) ≡ r
        → First i t ts (with_rest (drop (place + 1) (t ∷ ts)) (if b then Err (fault i t kinds.TooDeep) else form_or_fault i t.line r))
    by true e r k = too_deep place dot e
    by false e None k = no_item place dot e (λ form h. let both : Some form ≡ None = sym (item_only h) ∙ k in absurd (cc both))
    by false e (Some form) k = an_item place form dot e (subst (λ o. IfSome o (λ f. IsItem (before place (t ∷ ts)) f)) k (item_sound (before place (t ∷ ts))))

gives_first : {X : Type 0} (view : X → ItemOf) (given : Result X SynError) (i : ℕ) (t : Lexeme) (ts : List Lexeme) (place : ℕ) → first_dot (t ∷ ts) ≡ Some place
    → GivesOneOf view given (λ r. r ≡ item_or_fault i t.line (before place (t ∷ ts))) → GivesOneOf (λ x. (view x, drop (place + 1) (t ∷ ts))) given (First i t ts)
gives_first view (Ok x) i t ts place dot h = subst (λ o. First i t ts (with_rest (drop (place + 1) (t ∷ ts)) o)) (sym h) (ended i t ts place dot)
gives_first view (Err errors.Memory) i t ts place dot h = tt
gives_first view (Err (errors.Fault f)) i t ts place dot h = subst (λ o. First i t ts (with_rest (drop (place + 1) (t ∷ ts)) o)) (sym h) (ended i t ts place dot)

-- what is read of the first of all tokens
pub first_given : {X : Type 0} (view : X → ItemOf) (given : Result X SynError) (i : ℕ) (tokens : List Token) (d : Token) (place : ℕ) (symbols : List Sym) → 0 < length tokens
    → first_dot (lexemes tokens) ≡ Some place → symbols ≡ before place (lexemes tokens) → GivesOneOf view given (λ r. r ≡ item_or_fault i (get_or tokens 0 d).line symbols)
    → GivesOneOf (λ x. (view x, drop (place + 1) (lexemes tokens))) given (FirstOf i (lexemes tokens))
first_given view given i [] d place symbols some dot same h = absurd (omega (arith, some))
first_given view given i (t ∷ ts) d place symbols some dot same h =
    gives_first view given i (lexeme t) (lexemes ts) place dot (subst (λ us. GivesOneOf view given (λ r. r ≡ item_or_fault i t.line us)) same h)

-- an item that no `.` ends
pub front_unended : (i : ℕ) (f : Front) (all : List Lexeme) → IsFrontOf all f → f.ended ≡ false
    → FirstOf i all (Err (record { place = record { item = i; line = f.line }; kind = kinds.Unended }))
front_unended i f [] h e = absurd h
front_unended i f (t ∷ ts) h e =
    let none : HasBefore (t ∷ ts) false (syms f.symbols.items) = subst (λ b. HasBefore (t ∷ ts) b (syms f.symbols.items)) e h.1 in
    subst (λ n. First i t ts (Err (record { place = record { item = i; line = n }; kind = kinds.Unended }))) (sym h.0) (unended none.0)

-- one that a `.` ends
pub front_given : {X : Type 0} (view : X → ItemOf) (given : Result X SynError) (i : ℕ) (f : Front) (all : List Lexeme) → IsFrontOf all f → f.ended ≡ true
    → GivesOneOf view given (λ r. r ≡ item_or_fault i f.line (syms f.symbols.items)) → GivesOneOf (λ x. (view x, after_item all)) given (FirstOf i all)
front_given view given i f [] h e g = absurd h
front_given view given i f (t ∷ ts) h e g =
    let some : HasBefore (t ∷ ts) true (syms f.symbols.items) = subst (λ b. HasBefore (t ∷ ts) b (syms f.symbols.items)) e h.1 in
    let line : f.line ≡ t.line = h.0 in
    let place = some.0 in
    let same : syms f.symbols.items ≡ before place (t ∷ ts) = some.2 in
    let both : item_or_fault i f.line (syms f.symbols.items) ≡ item_or_fault i t.line (before place (t ∷ ts)) = λ j. item_or_fault i (line j) (same j) in
    subst (λ rest. GivesOneOf (λ x. (view x, rest)) given (First i t ts)) (front_rest (t ∷ ts) place some.1)
    (gives_first view given i t ts place some.1 (subst (λ o. GivesOneOf view given (λ r. r ≡ o)) both g))

counted : (t : Lexeme) (us : List Lexeme) → count_by is_dot (t ∷ us) ≡ count_by is_dot (t ∷ []) + count_by is_dot us
counted t us = sum_by-append _ (t ∷ []) us

single : (t : Lexeme) (b : Bool) → is_dot t ≡ b → count_by is_dot (t ∷ []) ≡ cond b 1 0
single t true e = ap (λ b. 0 + cond b 1 0) e
single t false e = ap (λ b. 0 + cond b 1 0) e

-- a `.` ends the first item, and no other token of it is one
one_dot : (ts : List Lexeme) (place : ℕ) → first_dot ts ≡ Some place → count_by is_dot (item_front ts) ≡ 1
one_dot [] place e = absurd (cc e)
one_dot (t ∷ ts) place e = by (is_dot t) refl (first_dot ts) refl (one_dot ts) (sym (dot_next t ts) ∙ e)
  where
    by : (b : Bool) → is_dot t ≡ b → (r : Option ℕ) → first_dot ts ≡ r → ((i : ℕ) → first_dot ts ≡ Some i → count_by is_dot (item_front ts) ≡ 1) → cond b (Some 0) (option_map suc r) ≡ Some place
        → count_by is_dot (t ∷ (if b then [] else item_front ts)) ≡ 1
    by true e r k rest h = single t true e
    by false e None k rest h = absurd (cc)
    by false e (Some i) k rest h = let more : count_by is_dot (t ∷ item_front ts) ≡ 1 = omega (arith, counted t (item_front ts), single t false e, rest i k) in more

first_dots : (n : ℕ) (t : Lexeme) (ts : List Lexeme) (o : Result (ItemOf × List Lexeme) SyntaxFault) (x : ItemOf) (rest : List Lexeme) → First n t ts o → o ≡ Ok (x, rest) → count_by is_dot (item_front (t ∷ ts)) ≡ 1
first_dots n t ts _ x rest (unended h) e = absurd (cc)
first_dots n t ts _ x rest (too_deep place h k) e = absurd (cc)
first_dots n t ts _ x rest (no_item place h k m) e = absurd (cc)
first_dots n t ts _ x rest (an_item place form h k i) e = one_dot (t ∷ ts) place h

pub one_ends : (n : ℕ) (ts : List Lexeme) (x : ItemOf) (rest : List Lexeme) → FirstOf n ts (Ok (x, rest)) → count_by is_dot (item_front ts) ≡ 1
one_ends n [] x rest h = absurd h
one_ends n (t ∷ ts) x rest h = first_dots n t ts (Ok (x, rest)) x rest h refl

no_dot : (ts : List Lexeme) → first_dot ts ≡ None → count_by is_dot (item_front ts) ≡ 0
no_dot [] e = refl
no_dot (t ∷ ts) e = by (is_dot t) refl (first_dot ts) refl (no_dot ts) (sym (dot_next t ts) ∙ e)
  where
    by : (b : Bool) → is_dot t ≡ b → (r : Option ℕ) → first_dot ts ≡ r → (first_dot ts ≡ None → count_by is_dot (item_front ts) ≡ 0) → cond b (Some 0) (option_map suc r) ≡ None
        → count_by is_dot (t ∷ (if b then [] else item_front ts)) ≡ 0
    by true e r k rest h = absurd (cc)
    by false e None k rest h = let more : count_by is_dot (t ∷ item_front ts) ≡ 0 = omega (arith, counted t (item_front ts), single t false e, rest k) in more
    by false e (Some i) k rest h = absurd (cc)

-- how many `.` the first item has
pub front_dots : (f : Front) (all : List Lexeme) → IsFrontOf all f → count_by is_dot (item_front all) ≡ cond f.ended 1 0
front_dots f [] h = absurd h
front_dots f (t ∷ ts) h = by f.ended h.1
  where
    by : (b : Bool) → HasBefore (t ∷ ts) b (syms f.symbols.items) → count_by is_dot (item_front (t ∷ ts)) ≡ cond b 1 0
    by true k = one_dot (t ∷ ts) k.0 k.1
    by false k = no_dot (t ∷ ts) k.0

pub front_some : (f : Front) (all : List Lexeme) → IsFrontOf all f → 0 < length all
front_some f [] h = absurd h
front_some f (t ∷ ts) h = omega arith

-- The symbols of the tokens before those that are left, none of them a `.`.
pub record ReadTo (all left : List Lexeme) (symbols : List Sym) : Type 0 where
  pub tokens : List Lexeme
  pub parts : all ≡ tokens ++ left
  pub undotted : list_any is_dot tokens ≡ false
  pub same : symbols ≡ syms_of tokens

pub read_none : (all : List Lexeme) → ReadTo all all []
read_none all = record { tokens = []; parts = refl; undotted = refl; same = refl }

-- one more token
read_on : (all us : List Lexeme) (t : Lexeme) (symbols more : List Sym) → ReadTo all (t ∷ us) symbols → is_dot t ≡ false → more ≡ symbols ++ sym_of t ∷ [] → ReadTo all us more
read_on all us t symbols more r other e =
    let on = goes_on all r.tokens (t ∷ us) us t r.parts refl r.undotted other in
    record {
      tokens = r.tokens ++ t ∷ [];
      parts = on.0;
      undotted = on.1;
      same = e ∙ ap (λ ss. ss ++ sym_of t ∷ []) r.same ∙ sym (map-append sym_of r.tokens (t ∷ []));
    }

-- one more symbol, that of a token, and then the tokens that are left begin with the next
pub read_more : (all us next : List Lexeme) (t : Token) (s : Symbol) (symbols more : List Symbol) → ReadTo all (lexeme t ∷ us) (syms symbols) → is_dot (lexeme t) ≡ false → sym_of_symbol s ≡ sym_of (lexeme t)
    → more ≡ symbols ++ s ∷ [] → us ≡ next → ReadTo all next (syms more)
read_more all us next t s symbols more r other same pushed e =
    let added : syms more ≡ syms symbols ++ sym_of (lexeme t) ∷ [] =
    ap syms pushed ∙ map-append sym_of_symbol symbols (s ∷ []) ∙ ap (λ x. syms symbols ++ x ∷ []) same in
    subst (λ (ts : List Lexeme). ReadTo all ts (syms more)) e (read_on all us (lexeme t) (syms symbols) (syms more) r other added)

dot_behind : (xs : List Lexeme) (t : Lexeme) (us : List Lexeme) → list_any is_dot xs ≡ false → is_dot t ≡ true → first_dot (xs ++ t ∷ us) ≡ Some (length xs)
dot_behind [] t us none e = dot_next t us ∙ ap (λ b. cond b (Some 0) (option_map suc (first_dot us))) e
dot_behind (x ∷ xs) t us none e =
    let both = or_parts (is_dot x) (list_any is_dot xs) none in
    dot_next x (xs ++ t ∷ us) ∙ ap (λ b. cond b (Some 0) (option_map suc (first_dot (xs ++ t ∷ us)))) both.0
    ∙ ap (option_map suc) (dot_behind xs t us both.1 e)

never_dot : (xs : List Lexeme) → list_any is_dot xs ≡ false → first_dot xs ≡ None
never_dot [] none = refl
never_dot (x ∷ xs) none =
    let both = or_parts (is_dot x) (list_any is_dot xs) none in
    dot_next x xs ∙ ap (λ b. cond b (Some 0) (option_map suc (first_dot xs))) both.0 ∙ ap (option_map suc) (never_dot xs both.1)

take_front : (xs ys : List Lexeme) → take (length xs) (xs ++ ys) ≡ xs
take_front [] ys = refl
take_front (x ∷ xs) ys = ap (λ zs. x ∷ zs) (take_front xs ys)

-- the `.` has come
pub read_dot : (all us : List Lexeme) (t : Lexeme) (symbols : List Sym) → ReadTo all (t ∷ us) symbols → is_dot t ≡ true → HasBefore all true symbols × (us ≡ after_item all)
read_dot all us t symbols r dot =
    let place : first_dot all ≡ Some (length r.tokens) = ap first_dot r.parts ∙ dot_behind r.tokens t us r.undotted dot in
    let front : syms_of r.tokens ≡ before (length r.tokens) all =
    ap syms_of (sym (take_front r.tokens (t ∷ us))) ∙ ap (before (length r.tokens)) (sym r.parts) in
    ((length r.tokens, place, r.same ∙ front), (ends all r.tokens (t ∷ us) us t r.parts refl r.undotted dot).1)

-- no `.` comes
pub read_all : (all : List Lexeme) (symbols : List Sym) → ReadTo all [] symbols → HasBefore all false symbols × ([] ≡ after_item all)
read_all all symbols r =
    let whole : all ≡ r.tokens = r.parts ∙ append-nil r.tokens in
    ((ap first_dot whole ∙ never_dot r.tokens r.undotted, r.same ∙ ap syms_of (sym whole)), (no_end all r.tokens [] r.parts refl r.undotted).1)
