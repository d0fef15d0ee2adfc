-- How what is known of a text goes on from item to item.
use Rattle.std.proofs.Common.{◌≡◌, ℕ, ◌+◌, List, [], ◌∷◌, ◌++◌, length, Result, Ok, Err, Option, refl, sym, ap, subst, ◌∙◌, arith, ◌≤◌, append-nil, append_assoc, length-append}
use Rattle.ap_defs.specs.declared.faults.Fault.TheVariants as faults
use Rattle.ap_defs.specs.declared.faults.SyntaxFault.{SyntaxFault}
use Rattle.ap_defs.specs.declared.faults.TypeFault.{TypeFault}
use denote.Ref.{Bor}
use Rattle.std.proofs.lemmas.List.Sums.{count_by-le-length}
use Rattle.std.specs.Prelude.{IfOk, count_by}
use Rattle.ap_defs.specs.Limits.{size_limit}
use Rattle.ap_lexer.specs.declared.cursor.Cursor.{Cursor}
use Rattle.ap_lexer.specs.Cursors.{lexemes_left, or_fault}
use Rattle.ap_lexer.specs.Tokens.{Lexeme, lexed, lexemes_of, is_dot, item_front, after_item, item_after}
use Rattle.ap_lexer.proofs.Fronts.{dots_split}
use Rattle.ap_trees.specs.Items.{ItemOf}
use Rattle.ap_syntax.specs.Reading.{FirstOf, Reads, all_read, after_items}
use Rattle.ap_syntax.proofs.Readings.{next_of, fault_of, after_items-append}
use Rattle.ap_typecheck.specs.Checking.{IsFirstTypeFault}
use Rattle.ap_typecheck.specs.declared.texts.Typing.{Typing}
use Rattle.ap_text.specs.declared.outlook.Outlook.{Outlook}
use Rattle.ap_text.specs.declared.outlook.Outlook.TheVariants as outlooks
use Rattle.ap_text.specs.Outlooks.{HasTyped, ReadsTo, ReadsAndTyped, IsOutlook, IsOutlookOf, HasTypedText}
use Rattle.ap_text.proofs.TokenCounts.{few_lexemes}
use Rattle.ap_text.specs.Texts.{HasItems, IsFaultOfText, faulty_item, ill_typed}

-- not faulty in its grammar
abbrev pub IsGrammatical : Outlook → Type 0
IsGrammatical o = (f : SyntaxFault) → o ≡ outlooks.Ungrammatical f → ⊥

pub typed_of : (all left : List Lexeme) (n : ℕ) (t : Typing) (o : Outlook) → IsGrammatical o → IsOutlook all left n t o → ReadsAndTyped all left n t o
typed_of all left n t outlooks.Typed fine h = h
typed_of all left n t (outlooks.Mistyped f) fine h = h
typed_of all left n t (outlooks.Ungrammatical f) fine h = absurd (fine f refl)

outlook_of : (all left : List Lexeme) (n : ℕ) (t : Typing) (o : Outlook) → ReadsAndTyped all left n t o → IsOutlook all left n t o
outlook_of all left n t outlooks.Typed h = h
outlook_of all left n t (outlooks.Mistyped f) h = h
outlook_of all left n t (outlooks.Ungrammatical f) h = absurd h.2

reads_on : (all left : List Lexeme) (n : ℕ) (is : List ItemOf) (x : ItemOf) → ReadsTo all left n is → FirstOf n left (Ok (x, after_item left)) → ReadsTo all (after_item left) (n + 1) (is ++ x ∷ [])
reads_on all left n is x h first =
    let long : length (is ++ x ∷ []) + 1 ≡ n + 1 = omega (arith, h.0, length-append is (x ∷ [])) in
    (long, λ r g. subst (Reads 1 all) (after_items-append is (x ∷ []) r) (h.1 (after_items (x ∷ []) r) (next_of n left x (after_item left) r first g)))

-- one more item
pub item_on : (all left : List Lexeme) (n d : ℕ) (t after : Typing) (o next : Outlook) (x : ItemOf) → IsGrammatical o → IsOutlook all left n t o
    → FirstOf n left (Ok (x, after_item left)) → ((is : List ItemOf) → HasTyped is t o → HasTyped (is ++ x ∷ []) after next) → d ≡ 1
    → IsOutlook all (after_item left) (n + d) after next
item_on all left n d t after o next x fine h first typed one =
    let k = typed_of all left n t o fine h in
    subst (λ m. IsOutlook all (after_item left) (n + m) after next) (sym one)
    (outlook_of all (after_item left) (n + 1) after next (k.0 ++ x ∷ [], reads_on all left n k.0 x k.1 first, typed k.0 k.2))

-- an item that isn't in the grammar
pub fault_on : (all left : List Lexeme) (n : ℕ) (t : Typing) (o : Outlook) (f : SyntaxFault) → IsGrammatical o → IsOutlook all left n t o → FirstOf n left (Err f) → Reads 1 all (Err f)
fault_on all left n t o f fine h first = let k = typed_of all left n t o fine h in k.1.1 (Err f) (fault_of n left f first)

-- a text of which nothing is left
items_read : (text : List ℕ) (all : List Lexeme) (n : ℕ) (is : List ItemOf) → lexed text ≡ Ok all → ReadsTo all [] n is → HasItems text is
items_read text all n is e h = (all, e, subst (λ js. Reads 1 all (Ok js)) (append-nil is) (h.1 (Ok []) all_read))

-- a text has no more items than tokens
pub few_items : (all : List Lexeme) (n : ℕ) (is : List ItemOf) → ReadsTo all [] n is → n ≡ item_after all → length all ≤ size_limit → length is ≤ size_limit
few_items all n is h number few = omega (arith, h.0, number, few, count_by-le-length is_dot all)

pub typed_text : (text : List ℕ) (t : Typing) → IsOutlookOf text t outlooks.Typed → HasTypedText text t
typed_text text t h =
    let all = h.0 in
    let n = item_after all in
    let k : ReadsAndTyped all [] n t outlooks.Typed = h.3 in
    (k.0, items_read text all n k.0 h.1 k.1, few_items all n k.0 k.1 refl h.2, k.2)

pub mistyped : (text : List ℕ) (t : Typing) (f : TypeFault) → IsOutlookOf text t (outlooks.Mistyped f) → IsFaultOfText text (faults.Types f)
mistyped text t f h =
    let all = h.0 in
    let n = item_after all in
    let k : ReadsAndTyped all [] n t (outlooks.Mistyped f) = h.3 in
    ill_typed k.0 f (items_read text all n k.0 h.1 k.1) (subst (λ is. IsFirstTypeFault is f) (append-nil k.0) (k.2 []))

pub ungrammatical : (text : List ℕ) (t : Typing) (f : SyntaxFault) → IsOutlookOf text t (outlooks.Ungrammatical f) → IsFaultOfText text (faults.Syntax f)
ungrammatical text t f h = faulty_item f (h.0, h.1, h.3)

-- a fault of types stays the first one
pub mistyped_on : (is : List ItemOf) (x : ItemOf) (t : Typing) (f : TypeFault) → HasTyped is t (outlooks.Mistyped f) → HasTyped (is ++ x ∷ []) t (outlooks.Mistyped f)
mistyped_on is x t f h = λ more. subst (λ js. IsFirstTypeFault js f) (sym (append_assoc is (x ∷ []) more)) (h (x ∷ more))

-- few items come before one that is typed
pub few_before : (all left : List Lexeme) (n : ℕ) (t : Typing) (o : Outlook) → IsGrammatical o → IsOutlook all left n t o → n ≤ size_limit + 1
    → (is : List ItemOf) × (length is ≤ size_limit) × HasTyped is t o
few_before all left n t o fine h few =
    let k = typed_of all left n t o fine h in
    let short : length k.0 ≤ size_limit = omega (arith, k.1.0, few) in
    (k.0, short, k.2)

-- the tokens of a text are as few as its bytes
pub started : (c : Cursor) (text : List ℕ) → c.whole.now ≡ text → lexemes_left c ≡ lexemes_of c.text.now → length text ≤ size_limit → length (lexemes_left c) ≤ size_limit
started c text w l few =
    let bytes : length c.whole.now ≡ length text = ap length w in
    let tokens : length (lexemes_left c) ≡ length (lexemes_of c.text.now) = ap length l in
    omega (arith, few_lexemes c.whole.now c.text.now c.front, bytes, tokens, few)

-- what a text reads as, from where it starts to where nothing is left
pub lexed_all : (start end : Cursor) (text : List ℕ) (n : ℕ) (r : Option SyntaxFault) → start.whole.now ≡ text → lexemes_left start ≡ lexemes_of start.text.now → end.whole ≡ start.whole → end.text ≡ start.text
    → n ≡ item_after (lexemes_left start) → (n ≡ item_after (lexemes_of end.text.now) → lexed end.whole.now ≡ or_fault (lexemes_of end.text.now) r) → lexed text ≡ or_fault (lexemes_left start) r
lexed_all start end text n r w l whole same number read =
    let tokens : lexemes_of end.text.now ≡ lexemes_left start = ap (λ (b : Bor (List ℕ)). lexemes_of b.now) same ∙ sym l in
    let bytes : end.whole.now ≡ text = ap (λ (b : Bor (List ℕ)). b.now) whole ∙ w in
    sym (ap lexed bytes) ∙ read (number ∙ ap item_after (sym tokens)) ∙ ap (λ ts. or_fault ts r) tokens

-- how the numbers of items go on
pub next_few : (all left : List Lexeme) (n : ℕ) → n + count_by is_dot left ≡ item_after all → length all ≤ size_limit → n + count_by is_dot left ≤ size_limit + 1
next_few all left n number few = omega (arith, number, few, count_by-le-length is_dot all)

pub dots_on : (all left more : List Lexeme) (n d : ℕ) → n + count_by is_dot left ≡ item_after all → d ≡ count_by is_dot (item_front left) → more ≡ after_item left → n + d + count_by is_dot more ≡ item_after all
dots_on all left more n d number dots rest =
    let after : count_by is_dot more ≡ count_by is_dot (after_item left) = ap (count_by is_dot) rest in
    omega (arith, number, dots, after, dots_split left)

pub if_ok : {X E : Type 0} {P Q : X → Type 0} (r : Result X E) → ((x : X) → P x → Q x) → IfOk r P → IfOk r Q
if_ok (Ok x) on h = on x h
if_ok (Err e) on h = tt
