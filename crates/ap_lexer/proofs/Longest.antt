-- What is taken at the front of a text is the longest token.
use Rattle.std.proofs.Common.{◌≡◌, ℕ, zero, suc, ◌+◌, ◌<◌, ◌≤◌, Bool, true, false, ◌||◌, not, ◌==◌, List, [], ◌∷◌, ◌++◌, cond, length, take, drop, get_or, None, Some, ◌≢◌, refl, sym, ap, ◌∙◌, subst, arith, zero-add, length-append, append_assoc, take-append-drop, ⊎_elim}
use Rattle.std.proofs.lemmas.Bool.{or_cases}
use Rattle.std.proofs.lemmas.Bool.Decides.{nat_tests}
use Rattle.std.proofs.lemmas.List.{length-take, length-take-le}
use Rattle.std.proofs.Math.Bool.{or-true}
use Rattle.std.proofs.lemmas.List.Sums.{take_while-cons}
use Rattle.std.proofs.lemmas.Slice.Eq.{bytes_eq-Decides}
use Rattle.std.proofs.lemmas.Str.{cons_from_encodes, encodes-append, encodes-chars, chars_from_encodes, chars-nil, drop_past_char, IsUtf8-past_char, char_from_byte, length-encode}
use Rattle.std.proofs.Math.Seq.{take-append_seam, take-nil}
use Rattle.std.specs.Prelude.{encode_utf8, encode_utf8_all, ◌&&◌, if◌then◌else◌}
use Rattle.std.specs.List.{AllPass, list_any, take_while, prefix_len}
use Rattle.std.specs.Char.{len_utf8}
use Rattle.std.specs.Str.{IsUtf8, bytes_eq, chars}
use Rattle.unicode_ident.specs.Ident.{is_xid_start, is_xid_continue}
use Rattle.unicode_ident.proofs.Computing.{unicode_ident}
use Rattle.ap_lexer.specs.declared.token.TokenKind.{TokenKind}
use Rattle.ap_lexer.specs.declared.token.TokenKind.TheVariants.{Var, Ident, Reserved, Sign}
use Rattle.ap_lexer.specs.declared.pieces.Start.{Start}
use Rattle.ap_lexer.specs.declared.pieces.Start.TheVariants.{Blank, Comment, Variable, Word, Other}
use Rattle.ap_lexer.specs.Spelling.{is_upper, starts_variable, starts_identifier, is_reserved, long_marks, short_marks, is_long_mark, is_short_mark, IsWord, IsToken}
use Rattle.ap_lexer.specs.Pieces.{is_blank, start_of, word_len, word_at, mark_len, piece_from, piece_at}
use Rattle.ap_lexer.specs.Laws.{NoneBeyond, TakesLongest}

-- characters whose bytes begin with those of others begin with these
front_chars : (es ds rest : List ℕ) → encode_utf8_all es ≡ encode_utf8_all ds ++ rest → (fs : List ℕ) × (es ≡ ds ++ fs) × (encode_utf8_all fs ≡ rest)
front_chars es [] rest e = (es, refl, e)
front_chars es (d ∷ ds) rest e =
    let one = cons_from_encodes es (encode_utf8_all ds ++ rest) d (e ∙ append_assoc (encode_utf8 d) (encode_utf8_all ds) rest) in
    let more = front_chars one.0 ds rest one.2 in
    (more.0, one.1 ∙ ap (λ t. d ∷ t) more.1, more.2)

pub take_while-passed : (p : ℕ → Bool) (ds fs : List ℕ) → AllPass p ds → take_while p (ds ++ fs) ≡ ds ++ take_while p fs
take_while-passed p [] fs all = refl
take_while-passed p (d ∷ ds) fs all =
    let here : p d ≡ true = all 0 d (omega arith) in
    rw (take_while-cons p d (ds ++ fs), here) (ap (λ t. d ∷ t) (take_while-passed p ds fs (λ k e lt. all (suc k) e (omega arith))))

passes_cons : (p : ℕ → Bool) (c : ℕ) (cs : List ℕ) → p c ≡ true → AllPass p cs → AllPass p (c ∷ cs)
passes_cons p c cs e all zero d lt = e
passes_cons p c cs e all (suc k) d lt = all k d (omega arith)

passes_if : (p : ℕ → Bool) (c : ℕ) (cs : List ℕ) (b : Bool) → p c ≡ b → AllPass p cs → AllPass p (cond b (c ∷ cs) [])
passes_if p c cs true e all = passes_cons p c cs e all
passes_if p c cs false e all = λ k d lt. absurd (omega arith)

-- what is taken passes
take_while-passes : (p : ℕ → Bool) (cs : List ℕ) → AllPass p (take_while p cs)
take_while-passes p [] = λ k d lt. absurd (omega arith)
take_while-passes p (c ∷ cs) = rw (take_while-cons p c cs) (passes_if p c (take_while p cs) (p c) refl (take_while-passes p cs))

-- A text that isn't empty is its first character and the bytes of the others.
pub record Begins (bs : List ℕ) (c : ℕ) (cs : List ℕ) : Type 0 where
  pub text : IsUtf8 bs
  pub all : chars bs ≡ c ∷ cs
  pub spelled : bs ≡ encode_utf8 c ++ encode_utf8_all cs

begins_at : (b : ℕ) (bs : List ℕ) → IsUtf8 (b ∷ bs) → (cs : List ℕ) → chars (b ∷ bs) ≡ cs → (c : ℕ) × (cs : List ℕ) × Begins (b ∷ bs) c cs
begins_at b bs text [] e = let whole : [] ≡ b ∷ bs = ap encode_utf8_all (sym e) ∙ encodes-chars (b ∷ bs) text in absurd (cc)
begins_at b bs text (c ∷ cs) e = (c, cs, record { text = text; all = e; spelled = sym (ap encode_utf8_all (sym e) ∙ encodes-chars (b ∷ bs) text) })

begins : (b : ℕ) (bs : List ℕ) → IsUtf8 (b ∷ bs) → (c : ℕ) × (cs : List ℕ) × Begins (b ∷ bs) c cs
begins b bs text = begins_at b bs text (chars (b ∷ bs)) refl

after_first : (bs cs : List ℕ) (c : ℕ) → Begins bs c cs → drop (len_utf8 c) bs ≡ encode_utf8_all cs
after_first bs cs c first = ap (λ n. drop n bs) (sym (zero-add (len_utf8 c))) ∙ drop_past_char bs (encode_utf8_all cs) 0 c first.spelled

-- the characters after the first
chars_after_first : (bs cs : List ℕ) (c : ℕ) → Begins bs c cs → chars (drop (len_utf8 c) bs) ≡ cs
chars_after_first bs cs c first =
    let rest = after_first bs cs c first in
    let text : IsUtf8 (drop (len_utf8 c) bs) = rw rest (IsUtf8-past_char bs (encode_utf8_all cs) c first.text first.spelled) in
    sym (chars_from_encodes cs (drop (len_utf8 c) bs) text (sym rest))

pub word_at_is : (bs cs : List ℕ) (c : ℕ) → Begins bs c cs → word_at c bs ≡ length (encode_utf8_all (c ∷ take_while is_xid_continue cs))
unfolding word_len
word_at_is bs cs c first =
    rw (chars_after_first bs cs c first, length-append (encode_utf8 c) (encode_utf8_all (take_while is_xid_continue cs)), length-encode c) refl

-- a front that is a word begins with the first character, and is no longer than the word that is taken
word_in_front : (starts : ℕ → Bool) (bs cs : List ℕ) (c n : ℕ) → Begins bs c cs → n ≤ length bs → IsWord starts (take n bs) → (starts c ≡ true) × (n ≤ word_at c bs)
word_in_front starts bs cs c n first inside word =
    let all : encode_utf8_all (c ∷ cs) ≡ encode_utf8_all (word.0 ∷ word.1) ++ drop n bs =
    sym first.spelled ∙ sym (take-append-drop n bs) ∙ ap (λ t. t ++ drop n bs) (sym word.2) in
    let more = front_chars (c ∷ cs) (word.0 ∷ word.1) (drop n bs) all in
    let same : c ≡ word.0 = (let whole = more.1 in cc) in
    let others : cs ≡ word.1 ++ more.0 = (let whole = more.1 in cc) in
    let taken : take_while is_xid_continue cs ≡ word.1 ++ take_while is_xid_continue more.0 =
    ap (take_while is_xid_continue) others ∙ take_while-passed is_xid_continue word.1 more.0 word.4 in
    let size : length (encode_utf8_all (take_while is_xid_continue cs)) ≡ length (encode_utf8_all word.1) + length (encode_utf8_all (take_while is_xid_continue more.0)) =
    ap (λ t. length (encode_utf8_all t)) taken ∙ ap length (encodes-append word.1 _) ∙ length-append (encode_utf8_all word.1) _ in
    let front : n ≡ len_utf8 c + length (encode_utf8_all word.1) =
    sym (length-take-le n bs inside) ∙ ap length (sym word.2) ∙ length-append (encode_utf8 word.0) (encode_utf8_all word.1) ∙ ap (λ k. k + length (encode_utf8_all word.1)) (length-encode word.0) ∙ ap (λ d. len_utf8 d + length (encode_utf8_all word.1)) (sym same) in
    let there : word_at c bs ≡ len_utf8 c + length (encode_utf8_all (take_while is_xid_continue cs)) =
    word_at_is bs cs c first ∙ length-append (encode_utf8 c) _ ∙ ap (λ k. k + length (encode_utf8_all (take_while is_xid_continue cs))) (length-encode c) in
    (subst (λ d. starts d ≡ true) (sym same) word.3, omega arith)

-- what is taken as a word is one
word_taken : (starts : ℕ → Bool) (bs cs : List ℕ) (c : ℕ) → Begins bs c cs → starts c ≡ true → (word_at c bs ≤ length bs) × IsWord starts (take (word_at c bs) bs)
word_taken starts bs cs c first begin =
    let word = take_while is_xid_continue cs in
    let rest = drop (prefix_len is_xid_continue cs) cs in
    let split : cs ≡ word ++ rest = sym (take-append-drop (prefix_len is_xid_continue cs) cs) in
    let whole : bs ≡ encode_utf8_all (c ∷ word) ++ encode_utf8_all rest =
    first.spelled ∙ ap (λ t. encode_utf8 c ++ encode_utf8_all t) split ∙ ap (λ t. encode_utf8 c ++ t) (encodes-append word rest) ∙ sym (append_assoc (encode_utf8 c) (encode_utf8_all word) (encode_utf8_all rest)) in
    let len = word_at_is bs cs c first in
    let front : encode_utf8_all (c ∷ word) ≡ take (word_at c bs) bs =
    sym (rw (len, whole) (take-append_seam (encode_utf8_all (c ∷ word)) (encode_utf8_all rest))) in
    (omega (arith, ap length whole, length-append (encode_utf8_all (c ∷ word)) (encode_utf8_all rest)), (c, word, front, begin, take_while-passes is_xid_continue cs))

-- each of some texts has P
abbrev Each : (List ℕ → Type 0) → List (List ℕ) → Type 0
Each P [] = Unit {0}
Each P (m ∷ ms) = P m × Each P ms

each_marked : (P : List ℕ → Type 0) (w : List ℕ) (ms : List (List ℕ)) → list_any (bytes_eq w) ms ≡ true → Each P ms → P w
each_marked P w [] e all = absurd (cc)
each_marked P w (m ∷ ms) e all =
    ⊎_elim (λ here. subst P (sym ((bytes_eq-Decides w m).0 here)) all.0) (λ there. each_marked P w ms there all.1) (or_cases (bytes_eq w m) (list_any (bytes_eq w) ms) e)

-- a mark begins with an ASCII character that begins no other piece
abbrev pub StartsMark : List ℕ → Type 0
StartsMark w = (start_of (get_or w 0 0) ≡ Other) × (get_or w 0 0 < 128) × (0 < get_or w 0 0)

pub long_starts : (w : List ℕ) → is_long_mark w ≡ true → StartsMark w × (length w ≡ 2)
unfolding unicode_ident
long_starts w e =
    each_marked (λ m. StartsMark m × (length m ≡ 2)) w long_marks e
    (((refl, omega arith, omega arith), refl), (((refl, omega arith, omega arith), refl), (((refl, omega arith, omega arith), refl), tt)))

pub short_starts : (w : List ℕ) → is_short_mark w ≡ true → StartsMark w × (length w ≡ 1)
unfolding unicode_ident
short_starts w e =
    let one : (m : ℕ) → start_of m ≡ Other → m < 128 → 0 < m → StartsMark (m ∷ []) × (length (m ∷ []) ≡ 1) = λ m s l u. ((s, l, u), refl) in
    each_marked (λ m. StartsMark m × (length m ≡ 1)) w short_marks e
    (one 46 refl (omega arith) (omega arith), (one 44 refl (omega arith) (omega arith), (one 59 refl (omega arith) (omega arith), (one 58 refl (omega arith) (omega arith), (one 40 refl (omega arith) (omega arith), (one 41 refl (omega arith) (omega arith), (one 91 refl (omega arith) (omega arith), (one 93 refl (omega arith) (omega arith), (one 124 refl (omega arith) (omega arith), (one 92 refl (omega arith) (omega arith), (one 35 refl (omega arith) (omega arith), (one 61 refl (omega arith) (omega arith), tt))))))))))))

front_byte : (bs : List ℕ) (n : ℕ) → 0 < get_or (take n bs) 0 0 → (get_or bs 0 0 ≡ get_or (take n bs) 0 0) × (0 < length bs)
front_byte [] n some = let none = rw (take-nil n) at some in absurd (omega arith)
front_byte (b ∷ bs) zero some = absurd (omega arith)
front_byte (b ∷ bs) (suc n) some = (refl, omega arith)

mark_start : (bs cs : List ℕ) (c n : ℕ) → Begins bs c cs → StartsMark (take n bs) → start_of c ≡ Other
mark_start bs cs c n first mark =
    let front = front_byte bs n mark.2 in
    let same : c ≡ get_or bs 0 0 = char_from_byte bs (encode_utf8_all cs) c first.spelled (omega arith) front.1 in
    ap start_of (same ∙ front.0) ∙ mark.0

-- what a character begins, where the answer of `is_xid_start` is known
abbrev pub start_with : Bool → ℕ → Start
start_with xid c = if is_blank c then Blank else (if c == 37 then Comment else (if starts_variable c then Variable else (if xid then Word else Other)))

pub variable_start : (xid : Bool) (c : ℕ) → starts_variable c ≡ true → start_with xid c ≡ Variable
variable_start xid c e = grind (arith, nat_tests)

word_start_with : (c : ℕ) → c ≢ 32 → c ≢ 9 → c ≢ 13 → c ≢ 10 → c ≢ 37 → c ≢ 95 → is_upper c ≡ false → start_with true c ≡ Word
word_start_with c a b d e f g h = grind (arith, nat_tests)

differs : (c k : ℕ) → is_xid_start c ≡ true → is_xid_start k ≡ false → c ≢ k
differs c k begin other same = let both : is_xid_start c ≡ is_xid_start k = ap is_xid_start same in cc

and_not : (a b : Bool) → (a && not b) ≡ true → (a ≡ true) × (b ≡ false)
and_not true true e = absurd (cc)
and_not true false e = (refl, refl)
and_not false b e = absurd (cc)

starts_none : (is_xid_start 32 ≡ false) × (is_xid_start 9 ≡ false) × (is_xid_start 13 ≡ false) × (is_xid_start 10 ≡ false) × (is_xid_start 37 ≡ false) × (is_xid_start 95 ≡ false)
unfolding unicode_ident
starts_none = (refl, refl, refl, refl, refl, refl)

pub word_start : (c : ℕ) → starts_identifier c ≡ true → start_of c ≡ Word
word_start c e =
    let parts = and_not (is_xid_start c) (is_upper c) e in
    let no = starts_none in
    ap (λ xid. start_with xid c) parts.0
    ∙ word_start_with c (differs c 32 parts.0 no.0) (differs c 9 parts.0 no.1) (differs c 13 parts.0 no.2) (differs c 10 parts.0 no.3) (differs c 37 parts.0 no.4) (differs c 95 parts.0 no.5) parts.1

-- what the first character of a token begins
abbrev start_of_kind : TokenKind → Start
start_of_kind Var = Variable
start_of_kind Ident = Word
start_of_kind Reserved = Word
start_of_kind Sign = Other

mark_front : (w : List ℕ) → (is_long_mark w || is_short_mark w) ≡ true → StartsMark w
mark_front w e = ⊎_elim (λ long. (long_starts w long).0) (λ short. (short_starts w short).0) (or_cases (is_long_mark w) (is_short_mark w) e)

token_start : (kind : TokenKind) (bs cs : List ℕ) (c n : ℕ) → Begins bs c cs → n ≤ length bs → IsToken kind (take n bs) → start_of c ≡ start_of_kind kind
token_start Var bs cs c n first inside token = variable_start (is_xid_start c) c (word_in_front starts_variable bs cs c n first inside token).0
token_start Ident bs cs c n first inside token = word_start c (word_in_front starts_identifier bs cs c n first inside token.0).0
token_start Reserved bs cs c n first inside token = word_start c (word_in_front starts_identifier bs cs c n first inside token.0).0
token_start Sign bs cs c n first inside token = mark_start bs cs c n first (mark_front (take n bs) token)

none_blank : (kind : TokenKind) (c : ℕ) → start_of c ≡ Blank → start_of c ≢ start_of_kind kind
none_blank Var c e f = cc
none_blank Ident c e f = cc
none_blank Reserved c e f = cc
none_blank Sign c e f = cc

none_comment : (kind : TokenKind) (c : ℕ) → start_of c ≡ Comment → start_of c ≢ start_of_kind kind
none_comment Var c e f = cc
none_comment Ident c e f = cc
none_comment Reserved c e f = cc
none_comment Sign c e f = cc

-- a word is the longest token where one begins
longest_word : (bs cs : List ℕ) (c : ℕ) → Begins bs c cs → start_of c ≢ Other → NoneBeyond (word_at c bs) bs
longest_word bs cs c first other Var n more inside token = absurd (omega (arith, (word_in_front starts_variable bs cs c n first inside token).1))
longest_word bs cs c first other Ident n more inside token = absurd (omega (arith, (word_in_front starts_identifier bs cs c n first inside token.0).1))
longest_word bs cs c first other Reserved n more inside token = absurd (omega (arith, (word_in_front starts_identifier bs cs c n first inside token.0).1))
longest_word bs cs c first other Sign n more inside token = absurd (other (token_start Sign bs cs c n first inside token))

long_is_two : (bs : List ℕ) (n : ℕ) → n ≤ length bs → is_long_mark (take n bs) ≡ true → (n ≡ 2) × (mark_len bs ≡ 2)
long_is_two bs n inside e =
    let two : n ≡ 2 = sym (length-take-le n bs inside) ∙ (long_starts (take n bs) e).1 in
    let here : is_long_mark (take 2 bs) ≡ true = subst (λ k. is_long_mark (take k bs) ≡ true) two e in
    (two, ap (λ (b : Bool). if b then 2 else (if is_short_mark (take 1 bs) then 1 else 0)) here)

some_if : (b : Bool) (n : ℕ) → 0 < n → 0 < (if b then 2 else n)
some_if true n some = omega arith
some_if false n some = some

short_is_one : (bs : List ℕ) (n : ℕ) → n ≤ length bs → is_short_mark (take n bs) ≡ true → (n ≡ 1) × (0 < mark_len bs)
short_is_one bs n inside e =
    let one : n ≡ 1 = sym (length-take-le n bs inside) ∙ (short_starts (take n bs) e).1 in
    let here : is_short_mark (take 1 bs) ≡ true = subst (λ k. is_short_mark (take k bs) ≡ true) one e in
    (one, subst (λ (b : Bool). 0 < (if is_long_mark (take 2 bs) then 2 else (if b then 1 else 0))) (sym here) (some_if (is_long_mark (take 2 bs)) 1 (omega arith)))

-- a mark is the longest token where none of the other pieces begins
longest_mark : (bs cs : List ℕ) (c : ℕ) → Begins bs c cs → start_of c ≡ Other → NoneBeyond (mark_len bs) bs
longest_mark bs cs c first other Var n more inside token = let start = token_start Var bs cs c n first inside token in cc
longest_mark bs cs c first other Ident n more inside token = let start = token_start Ident bs cs c n first inside token in cc
longest_mark bs cs c first other Reserved n more inside token = let start = token_start Reserved bs cs c n first inside token in cc
longest_mark bs cs c first other Sign n more inside token =
    ⊎_elim (λ long. let two = long_is_two bs n inside long in absurd (omega arith)) (λ short. let one = short_is_one bs n inside short in absurd (omega arith)) (or_cases (is_long_mark (take n bs)) (is_short_mark (take n bs)) token)

ne_zero : (n : ℕ) → (n == 0) ≡ false → n ≢ 0
ne_zero n e = grind (arith, nat_tests)

eq_zero : (n : ℕ) → (n == 0) ≡ true → n ≡ 0
eq_zero n e = grind (arith, nat_tests)

kind_of_word : (w : List ℕ) (b : Bool) → is_reserved w ≡ b → IsWord starts_identifier w → IsToken (if b then Reserved else Ident) w
kind_of_word w true e word = (word, e)
kind_of_word w false e word = (word, e)

abbrev choice : Bool → Bool → Bool → Bool → Start
choice a b v x = if a then Blank else (if b then Comment else (if v then Variable else (if x then Word else Other)))

chosen_variable : (a b v x : Bool) → choice a b v x ≡ Variable → v ≡ true
chosen_variable true b v x e = absurd (cc)
chosen_variable false true v x e = absurd (cc)
chosen_variable false false true x e = refl
chosen_variable false false false true e = absurd (cc)
chosen_variable false false false false e = absurd (cc)

chosen_word : (a b v x : Bool) → choice a b v x ≡ Word → (v ≡ false) × (x ≡ true)
chosen_word true b v x e = absurd (cc)
chosen_word false true v x e = absurd (cc)
chosen_word false false true x e = absurd (cc)
chosen_word false false false true e = (refl, refl)
chosen_word false false false false e = absurd (cc)

neither : (a b : Bool) → (a || b) ≡ false → a ≡ false
neither true b e = absurd (cc)
neither false b e = refl

identifier_begins : (c : ℕ) → start_of c ≡ Word → starts_identifier c ≡ true
identifier_begins c e =
    let parts = chosen_word (is_blank c) (c == 37) (starts_variable c) (is_xid_start c) e in
    rw (parts.1, neither (is_upper c) (c == 95) parts.0) refl

abbrev pub mark_size : Bool → Bool → ℕ
mark_size a b = if a then 2 else (if b then 1 else 0)

-- the mark that is taken is one
mark_taken_at : (bs : List ℕ) (a b : Bool) → is_long_mark (take 2 bs) ≡ a → is_short_mark (take 1 bs) ≡ b → mark_size a b ≢ 0 → (mark_size a b ≤ length bs) × IsToken Sign (take (mark_size a b) bs)
mark_taken_at bs true b long short some = (omega (arith, (long_starts (take 2 bs) long).1, length-take 2 bs), rw long refl)
mark_taken_at bs false true long short some = (omega (arith, (short_starts (take 1 bs) short).1, length-take 1 bs), rw short (or-true (is_long_mark (take 1 bs))))
mark_taken_at bs false false long short some = absurd (some refl)

takes_mark : (bs : List ℕ) (b : Bool) → (mark_len bs == 0) ≡ b → NoneBeyond (mark_len bs) bs → TakesLongest bs (if b then None else Some (record { kind = Some Sign; len = mark_len bs }))
takes_mark bs true e longest = subst (λ n. NoneBeyond n bs) (eq_zero (mark_len bs) e) longest
takes_mark bs false e longest =
    let taken = mark_taken_at bs (is_long_mark (take 2 bs)) (is_short_mark (take 1 bs)) refl refl (ne_zero (mark_len bs) e) in
    record { inside = taken.0; token = taken.1; longest = longest }

takes_from : (s : Start) (bs cs : List ℕ) (c : ℕ) → Begins bs c cs → start_of c ≡ s → TakesLongest bs (piece_from s c bs)
takes_from Blank bs cs c first e = λ kind n more inside token. none_blank kind c e (token_start kind bs cs c n first inside token)
takes_from Comment bs cs c first e = λ kind n more inside token. none_comment kind c e (token_start kind bs cs c n first inside token)
takes_from Variable bs cs c first e =
    let word = word_taken starts_variable bs cs c first (chosen_variable (is_blank c) (c == 37) (starts_variable c) (is_xid_start c) e) in
    record { inside = word.0; token = word.1; longest = longest_word bs cs c first (λ f. cc) }
takes_from Word bs cs c first e =
    let word = word_taken starts_identifier bs cs c first (identifier_begins c e) in
    record { inside = word.0; token = kind_of_word (take (word_at c bs) bs) (is_reserved (take (word_at c bs) bs)) refl word.1; longest = longest_word bs cs c first (λ f. cc) }
takes_from Other bs cs c first e = takes_mark bs (mark_len bs == 0) refl (longest_mark bs cs c first e)

-- a text begins with what its first character says
pub piece_at-first : (bs cs : List ℕ) (c : ℕ) → Begins bs c cs → piece_at bs ≡ piece_from (start_of c) c bs
unfolding piece_at
piece_at-first [] cs c first = let none : [] ≡ c ∷ cs = sym chars-nil ∙ first.all in absurd (cc)
piece_at-first (b ∷ bs) cs c first =
    let head : get_or (chars (b ∷ bs)) 0 0 ≡ c = ap (λ (ds : List ℕ). get_or ds 0 0) first.all in
    ap (λ d. piece_from (start_of d) d (b ∷ bs)) head

pub takes_longest : (bs : List ℕ) → IsUtf8 bs → TakesLongest bs (piece_at bs)
unfolding piece_at
takes_longest [] text = λ kind n more inside token. absurd (omega arith)
takes_longest (b ∷ bs) text =
    let f = begins b bs text in
    rw (piece_at-first (b ∷ bs) f.1 f.0 f.2) (takes_from (start_of f.0) (b ∷ bs) f.1 f.0 f.2 refl)
