-- A text that is written of one item is read as this item.
use Rattle.std.proofs.Common.{◌≡◌, ℕ, suc, ◌+◌, ◌≤◌, true, false, List, [], ◌∷◌, ◌++◌, map, length, take, drop, Some, None, Ok, refl, sym, ap, ◌∙◌, subst, arith, length-append}
use Rattle.std.specs.Prelude.{codes, cond, not, nat_lt}
use Rattle.std.specs.List.{position_or_len}
use Rattle.std.specs.Str.{bytes_eq}
use Rattle.std.proofs.lemmas.Bool.Decides.{nat_tests}
use Rattle.ap_lexer.specs.declared.token.TokenKind.{TokenKind}
use Rattle.ap_lexer.specs.declared.token.TokenKind.TheVariants.{Sign}
use Rattle.ap_lexer.specs.Tokens.{Lexeme, Scan, is_dot, lexeme_at, lexemes_of, scan_from}
use Rattle.ap_lexer.proofs.Scans.{scan_step}
use Rattle.ap_trees.specs.Symbols.{syms_of}
use Rattle.ap_trees.specs.Items.{Saying, ItemOf}
use Rattle.ap_syntax.specs.ItemGrammar.{IsItem}
use Rattle.ap_syntax.specs.Nesting.{is_too_deep}
use Rattle.ap_syntax.specs.Reading as items
use Rattle.ap_syntax.specs.Reading.{first_dot, an_item, all_read, goes_on}
use Rattle.ap_unparse.specs.Written.{Written, token, space, dot, symbols_of, bytes_of}
use Rattle.ap_unparse.specs.Writable.{Writes}
use Rattle.ap_unparse.specs.Again.{ReadsAs}
use Rattle.ap_unparse.proofs.Lexing.{Spelling, spelling, spellings, symbol_of, symbols-spellings, lexes, piece_there, token_long}
use Rattle.ap_unparse.proofs.NoDots.{NoDot, no_dots, item_dots}

-- The `.` stands behind so many tokens, and nothing behind it.
record EndsAt (ts : List Lexeme) (ss : List Spelling) : Type 0 where
  place : position_or_len is_dot ts ≡ length ss
  long : length ts ≡ suc (length ss)
  front : syms_of (take (length ss) ts) ≡ map symbol_of ss
  rest : drop (suc (length ss)) ts ≡ []

ends_at : (ts : List Lexeme) (ss : List Spelling) → map spelling ts ≡ ss ++ (Sign, codes ".") ∷ [] → NoDot ss → EndsAt ts ss
ends_at [] [] e h = let e' : ◌≡◌ {A = List Spelling} [] ((Sign, codes ".") ∷ []) = e in absurd (cc e')
ends_at [] (s ∷ ss) e h = let e' : ◌≡◌ {A = List Spelling} [] (s ∷ (ss ++ (Sign, codes ".") ∷ [])) = e in absurd (cc e')
ends_at (t ∷ []) [] e h =
    let e' : ◌≡◌ {A = List Spelling} ((t.kind, t.text) ∷ []) ((Sign, codes ".") ∷ []) = e in
    let first : ◌≡◌ {A = Spelling} (t.kind, t.text) (Sign, codes ".") = cc e' in
    let text : t.text ≡ codes "." = ap (λ (s : Spelling). s.1) first in
    let place : cond {A = ℕ} (not (bytes_eq t.text (codes "."))) (1 + 0) 0 ≡ cond {A = ℕ} (not (bytes_eq (codes ".") (codes "."))) (1 + 0) 0 = ap (λ (bs : List ℕ). cond {A = ℕ} (not (bytes_eq bs (codes "."))) (1 + 0) 0) text in
    record { place = place; long = refl; front = refl; rest = refl }
ends_at (t ∷ u ∷ ts) [] e h =
    let e' : ◌≡◌ {A = List Spelling} ((t.kind, t.text) ∷ (u.kind, u.text) ∷ map spelling ts) ((Sign, codes ".") ∷ []) = e in
    absurd (cc e')
ends_at (t ∷ ts) (s ∷ ss) e h =
    let e' : ◌≡◌ {A = List Spelling} ((t.kind, t.text) ∷ map spelling ts) (s ∷ (ss ++ (Sign, codes ".") ∷ [])) = e in
    let first : ◌≡◌ {A = Spelling} (t.kind, t.text) s = cc e' in
    let others : map spelling ts ≡ ss ++ (Sign, codes ".") ∷ [] = cc e' in
    let rest = ends_at ts ss others h.1 in
    let none : is_dot t ≡ false = ap (λ (x : Spelling). bytes_eq x.1 (codes ".")) first ∙ h.0 in
    let more : 1 + position_or_len is_dot ts ≡ suc (length ss) = rw rest.place (omega arith) in
    record {
      place = ap (λ b. cond (not b) (1 + position_or_len is_dot ts) 0) none ∙ more;
      long = ap suc rest.long;
      front = ap (λ us. symbol_of (t.kind, t.text) ∷ us) rest.front ∙ ap (λ (x : Spelling). symbol_of x ∷ map symbol_of ss) first;
      rest = rest.rest;
    }

-- one item, of tokens
read_one : (t : Lexeme) (ts : List Lexeme) (ss : List Spelling) (form : Saying) → EndsAt (t ∷ ts) ss → t.line ≡ 1 → is_too_deep (map symbol_of ss) ≡ false → IsItem (map symbol_of ss) form
    → items.Reads 1 (t ∷ ts) (Ok (record { line = 1; form = form } ∷ []))
read_one t ts ss form ends line shallow h =
    let inside : nat_lt (length ss) (suc (length ss)) ≡ true = grind (arith, nat_tests) in
    let there : first_dot (t ∷ ts) ≡ Some (length ss) =
    ap (λ n. cond (nat_lt n (length (t ∷ ts))) (Some n) None) ends.place ∙ ap (λ n. cond (nat_lt (length ss) n) (Some (length ss)) None) ends.long ∙ ap (λ b. cond b (Some (length ss)) None) inside
    in
    let past : drop (length ss + 1) (t ∷ ts) ≡ [] = (let e : length ss + 1 ≡ suc (length ss) = omega arith in ap (λ n. drop n (t ∷ ts)) e ∙ ends.rest) in
    let x : ItemOf = record { line = t.line; form = form } in
    let first : items.First 1 t ts (Ok (x, drop (length ss + 1) (t ∷ ts))) =
    an_item (length ss) form there (ap is_too_deep ends.front ∙ shallow) (subst (λ us. IsItem us form) (sym ends.front) h)
    in
    let end : items.Reads (1 + 1) (drop (length ss + 1) (t ∷ ts)) (Ok []) = subst (λ us. items.Reads (1 + 1) us (Ok [])) (sym past) all_read in
    let whole : items.Reads 1 (t ∷ ts) (Ok (record { line = t.line; form = form } ∷ [])) = goes_on x (drop (length ss + 1) (t ∷ ts)) (Ok []) first end in
    subst (λ n. items.Reads 1 (t ∷ ts) (Ok (record { line = n; form = form } ∷ []))) line whole

-- the first token stands at the beginning
first_token : (kind : TokenKind) (text : List ℕ) (ws : List Written) → Writes (token kind text ∷ ws)
    → (us : List Lexeme) × (lexemes_of (text ++ bytes_of ws) ≡ lexeme_at (text ++ bytes_of ws) (record { kind = kind; start = 0; len = length text }) ∷ us)
first_token kind text ws h =
    let bs = text ++ bytes_of ws in
    let fits : length text ≤ length bs = rw (length-append text (bytes_of ws)) (omega arith) in
    let step = scan_step 0 bs (record { kind = Some kind; len = length text }) (piece_there kind text ws h) (token_long kind text h.0) fits in
    (map (lexeme_at bs) (scan_from (0 + length text) 0 (drop (length text) bs)).spans, ap (λ (s : Scan). map (lexeme_at bs) s.spans) step)

spellings-append : (vs ws : List Written) → spellings (vs ++ ws) ≡ spellings vs ++ spellings ws
spellings-append [] ws = refl
spellings-append (space ∷ vs) ws = spellings-append vs ws
spellings-append (token kind text ∷ vs) ws = ap (λ (ss : List Spelling). (kind, text) ∷ ss) (spellings-append vs ws)

-- the tokens of what is written, where the first one is on the first line
whole : (bs : List ℕ) (ts : List Lexeme) (vs : List Written) (form : Saying) (t : Lexeme) (us : List Lexeme) → ts ≡ t ∷ us → t.line ≡ 1 → map spelling ts ≡ spellings vs ++ (Sign, codes ".") ∷ [] → NoDot (spellings vs)
    → is_too_deep (symbols_of vs) ≡ false → IsItem (symbols_of vs) form → items.Reads 1 ts (Ok (record { line = 1; form = form } ∷ []))
whole bs ts vs form t us cut line spelt none shallow h =
    let seen = symbols-spellings vs in
    subst (λ xs. items.Reads 1 xs (Ok (record { line = 1; form = form } ∷ []))) (sym cut)
    (read_one t us (spellings vs) form (ends_at (t ∷ us) (spellings vs) (ap (map spelling) (sym cut) ∙ spelt) none) line (ap is_too_deep seen ∙ shallow) (subst (λ xs. IsItem xs form) (sym seen) h))

-- What is written of an item, and then its `.`.
pub one_item : (kind : TokenKind) (text : List ℕ) (ws : List Written) (form : Saying) → Writes (token kind text ∷ (ws ++ dot ∷ [])) → is_too_deep (symbols_of (token kind text ∷ ws)) ≡ false
    → IsItem (symbols_of (token kind text ∷ ws)) form → ReadsAs (bytes_of (token kind text ∷ (ws ++ dot ∷ []))) form
one_item kind text ws form w shallow h =
    let vs = token kind text ∷ ws in
    let bs = bytes_of (vs ++ dot ∷ []) in
    let found = lexes (vs ++ dot ∷ []) w in
    let first = first_token kind text (ws ++ dot ∷ []) w in
    record {
      tokens = lexemes_of bs;
      all = found.all;
      item = whole bs (lexemes_of bs) vs form (lexeme_at bs (record { kind = kind; start = 0; len = length text })) first.0 first.1 refl (found.tokens ∙ spellings-append vs (dot ∷ [])) (no_dots vs (dot ∷ []) w (item_dots h)) shallow h;
    }
