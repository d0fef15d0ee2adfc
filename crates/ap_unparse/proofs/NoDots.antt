-- What is in the grammar has no `.`, so the `.` behind it ends the item.
use Rattle.std.proofs.Common.{◌≡◌, ℕ, zero, suc, ◌+◌, Bool, true, false, List, [], ◌∷◌, ◌++◌, length, Option, Some, refl, sym, ap, ◌∙◌, subst}
use Rattle.std.specs.Prelude.{codes}
use Rattle.std.specs.Str.{bytes_eq}
use Rattle.std.proofs.lemmas.Slice.Eq.{bytes_eq-Decides}
use Rattle.ap_lexer.specs.declared.token.TokenKind.{TokenKind}
use Rattle.ap_lexer.specs.declared.token.TokenKind.TheVariants.{Var, Ident, Reserved, Sign}
use Rattle.ap_lexer.specs.declared.pieces.Piece.{Piece}
use Rattle.ap_lexer.specs.Pieces.{piece_at}
use Rattle.ap_trees.specs.Symbols as syms
use Rattle.ap_trees.specs.Symbols.{Sym, Dot, mark_sym, reserved_sym}
use Rattle.ap_trees.specs.Types.{Ty}
use Rattle.ap_trees.specs.Terms.{Name, Term}
use Rattle.ap_trees.specs.TypeGrammar.{IsType, AreTypes, abs, word, unit, group, array, sole, several}
use Rattle.ap_trees.specs.TermGrammar.{IsId, an_ident, a_var, IsTerm, under, a_word, applied, a_variable, the_unit, grouped, the_nil, listed, swapping, IsEnd, no_bar, behind_bar, AreTerms, only_one, and_more}
use Rattle.ap_trees.specs.Goals.{Goal}
use Rattle.ap_trees.specs.Items.{Saying}
use Rattle.ap_syntax.specs.GoalGrammar.{IsAtom, bare, with_arguments, IsGoal, disjunction, AreConjs, last_conj, next_conj, IsConj, conjunction, AreSimples, last_simple, next_simple, IsSimple, new_name, some_variable, in_parentheses, equation, freshness, an_atom}
use Rattle.ap_syntax.specs.ItemGrammar.{AreTypeArguments, some_type, unit_type, type_list, IsItem, name_type, data_type, constant, constructor, proposition, predicate, fact, rule, query}
use Rattle.ap_unparse.specs.Written.{Written, token, space, symbols_of, bytes_of}
use Rattle.ap_unparse.specs.Writable.{Writes}
use Rattle.ap_unparse.proofs.Lexing.{Spelling, spellings, piece_there, bytes_text}
use Rattle.ap_unparse.proofs.WordedLemmas.{dot_mark}

-- how many `.` there are
abbrev pub dots : List Sym → ℕ
dots [] = zero
dots (Dot ∷ ts) = suc (dots ts)
dots (t ∷ ts) = dots ts

id_dots : {ts rest : List Sym} {name : Name} → IsId ts name rest → dots ts ≡ dots rest
id_dots an_ident = refl
id_dots a_var = refl

mutual
  type_dots : {ts rest : List Sym} {t : Ty} → IsType ts t rest → dots ts ≡ dots rest
  type_dots (abs h) = type_dots h
  type_dots word = refl
  type_dots unit = refl
  type_dots (group parts h) = types_dots h
  type_dots (array h) = type_dots h

  types_dots : {ts rest : List Sym} {all : List Ty} → AreTypes ts all rest → dots ts ≡ dots rest
  types_dots (sole h) = type_dots h
  types_dots (several h more) = type_dots h ∙ types_dots more

mutual
  term_dots : {ts rest : List Sym} {t : Term} → IsTerm ts t rest → dots ts ≡ dots rest
  term_dots (under name h) = id_dots name ∙ term_dots h
  term_dots a_word = refl
  term_dots (applied parts h) = terms_dots h
  term_dots a_variable = refl
  term_dots the_unit = refl
  term_dots (grouped parts h) = terms_dots h
  term_dots the_nil = refl
  term_dots (listed parts end h e) = terms_dots h ∙ end_dots e
  term_dots (swapping left right h) = id_dots left ∙ id_dots right ∙ term_dots h

  end_dots : {ts rest : List Sym} {t : Term} → IsEnd ts t rest → dots ts ≡ dots rest
  end_dots no_bar = refl
  end_dots (behind_bar h) = term_dots h

  terms_dots : {ts rest : List Sym} {all : List Term} → AreTerms ts all rest → dots ts ≡ dots rest
  terms_dots (only_one h) = term_dots h
  terms_dots (and_more h more) = term_dots h ∙ terms_dots more

atom_dots : {ts rest : List Sym} {w : List ℕ} {args : List Term} → IsAtom ts w args rest → dots ts ≡ dots rest
atom_dots bare = refl
atom_dots (with_arguments h) = terms_dots h

mutual
  goal_dots : {ts rest : List Sym} {g : Goal} → IsGoal ts g rest → dots ts ≡ dots rest
  goal_dots (disjunction first others h) = conjs_dots h

  conjs_dots : {ts rest : List Sym} {all : List Goal} → AreConjs ts all rest → dots ts ≡ dots rest
  conjs_dots (last_conj h) = conj_dots h
  conjs_dots (next_conj h more) = conj_dots h ∙ conjs_dots more

  conj_dots : {ts rest : List Sym} {g : Goal} → IsConj ts g rest → dots ts ≡ dots rest
  conj_dots (conjunction first others h) = simples_dots h

  simples_dots : {ts rest : List Sym} {all : List Goal} → AreSimples ts all rest → dots ts ≡ dots rest
  simples_dots (last_simple h) = simple_dots h
  simples_dots (next_simple h more) = simple_dots h ∙ simples_dots more

  simple_dots : {ts rest : List Sym} {g : Goal} → IsSimple ts g rest → dots ts ≡ dots rest
  simple_dots (new_name h) = goal_dots h
  simple_dots (some_variable named h) = goal_dots h
  simple_dots (in_parentheses begins h) = goal_dots h
  simple_dots (equation begins h k) = term_dots h ∙ term_dots k
  simple_dots (freshness begins h k) = term_dots h ∙ term_dots k
  simple_dots (an_atom h) = atom_dots h

arguments_dots : {ts rest : List Sym} {args : List Ty} → AreTypeArguments ts args rest → dots ts ≡ dots rest
arguments_dots (some_type begins h) = type_dots h
arguments_dots unit_type = refl
arguments_dots (type_list h) = types_dots h

pub item_dots : {ts : List Sym} {form : Saying} → IsItem ts form → dots ts ≡ 0
item_dots name_type = refl
item_dots data_type = refl
item_dots constant = refl
item_dots (constructor h) = arguments_dots h
item_dots proposition = refl
item_dots (predicate h) = types_dots h
item_dots (fact h) = atom_dots h
item_dots (rule h g) = atom_dots h ∙ goal_dots g
item_dots (query g) = goal_dots g

-- no token is spelled `.`
abbrev pub NoDot : List Spelling → Type 0
NoDot [] = Unit {0}
NoDot (s ∷ ss) = (bytes_eq s.1 (codes ".") ≡ false) × NoDot ss

-- a word isn't spelled `.`, since a mark begins there
word_by : (kind : TokenKind) (text : List ℕ) (ws : List Written) → Writes (token kind text ∷ ws) → (kind ≡ Sign → ⊥) → (b : Bool) → bytes_eq text (codes ".") ≡ b → b ≡ false
word_by kind text ws h other false e = refl
word_by kind text ws h other true e =
    let same : text ≡ codes "." = (bytes_eq-Decides text (codes ".")).0 e in
    let mark = dot_mark.taken (bytes_of ws) (bytes_text ws h.2) in
    let here = subst (λ bs. piece_at (bs ++ bytes_of ws) ≡ Some (record { kind = Some kind; len = length bs })) same (piece_there kind text ws h) in
    let both : ◌≡◌ {A = Option Piece} (Some (record { kind = Some kind; len = 1 })) (Some (record { kind = Some Sign; len = 1 })) = sym here ∙ mark in
    let pieces : ◌≡◌ {A = Piece} (record { kind = Some kind; len = 1 }) (record { kind = Some Sign; len = 1 }) = cc both in
    let kinds : ◌≡◌ {A = Option TokenKind} (Some kind) (Some Sign) = ap (λ (p : Piece). p.kind) pieces in
    absurd (other (cc kinds))

-- behind any symbol
tail_dots : (s : Sym) (ts : List Sym) → dots (s ∷ ts) ≡ 0 → dots ts ≡ 0
tail_dots (syms.Var w) ts e = e
tail_dots (syms.Ident w) ts e = e
tail_dots syms.NameType ts e = e
tail_dots syms.DataType ts e = e
tail_dots syms.Pred ts e = e
tail_dots syms.New ts e = e
tail_dots syms.Exists ts e = e
tail_dots syms.Swap ts e = e
tail_dots syms.Comma ts e = e
tail_dots syms.Semicolon ts e = e
tail_dots syms.Colon ts e = e
tail_dots syms.If ts e = e
tail_dots syms.Ask ts e = e
tail_dots syms.Arrow ts e = e
tail_dots syms.Open ts e = e
tail_dots syms.Close ts e = e
tail_dots syms.OpenList ts e = e
tail_dots syms.CloseList ts e = e
tail_dots syms.Bar ts e = e
tail_dots syms.Lambda ts e = e
tail_dots syms.Fresh ts e = e
tail_dots syms.Equal ts e = e
tail_dots syms.Other ts e = e
tail_dots syms.Dot ts e = absurd (cc e)

-- a mark that the grammar doesn't see as `.` isn't spelled so
mark_by : (text : List ℕ) (ts : List Sym) (b : Bool) → bytes_eq text (codes ".") ≡ b → dots (mark_sym text ∷ ts) ≡ 0 → (b ≡ false) × (dots ts ≡ 0)
mark_by text ts false e h = (refl, tail_dots (mark_sym text) ts h)
mark_by text ts true e h =
    let same : text ≡ codes "." = (bytes_eq-Decides text (codes ".")).0 e in
    let dot : suc (dots ts) ≡ 0 = ap (λ bs. dots (mark_sym bs ∷ ts)) (sym same) ∙ h in
    absurd (cc dot)

pub no_dots : (vs ws : List Written) → Writes (vs ++ ws) → dots (symbols_of vs) ≡ 0 → NoDot (spellings vs)
no_dots [] ws h none = tt
no_dots (space ∷ vs) ws h none = no_dots vs ws h none
no_dots (token Sign text ∷ vs) ws h none =
    let here = mark_by text (symbols_of vs) (bytes_eq text (codes ".")) refl none in
    (here.0, no_dots vs ws h.2 here.1)
no_dots (token Var text ∷ vs) ws h none = (word_by Var text (vs ++ ws) h (λ e. cc e) (bytes_eq text (codes ".")) refl, no_dots vs ws h.2 none)
no_dots (token Ident text ∷ vs) ws h none = (word_by Ident text (vs ++ ws) h (λ e. cc e) (bytes_eq text (codes ".")) refl, no_dots vs ws h.2 none)
no_dots (token Reserved text ∷ vs) ws h none =
    (word_by Reserved text (vs ++ ws) h (λ e. cc e) (bytes_eq text (codes ".")) refl, no_dots vs ws h.2 (tail_dots (reserved_sym text) (symbols_of vs) none))
