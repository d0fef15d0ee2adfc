-- What is written of worded goals may be written.
use Rattle.std.proofs.Common.{◌≡◌, ℕ, true, List, [], ◌∷◌, ◌++◌, refl, sym, subst, append_assoc, append-nil, arith}
use Rattle.std.specs.Prelude.{codes, encode_utf8_all}
use Rattle.std.specs.List.{AllPass}
use Rattle.std.proofs.lemmas.Str.{IsUtf8-append}
use Rattle.std.proofs.lemmas.List.Elements.{All-cons}
use Rattle.unicode_ident.specs.Ident.{is_xid_continue}
use Rattle.unicode_ident.proofs.Computing.{unicode_ident}
use Rattle.ap_lexer.specs.declared.token.TokenKind.TheVariants.{Reserved, Sign}
use Rattle.ap_trees.specs.Terms.{Term}
use Rattle.ap_trees.specs.Goals.{Goal, Atom, Equation, Freshness, Both, Either, Some_variable, New_name}
use Rattle.ap_unparse.specs.declared.context.Context.TheVariants.{Whole}
use Rattle.ap_unparse.specs.declared.side.Side.{Side}
use Rattle.ap_unparse.specs.declared.side.Side.TheVariants.{Alone, OnLeft, BehindComma}
use Rattle.ap_unparse.specs.Written.{Written, token, comma, semicolon, space, round_open, round_close, bytes_of, symbols_of}
use Rattle.ap_unparse.specs.WrittenTerms.{written_term}
use Rattle.ap_unparse.specs.WrittenGoals.{further_terms, arguments_of, both_at, either_at, written_goal_at, written_goal}
use Rattle.ap_unparse.specs.Writable.{IsMark, IsWritten, StartsApart, Writes, ReadsAsSymbols}
use Rattle.ap_unparse.specs.Worded.{EachWorded, IsWordedGoal}
use Rattle.ap_unparse.proofs.Lexing.{ascii_text, written_is_lexed}
use Rattle.ap_unparse.proofs.WordedLemmas.{Joins, mark, comma_mark, open_mark, behind_close, tuple_inside, writes_term}

semicolon_mark : IsMark (codes ";")
unfolding unicode_ident
semicolon_mark = mark 59 refl (λ rest. refl) (omega arith) refl

fresh_mark : IsMark (codes "#")
unfolding unicode_ident
fresh_mark = mark 35 refl (λ rest. refl) (omega arith) refl

equal_mark : IsMark (codes "=")
unfolding unicode_ident
equal_mark = mark 61 refl (λ rest. refl) (omega arith) refl

pub goes : (c : ℕ) (cs : List ℕ) → is_xid_continue c ≡ true → AllPass is_xid_continue cs → AllPass is_xid_continue (c ∷ cs)
goes c cs e h = All-cons (λ x. is_xid_continue x ≡ true) c cs e h

pub none_goes : AllPass is_xid_continue []
none_goes = λ k d l. absurd (omega arith)

new_text : codes "new" ≡ encode_utf8_all (110 ∷ codes "ew")
unfolding lib.Utf8.encode
new_text = refl

exists_text : codes "exists" ≡ encode_utf8_all (101 ∷ codes "xists")
unfolding lib.Utf8.encode
exists_text = refl

new_written : IsWritten Reserved (codes "new")
unfolding unicode_ident
new_written = (
  ((110, codes "ew", sym new_text, refl, goes 101 (codes "w") refl (goes 119 [] refl none_goes)), refl),
  IsUtf8-append (110 ∷ []) (codes "ew") (ascii_text 110 (omega arith)) (IsUtf8-append (101 ∷ []) (codes "w") (ascii_text 101 (omega arith)) (ascii_text 119 (omega arith))),
)

exists_written : IsWritten Reserved (codes "exists")
unfolding unicode_ident
exists_written = (
  ((101, codes "xists", sym exists_text, refl, goes 120 (codes "ists") refl (goes 105 (codes "sts") refl (goes 115 (codes "ts") refl (goes 116 (codes "s") refl (goes 115 [] refl none_goes))))), refl),
  IsUtf8-append (101 ∷ []) (codes "xists") (ascii_text 101 (omega arith)) (IsUtf8-append (120 ∷ []) (codes "ists") (ascii_text 120 (omega arith)) (IsUtf8-append (105 ∷ []) (codes "sts") (ascii_text 105 (omega arith))
      (IsUtf8-append (115 ∷ []) (codes "ts") (ascii_text 115 (omega arith)) (IsUtf8-append (116 ∷ []) (codes "s") (ascii_text 116 (omega arith)) (ascii_text 115 (omega arith)))))),
)

further_apart : (ts : List Term) (ws : List Written) → StartsApart ws → StartsApart (further_terms ts ++ ws)
further_apart [] ws a = a
further_apart (t ∷ ts) ws a = tt

further_joins : (ts : List Term) → EachWorded ts → Joins (further_terms ts)
further_joins [] w ws h a = h
further_joins (t ∷ ts) w ws h a =
    (comma_mark, tt, subst Writes (sym (append_assoc (written_term t) (further_terms ts) ws)) (writes_term Whole t w.0 (further_terms ts ++ ws) (further_joins ts w.1 ws h a) (further_apart ts ws a)))

atom_joins : (ts : List Term) → EachWorded ts → Joins (arguments_of ts)
atom_joins [] w ws h a = h
atom_joins (t ∷ ts) w ws h a =
    let inside : Joins (written_term t ++ further_terms ts) = λ vs k b. subst Writes (sym (append_assoc (written_term t) (further_terms ts) vs)) (writes_term Whole t w.0 (further_terms ts ++ vs) (further_joins ts w.1 vs k b) (further_apart ts vs b)) in
    (open_mark, tt, subst (λ vs. Writes (vs ++ ws)) (append_assoc (written_term t) (further_terms ts) (round_close ∷ [])) (behind_close (written_term t ++ further_terms ts) inside ws h a))

atom_apart : (ts : List Term) (ws : List Written) → StartsApart ws → StartsApart (arguments_of ts ++ ws)
atom_apart [] ws a = a
atom_apart (t ∷ ts) ws a = tt

related : (ts us : List Written) (sign : List ℕ) → IsMark sign → Joins ts → Joins us → Joins (ts ++ space ∷ token Sign sign ∷ space ∷ us)
related ts us sign m first second ws h a =
    subst Writes (sym (append_assoc ts (space ∷ token Sign sign ∷ space ∷ us) ws)) (first (space ∷ token Sign sign ∷ space ∷ (us ++ ws)) (m, tt, second ws h a) tt)

grouped : (ts : List Written) → Joins ts → Joins (round_open ∷ (ts ++ round_close ∷ []))
grouped ts j ws h a = (open_mark, tt, behind_close ts j ws h a)

side_both : (side : Side) (ts : List Written) → Joins ts → Joins (both_at side ts)
side_both Alone ts j ws h a = j ws h a
side_both OnLeft ts j ws h a = grouped ts j ws h a
side_both BehindComma ts j ws h a = j ws h a

side_either : (side : Side) (ts : List Written) → Joins ts → Joins (either_at side ts)
side_either Alone ts j ws h a = j ws h a
side_either OnLeft ts j ws h a = grouped ts j ws h a
side_either BehindComma ts j ws h a = grouped ts j ws h a

pub writes_goal : (side : Side) (g : Goal) → IsWordedGoal g → Joins (written_goal_at side g)
writes_goal side (Atom v ts) w ws h a = (w.0, atom_apart ts ws a, atom_joins ts w.1 ws h a)
writes_goal side (Equation t u) w ws h a = related (written_term t) (written_term u) (codes "=") equal_mark (writes_term Whole t w.0) (writes_term Whole u w.1) ws h a
writes_goal side (Freshness t u) w ws h a = related (written_term t) (written_term u) (codes "#") fresh_mark (writes_term Whole t w.0) (writes_term Whole u w.1) ws h a
writes_goal side (Both g k) w ws h a =
    side_both side (written_goal_at OnLeft g ++ comma ∷ space ∷ written_goal_at BehindComma k) (tuple_inside (written_goal_at OnLeft g) (written_goal_at BehindComma k) (writes_goal OnLeft g w.0) (writes_goal BehindComma k w.1)) ws h a
writes_goal side (Either g k) w ws h a =
    side_either side (written_goal_at OnLeft g ++ space ∷ semicolon ∷ space ∷ written_goal_at Alone k) (related (written_goal_at OnLeft g) (written_goal_at Alone k) (codes ";") semicolon_mark (writes_goal OnLeft g w.0) (writes_goal Alone k w.1)) ws h a
writes_goal side (Some_variable v g) w ws h a = (exists_written, tt, (w.0, tt, grouped (written_goal_at Alone g) (writes_goal Alone g w.2) ws h a))
writes_goal side (New_name v g) w ws h a = (new_written, tt, (w.0, tt, grouped (written_goal_at Alone g) (writes_goal Alone g w.1) ws h a))

-- a worded goal is read again
pub goal_is_lexed : (g : Goal) → IsWordedGoal g → ReadsAsSymbols (bytes_of (written_goal g)) (symbols_of (written_goal g))
goal_is_lexed g w = written_is_lexed (written_goal g) (subst Writes (append-nil (written_goal g)) (writes_goal Alone g w [] tt tt))
