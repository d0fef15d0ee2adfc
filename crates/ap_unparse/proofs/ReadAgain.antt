-- Goals, terms and types that are written as one item are read again.
use Rattle.std.proofs.Common.{◌≡◌, ℕ, false, List, [], ◌∷◌, ◌++◌, refl, sym, ap, ◌∙◌, subst, append_assoc, arith}
use Rattle.std.specs.Prelude.{codes, encode_utf8_all}
use Rattle.std.proofs.lemmas.Str.{IsUtf8-append}
use Rattle.unicode_ident.proofs.Computing.{unicode_ident}
use Rattle.ap_lexer.specs.declared.token.TokenKind.TheVariants.{Reserved, Sign}
use Rattle.ap_trees.specs.Symbols.{Sym, Ask, Close, Open, Equal, spelled}
use Rattle.ap_trees.specs.Types.{Ty}
use Rattle.ap_trees.specs.TypeGrammar.{IsType, sole}
use Rattle.ap_trees.specs.Terms.{Term, Unit as unit}
use Rattle.ap_trees.specs.Goals.{Goal, Equation}
use Rattle.ap_trees.specs.Items.{AQuery, APredicate}
use Rattle.ap_syntax.specs.ItemGrammar.{query, predicate}
use Rattle.ap_syntax.specs.Nesting.{is_too_deep, passes}
use Rattle.ap_unparse.specs.Written.{Written, token, space, dot, ident, round_open, round_close, symbols_of, bytes_of}
use Rattle.ap_unparse.specs.WrittenTypes.{written_type}
use Rattle.ap_unparse.specs.WrittenTerms.{written_term}
use Rattle.ap_unparse.specs.WrittenGoals.{written_goal}
use Rattle.ap_unparse.specs.declared.side.Side.TheVariants.{Alone}
use Rattle.ap_unparse.specs.Writable.{IsWritten, ReadsAsSymbols}
use Rattle.ap_unparse.specs.Worded.{IsIdentifier, IsWordedType, IsWordedTerm, IsWordedGoal}
use Rattle.ap_unparse.specs.Again.{ReadsAs, SpellsType, predicate_before}
use Rattle.ap_unparse.proofs.ByteLemmas.{bytes_of-append}
use Rattle.ap_unparse.proofs.TypeReadings as types
use Rattle.ap_unparse.proofs.TermReadings.{term_is_read}
use Rattle.ap_unparse.proofs.GoalReadings.{goal_is_read}
use Rattle.ap_unparse.proofs.Lexing.{ascii_text}
use Rattle.ap_unparse.proofs.WordedLemmas.{open_mark, dot_mark, ask_mark, behind_close, writes_type, type_is_lexed}
use Rattle.ap_unparse.proofs.WordedGoals.{goes, none_goes, writes_goal}
use Rattle.ap_unparse.proofs.KeptLevels.{equation_shallow}
use Rattle.ap_unparse.proofs.WholeItems.{one_item}

-- a symbol that adds no level
asked : (ts : List Sym) → is_too_deep (Ask ∷ ts) ≡ is_too_deep ts
unfolding passes
asked ts = refl

-- a goal as a query
goal_again : (g : Goal) → IsWordedGoal g → is_too_deep (symbols_of (written_goal g)) ≡ false → ReadsAs (codes "?- " ++ (bytes_of (written_goal g) ++ codes ".")) (AQuery g)
goal_again g w shallow =
    subst (λ bs. ReadsAs (codes "?- " ++ bs) (AQuery g)) (bytes_of-append (written_goal g) (dot ∷ []))
    (one_item Sign (codes "?-") (space ∷ written_goal g) (AQuery g) (ask_mark, tt, writes_goal Alone g w (dot ∷ []) (dot_mark, tt, tt) tt) (asked (symbols_of (written_goal g)) ∙ shallow) (query (goal_is_read g w)))

pub goal_read_again : (g : Goal) (bytes : List ℕ) → bytes ≡ bytes_of (written_goal g) → IsWordedGoal g → is_too_deep (symbols_of (written_goal g)) ≡ false → ReadsAs (codes "?- " ++ (bytes ++ codes ".")) (AQuery g)
goal_read_again g bytes e w shallow = subst (λ bs. ReadsAs (codes "?- " ++ (bs ++ codes ".")) (AQuery g)) (sym e) (goal_again g w shallow)

symbols_of-append : (vs ws : List Written) → symbols_of (vs ++ ws) ≡ symbols_of vs ++ symbols_of ws
symbols_of-append [] ws = refl
symbols_of-append (space ∷ vs) ws = symbols_of-append vs ws
symbols_of-append (token kind text ∷ vs) ws = ap (λ ts. spelled kind text ∷ ts) (symbols_of-append vs ws)

-- a term as the left side of an equation with the unit
pub term_read_again : (t : Term) (bytes : List ℕ) → bytes ≡ bytes_of (written_term t) → IsWordedTerm t → is_too_deep (symbols_of (written_term t)) ≡ false
    → ReadsAs (codes "?- " ++ (bytes ++ codes " = ().")) (AQuery (Equation t unit))
term_read_again t bytes e w shallow =
    let g = Equation t unit in
    let behind : bytes_of (written_goal g) ≡ bytes ++ codes " = ()" = bytes_of-append (written_term t) _ ∙ ap (λ bs. bs ++ codes " = ()") (sym e) in
    let seen : symbols_of (written_goal g) ≡ symbols_of (written_term t) ++ Equal ∷ Open ∷ Close ∷ [] = symbols_of-append (written_term t) _ in
    let deep = ap is_too_deep seen ∙ equation_shallow (term_is_read t) shallow in
    subst (λ bs. ReadsAs (codes "?- " ++ bs) (AQuery g)) (ap (λ bs. bs ++ codes ".") behind ∙ append_assoc bytes (codes " = ()") (codes ".")) (goal_again g (w, tt) deep)

pred_text : codes "pred" ≡ encode_utf8_all (112 ∷ codes "red")
unfolding lib.Utf8.encode
pred_text = refl

pred_written : IsWritten Reserved (codes "pred")
unfolding unicode_ident
pred_written = (
  ((112, codes "red", sym pred_text, refl, goes 114 (codes "ed") refl (goes 101 (codes "d") refl (goes 100 [] refl none_goes))), refl),
  IsUtf8-append (112 ∷ []) (codes "red") (ascii_text 112 (omega arith)) (IsUtf8-append (114 ∷ []) (codes "ed") (ascii_text 114 (omega arith)) (IsUtf8-append (101 ∷ []) (codes "d") (ascii_text 101 (omega arith)) (ascii_text 100 (omega arith)))),
)

-- a type as the argument of a predicate
type_again : (t : Ty) (v : List ℕ) → IsIdentifier v → IsWordedType t → is_too_deep (symbols_of (predicate_before v (written_type t))) ≡ false
    → ReadsAs (bytes_of (predicate_before v (written_type t) ++ dot ∷ [])) (APredicate v (t ∷ []))
type_again t v named w shallow =
    one_item Reserved (codes "pred") (space ∷ ident v ∷ round_open ∷ (written_type t ++ round_close ∷ [])) (APredicate v (t ∷ []))
    (pred_written, tt, (named, tt, (open_mark, tt, behind_close (written_type t) (writes_type false t w) (dot ∷ []) (dot_mark, tt, tt) tt)))
    shallow (predicate (sole ((types.spells t).alone (round_close ∷ []))))

pub type_read_again : (t : Ty) (bytes : List ℕ) → bytes ≡ bytes_of (written_type t) → (v : List ℕ) → IsIdentifier v → IsWordedType t → is_too_deep (symbols_of (predicate_before v (written_type t))) ≡ false
    → ReadsAs (codes "pred " ++ (v ++ (codes "(" ++ (bytes ++ codes ").")))) (APredicate v (t ∷ []))
type_read_again t bytes e v named w shallow =
    let inner : bytes_of ((written_type t ++ round_close ∷ []) ++ dot ∷ []) ≡ bytes ++ codes ")." =
    ap bytes_of (append_assoc (written_type t) (round_close ∷ []) (dot ∷ [])) ∙ bytes_of-append (written_type t) (round_close ∷ dot ∷ []) ∙ ap (λ bs. bs ++ codes ").") (sym e)
    in
    subst (λ bs. ReadsAs (codes "pred " ++ (v ++ (codes "(" ++ bs))) (APredicate v (t ∷ []))) inner (type_again t v named w shallow)

-- a type by itself
type_lexed : (t : Ty) (bytes : List ℕ) → ReadsAsSymbols bytes (symbols_of (written_type t)) → SpellsType bytes t
type_lexed t bytes r = record { tokens = r.tokens; all = r.all; whole = subst (λ ts. IsType ts t []) (sym r.same) (types.type_is_read t) }

pub type_spelled : (t : Ty) (bytes : List ℕ) → bytes ≡ bytes_of (written_type t) → IsWordedType t → SpellsType bytes t
type_spelled t bytes e w = subst (λ bs. SpellsType bs t) (sym e) (type_lexed t (bytes_of (written_type t)) (type_is_lexed t w))
