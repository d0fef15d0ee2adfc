-- A type that is written is in the grammar.
use Rattle.std.proofs.Common.{◌≡◌, true, false, List, [], ◌∷◌, ◌++◌, refl, sym, ap, ◌∙◌, subst, append_assoc, append-nil}
use Rattle.ap_trees.specs.Types.{Ty, Unit, Word, Pair, Array, Abs, tuple_type}
use Rattle.ap_trees.specs.TypeGrammar.{IsType, AreTypes, abs, word, unit, group, array, sole, several}
use Rattle.ap_unparse.specs.Written.{Written, comma, space, round_open, round_close, square_open, square_close, symbols_of}
use Rattle.ap_unparse.specs.WrittenTypes.{type_at, written_type}

-- the parts of a tuple
abbrev pub parts_of : Ty → List Ty
parts_of (Pair t u) = t ∷ parts_of u
parts_of t = t ∷ []

tuple_more : (t u : Ty) → tuple_type (t ∷ parts_of u) ≡ Pair t (tuple_type (parts_of u))
tuple_more t Unit = refl
tuple_more t (Word w) = refl
tuple_more t (Pair a b) = refl
tuple_more t (Array a) = refl
tuple_more t (Abs w a) = refl

tuple-parts_of : (t : Ty) → tuple_type (parts_of t) ≡ t
tuple-parts_of Unit = refl
tuple-parts_of (Word w) = refl
tuple-parts_of (Pair t u) = tuple_more t u ∙ ap (λ v. Pair t v) (tuple-parts_of u)
tuple-parts_of (Array t) = refl
tuple-parts_of (Abs w t) = refl

-- Before anything that is written next it is a spelling of the type, alone and as the end of a tuple.
pub record Spells (t : Ty) : Type 0 where
  pub alone : (ws : List Written) → IsType (symbols_of (type_at false t ++ ws)) t (symbols_of ws)
  pub inner : (ws : List Written) → AreTypes (symbols_of (type_at true t ++ ws)) (parts_of t) (symbols_of ws)

pair_inner : (t u : Ty) → Spells t → Spells u → (ws : List Written) → AreTypes (symbols_of (type_at true (Pair t u) ++ ws)) (t ∷ parts_of u) (symbols_of ws)
pair_inner t u first second ws =
    let same : type_at true (Pair t u) ++ ws ≡ type_at false t ++ comma ∷ space ∷ (type_at true u ++ ws) = append_assoc (type_at false t) (comma ∷ space ∷ type_at true u) ws in
    subst (λ vs. AreTypes (symbols_of vs) (t ∷ parts_of u) (symbols_of ws)) (sym same) (several (first.alone (comma ∷ space ∷ (type_at true u ++ ws))) (second.inner ws))

pair_alone : (t u : Ty) → Spells t → Spells u → (ws : List Written) → IsType (symbols_of (type_at false (Pair t u) ++ ws)) (Pair t u) (symbols_of ws)
pair_alone t u first second ws =
    let inside = type_at true (Pair t u) in
    let same : (inside ++ round_close ∷ []) ++ ws ≡ inside ++ round_close ∷ ws = append_assoc inside (round_close ∷ []) ws in
    let whole = group (t ∷ parts_of u) (pair_inner t u first second (round_close ∷ ws)) in
    subst (λ v. IsType (symbols_of (type_at false (Pair t u) ++ ws)) v (symbols_of ws)) (tuple_more t u ∙ ap (λ v. Pair t v) (tuple-parts_of u))
    (subst (λ vs. IsType (symbols_of (round_open ∷ vs)) (tuple_type (t ∷ parts_of u)) (symbols_of ws)) (sym same) whole)

array_alone : (t : Ty) → Spells t → (ws : List Written) → IsType (symbols_of (type_at false (Array t) ++ ws)) (Array t) (symbols_of ws)
array_alone t inner ws =
    let same : (type_at false t ++ square_close ∷ []) ++ ws ≡ type_at false t ++ square_close ∷ ws = append_assoc (type_at false t) (square_close ∷ []) ws in
    subst (λ vs. IsType (symbols_of (square_open ∷ vs)) (Array t) (symbols_of ws)) (sym same) (array (inner.alone (square_close ∷ ws)))

pub spells : (t : Ty) → Spells t
spells Unit = record { alone = λ ws. unit; inner = λ ws. sole unit }
spells (Word w) = record { alone = λ ws. word; inner = λ ws. sole word }
spells (Pair t u) = record { alone = pair_alone t u (spells t) (spells u); inner = pair_inner t u (spells t) (spells u) }
spells (Array t) = record { alone = array_alone t (spells t); inner = λ ws. sole (array_alone t (spells t) ws) }
spells (Abs w t) = record { alone = λ ws. abs ((spells t).alone ws); inner = λ ws. sole (abs ((spells t).alone ws)) }

pub type_is_read : (t : Ty) → IsType (symbols_of (written_type t)) t []
type_is_read t = subst (λ vs. IsType (symbols_of vs) t []) (append-nil (written_type t)) ((spells t).alone [])
