-- What the items so far declare.
use Rattle.std.specs.Prelude.{ℕ, List, [], Option, None, Some, map, position}
use Rattle.std.specs.Str.{bytes_eq}
use Rattle.std.specs.Option.{option_map}
use Rattle.ap_defs.specs.Types.{NominalType, NominalSignature, names, base}

-- the place of a word among words that are all different
abbrev pub place : List ℕ → List (List ℕ) → Option ℕ
place w ws = position (bytes_eq w) ws

-- The signature, and the words of its predicates in order.
pub record Declared : Type 0 where
  pub signature : NominalSignature
  pub predicates : List (List ℕ)

abbrev pub nothing_declared : Declared
nothing_declared = record {
  signature = record { name_types = []; data_types = []; constructors = []; predicates = [] };
  predicates = [];
}

-- A word that stands for a type is a name type or a data type.
abbrev pub or_else : {A : Type 0} → Option A → Option A → Option A
or_else (Some x) other = Some x
or_else None other = other

abbrev pub type_named : NominalSignature → List ℕ → Option NominalType
type_named s w = or_else (option_map names (place w s.name_types)) (option_map base (place w s.data_types))

abbrev pub constructor_words : NominalSignature → List (List ℕ)
constructor_words s = map (λ c. c.text) s.constructors

-- the place of a declared constructor; its number is two more
abbrev pub constructor_place : Declared → List ℕ → Option ℕ
constructor_place d w = place w (constructor_words d.signature)

abbrev pub predicate_place : Declared → List ℕ → Option ℕ
predicate_place d w = place w d.predicates
