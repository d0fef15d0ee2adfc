-- With more data types no fewer types are inhabited, and no fewer may hold a sort.
use Rattle.std.proofs.Common.{◌≡◌, ◌↔◌, ◌∙◌, ℕ, Bool, true, IsTrue, List, [], ◌∷◌, map, sym, subst}
use Rattle.ap_defs.specs.Types.{NominalType, NominalConstructor, constructor_of, unit, names, base, pair, list, abs}
use Rattle.ap_defs.specs.declared.goals.Constructor.{Constructor}
use Rattle.ap_types.specs.declared.rounds.Question.{Question}
use Rattle.ap_types.specs.declared.rounds.Question.TheVariants as questions
use Rattle.ap_types.specs.Rounds.{Within, IsLeastSet, reached, marked}
use Rattle.ap_types.specs.Inhabited.{inhabited_if, all_inhabited, IsInhabited}
use Rattle.ap_types.specs.Holding.{holds_if, some_holds, MayHold}
use Rattle.ap_types.specs.Questions.{test_of}
use Rattle.ap_types.proofs.BooleanLemmas.{or_grows, and_grows}
use Rattle.ap_types.proofs.RoundLemmas.{Grows}
use Rattle.ap_types.proofs.RuleLemmas.{stands_least}
use Rattle.ap_types.specs.Rules.{RulesStand}
use Rattle.ap_types.specs.declared.least.Rule.{Rule}
use Rattle.std.specs.Global.{Vec}

pub inhabited_grows : (p q : ℕ → Bool) → Within p q → (t : NominalType) → inhabited_if p t ≡ true → inhabited_if q t ≡ true
inhabited_grows p q h unit e = e
inhabited_grows p q h (names s) e = e
inhabited_grows p q h (base d) e = h d e
inhabited_grows p q h (pair t u) e = and_grows (inhabited_if p t) (inhabited_if p u) (inhabited_if q t) (inhabited_if q u) (inhabited_grows p q h t) (inhabited_grows p q h u) e
inhabited_grows p q h (list t) e = e
inhabited_grows p q h (abs s t) e = inhabited_grows p q h t e

pub all_inhabited_grows : Grows all_inhabited
all_inhabited_grows p q h [] e = e
all_inhabited_grows p q h (t ∷ ts) e =
    and_grows (inhabited_if p t) (all_inhabited p ts) (inhabited_if q t) (all_inhabited q ts) (inhabited_grows p q h t) (all_inhabited_grows p q h ts) e

pub holds_grows : (sort : ℕ) (p q : ℕ → Bool) → Within p q → (t : NominalType) → holds_if sort p t ≡ true → holds_if sort q t ≡ true
holds_grows sort p q h unit e = e
holds_grows sort p q h (names s) e = e
holds_grows sort p q h (base d) e = h d e
holds_grows sort p q h (pair t u) e = or_grows (holds_if sort p t) (holds_if sort p u) (holds_if sort q t) (holds_if sort q u) (holds_grows sort p q h t) (holds_grows sort p q h u) e
holds_grows sort p q h (list t) e = holds_grows sort p q h t e
holds_grows sort p q h (abs s t) e = holds_grows sort p q h t e

pub some_holds_grows : (sort : ℕ) → Grows (some_holds sort)
some_holds_grows sort p q h [] e = e
some_holds_grows sort p q h (t ∷ ts) e =
    or_grows (holds_if sort p t) (some_holds sort p ts) (holds_if sort q t) (some_holds sort q ts) (holds_grows sort p q h t) (some_holds_grows sort p q h ts) e

pub test_grows : (question : Question) → Grows (test_of question)
test_grows questions.Inhabited = all_inhabited_grows
test_grows (questions.Holds sort) = some_holds_grows sort

-- By the least set of data types a type is answered as in some round.
pub inhabited_least : (cs : List NominalConstructor) (p : ℕ → Bool) → IsLeastSet all_inhabited cs p → (t : NominalType) → (inhabited_if p t ≡ true) ↔ IsInhabited cs t
inhabited_least cs p h t = (
  (λ e. (h.sound.0, inhabited_grows p (reached all_inhabited cs h.sound.0) h.sound.1 t e)),
  (λ e. inhabited_grows (reached all_inhabited cs e.0) p (h.whole e.0) t e.1),
)

pub holds_least : (cs : List NominalConstructor) (sort : ℕ) (p : ℕ → Bool) → IsLeastSet (some_holds sort) cs p → (t : NominalType) → (holds_if sort p t ≡ true) ↔ MayHold cs t sort
holds_least cs sort p h t = (
  (λ e. (h.sound.0, holds_grows sort p (reached (some_holds sort) cs h.sound.0) h.sound.1 t e)),
  (λ e. holds_grows sort (reached (some_holds sort) cs e.0) p (h.whole e.0) t e.1),
)

-- The answers of the program, which reads a signature's constructors and a table as slices.
pub inhabited_answer : (cs ds : List Constructor) (table slice : List Bool) (t : NominalType) (b : Bool)
    → ds ≡ cs → slice ≡ table → IsLeastSet all_inhabited (map constructor_of ds) (marked table) → b ≡ inhabited_if (marked slice) t → IsTrue b ↔ IsInhabited (map constructor_of cs) t
inhabited_answer cs ds table slice t b same as_slice h e =
    let k = inhabited_least (map constructor_of ds) (marked table) h t in
    let f : b ≡ inhabited_if (marked table) t = subst (λ (s : List Bool). b ≡ inhabited_if (marked s) t) as_slice e in
    subst (λ (xs : List Constructor). IsTrue b ↔ IsInhabited (map constructor_of xs) t) same
    ((λ i. k.0 (sym f ∙ i)), (λ i. f ∙ k.1 i))

pub holds_answer : (cs ds : List Constructor) (table slice : List Bool) (t : NominalType) (sort : ℕ) (b : Bool)
    → ds ≡ cs → slice ≡ table → IsLeastSet (some_holds sort) (map constructor_of ds) (marked table) → b ≡ holds_if sort (marked slice) t → IsTrue b ↔ MayHold (map constructor_of cs) t sort
holds_answer cs ds table slice t sort b same as_slice h e =
    let k = holds_least (map constructor_of ds) sort (marked table) h t in
    let f : b ≡ holds_if sort (marked table) t = subst (λ (s : List Bool). b ≡ holds_if sort (marked s) t) as_slice e in
    subst (λ (xs : List Constructor). IsTrue b ↔ MayHold (map constructor_of xs) t sort) same
    ((λ i. k.0 (sym f ∙ i)), (λ i. f ∙ k.1 i))

pub inhabited_so_far : (cs : List NominalConstructor) (table slice : List Bool) (ws : List (Vec Rule)) (t : NominalType) (b : Bool)
    → slice ≡ table → RulesStand all_inhabited cs [] table ws → b ≡ inhabited_if (marked slice) t → IsTrue b ↔ IsInhabited cs t
inhabited_so_far cs table slice ws t b as_slice h e =
    let k = inhabited_least cs (marked table) (stands_least all_inhabited all_inhabited_grows cs table ws h) t in
    let f : b ≡ inhabited_if (marked table) t = subst (λ (s : List Bool). b ≡ inhabited_if (marked s) t) as_slice e in
    ((λ i. k.0 (sym f ∙ i)), (λ i. f ∙ k.1 i))
