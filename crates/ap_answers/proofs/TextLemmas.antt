-- The text of a term, by the form of the term.
use Rattle.std.proofs.Common.{◌≡◌, ◌==◌, true, true≢false, ℕ, zero, suc, ◌-◌, ◌≤◌, ◌<◌, ◌≢◌, get_or, List, [], ◌∷◌, ◌++◌, map, length, refl, sym, ap, ◌∙◌, append_assoc, arith}
use Rattle.std.specs.Prelude.{Option, Some, None, slice_get, codes, replicate, reverse}
use Rattle.std.specs.Option.{option_map}
use Rattle.std.proofs.lemmas.Bool.Decides.{nat_tests}
use Rattle.std.proofs.lemmas.Option.{slice_get_past, slice_get-get_or}
use Rattle.std.proofs.lemmas.List.{append-nil, reverse-append, nil_from_length}
use Rattle.ap_defs.specs.declared.terms.Name.{Name}
use Rattle.ap_defs.specs.declared.terms.Swap.{Swap}
use Rattle.ap_defs.specs.declared.goals.Constructor.{Constructor}
use Rattle.ap_defs.specs.declared.terms.Ty.{Ty}
use Rattle.ap_defs.specs.Permutations.{left_name, right_name}
use Rattle.ap_defs.specs.Types.{NominalConstructor, constructor_of, type_of}
use Rattle.ap_defs.specs.Terms.{NominalTerm, pair, app, abs}
use Rattle.ap_defs.specs.Unification.{size}
use Rattle.ap_defs.specs.Printing.{Spelling, TermContext, whole, part, rest, cell, arguments, barred, constructor_in, constructor_text, argument_count, application_text, swaps_text, term_at}
use Rattle.ap_answers.specs.Places.{pair_opening, pair_closing, between, part_after, arguments_opening, arguments_closing, arguments_place, declared_opening, declared_closing, declared_place, opening, closing, argument_place}
use Rattle.ap_answers.specs.Swappings.{heads_text}
use Rattle.ap_answers.specs.Writing.{closed_text}

at_place : (cs : List Constructor) (f : ℕ) → option_map constructor_of (slice_get cs f) ≡ constructor_in (map constructor_of cs) (suc (suc f))
at_place [] f = refl
at_place (c ∷ cs) zero = refl
at_place (c ∷ cs) (suc f) = at_place cs f

-- What stands round the argument of a declared constructor, which may be missing.
pub record Declares (cs : List NominalConstructor) (f : ℕ) (c : Option NominalConstructor) (place : TermContext) : Type 0 where
  pub before : opening cs f place ≡ declared_opening c place
  pub behind : closing cs f place ≡ declared_closing c
  pub at : argument_place cs f ≡ declared_place c

declares : (cs : List Constructor) (f : ℕ) (place : TermContext) → f ≢ 0 → f ≢ 1 → Declares (map constructor_of cs) f (option_map constructor_of (slice_get cs (f - 2))) place
declares cs zero place h k = absurd (h refl)
declares cs (suc zero) place h k = absurd (k refl)
declares cs (suc (suc f)) place h k =
    let e : suc (suc f) - 2 ≡ f = omega arith in
    rw (e, at_place cs f) (record { before = refl; behind = refl; at = refl })

pub declares_none : (cs : List Constructor) (f : ℕ) (place : TermContext) → f ≢ 0 → f ≢ 1 → length cs ≤ f - 2 → Declares (map constructor_of cs) f None place
declares_none cs f place h k past = rw (slice_get_past cs (f - 2) past) at (declares cs f place h k)

pub declares_some : (cs : List Constructor) (f : ℕ) (c : Constructor) (place : TermContext) → f ≢ 0 → f ≢ 1 → f - 2 < length cs → c ≡ get_or cs (f - 2) c
    → Declares (map constructor_of cs) f (Some (constructor_of c)) place
declares_some cs f c place h k within is =
    let got : slice_get cs (f - 2) ≡ Some c = slice_get-get_or cs (f - 2) c within ∙ ap Some (sym is) in
    rw got at (declares cs f place h k)

parentheses_end : (n : ℕ) → replicate n 41 ++ codes ")" ≡ codes ")" ++ replicate n 41
parentheses_end zero = refl
parentheses_end (suc n) = ap (λ bs. codes ")" ++ bs) (parentheses_end n)

-- a text inside swappings
swappings_round : (names : Name → List ℕ) (p : List Swap) (text : List ℕ) → heads_text names p ++ (text ++ replicate (length p) 41) ≡ swaps_text names p text
swappings_round names [] text = append-nil text
swappings_round names (s ∷ p) text =
    let closed : heads_text names p ++ (text ++ (codes ")" ++ replicate (length p) 41)) ≡ swaps_text names p text ++ codes ")" =
    rw (← swappings_round names p text) (simp append_assoc (ap (λ bs. heads_text names p ++ (text ++ bs)) (sym (parentheses_end (length p)))))
    in
    simp append_assoc (ap (λ (bs : List ℕ). codes "swap(" ++ (names (left_name s) ++ (codes "," ++ (names (right_name s) ++ (codes "," ++ bs))))) closed)

pub swappings_written : (names : Name → List ℕ) (p : List Swap) (text o o1 o2 o3 : List ℕ) (n : ℕ) → o1 ≡ o ++ heads_text names p → o2 ≡ o1 ++ text → o3 ≡ o2 ++ replicate n 41 → n ≡ length p → o3 ≡ o ++ swaps_text names p text
swappings_written names p text o o1 o2 o3 n a b d e = rw (d, b, a, e) (simp append_assoc (ap (λ bs. o ++ bs) (swappings_round names p text)))

pair_parts : (by : Spelling) (t u : NominalTerm) (place : TermContext)
    → term_at by (pair t u) place ≡ pair_opening place ++ (term_at by t whole ++ (between place ++ (term_at by u (part_after place) ++ pair_closing place)))
pair_parts by t u whole = simp append_assoc
pair_parts by t u part = simp (append_assoc, append-nil)
pair_parts by t u rest = simp append_assoc
pair_parts by t u cell = simp append-nil
pair_parts by t u (arguments zero) = simp append_assoc
pair_parts by t u (arguments (suc zero)) = simp append_assoc
pair_parts by t u (arguments (suc (suc n))) = simp (append_assoc, append-nil)

pair_closing_turned : (place : TermContext) → reverse (pair_closing place) ≡ pair_closing place
pair_closing_turned whole = refl
pair_closing_turned part = refl
pair_closing_turned rest = refl
pair_closing_turned cell = refl
pair_closing_turned (arguments zero) = refl
pair_closing_turned (arguments (suc zero)) = refl
pair_closing_turned (arguments (suc (suc n))) = refl

pub pair_goes_on : (by : Spelling) (w t u : NominalTerm) (place : TermContext) (o o1 o2 o3 k k1 : List ℕ) → w ≡ pair t u
    → o1 ≡ o ++ pair_opening place → k1 ≡ k ++ pair_closing place → o2 ≡ o1 ++ term_at by t whole → o3 ≡ o2 ++ between place
    → closed_text by o3 u (part_after place) k1 ≡ closed_text by o w place k
pair_goes_on by w t u place o o1 o2 o3 k k1 e a b d f =
    rw (f, d, a, b, e, pair_parts by t u place, reverse-append k (pair_closing place), pair_closing_turned place) (simp append_assoc)

abbrev pub option_text : Spelling → NominalTerm → Option TermContext → List ℕ
option_text by t None = []
option_text by t (Some place) = term_at by t place

barred_front : (place : TermContext) (text : List ℕ) → barred place text ≡ barred place [] ++ text
barred_front whole text = refl
barred_front part text = refl
barred_front rest text = refl
barred_front cell text = refl
barred_front (arguments n) text = refl

declared_parts : (by : Spelling) (t : NominalTerm) (text : List ℕ) (n : ℕ) (place : TermContext)
    → barred place (application_text n text (term_at by t (arguments n))) ≡ (barred place [] ++ (text ++ arguments_opening n)) ++ (option_text by t (arguments_place n) ++ arguments_closing n)
declared_parts by t text zero place = rw barred_front (simp append-nil)
declared_parts by t text (suc n) place = rw barred_front (simp append_assoc)

app_parts : (by : Spelling) (f : ℕ) (t : NominalTerm) (place : TermContext)
    → term_at by (app f t) place ≡ opening by.constructors f place ++ (option_text by t (argument_place by.constructors f) ++ closing by.constructors f place)
app_parts by zero t place = sym (append-nil (term_at by (app zero t) place))
app_parts by (suc zero) t whole = simp append_assoc
app_parts by (suc zero) t part = simp append_assoc
app_parts by (suc zero) t rest = simp append-nil
app_parts by (suc zero) t cell = simp append_assoc
app_parts by (suc zero) t (arguments n) = simp append_assoc
app_parts by (suc (suc f)) t place =
    let c = constructor_in by.constructors (suc (suc f)) in declared_parts by t (constructor_text c) (argument_count c) place

arguments_closing_turned : (n : ℕ) → reverse (arguments_closing n) ≡ arguments_closing n
arguments_closing_turned zero = refl
arguments_closing_turned (suc n) = refl

closing_turned : (cs : List NominalConstructor) (f : ℕ) (place : TermContext) → reverse (closing cs f place) ≡ closing cs f place
closing_turned cs zero place = refl
closing_turned cs (suc zero) whole = refl
closing_turned cs (suc zero) part = refl
closing_turned cs (suc zero) rest = refl
closing_turned cs (suc zero) cell = refl
closing_turned cs (suc zero) (arguments n) = refl
closing_turned cs (suc (suc f)) place = arguments_closing_turned (argument_count (constructor_in cs (suc (suc f))))

pub app_goes_on : (by : Spelling) (w : NominalTerm) (f : ℕ) (t : NominalTerm) (place : TermContext) (next : TermContext) (o o1 k k1 : List ℕ) → w ≡ app f t
    → o1 ≡ o ++ opening by.constructors f place → k1 ≡ k ++ closing by.constructors f place → Some next ≡ argument_place by.constructors f
    → closed_text by o1 t next k1 ≡ closed_text by o w place k
app_goes_on by w f t place next o o1 k k1 e a b d =
    rw (a, b, e, app_parts by f t place, reverse-append k (closing by.constructors f place), closing_turned by.constructors f place, ← d) (simp append_assoc)

pub app_ends : (by : Spelling) (w : NominalTerm) (f : ℕ) (t : NominalTerm) (place : TermContext) (o o1 o2 k k1 : List ℕ) → w ≡ app f t
    → o1 ≡ o ++ opening by.constructors f place → k1 ≡ k ++ closing by.constructors f place → None ≡ argument_place by.constructors f
    → o1 ++ reverse k1 ≡ closed_text by o w place k
app_ends by w f t place o o1 o2 k k1 e a b d =
    rw (a, b, e, app_parts by f t place, reverse-append k (closing by.constructors f place), closing_turned by.constructors f place, ← d) (simp append_assoc)

pub abs_goes_on : (by : Spelling) (w : NominalTerm) (a : Name) (t : NominalTerm) (place : TermContext) (o o1 k : List ℕ) → w ≡ abs a t
    → o1 ≡ o ++ barred place (by.names a ++ codes "\\") → closed_text by o1 t whole k ≡ closed_text by o w place k
abs_goes_on by w a t place o o1 k e h =
    rw (h, e, barred_front place (by.names a ++ codes "\\"), barred_front place (by.names a ++ codes "\\" ++ term_at by t whole)) (simp append_assoc)

-- what stands behind a bar, where one is due
pub behind_bar : (place : TermContext) (text o o1 o2 : List ℕ) → o1 ≡ o ++ barred place [] → o2 ≡ o1 ++ text → o2 ≡ o ++ barred place text
behind_bar place text o o1 o2 a b = rw (b, a, barred_front place text) (simp append_assoc)

pub ends : (by : Spelling) (t : NominalTerm) (place : TermContext) (o o1 k all : List ℕ) → closed_text by o t place k ≡ all → o1 ≡ o ++ term_at by t place → o1 ++ reverse k ≡ all
ends by t place o o1 k all e h = rw h (append_assoc o (term_at by t place) (reverse k) ∙ e)

pub size_left : (w t u : NominalTerm) (n : ℕ) → w ≡ pair t u → size w ≤ n → size t < n
size_left w t u n e h = let h' : size (pair t u) ≤ n = rw e at h in omega arith

pub size_right : (w t u : NominalTerm) (n : ℕ) → w ≡ pair t u → size w ≤ n → size u ≤ n
size_right w t u n e h = let h' : size (pair t u) ≤ n = rw e at h in omega arith

pub size_argument : (w : NominalTerm) (f : ℕ) (t : NominalTerm) (n : ℕ) → w ≡ app f t → size w ≤ n → size t ≤ n
size_argument w f t n e h = let h' : size (app f t) ≤ n = rw e at h in omega arith

pub size_body : (w : NominalTerm) (a : Name) (t : NominalTerm) (n : ℕ) → w ≡ abs a t → size w ≤ n → size t ≤ n
size_body w a t n e h = let h' : size (abs a t) ≤ n = rw e at h in omega arith

-- a head that is written, and its tail behind it, are the parts of a cell
pub head_passed : (by : Spelling) (w t u : NominalTerm) (o o1 k : List ℕ) → w ≡ pair t u → o1 ≡ o ++ term_at by t whole → closed_text by o1 u rest k ≡ closed_text by o w cell k
head_passed by w t u o o1 k e h = rw (h, e) (simp append_assoc)

-- a constructor whose argument is not written
pub constant_written : (by : Spelling) (f : ℕ) (t : NominalTerm) (o o1 o2 k1 : List ℕ) → o1 ≡ o ++ opening by.constructors f whole → k1 ≡ [] ++ closing by.constructors f whole
    → argument_place by.constructors f ≡ None → o2 ≡ o1 ++ reverse k1 → o2 ≡ o ++ term_at by (app f t) whole
constant_written by f t o o1 o2 k1 a b d e =
    e ∙ app_ends by (app f t) f t whole o o1 o2 [] k1 refl a b (sym d) ∙ ap (λ bs. o ++ bs) (append-nil (term_at by (app f t) whole))

-- where the argument of a constructor stands that has none, or isn't declared
pub nil_place : (cs : List NominalConstructor) (f : ℕ) → f < 2 → (f == 0) ≡ true → argument_place cs f ≡ None
nil_place cs zero l e = refl
nil_place cs (suc zero) l e = absurd (true≢false (sym e))
nil_place cs (suc (suc f)) l e = absurd (omega (arith, l))

pub past_place : (cs : List Constructor) (f : ℕ) → f ≢ 0 → f ≢ 1 → length cs ≤ f - 2 → argument_place (map constructor_of cs) f ≡ None
past_place cs f h k past = (declares_none cs f whole h k past).at

nothing : (n : ℕ) → (n == 0) ≡ true → n ≡ 0
nothing n e = grind (arith, nat_tests)

pub bare_place : (c : Constructor) (ts : List Ty) → ts ≡ c.args → (length ts == 0) ≡ true → declared_place (Some (constructor_of c)) ≡ None
bare_place c ts e h = ap (λ (us : List Ty). arguments_place (length (map type_of us))) (sym e ∙ nil_from_length ts (nothing (length ts) h))
