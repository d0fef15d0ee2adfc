-- What clap has of settings that were read, as rows.
use Rattle.std.proofs.Common.{◌≡◌, ◌∙◌, ◌≤◌, ◌+◌, ◌++◌, ◌||◌, ◌&&◌, not, refl, sym, ap, arith, ℕ, Bool, true, false, true≢false, cond, subst, List, [], ◌∷◌, Some, None, map, append-nil}
use Rattle.std.specs.Prelude.{count_by, find, fold}
use Rattle.std.specs.List.{list_all}
use Rattle.std.specs.Str.{bytes_eq}
use Rattle.clap.specs.Walk.{Row, Rule, Text, arg_by_id, arg_by_long, at_row, has_row, more_values, reading_by, used, with_default}
use Rattle.clap.specs.Simple.{filled}
use Rattle.clap.specs.Takes.{default_passes, is_given}
use Rattle.clap.specs.declared.parser.matches.ValueSource.TheVariants.{CommandLine}
use Rattle.ap_words.specs.declared.table.OptionName.{OptionName}
use Rattle.ap_words.specs.Program.{argument_of}
use Rattle.ap_words.specs.Table.{option_name, is_required}
use Rattle.ap_words.proofs.Lists.{count_first, find_image, or_false}

-- an option with the text of its value
abbrev pub Given : Type 0
Given = OptionName × List ℕ

-- an argument as clap builds it
abbrev pub built_argument : OptionName → Rule
built_argument o = filled (argument_of o)

abbrev pub row_for : Given → Row
row_for d = record { id = option_name d.0; values = d.1 ∷ []; count = None; source = Some CommandLine; reading = reading_by (built_argument d.0) }

abbrev pub names : OptionName → OptionName → Bool
names o q = bytes_eq (option_name q) (option_name o)

abbrev pub seen : OptionName → List Given → ℕ
seen o ds = count_by (λ d. names o d.0) ds

-- the option is the first of its name
abbrev pub IsKnown : List OptionName → OptionName → Type 0
IsKnown options o = find (names o) options ≡ Some o

pub by_long : (options : List OptionName) (o : OptionName) → IsKnown options o → arg_by_long (map built_argument options) (option_name o) ≡ Some (built_argument o)
by_long options o known = find_image _ (names o) built_argument (λ q. or_false (names o q)) options ∙ rw known refl

pub by_id : (options : List OptionName) (o : OptionName) → IsKnown options o → arg_by_id (map built_argument options) (option_name o) ≡ Some (built_argument o)
by_id options o known = find_image _ (names o) built_argument (λ q. refl) options ∙ rw known refl

-- no row is the option's
pub no_row : (o : OptionName) (ds : List Given) → seen o ds ≡ 0 → has_row (option_name o) (map row_for ds) ≡ false
no_row o [] e = refl
no_row o (d ∷ ds) e = go (names o d.0) (sym (count_first (λ (q : Given). names o q.0) d ds) ∙ e) (no_row o ds)
  where
    go : (b : Bool) → cond b 1 0 + seen o ds ≡ 0 → (seen o ds ≡ 0 → has_row (option_name o) (map row_for ds) ≡ false) → (b || has_row (option_name o) (map row_for ds)) ≡ false
    go true k later = absurd (omega arith)
    go false k later = later (omega arith)

at_no_row : (id : Text) (change : Row → List Row) (missing rows : List Row) → has_row id rows ≡ false → at_row id change missing rows ≡ rows ++ missing
at_no_row id change missing [] e = refl
at_no_row id change missing (r ∷ rs) e = go (bytes_eq r.id id) e (at_no_row id change missing rs)
  where
    go : (b : Bool) → (b || has_row id rs) ≡ false → (has_row id rs ≡ false → at_row id change missing rs ≡ rs ++ missing) → cond b (change r ++ rs) (r ∷ at_row id change missing rs) ≡ r ∷ (rs ++ missing)
    go true k later = absurd (true≢false k)
    go false k later = ap (λ xs. r ∷ xs) (later k)

-- the use of an option that has no row adds one
pub used_once : (o : OptionName) (text : Text) (rows : List Row) → has_row (option_name o) rows ≡ false → used (built_argument o) (text ∷ []) rows ≡ rows ++ row_for (o, text) ∷ []
used_once o text rows none =
    let bare : at_row (option_name o) (λ _. []) [] rows ≡ rows = at_no_row (option_name o) (λ _. []) [] rows none ∙ append-nil rows in
    rw bare (at_no_row (option_name o) (more_values CommandLine (text ∷ [])) (row_for (o, text) ∷ []) rows none)

-- a row of the option is one that was given
pub row_given : (o : OptionName) (ds : List Given) → 1 ≤ seen o ds → is_given (option_name o) (map row_for ds) ≡ true
row_given o [] e = absurd (omega arith)
row_given o (d ∷ ds) e = go (names o d.0) refl (subst (λ n. 1 ≤ n) (count_first (λ (q : Given). names o q.0) d ds) e) (row_given o ds)
  where
    go : (b : Bool) → names o d.0 ≡ b → 1 ≤ cond b 1 0 + seen o ds → (1 ≤ seen o ds → is_given (option_name o) (map row_for ds) ≡ true) → is_given (option_name o) (row_for d ∷ map row_for ds) ≡ true
    go true is k later = rw is refl
    go false is k later = rw is (later (omega arith))

-- no option has a default
pub no_defaults : (options : List OptionName) → list_all default_passes (map built_argument options) ≡ true
no_defaults [] = refl
no_defaults (o ∷ os) = no_defaults os

pub defaults_stay : (options : List OptionName) (rows : List Row) → fold with_default rows (map built_argument options) ≡ rows
defaults_stay [] rows = refl
defaults_stay (o ∷ os) rows = go (has_row (option_name o) rows) (defaults_stay os rows)
  where
    go : (b : Bool) → fold with_default rows (map built_argument os) ≡ rows → fold with_default (cond b rows rows) (map built_argument os) ≡ rows
    go true later = later
    go false later = later

pub each_free : (options : List OptionName) → list_all (λ a. a.is_free) (map built_argument options) ≡ true
each_free [] = refl
each_free (o ∷ os) = each_free os

-- the required options are given
pub required_given : (options : List OptionName) (ds : List Given) → list_all (λ o. not (is_required o) || is_given (option_name o) (map row_for ds)) options ≡ true
    → list_all (λ a. not a.required || is_given a.id (map row_for ds)) (map built_argument options) ≡ true
required_given [] ds e = refl
required_given (o ∷ os) ds e = go (not (is_required o) || is_given (option_name o) (map row_for ds)) e (required_given os ds)
  where
    go : (b : Bool) → (b && list_all (λ q. not (is_required q) || is_given (option_name q) (map row_for ds)) os) ≡ true
        → (list_all (λ q. not (is_required q) || is_given (option_name q) (map row_for ds)) os ≡ true → list_all (λ a. not a.required || is_given a.id (map row_for ds)) (map built_argument os) ≡ true)
        → (b && list_all (λ a. not a.required || is_given a.id (map row_for ds)) (map built_argument os)) ≡ true
    go true k later = later k
    go false k later = absurd (true≢false (sym k))
