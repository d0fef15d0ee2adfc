-- What clap's walk makes of one setting.
use Rattle.std.proofs.Common.{◌≡◌, ◌∙◌, ◌++◌, refl, sym, ap, true, false, List, [], ◌∷◌, Option, Some, None, map}
use Rattle.std.proofs.lemmas.List.{map-append}
use Rattle.std.specs.Prelude.{option_map}
use Rattle.clap.specs.Walk.{Held, Row, Text, Walk, idle, option, settled, walked}
use Rattle.clap.specs.Simple.{Shape, new_shape}
use Rattle.clap.specs.Takes.{settle_passes, turn_passes}
use Rattle.ap_words.specs.declared.table.OptionName.{OptionName}
use Rattle.ap_words.specs.Table.{option_name}
use Rattle.ap_words.proofs.Plain.{IsPlainWord, alone_no_dashes, joined_no_dashes, joined_word, long_alone, long_joined, name_same, option_word}
use Rattle.ap_words.proofs.Rows.{Given, IsKnown, built_argument, by_id, by_long, no_row, row_for, seen, used_once}

-- a subcommand with these options, as clap builds it
abbrev pub leaf : Text → List OptionName → Shape
leaf name options = record (new_shape name) {
  rules = map built_argument options;
  no_binary_name = true;
  disable_help_flag = true;
  disable_help_subcommand = true;
  is_built = true;
}

-- what is held after these settings, of which the last may wait to be used
abbrev pub held_at : List Given → Option Given → Held
held_at ds p = record { rows = map row_for ds; pending = option_map (λ d. (option_name d.0, d.1 ∷ [])) p; skip = 0 }

-- the walk after these settings
abbrev pub walk_at : List Given → Option Given → Walk
walk_at ds p = record { held = held_at ds p; waiting = idle; position = 1; is_trailing = false; stopped = None }

-- the walk after the name of an option
abbrev pub walk_in : List Given → OptionName → Walk
walk_in ds o = record {
  held = record { rows = map row_for ds; pending = Some (option_name o, []); skip = 0 };
  waiting = option (option_name o);
  position = 1;
  is_trailing = false;
  stopped = None;
}

abbrev pub given_in : List Given → Option Given → List Given
given_in ds None = ds
given_in ds (Some d) = ds ++ d ∷ []

-- what waits is of an option of the command, which was not set before
abbrev pub IsFine : List OptionName → List Given → Option Given → Type 0
IsFine options ds None = Unit {0}
IsFine options ds (Some d) = IsKnown options d.0 × (seen d.0 ds ≡ 0)

pub settled_at : (options : List OptionName) (ds : List Given) (p : Option Given) → IsFine options ds p → (settled (map built_argument options) (held_at ds p)).rows ≡ map row_for (given_in ds p)
settled_at options ds None fine = refl
settled_at options ds (Some d) fine = rw (by_id options d.0 fine.0) (used_once d.0 d.1 (map row_for ds) (no_row d.0 ds fine.1) ∙ sym (map-append row_for ds (d ∷ [])))

pub settle_at : (options : List OptionName) (ds : List Given) (p : Option Given) → IsFine options ds p → settle_passes (map built_argument options) false (held_at ds p) ≡ true
settle_at options ds None fine = refl
settle_at options ds (Some d) fine = rw (by_id options d.0 fine.0, no_row d.0 ds fine.1) refl

module _ (name : Text) (options : List OptionName) (o : OptionName) (known : IsKnown options o) (ds : List Given) (p : Option Given) (fine : IsFine options ds p) where
  pub joined_turn : (text : Text) → seen o (given_in ds p) ≡ 0 → turn_passes (leaf name options) [] (walk_at ds p) (joined_word o text) ≡ true
  joined_turn text none =
      rw (joined_no_dashes o text, long_joined o text, by_long options o known, settle_at options ds p fine, settled_at options ds p fine, no_row o (given_in ds p) none) refl

  pub joined_walk : (text : Text) → seen o (given_in ds p) ≡ 0
      → walked (map built_argument options) [] (walk_at ds p) (joined_word o text) ≡ walk_at (given_in ds p ++ (o, text) ∷ []) None
  unfolding walked
  joined_walk text none =
      rw (joined_no_dashes o text, long_joined o text, by_long options o known, settled_at options ds p fine, used_once o text (map row_for (given_in ds p)) (no_row o (given_in ds p) none))
      (ap (λ (rows : List Row). record { held = record { rows = rows; pending = None; skip = 0 }; waiting = idle; position = 1; is_trailing = false; stopped = None })
      (sym (map-append row_for (given_in ds p) ((o, text) ∷ []))))

  pub name_turn : turn_passes (leaf name options) [] (walk_at ds p) (option_word o) ≡ true
  name_turn = rw (alone_no_dashes o, long_alone o, by_long options o known, settle_at options ds p fine) refl

  pub name_walk : walked (map built_argument options) [] (walk_at ds p) (option_word o) ≡ walk_in (given_in ds p) o
  unfolding walked
  name_walk = rw (alone_no_dashes o, long_alone o, by_long options o known, settled_at options ds p fine) refl

module _ (name : Text) (options : List OptionName) (o : OptionName) (known : IsKnown options o) (ds : List Given) (text : Text) (plain : IsPlainWord text) where
  pub value_turn : turn_passes (leaf name options) [] (walk_in ds o) text ≡ true
  value_turn = rw (plain.no_dashes, plain.long, plain.short) refl

  pub value_walk : walked (map built_argument options) [] (walk_in ds o) text ≡ walk_at ds (Some (o, text))
  unfolding walked
  value_walk = rw (plain.no_dashes, plain.long, plain.short, by_id options o known, name_same o) refl
