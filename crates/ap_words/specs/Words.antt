-- What the words of a command line ask for: a command, and then settings of its options in any order.
use Rattle.std.specs.Prelude.{ℕ, ◌^◌, ◌==◌, ◌&&◌, ◌||◌, Bool, not, List, [], ◌∷◌, ◌++◌, length, codes, if◌then◌else◌}
use Rattle.std.specs.Prelude.{Option, None, Some, option_map, option_and_then, unwrap_or, nat_lt, nat_le, find, count_by}
use Rattle.std.specs.Char.{is_ascii_digit}
use Rattle.std.specs.List.{list_all, list_any, before_first, after_first}
use Rattle.std.specs.Str.{bytes_eq}
use Rattle.std.specs.Str.Parse.{digits_value}
use Rattle.ap_bundle.specs.declared.version.Version.{Version}
use Rattle.ap_bundle.specs.declared.version.Version.TheVariants as version
use Rattle.ap_defs.specs.Limits.{greatest_depth, most_workers, within}
use Rattle.ap_words.specs.Sizes.{most_queries}
use Rattle.ap_paths.specs.declared.limits.Limit.{Limit}
use Rattle.ap_paths.specs.declared.limits.Limit.TheVariants as limits
use Rattle.ap_words.specs.declared.Asked.{Asked}
use Rattle.ap_words.specs.declared.Asked.TheVariants as asked
use Rattle.ap_words.specs.declared.settings.Setting.{Setting}
use Rattle.ap_words.specs.declared.table.CommandName.{CommandName}
use Rattle.ap_words.specs.declared.table.CommandName.TheVariants as command
use Rattle.ap_words.specs.declared.table.OptionName.{OptionName}
use Rattle.ap_words.specs.declared.table.OptionName.TheVariants as option
use Rattle.ap_words.specs.Table.{commands, command_name, options_of, option_name, is_required}

-- the number that one ASCII digit or more spell in base 10, if it is below 2 ^ 64. Every option's range is.
abbrev pub number_of : List ℕ → Option ℕ
number_of text =
    if nat_lt 0 (length text) && (list_all is_ascii_digit text && nat_lt (digits_value 10 text) (2 ^ 64)) then Some (digits_value 10 text) else None

-- the option whose name follows `--`, if it is one of these
abbrev pub option_of : List OptionName → List ℕ → Option OptionName
option_of options word = find (λ o. bytes_eq (codes "--" ++ option_name o) word) options

abbrev pub setting_of : List OptionName → List ℕ → List ℕ → Option Setting
setting_of options name value =
    option_and_then (λ o. option_map (λ n. record { option = o; number = n }) (number_of value)) (option_of options name)

abbrev pub is_equals : ℕ → Bool
is_equals byte = byte == 61

-- `--name=value`
abbrev pub joined_setting : List OptionName → List ℕ → Option Setting
joined_setting options word = setting_of options (before_first is_equals word) (after_first is_equals word)

abbrev pub both_settings : Option Setting → Option (List Setting) → Option (List Setting)
both_settings first others = option_and_then (λ s. option_map (λ ss. s ∷ ss) others) first

-- what the words set, where each setting is one word `--name=value` or two words `--name value`
abbrev pub settings_of : List OptionName → List (List ℕ) → Option (List Setting)
settings_of options [] = Some []
settings_of options (word ∷ []) = if list_any is_equals word then both_settings (joined_setting options word) (Some []) else None
settings_of options (word ∷ value ∷ words) =
    if list_any is_equals word then both_settings (joined_setting options word) (settings_of options (value ∷ words))
    else both_settings (setting_of options word value) (settings_of options words)

abbrev pub sets : OptionName → Setting → Bool
sets o s = bytes_eq (option_name s.option) (option_name o)

-- the option is not set twice, and is set if it is required
abbrev pub is_well_set : List Setting → OptionName → Bool
is_well_set ss o = nat_le (count_by (sets o) ss) 1 && (not (is_required o) || nat_le 1 (count_by (sets o) ss))

abbrev pub are_complete : List OptionName → List Setting → Bool
are_complete options ss = list_all (is_well_set ss) options

-- what an option is set to
abbrev pub number_in : OptionName → List Setting → Option ℕ
number_in o ss = option_map (λ s. s.number) (find (sets o) ss)

-- the depth that is asked for, from 0 to 1,000,000
abbrev pub depth_in : List Setting → Option ℕ
depth_in ss = option_and_then (within 0 greatest_depth) (number_in option.Depth ss)

-- how many workers are asked for, from 1 to 64, and 1 where nothing is said
abbrev pub workers_in : List Setting → Option ℕ
workers_in ss = within 1 most_workers (unwrap_or (number_in option.Workers ss) 1)

-- how many answers are asked for, from 1 to 1,000,000, and all where nothing is said
abbrev pub most_answers : ℕ
most_answers = 1000000

abbrev pub limit_of : Option ℕ → Option Limit
limit_of None = Some limits.All
limit_of (Some n) = option_map limits.First (within 1 most_answers n)

abbrev pub limit_in : List Setting → Option Limit
limit_in ss = limit_of (number_in option.Answers ss)

-- the version that is asked for, 1 or 2
abbrev pub version_of : ℕ → Option Version
version_of n = if n == 1 then Some version.One else (if n == 2 then Some version.Two else None)

abbrev pub version_in : List Setting → Option Version
version_in ss = option_and_then version_of (number_in option.To ss)

-- the number from which a text is made, which is any, and how many queries it has, from 1 to 1,000
abbrev pub seed_in : List Setting → Option ℕ
seed_in ss = number_in option.Seed ss

abbrev pub size_in : List Setting → Option ℕ
size_in ss = option_and_then (within 1 most_queries) (number_in option.Size ss)

-- what is asked for by two values, and by three, where each is there
abbrev pub with_both : {A B : Type 0} → (A → B → Asked) → Option A → Option B → Option Asked
with_both asked (Some a) (Some b) = Some (asked a b)
with_both asked _ _ = None

abbrev pub with_all : {A B C : Type 0} → (A → B → C → Asked) → Option A → Option B → Option C → Option Asked
with_all asked (Some a) (Some b) (Some c) = Some (asked a b c)
with_all asked _ _ _ = None

-- what the settings of a command's options ask for
abbrev pub asked_by : CommandName → List Setting → Option Asked
asked_by command.Run ss = with_all asked.Run (depth_in ss) (workers_in ss) (limit_in ss)
asked_by command.Prove ss = with_all asked.Prove (depth_in ss) (workers_in ss) (limit_in ss)
asked_by command.Check ss = Some asked.Check
asked_by command.Convert ss = option_map asked.Convert (version_in ss)
asked_by command.Count ss = with_both asked.Count (depth_in ss) (workers_in ss)
asked_by command.Cover ss = with_both asked.Cover (depth_in ss) (workers_in ss)
asked_by command.Examine ss = with_both asked.Examine (depth_in ss) (workers_in ss)
asked_by command.Work ss = with_all asked.Work (seed_in ss) (size_in ss) (workers_in ss)

abbrev pub asked_together : CommandName → List Setting → Option Asked
asked_together c ss = if are_complete (options_of c) ss then asked_by c ss else None

abbrev pub asked_with : CommandName → List (List ℕ) → Option Asked
asked_with c words = option_and_then (asked_together c) (settings_of (options_of c) words)

abbrev pub command_of : List ℕ → Option CommandName
command_of word = find (λ c. bytes_eq (command_name c) word) commands

-- What the words ask for. All others are refused: no words, another command, another option, an option that is set
-- twice or is required and left out, a value that is missing, is not made of digits or is out of range, and any
-- further word.
abbrev pub asked_of : List (List ℕ) → Option Asked
asked_of [] = None
asked_of (word ∷ words) = option_and_then (λ c. asked_with c words) (command_of word)
