-- clap takes the words that are accepted.
use Rattle.std.proofs.Common.{◌≡◌, ◌∙◌, ◌≤◌, ◌+◌, ◌++◌, ◌||◌, ◌&&◌, ⊎_elim, not, refl, sym, ap, subst, arith, ℕ, Bool, true, false, true≢false, cond, List, [], ◌∷◌, Option, Some, None, map, codes, append-nil, append_assoc}
use Rattle.std.proofs.lemmas.Bool.{and_from, cases_Bool}
use Rattle.std.proofs.lemmas.Bool.Decides.{nat_tests}
use Rattle.std.proofs.lemmas.Slice.Eq.{bytes_eq-Decides}
use Rattle.std.specs.Prelude.{count_by, fold, nat_le, option_and_then, option_map}
use Rattle.std.specs.List.{before_first, after_first, list_all, list_any}
use Rattle.std.specs.Str.{bytes_eq}
use Rattle.clap.specs.Walk.{Walk, Text, Names, nothing_held, walk_from, walked}
use Rattle.clap.specs.Simple.{Shape, built}
use Rattle.clap.specs.Takes.{is_given, level_passes, takes, turn_passes, walk_passes}
use Rattle.clap.specs.Walk.{Rule}
use Rattle.ap_words.specs.declared.Asked.{Asked}
use Rattle.ap_words.specs.declared.settings.Setting.{Setting}
use Rattle.ap_words.specs.declared.table.CommandName.{CommandName}
use Rattle.ap_words.specs.declared.table.CommandName.TheVariants as command
use Rattle.ap_words.specs.declared.table.OptionName.{OptionName}
use Rattle.ap_words.specs.Table.{commands, command_name, option_name, options_of, is_required}
use Rattle.ap_words.specs.Words.{are_complete, asked_of, asked_together, asked_with, asked_by, both_settings, command_of, is_equals, is_well_set, joined_setting, number_of, option_of, sets, setting_of, settings_of}
use Rattle.ap_words.specs.Program.{program}
use Rattle.ap_words.proofs.Lists.{all_found, count_first, count_push, find_holds}
use Rattle.ap_words.proofs.Plain.{joined_word, name_same, number_plain, option_word, parted}
use Rattle.ap_words.proofs.Rows.{Given, IsKnown, built_argument, defaults_stay, each_free, names, no_defaults, required_given, row_for, row_given, seen}
use Rattle.ap_words.proofs.Steps.{joined_first}
use Rattle.ap_words.proofs.Walking.{IsFine, given_in, joined_turn, joined_walk, leaf, name_turn, name_walk, settle_at, settled_at, value_turn, value_walk, walk_at, walk_in}

-- ---- what a setting was read from

both_parts : (a : Option Setting) (b : Option (List Setting)) (ss : List Setting) → both_settings a b ≡ Some ss → (s : Setting) × (rest : List Setting) × (a ≡ Some s) × (b ≡ Some rest) × (ss ≡ s ∷ rest)
both_parts None b ss e = absurd (let k : None ≡ Some ss = e in cc)
both_parts (Some s) None ss e = absurd (let k : None ≡ Some ss = e in cc)
both_parts (Some s) (Some rest) ss e = (s, rest, refl, refl, (let k : Some (s ∷ rest) ≡ Some ss = e in let same : ss ≡ s ∷ rest = cc in same))

-- a setting of an option's name and a number
pub record IsSettingOf (options : List OptionName) (name value : List ℕ) (s : Setting) : Type 0 where
  pub known : IsKnown options s.option
  pub named : name ≡ option_word s.option
  pub number : number_of value ≡ Some s.number

named_is : (options : List OptionName) (name : List ℕ) (o : OptionName) → option_of options name ≡ Some o → (IsKnown options o) × (name ≡ option_word o)
named_is options name o e =
    let named : name ≡ option_word o = sym ((bytes_eq-Decides (option_word o) name).0 (find_holds (λ q. bytes_eq (option_word q) name) options o e)) in
    (subst (λ (n : List ℕ). option_of options n ≡ Some o) named e, named)

setting_is : (options : List OptionName) (name value : List ℕ) (s : Setting) → setting_of options name value ≡ Some s → IsSettingOf options name value s
setting_is options name value s e = go (option_of options name) (number_of value) refl refl e
  where
    go : (a : Option OptionName) (b : Option ℕ) → option_of options name ≡ a → number_of value ≡ b
        → option_and_then (λ o. option_map (λ n. record { option = o; number = n }) b) a ≡ Some s → IsSettingOf options name value s
    go None b of is k = absurd (let h : None ≡ Some s = k in cc)
    go (Some o) None of is k = absurd (let h : None ≡ Some s = k in cc)
    go (Some o) (Some n) of is k =
        let which : o ≡ s.option = ap (λ (x : Option Setting). elim x [ None ↦ o | Some t ↦ t.option ]) k in
        let much : n ≡ s.number = ap (λ (x : Option Setting). elim x [ None ↦ n | Some t ↦ t.number ]) k in
        let parts = named_is options name o of in
        record {
          known = subst (IsKnown options) which parts.0;
          named = parts.1 ∙ ap option_word which;
          number = is ∙ ap Some much;
        }

-- ---- the walk over all words

-- an option's settings before and to come are one at most
abbrev AreFew : List OptionName → List Given → List Setting → Type 0
AreFew options ds ss = (o : OptionName) → IsKnown options o → seen o ds + count_by (sets o) ss ≤ 1

-- where the walk ends
record EndsAt (options : List OptionName) (w : Walk) (words : List Text) (ds : List Given) (ss : List Setting) : Type 0 where
  pub passes : (name : Text) → walk_passes (leaf name options) [] w words ≡ true
  pub before : List Given
  pub last : Option Given
  pub walks : fold (walked (map built_argument options) []) w words ≡ walk_at before last
  pub fine : IsFine options before last
  pub counts : (o : OptionName) → seen o (given_in before last) ≡ seen o ds + count_by (sets o) ss

abbrev Passes : List OptionName → List Text → Type 0
Passes options words = (ss : List Setting) (ds : List Given) (p : Option Given) → settings_of options words ≡ Some ss → IsFine options ds p → AreFew options (given_in ds p) ss
    → EndsAt options (walk_at ds p) words (given_in ds p) ss

-- one more word
one_step : (options : List OptionName) (w w' : Walk) (word : Text) (words : List Text) (ds es : List Given) (ss rest : List Setting)
    → ((name : Text) → turn_passes (leaf name options) [] w word ≡ true) → walked (map built_argument options) [] w word ≡ w' → ((o : OptionName) → seen o es + count_by (sets o) rest ≡ seen o ds + count_by (sets o) ss)
    → EndsAt options w' words es rest → EndsAt options w (word ∷ words) ds ss
unfolding walk_passes
one_step options w w' word words ds es ss rest turn step same end = record {
  passes = λ name. and_from _ _ (turn name) (rw step (end.passes name));
  before = end.before;
  last = end.last;
  walks = rw step end.walks;
  fine = end.fine;
  counts = λ o. end.counts o ∙ same o;
}

-- the option was not set before
unset : (options : List OptionName) (ds : List Given) (s : Setting) (rest : List Setting) → IsKnown options s.option → names s.option s.option ≡ true → AreFew options ds (s ∷ rest) → seen s.option ds ≡ 0
unset options ds s rest known same few = counted (sets s.option s) same (subst (λ n. seen s.option ds + n ≤ 1) (count_first (sets s.option) s rest) (few s.option known))
  where
    counted : (b : Bool) → b ≡ true → seen s.option ds + (cond b 1 0 + count_by (sets s.option) rest) ≤ 1 → seen s.option ds ≡ 0
    counted true e k = omega arith
    counted false e k = absurd (true≢false (sym e))

pushed_count : (ds : List Given) (s : Setting) (text : Text) (rest : List Setting) (o : OptionName)
    → seen o (ds ++ (s.option, text) ∷ []) + count_by (sets o) rest ≡ seen o ds + count_by (sets o) (s ∷ rest)
pushed_count ds s text rest o = let more = count_push (λ (d : Given). names o d.0) ds (s.option, text) in let first = count_first (sets o) s rest in omega (arith, more, first)

fewer : (options : List OptionName) (ds es : List Given) (ss rest : List Setting) → ((o : OptionName) → seen o es + count_by (sets o) rest ≡ seen o ds + count_by (sets o) ss) → AreFew options ds ss → AreFew options es rest
fewer options ds es ss rest same few o known = let k = same o in let m = few o known in omega arith

-- a setting in one word
joined_case : (options : List OptionName) (word : Text) (words : List Text) → Passes options words → list_any is_equals word ≡ true → Passes options (word ∷ words)
joined_case options word words later has ss ds p read fine few =
    let parts = both_parts (joined_setting options word) (settings_of options words) ss (sym (joined_first options word words has) ∙ read) in
    go parts.0 parts.1 (setting_is options _ _ parts.0 parts.2) parts.3 parts.4
  where
    go : (s : Setting) (rest : List Setting) → IsSettingOf options (before_first is_equals word) (after_first is_equals word) s → settings_of options words ≡ Some rest → ss ≡ s ∷ rest
        → EndsAt options (walk_at ds p) (word ∷ words) (given_in ds p) ss
    go s rest is left whole =
        let text = after_first is_equals word in
        let is_word : joined_word s.option text ≡ word = sym (parted word has ∙ ap (λ (n : Text). n ++ 61 ∷ text) is.named) in
        let few' : AreFew options (given_in ds p) (s ∷ rest) = subst (AreFew options (given_in ds p)) whole few in
        let none = unset options (given_in ds p) s rest is.known (name_same s.option) few' in
        let count = pushed_count (given_in ds p) s text rest in
        subst (λ (v : List Setting). EndsAt options (walk_at ds p) (word ∷ words) (given_in ds p) v) (sym whole)
        (subst (λ (w : Text). EndsAt options (walk_at ds p) (w ∷ words) (given_in ds p) (s ∷ rest)) is_word
        (one_step options (walk_at ds p) (walk_at (given_in ds p ++ (s.option, text) ∷ []) None) (joined_word s.option text) words (given_in ds p) (given_in ds p ++ (s.option, text) ∷ []) (s ∷ rest) rest
        (λ name. joined_turn name options s.option is.known ds p fine text none)
        (joined_walk (codes "run") options s.option is.known ds p fine text none) count
        (later rest (given_in ds p ++ (s.option, text) ∷ []) None left tt (fewer options (given_in ds p) (given_in ds p ++ (s.option, text) ∷ []) (s ∷ rest) rest count few'))))

-- a setting in two words
two_case : (options : List OptionName) (word value : Text) (words : List Text) → Passes options words → list_any is_equals word ≡ false → Passes options (word ∷ value ∷ words)
two_case options word value words later lacks ss ds p read fine few =
    let parts = both_parts (setting_of options word value) (settings_of options words) ss (rw lacks at read) in
    go parts.0 parts.1 (setting_is options _ _ parts.0 parts.2) parts.3 parts.4
  where
    go : (s : Setting) (rest : List Setting) → IsSettingOf options word value s → settings_of options words ≡ Some rest → ss ≡ s ∷ rest
        → EndsAt options (walk_at ds p) (word ∷ value ∷ words) (given_in ds p) ss
    go s rest is left whole =
        let es = given_in ds p in
        let few' : AreFew options es (s ∷ rest) = subst (AreFew options es) whole few in
        let none = unset options es s rest is.known (name_same s.option) few' in
        let count = pushed_count es s value rest in
        let plain = number_plain value s.number is.number in
        subst (λ (v : List Setting). EndsAt options (walk_at ds p) (word ∷ value ∷ words) es v) (sym whole)
        (subst (λ (w : Text). EndsAt options (walk_at ds p) (w ∷ value ∷ words) es (s ∷ rest)) (sym is.named)
        (one_step options (walk_at ds p) (walk_in es s.option) (option_word s.option) (value ∷ words) es es (s ∷ rest) (s ∷ rest)
        (λ name. name_turn name options s.option is.known ds p fine)
        (name_walk (codes "run") options s.option is.known ds p fine) (λ o. refl)
        (one_step options (walk_in es s.option) (walk_at es (Some (s.option, value))) value words es (es ++ (s.option, value) ∷ []) (s ∷ rest) rest
        (λ name. value_turn name options s.option is.known es value plain)
        (value_walk (codes "run") options s.option is.known es value plain) count
        (later rest es (Some (s.option, value)) left (is.known, none) (fewer options es (es ++ (s.option, value) ∷ []) (s ∷ rest) rest count few')))))

lone_case : (options : List OptionName) (word : Text) → list_any is_equals word ≡ false → Passes options (word ∷ [])
lone_case options word lacks ss ds p read fine few = absurd (let k : None ≡ Some ss = rw lacks at read in cc)

no_words : (options : List OptionName) → Passes options []
unfolding walk_passes
no_words options ss ds p read fine few =
    let none : [] ≡ ss = cc in
    record { passes = λ name. refl; before = ds; last = p; walks = refl; fine = fine; counts = λ o. ended ss none o }
  where
    ended : (ss : List Setting) → [] ≡ ss → (o : OptionName) → seen o (given_in ds p) ≡ seen o (given_in ds p) + count_by (sets o) ss
    ended [] e o = omega arith
    ended (s ∷ ss) e o = absurd (let k : [] ≡ s ∷ ss = e in cc)

all_pass : (options : List OptionName) (words : List Text) → Passes options words
all_pass options [] = no_words options
all_pass options (word ∷ []) = λ ss ds p read fine few. ⊎_elim (λ has. joined_case options word [] (all_pass options []) has ss ds p read fine few) (λ lacks. lone_case options word lacks ss ds p read fine few) (cases_Bool (list_any is_equals word))
all_pass options (word ∷ value ∷ words) = λ ss ds p read fine few. ⊎_elim (λ has. joined_case options word (value ∷ words) (all_pass options (value ∷ words)) has ss ds p read fine few)
    (λ lacks. two_case options word value words (all_pass options words) lacks ss ds p read fine few) (cases_Bool (list_any is_equals word))

-- ---- a whole command

few_of : (options : List OptionName) (ss : List Setting) → are_complete options ss ≡ true → AreFew options [] ss
few_of options ss e o known = at_most (nat_le (count_by (sets o) ss) 1) _ refl (all_found (names o) (is_well_set ss) options o e known)
  where
    at_most : (b d : Bool) → nat_le (count_by (sets o) ss) 1 ≡ b → (b && d) ≡ true → 0 + count_by (sets o) ss ≤ 1
    at_most true d is k = grind (arith, nat_tests)
    at_most false d is k = absurd (true≢false (sym k))

needed : (options : List OptionName) (ss : List Setting) (ds : List Given) → ((o : OptionName) → seen o ds ≡ count_by (sets o) ss) → are_complete options ss ≡ true
    → list_all (λ o. not (is_required o) || is_given (option_name o) (map row_for ds)) options ≡ true
needed [] ss ds same e = refl
needed (o ∷ os) ss ds same e = and_from _ _ (go (nat_le (count_by (sets o) ss) 1) (is_required o) (nat_le 1 (count_by (sets o) ss)) refl e) (needed os ss ds same (rest (is_well_set ss o) e))
  where
    rest : (b : Bool) → (b && are_complete os ss) ≡ true → are_complete os ss ≡ true
    rest true k = k
    rest false k = absurd (true≢false (sym k))

    go : (b r d : Bool) → nat_le 1 (count_by (sets o) ss) ≡ d → ((b && (not r || d)) && are_complete os ss) ≡ true → (not r || is_given (option_name o) (map row_for ds)) ≡ true
    go b false d is k = refl
    go false true d is k = absurd (true≢false (sym k))
    go true true false is k = absurd (true≢false (sym k))
    go true true true is k = let some : 1 ≤ count_by (sets o) ss = grind (arith, nat_tests) in let all = same o in row_given o ds (omega arith)

level : (name : Text) (options : List OptionName) (words : List Text) (ss : List Setting) → settings_of options words ≡ Some ss → are_complete options ss ≡ true
    → level_passes (leaf name options) [] nothing_held words false ≡ true
level name options words ss read e =
    let end = all_pass options words ss [] None read tt (few_of options ss e) in
    let ds = given_in end.before end.last in
    let same : (o : OptionName) → seen o ds ≡ count_by (sets o) ss = λ o. let k = end.counts o in omega arith in
    let rows = defaults_stay options (map row_for ds) in
    and_from _ _ (end.passes name)
    (rw end.walks (and_from _ _ (settle_at options end.before end.last end.fine)
    (and_from _ _ (no_defaults options)
    (rw (settled_at options end.before end.last end.fine, rows) (and_from _ _ (each_free options) (required_given options ds (needed options ss ds same e)))))))

-- after a subcommand's name the words are its own
stopped : (rules : List Rule) (names : Names) (w : Walk) (name : Text) (before words : List Text)
    → fold (walked rules names) (record w { stopped = Some (name, before) }) words ≡ record w { stopped = Some (name, before ++ words) }
unfolding walked
stopped rules names w name before [] = rw (append-nil before) refl
stopped rules names w name before (word ∷ words) = stopped rules names w name (before ++ word ∷ []) words ∙ rw append_assoc refl

stopped_passes : (s : Shape) (names : Names) (w : Walk) (name : Text) (before words : List Text) → walk_passes s names (record w { stopped = Some (name, before) }) words ≡ true
unfolding walk_passes walked
stopped_passes s names w name before [] = refl
stopped_passes s names w name before (word ∷ words) = stopped_passes s names w name (before ++ word ∷ []) words

-- the names by which clap knows the commands
abbrev all_names : Names
all_names = (codes "run", []) ∷ (codes "prove", []) ∷ (codes "check", []) ∷ (codes "convert", []) ∷ (codes "count", []) ∷ (codes "cover", []) ∷ (codes "examine", []) ∷ (codes "work", []) ∷ []

command_taken : (c : CommandName) (words : List Text) (ss : List Setting) → settings_of (options_of c) words ≡ Some ss → are_complete (options_of c) ss ≡ true → takes program (command_name c ∷ words) ≡ true
unfolding walked walk_passes
command_taken command.Run words ss read e =
    rw (
      stopped [] all_names (walk_from nothing_held) (codes "run") [] words,
      stopped_passes (built program).top all_names (walk_from nothing_held) (codes "run") [] words,
    )
    (and_from _ _ (level (codes "run") (options_of command.Run) words ss read e) refl)
command_taken command.Prove words ss read e =
    rw (
      stopped [] all_names (walk_from nothing_held) (codes "prove") [] words,
      stopped_passes (built program).top all_names (walk_from nothing_held) (codes "prove") [] words,
    )
    (and_from _ _ (level (codes "prove") (options_of command.Prove) words ss read e) refl)
command_taken command.Check words ss read e =
    rw (
      stopped [] all_names (walk_from nothing_held) (codes "check") [] words,
      stopped_passes (built program).top all_names (walk_from nothing_held) (codes "check") [] words,
    )
    (and_from _ _ (level (codes "check") (options_of command.Check) words ss read e) refl)
command_taken command.Convert words ss read e =
    rw (
      stopped [] all_names (walk_from nothing_held) (codes "convert") [] words,
      stopped_passes (built program).top all_names (walk_from nothing_held) (codes "convert") [] words,
    )
    (and_from _ _ (level (codes "convert") (options_of command.Convert) words ss read e) refl)
command_taken command.Count words ss read e =
    rw (
      stopped [] all_names (walk_from nothing_held) (codes "count") [] words,
      stopped_passes (built program).top all_names (walk_from nothing_held) (codes "count") [] words,
    )
    (and_from _ _ (level (codes "count") (options_of command.Count) words ss read e) refl)
command_taken command.Cover words ss read e =
    rw (
      stopped [] all_names (walk_from nothing_held) (codes "cover") [] words,
      stopped_passes (built program).top all_names (walk_from nothing_held) (codes "cover") [] words,
    )
    (and_from _ _ (level (codes "cover") (options_of command.Cover) words ss read e) refl)
command_taken command.Examine words ss read e =
    rw (
      stopped [] all_names (walk_from nothing_held) (codes "examine") [] words,
      stopped_passes (built program).top all_names (walk_from nothing_held) (codes "examine") [] words,
    )
    (and_from _ _ (level (codes "examine") (options_of command.Examine) words ss read e) refl)
command_taken command.Work words ss read e =
    rw (
      stopped [] all_names (walk_from nothing_held) (codes "work") [] words,
      stopped_passes (built program).top all_names (walk_from nothing_held) (codes "work") [] words,
    )
    (and_from _ _ (level (codes "work") (options_of command.Work) words ss read e) refl)

with_taken : (c : CommandName) (words : List Text) (a : Asked) → asked_with c words ≡ Some a → takes program (command_name c ∷ words) ≡ true
with_taken c words a e = go (settings_of (options_of c) words) refl e
  where
    complete : (ss : List Setting) (b : Bool) → are_complete (options_of c) ss ≡ b → cond b (asked_by c ss) None ≡ Some a → are_complete (options_of c) ss ≡ true
    complete ss true is k = is
    complete ss false is k = absurd (let h : None ≡ Some a = k in cc)

    go : (o : Option (List Setting)) → settings_of (options_of c) words ≡ o → option_and_then (asked_together c) o ≡ Some a → takes program (command_name c ∷ words) ≡ true
    go None read k = absurd (let h : None ≡ Some a = k in cc)
    go (Some ss) read k = command_taken c words ss read (complete ss (are_complete (options_of c) ss) refl k)

-- clap takes the words that ask for something
pub accepted_taken : (words : List Text) (a : Asked) → asked_of words ≡ Some a → takes program words ≡ true
accepted_taken [] a e = absurd (let k : None ≡ Some a = e in cc)
accepted_taken (word ∷ words) a e = go (command_of word) refl e
  where
    go : (o : Option CommandName) → command_of word ≡ o → option_and_then (λ c. asked_with c words) o ≡ Some a → takes program (word ∷ words) ≡ true
    go None is k = absurd (let h : None ≡ Some a = k in cc)
    go (Some c) is k =
        let named : command_name c ≡ word = (bytes_eq-Decides (command_name c) word).0 (find_holds (λ d. bytes_eq (command_name d) word) commands c is) in
        subst (λ (w : Text). takes program (w ∷ words) ≡ true) named (with_taken c words a k)
