-- A step of a session, from a line that is typed to what is answered.
use Rattle.std.specs.Prelude.{◌≡◌, ◌+◌, ◌++◌, ℕ, Bool, true, false, List, [], ◌∷◌, length, nat_lt, not, ◌==◌, ◌&&◌, take, Option, None, Some, option_map, if◌then◌else◌}
use Rattle.ap_defs.specs.Limits.{size_limit}
use Rattle.ap_inputs.specs.declared.lines.LineKind.{LineKind}
use Rattle.ap_inputs.specs.declared.lines.LineKind.TheVariants as kinds
use Rattle.ap_inputs.specs.Lines.{is_stop_line, line_kind_of, query_end}
use Rattle.ap_shell.specs.declared.loading.Outcome.{Outcome}
use Rattle.ap_shell.specs.declared.session.Session.{Session}
use Rattle.ap_shell.specs.declared.replies.Reply.{Reply}
use Rattle.ap_shell.specs.declared.replies.Reply.TheVariants as replies
use Rattle.ap_shell.specs.Answers.{IsAnswer, IsCounted, IsExamined, IsProved}
use Rattle.ap_shell.specs.Loads.{IsLoadedBy, IsOutcome}

-- the query that ends in a line of a kind, behind the lines before it
abbrev pub asked_in : List ℕ → LineKind → List ℕ → Option (List ℕ)
asked_in waiting kinds.Text line = option_map (λ n. waiting ++ take n line) (query_end line)
asked_in waiting other line = None

-- the query that ends in a line, where no clauses are added
abbrev pub query_unless : Bool → List ℕ → List ℕ → Option (List ℕ)
query_unless true waiting line = None
query_unless false waiting line = asked_in waiting (line_kind_of line) line

abbrev pub typed_query : Session → List ℕ → Option (List ℕ)
typed_query s line = query_unless s.is_adding s.waiting.items line

abbrev pub is_command : LineKind → Bool
is_command kinds.Command = true
is_command other = false

-- a line that is obeyed
abbrev pub line_is_obeyed : Session → List ℕ → Bool
line_is_obeyed s line = if s.is_adding then false else is_command (line_kind_of line)

-- HOW MUCH OF A LINE IS TAKEN, AND WHICH LINES WAIT

-- up to the end of a query, or all of it
abbrev pub up_to : Option ℕ → List ℕ → ℕ
up_to (Some n) line = n
up_to None line = length line

abbrev pub used_of : LineKind → List ℕ → ℕ
used_of kinds.Text line = up_to (query_end line) line
used_of other line = length line

abbrev pub used_by : Session → List ℕ → ℕ
used_by s line = if s.is_adding then length line else used_of (line_kind_of line) line

-- a line behind those that wait; where they become too large, none waits
abbrev pub with_line : List ℕ → List ℕ → List ℕ
with_line waiting line = if nat_lt (length waiting + length line) size_limit then (waiting ++ line ++ 10 ∷ []) else []

-- none waits behind the end of a query
abbrev pub waiting_behind : Option ℕ → List ℕ → List ℕ → List ℕ
waiting_behind (Some n) waiting line = []
waiting_behind None waiting line = with_line waiting line

-- a line without a mark is left out, and a command drops those that wait
abbrev pub lines_waiting : LineKind → List ℕ → List ℕ → List ℕ
lines_waiting kinds.Empty waiting line = waiting
lines_waiting kinds.Command waiting line = []
lines_waiting kinds.Text waiting line = waiting_behind (query_end line) waiting line

-- clauses wait up to a line that holds a full stop alone
abbrev pub waiting_added : List ℕ → List ℕ → List ℕ
waiting_added waiting line = if is_stop_line line then [] else with_line waiting line

-- which lines wait after a line
abbrev pub waiting_after : Session → List ℕ → List ℕ
waiting_after s line = if s.is_adding then waiting_added s.waiting.items line else lines_waiting (line_kind_of line) s.waiting.items line

-- clauses are added up to a line that holds a full stop alone
abbrev pub adding_after : Session → List ℕ → Bool
adding_after s line = if is_stop_line line then false else s.is_adding

-- a command drops the lines that wait
abbrev pub drops : Session → List ℕ → Bool
drops s line = line_is_obeyed s line && not (length s.waiting.items == 0)

-- WHAT IS LOADED

-- the clauses that are added stand behind what is loaded, where they have no fault there
abbrev pub AddsClauses : List ℕ → List ℕ → List ℕ → Type 0
AddsClauses added old new = (o : Outcome) × IsOutcome (old ++ added) o × IsLoadedBy o (old ++ added) old new

-- the line that ends such clauses loads them, and no other line changes what is loaded
abbrev pub LoadsWhere : Bool → List ℕ → List ℕ → List ℕ → Type 0
LoadsWhere true added old new = AddsClauses added old new
LoadsWhere false added old new = new ≡ old

abbrev pub LoadsBy : Session → Session → List ℕ → Type 0
LoadsBy old new line = LoadsWhere (if old.is_adding then is_stop_line line else false) old.waiting.items old.loaded.items new.loaded.items

-- what no command changes: what is loaded, the last query, and the lines that wait
pub record KeepsTexts (old new : Session) : Type 0 where
  pub loaded : new.loaded ≡ old.loaded
  pub last : new.last ≡ old.last
  pub waiting : new.waiting ≡ old.waiting

-- REPLIES

-- an answer is that to the session's last query, and a report that on it
abbrev pub IsReplyOf : Session → Reply → Type 0
IsReplyOf s (replies.Asked a) = IsAnswer s.settings s.loaded.items s.last.items a.report
IsReplyOf s (replies.Proved a) = IsProved s.settings s.loaded.items s.last.items a.report
IsReplyOf s (replies.Counted a) = IsCounted s.settings s.loaded.items s.last.items a.report
IsReplyOf s (replies.Examined a) = IsExamined s.settings s.loaded.items s.last.items a.report
IsReplyOf s other = Unit {0}

abbrev pub IsAsked : Reply → Type 0
IsAsked (replies.Asked a) = Unit {0}
IsAsked other = ⊥

-- nothing is written, but maybe something said
abbrev pub WritesNothing : Reply → Type 0
WritesNothing (replies.Told t) = t.written.items ≡ []
WritesNothing other = ⊥

-- a line that is no command, and in which no query ends, writes nothing
abbrev pub WritesUnless : Bool → Option (List ℕ) → Reply → Type 0
WritesUnless false None r = WritesNothing r
WritesUnless _ _ r = Unit {0}

-- A query that ends in a line is answered, and changes neither what is loaded nor how queries are asked.
pub record IsQueryStep (old new : Session) (query : List ℕ) (reply : Reply) : Type 0 where
  pub asked : IsAsked reply
  pub last : new.last.items ≡ query
  pub loaded : new.loaded.items ≡ old.loaded.items
  pub settings : new.settings ≡ old.settings
