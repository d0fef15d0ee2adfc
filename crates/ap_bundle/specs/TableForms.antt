-- The lines of a table of terms, each a term by the numbers of lines before it, and the lines that cite it.
use Rattle.std.specs.Prelude.{ℕ, zero, suc, ◌-◌, nat_lt, if◌then◌else◌, List, [], ◌∷◌, ◌++◌, slice_get, Option, None, Some, Result, Ok, Err}
use Rattle.ap_defs.specs.Terms as terms
use Rattle.ap_defs.specs.Terms.{NominalTerm}
use Rattle.ap_bundle.specs.declared.faults.BundleKind.TheVariants.{Term, Expanded}
use Rattle.ap_bundle.specs.declared.words.Letter.{Letter}
use Rattle.ap_bundle.specs.declared.words.Letter.TheVariants as letter
use Rattle.ap_bundle.specs.declared.words.Head.TheVariants as head
use Rattle.ap_bundle.specs.declared.words.Word.{Word}
use Rattle.ap_bundle.specs.declared.words.Word.TheVariants as words
use Rattle.ap_bundle.specs.Forms.{◌>>=◌, first, small, a_name, swaps, if_no_number}
use Rattle.ap_bundle.specs.LineForms as lines
use Rattle.ap_bundle.specs.Tables.{expanded_size}
use Rattle.ap_bundle.specs.Readers.{Unread, Wrong, on_ok, Reader, wrong, read_form}

abbrev pub before_numbers : ℕ → Option (List ℕ) → Option (List ℕ)
before_numbers n more = more >>= λ ns. Some (n ∷ ns)

-- the numbers that words are
abbrev pub numbers : List Word → Option (List ℕ)
numbers [] = Some []
numbers (words.Number n ∷ ws) = before_numbers n (numbers ws)
numbers (words.Letter l ∷ ws) = None
numbers (words.Node k ∷ ws) = None
numbers (words.Head h ∷ ws) = None

-- the term of a line, by its number
unfoldable pub earlier : List NominalTerm → List ℕ → Option (NominalTerm × List ℕ)
earlier table ns = do
  i ← first ns
  t ← slice_get table i.0
  Some (t, i.1)

unfoldable pub name_entry : List ℕ → Option NominalTerm
name_entry ns = do
  a ← a_name ns
  if_no_number (terms.name a.0) a.1

unfoldable pub pair_entry : List NominalTerm → List ℕ → Option NominalTerm
pair_entry table ns = do
  t ← earlier table ns
  u ← earlier table t.1
  if_no_number (terms.pair t.0 u.0) u.1

unfoldable pub app_entry : List NominalTerm → List ℕ → Option NominalTerm
app_entry table ns = do
  f ← small ns
  t ← earlier table f.1
  if_no_number (terms.app f.0 t.0) t.1

unfoldable pub abs_entry : List NominalTerm → List ℕ → Option NominalTerm
abs_entry table ns = do
  a ← a_name ns
  t ← earlier table a.1
  if_no_number (terms.abs a.0 t.0) t.1

unfoldable pub susp_entry : List ℕ → Option NominalTerm
susp_entry ns = do
  k ← first ns
  front ← swaps k.0 k.1
  x ← first front.1
  if_no_number (terms.susp front.0 (record { num = x.0 })) x.1

-- `u`, `n SORT NUM`, `p I J`, `a F I`, `l SORT NUM I`, or `s K`, K triples `SORT NUM NUM`, and `VAR`
abbrev pub entry : List NominalTerm → Letter → List ℕ → Option NominalTerm
entry table letter.U ns = if_no_number terms.unit ns
entry table letter.N ns = name_entry ns
entry table letter.P ns = pair_entry table ns
entry table letter.A ns = app_entry table ns
entry table letter.L ns = abs_entry table ns
entry table letter.S ns = susp_entry ns
entry table letter.D ns = None
entry table letter.B ns = None

abbrev pub entry_behind : List NominalTerm → List Word → Option NominalTerm
entry_behind table [] = None
entry_behind table (words.Letter l ∷ ws) = numbers ws >>= entry table l
entry_behind table (words.Number n ∷ ws) = None
entry_behind table (words.Node k ∷ ws) = None
entry_behind table (words.Head h ∷ ws) = None

-- a line of the table
unfoldable pub entry_form : List NominalTerm → List Word → Option NominalTerm
entry_form table ws = do
  rest ← lines.after_head head.T ws
  entry_behind table rest

-- so many lines of the table, behind those before
unfoldable pub read_entries : ℕ → List NominalTerm → Reader (List NominalTerm)
read_entries zero table p = Ok (table, p)
read_entries (suc n) table p =
    on_ok (read_form Term (entry_form table) p) (λ t. read_entries n (table ++ t.0 ∷ []) t.1)

-- `r I`
unfoldable pub shared_form : List NominalTerm → List Word → Option NominalTerm
shared_form table ws = do
  rest ← lines.after_head head.R ws
  i ← lines.number rest
  t ← slice_get table i.0
  lines.if_no_word t i.1

-- how large the shared terms of a bundle may be, written in full
abbrev pub room_at_first : ℕ
room_at_first = 16777216

-- the place behind a shared term, if there is room for it
abbrev pub room_for : Unread → NominalTerm → Unread → Result (NominalTerm × Unread) Wrong
room_for p t q =
    if nat_lt q.room (expanded_size t) then Err (wrong Expanded p)
    else Ok (t, record q { room = q.room - expanded_size t })

-- a term by its number in the table
unfoldable pub read_shared : List NominalTerm → Reader NominalTerm
read_shared table p = on_ok (read_form Term (shared_form table) p) (λ t. room_for p t.0 t.1)

-- the place behind a term that is cited, if that alone is small enough
abbrev pub if_small_alone : Unread → NominalTerm → Unread → Result (NominalTerm × Unread) Wrong
if_small_alone p t q = if nat_lt room_at_first (expanded_size t) then Err (wrong Expanded p) else Ok (t, q)

-- the same where the terms may be as large as that each, and not only together
unfoldable pub read_cited : List NominalTerm → Reader NominalTerm
read_cited table p = on_ok (read_form Term (shared_form table) p) (λ t. if_small_alone p t.0 t.1)
