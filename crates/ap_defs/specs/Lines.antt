-- The lines of a report: one for each answer, for each longest run of cuts and of stuck branches, and
-- for each query the totals.
use Rattle.std.specs.Prelude.{ℕ, zero, suc, Bool, true, false, ◌&&◌, ◌||◌, not, if◌then◌else◌, List, [], ◌∷◌, ◌++◌, length, map, filter, codes}
use Rattle.std.specs.Str.{bytes_eq}
use Rattle.std.specs.Fmt.{decimal}
use Rattle.ap_defs.specs.declared.terms.Name.{Name}
use Rattle.ap_defs.specs.declared.terms.Var.{Var}
use Rattle.ap_defs.specs.declared.terms.Cond.{Cond}
use Rattle.ap_defs.specs.Permutations.{name_eq, has_name}
use Rattle.ap_defs.specs.Freshness.{Conds, var_eq}
use Rattle.ap_defs.specs.Unification.{has_var}
use Rattle.ap_defs.specs.Terms.{NominalTerm}
use Rattle.ap_defs.specs.Types as types
use Rattle.ap_defs.specs.Types.{NominalKind, NominalLocal}
use Rattle.ap_defs.specs.Goals.{NominalQuery, NominalProgram}
use Rattle.ap_defs.specs.Occurrences.{names_of_terms, vars_of_terms}
use Rattle.ap_defs.specs.Renaming.{local_names}
use Rattle.ap_defs.specs.Answers.{NominalAnswer, NominalOut, found, cut, stuck, query_outs}
use Rattle.ap_defs.specs.Printing.{Spelling, term_text, new_words, first_names, first_vars, name_word, var_word}

-- the spellings of an item's free variables, and of its free names, in order
abbrev pub text_of_var : Bool → NominalKind → List ℕ → List (List ℕ) → List (List ℕ)
text_of_var false (types.var t) text rest = text ∷ rest
text_of_var _ _ text rest = rest

abbrev pub var_texts : List NominalLocal → List (List ℕ)
var_texts [] = []
var_texts (l ∷ ls) = text_of_var l.bound l.kind l.text (var_texts ls)

abbrev pub text_of_name : Bool → NominalKind → List ℕ → List (List ℕ) → List (List ℕ)
text_of_name false (types.name s) text rest = text ∷ rest
text_of_name _ _ text rest = rest

abbrev pub name_texts : List NominalLocal → List (List ℕ)
name_texts [] = []
name_texts (l ∷ ls) = text_of_name l.bound l.kind l.text (name_texts ls)

-- A binding that is shown: the variable's spelling, and its term.
abbrev pub ShownBind : Type 0
ShownBind = List ℕ × NominalTerm

-- the bindings of variables other than `_`
abbrev pub shown_binds : List (List ℕ) → List NominalTerm → List ShownBind
shown_binds (w ∷ ws) (t ∷ ts) = if bytes_eq w (codes "_") then shown_binds ws ts else ((w, t) ∷ shown_binds ws ts)
shown_binds _ _ = []

abbrev pub terms_of_binds : List ShownBind → List NominalTerm
terms_of_binds = map (λ b. b.1)

-- What is shown of an answer: bindings, conditions, and the names and variables that print as generated.
pub record NominalShown : Type 0 where
  pub binds : List ShownBind
  pub conds : Conds
  pub names : List Name
  pub vars : List Var

-- the condition's variable occurs in the shown terms, and its name does or is a free name of the query
abbrev pub is_shown_cond : List NominalLocal → List NominalTerm → Cond → Bool
is_shown_cond locals ts c =
    has_var c.var (vars_of_terms ts) && (has_name c.name (names_of_terms ts) || has_name c.name (local_names zero locals))

-- a name comes before another in a list
abbrev pub comes_first : List Name → Name → Name → Bool
comes_first [] a b = false
comes_first (c ∷ cs) a b = if name_eq c a then not (name_eq c b) else (if name_eq c b then false else comes_first cs a b)

abbrev pub var_comes_first : List Var → Var → Var → Bool
var_comes_first [] x y = false
var_comes_first (z ∷ zs) x y = if var_eq z x then not (var_eq z y) else (if var_eq z y then false else var_comes_first zs x y)

-- conditions are printed in order of the printed variable, and then of the name
abbrev pub printed_before : List Name → List Var → Cond → Cond → Bool
printed_before names vars c d = if var_eq c.var d.var then comes_first names c.name d.name else var_comes_first vars c.var d.var

abbrev pub insert_cond : (Cond → Cond → Bool) → Cond → Conds → Conds
insert_cond before c [] = c ∷ []
insert_cond before c (d ∷ ds) = if before c d then (c ∷ d ∷ ds) else (d ∷ insert_cond before c ds)

abbrev pub sort_conds : (Cond → Cond → Bool) → Conds → Conds
sort_conds before [] = []
sort_conds before (c ∷ cs) = insert_cond before c (sort_conds before cs)

-- what is shown, by the terms of the shown bindings
abbrev pub shown_of : List NominalLocal → Conds → List ShownBind → NominalShown
shown_of locals conds binds =
    let ts = terms_of_binds binds in
    let names = first_names (local_names zero locals) (names_of_terms ts) in
    let vars = first_vars [] (vars_of_terms ts) in
    record {
      binds = binds;
      conds = sort_conds (printed_before (local_names zero locals ++ names) vars) (filter (is_shown_cond locals ts) conds);
      names = names;
      vars = vars;
    }

abbrev pub shown_in : List NominalLocal → NominalAnswer → NominalShown
shown_in locals a = shown_of locals a.conds (shown_binds (var_texts locals) a.binds)

-- a query's free name is written as it is spelled, and other names and variables as n1, n2, .. and _1, _2, ..,
-- leaving out the words of the text
abbrev pub spelling_for : NominalProgram → List NominalLocal → NominalShown → Spelling
spelling_for program locals s = record {
  names = name_word (local_names zero locals) (name_texts locals) (name_word s.names (new_words (codes "n") program.words (length s.names)) (λ a. []));
  vars = var_word s.vars (new_words (codes "_") program.words (length s.vars));
  constructors = program.signature.constructors;
}

abbrev pub bind_text : Spelling → ShownBind → List ℕ
bind_text by b = b.0 ++ codes " = " ++ term_text by b.1

abbrev pub cond_text : Spelling → Cond → List ℕ
cond_text by c = by.names c.name ++ codes " # " ++ by.vars c.var

-- texts with a comma and a space between
abbrev pub comma_joined : List (List ℕ) → List ℕ
comma_joined [] = []
comma_joined (w ∷ []) = w
comma_joined (w ∷ v ∷ vs) = w ++ codes ", " ++ comma_joined (v ∷ vs)

abbrev pub where_text : Spelling → Conds → List ℕ
where_text by [] = []
where_text by (c ∷ cs) = codes " where " ++ comma_joined (map (cond_text by) (c ∷ cs))

abbrev pub shown_text : Spelling → List ShownBind → Conds → List ℕ
shown_text by [] conds = codes "yes"
shown_text by (b ∷ bs) conds = comma_joined (map (bind_text by) (b ∷ bs)) ++ where_text by conds

-- the text of an answer, without the end of its line
abbrev pub answer_text : NominalProgram → List NominalLocal → NominalAnswer → List ℕ
answer_text program locals a =
    let s = shown_in locals a in shown_text (spelling_for program locals s) s.binds s.conds

-- A line: an answer, or so many cuts or stuck branches in a row.
pub data Line : Type 0 where
  answer : NominalAnswer → Line
  cuts : ℕ → Line
  stucks : ℕ → Line

-- an output before the lines of the outputs that follow it
abbrev pub line_before : NominalOut → List Line → List Line
line_before (found p a) ls = answer a ∷ ls
line_before (cut p) (cuts n ∷ ls) = cuts (suc n) ∷ ls
line_before (cut p) ls = cuts 1 ∷ ls
line_before (stuck p) (stucks n ∷ ls) = stucks (suc n) ∷ ls
line_before (stuck p) ls = stucks 1 ∷ ls

abbrev pub lines_of : List NominalOut → List Line
lines_of [] = []
lines_of (o ∷ os) = line_before o (lines_of os)

abbrev pub line_text : NominalProgram → List NominalLocal → Line → List ℕ
line_text program locals (answer a) = answer_text program locals a
line_text program locals (cuts n) = codes "% cut " ++ decimal n
line_text program locals (stucks n) = codes "% stuck " ++ decimal n

-- each text with the end of its line
abbrev pub ended : List (List ℕ) → List ℕ
ended [] = []
ended (w ∷ ws) = w ++ 10 ∷ ended ws

abbrev pub is_found : NominalOut → Bool
is_found (found p a) = true
is_found _ = false

abbrev pub is_cut : NominalOut → Bool
is_cut (cut p) = true
is_cut _ = false

abbrev pub is_stuck : NominalOut → Bool
is_stuck (stuck p) = true
is_stuck _ = false

abbrev pub count_of : (NominalOut → Bool) → List NominalOut → ℕ
count_of test os = length (filter test os)

-- the totals of the query with this number
abbrev pub totals_text : ℕ → List NominalOut → List ℕ
totals_text k os =
    codes "% query " ++ decimal k ++ codes ": " ++ decimal (count_of is_found os) ++ codes " answers, "
    ++ decimal (count_of is_cut os) ++ codes " cut, " ++ decimal (count_of is_stuck os) ++ codes " stuck"

-- the report of the query with this number
abbrev pub query_lines : NominalProgram → ℕ → List NominalLocal → List NominalOut → List ℕ
query_lines program k locals os = ended (map (line_text program locals) (lines_of os) ++ totals_text k os ∷ [])

-- the report of queries that are numbered from k on, to a depth
abbrev pub report_from : NominalProgram → ℕ → ℕ → List NominalQuery → List ℕ
report_from program depth k [] = []
report_from program depth k (q ∷ qs) =
    query_lines program k q.locals (query_outs program.clauses depth q) ++ report_from program depth (suc k) qs

-- the report of a program to a depth
abbrev pub program_report : NominalProgram → ℕ → List ℕ
program_report program depth = report_from program depth 1 program.queries
