-- The lines of a report need no bindings but those that are shown.
use Rattle.std.proofs.Common.{◌≡◌, ℕ, zero, suc, ◌+◌, ◌<◌, Bool, true, false, ◌||◌, ◌&&◌, List, [], ◌∷◌, ◌++◌, map, filter, length, get_or, drop, refl, sym, ap, ap₂, ◌∙◌, add-one, arith, drop-cons}
use Rattle.std.proofs.lemmas.Bool.Decides.{nat_tests}
use Rattle.std.proofs.lemmas.List.{nil_from_length}
use Rattle.std.specs.Prelude.{◌==◌, codes, if◌then◌else◌}
use Rattle.std.specs.Fmt.{decimal}
use Rattle.std.specs.Str.{bytes_eq}
use Rattle.ap_defs.specs.Answers as answers
use Rattle.ap_defs.specs.Answers.{NominalAnswer, NominalOut, closed_term, query_outs}
use Rattle.ap_defs.specs.Freshness.{Conds}
use Rattle.ap_defs.specs.Goals.{Clauses, NominalProgram, NominalQuery}
use Rattle.ap_defs.specs.Lines.{Line, ShownBind, answer, answer_text, count_of, cuts, ended, is_cut, is_found, is_stuck, line_before, line_text, lines_of, name_texts, printed_before, query_lines, shown_binds, shown_text, sort_conds, stucks, terms_of_binds, text_of_name, text_of_var, totals_text, var_texts}
use Rattle.ap_defs.specs.Occurrences.{names_of_terms, vars_of_terms}
use Rattle.ap_defs.specs.Paths.{Mark, marked_query}
use Rattle.ap_defs.specs.Permutations.{has_name}
use Rattle.ap_defs.specs.Printing.{Spelling, first_names, first_vars, name_word, new_words, var_word}
use Rattle.ap_defs.specs.Renaming.{local_names, local_vars, name_unless, var_unless}
use Rattle.ap_defs.specs.Resolution.{State, chose, cut, first_state, found, stuck}
use Rattle.ap_defs.specs.Terms.{NominalTerm, susp}
use Rattle.ap_defs.specs.Types as types
use Rattle.ap_defs.specs.Types.{NominalKind, NominalLocal, local_of, locals_of}
use Rattle.ap_defs.specs.Unification.{has_var}
use Rattle.ap_defs.specs.declared.goals.Local.{Local}
use Rattle.ap_defs.specs.declared.terms.Name.{Name}
use Rattle.ap_defs.specs.declared.terms.Var.{Var}
use Rattle.ap_program.specs.FreeLocals.{is_free_var, var_when}
use Rattle.ap_program.specs.Typed.{IsTypedProgram, IsTypedQuery, term_form}
use Rattle.ap_search.proofs.ContinuationLemmas.{follow, marked_solve_follows}
use Rattle.ap_search.proofs.MarkLemmas.{marks_stack}
use Rattle.ap_search.specs.Continuations.{answer_then, stack_outs}
use Rattle.ap_search.specs.Marks.{choice, outs_among, with_choices}
use Rattle.ap_search.specs.Records.{Answering, vars_brought}
use Rattle.ap_machine.proofs.UnboundLemmas.{stack_by_unbound}
use Rattle.ap_machine.specs.Asking.{answer_alone}
use Rattle.ap_machine.specs.Positions.{outs_from}
use Rattle.ap_machine.specs.Unbound.{answer_by_unbound}
use Rattle.ap_backchain.specs.Ends.{without_path}
use Rattle.ap_backchain.specs.Starts.{first_position}
use Rattle.ap_paths.specs.Limits.{first_part, is_answer_out, part}
use Rattle.ap_paths.specs.declared.limits.Limit.{Limit}
use Rattle.ap_paths.specs.declared.limits.Limit.TheVariants as limits
use Rattle.ap_stream.specs.Shown.{IsHeading, is_unshown, shown_local, shown_locals}

-- Outputs with something made of their answers.
module _ (f : NominalAnswer → NominalAnswer) where
  abbrev pub on_answer : NominalOut → NominalOut
  on_answer (answers.found p a) = answers.found p (f a)
  on_answer (answers.cut p) = answers.cut p
  on_answer (answers.stuck p) = answers.stuck p

  abbrev on_line : Line → Line
  on_line (answer a) = answer (f a)
  on_line (cuts n) = cuts n
  on_line (stucks n) = stucks n

  line_on : (o : NominalOut) (ls : List Line) → line_before (on_answer o) (map on_line ls) ≡ map on_line (line_before o ls)
  line_on (answers.found p a) ls = refl
  line_on (answers.cut p) [] = refl
  line_on (answers.cut p) (answer a ∷ ls) = refl
  line_on (answers.cut p) (cuts n ∷ ls) = refl
  line_on (answers.cut p) (stucks n ∷ ls) = refl
  line_on (answers.stuck p) [] = refl
  line_on (answers.stuck p) (answer a ∷ ls) = refl
  line_on (answers.stuck p) (cuts n ∷ ls) = refl
  line_on (answers.stuck p) (stucks n ∷ ls) = refl

  lines_on : (os : List NominalOut) → lines_of (map on_answer os) ≡ map on_line (lines_of os)
  lines_on [] = refl
  lines_on (o ∷ os) = ap (line_before (on_answer o)) (lines_on os) ∙ line_on o (lines_of os)

  found_on : (o : NominalOut) → is_found (on_answer o) ≡ is_found o
  found_on (answers.found p a) = refl
  found_on (answers.cut p) = refl
  found_on (answers.stuck p) = refl

  cut_on : (o : NominalOut) → is_cut (on_answer o) ≡ is_cut o
  cut_on (answers.found p a) = refl
  cut_on (answers.cut p) = refl
  cut_on (answers.stuck p) = refl

  stuck_on : (o : NominalOut) → is_stuck (on_answer o) ≡ is_stuck o
  stuck_on (answers.found p a) = refl
  stuck_on (answers.cut p) = refl
  stuck_on (answers.stuck p) = refl

  count_on : (test : NominalOut → Bool) → ((o : NominalOut) → test (on_answer o) ≡ test o) → (os : List NominalOut) → count_of test (map on_answer os) ≡ count_of test os
  count_on test h [] = refl
  count_on test h (o ∷ os) =
      ap (λ b. length (if b then (on_answer o ∷ filter test (map on_answer os)) else filter test (map on_answer os))) (h o)
      ∙ elim (test o) as (λ b. length (if b then (on_answer o ∷ filter test (map on_answer os)) else filter test (map on_answer os)) ≡ length (if b then (o ∷ filter test os) else filter test os)) [
        | true ↦ ap suc (count_on test h os)
        | false ↦ count_on test h os
      ]

  totals_on : (k : ℕ) (os : List NominalOut) → totals_text k (map on_answer os) ≡ totals_text k os
  totals_on k os =
      ap (λ n. codes "% query " ++ decimal k ++ codes ": " ++ decimal n ++ codes " answers, " ++ decimal (count_of is_cut (map on_answer os)) ++ codes " cut, " ++ decimal (count_of is_stuck (map on_answer os)) ++ codes " stuck") (count_on is_found found_on os)
      ∙ ap (λ n. codes "% query " ++ decimal k ++ codes ": " ++ decimal (count_of is_found os) ++ codes " answers, " ++ decimal n ++ codes " cut, " ++ decimal (count_of is_stuck (map on_answer os)) ++ codes " stuck") (count_on is_cut cut_on os)
      ∙ ap (λ n. codes "% query " ++ decimal k ++ codes ": " ++ decimal (count_of is_found os) ++ codes " answers, " ++ decimal (count_of is_cut os) ++ codes " cut, " ++ decimal n ++ codes " stuck") (count_on is_stuck stuck_on os)

  answer_on : (o : NominalOut) → is_answer_out (on_answer o) ≡ is_answer_out o
  answer_on (answers.found p a) = refl
  answer_on (answers.cut p) = refl
  answer_on (answers.stuck p) = refl

  part_on : (n : ℕ) (os : List NominalOut) → first_part n (map on_answer os) ≡ map on_answer (first_part n os)
  part_on zero os = refl
  part_on (suc n) [] = refl
  part_on (suc n) (o ∷ os) =
      ap (λ b. on_answer o ∷ first_part (if b then n else suc n) (map on_answer os)) (answer_on o)
      ∙ ap (λ rs. on_answer o ∷ rs) (part_on (if is_answer_out o then n else suc n) os)

  path_on : (os : List NominalOut) → map without_path (map on_answer os) ≡ map on_answer (map without_path os)
  path_on [] = refl
  path_on (answers.found p a ∷ os) = ap (λ rs. answers.found [] (f a) ∷ rs) (path_on os)
  path_on (answers.cut p ∷ os) = ap (λ rs. answers.cut [] ∷ rs) (path_on os)
  path_on (answers.stuck p ∷ os) = ap (λ rs. answers.stuck [] ∷ rs) (path_on os)

  -- what is wanted of them
  wanted_on : (limit : Limit) (os : List NominalOut) → map without_path (part limit (map on_answer os)) ≡ map on_answer (map without_path (part limit os))
  wanted_on limits.All os = path_on os
  wanted_on (limits.First n) os = ap (map without_path) (part_on n os) ∙ path_on (first_part n os)

  -- where it leaves the texts as they are, it leaves the report as it is
  module _ (program : NominalProgram) (ls ms : List NominalLocal) (same : (a : NominalAnswer) → answer_text program ls a ≡ answer_text program ms (f a)) where
    texts_on : (xs : List Line) → map (line_text program ls) xs ≡ map (line_text program ms) (map on_line xs)
    texts_on [] = refl
    texts_on (answer a ∷ xs) = ap₂ (λ t ts. t ∷ ts) (same a) (texts_on xs)
    texts_on (cuts n ∷ xs) = ap (λ ts. line_text program ls (cuts n) ∷ ts) (texts_on xs)
    texts_on (stucks n ∷ xs) = ap (λ ts. line_text program ls (stucks n) ∷ ts) (texts_on xs)

    report_on : (k : ℕ) (os : List NominalOut) → query_lines program k ls os ≡ query_lines program k ms (map on_answer os)
    report_on k os =
        ap₂ (λ ts t. ended (ts ++ t ∷ [])) (texts_on (lines_of os) ∙ ap (map (line_text program ms)) (sym (lines_on os))) (sym (totals_on k os))

-- What of an answer is shown.
abbrev seen : List NominalLocal → NominalAnswer → NominalAnswer
seen ls a = record { binds = terms_of_binds (shown_binds (var_texts ls) a.binds); conds = a.conds; vars = [] }

none_bound : (ws : List (List ℕ)) → shown_binds ws [] ≡ []
none_bound [] = refl
none_bound (w ∷ ws) = refl

shown_again_more : (b : Bool) (k : NominalKind) (w : List ℕ) (ws vs : List (List ℕ)) → ((us : List NominalTerm) → shown_binds vs (terms_of_binds (shown_binds ws us)) ≡ shown_binds ws us) → (ts : List NominalTerm)
    → shown_binds (text_of_var (b || (var_when b k && bytes_eq w (codes "_"))) k w vs) (terms_of_binds (shown_binds (text_of_var b k w ws) ts)) ≡ shown_binds (text_of_var b k w ws) ts
shown_again_more true k w ws vs h ts = h ts
shown_again_more false (types.name s) w ws vs h ts = h ts
shown_again_more false (types.var t) w ws vs h [] = none_bound (text_of_var (bytes_eq w (codes "_")) (types.var t) w vs)
shown_again_more false (types.var t) w ws vs h (u ∷ us) =
    elim (bytes_eq w (codes "_")) as (λ c. bytes_eq w (codes "_") ≡ c → shown_binds (text_of_var c (types.var t) w vs) (terms_of_binds (if c then shown_binds ws us else ((w, u) ∷ shown_binds ws us))) ≡ (if c then shown_binds ws us else ((w, u) ∷ shown_binds ws us))) [
      | true ↦ λ e. h us
      | false ↦ λ e.
          ap (λ c. if c then shown_binds vs (terms_of_binds (shown_binds ws us)) else ((w, u) ∷ shown_binds vs (terms_of_binds (shown_binds ws us)))) e
          ∙ ap (λ (ds : List ShownBind). (w, u) ∷ ds) (h us)
    ] refl

-- the texts of what is shown are those of the bindings that are shown
shown_again : (ls : List NominalLocal) (ts : List NominalTerm) → shown_binds (var_texts (shown_locals ls)) (terms_of_binds (shown_binds (var_texts ls) ts)) ≡ shown_binds (var_texts ls) ts
shown_again [] ts = refl
shown_again (l ∷ ls) ts = shown_again_more l.bound l.kind l.text (var_texts ls) (var_texts (shown_locals ls)) (shown_again ls) ts

module _ (f : Var → NominalTerm) where
  seen_more : (b : Bool) (k : NominalKind) (w : List ℕ) (n : ℕ) (ws : List (List ℕ)) (xs ys : List Var) → terms_of_binds (shown_binds ws (map f xs)) ≡ map f ys
      → terms_of_binds (shown_binds (text_of_var b k w ws) (map f (var_unless b k n xs))) ≡ map f (var_unless (b || (var_when b k && bytes_eq w (codes "_"))) k n ys)
  seen_more true k w n ws xs ys h = h
  seen_more false (types.name s) w n ws xs ys h = h
  seen_more false (types.var t) w n ws xs ys h =
      let x : Var = record { num = n } in
      elim (bytes_eq w (codes "_")) as (λ c. terms_of_binds (if c then shown_binds ws (map f xs) else ((w, f x) ∷ shown_binds ws (map f xs))) ≡ map f (var_unless c (types.var t) n ys)) [
        | true ↦ h
        | false ↦ ap (λ ts. f x ∷ ts) h
      ]

  -- what is shown of the bindings of all is that of those that are shown
  seen_vars : (n : ℕ) (ls : List NominalLocal) → terms_of_binds (shown_binds (var_texts ls) (map f (local_vars n ls))) ≡ map f (local_vars n (shown_locals ls))
  seen_vars n [] = refl
  seen_vars n (l ∷ ls) = seen_more l.bound l.kind l.text n (var_texts ls) (local_vars (suc n) ls) (local_vars (suc n) (shown_locals ls)) (seen_vars (suc n) ls)

name_more : (b c : Bool) (k : NominalKind) (n : ℕ) (as' : List Name) → name_unless (b || (var_when b k && c)) k n as' ≡ name_unless b k n as'
name_more true c k n as' = refl
name_more false c (types.name s) n as' = refl
name_more false true (types.var t) n as' = refl
name_more false false (types.var t) n as' = refl

names_shown : (n : ℕ) (ls : List NominalLocal) → local_names n (shown_locals ls) ≡ local_names n ls
names_shown n [] = refl
names_shown n (l ∷ ls) = ap (name_unless (shown_local l).bound l.kind n) (names_shown (suc n) ls) ∙ name_more l.bound (bytes_eq l.text (codes "_")) l.kind n (local_names (suc n) ls)

text_more : (b c : Bool) (k : NominalKind) (w : List ℕ) (ws : List (List ℕ)) → text_of_name (b || (var_when b k && c)) k w ws ≡ text_of_name b k w ws
text_more true c k w ws = refl
text_more false c (types.name s) w ws = refl
text_more false true (types.var t) w ws = refl
text_more false false (types.var t) w ws = refl

texts_shown : (ls : List NominalLocal) → name_texts (shown_locals ls) ≡ name_texts ls
texts_shown [] = refl
texts_shown (l ∷ ls) = ap (text_of_name (shown_local l).bound l.kind l.text) (texts_shown ls) ∙ text_more l.bound (bytes_eq l.text (codes "_")) l.kind l.text (name_texts ls)

-- the text of an answer by the query's free names, their texts, and what is shown
abbrev text_by : NominalProgram → List Name → List (List ℕ) → List ShownBind → Conds → List ℕ
text_by program names texts binds conds =
    let ts = terms_of_binds binds in
    let others = first_names names (names_of_terms ts) in
    let vars = first_vars [] (vars_of_terms ts) in
    let by : Spelling = record {
      names = name_word names texts (name_word others (new_words (codes "n") program.words (length others)) (λ a. []));
      vars = var_word vars (new_words (codes "_") program.words (length vars));
      constructors = program.signature.constructors;
    } in
    shown_text by binds (sort_conds (printed_before (names ++ others) vars) (filter (λ c. has_var c.var (vars_of_terms ts) && (has_name c.name (names_of_terms ts) || has_name c.name names)) conds))

seen_text : (program : NominalProgram) (ls : List NominalLocal) (a : NominalAnswer) → answer_text program ls a ≡ answer_text program (shown_locals ls) (seen ls a)
seen_text program ls a =
    ap (λ names. text_by program names (name_texts ls) (shown_binds (var_texts ls) a.binds) a.conds) (sym (names_shown zero ls))
    ∙ ap₂ (λ texts binds. text_by program (local_names zero (shown_locals ls)) texts binds a.conds) (sym (texts_shown ls)) (sym (shown_again ls a.binds))

-- Outputs by what is answered in each state that was found.
module _ (f : NominalAnswer → NominalAnswer) (answering others : Answering) (same : (s : State) (xs : List Var) → f (answering s xs) ≡ others s xs) where
  found_same : (ms : List Mark)
      → map (on_answer f) (outs_among (follow with_choices choice (answer_then with_choices answering) [] [] ms)) ≡ outs_among (follow with_choices choice (answer_then with_choices others) [] [] ms)
  found_same [] = refl
  found_same (found q s d ∷ ms) = ap₂ (λ a os. answers.found q a ∷ os) (same s (vars_brought d)) (found_same ms)
  found_same (cut q ∷ ms) = ap (λ os. answers.cut q ∷ os) (found_same ms)
  found_same (stuck q ∷ ms) = ap (λ os. answers.stuck q ∷ os) (found_same ms)
  found_same (chose q c ∷ ms) = found_same ms

  outs_same : (program : Clauses) (d : ℕ) (q : NominalQuery)
      → map (on_answer f) (stack_outs program answering (record { goal = q.goal; depth = d } ∷ []) [] (first_state q) []) ≡ stack_outs program others (record { goal = q.goal; depth = d } ∷ []) [] (first_state q) []
  outs_same program d q =
      ap (map (on_answer f)) (sym (marks_stack program answering (record { goal = q.goal; depth = d } ∷ []) [] (first_state q) []) ∙ ap outs_among (marked_solve_follows program d q.goal (answer_then with_choices answering) [] (first_state q) []))
      ∙ found_same (marked_query program d q)
      ∙ sym (ap outs_among (marked_solve_follows program d q.goal (answer_then with_choices others) [] (first_state q) [])) ∙ marks_stack program others (record { goal = q.goal; depth = d } ∷ []) [] (first_state q) []

-- The report on a query by the outputs of a search that makes no bindings but those that are shown.
module _ (program : NominalProgram) (typed : IsTypedProgram program) (d : ℕ) (q : NominalQuery) (asked : IsTypedQuery term_form program.signature q) (limit : Limit) (k : ℕ) where
  abbrev wanted : List NominalOut → List NominalOut
  wanted os = map without_path (part limit os)

  pub shown_suffices : query_lines program k (shown_locals q.locals) (map without_path (part limit (outs_from program.clauses (answer_alone (shown_locals q.locals)) (first_position d q))))
      ≡ query_lines program k q.locals (map without_path (part limit (query_outs program.clauses d q)))
  shown_suffices =
      let ls = q.locals in
      let ms = shown_locals ls in
      let all = outs_from program.clauses (answer_by_unbound ls) (first_position d q) in
      let f = seen ls in
      ap (query_lines program k ms)
      (ap wanted (sym (outs_same f (answer_by_unbound ls) (answer_alone ms) (λ s xs. ap (λ ts. record { binds = ts; conds = s.conditions; vars = [] }) (seen_vars (λ x. closed_term s (susp [] x)) zero ls)) program.clauses d q))
      ∙ wanted_on f limit all)
      ∙ sym (report_on f program ls ms (seen_text program ls) k (wanted all))
      ∙ ap (λ os. query_lines program k ls (wanted os)) (stack_by_unbound program typed d q asked)

-- Other identifiers with which the lines of answers are the same.
module _ (program : NominalProgram) (hs ls : List NominalLocal) (h : IsHeading hs ls) where
  heading_text : (a : NominalAnswer) → answer_text program hs a ≡ answer_text program ls a
  heading_text a =
      ap (λ names. text_by program names (name_texts hs) (shown_binds (var_texts hs) a.binds) a.conds) h.1
      ∙ ap₂ (λ texts words. text_by program (local_names zero ls) texts (shown_binds words a.binds) a.conds) h.2 h.0

  heading_lines : (xs : List Line) → map (line_text program hs) xs ≡ map (line_text program ls) xs
  heading_lines [] = refl
  heading_lines (answer a ∷ xs) = ap₂ (λ t ts. t ∷ ts) (heading_text a) (heading_lines xs)
  heading_lines (cuts n ∷ xs) = ap (λ ts. line_text program hs (cuts n) ∷ ts) (heading_lines xs)
  heading_lines (stucks n ∷ xs) = ap (λ ts. line_text program hs (stucks n) ∷ ts) (heading_lines xs)

  pub heading_suffices : (k : ℕ) (os : List NominalOut) → query_lines program k hs os ≡ query_lines program k ls os
  heading_suffices k os = ap (λ ts. ended (ts ++ totals_text k os ∷ [])) (heading_lines (lines_of os))

pub heading_itself : (ls : List NominalLocal) → IsHeading ls ls
heading_itself ls = (refl, refl, refl)

-- The free variables alone, where no names are free.
vars_more : (b : Bool) (k : NominalKind) (w : List ℕ) (xs ls : List NominalLocal) → var_texts xs ≡ var_texts ls
    → var_texts (if var_when b k then (record { kind = k; bound = b; text = w } ∷ xs) else xs) ≡ text_of_var b k w (var_texts ls)
vars_more true k w xs ls h = h
vars_more false (types.name s) w xs ls h = h
vars_more false (types.var t) w xs ls h = ap (λ ws. w ∷ ws) h

texts_of_vars : (ls : List NominalLocal) → var_texts (filter is_free_var ls) ≡ var_texts ls
texts_of_vars [] = refl
texts_of_vars (l ∷ ls) = vars_more l.bound l.kind l.text (filter is_free_var ls) ls (texts_of_vars ls)

names_more : (b : Bool) (k : NominalKind) (w : List ℕ) (n : ℕ) (xs : List NominalLocal) → ((m : ℕ) → local_names m xs ≡ [])
    → local_names n (if var_when b k then (record { kind = k; bound = b; text = w } ∷ xs) else xs) ≡ []
names_more true k w n xs h = h n
names_more false (types.name s) w n xs h = h n
names_more false (types.var t) w n xs h = h (suc n)

names_of_vars : (ls : List NominalLocal) (n : ℕ) → local_names n (filter is_free_var ls) ≡ []
names_of_vars [] n = refl
names_of_vars (l ∷ ls) n = names_more l.bound l.kind l.text n (filter is_free_var ls) (names_of_vars ls)

words_more : (b : Bool) (k : NominalKind) (w : List ℕ) (xs : List NominalLocal) → name_texts xs ≡ []
    → name_texts (if var_when b k then (record { kind = k; bound = b; text = w } ∷ xs) else xs) ≡ []
words_more true k w xs h = h
words_more false (types.name s) w xs h = h
words_more false (types.var t) w xs h = h

words_of_vars : (ls : List NominalLocal) → name_texts (filter is_free_var ls) ≡ []
words_of_vars [] = refl
words_of_vars (l ∷ ls) = words_more l.bound l.kind l.text (filter is_free_var ls) (words_of_vars ls)

none_more : (b : Bool) (k : NominalKind) (w : List ℕ) (n : ℕ) (ws : List (List ℕ)) (as' : List Name) → text_of_name b k w ws ≡ [] → (ws ≡ [] → as' ≡ []) → name_unless b k n as' ≡ []
none_more true k w n ws as' h g = g h
none_more false (types.name s) w n ws as' h g = absurd (cc)
none_more false (types.var t) w n ws as' h g = g h

no_names : (ls : List NominalLocal) → name_texts ls ≡ [] → (n : ℕ) → local_names n ls ≡ []
no_names [] h n = refl
no_names (l ∷ ls) h n = none_more l.bound l.kind l.text n (name_texts ls) (local_names (suc n) ls) h (λ k. no_names ls k (suc n))

pub heading_of_vars : (hs ls : List NominalLocal) → hs ≡ filter is_free_var ls → name_texts ls ≡ [] → IsHeading hs ls
heading_of_vars hs ls e h = (
  ap var_texts e ∙ texts_of_vars ls,
  ap (local_names 0) e ∙ names_of_vars ls 0 ∙ sym (no_names ls h 0),
  ap name_texts e ∙ words_of_vars ls ∙ sym h,
)

or_nothing : (x : Bool) → (x || false) ≡ x
or_nothing true = refl
or_nothing false = refl

-- an identifier more that stays as it is
pub shown_front : (ls : List Local) (l : Local) (i : ℕ) → i < length ls → l ≡ get_or ls i l → is_unshown (local_of l) ≡ false
    → shown_locals (locals_of (drop (i + 1) ls)) ≡ locals_of (drop (i + 1) ls) → shown_locals (locals_of (drop i ls)) ≡ locals_of (drop i ls)
shown_front ls l i h e u k =
    let first : drop i ls ≡ l ∷ drop (i + 1) ls = drop-cons ls i l h ∙ ap (λ (x : Local). x ∷ drop (suc i) ls) (sym e) ∙ ap (λ n. l ∷ drop n ls) (sym (add-one i)) in
    let same : shown_local (local_of l) ≡ local_of l =
    ap (λ b. record (local_of l) { bound = l.bound || b }) u ∙ ap (λ b. record (local_of l) { bound = b }) (or_nothing l.bound) in
    ap (λ (ks : List Local). shown_locals (locals_of ks)) first ∙ ap₂ (λ (x : NominalLocal) (xs : List NominalLocal). x ∷ xs) same k ∙ sym (ap locals_of first)

number_none : (n : ℕ) → (n == 0) ≡ true → n ≡ 0
number_none n h = grind (arith, nat_tests)

pub list_none : {A : Type 0} (xs : List A) → (length xs == 0) ≡ true → xs ≡ []
list_none xs h = nil_from_length xs (number_none (length xs) h)
