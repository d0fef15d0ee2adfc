-- The report on a program is that of its queries, one after the other.
use Rattle.std.proofs.Common.{◌≡◌, ◌<◌, ◌≤◌, ◌+◌, ◌-◌, ℕ, zero, suc, List, [], ◌∷◌, ◌++◌, Some, length, drop, slice_get, map, refl, sym, ap, ◌∙◌, arith}
use Rattle.std.specs.Prelude.{codes}
use Rattle.std.specs.Fmt.{decimal}
use Rattle.std.proofs.lemmas.List.{append_assoc}
use Rattle.ap_defs.specs.Goals.{NominalQuery, NominalProgram}
use Rattle.ap_defs.specs.Answers.{NominalOut, cut, found, query_outs, stuck}
use Rattle.ap_defs.specs.Types.{NominalLocal}
use Rattle.ap_defs.specs.Lines.{Line, answer, count_of, cuts, ended, is_cut, is_found, is_stuck, line_before, line_text, lines_of, program_report, query_lines, report_from, stucks}
use Rattle.ap_backchain.specs.Ends.{without_path}
use Rattle.ap_paths.specs.Limits.{part}
use Rattle.ap_paths.specs.declared.limits.Limit.{Limit}
use Rattle.ap_paths.specs.declared.limits.Limit.TheVariants as limits
use Rattle.ap_answers.specs.Queries.{locals_at, query_locals}
use Rattle.ap_report.specs.Queries.{limited_from, limited_lines, limited_report, query_report, report_at}
use Rattle.ap_report.proofs.WithoutPaths.{count_without, cut_without, found_without, stuck_without}

-- Lines do not tell the paths of outputs.
line_sees_no_path : (o : NominalOut) (ls : List Line) → line_before (without_path o) ls ≡ line_before o ls
line_sees_no_path (found p a) ls = refl
line_sees_no_path (cut p) [] = refl
line_sees_no_path (cut p) (answer a ∷ ls) = refl
line_sees_no_path (cut p) (cuts n ∷ ls) = refl
line_sees_no_path (cut p) (stucks n ∷ ls) = refl
line_sees_no_path (stuck p) [] = refl
line_sees_no_path (stuck p) (answer a ∷ ls) = refl
line_sees_no_path (stuck p) (cuts n ∷ ls) = refl
line_sees_no_path (stuck p) (stucks n ∷ ls) = refl

lines_without : (os : List NominalOut) → lines_of (map without_path os) ≡ lines_of os
lines_without [] = refl
lines_without (o ∷ os) = line_sees_no_path o (lines_of (map without_path os)) ∙ ap (line_before o) (lines_without os)

-- the lines of a query by what its lines and its totals are
abbrev lines_by : NominalProgram → ℕ → List NominalLocal → List Line → ℕ → ℕ → ℕ → List ℕ
lines_by program k locals ls n c s =
    ended (map (line_text program locals) ls ++ (codes "% query " ++ decimal k ++ codes ": " ++ decimal n ++ codes " answers, " ++ decimal c ++ codes " cut, " ++ decimal s ++ codes " stuck") ∷ [])

lines_alone : (program : NominalProgram) (k : ℕ) (locals : List NominalLocal) (os : List NominalOut) → query_lines program k locals (map without_path os) ≡ query_lines program k locals os
lines_alone program k locals os =
    ap (λ ls. lines_by program k locals ls (count_of is_found (map without_path os)) (count_of is_cut (map without_path os)) (count_of is_stuck (map without_path os))) (lines_without os)
    ∙ ap (λ n. lines_by program k locals (lines_of os) n (count_of is_cut (map without_path os)) (count_of is_stuck (map without_path os))) (count_without is_found found_without os)
    ∙ ap (λ n. lines_by program k locals (lines_of os) (count_of is_found os) n (count_of is_stuck (map without_path os))) (count_without is_cut cut_without os)
    ∙ ap (λ n. lines_by program k locals (lines_of os) (count_of is_found os) (count_of is_cut os) n) (count_without is_stuck stuck_without os)

lines_see_no_paths : (program : NominalProgram) (k : ℕ) (locals : List NominalLocal) (os qs : List NominalOut) → os ≡ map without_path qs
    → query_lines program k locals os ≡ query_lines program k locals qs
lines_see_no_paths program k locals os qs e = ap (query_lines program k locals) e ∙ lines_alone program k locals qs

-- the lines of the query at a place, where these are its outputs as far as they are wanted
lines_at : (program : NominalProgram) (depth : ℕ) (limit : Limit) (k : ℕ) (qs : List NominalQuery) (place : ℕ) (os : List NominalOut) → place < length qs
    → ((q : NominalQuery) → slice_get qs place ≡ Some q → os ≡ map without_path (part limit (query_outs program.clauses depth q)))
    → query_lines program (k + place) (locals_at qs place) os ≡ report_at program depth limit k qs place
lines_at program depth limit k [] place os l are = absurd (omega arith)
lines_at program depth limit k (q ∷ qs) zero os l are =
    lines_see_no_paths program (k + 0) q.locals os (part limit (query_outs program.clauses depth q)) (are q refl)
    ∙ ap (λ n. query_lines program n q.locals (part limit (query_outs program.clauses depth q))) (let e : k + 0 ≡ k = omega arith in e)
lines_at program depth limit k (q ∷ qs) (suc place) os l are =
    ap (λ n. query_lines program n (locals_at qs place) os) (let e : k + suc place ≡ suc k + place = omega arith in e)
    ∙ lines_at program depth limit (suc k) qs place os (omega arith) are

pub lines_of_query : (program : NominalProgram) (depth : ℕ) (limit : Limit) (query : ℕ) (os : List NominalOut) → 1 ≤ query → query ≤ length program.queries
    → ((q : NominalQuery) → slice_get program.queries (query - 1) ≡ Some q → os ≡ map without_path (part limit (query_outs program.clauses depth q)))
    → query_lines program query (query_locals program query) os ≡ query_report program depth limit (query - 1)
lines_of_query program depth limit zero os l m are = absurd (omega arith)
lines_of_query program depth limit (suc place) os l m are =
    let here : suc place - 1 ≡ place = omega arith in
    let number : 1 + place ≡ suc place = omega arith in
    rw here (rw number at (lines_at program depth limit 1 program.queries place os (omega arith) (λ q found. are q (rw here found))))

-- the report of the query at a place, where this is what is written of its outputs as far as they are wanted
there : (program : NominalProgram) (depth : ℕ) (limit : Limit) (k : ℕ) (qs : List NominalQuery) (place : ℕ) (bytes : List ℕ) → place < length qs
    → ((q : NominalQuery) → slice_get qs place ≡ Some q → bytes ≡ query_lines program (k + place) q.locals (map without_path (part limit (query_outs program.clauses depth q))))
    → bytes ≡ report_at program depth limit k qs place
there program depth limit k [] place bytes l are = absurd (omega arith)
there program depth limit k (q ∷ qs) zero bytes l are =
    are q refl
    ∙ lines_alone program (k + 0) q.locals (part limit (query_outs program.clauses depth q))
    ∙ ap (λ n. query_lines program n q.locals (part limit (query_outs program.clauses depth q))) (let e : k + 0 ≡ k = omega arith in e)
there program depth limit k (q ∷ qs) (suc place) bytes l are =
    let e : k + suc place ≡ suc k + place = omega arith in
    there program depth limit (suc k) qs place bytes (omega arith)
    (λ r asked. are r asked ∙ ap (λ n. query_lines program n r.locals (map without_path (part limit (query_outs program.clauses depth r)))) e)

pub report_of_query : (program : NominalProgram) (depth : ℕ) (limit : Limit) (query : ℕ) (bytes : List ℕ) → 1 ≤ query → query ≤ length program.queries
    → ((q : NominalQuery) → slice_get program.queries (query - 1) ≡ Some q → bytes ≡ query_lines program query q.locals (map without_path (part limit (query_outs program.clauses depth q))))
    → bytes ≡ query_report program depth limit (query - 1)
report_of_query program depth limit zero bytes l m are = absurd (omega arith)
report_of_query program depth limit (suc place) bytes l m are =
    let here : suc place - 1 ≡ place = omega arith in
    let number : 1 + place ≡ suc place = omega arith in
    rw here (there program depth limit 1 program.queries place bytes (omega arith) (λ q found. rw number (are q (rw here found))))

-- the reports from a place on are that of the query there, and those after it
next_report : (program : NominalProgram) (depth : ℕ) (limit : Limit) (k : ℕ) (qs : List NominalQuery) (place : ℕ) → place < length qs
    → limited_from program depth limit (k + place) (drop place qs)
    ≡ report_at program depth limit k qs place ++ limited_from program depth limit (k + suc place) (drop (suc place) qs)
next_report program depth limit k [] place l = absurd (omega arith)
next_report program depth limit k (q ∷ qs) zero l =
    let e : k + 0 ≡ k = omega arith in
    let f : k + 1 ≡ suc k = omega arith in
    rw e (rw f refl)
next_report program depth limit k (q ∷ qs) (suc place) l =
    let e : k + suc place ≡ suc k + place = omega arith in
    let f : k + suc (suc place) ≡ suc k + suc place = omega arith in
    rw e (rw f (next_report program depth limit (suc k) qs place (omega arith)))

reports_go_on : (program : NominalProgram) (depth : ℕ) (limit : Limit) (place : ℕ) → place < length program.queries
    → limited_from program depth limit (1 + place) (drop place program.queries)
    ≡ query_report program depth limit place ++ limited_from program depth limit (1 + suc place) (drop (suc place) program.queries)
reports_go_on program depth limit place l = next_report program depth limit 1 program.queries place l

pub one_more : (program : NominalProgram) (depth : ℕ) (limit : Limit) (place : ℕ) (old report new : List ℕ) → place < length program.queries
    → new ≡ old ++ report → report ≡ query_report program depth limit (place + 1 - 1)
    → old ++ limited_from program depth limit (1 + place) (drop place program.queries) ≡ limited_report program depth limit
    → new ++ limited_from program depth limit (1 + (place + 1)) (drop (place + 1) program.queries) ≡ limited_report program depth limit
one_more program depth limit place old report new l grown is before =
    let here : place + 1 - 1 ≡ place = omega arith in
    let next : place + 1 ≡ suc place = omega arith in
    let rest = limited_from program depth limit (1 + suc place) (drop (suc place) program.queries) in
    rw next (rw grown (rw is (rw here
    (append_assoc old (query_report program depth limit place) rest ∙ ap (λ w. old ++ w) (sym (reports_go_on program depth limit place l)) ∙ before))))

-- where all answers are wanted, these are the reports of all outputs
all_from : (program : NominalProgram) (depth k : ℕ) (qs : List NominalQuery) → limited_from program depth limits.All k qs ≡ report_from program depth k qs
all_from program depth k [] = refl
all_from program depth k (q ∷ qs) = ap (λ w. limited_lines program depth limits.All k q ++ w) (all_from program depth (suc k) qs)

pub all_reported : (program : NominalProgram) (depth : ℕ) → limited_report program depth limits.All ≡ program_report program depth
all_reported program depth = all_from program depth 1 program.queries
