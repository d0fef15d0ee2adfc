-- The walk that enters a term: each step behind the parts of a term finds their lines last.
use Rattle.std.proofs.Common.{◌≡◌, ℕ, ◌+◌, ◌<◌, List, [], ◌∷◌, ◌++◌, map, Option, Some, true, refl, ap, ap₂, sym, subst, ◌∙◌, append_assoc, arith, inl, inr, if◌then◌else◌}
use Rattle.std.proofs.lemmas.Bool.Decides.{nat_tests}
use Rattle.std.specs.Ordering.{is_eq, nat_cmp}
use Rattle.std.specs.Prelude.{reverse}
use Rattle.std.proofs.lemmas.List.{map-append, reverse-append}
use Rattle.ap_defs.specs.Terms as terms
use Rattle.ap_defs.specs.Terms.{NominalTerm}
use Rattle.std.specs.List.{AllByRecursion as Each}
use Rattle.ap_bundle.specs.Tables.{same, with_parts, with_table_term, with_table_terms, line_of, entry_words, Has, HasParts}
use Rattle.ap_bundle.specs.declared.words.Word.{Word}
use Rattle.ap_bundle_write.specs.declared.table.Task.{Task}
use Rattle.ap_bundle_write.specs.Tables.{AreEntered, IsBegun, Step, enter, leave, parts_in, task_step, steps_of, steps_in, words_by}
use Rattle.ap_bundle.proofs.SameLemmas.{cases, same_true}
use Rattle.ap_bundle.proofs.TableLemmas.{terms_append, has_term, has_more, line_term, line_more, term_more, map_line_more, each_has_more}
use Rattle.ap_shared.specs.Shared.{shared_at}

-- the parts of the term come first, the last of them before the others, and then these
abbrev pub OnTop : NominalTerm → List NominalTerm → List NominalTerm → Type 0
OnTop terms.unit ts rest = ts ≡ rest
OnTop (terms.name a) ts rest = ts ≡ rest
OnTop (terms.pair t u) ts rest = ts ≡ u ∷ (t ∷ rest)
OnTop (terms.app f t) ts rest = ts ≡ t ∷ rest
OnTop (terms.abs a t) ts rest = ts ≡ t ∷ rest
OnTop (terms.susp p x) ts rest = ts ≡ rest

-- the steps lead from a table, and the terms whose lines wait, to this table and this one term
abbrev pub Leads : List Step → List NominalTerm → List NominalTerm → List NominalTerm → NominalTerm → Type 0
Leads [] table ts end t = (table ≡ end) × (ts ≡ t ∷ [])
Leads (enter u ∷ ks) table ts end t = Leads ks (with_table_terms table (with_parts u)) (u ∷ ts) end t
Leads (leave u ∷ ks) table ts end t = (rest : List NominalTerm) × OnTop u ts rest × Leads ks (with_table_term table u) (u ∷ rest) end t

pub entered : (u : NominalTerm) (ks : List Step) (table ts end : List NominalTerm) (t : NominalTerm) → Leads (enter u ∷ ks) table ts end t → Leads (steps_in u ++ ks) table ts end t
entered terms.unit ks table ts end t l = (ts, refl, l)
entered (terms.name a) ks table ts end t l = (ts, refl, l)
entered (terms.pair v w) ks table ts end t l =
    let last = terms_append (with_table_terms table (with_parts v)) (with_parts w) (terms.pair v w ∷ []) in
    let all = terms_append table (with_parts v) (with_parts w ++ terms.pair v w ∷ []) ∙ last in
    (ts, refl, subst (λ us. Leads ks us (terms.pair v w ∷ ts) end t) all l)
entered (terms.app f v) ks table ts end t l =
    (ts, refl, subst (λ us. Leads ks us (terms.app f v ∷ ts) end t) (terms_append table (with_parts v) (terms.app f v ∷ [])) l)
entered (terms.abs a v) ks table ts end t l =
    (ts, refl, subst (λ us. Leads ks us (terms.abs a v ∷ ts) end t) (terms_append table (with_parts v) (terms.abs a v ∷ [])) l)
entered (terms.susp p x) ks table ts end t l = (ts, refl, l)

-- the words of a term, by the lines that come first
pub top_words : (u : NominalTerm) (table ts rest : List NominalTerm) → OnTop u ts rest → words_by u (map (line_of table) ts) ≡ Some (entry_words table u, map (line_of table) rest)
top_words terms.unit table ts rest e = rw e refl
top_words (terms.name a) table ts rest e = rw e refl
top_words (terms.pair v w) table ts rest e = rw e refl
top_words (terms.app f v) table ts rest e = rw e refl
top_words (terms.abs a v) table ts rest e = rw e refl
top_words (terms.susp p x) table ts rest e = rw e refl

pub top_parts : (u : NominalTerm) (table ts rest : List NominalTerm) → OnTop u ts rest → Each (Has table) ts → HasParts table u × Each (Has table) rest
top_parts terms.unit table ts rest e h = (tt, subst (Each (Has table)) e h)
top_parts (terms.name a) table ts rest e h = (tt, subst (Each (Has table)) e h)
top_parts (terms.pair v w) table ts rest e h = let k : Each (Has table) (w ∷ (v ∷ rest)) = subst (Each (Has table)) e h in ((k.1.0, k.0), k.1.1)
top_parts (terms.app f v) table ts rest e h = let k : Each (Has table) (v ∷ rest) = subst (Each (Has table)) e h in (k.0, k.1)
top_parts (terms.abs a v) table ts rest e h = let k : Each (Has table) (v ∷ rest) = subst (Each (Has table)) e h in (k.0, k.1)
top_parts (terms.susp p x) table ts rest e h = (tt, subst (Each (Has table)) e h)

-- the lines that wait, with that of one term more
pub lines_left : (table rest : List NominalTerm) (u : NominalTerm) → Each (Has table) rest → line_of table u ∷ map (line_of table) rest ≡ map (line_of (with_table_term table u)) (u ∷ rest)
lines_left table rest u h =
    let g = term_more table u in
    let others : map (line_of (with_table_term table u)) rest ≡ map (line_of table) rest = ap (λ us. map (line_of us) rest) g.1 ∙ map_line_more table g.0 rest h in
    rw (line_term table u, others) refl

pub has_left : (table rest : List NominalTerm) (u : NominalTerm) → Each (Has table) rest → Each (Has (with_table_term table u)) (u ∷ rest)
has_left table rest u h =
    let g = term_more table u in
    (has_term table u, subst (λ us. Each (Has us) rest) (sym g.1) (each_has_more table g.0 rest h))

-- the parts of a term that is held are held
held_parts : (table ts : List NominalTerm) (t : NominalTerm) → Each (HasParts table) ts → Has ts t → HasParts table t
held_parts table [] t h k = cc
held_parts table (x ∷ ts) t h k = elim (cases (same t x)) [
  | inl e ↦ subst (HasParts table) (sym (same_true t x e)) h.0
  | inr e ↦ held_parts table ts t h.1 (rw e at k)
]

term_there : (table : List NominalTerm) (t : NominalTerm) → Has table t → with_table_term table t ≡ table
term_there table t h = rw h refl

-- a term that is held comes with nothing more
pub terms_there : (table : List NominalTerm) → Each (HasParts table) table → (t : NominalTerm) → Has table t → with_table_terms table (with_parts t) ≡ table
terms_there table each terms.unit h = term_there table terms.unit h
terms_there table each (terms.name a) h = term_there table (terms.name a) h
terms_there table each (terms.pair t u) h =
    let p = held_parts table table (terms.pair t u) each h in
    terms_append table (with_parts t) (with_parts u ++ terms.pair t u ∷ []) ∙ ap (λ z. with_table_terms z (with_parts u ++ terms.pair t u ∷ [])) (terms_there table each t p.0)
    ∙ terms_append table (with_parts u) (terms.pair t u ∷ []) ∙ ap (λ z. with_table_terms z (terms.pair t u ∷ [])) (terms_there table each u p.1)
    ∙ term_there table (terms.pair t u) h
terms_there table each (terms.app f t) h =
    let p = held_parts table table (terms.app f t) each h in
    terms_append table (with_parts t) (terms.app f t ∷ []) ∙ ap (λ z. with_table_terms z (terms.app f t ∷ [])) (terms_there table each t p) ∙ term_there table (terms.app f t) h
terms_there table each (terms.abs a t) h =
    let p = held_parts table table (terms.abs a t) each h in
    terms_append table (with_parts t) (terms.abs a t ∷ []) ∙ ap (λ z. with_table_terms z (terms.abs a t ∷ [])) (terms_there table each t p) ∙ term_there table (terms.abs a t) h
terms_there table each (terms.susp p x) h = term_there table (terms.susp p x) h

-- a term whose number is kept is entered at once
pub found_walk : (ks : List Step) (held us end : List NominalTerm) (t u : NominalTerm) (ns : List ℕ) (number : ℕ) → Each (HasParts held) held → Has held u → number ≡ line_of held u
    → ns ≡ map (line_of held) us → Each (Has held) us → Leads (enter u ∷ ks) held us end t
    → (ws : List NominalTerm) × (number ∷ ns ≡ map (line_of held) ws) × Each (Has held) ws × Leads ks held ws end t
found_walk ks held us end t u ns number parts h is lines each l =
    (u ∷ us, (λ i. is i ∷ lines i), (h, each), subst (λ z. Leads ks z (u ∷ us) end t) (terms_there held parts u h) l)

-- the step to a term, taken
pub begun_walk : (u : NominalTerm) (ks js : List Step) (held us end : List NominalTerm) (t : NominalTerm) (ns ms : List ℕ) → Each (HasParts held) held → IsBegun held u ns ms ks js
    → ns ≡ map (line_of held) us → Each (Has held) us → Leads (enter u ∷ ks) held us end t → (ws : List NominalTerm) × (ms ≡ map (line_of held) ws) × Each (Has held) ws × Leads js held ws end t
begun_walk u ks js held us end t ns ms parts begun lines each l = elim begun [
  | inl b ↦
      let w = found_walk ks held us end t u ns (line_of held u) parts b.0 refl lines each l in
      (w.0, b.1 ∙ w.1, w.2, subst (λ is. Leads is held w.0 end t) (sym b.2) w.3)
  | inr b ↦ (us, b.0 ∙ lines, each, subst (λ is. Leads is held us end t) (sym b.1) (entered u ks held us end t l))
]

-- a number that is kept tells the line of its term
module _ (ts held new : List NominalTerm) (line number : ℕ) (numbers more : ℕ → Option ℕ) (grew : new ≡ with_table_term held (shared_at ts line)) (is : number ≡ line_of held (shared_at ts line))
    (put : (i : ℕ) → more i ≡ (if is_eq (nat_cmp line i) then Some number else numbers i)) where
  number_same : (k x : ℕ) → is_eq (nat_cmp k x) ≡ true → k ≡ x
  number_same k x h = grind (arith, nat_tests)

  pub entered_more : AreEntered ts held numbers → AreEntered ts new more
  entered_more h i n e =
      let t = shared_at ts i in
      let u = shared_at ts line in
      let k : (if is_eq (nat_cmp line i) then Some number else numbers i) ≡ Some n = sym (put i) ∙ e in
      elim (cases (is_eq (nat_cmp line i))) [
        | inl y ↦
            let here : u ≡ t = ap (shared_at ts) (number_same line i y) in
            let found : ◌≡◌ {A = Option ℕ} (Some number) (Some n) = rw y at k in
            let one : number ≡ n = cc in
            subst (λ v. Has new v × (n ≡ line_of new v)) here (subst (λ us. Has us u) (sym grew) (has_term held u), sym one ∙ is ∙ sym (ap (λ us. line_of us u) grew ∙ line_term held u))
        | inr apart ↦
            let found : numbers i ≡ Some n = rw apart at k in
            let b = h i n found in
            let g = term_more held u in
            (subst (λ us. Has us t) (sym (grew ∙ g.1)) (has_more held g.0 t b.0), b.1 ∙ sym (ap (λ us. line_of us t) (grew ∙ g.1) ∙ line_more held g.0 t b.0))
      ]

-- how much is left to do
abbrev pub work : NominalTerm → ℕ
work terms.unit = 2
work (terms.name a) = 2
work (terms.pair t u) = 2 + (work t + work u)
work (terms.app f t) = 2 + work t
work (terms.abs a t) = 2 + work t
work (terms.susp p x) = 2

abbrev pub weigh : List Step → ℕ
weigh [] = 0
weigh (enter t ∷ ks) = work t + weigh ks
weigh (leave t ∷ ks) = 1 + weigh ks

pub lighter : (u : NominalTerm) (ks : List Step) → weigh (steps_in u ++ ks) < weigh (enter u ∷ ks)
lighter terms.unit ks = omega arith
lighter (terms.name a) ks = omega arith
lighter (terms.pair t u) ks = omega arith
lighter (terms.app f t) ks = omega arith
lighter (terms.abs a t) ks = omega arith
lighter (terms.susp p x) ks = omega arith

pub some_work : (u : NominalTerm) (ks : List Step) → weigh ks < weigh (enter u ∷ ks)
some_work terms.unit ks = omega arith
some_work (terms.name a) ks = omega arith
some_work (terms.pair t u) ks = omega arith
some_work (terms.app f t) ks = omega arith
some_work (terms.abs a t) ks = omega arith
some_work (terms.susp p x) ks = omega arith

pub begun_less : (u : NominalTerm) (ks js : List Step) (held : List NominalTerm) (ns ms : List ℕ) → IsBegun held u ns ms ks js → weigh js < weigh (enter u ∷ ks)
begun_less u ks js held ns ms begun = elim begun [
  | inl b ↦ subst (λ is. weigh is < weigh (enter u ∷ ks)) (sym b.2) (some_work u ks)
  | inr b ↦ subst (λ is. weigh is < weigh (enter u ∷ ks)) (sym b.1) (lighter u ks)
]

-- the task on top of a stack is the next step
pub steps_last : (ts : List NominalTerm) (ks : List Task) (k : Task) → steps_of ts (ks ++ k ∷ []) ≡ task_step ts k ∷ steps_of ts ks
steps_last ts ks k = ap reverse (map-append (task_step ts) ks (k ∷ [])) ∙ reverse-append (map (task_step ts) ks) (task_step ts k ∷ [])

-- behind the steps to the parts of a term there is the step behind them
pub steps_begun : (ts : List NominalTerm) (old with_leave new : List Task) (k : Task) (u v : NominalTerm) → with_leave ≡ old ++ k ∷ [] → task_step ts k ≡ leave u → u ≡ v
    → steps_of ts new ≡ parts_in v ++ steps_of ts with_leave → steps_of ts new ≡ steps_in u ++ steps_of ts old
steps_begun ts old with_leave new k u v pushed is same begun =
    begun ∙ ap₂ (λ w ks. parts_in w ++ ks) (sym same) (ap (steps_of ts) pushed ∙ steps_last ts old k ∙ ap (λ s. s ∷ steps_of ts old) is) ∙ sym (append_assoc (parts_in u) (leave u ∷ []) (steps_of ts old))

tail_of : (ws vs : List Word) (ns ms : List ℕ) → ◌≡◌ {A = Option (List Word × List ℕ)} (Some (ws, ns)) (Some (vs, ms)) → ns ≡ ms
tail_of ws vs ns ms e = let p : ◌≡◌ {A = List Word × List ℕ} (ws, ns) (vs, ms) = cc in ap (λ (q : List Word × List ℕ). q.1) p

-- what is known behind the parts of a term
module _ (u : NominalTerm) (ks : List Step) (table ts end : List NominalTerm) (t : NominalTerm) (ns : List ℕ) (lines : ns ≡ map (line_of table) ts)
    (there : Each (Has table) ts) (l : Leads (leave u ∷ ks) table ts end t) where
  pub left_words : words_by u ns ≡ Some (entry_words table u, map (line_of table) l.0)
  left_words = ap (words_by u) lines ∙ top_words u table ts l.0 l.1

  pub left_parts : HasParts table u
  left_parts = let p = top_parts u table ts l.0 l.1 there in p.0

  pub left_walk : (new : List NominalTerm) (ws : List Word) (others : List ℕ) (line : ℕ) → Some (ws, others) ≡ words_by u ns → line ≡ line_of table u → new ≡ with_table_term table u
      → (us : List NominalTerm) × (line ∷ others ≡ map (line_of new) us) × Each (Has new) us × Leads ks new us end t
  left_walk new ws others line got is grew =
      let tail = tail_of ws (entry_words table u) others (map (line_of table) l.0) (got ∙ left_words) in
      let p = top_parts u table ts l.0 l.1 there in (
        u ∷ l.0,
        (λ i. is i ∷ tail i) ∙ lines_left table l.0 u p.1 ∙ ap (λ us. map (line_of us) (u ∷ l.0)) (sym grew),
        subst (λ us. Each (Has us) (u ∷ l.0)) (sym grew) (has_left table l.0 u p.1),
        subst (λ us. Leads ks us (u ∷ l.0) end t) (sym grew) l.2,
      )
