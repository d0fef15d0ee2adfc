-- Bundles are read as they are written, and their prefixes are unended.
use Rattle.std.proofs.Common.{◌≡◌, ◌∙◌, ◌^◌, ℕ, suc, ◌-◌, ◌<◌, List, [], ◌∷◌, ◌++◌, length, Some, Result, Ok, Err, refl, ap, sym, subst, append_assoc, arith, inl, inr, length-append, take, drop, get_or, nat_le, le-leb, add-one, true, false, rules}
use Rattle.std.specs.Prelude.{codes}
use Rattle.std.proofs.lemmas.Bool.{lt-leb}
use Rattle.std.proofs.lemmas.List.{append-nil}
use Rattle.std.specs.List.{flat_map}
use Rattle.ap_defs.specs.Terms.{NominalTerm}
use Rattle.ap_defs.specs.Answers.{NominalAnswer}
use Rattle.ap_defs.specs.Derivations as derivation
use Rattle.ap_defs.specs.Derivations.{NominalDerivation, terms_in}
use Rattle.ap_bundle.specs.declared.version.Version.{Version}
use Rattle.ap_bundle.specs.declared.version.Version.TheVariants.{One}
use Rattle.ap_bundle.specs.Versions.{version_line}
use Rattle.ap_bundle.specs.Tables.{terms_of}
use Rattle.ap_bundle.proofs.TableLemmas.{each_append}
use Rattle.ap_bundle.specs.declared.faults.BundleKind.TheVariants.{Header, Term}
use Rattle.ap_bundle.specs.declared.words.Head.{Head}
use Rattle.ap_bundle.specs.declared.words.Head.TheVariants as head
use Rattle.ap_bundle.specs.declared.words.Word.TheVariants as words
use Rattle.ap_bundle.specs.Bundles.{NominalProved, NominalBundle}
use Rattle.ap_bundle.specs.Nodes.{preorder}
use Rattle.ap_bundle.specs.LineForms.{after_head, first_form, query_form, var_form, cond_form}
use Rattle.ap_bundle.specs.Readers.{Unread, Wrong, Reader, ◌>>=◌, unended, read_line, read_form, repeated}
use Rattle.ap_bundle.specs.Written.{head_line, counted_line, listed, var_line, cond_line, term_line, node_lines, answer_lines, proved_lines, text_lines, proved_part, written}
use Rattle.ap_bundle.specs.Reading.{read_count, read_listed, read_term, read_derivation, read_answer, read_proved, read_text, read_last, read_rest, read_version, read_at, room_at_first, TableReader}
use Rattle.ap_bundle.specs.TableForms.{read_cited, read_shared}
use Rattle.ap_bundle_laws.specs.Laws.{Each, IsListOf, FitsVar, FitsCond, FitsTerm, FitsAnswer, FitsDerivation, FitsProved, FitsBundle}
use Rattle.ap_bundle_laws.proofs.GoodLemmas.{at, IsGood, good_then, good_as, good_repeated, room_for, room_append, room_free, free, parted}
use Rattle.ap_bundle_laws.proofs.LineLemmas.{good_line, good_count, good_query, good_var, good_cond, good_term, good_end}
use Rattle.ap_bundle_laws.proofs.NodeLemmas.{good_derivation, each_parts}

-- How many there are, and each. A head is read as it is written.
abbrev IsHead : Head → Type 0
IsHead h = (n : ℕ) → after_head h (words.Head h ∷ words.Number n ∷ []) ≡ Some (words.Number n ∷ [])

good_listed : {A : Type 0} (h : Head) (read : Reader A) (text : A → List ℕ) (before : A → ℕ → ℕ) (P : A → Type 0) → ((left : ℕ) (x : A) → P x → IsGood read (before x left) left (text x) x)
    → IsHead h → (left : ℕ) (xs : List A) → (length xs < 2 ^ 64) → Each P xs → IsGood (read_listed h read) (room_for before xs left) left (listed h text xs) xs
unfolding read_listed
good_listed h read text before P good is left xs few fits =
    let room = room_for before xs left in
    good_then (read_count h) (λ n p. repeated read n p) room room left (counted_line h (length xs)) (flat_map text xs) (length xs) xs (good_count h room (length xs) few (is (length xs))) (good_repeated read text before P good left xs fits)

good_free : {A : Type 0} (h : Head) (read : Reader A) (text : A → List ℕ) (P : A → Type 0) → ((room : ℕ) (x : A) → P x → IsGood read room room (text x) x)
    → IsHead h → (room : ℕ) (xs : List A) → IsListOf P xs → IsGood (read_listed h read) room room (listed h text xs) xs
good_free h read text P good is room xs fits =
    subst (λ n. IsGood (read_listed h read) n room (listed h text xs) xs) (room_free xs room) (good_listed h read text free P good is room xs fits.0 fits.1)

take_text : (t r : List ℕ) → take (length t) (t ++ r) ≡ t
take_text [] r = refl
take_text (x ∷ t) r = ap (λ z. x ∷ z) (take_text t r)

drop_text : (t r : List ℕ) (b : ℕ) → drop (suc (length t)) (t ++ (b ∷ r)) ≡ r
drop_text [] r b = refl
drop_text (x ∷ t) r b = drop_text t r b

byte_behind : (t r : List ℕ) (b : ℕ) → get_or (t ++ (b ∷ r)) (length t) 0 ≡ b
byte_behind [] r b = refl
byte_behind (x ∷ t) r b = byte_behind t r b

-- a text with the LF behind it
good_text : (room : ℕ) (t : List ℕ) → IsGood (read_text (length t)) room room (t ++ 10 ∷ []) t
unfolding read_text
good_text room t = record {
  whole = λ rest.
      let all : (t ++ 10 ∷ []) ++ rest ≡ t ++ (10 ∷ rest) = append_assoc t (10 ∷ []) rest in
      let long : nat_le (length (t ++ (10 ∷ rest))) (length t) ≡ false = lt-leb (length (t ++ (10 ∷ rest))) (length t) (omega (arith, length-append t (10 ∷ rest))) in
      let lf = byte_behind t rest 10 in
      rw (all, long, lf, take_text t (10 ∷ rest), add-one, drop_text t rest 10) refl;
  part = λ v u e some.
      let short : nat_le (length v) (length t) ≡ true = le-leb (length v) (length t) (omega (arith, ap length e, length-append v u, length-append t (10 ∷ []))) in
      rw short refl;
}

-- the same at the end of the bytes
pub record IsLast {A : Type 0} (read : Unread → Result A Wrong) (room : ℕ) (w : List ℕ) (x : A) : Type 0 where
  pub whole : read (at w room) ≡ Ok x
  pub part : (v u : List ℕ) → w ≡ v ++ u → 0 < length u → read (at v room) ≡ Err unended

pub last_then : {A B : Type 0} (read : Reader A) (next : A → Unread → Result B Wrong) (room left : ℕ) (w v : List ℕ) (x : A) (y : B) → IsGood read room left w x → IsLast (next x) left v y
    → IsLast (λ p. read p >>= λ z. next z.0 z.1) room (w ++ v) y
last_then read next room left w v x y first second = record {
  whole = rw (first.whole v) second.whole;
  part = λ a u e h. elim (parted w v a u e h) [
    | inl s ↦ rw (first.part a s.0 s.1 s.2) refl
    | inr s ↦ rw (s.1, first.whole s.0) (second.part s.0 u s.2 h)
  ];
}

last_line : (room : ℕ) → IsLast read_last room (head_line head.End []) []
unfolding read_last
last_line room =
    let good = good_end room in
    record {
      whole = rw (sym (append-nil (head_line head.End [])), good.whole []) refl;
      part = λ v u e h. rw (good.part v u e h) refl;
    }

pub last_with : {A B : Type 0} (read : Unread → Result A Wrong) (f : A → B) (room : ℕ) (w : List ℕ) (x : A) → IsLast read room w x → IsLast (λ p. read p >>= λ z. Ok (f z)) room w (f x)
last_with read f room w x last = record {
  whole = rw last.whole refl;
  part = λ v u e h. rw (last.part v u e h) refl;
}

-- How a term is read as it is written, in either version: P says what has to hold of it.
module _ (term : Reader NominalTerm) (text : NominalTerm → List ℕ) (before : NominalTerm → ℕ → ℕ) (P : NominalTerm → Type 0)
    (good_one : (left : ℕ) (t : NominalTerm) → P t → IsGood term (before t left) left (text t) t) where
  good_answer : (left : ℕ) (a : NominalAnswer) → FitsAnswer a → Each P a.binds → IsGood (read_answer term) (room_for before a.binds left) left (answer_lines text a) a
  unfolding read_answer after_head
  good_answer left a h p =
      let room = room_for before a.binds left in
      let vars = good_free head.Vars (read_form Term var_form) var_line FitsVar good_var (λ n. refl) room a.vars h.2 in
      let conds = good_free head.Conds (read_form Term cond_form) cond_line FitsCond good_cond (λ n. refl) room a.conds h.1 in
      let binds = good_listed head.Binds term text before P good_one (λ n. refl) left a.binds h.0.0 p in
      good_then (read_listed head.Vars (read_form Term var_form)) (λ vs z. read_listed head.Conds (read_form Term cond_form) z >>= λ cs. read_listed head.Binds term cs.1 >>= λ bs. Ok (record { binds = bs.0; conds = cs.0; vars = vs }, bs.1))
      room room left (listed head.Vars var_line a.vars) (listed head.Conds cond_line a.conds ++ listed head.Binds text a.binds) a.vars a vars
      (good_then (read_listed head.Conds (read_form Term cond_form)) (λ cs z. read_listed head.Binds term z >>= λ bs. Ok (record { binds = bs.0; conds = cs; vars = a.vars }, bs.1))
      room room left (listed head.Conds cond_line a.conds) (listed head.Binds text a.binds) a.conds a conds
      (good_as (read_listed head.Binds term) (λ bs. record { binds = bs; conds = a.conds; vars = a.vars }) room left (listed head.Binds text a.binds) a.binds binds))

  abbrev proved_room : NominalProved → ℕ → ℕ
  proved_room p left = room_for before (terms_of p) left

  abbrev FitsWith : NominalProved → Type 0
  FitsWith p = FitsProved p × Each P (terms_of p)

  good_proved : (left : ℕ) (p : NominalProved) → FitsWith p → IsGood (read_proved term) (proved_room p left) left (proved_lines text p) p
  unfolding read_proved
  good_proved left p fits =
      let h = fits.0 in
      let parts = each_parts P p.answer.binds (terms_in p.derivation) fits.1 in
      let mid = room_for before (terms_in p.derivation) left in
      let room = room_for before p.answer.binds mid in
      subst (λ n. IsGood (read_proved term) n left (proved_lines text p) p) (sym (room_append before p.answer.binds (terms_in p.derivation) left))
      (good_then (read_form Header query_form) (λ q z. read_answer term z >>= λ a. read_derivation term a.1 >>= λ d. Ok (record { query = q; answer = a.0; derivation = d.0 }, d.1))
      room room left (counted_line head.Derivation p.query) (answer_lines text p.answer ++ flat_map (node_lines text) (preorder p.derivation)) p.query p (good_query room p.query h.0)
      (good_then (read_answer term) (λ a z. read_derivation term z >>= λ d. Ok (record { query = p.query; answer = a; derivation = d.0 }, d.1))
      room mid left (answer_lines text p.answer) (flat_map (node_lines text) (preorder p.derivation)) p.answer p (good_answer mid p.answer h.1 parts.0)
      (good_as (read_derivation term) (λ d. record { query = p.query; answer = p.answer; derivation = d }) mid left (flat_map (node_lines text) (preorder p.derivation)) p.derivation (good_derivation term text before P good_one left p.derivation h.2 parts.1))))

  pub all_room : (ps : List NominalProved) (left : ℕ) → room_for proved_room ps left ≡ room_for before (flat_map terms_of ps) left
  all_room [] left = refl
  all_room (p ∷ ps) left = ap (room_for before (terms_of p)) (all_room ps left) ∙ sym (room_append before (terms_of p) (flat_map terms_of ps) left)

  each_with : (ps : List NominalProved) → Each FitsProved ps → Each P (flat_map terms_of ps) → Each FitsWith ps
  each_with [] h t = tt
  each_with (p ∷ ps) h t = let parts = each_parts P (terms_of p) (flat_map terms_of ps) t in ((h.0, parts.0), each_with ps h.1 parts.1)

  pub last_rest : (left : ℕ) (ps : List NominalProved) → IsListOf FitsProved ps → Each P (flat_map terms_of ps) → IsLast (read_rest term) (room_for before (flat_map terms_of ps) left) (proved_part text ps) ps
  unfolding read_rest after_head
  last_rest left ps h t =
      subst (λ n. IsLast (read_rest term) n (proved_part text ps) ps) (all_room ps left)
      (last_then (read_listed head.Derivations (read_proved term)) (λ all p. read_last p >>= λ end. Ok all) (room_for proved_room ps left) left (listed head.Derivations (proved_lines text) ps) (head_line head.End []) ps ps
      (good_listed head.Derivations (read_proved term) (proved_lines text) proved_room FitsWith good_proved (λ n. refl) left ps h.0 (each_with ps h.1 t))
      (last_with read_last (λ end. ps) left (head_line head.End []) [] (last_line left)))

-- what stands before the text's version, and the text
pub last_at : (shared : TableReader) (v : Version) (room : ℕ) (b : NominalBundle) (part : List ℕ) → FitsBundle b → IsLast (read_version shared v) room part b.proved → IsGood (read_line Header first_form) room room (version_line v ++ 10 ∷ []) v
    → IsLast (read_at shared) room ((version_line v ++ 10 ∷ []) ++ (text_lines b.text ++ part)) b
unfolding read_at after_head
last_at shared v room b part h rest version =
    let count = good_count head.Text room (length b.text) h.0 refl in
    let proved = last_with (read_version shared v) (λ ps. record { text = b.text; proved = ps }) room part b.proved rest in
    let text = last_then (read_text (length b.text)) (λ t p. read_version shared v p >>= λ ps. Ok (record { text = t; proved = ps })) room room (b.text ++ 10 ∷ []) part b.text b (good_text room b.text) proved in
    let counted_text = last_then (read_count head.Text) (λ n p. read_text n p >>= λ t. read_version shared v t.1 >>= λ ps. Ok (record { text = t.0; proved = ps })) room room (counted_line head.Text (length b.text)) ((b.text ++ 10 ∷ []) ++ part) (length b.text) b count text in
    let grouped : IsLast (λ p. read_count head.Text p >>= λ n. read_text n.0 n.1 >>= λ t. read_version shared v t.1 >>= λ ps. Ok (record { text = t.0; proved = ps })) room (text_lines b.text ++ part) b =
    subst (λ w. IsLast (λ p. read_count head.Text p >>= λ n. read_text n.0 n.1 >>= λ t. read_version shared v t.1 >>= λ ps. Ok (record { text = t.0; proved = ps })) room w b) (sym (append_assoc (counted_line head.Text (length b.text)) (b.text ++ 10 ∷ []) part)) counted_text in
    last_then (read_line Header first_form) (λ first p. read_count head.Text p >>= λ n. read_text n.0 n.1 >>= λ t. read_version shared first t.1 >>= λ ps. Ok (record { text = t.0; proved = ps })) room room (version_line v ++ 10 ∷ []) (text_lines b.text ++ part) v b version grouped

-- terms in full
each_terms : (d : NominalDerivation) → FitsDerivation d → Each FitsTerm (terms_in d)
each_terms (derivation.atom c names ts d) h = each_append FitsTerm ts (terms_in d) h.2.1 (each_terms d h.3)
each_terms derivation.equal h = tt
each_terms derivation.fresh h = tt
each_terms derivation.succeed h = tt
each_terms (derivation.both d e) h = each_append FitsTerm (terms_in d) (terms_in e) (each_terms d h.0) (each_terms e h.1)
each_terms (derivation.left d) h = each_terms d h
each_terms (derivation.right d) h = each_terms d h
each_terms (derivation.exists t d) h = (h.0, each_terms d h.1)
each_terms (derivation.new a d) h = each_terms d h.1

pub each_proved : (ps : List NominalProved) → Each FitsProved ps → Each FitsTerm (flat_map terms_of ps)
each_proved [] h = tt
each_proved (p ∷ ps) h =
    each_append FitsTerm (terms_of p) (flat_map terms_of ps) (each_append FitsTerm p.answer.binds (terms_in p.derivation) h.0.1.0.1 (each_terms p.derivation h.0.2)) (each_proved ps h.1)

last_bundle : (shared : TableReader) (room : ℕ) (b : NominalBundle) → FitsBundle b → IsLast (read_at shared) room (written b) b
unfolding first_form
last_bundle shared room b h =
    let version = good_line Header first_form room (codes "alphaprolog bundle 1") One (search rules) refl in
    let rest = subst (λ n. IsLast (read_rest read_term) n (proved_part term_line b.proved) b.proved) (room_free (flat_map terms_of b.proved) room)
    (last_rest read_term term_line free FitsTerm good_term room b.proved h.1 (each_proved b.proved h.1.1)) in
    last_at shared One room b (proved_part term_line b.proved) h rest version

pub again : (b : NominalBundle) → FitsBundle b → read_at read_shared (at (written b) room_at_first) ≡ Ok b
again b h = let last = last_bundle read_shared room_at_first b h in last.whole

pub prefix : (b : NominalBundle) (v u : List ℕ) → FitsBundle b → written b ≡ v ++ u → 0 < length u → read_at read_shared (at v room_at_first) ≡ Err unended
prefix b v u h e some = let last = last_bundle read_shared room_at_first b h in last.part v u e some

pub cited_again : (b : NominalBundle) → FitsBundle b → read_at read_cited (at (written b) room_at_first) ≡ Ok b
cited_again b h = let last = last_bundle read_cited room_at_first b h in last.whole

whole_taken : (v : List ℕ) → take (length v) v ≡ v
whole_taken [] = refl
whole_taken (x ∷ v) = ap (λ z. x ∷ z) (whole_taken v)

pub take_all : (v : List ℕ) → take (length v - 0) v ≡ v
take_all v = let zero_off : length v - 0 ≡ length v = omega arith in rw zero_off (whole_taken v)
