-- What is read of bytes is in the ranges of the types: its numbers, and the lengths of its lists.
use Rattle.std.proofs.Common.{◌≡◌, ℕ, zero, suc, ◌+◌, ◌-◌, ◌<◌, ◌≤◌, ◌^◌, Bool, true, false, nat_lt, nat_le, List, [], ◌∷◌, ◌++◌, length, take, drop, Option, None, Some, Result, Ok, Err, refl, ap, subst, arith}
use Rattle.std.specs.Prelude.{if◌then◌else◌, slice_index}
use Rattle.ap_defs.specs.Terms.{NominalTerm}
use Rattle.ap_defs.specs.Answers.{NominalAnswer}
use Rattle.ap_defs.specs.Derivations.{NominalDerivation}
use Rattle.ap_bundle.specs.declared.faults.BundleFault.{BundleFault}
use Rattle.ap_bundle.specs.declared.faults.BundleKind.{BundleKind}
use Rattle.ap_bundle.specs.declared.faults.BundleKind.TheVariants.{Header, Node, Term, Expanded}
use Rattle.ap_bundle.specs.declared.version.Version.{Version}
use Rattle.ap_bundle.specs.declared.version.Version.TheVariants.{One, Two}
use Rattle.ap_bundle.specs.declared.words.Head.{Head}
use Rattle.ap_bundle.specs.declared.words.Head.TheVariants as head
use Rattle.ap_bundle.specs.declared.words.Word.{Word}
use Rattle.ap_bundle.specs.Words.{line_words}
use Rattle.ap_bundle.specs.Bundles.{NominalProved, NominalBundle}
use Rattle.ap_bundle.specs.LineForms as lines
use Rattle.ap_bundle.specs.LineForms.{NodeLine, count_form, query_form, var_form, cond_form, name_form, term_form, node_form, first_form}
use Rattle.ap_bundle.specs.Nodes as nodes
use Rattle.ap_bundle.specs.Nodes.{children, derivation_from}
use Rattle.ap_bundle.specs.Tables.{expanded_size}
use Rattle.ap_bundle.specs.TableForms.{entry_form, shared_form, read_entries, room_for, read_shared}
use Rattle.ap_bundle.specs.Readers.{Unread, Wrong, Reader, ◌>>=◌, unended, wrong, found, is_lf, first_line, after_line, line_as, read_line, read_words, read_form, repeated}
use Rattle.ap_bundle.specs.Reading.{read_count, read_listed, read_name, read_term, read_atom, read_exists, read_behind, read_node, read_nodes, read_derivation, read_answer, read_proved, read_text, read_last, read_rest, read_shared_rest, read_version, read_at, start, at_line, reading}
use Rattle.ap_bundle.proofs.TableLemmas.{each_append}
use Rattle.ap_bundle_laws.specs.Laws.{Each, IsListOf, FitsName, FitsCond, FitsTerm, FitsVar, FitsAnswer, FitsDerivation, FitsProved, FitsBundle}
use Rattle.ap_bundle_laws.proofs.WordLemmas.{Fits}
use Rattle.ap_bundle_laws.proofs.RangedForms.{Wide, FitsLine, FitsNode, line_ranged, count_ranged, query_ranged, var_ranged, cond_ranged, name_form_ranged, term_form_ranged, node_ranged, entry_form_ranged, shared_form_ranged, derivation_ranged}

pub both_ok : {A B : Type 0} (r : Result A Wrong) (f : A → Result B Wrong) (b : B) → (r >>= f) ≡ Ok b → (a : A) × (r ≡ Ok a) × (f a ≡ Ok b)
both_ok (Ok a) f b e = (a, refl, e)
both_ok {A} {B} (Err w) f b e = absurd (let k : ◌≡◌ {A = Result B Wrong} (Err w) (Ok b) = e in cc)

pub same_ok : {A : Type 0} (a b : A) → ◌≡◌ {A = Result A Wrong} (Ok a) (Ok b) → a ≡ b
same_ok a b e = cc

pub err_is : {A : Type 0} (P : Type 0) (w : Wrong) (a : A) → ◌≡◌ {A = Result A Wrong} (Err w) (Ok a) → P
err_is {A} P w a e = absurd (let k : ◌≡◌ {A = Result A Wrong} (Err w) (Ok a) = e in cc)

pub found_is : {A : Type 0} (kind : BundleKind) (p : Unread) (o : Option A) (x : A) → found kind p o ≡ Ok x → o ≡ Some x
found_is kind p None x e = err_is _ (wrong kind p) x e
found_is kind p (Some y) x e = ap (λ z. Some z) (same_ok y x e)

-- a line that is read has bytes of its form
line_given : {A : Type 0} (kind : BundleKind) (form : List ℕ → Option A) (p : Unread) (x : A × Unread) → read_line kind form p ≡ Ok x → (l : List ℕ) × (form l ≡ Some x.0)
unfolding read_line
line_given {A} kind form p x e = go (first_line p.rest) e
  where
    go : (o : Option (List ℕ × List ℕ)) → line_as kind form p o ≡ Ok x → (l : List ℕ) × (form l ≡ Some x.0)
    go None h = err_is _ unended x h
    go (Some l) h =
        let y = both_ok (found kind p (form l.0)) (λ z. Ok (z, after_line p l)) x h in
        (l.0, subst (λ (z : A × Unread). form l.0 ≡ Some z.0) (same_ok (y.0, after_line p l) x y.2) (found_is kind p (form l.0) y.0 y.1))

form_given : {A : Type 0} (kind : BundleKind) (form : List Word → Option A) (p : Unread) (x : A × Unread) → read_form kind form p ≡ Ok x → (ws : List Word) × Each Fits ws × (form ws ≡ Some x.0)
unfolding read_form
form_given {A} kind form p x e =
    let words = both_ok (read_words kind p) (λ w. found kind p (form w.0) >>= λ y. Ok (y, w.1)) x e in
    let its = both_ok (found kind p (form words.0.0)) (λ y. Ok (y, words.0.1)) x words.2 in
    let l = line_given kind line_words p words.0 words.1 in
    (words.0.0, line_ranged l.0 words.0.0 l.1, subst (λ (z : A × Unread). form words.0.0 ≡ Some z.0) (same_ok (its.0, words.0.1) x its.2) (found_is kind p (form words.0.0) its.0 its.1))

-- what a reader gives has this
abbrev Ranged : {A : Type 0} → (A → Type 0) → Reader A → Type 0
Ranged {A} P read = (p : Unread) (x : A × Unread) → read p ≡ Ok x → P x.0

form_is : {A : Type 0} (kind : BundleKind) (form : List Word → Option A) (P : A → Type 0) → ((ws : List Word) (x : A) → Each Fits ws → form ws ≡ Some x → P x) → Ranged P (read_form kind form)
form_is kind form P fits p x e = let g = form_given kind form p x e in fits g.0 x.0 g.1 g.2

repeated_ranged : {A : Type 0} (P : A → Type 0) (read : Reader A) → Ranged P read → (n : ℕ) (p : Unread) (xs : List A × Unread) → repeated read n p ≡ Ok xs → (length xs.0 ≡ n) × Each P xs.0
unfolding repeated
repeated_ranged {A} P read r zero p xs e = subst (λ (z : List A × Unread). (length z.0 ≡ zero) × Each P z.0) (same_ok ([], p) xs e) (refl, tt)
repeated_ranged {A} P read r (suc n) p xs e =
    let x = both_ok _ _ xs e in
    let more = both_ok (repeated read n x.0.1) (λ m. Ok (x.0.0 ∷ m.0, m.1)) xs x.2 in
    let others = repeated_ranged P read r n x.0.1 more.0 more.1 in
    subst (λ (z : List A × Unread). (length z.0 ≡ suc n) × Each P z.0) (same_ok (x.0.0 ∷ more.0.0, more.0.1) xs more.2) (ap suc others.0, (r p x.0 x.1, others.1))

listed_ranged : {A : Type 0} (P : A → Type 0) (h : Head) (read : Reader A) → Ranged P read → Ranged (IsListOf P) (read_listed h read)
unfolding read_listed
listed_ranged P h read r p xs e =
    let n = both_ok _ _ xs e in
    let wide = form_is Header (count_form h) Wide (count_ranged h) p n.0 n.1 in
    let all = repeated_ranged P read r n.0.0 n.0.1 xs n.2 in
    let few : length xs.0 < 2 ^ 64 = omega (arith, all.0, wide) in
    (few, all.1)

abbrev FlatNode : Type 0
FlatNode = nodes.Node NominalTerm

module _ (term : Reader NominalTerm) (r : Ranged FitsTerm term) where
  atom_is : (k names ts : ℕ) → k < 2 ^ 32 → Wide names → Wide ts → Ranged FitsNode (read_atom term k names ts)
  unfolding read_atom
  atom_is k names ts small few many p n e =
      let as' = both_ok _ _ n e in
      let us = both_ok _ _ n as'.2 in
      let a = repeated_ranged FitsName read_name (form_is Term name_form FitsName name_form_ranged) names p as'.0 as'.1 in
      let b = repeated_ranged FitsTerm term r ts as'.0.1 us.0 us.1 in
      let named : length as'.0.0 < 2 ^ 64 = omega (arith, a.0, few) in
      let given : length us.0.0 < 2 ^ 64 = omega (arith, b.0, many) in
      subst (λ (z : FlatNode × Unread). FitsNode z.0) (same_ok (nodes.atom k as'.0.0 us.0.0, us.0.1) n us.2) (small, (named, a.1), (given, b.1))

  exists_is : Ranged FitsNode (read_exists term)
  unfolding read_exists
  exists_is p n e =
      let t = both_ok _ _ n e in
      subst (λ (z : FlatNode × Unread). FitsNode z.0) (same_ok (nodes.exists t.0.0, t.0.1) n t.2) (r p t.0 t.1)

  behind_is : (l : NodeLine NominalTerm) → FitsLine l → Ranged FitsNode (read_behind term l)
  behind_is (lines.atom k names ts) h p n e = atom_is k names ts h.0 h.1 h.2 p n e
  behind_is lines.exists h p n e = exists_is p n e
  behind_is (lines.whole m) h p n e = subst (λ (z : FlatNode × Unread). FitsNode z.0) (same_ok (m, p) n e) h

  node_is : Ranged FitsNode (read_node term)
  unfolding read_node
  node_is p n e =
      let l = both_ok _ _ n e in
      let g = form_given Node node_form p l.0 l.1 in
      behind_is l.0.0 (node_ranged g.0 l.0.0 g.1 g.2) l.0.1 n l.2

  nodes_are : (bound wanted : ℕ) (p : Unread) (ns : List FlatNode × Unread) → read_nodes term bound wanted p ≡ Ok ns → Each FitsNode ns.0
  unfolding read_nodes
  nodes_are bound zero p ns e = subst (λ (z : List FlatNode × Unread). Each FitsNode z.0) (same_ok ([], p) ns e) tt
  nodes_are zero (suc wanted) p ns e = err_is _ unended ns e
  nodes_are (suc bound) (suc wanted) p ns e =
      let n = both_ok _ _ ns e in
      let more = both_ok (read_nodes term bound (wanted + children n.0.0) n.0.1) (λ m. Ok (n.0.0 ∷ m.0, m.1)) ns n.2 in
      subst (λ (z : List FlatNode × Unread). Each FitsNode z.0) (same_ok (n.0.0 ∷ more.0.0, more.0.1) ns more.2) (node_is p n.0 n.1, nodes_are bound (wanted + children n.0.0) n.0.1 more.0 more.1)

  derivation_is : Ranged FitsDerivation (read_derivation term)
  unfolding read_derivation
  derivation_is p d e =
      let ns = both_ok _ _ d e in
      let its = both_ok _ _ d ns.2 in
      let fits = derivation_ranged ns.0.0 its.0 (nodes_are (length p.rest) 1 p ns.0 ns.1) (found_is Node p (derivation_from ns.0.0) its.0 its.1) in
      subst (λ (z : NominalDerivation × Unread). FitsDerivation z.0) (same_ok (its.0, ns.0.1) d its.2) fits

  answer_is : Ranged FitsAnswer (read_answer term)
  unfolding read_answer
  answer_is p a e =
      let vars = both_ok _ _ a e in
      let conds = both_ok _ _ a vars.2 in
      let binds = both_ok _ _ a conds.2 in
      let vs = listed_ranged FitsVar head.Vars (read_form Term var_form) (form_is Term var_form FitsVar var_ranged) p vars.0 vars.1 in
      let cs = listed_ranged FitsCond head.Conds (read_form Term cond_form) (form_is Term cond_form FitsCond cond_ranged) vars.0.1 conds.0 conds.1 in
      let ts = listed_ranged FitsTerm head.Binds term r conds.0.1 binds.0 binds.1 in
      subst (λ (z : NominalAnswer × Unread). FitsAnswer z.0) (same_ok (record { binds = binds.0.0; conds = conds.0.0; vars = vars.0.0 }, binds.0.1) a binds.2) (ts, cs, vs)

  proved_is : Ranged FitsProved (read_proved term)
  unfolding read_proved
  proved_is p d e =
      let query = both_ok _ _ d e in
      let answer = both_ok _ _ d query.2 in
      let its = both_ok _ _ d answer.2 in
      let small = form_is Header query_form (λ (n : ℕ). n < 2 ^ 32) query_ranged p query.0 query.1 in
      subst (λ (z : NominalProved × Unread). FitsProved z.0) (same_ok (record { query = query.0.0; answer = answer.0.0; derivation = its.0.0 }, its.0.1) d its.2) (small, answer_is query.0.1 answer.0 answer.1, derivation_is answer.0.1 its.0 its.1)

  rest_is : (p : Unread) (ps : List NominalProved) → read_rest term p ≡ Ok ps → IsListOf FitsProved ps
  unfolding read_rest
  rest_is p ps e =
      let all = both_ok (read_listed head.Derivations (read_proved term) p) (λ (ds : List NominalProved × Unread). read_last ds.1 >>= λ end. Ok ds.0) ps e in
      let end = both_ok (read_last all.0.1) (λ (ws : List Word). Ok all.0.0) ps all.2 in
      subst (IsListOf FitsProved) (same_ok all.0.0 ps end.2) (listed_ranged FitsProved head.Derivations (read_proved term) proved_is p all.0 all.1)

-- the table
entries_are : (n : ℕ) (table : List NominalTerm) (p : Unread) (us : List NominalTerm × Unread) → Each FitsTerm table → read_entries n table p ≡ Ok us → Each FitsTerm us.0
unfolding read_entries
entries_are zero table p us all e = subst (λ (z : List NominalTerm × Unread). Each FitsTerm z.0) (same_ok (table, p) us e) all
entries_are (suc n) table p us all e =
    let t = both_ok (read_form Term (entry_form table) p) (λ t. read_entries n (table ++ t.0 ∷ []) t.1) us e in
    let fits = form_is Term (entry_form table) FitsTerm (entry_form_ranged table all) p t.0 t.1 in
    entries_are n (table ++ t.0.0 ∷ []) t.0.1 us (each_append FitsTerm table (t.0.0 ∷ []) all (fits, tt)) t.2

room_given : (p q : Unread) (t : NominalTerm) (x : NominalTerm × Unread) → room_for p t q ≡ Ok x → t ≡ x.0
room_given p q t x e = go (nat_lt q.room (expanded_size t)) e
  where
    go : (b : Bool) → (if b then Err (wrong Expanded p) else Ok (t, record q { room = q.room - expanded_size t })) ≡ Ok x → t ≡ x.0
    go true h = err_is _ (wrong Expanded p) x h
    go false h = ap (λ (z : NominalTerm × Unread). z.0) (same_ok (t, record q { room = q.room - expanded_size t }) x h)

shared_is : (table : List NominalTerm) → Each FitsTerm table → Ranged FitsTerm (read_shared table)
unfolding read_shared
shared_is table all p x e =
    let t = both_ok (read_form Term (shared_form table) p) (λ t. room_for p t.0 t.1) x e in
    let fits = form_is Term (shared_form table) FitsTerm (shared_form_ranged table all) p t.0 t.1 in
    subst FitsTerm (room_given p t.0.1 t.0.0 x t.2) fits

shared_rest_is : (p : Unread) (ps : List NominalProved) → read_shared_rest read_shared p ≡ Ok ps → IsListOf FitsProved ps
unfolding read_shared_rest
shared_rest_is p ps e =
    let n = both_ok (read_count head.Terms p) (λ (n : ℕ × Unread). read_entries n.0 [] n.1 >>= λ us. read_rest (read_shared us.0) us.1) ps e in
    let table = both_ok (read_entries n.0.0 [] n.0.1) (λ (us : List NominalTerm × Unread). read_rest (read_shared us.0) us.1) ps n.2 in
    rest_is (read_shared table.0.0) (shared_is table.0.0 (entries_are n.0.0 [] n.0.1 table.0 tt table.1)) table.0.1 ps table.2

version_is : (v : Version) (p : Unread) (ps : List NominalProved) → read_version read_shared v p ≡ Ok ps → IsListOf FitsProved ps
version_is One p ps e = rest_is read_term (form_is Term term_form FitsTerm term_form_ranged) p ps e
version_is Two p ps e = shared_rest_is p ps e

-- the text
take_few : (n : ℕ) (bs : List ℕ) → length (take n bs) ≤ n
take_few zero bs = omega arith
take_few (suc n) [] = omega arith
take_few (suc n) (b ∷ bs) = let few = take_few n bs in omega arith

text_is : (n : ℕ) (p : Unread) (x : List ℕ × Unread) → read_text n p ≡ Ok x → length x.0 ≤ n
unfolding read_text
text_is n p x e = go (nat_le (length p.rest) n) (is_lf (slice_index p.rest n)) e
  where
    go : (b c : Bool) → (if b then Err unended else (if c then Ok (take n p.rest, record p { rest = drop (n + 1) p.rest }) else Err (wrong Header (record p { rest = drop n p.rest })))) ≡ Ok x
        → length x.0 ≤ n
    go true c h = err_is _ unended x h
    go false true h = subst (λ (y : List ℕ × Unread). length y.0 ≤ n) (same_ok (take n p.rest, record p { rest = drop (n + 1) p.rest }) x h) (take_few n p.rest)
    go false false h = err_is _ (wrong Header (record p { rest = drop n p.rest })) x h

bundle_is : (p : Unread) (b : NominalBundle) → read_at read_shared p ≡ Ok b → FitsBundle b
unfolding read_at
bundle_is p b e =
    let first = both_ok (read_line Header first_form p)
    (λ (v : Version × Unread). read_count head.Text v.1 >>= λ n. read_text n.0 n.1 >>= λ text. read_version read_shared v.0 text.1 >>= λ ds. Ok (record { text = text.0; proved = ds })) b e in
    let count = both_ok (read_count head.Text first.0.1) (λ (n : ℕ × Unread). read_text n.0 n.1 >>= λ text. read_version read_shared first.0.0 text.1 >>= λ ds. Ok (record { text = text.0; proved = ds })) b first.2 in
    let text = both_ok (read_text count.0.0 count.0.1) (λ (text : List ℕ × Unread). read_version read_shared first.0.0 text.1 >>= λ ds. Ok (record { text = text.0; proved = ds })) b count.2 in
    let proved = both_ok (read_version read_shared first.0.0 text.0.1) (λ (ds : List NominalProved). Ok (record { text = text.0.0; proved = ds })) b text.2 in
    let wide = form_is Header (count_form head.Text) Wide (count_ranged head.Text) first.0.1 count.0 count.1 in
    let few = text_is count.0.0 count.0.1 text.0 text.1 in
    let short : length text.0.0 < 2 ^ 64 = omega arith in
    subst FitsBundle (same_ok (record { text = text.0.0; proved = proved.0 }) b proved.2) (short, version_is first.0.0 text.0.1 proved.0 proved.1)

pub reading_fits : (bytes : List ℕ) (b : NominalBundle) → reading bytes ≡ Ok b → FitsBundle b
reading_fits bytes b e = go (read_at read_shared (start bytes)) refl e
  where
    go : (r : Result NominalBundle Wrong) → read_at read_shared (start bytes) ≡ r → at_line bytes r ≡ Ok b → FitsBundle b
    go (Ok c) is h = let same : c ≡ b = cc in subst FitsBundle same (bundle_is (start bytes) c is)
    go (Err w) is h = absurd (let k : ◌≡◌ {A = Result NominalBundle BundleFault} (at_line bytes (Err w)) (Ok b) = h in cc)
