-- What is read where the terms may be as large together, beside what is read where each may be: the same, or a term is too large.
use Rattle.std.proofs.Common.{◌≡◌, ℕ, zero, suc, ◌+◌, ◌-◌, ◌≤◌, ◌⊎◌, inl, inr, Bool, true, false, ◌==◌, nat_lt, nat_le, List, [], ◌∷◌, ◌++◌, length, take, drop, Option, None, Some, Result, Ok, Err, refl, sym, ap, ◌∙◌, arith}
use Rattle.std.specs.Prelude.{if◌then◌else◌, slice_index}
use Rattle.std.proofs.lemmas.Bool.{le-ltb, ltb-false}
use Rattle.ap_defs.specs.Terms.{NominalTerm}
use Rattle.ap_bundle.specs.declared.faults.BundleFault.{BundleFault}
use Rattle.ap_bundle.specs.declared.faults.BundleKind.{BundleKind}
use Rattle.ap_bundle.specs.declared.faults.BundleKind.TheVariants.{Header, Node, Term, Expanded}
use Rattle.ap_bundle.specs.declared.version.Version.{Version}
use Rattle.ap_bundle.specs.declared.version.Version.TheVariants.{One, Two}
use Rattle.ap_bundle.specs.declared.words.Head.{Head}
use Rattle.ap_bundle.specs.declared.words.Head.TheVariants as head
use Rattle.ap_bundle.specs.declared.words.Word.{Word}
use Rattle.ap_bundle.specs.Words.{line_words}
use Rattle.ap_bundle.specs.Bundles.{NominalBundle}
use Rattle.ap_bundle.specs.LineForms as lines
use Rattle.ap_bundle.specs.LineForms.{NodeLine, count_form, query_form, var_form, cond_form, name_form, term_form, node_form, first_form, end_form}
use Rattle.ap_bundle.specs.Nodes as nodes
use Rattle.ap_bundle.specs.Nodes.{children, derivation_from}
use Rattle.ap_bundle.specs.Tables.{expanded_size}
use Rattle.ap_bundle.specs.TableForms.{entry_form, if_small_alone, read_cited, read_entries, read_shared, room_at_first, room_for, shared_form}
use Rattle.ap_bundle.specs.Readers.{Unread, Wrong, Reader, ◌>>=◌, unended, wrong, found, is_lf, first_line, after_line, line_as, read_line, read_words, read_form, repeated, with_front, fault_in}
use Rattle.ap_bundle.specs.Reading.{ends, read_count, read_listed, read_name, read_term, read_atom, read_exists, read_behind, read_node, read_nodes, read_derivation, read_answer, read_proved, read_text, read_last, read_rest, read_shared_rest, read_version, read_at, start, at_line, reading, cited_reading}
use Rattle.ap_bundle_laws.specs.Laws.{ReadAlike, ReadsAlike}

abbrev with_room : ℕ → Unread → Unread
with_room n p = record p { room = n }

abbrev Low : Unread → Type 0
Low p = p.room ≤ room_at_first

-- what two readers give at one place, the other one with any room, and no more room is left than at first
abbrev AlikeAt : {A : Type 0} → ℕ → Result (A × Unread) Wrong → Result (A × Unread) Wrong → Type 0
AlikeAt n (Ok x) o = (o ≡ Ok (x.0, with_room n x.1)) × Low x.1
AlikeAt n (Err w) o = (w.kind ≡ Expanded) ⊎ (o ≡ Err w)

abbrev Alike : {A : Type 0} → Reader A → Reader A → Type 0
Alike r s = (n : ℕ) (p : Unread) → Low p → AlikeAt n (r p) (s (with_room n p))

-- the same where nothing is left
abbrev EndAt : {A : Type 0} → Result A Wrong → Result A Wrong → Type 0
EndAt (Ok x) o = o ≡ Ok x
EndAt (Err w) o = (w.kind ≡ Expanded) ⊎ (o ≡ Err w)

abbrev Ends : {A : Type 0} → (Unread → Result A Wrong) → (Unread → Result A Wrong) → Type 0
Ends r s = (n : ℕ) (p : Unread) → Low p → EndAt (r p) (s (with_room n p))

alike_ok : {A : Type 0} (a : A) → Alike (λ p. Ok (a, p)) (λ p. Ok (a, p))
alike_ok a n p low = (refl, low)

alike_line : {A : Type 0} (kind : BundleKind) (form : List ℕ → Option A) → Alike (read_line kind form) (read_line kind form)
unfolding read_line
alike_line {A} kind form n p low = go (first_line p.rest)
  where
    over : (l : List ℕ × List ℕ) (o : Option A) → AlikeAt n (found kind p o >>= λ x. Ok (x, after_line p l)) (found kind (with_room n p) o >>= λ x. Ok (x, after_line (with_room n p) l))
    over l None = inr refl
    over l (Some x) = (refl, low)

    go : (o : Option (List ℕ × List ℕ)) → AlikeAt n (line_as kind form p o) (line_as kind form (with_room n p) o)
    go None = inr refl
    go (Some l) = over l (form l.0)

-- what is made of what was read, or wrong where it began
alike_found : {A B : Type 0} (kind : BundleKind) (form : A → Option B) (n : ℕ) (p : Unread) (a b : Result (A × Unread) Wrong) → AlikeAt n a b
    → AlikeAt n (a >>= λ x. found kind p (form x.0) >>= λ y. Ok (y, x.1)) (b >>= λ x. found kind (with_room n p) (form x.0) >>= λ y. Ok (y, x.1))
alike_found {A} {B} kind form n p a b h = go a b h
  where
    over : (q : Unread) (o : Option B) → Low q → AlikeAt n (found kind p o >>= λ y. Ok (y, q)) (found kind (with_room n p) o >>= λ y. Ok (y, with_room n q))
    over q None low = inr refl
    over q (Some y) low = (refl, low)

    go : (a b : Result (A × Unread) Wrong) → AlikeAt n a b → AlikeAt n (a >>= λ x. found kind p (form x.0) >>= λ y. Ok (y, x.1)) (b >>= λ x. found kind (with_room n p) (form x.0) >>= λ y. Ok (y, x.1))
    go (Ok x) b e = rw e.0 (over x.1 (form x.0) e.1)
    go (Err w) b (inl e) = inl e
    go (Err w) b (inr e) = rw e (inr refl)

alike_form : {A : Type 0} (kind : BundleKind) (form : List Word → Option A) → Alike (read_form kind form) (read_form kind form)
unfolding read_form
alike_form kind form n p low = alike_found kind form n p (read_words kind p) (read_words kind (with_room n p)) (alike_line kind line_words n p low)

-- one after another
alike_then : {A B : Type 0} (r s : Reader A) (f g : A → Reader B) → Alike r s → ((a : A) → Alike (f a) (g a)) → Alike (λ p. r p >>= λ z. f z.0 z.1) (λ p. s p >>= λ z. g z.0 z.1)
alike_then {A} {B} r s f g h k n p low = go (r p) (s (with_room n p)) (h n p low)
  where
    go : (a b : Result (A × Unread) Wrong) → AlikeAt n a b → AlikeAt n (a >>= λ z. f z.0 z.1) (b >>= λ z. g z.0 z.1)
    go (Ok y) b e = rw e.0 (k y.0 n y.1 e.1)
    go (Err w) b (inl e) = inl e
    go (Err w) b (inr e) = rw e (inr refl)

ends_then : {A B : Type 0} (r s : Reader A) (f g : A → Unread → Result B Wrong) → Alike r s → ((a : A) → Ends (f a) (g a)) → Ends (λ p. r p >>= λ z. f z.0 z.1) (λ p. s p >>= λ z. g z.0 z.1)
ends_then {A} {B} r s f g h k n p low = go (r p) (s (with_room n p)) (h n p low)
  where
    go : (a b : Result (A × Unread) Wrong) → AlikeAt n a b → EndAt (a >>= λ z. f z.0 z.1) (b >>= λ z. g z.0 z.1)
    go (Ok y) b e = rw e.0 (k y.0 n y.1 e.1)
    go (Err w) b (inl e) = inl e
    go (Err w) b (inr e) = rw e (inr refl)

ends_with : {A B : Type 0} (r s : Unread → Result A Wrong) (f : A → B) → Ends r s → Ends (λ p. r p >>= λ z. Ok (f z)) (λ p. s p >>= λ z. Ok (f z))
ends_with {A} {B} r s f h n p low = go (r p) (s (with_room n p)) (h n p low)
  where
    go : (a b : Result A Wrong) → EndAt a b → EndAt (a >>= λ z. Ok (f z)) (b >>= λ z. Ok (f z))
    go (Ok x) b e = rw e refl
    go (Err w) b (inl e) = inl e
    go (Err w) b (inr e) = rw e (inr refl)

alike_front : {A : Type 0} (front : List A) (n : ℕ) (a b : Result (List A × Unread) Wrong) → AlikeAt n a b → AlikeAt n (with_front front a) (with_front front b)
alike_front front n (Ok x) b e = rw e.0 (refl, e.1)
alike_front front n (Err w) b (inl e) = inl e
alike_front front n (Err w) b (inr e) = rw e (inr refl)

module _ {A : Type 0} (r s : Reader A) (h : Alike r s) where
  alike_repeated : (k : ℕ) → Alike (repeated r k) (repeated s k)
  unfolding repeated
  alike_repeated zero n p low = (refl, low)
  alike_repeated (suc k) n p low =
      alike_then r s (λ x q. with_front (x ∷ []) (repeated r k q)) (λ x q. with_front (x ∷ []) (repeated s k q)) h
      (λ x m q l. alike_front (x ∷ []) m (repeated r k q) (repeated s k (with_room m q)) (alike_repeated k m q l)) n p low

  alike_listed : (hd : Head) → Alike (read_listed hd r) (read_listed hd s)
  unfolding read_listed
  alike_listed hd = alike_then (read_count hd) (read_count hd) (λ k. repeated r k) (λ k. repeated s k) (alike_form Header (count_form hd)) alike_repeated

module _ (r s : Reader NominalTerm) (h : Alike r s) where
  alike_atom : (k names terms : ℕ) → Alike (read_atom r k names terms) (read_atom s k names terms)
  unfolding read_atom
  alike_atom k names terms =
      alike_then (repeated read_name names) (repeated read_name names) (λ as' p. repeated r terms p >>= λ ts. Ok (nodes.atom k as' ts.0, ts.1)) (λ as' p. repeated s terms p >>= λ ts. Ok (nodes.atom k as' ts.0, ts.1))
      (alike_repeated read_name read_name (alike_form Term name_form) names)
      (λ as'. alike_then (repeated r terms) (repeated s terms) (λ ts p. Ok (nodes.atom k as' ts, p)) (λ ts p. Ok (nodes.atom k as' ts, p)) (alike_repeated r s h terms) (λ ts. alike_ok (nodes.atom k as' ts)))

  alike_exists : Alike (read_exists r) (read_exists s)
  unfolding read_exists
  alike_exists = alike_then r s (λ t p. Ok (nodes.exists t, p)) (λ t p. Ok (nodes.exists t, p)) h (λ t. alike_ok (nodes.exists t))

  alike_behind : (line : NodeLine NominalTerm) → Alike (read_behind r line) (read_behind s line)
  alike_behind (lines.atom k names terms) = alike_atom k names terms
  alike_behind lines.exists = alike_exists
  alike_behind (lines.whole m) = alike_ok m

  alike_node : Alike (read_node r) (read_node s)
  unfolding read_node
  alike_node = alike_then (read_form Node node_form) (read_form Node node_form) (read_behind r) (read_behind s) (alike_form Node node_form) alike_behind

  alike_nodes : (bound wanted : ℕ) → Alike (read_nodes r bound wanted) (read_nodes s bound wanted)
  unfolding read_nodes
  alike_nodes bound zero n p low = (refl, low)
  alike_nodes zero (suc wanted) n p low = inr refl
  alike_nodes (suc bound) (suc wanted) n p low =
      alike_then (read_node r) (read_node s) (λ x q. with_front (x ∷ []) (read_nodes r bound (wanted + children x) q)) (λ x q. with_front (x ∷ []) (read_nodes s bound (wanted + children x) q)) alike_node
      (λ x m q l. alike_front (x ∷ []) m (read_nodes r bound (wanted + children x) q) (read_nodes s bound (wanted + children x) (with_room m q)) (alike_nodes bound (wanted + children x) m q l)) n p low

  alike_derivation : Alike (read_derivation r) (read_derivation s)
  unfolding read_derivation
  alike_derivation n p low = alike_found Node derivation_from n p (read_nodes r (length p.rest) 1 p) (read_nodes s (length p.rest) 1 (with_room n p)) (alike_nodes (length p.rest) 1 n p low)

  alike_answer : Alike (read_answer r) (read_answer s)
  unfolding read_answer
  alike_answer =
      alike_then (read_listed head.Vars (read_form Term var_form)) (read_listed head.Vars (read_form Term var_form))
      (λ vars p. read_listed head.Conds (read_form Term cond_form) p >>= λ conds. read_listed head.Binds r conds.1 >>= λ binds. Ok (record { binds = binds.0; conds = conds.0; vars = vars }, binds.1))
      (λ vars p. read_listed head.Conds (read_form Term cond_form) p >>= λ conds. read_listed head.Binds s conds.1 >>= λ binds. Ok (record { binds = binds.0; conds = conds.0; vars = vars }, binds.1))
      (alike_listed (read_form Term var_form) (read_form Term var_form) (alike_form Term var_form) head.Vars)
      (λ vars. alike_then (read_listed head.Conds (read_form Term cond_form)) (read_listed head.Conds (read_form Term cond_form))
      (λ conds p. read_listed head.Binds r p >>= λ binds. Ok (record { binds = binds.0; conds = conds; vars = vars }, binds.1))
      (λ conds p. read_listed head.Binds s p >>= λ binds. Ok (record { binds = binds.0; conds = conds; vars = vars }, binds.1))
      (alike_listed (read_form Term cond_form) (read_form Term cond_form) (alike_form Term cond_form) head.Conds)
      (λ conds. alike_then (read_listed head.Binds r) (read_listed head.Binds s) (λ binds p. Ok (record { binds = binds; conds = conds; vars = vars }, p)) (λ binds p. Ok (record { binds = binds; conds = conds; vars = vars }, p))
      (alike_listed r s h head.Binds) (λ binds. alike_ok (record { binds = binds; conds = conds; vars = vars }))))

  alike_proved : Alike (read_proved r) (read_proved s)
  unfolding read_proved
  alike_proved =
      alike_then (read_form Header query_form) (read_form Header query_form)
      (λ query p. read_answer r p >>= λ answer. read_derivation r answer.1 >>= λ d. Ok (record { query = query; answer = answer.0; derivation = d.0 }, d.1))
      (λ query p. read_answer s p >>= λ answer. read_derivation s answer.1 >>= λ d. Ok (record { query = query; answer = answer.0; derivation = d.0 }, d.1))
      (alike_form Header query_form)
      (λ query. alike_then (read_answer r) (read_answer s)
      (λ answer p. read_derivation r p >>= λ d. Ok (record { query = query; answer = answer; derivation = d.0 }, d.1))
      (λ answer p. read_derivation s p >>= λ d. Ok (record { query = query; answer = answer; derivation = d.0 }, d.1))
      alike_answer
      (λ answer. alike_then (read_derivation r) (read_derivation s) (λ d p. Ok (record { query = query; answer = answer; derivation = d }, p)) (λ d p. Ok (record { query = query; answer = answer; derivation = d }, p))
      alike_derivation (λ d. alike_ok (record { query = query; answer = answer; derivation = d }))))

ends_same : Ends ends ends
ends_same n p low = go (length p.rest == 0)
  where
    go : (b : Bool) → EndAt {A = List Word} (if b then Ok [] else Err (wrong Header p)) (if b then Ok [] else Err (wrong Header (with_room n p)))
    go true = refl
    go false = inr refl

ends_last : Ends read_last read_last
unfolding read_last
ends_last = ends_then (read_form Header end_form) (read_form Header end_form) (λ end p. ends p) (λ end p. ends p) (alike_form Header end_form) (λ end. ends_same)

ends_rest : (r s : Reader NominalTerm) → Alike r s → Ends (read_rest r) (read_rest s)
unfolding read_rest
ends_rest r s h =
    ends_then (read_listed head.Derivations (read_proved r)) (read_listed head.Derivations (read_proved s)) (λ all p. read_last p >>= λ end. Ok all) (λ all p. read_last p >>= λ end. Ok all)
    (alike_listed (read_proved r) (read_proved s) (alike_proved r s h) head.Derivations) (λ all. ends_with read_last read_last (λ end. all) ends_last)

alike_entries : (k : ℕ) (table : List NominalTerm) → Alike (read_entries k table) (read_entries k table)
unfolding read_entries
alike_entries zero table = alike_ok table
alike_entries (suc k) table =
    alike_then (read_form Term (entry_form table)) (read_form Term (entry_form table)) (λ t p. read_entries k (table ++ t ∷ []) p) (λ t p. read_entries k (table ++ t ∷ []) p) (alike_form Term (entry_form table))
    (λ t. alike_entries k (table ++ t ∷ []))

-- a term for which there is room is small enough
small_alike : (n : ℕ) (p q : Unread) (t : NominalTerm) → Low q → AlikeAt n (room_for p t q) (if_small_alone (with_room n p) t (with_room n q))
small_alike n p q t low = go (nat_lt q.room (expanded_size t)) refl
  where
    go : (b : Bool) → nat_lt q.room (expanded_size t) ≡ b
        → AlikeAt {A = NominalTerm} n (if b then Err (wrong Expanded p) else Ok (t, record q { room = q.room - expanded_size t })) (if_small_alone (with_room n p) t (with_room n q))
    go true is = inl refl
    go false is =
        let room = ltb-false q.room (expanded_size t) is in
        let small : nat_lt room_at_first (expanded_size t) ≡ false = le-ltb room_at_first (expanded_size t) (omega (arith, low, room)) in
        rw small (refl, omega (arith, low))

alike_cited : (table : List NominalTerm) → Alike (read_shared table) (read_cited table)
unfolding read_shared read_cited
alike_cited table n p low = go (read_form Term (shared_form table) p) (read_form Term (shared_form table) (with_room n p)) (alike_form Term (shared_form table) n p low)
  where
    go : (a b : Result (NominalTerm × Unread) Wrong) → AlikeAt n a b → AlikeAt n (a >>= λ t. room_for p t.0 t.1) (b >>= λ t. if_small_alone (with_room n p) t.0 t.1)
    go (Ok t) b e = rw e.0 (small_alike n p t.1 t.0 e.1)
    go (Err w) b (inl e) = inl e
    go (Err w) b (inr e) = rw e (inr refl)

ends_shared_rest : Ends (read_shared_rest read_shared) (read_shared_rest read_cited)
unfolding read_shared_rest
ends_shared_rest =
    ends_then (read_count head.Terms) (read_count head.Terms) (λ k p. read_entries k [] p >>= λ us. read_rest (read_shared us.0) us.1) (λ k p. read_entries k [] p >>= λ us. read_rest (read_cited us.0) us.1) (alike_form Header (count_form head.Terms))
    (λ k. ends_then (read_entries k []) (read_entries k []) (λ us p. read_rest (read_shared us) p) (λ us p. read_rest (read_cited us) p) (alike_entries k []) (λ us. ends_rest (read_shared us) (read_cited us) (alike_cited us)))

ends_version : (v : Version) → Ends (read_version read_shared v) (read_version read_cited v)
ends_version One = ends_rest read_term read_term (alike_form Term term_form)
ends_version Two = ends_shared_rest

-- the text here, by whether the bytes end before its LF, and whether it is there
abbrev text_here : Bool → Bool → ℕ → Unread → Result (List ℕ × Unread) Wrong
text_here b c k p = if b then Err unended else (if c then Ok (take k p.rest, record p { rest = drop (k + 1) p.rest }) else Err (wrong Header (record p { rest = drop k p.rest })))

alike_text : (k : ℕ) → Alike (read_text k) (read_text k)
unfolding read_text
alike_text k n p low = go (nat_le (length p.rest) k) (is_lf (slice_index p.rest k))
  where
    go : (b c : Bool) → AlikeAt n (text_here b c k p) (text_here b c k (with_room n p))
    go true c = inr refl
    go false true = (refl, low)
    go false false = inr refl

ends_at : Ends (read_at read_shared) (read_at read_cited)
unfolding read_at
ends_at =
    ends_then (read_line Header first_form) (read_line Header first_form)
    (λ v p. read_count head.Text p >>= λ k. read_text k.0 k.1 >>= λ t. read_version read_shared v t.1 >>= λ ps. Ok (record { text = t.0; proved = ps }))
    (λ v p. read_count head.Text p >>= λ k. read_text k.0 k.1 >>= λ t. read_version read_cited v t.1 >>= λ ps. Ok (record { text = t.0; proved = ps }))
    (alike_line Header first_form)
    (λ v. ends_then (read_count head.Text) (read_count head.Text)
    (λ k p. read_text k p >>= λ t. read_version read_shared v t.1 >>= λ ps. Ok (record { text = t.0; proved = ps }))
    (λ k p. read_text k p >>= λ t. read_version read_cited v t.1 >>= λ ps. Ok (record { text = t.0; proved = ps }))
    (alike_form Header (count_form head.Text))
    (λ k. ends_then (read_text k) (read_text k) (λ t p. read_version read_shared v p >>= λ ps. Ok (record { text = t; proved = ps })) (λ t p. read_version read_cited v p >>= λ ps. Ok (record { text = t; proved = ps }))
    (alike_text k) (λ t. ends_with (read_version read_shared v) (read_version read_cited v) (λ ps. record { text = t; proved = ps }) (ends_version v))))

pub read_alike : ReadAlike
read_alike bytes = go (read_at read_shared (start bytes)) (read_at read_cited (start bytes)) (ends_at room_at_first (start bytes) (omega arith))
  where
    go : (a b : Result NominalBundle Wrong) → EndAt a b → ReadsAlike (at_line bytes a) (at_line bytes b)
    go (Ok c) b e = inl (ap (at_line bytes) (sym e))
    go (Err w) b (inl e) = inr ((fault_in bytes w).line, ap (λ kind. Err (record { line = (fault_in bytes w).line; kind = kind })) e)
    go (Err w) b (inr e) = inl (ap (at_line bytes) (sym e))

-- what is read so is read where each term may be as large as all together
pub read_is_cited : (bytes : List ℕ) (b : NominalBundle) → reading bytes ≡ Ok b → cited_reading bytes ≡ Ok b
read_is_cited bytes b read = go (reading bytes) (cited_reading bytes) (read_alike bytes) read
  where
    go : (r s : Result NominalBundle BundleFault) → ReadsAlike r s → r ≡ Ok b → s ≡ Ok b
    go r s (inl e) h = sym e ∙ h
    go r s (inr e) h =
        let refused : r ≡ Err (record { line = e.0; kind = Expanded }) = e.1 in
        absurd (let k : ◌≡◌ {A = Result NominalBundle BundleFault} (Err (record { line = e.0; kind = Expanded })) (Ok b) = sym refused ∙ h in cc)
