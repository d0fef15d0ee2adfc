-- The text of a bundle is no longer than the bundle.
use Rattle.std.proofs.Common.{◌≡◌, ◌≤◌, ◌+◌, ℕ, zero, suc, Bool, true, false, List, [], ◌∷◌, length, take, drop, refl, ap, subst, ◌∙◌, arith, nat_le}
use Rattle.std.specs.Prelude.{if◌then◌else◌, slice_index, Option, None, Some, Result, Ok, Err, option_map}
use Rattle.ap_bundle.specs.declared.faults.BundleFault.{BundleFault}
use Rattle.ap_bundle.specs.declared.faults.BundleKind.{BundleKind}
use Rattle.ap_bundle.specs.declared.faults.BundleKind.TheVariants.{Header}
use Rattle.ap_bundle.specs.declared.words.Head.TheVariants as head
use Rattle.ap_bundle.specs.declared.words.Word.{Word}
use Rattle.ap_bundle.specs.Bundles.{NominalBundle, NominalProved}
use Rattle.ap_bundle.specs.LineForms.{count_form, first_form}
use Rattle.ap_bundle.specs.Readers.{Unread, Wrong, ◌>>=◌, after_line, first_line, found, is_lf, line_as, read_form, read_line, read_words, unended, wrong}
use Rattle.ap_bundle.specs.Words.{line_words}
use Rattle.ap_bundle.specs.Reading.{TableReader, at_line, cited_reading, read_at, read_text, read_version, reading, reading_by, start}
use Rattle.ap_bundle.specs.TableForms.{read_cited, read_shared}

-- the bytes behind the first line are no more
later_line : (b : ℕ) (o : Option (List ℕ × List ℕ)) (l : List ℕ × List ℕ) (n : ℕ) → option_map (λ m. (b ∷ m.0, m.1)) o ≡ Some l
    → ((m : List ℕ × List ℕ) → o ≡ Some m → length m.1 ≤ n) → length l.1 ≤ suc n
later_line b None l n e h = absurd (let k : None ≡ Some l = e in cc)
later_line b (Some m) l n e h =
    let same : m.1 ≡ l.1 = cc in
    let short = h m refl in
    let more : length m.1 ≤ suc n = omega arith in
    subst (λ (r : List ℕ). length r ≤ suc n) same more

rest_short : (bs : List ℕ) (l : List ℕ × List ℕ) → first_line bs ≡ Some l → length l.1 ≤ length bs
rest_short [] l e = absurd (let k : None ≡ Some l = e in cc)
rest_short (b ∷ bs) l e =
    elim (is_lf b) as (λ c. (if c then Some ([], bs) else option_map (λ m. (b ∷ m.0, m.1)) (first_line bs)) ≡ Some l → length l.1 ≤ suc (length bs)) [
      | true ↦ λ h. let same : bs ≡ l.1 = cc in let more : length bs ≤ suc (length bs) = omega arith in subst (λ (r : List ℕ). length r ≤ suc (length bs)) same more
      | false ↦ λ h. later_line b (first_line bs) l (length bs) h (rest_short bs)
    ] e

-- what is read in two steps
both_read : {A B : Type 0} (r : Result A Wrong) (f : A → Result B Wrong) (b : B) → (r >>= f) ≡ Ok b → (a : A) × (r ≡ Ok a) × (f a ≡ Ok b)
both_read (Ok a) f b e = (a, refl, e)
both_read {A} {B} (Err w) f b e = absurd (let k : ◌≡◌ {A = Result B Wrong} (Err w) (Ok b) = e in cc)

same_ok : {A : Type 0} (a b : A) → ◌≡◌ {A = Result A Wrong} (Ok a) (Ok b) → a ≡ b
same_ok a b e = cc

-- a line leaves no more than there was
line_short : {A : Type 0} (kind : BundleKind) (form : List ℕ → Option A) (p : Unread) (x : A × Unread) → read_line kind form p ≡ Ok x → length x.1.rest ≤ length p.rest
unfolding read_line
line_short {A} kind form p x e = go (first_line p.rest) e (rest_short p.rest)
  where
    go : (o : Option (List ℕ × List ℕ)) → line_as kind form p o ≡ Ok x → ((l : List ℕ × List ℕ) → o ≡ Some l → length l.1 ≤ length p.rest) → length x.1.rest ≤ length p.rest
    go None h short = absurd (let k : ◌≡◌ {A = Result (A × Unread) Wrong} (Err unended) (Ok x) = h in cc)
    go (Some l) h short =
        let parts = both_read (found kind p (form l.0)) (λ y. Ok (y, after_line p l)) x h in
        let same : (parts.0, after_line p l) ≡ x = same_ok (parts.0, after_line p l) x parts.2 in
        subst (λ (y : A × Unread). length y.1.rest ≤ length p.rest) same (short l refl)

form_short : {A : Type 0} (kind : BundleKind) (form : List Word → Option A) (p : Unread) (x : A × Unread) → read_form kind form p ≡ Ok x → length x.1.rest ≤ length p.rest
unfolding read_form
form_short {A} kind form p x e =
    let words = both_read (read_words kind p) (λ w. found kind p (form w.0) >>= λ y. Ok (y, w.1)) x e in
    let its = both_read (found kind p (form words.0.0)) (λ y. Ok (y, words.0.1)) x words.2 in
    let same : (its.0, words.0.1) ≡ x = same_ok (its.0, words.0.1) x its.2 in
    subst (λ (y : A × Unread). length y.1.rest ≤ length p.rest) same (line_short kind line_words p words.0 words.1)

take_short : (n : ℕ) (bs : List ℕ) → length (take n bs) ≤ length bs
take_short zero bs = omega arith
take_short (suc n) [] = omega arith
take_short (suc n) (b ∷ bs) = let short = take_short n bs in omega arith

text_short : (n : ℕ) (p : Unread) (x : List ℕ × Unread) → read_text n p ≡ Ok x → length x.0 ≤ length p.rest
unfolding read_text
text_short n p x e = go (nat_le (length p.rest) n) (is_lf (slice_index p.rest n)) e
  where
    go : (b c : Bool) → (if b then Err unended else (if c then Ok (take n p.rest, record p { rest = drop (n + 1) p.rest }) else Err (wrong Header (record p { rest = drop n p.rest })))) ≡ Ok x
        → length x.0 ≤ length p.rest
    go true c h = absurd (let k : ◌≡◌ {A = Result (List ℕ × Unread) Wrong} (Err unended) (Ok x) = h in cc)
    go false true h =
        let same : (take n p.rest, record p { rest = drop (n + 1) p.rest }) ≡ x = same_ok _ x h in
        subst (λ (y : List ℕ × Unread). length y.0 ≤ length p.rest) same (take_short n p.rest)
    go false false h = absurd (let k : ◌≡◌ {A = Result (List ℕ × Unread) Wrong} (Err (wrong Header (record p { rest = drop n p.rest }))) (Ok x) = h in cc)

bundle_short : (shared : TableReader) (p : Unread) (b : NominalBundle) → read_at shared p ≡ Ok b → length b.text ≤ length p.rest
unfolding read_at
bundle_short shared p b e =
    let first = both_read _ _ b e in
    let count = both_read _ _ b first.2 in
    let text = both_read _ _ b count.2 in
    let rest = both_read (read_version shared first.0.0 text.0.1) (λ (ds : List NominalProved). Ok (record { text = text.0.0; proved = ds })) b text.2 in
    let same : text.0.0 ≡ b.text = ap (λ (z : NominalBundle). z.text) (same_ok (record { text = text.0.0; proved = rest.0 }) b rest.2) in
    let one = line_short Header first_form p first.0 first.1 in
    let two = form_short Header (count_form head.Text) first.0.1 count.0 count.1 in
    let three = text_short count.0.0 count.0.1 text.0 text.1 in
    subst (λ (z : List ℕ). length z ≤ length p.rest) same (omega arith)

by_short : (shared : TableReader) (bytes : List ℕ) (b : NominalBundle) → reading_by shared bytes ≡ Ok b → length b.text ≤ length bytes
by_short shared bytes b e = go (read_at shared (start bytes)) refl e
  where
    go : (r : Result NominalBundle Wrong) → read_at shared (start bytes) ≡ r → at_line bytes r ≡ Ok b → length b.text ≤ length bytes
    go (Ok c) is h = let same : c ≡ b = cc in bundle_short shared (start bytes) b (is ∙ ap (λ (x : NominalBundle). Ok x) same)
    go (Err w) is h = absurd (let k : ◌≡◌ {A = Result NominalBundle BundleFault} (at_line bytes (Err w)) (Ok b) = h in cc)

pub reading_short : (bytes : List ℕ) (b : NominalBundle) → reading bytes ≡ Ok b → length b.text ≤ length bytes
reading_short = by_short read_shared

pub cited_short : (bytes : List ℕ) (b : NominalBundle) → cited_reading bytes ≡ Ok b → length b.text ≤ length bytes
cited_short = by_short read_cited
