-- The lines of a table, and the terms that are made of them.
use Rattle.std.proofs.Common.{◌≡◌, Bool, true, false, if◌then◌else◌, ℕ, zero, suc, ◌+◌, ◌<◌, ◌≤◌, List, [], ◌∷◌, ◌++◌, length, map, Some, slice_get, refl, ap, ap₂, sym, subst, ◌∙◌, arith, length-append, ◌⊎◌, inl, inr}
use Rattle.std.specs.Prelude.{reverse}
use Rattle.std.proofs.lemmas.List.{reverse-append, length-reverse, reverse-reverse}
use Rattle.ap_defs.specs.Terms as terms
use Rattle.ap_defs.specs.Terms.{NominalTerm}
use Rattle.ap_bundle.specs.Tables.{expanded_size}
use Rattle.ap_shared.specs.declared.lines.Entry.{Entry}
use Rattle.ap_shared.specs.declared.lines.Entry.TheVariants as entry
use Rattle.ap_shared.specs.declared.lines.SharedLine.{SharedLine}
use Rattle.ap_shared.specs.Shared.{AreLines, AreLinesBelow, IsBehind, IsLine, entry_term, exact_size, shared_at, terms_back}

pub length_back : (ls : List SharedLine) → length (terms_back ls) ≡ length ls
length_back [] = refl
length_back (l ∷ ls) = omega (arith, length_back ls, length-append (terms_back ls) (entry_term (terms_back ls) l.entry ∷ []))

pub at_front : (ts more : List NominalTerm) (i : ℕ) → i < length ts → shared_at (ts ++ more) i ≡ shared_at ts i
at_front [] more i h = absurd (omega arith)
at_front (t ∷ ts) more zero h = refl
at_front (t ∷ ts) more (suc i) h = at_front ts more i (omega arith)

pub at_last : (ts : List NominalTerm) (t : NominalTerm) → shared_at (ts ++ t ∷ []) (length ts) ≡ t
at_last [] t = refl
at_last (u ∷ ts) t = at_last ts t

-- a line that isn't there
pub at_none : (ts : List NominalTerm) (i : ℕ) → length ts ≤ i → shared_at ts i ≡ terms.unit
at_none [] i h = refl
at_none (t ∷ ts) zero h = absurd (omega arith)
at_none (t ∷ ts) (suc i) h = at_none ts i (omega arith)

-- an entry that stands behind its parts has the same term, whatever comes later
pub entry_front : (ts more : List NominalTerm) (e : Entry) → IsBehind (length ts) e → entry_term (ts ++ more) e ≡ entry_term ts e
entry_front ts more entry.Unit h = refl
entry_front ts more (entry.Name a) h = refl
entry_front ts more (entry.Pair i j) h = rw (at_front ts more i h.0, at_front ts more j h.1) refl
entry_front ts more (entry.App f i) h = rw (at_front ts more i h) refl
entry_front ts more (entry.Abs s b i) h = rw (at_front ts more i h) refl
entry_front ts more (entry.Susp p x) h = refl

pub behind_more : (m n : ℕ) (e : Entry) → m < n → IsBehind m e → IsBehind n e
behind_more m n entry.Unit l h = tt
behind_more m n (entry.Name a) l h = tt
behind_more m n (entry.Pair i j) l h = (omega (arith, h.0), omega (arith, h.1))
behind_more m n (entry.App f i) l h = omega arith
behind_more m n (entry.Abs s b i) l h = omega arith
behind_more m n (entry.Susp p x) l h = tt

-- an item of a list with one more at its end
last_item : {A : Type 0} (xs : List A) (y x : A) (k : ℕ) → slice_get (xs ++ y ∷ []) k ≡ Some x → (slice_get xs k ≡ Some x) ⊎ ((k ≡ length xs) × (y ≡ x))
last_item [] y x zero e = inr (refl, cc)
last_item [] y x (suc k) e = cc
last_item (z ∷ xs) y x zero e = inl e
last_item (z ∷ xs) y x (suc k) e = elim (last_item xs y x k e) [
  | inl h ↦ inl h
  | inr h ↦ inr (ap suc h.0, h.1)
]

line_front : (ts more : List NominalTerm) (k : ℕ) (l : SharedLine) → IsLine ts k l → IsLine (ts ++ more) k l
line_front ts more k l h =
    let same = at_front ts more k h.within in
    let part = behind_more k (length ts) l.entry h.within h.behind in
    record {
      within = omega (arith, length-append ts more, h.within);
      is = same ∙ h.is ∙ sym (entry_front ts more l.entry part);
      behind = h.behind;
      size = h.size ∙ ap (λ t. exact_size (expanded_size t)) (sym same);
    }

line_last : (ls : List SharedLine) (l : SharedLine) (k : ℕ) → IsBehind (length ls) l.entry → l.size ≡ exact_size (expanded_size (entry_term (terms_back ls) l.entry)) → k ≡ length ls
    → IsLine (terms_back ls ++ entry_term (terms_back ls) l.entry ∷ []) k l
line_last ls l k b s e =
    let ts = terms_back ls in
    let t = entry_term ts l.entry in
    let long : k ≡ length ts = e ∙ sym (length_back ls) in
    let here : shared_at (ts ++ t ∷ []) k ≡ t = ap (shared_at (ts ++ t ∷ [])) long ∙ at_last ts t in
    let part : IsBehind (length ts) l.entry = subst (λ n. IsBehind n l.entry) (sym (length_back ls)) b in
    record {
      within = omega (arith, length-append ts (t ∷ []), long);
      is = here ∙ sym (entry_front ts (t ∷ []) l.entry part);
      behind = subst (λ n. IsBehind n l.entry) (sym e) b;
      size = s ∙ ap (λ u. exact_size (expanded_size u)) (sym here);
    }

-- each line is one
line_back : (ls : List SharedLine) (k : ℕ) (l : SharedLine) → AreLines ls → slice_get (reverse ls) k ≡ Some l → IsLine (terms_back ls) k l
line_back [] k l h e = cc
line_back (m ∷ ls) k l h e =
    let split : reverse (m ∷ ls) ≡ reverse ls ++ m ∷ [] = reverse-append (m ∷ []) ls in
    let there : slice_get (reverse ls ++ m ∷ []) k ≡ Some l = ap (λ (z : List SharedLine). slice_get z k) (sym split) ∙ e in
    elim (last_item (reverse ls) m l k there) [
      | inl found ↦ line_front (terms_back ls) (entry_term (terms_back ls) m.entry ∷ []) k l (line_back ls k l h.0 found)
      | inr last ↦ subst (λ n. IsLine (terms_back ls ++ entry_term (terms_back ls) m.entry ∷ []) k n) last.1 (line_last ls m k h.1 h.2 (last.0 ∙ length-reverse ls))
    ]

pub terms_long : (items : List SharedLine) → length (terms_back (reverse items)) ≡ length items
terms_long items = length_back (reverse items) ∙ length-reverse items

pub line_at : (items : List SharedLine) (k : ℕ) (l : SharedLine) → AreLines (reverse items) → slice_get items k ≡ Some l → IsLine (terms_back (reverse items)) k l
line_at items k l h e = line_back (reverse items) k l h (ap (λ (z : List SharedLine). slice_get z k) (reverse-reverse items) ∙ e)

-- a line more
module _ (items more : List SharedLine) (l : SharedLine) (pushed : more ≡ items ++ l ∷ []) where
  last_first : reverse more ≡ l ∷ reverse items
  last_first = ap reverse pushed ∙ reverse-append items (l ∷ [])

  pub terms_added : terms_back (reverse more) ≡ terms_back (reverse items) ++ entry_term (terms_back (reverse items)) l.entry ∷ []
  terms_added = ap terms_back last_first

  pub lines_added : AreLines (reverse items) → IsBehind (length (terms_back (reverse items))) l.entry → l.size ≡ exact_size (expanded_size (entry_term (terms_back (reverse items)) l.entry)) → AreLines (reverse more)
  lines_added h b s = subst AreLines (sym last_first) (h, subst (λ n. IsBehind n l.entry) (length_back (reverse items)) b, s)

-- a line more, or none for want of memory
pub lines_pushed : (ok : Bool) (items more : List SharedLine) (l : SharedLine) → more ≡ (if ok then items ++ l ∷ [] else items)
    → AreLines (reverse items) → IsBehind (length (terms_back (reverse items))) l.entry → l.size ≡ exact_size (expanded_size (entry_term (terms_back (reverse items)) l.entry)) → AreLines (reverse more)
lines_pushed true items more l e h b s = lines_added items more l e h b s
lines_pushed false items more l e h b s = subst (λ (ls : List SharedLine). AreLines (reverse ls)) (sym e) h

-- lines that are there stand for the same terms, whatever comes later
pub terms_front : (ts more : List NominalTerm) (ls : List ℕ) → AreLinesBelow (length ts) ls → map (shared_at (ts ++ more)) ls ≡ map (shared_at ts) ls
terms_front ts more [] h = refl
terms_front ts more (i ∷ ls) h = ap₂ (λ t us. t ∷ us) (at_front ts more i h.0) (terms_front ts more ls h.1)

pub below_more : (m n : ℕ) (ls : List ℕ) → m ≤ n → AreLinesBelow m ls → AreLinesBelow n ls
below_more m n [] l h = tt
below_more m n (i ∷ ls) l h = (omega (arith, l, h.0), below_more m n ls l h.1)
