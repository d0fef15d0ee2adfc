-- Steps of walks that copy terms.
use Rattle.std.proofs.Common.{◌≡◌, ◌<◌, ◌+◌, ℕ, List, [], ◌∷◌, ◌++◌, refl, sym, ap, ap₂, ◌∙◌, arith, subst}
use Rattle.std.proofs.lemmas.List.Sums.{sum_by-append}
use Rattle.std.specs.List.{sum_by}
use Rattle.ap_defs.specs.declared.spines.TermLayer.{TermLayer}
use Rattle.ap_defs.specs.declared.spines.TermLayer.TheVariants as around
use Rattle.ap_defs.specs.declared.terms.Term.{Term}
use Rattle.ap_defs.specs.Spines.{term_in, term_within}
use Rattle.ap_defs.specs.Terms.{NominalTerm, pair, term_of}
use Rattle.ap_defs.specs.Unification.{size}
use Rattle.ap_defs.proofs.SpineLemmas.{term_within_last}
use Rattle.ap_judge.specs.declared.outside.Half.{Half}
use Rattle.ap_judge.specs.declared.outside.Next.{Next}
use Rattle.ap_judge.specs.declared.outside.Next.TheVariants as nexts
use Rattle.ap_judge.specs.declared.outside.Outside.{Outside}
use Rattle.ap_judge.specs.declared.closures.Closure.{Closure}
use Rattle.ap_judge.specs.Outsides.{IsNextPart, halved, left_outside, outside_of, right_size, within_halves}
use Rattle.ap_judge.specs.Closures.{scoped_term}

sizes_last : (hs : List Half) (h : Half) → sum_by right_size (hs ++ h ∷ []) ≡ right_size h + sum_by right_size hs
sizes_last hs h = let whole : sum_by right_size (hs ++ h ∷ []) ≡ sum_by right_size hs + sum_by right_size (h ∷ []) = sum_by-append right_size hs (h ∷ []) in omega (arith, whole)

last_half : (hs : List Half) (h : Half) (t : NominalTerm) → within_halves (hs ++ h ∷ []) t ≡ within_halves hs (halved h t)
last_half [] h t = refl
last_half (k ∷ hs) h t = ap (halved k) (last_half hs h t)

-- nothing stands round the whole
pub none_outside : (o : Outside) (t : NominalTerm) → o.halves.items ≡ [] → o.layers.items ≡ [] → outside_of o t ≡ t
none_outside o t h l = ap₂ (λ hs ls. within_halves hs (term_within ls t)) h l

-- one more layer
outside_wrapped : (o p : Outside) (l : TermLayer) (t : NominalTerm) → p.halves.items ≡ o.halves.items → p.layers.items ≡ o.layers.items ++ l ∷ [] → outside_of p t ≡ outside_of o (term_in l t)
outside_wrapped o p l t h k = ap₂ (λ hs ls. within_halves hs (term_within ls t)) h k ∙ ap (within_halves o.halves.items) (term_within_last o.layers.items l t)

pub next_wrapped : (o p : Outside) (l : TermLayer) (r : Closure) (n : ℕ) (t : NominalTerm) → p.halves.items ≡ o.halves.items → p.layers.items ≡ o.layers.items ++ l ∷ []
    → t ≡ term_in l (scoped_term r) → size (scoped_term r) < n → IsNextPart n o t p (nexts.Part r)
next_wrapped o p l r n t h k e s = record {
  all = outside_wrapped o p l (scoped_term r) h k ∙ ap (outside_of o) (sym e);
  less = let same : left_outside p ≡ left_outside o = ap (sum_by right_size) h in omega (arith, same, s);
}

-- a pair whose left part comes first
module _ (o p : Outside) (left right : Closure) (h : p.halves.items ≡ o.halves.items ++ (record { layers = o.layers; right = right }) ∷ []) (k : p.layers.items ≡ []) where
  abbrev half : Half
  half = record { layers = o.layers; right = right }

  pub next_halved : (n : ℕ) (t : NominalTerm) → t ≡ pair (scoped_term left) (scoped_term right) → size (scoped_term left) + size (scoped_term right) < n → IsNextPart n o t p (nexts.Part left)
  next_halved n t e s = record {
    all =
        ap₂ (λ hs ls. within_halves hs (term_within ls (scoped_term left))) h k
        ∙ last_half o.halves.items half (scoped_term left) ∙ ap (outside_of o) (sym e);
    less =
        let sums : left_outside p ≡ size (scoped_term right) + left_outside o = ap (sum_by right_size) h ∙ sizes_last o.halves.items half in
        omega (arith, sums, s);
  }

-- a part was made
module _ (o : Outside) (t : NominalTerm) (made : Term) (m : term_of made ≡ term_within o.layers.items t) where
  pub closed_whole : o.halves.items ≡ [] → term_of made ≡ outside_of o t
  closed_whole h = m ∙ sym (ap (λ hs. within_halves hs (term_within o.layers.items t)) h)

  pub closed_part : (n : ℕ) (p : Outside) (h : Half) (hs : List Half) → 0 < n → o.halves.items ≡ hs ++ h ∷ [] → p.halves.items ≡ hs → p.layers.items ≡ h.layers.items ++ around.Left made ∷ []
      → IsNextPart n o t p (nexts.Part h.right)
  closed_part n p h hs l e d k =
      let r = scoped_term h.right in
      record {
        all =
            ap₂ (λ ks ls. within_halves ks (term_within ls r)) d k
            ∙ ap (within_halves hs) (term_within_last h.layers.items (around.Left made) r ∙ ap (λ w. term_within h.layers.items (pair w r)) m)
            ∙ sym (last_half hs h (term_within o.layers.items t)) ∙ sym (ap (λ ks. within_halves ks (term_within o.layers.items t)) e);
        less =
            let before : left_outside o ≡ right_size h + sum_by right_size hs = ap (sum_by right_size) e ∙ sizes_last hs h in
            let after : left_outside p ≡ sum_by right_size hs = ap (sum_by right_size) d in
            omega (arith, before, after, l);
      }

-- one turn of a loop
module _ (whole t : NominalTerm) (n : ℕ) (o p : Outside) (x : Next) (inv : outside_of o t ≡ whole) (h : IsNextPart n o t p x) where
  pub turn_whole : (u : Term) → x ≡ nexts.Whole u → term_of u ≡ whole
  turn_whole u e = subst (λ y. IsNextPart n o t p y) e h ∙ inv

  pub turn_part : (r : Closure) → x ≡ nexts.Part r → outside_of p (scoped_term r) ≡ whole
  turn_part r e = (subst (λ y. IsNextPart n o t p y) e h).all ∙ inv

  pub turn_less : (r : Closure) → x ≡ nexts.Part r → size (scoped_term r) + left_outside p < n + left_outside o
  turn_less r e = (subst (λ y. IsNextPart n o t p y) e h).less
