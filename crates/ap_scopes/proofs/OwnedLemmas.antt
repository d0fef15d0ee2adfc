-- What is made of terms, when one more is.
use Rattle.std.proofs.Common.{◌≡◌, List, [], ◌∷◌, ◌++◌, ap, sym, map, refl, ◌∙◌}
use Rattle.std.proofs.lemmas.List.{map-append}
use Rattle.ap_defs.specs.declared.terms.Raw.{Raw}
use Rattle.ap_defs.specs.RawTerms.{RawTerm, raw_of}
use Rattle.ap_trees.specs.declared.trees.Tree.{Tree}
use Rattle.ap_trees.specs.Trees.{term_of, trees_of}
use Rattle.ap_scopes.specs.Declarations.{Declared}
use Rattle.ap_scopes.specs.Identifiers.{Found, Scope}
use Rattle.ap_scopes.specs.Resolution.{made, in_order, put_first, resolved_term, resolved_terms}
use Rattle.ap_scopes.proofs.Orders.{in_order_is}

abbrev put_last : List RawTerm → RawTerm → List RawTerm
put_last ts t = ts ++ t ∷ []

last_of : (d : Declared) (s : Scope) (ts : List Tree) (t : Tree) (found : Found) → resolved_terms d s (trees_of (ts ++ t ∷ [])) found ≡ in_order put_last (resolved_terms d s (trees_of ts)) (resolved_term d s (term_of t)) found
last_of d s [] t found = refl
last_of d s (x ∷ ts) t found = ap (made (put_first (resolved_term d s (term_of x) found).0)) (last_of d s ts t (resolved_term d s (term_of x) found).1)

pub terms_last : (d : Declared) (s : Scope) (ts : List Tree) (t : Tree) (before between after : Found) (us vs : List Raw) (u : Raw) → vs ≡ us ++ u ∷ [] → (map raw_of us, between) ≡ resolved_terms d s (trees_of ts) before → (raw_of u, after) ≡ resolved_term d s (term_of t) between → (map raw_of vs, after) ≡ resolved_terms d s (trees_of (ts ++ t ∷ [])) before
terms_last d s ts t before between after us vs u h e k =
    ap (λ (ws : List Raw). (map raw_of ws, after)) h ∙ ap (λ rs. (rs, after)) (map-append raw_of us (u ∷ []))
    ∙ in_order_is put_last (resolved_terms d s (trees_of ts)) (resolved_term d s (term_of t)) before between after (map raw_of us) (raw_of u) e k ∙ sym (last_of d s ts t before)
