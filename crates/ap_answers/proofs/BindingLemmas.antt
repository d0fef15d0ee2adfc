-- Bindings, one after the other.
use Rattle.std.proofs.Common.{◌≡◌, ℕ, suc, ◌+◌, ◌<◌, Bool, true, false, true≢false, List, [], ◌∷◌, ◌++◌, length, drop, get_or, refl, sym, ap, ◌∙◌, append_assoc, add-one, drop-cons}
use Rattle.std.specs.Prelude.{codes, if◌then◌else◌}
use Rattle.std.specs.Str.{bytes_eq}
use Rattle.ap_defs.specs.Terms.{NominalTerm, term_of}
use Rattle.ap_defs.specs.declared.goals.Local.{Local}
use Rattle.ap_defs.specs.Types as types
use Rattle.ap_defs.specs.Types.{NominalKind, NominalLocal, local_of, locals_of}
use Rattle.ap_program.specs.FreeLocals.{is_free_var, var_when}
use Rattle.ap_defs.specs.declared.terms.Name.{Name}
use Rattle.ap_defs.specs.declared.terms.Var.{Var}
use Rattle.ap_defs.specs.Unification.{vars_then}
use Rattle.ap_defs.specs.Occurrences.{names_then, names_of_terms, vars_of_terms}
use Rattle.ap_defs.specs.Lines.{ShownBind, shown_binds, terms_of_binds, text_of_var, var_texts}
use Rattle.ap_answers.specs.declared.bindings.Binding.{Binding}
use Rattle.ap_answers.specs.Bindings.{bind_of, binds_of, with_text}
use Rattle.ap_answers.specs.Occurring.{more_names, more_vars}
use Rattle.ap_answers.proofs.OccurrenceLemmas.{names_of_next, vars_of_next}

shown_if : (b : Bool) (d : ShownBind) (ds : List ShownBind) → (if b then ds else (d ∷ ds)) ≡ (if b then [] else (d ∷ [])) ++ ds
shown_if true d ds = refl
shown_if false d ds = refl

none_bound : (ws : List (List ℕ)) → shown_binds ws [] ≡ []
none_bound [] = refl
none_bound (w ∷ ws) = refl

free_text : (b : Bool) (k : NominalKind) (text : List ℕ) (ws : List (List ℕ)) → var_when b k ≡ true → text_of_var b k text ws ≡ text ∷ ws
free_text true k text ws e = absurd (true≢false (sym e))
free_text false (types.name s) text ws e = absurd (true≢false (sym e))
free_text false (types.var t) text ws e = refl

other_text : (b : Bool) (k : NominalKind) (text : List ℕ) (ws : List (List ℕ)) → var_when b k ≡ false → text_of_var b k text ws ≡ ws
other_text true k text ws e = refl
other_text false (types.name s) text ws e = refl
other_text false (types.var t) text ws e = absurd (true≢false e)

-- an identifier more: a free variable with its term, one for which no term is left, and any other
pub kept_shown : (l : NominalLocal) (ws : List (List ℕ)) (ts : List NominalTerm) (t : NominalTerm) (bs bs1 : List ShownBind) → is_free_var l ≡ true → bs1 ≡ bs ++ shown_binds (l.text ∷ []) (t ∷ [])
    → bs1 ++ shown_binds ws ts ≡ bs ++ shown_binds (with_text l ws) (t ∷ ts)
kept_shown l ws ts t bs bs1 f e =
    ap (λ (ds : List ShownBind). ds ++ shown_binds ws ts) e ∙ append_assoc bs (shown_binds (l.text ∷ []) (t ∷ [])) (shown_binds ws ts)
    ∙ ap (λ (ds : List ShownBind). bs ++ ds) (sym (shown_if (bytes_eq l.text (codes "_")) (l.text, t) (shown_binds ws ts)))
    ∙ ap (λ vs. bs ++ shown_binds vs (t ∷ ts)) (sym (free_text l.bound l.kind l.text ws f))

pub none_shown : (l : NominalLocal) (ws : List (List ℕ)) (bs : List ShownBind) → bs ++ shown_binds ws [] ≡ bs ++ shown_binds (with_text l ws) []
none_shown l ws bs = ap (λ (ds : List ShownBind). bs ++ ds) (none_bound ws ∙ sym (none_bound (with_text l ws)))

pub left_shown : (l : NominalLocal) (ws : List (List ℕ)) (ts : List NominalTerm) (bs : List ShownBind) → is_free_var l ≡ false → bs ++ shown_binds ws ts ≡ bs ++ shown_binds (with_text l ws) ts
left_shown l ws ts bs f = ap (λ vs. bs ++ shown_binds vs ts) (sym (other_text l.bound l.kind l.text ws f))

pub texts_front : (ls : List Local) (l : Local) (i : ℕ) → i < length ls → l ≡ get_or ls i l → var_texts (locals_of (drop i ls)) ≡ with_text (local_of l) (var_texts (locals_of (drop (i + 1) ls)))
texts_front ls l i h e =
    ap (λ ks. var_texts (locals_of ks)) (drop-cons ls i l h ∙ ap (λ (k : Local). k ∷ drop (suc i) ls) (sym e))
    ∙ ap (λ n. with_text (local_of l) (var_texts (locals_of (drop n ls)))) (sym (add-one i))

bind_front : (bs : List Binding) (b : Binding) (i : ℕ) → i < length bs → b ≡ get_or bs i b → binds_of (drop i bs) ≡ bind_of b ∷ binds_of (drop (i + 1) bs)
bind_front bs b i h e =
    ap binds_of (drop-cons bs i b h ∙ ap (λ (x : Binding). x ∷ drop (suc i) bs) (sym e)) ∙ ap (λ n. bind_of b ∷ binds_of (drop n bs)) (sym (add-one i))

-- the names and the variables of one binding more
pub names_of_binding : (bs : List Binding) (b : Binding) (i : ℕ) (ks ks1 all : List Name) → i < length bs → b ≡ get_or bs i b
    → more_names ks (names_of_terms (terms_of_binds (binds_of (drop i bs)))) ≡ all → ks1 ≡ more_names ks (names_then (term_of b.term.now) [])
    → more_names ks1 (names_of_terms (terms_of_binds (binds_of (drop (i + 1) bs)))) ≡ all
names_of_binding bs b i ks ks1 all h e invariant d =
    ap (λ as'. more_names as' (names_of_terms (terms_of_binds (binds_of (drop (i + 1) bs))))) d
    ∙ names_of_next ks (term_of b.term.now) (terms_of_binds (binds_of (drop (i + 1) bs)))
    ∙ ap (λ ds. more_names ks (names_of_terms (terms_of_binds ds))) (sym (bind_front bs b i h e)) ∙ invariant

pub vars_of_binding : (bs : List Binding) (b : Binding) (i : ℕ) (ks ks1 all : List Var) → i < length bs → b ≡ get_or bs i b
    → more_vars ks (vars_of_terms (terms_of_binds (binds_of (drop i bs)))) ≡ all → ks1 ≡ more_vars ks (vars_then (term_of b.term.now) [])
    → more_vars ks1 (vars_of_terms (terms_of_binds (binds_of (drop (i + 1) bs)))) ≡ all
vars_of_binding bs b i ks ks1 all h e invariant d =
    ap (λ as'. more_vars as' (vars_of_terms (terms_of_binds (binds_of (drop (i + 1) bs))))) d
    ∙ vars_of_next ks (term_of b.term.now) (terms_of_binds (binds_of (drop (i + 1) bs)))
    ∙ ap (λ ds. more_vars ks (vars_of_terms (terms_of_binds ds))) (sym (bind_front bs b i h e)) ∙ invariant
