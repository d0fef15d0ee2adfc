-- What is joined from its end.
use Rattle.std.proofs.Common.{◌≡◌, ◌<◌, ℕ, List, [], ◌∷◌, ◌++◌, length, None, Some, refl, ap, ◌∙◌}
use Rattle.std.proofs.lemmas.List.{length-map}
use Rattle.ap_trees.specs.declared.symbols.Symbol.{Symbol}
use Rattle.ap_trees.specs.Goals.{Goal, joined_goals}
use Rattle.ap_trees.specs.Readers.{SymbolReader, separated, after_comma}
use Rattle.ap_trees.specs.Symbols.{Sym, syms, sym as symbol}
use Rattle.ap_trees.proofs.Lists.{separated_alone, separated_fails}
use Rattle.ap_syntax.specs.Marks.{after_semicolon}
use Rattle.ap_syntax.specs.declared.joining.Join.{Join}
use Rattle.ap_syntax.specs.declared.joining.Join.TheVariants as joins
use Rattle.ap_syntax.specs.Joins.{joining, after_mark, read_part, read_joined}
use Rattle.ap_syntax.specs.GoalReader.{joined_by, read_simple, read_conj, read_disj}

joined_more : (op : Goal → Goal → Goal) (first : Goal) (gs : List Goal) (g h : Goal) → joined_goals op first (gs ++ g ∷ h ∷ []) ≡ joined_goals op first (gs ++ op g h ∷ [])
joined_more op first [] g h = refl
joined_more op first (x ∷ gs) g h = ap (λ v. op first v) (joined_more op x gs g h)

pub joined_end : (op : Goal → Goal → Goal) (gs : List Goal) (g h : Goal) → joined_by op (gs ++ g ∷ h ∷ []) ≡ joined_by op (gs ++ op g h ∷ [])
joined_end op [] g h = refl
joined_end op (x ∷ gs) g h = ap (λ v. Some v) (joined_more op x gs g h)

-- one goal, and no comma behind it
pub conj_alone : (read : SymbolReader Goal) (ts rest : List Sym) (g : Goal) → 0 < length ts → read_simple read ts ≡ Some (g, rest) → after_comma rest ≡ None → read_conj read ts ≡ Some (g, rest)
unfolding read_conj
conj_alone read ts rest g some got none = rw (separated_alone after_comma (read_simple read) (length ts) ts rest g some got none) refl

pub conj_fails : (read : SymbolReader Goal) (ts : List Sym) → read_simple read ts ≡ None → read_conj read ts ≡ None
unfolding read_conj
conj_fails read ts got = rw (separated_fails after_comma (read_simple read) (length ts) ts got) refl

-- one conjunction, and no semicolon behind it
pub disj_alone : (read : SymbolReader Goal) (ts rest : List Sym) (g : Goal) → 0 < length ts → read_conj read ts ≡ Some (g, rest) → after_semicolon rest ≡ None → read_disj read ts ≡ Some (g, rest)
unfolding read_disj
disj_alone read ts rest g some got none = rw (separated_alone after_semicolon (read_conj read) (length ts) ts rest g some got none) refl

pub disj_fails : (read : SymbolReader Goal) (ts : List Sym) → read_conj read ts ≡ None → read_disj read ts ≡ None
unfolding read_disj
disj_fails read ts got = rw (separated_fails after_semicolon (read_conj read) (length ts) ts got) refl

-- how deep the parts nest
abbrev pub rank_of : Join → ℕ
rank_of joins.Both = 0
rank_of joins.Either = 4

-- one part, and no mark behind it
pub joined_alone : (join : Join) (read : SymbolReader Goal) (ts rest : List Sym) (g : Goal) → 0 < length ts → read_part join read ts ≡ Some (g, rest) → after_mark join rest ≡ None → read_joined join read ts ≡ Some (g, rest)
joined_alone joins.Both read ts rest g some got none = conj_alone read ts rest g some got none
joined_alone joins.Either read ts rest g some got none = disj_alone read ts rest g some got none

pub joined_fails : (join : Join) (read : SymbolReader Goal) (ts : List Sym) → read_part join read ts ≡ None → read_joined join read ts ≡ None
joined_fails joins.Both read ts got = conj_fails read ts got
joined_fails joins.Either read ts got = disj_fails read ts got

-- the parts with marks between, of as many symbols as the code has
parts_within : (join : Join) (read : SymbolReader Goal) (xs : List Symbol) → separated (after_mark join) (read_part join read) (length (syms xs)) (syms xs) ≡ separated (after_mark join) (read_part join read) (length xs) (syms xs)
parts_within join read xs = ap (λ n. separated (after_mark join) (read_part join read) n (syms xs)) (length-map xs symbol)

no_parts_of : (join : Join) (read : SymbolReader Goal) (ts : List Sym) → separated (after_mark join) (read_part join read) (length ts) ts ≡ None → read_joined join read ts ≡ None
unfolding read_conj read_disj
no_parts_of joins.Both read ts got = rw got refl
no_parts_of joins.Either read ts got = rw got refl

pub no_parts : (join : Join) (read : SymbolReader Goal) (xs : List Symbol) → separated (after_mark join) (read_part join read) (length xs) (syms xs) ≡ None → read_joined join read (syms xs) ≡ None
no_parts join read xs got = no_parts_of join read (syms xs) (parts_within join read xs ∙ got)

no_whole_of : (join : Join) (read : SymbolReader Goal) (ts rest : List Sym) (gs : List Goal) → separated (after_mark join) (read_part join read) (length ts) ts ≡ Some (gs, rest) → joined_by (joining join) gs ≡ None → read_joined join read ts ≡ None
unfolding read_conj read_disj
no_whole_of joins.Both read ts rest gs got none = rw (got, none) refl
no_whole_of joins.Either read ts rest gs got none = rw (got, none) refl

pub no_whole : (join : Join) (read : SymbolReader Goal) (xs : List Symbol) (rest : List Sym) (gs : List Goal) → separated (after_mark join) (read_part join read) (length xs) (syms xs) ≡ Some (gs, rest) → joined_by (joining join) gs ≡ None
    → read_joined join read (syms xs) ≡ None
no_whole join read xs rest gs got none = no_whole_of join read (syms xs) rest gs (parts_within join read xs ∙ got) none

whole_of : (join : Join) (read : SymbolReader Goal) (ts rest : List Sym) (gs : List Goal) (g : Goal) → separated (after_mark join) (read_part join read) (length ts) ts ≡ Some (gs, rest) → joined_by (joining join) gs ≡ Some g → read_joined join read ts ≡ Some (g, rest)
unfolding read_conj read_disj
whole_of joins.Both read ts rest gs g got whole = rw (got, whole) refl
whole_of joins.Either read ts rest gs g got whole = rw (got, whole) refl

pub joined_whole : (join : Join) (read : SymbolReader Goal) (xs : List Symbol) (rest : List Sym) (gs : List Goal) (g : Goal) → separated (after_mark join) (read_part join read) (length xs) (syms xs) ≡ Some (gs, rest)
    → joined_by (joining join) gs ≡ Some g → read_joined join read (syms xs) ≡ Some (g, rest)
joined_whole join read xs rest gs g got whole = whole_of join read (syms xs) rest gs g (parts_within join read xs ∙ got) whole
