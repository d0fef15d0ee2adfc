-- The brackets of what is written match.
use Rattle.std.proofs.Common.{◌≡◌, ℕ, zero, suc, true, List, [], ◌∷◌, ◌++◌, Some, None, refl, sym, ap, ◌∙◌, append_assoc, add-one}
use Rattle.ap_trees.specs.Terms as terms
use Rattle.ap_trees.specs.Terms.{Name, OfWord, OfVar, Term, Terms, Variable, Word, Apply, Pair, Nil, Cell, Abs, Swapped, Last, More}
use Rattle.ap_trees.specs.Goals as goals
use Rattle.ap_trees.specs.Goals.{Goal}
use Rattle.ap_syntax.specs.Matching.{after_match, begins_relation, begins_term, begins_after, after_group}
use Rattle.ap_unparse.specs.declared.context.Context.{Context}
use Rattle.ap_unparse.specs.declared.context.Context.TheVariants.{Whole, Part, Rest}
use Rattle.ap_unparse.specs.declared.side.Side.{Side}
use Rattle.ap_unparse.specs.declared.side.Side.TheVariants.{Alone, OnLeft, BehindComma}
use Rattle.ap_unparse.specs.Written.{Written, ident, var, comma, semicolon, space, round_open, round_close, square_open, square_close, bar, lambda_word, fresh_word, equal, swap, new, exists, symbols_of}
use Rattle.ap_unparse.specs.WrittenTerms.{written_name, barred_words, tuple_at, list_at, nil_at, term_at, arguments_of, written_term}
use Rattle.ap_unparse.specs.WrittenGoals as atoms
use Rattle.ap_unparse.specs.WrittenGoals.{further_terms, both_at, either_at, written_goal_at}

-- each bracket has its partner
pub record Matched (vs : List Written) : Type 0 where
  pub skip : (d : ℕ) (ws : List Written) → after_match d (symbols_of (vs ++ ws)) ≡ after_match d (symbols_of ws)

pub none_matched : Matched []
none_matched = record { skip = λ d ws. refl }

pub both_matched : (us vs : List Written) → Matched us → Matched vs → Matched (us ++ vs)
both_matched us vs m n = record { skip = λ d ws. ap (λ xs. after_match d (symbols_of xs)) (append_assoc us vs ws) ∙ m.skip d (vs ++ ws) ∙ n.skip d ws }

-- a symbol that is no bracket
comma_matched : (vs : List Written) → Matched vs → Matched (comma ∷ vs)
unfolding after_match
comma_matched vs m = record { skip = λ d ws. m.skip d ws }

space_matched : (vs : List Written) → Matched vs → Matched (space ∷ vs)
space_matched vs m = record { skip = λ d ws. m.skip d ws }

ident_matched : (w : List ℕ) (vs : List Written) → Matched vs → Matched (ident w ∷ vs)
unfolding after_match
ident_matched w vs m = record { skip = λ d ws. m.skip d ws }

var_matched : (w : List ℕ) (vs : List Written) → Matched vs → Matched (var w ∷ vs)
unfolding after_match
var_matched w vs m = record { skip = λ d ws. m.skip d ws }

name_matched : (name : Name) (vs : List Written) → Matched vs → Matched (written_name name ∷ vs)
name_matched (OfWord w) vs m = ident_matched w vs m
name_matched (OfVar w) vs m = var_matched w vs m

semicolon_matched : (vs : List Written) → Matched vs → Matched (semicolon ∷ vs)
unfolding after_match
semicolon_matched vs m = record { skip = λ d ws. m.skip d ws }

bar_matched : (vs : List Written) → Matched vs → Matched (bar ∷ vs)
unfolding after_match
bar_matched vs m = record { skip = λ d ws. m.skip d ws }

lambda_matched : (vs : List Written) → Matched vs → Matched (lambda_word ∷ vs)
unfolding after_match
lambda_matched vs m = record { skip = λ d ws. m.skip d ws }

fresh_matched : (vs : List Written) → Matched vs → Matched (fresh_word ∷ vs)
unfolding after_match
fresh_matched vs m = record { skip = λ d ws. m.skip d ws }

equal_matched : (vs : List Written) → Matched vs → Matched (equal ∷ vs)
unfolding after_match
equal_matched vs m = record { skip = λ d ws. m.skip d ws }

swap_matched : (vs : List Written) → Matched vs → Matched (swap ∷ vs)
unfolding after_match
swap_matched vs m = record { skip = λ d ws. m.skip d ws }

new_matched : (vs : List Written) → Matched vs → Matched (new ∷ vs)
unfolding after_match
new_matched vs m = record { skip = λ d ws. m.skip d ws }

exists_matched : (vs : List Written) → Matched vs → Matched (exists ∷ vs)
unfolding after_match
exists_matched vs m = record { skip = λ d ws. m.skip d ws }

opens : (d : ℕ) (ws : List Written) → after_match d (symbols_of (round_open ∷ ws)) ≡ after_match (suc d) (symbols_of ws)
unfolding after_match
opens d ws = ap (λ n. after_match n (symbols_of ws)) (add-one d)

opens_square : (d : ℕ) (ws : List Written) → after_match d (symbols_of (square_open ∷ ws)) ≡ after_match (suc d) (symbols_of ws)
unfolding after_match
opens_square d ws = ap (λ n. after_match n (symbols_of ws)) (add-one d)

closes : (d : ℕ) (ws : List Written) → after_match (suc d) (symbols_of (round_close ∷ ws)) ≡ after_match d (symbols_of ws)
unfolding after_match
closes d ws = refl

closes_square : (d : ℕ) (ws : List Written) → after_match (suc d) (symbols_of (square_close ∷ ws)) ≡ after_match d (symbols_of ws)
unfolding after_match
closes_square d ws = refl

closes_first : (ws : List Written) → after_match zero (symbols_of (round_close ∷ ws)) ≡ Some (symbols_of ws)
unfolding after_match
closes_first ws = refl

-- something in parentheses
pub group_matched : (vs : List Written) → Matched vs → Matched (round_open ∷ (vs ++ round_close ∷ []))
group_matched vs m = record {
  skip = λ d ws.
      opens d ((vs ++ round_close ∷ []) ++ ws) ∙ ap (λ xs. after_match (suc d) (symbols_of xs)) (append_assoc vs (round_close ∷ []) ws) ∙ m.skip (suc d) (round_close ∷ ws) ∙ closes d ws;
}

square_matched : (vs : List Written) → Matched vs → Matched (square_open ∷ (vs ++ square_close ∷ []))
square_matched vs m = record {
  skip = λ d ws.
      opens_square d ((vs ++ square_close ∷ []) ++ ws) ∙ ap (λ xs. after_match (suc d) (symbols_of xs)) (append_assoc vs (square_close ∷ []) ws) ∙ m.skip (suc d) (square_close ∷ ws) ∙ closes_square d ws;
}

barred_matched : (context : Context) (vs : List Written) → Matched vs → Matched (barred_words context vs)
barred_matched Whole vs m = m
barred_matched Part vs m = m
barred_matched Rest vs m = bar_matched vs m

tuple_matched : (context : Context) (vs : List Written) → Matched vs → Matched (tuple_at context vs)
tuple_matched Whole vs m = group_matched vs m
tuple_matched Part vs m = m
tuple_matched Rest vs m = bar_matched (round_open ∷ (vs ++ round_close ∷ [])) (group_matched vs m)

list_matched : (context : Context) (vs : List Written) → Matched vs → Matched (list_at context vs)
list_matched Whole vs m = square_matched vs m
list_matched Part vs m = square_matched vs m
list_matched Rest vs m = comma_matched vs m

nil_matched : (context : Context) → Matched (nil_at context)
nil_matched Whole = square_matched [] none_matched
nil_matched Part = square_matched [] none_matched
nil_matched Rest = none_matched

-- `swap`, and what stands in its parentheses
swapped_matched : (left right : Name) (vs : List Written) → Matched vs → Matched (swap ∷ round_open ∷ written_name left ∷ comma ∷ written_name right ∷ comma ∷ (vs ++ round_close ∷ []))
swapped_matched left right vs m =
    swap_matched (round_open ∷ ((written_name left ∷ comma ∷ written_name right ∷ comma ∷ vs) ++ round_close ∷ []))
    (group_matched (written_name left ∷ comma ∷ written_name right ∷ comma ∷ vs) (name_matched left (comma ∷ written_name right ∷ comma ∷ vs) (comma_matched (written_name right ∷ comma ∷ vs) (name_matched right (comma ∷ vs) (comma_matched vs m)))))

mutual
  pub term_matched : (context : Context) (t : Term) → Matched (term_at context t)
  term_matched context terms.Unit = barred_matched context (round_open ∷ round_close ∷ []) (group_matched [] none_matched)
  term_matched context (Variable w) = barred_matched context (var w ∷ []) (var_matched w [] none_matched)
  term_matched context (Word w) = barred_matched context (ident w ∷ []) (ident_matched w [] none_matched)
  term_matched context (Apply w args) =
      barred_matched context (ident w ∷ round_open ∷ (arguments_of args ++ round_close ∷ [])) (ident_matched w (round_open ∷ (arguments_of args ++ round_close ∷ [])) (group_matched (arguments_of args) (arguments_matched args)))
  term_matched context (Pair t u) =
      tuple_matched context (term_at Whole t ++ comma ∷ term_at Part u) (both_matched (term_at Whole t) (comma ∷ term_at Part u) (term_matched Whole t) (comma_matched (term_at Part u) (term_matched Part u)))
  term_matched context Nil = nil_matched context
  term_matched context (Cell t u) = list_matched context (term_at Whole t ++ term_at Rest u) (both_matched (term_at Whole t) (term_at Rest u) (term_matched Whole t) (term_matched Rest u))
  term_matched context (Abs name t) =
      barred_matched context (written_name name ∷ lambda_word ∷ term_at Whole t) (name_matched name (lambda_word ∷ term_at Whole t) (lambda_matched (term_at Whole t) (term_matched Whole t)))
  term_matched context (Swapped left right t) =
      barred_matched context (swap ∷ round_open ∷ written_name left ∷ comma ∷ written_name right ∷ comma ∷ (term_at Whole t ++ round_close ∷ [])) (swapped_matched left right (term_at Whole t) (term_matched Whole t))

  pub arguments_matched : (ts : Terms) → Matched (arguments_of ts)
  arguments_matched (Last t) = term_matched Whole t
  arguments_matched (More t ts) = both_matched (term_at Whole t) (comma ∷ arguments_of ts) (term_matched Whole t) (comma_matched (arguments_of ts) (arguments_matched ts))

further_matched : (ts : List Term) → Matched (further_terms ts)
further_matched [] = none_matched
further_matched (t ∷ ts) = comma_matched (written_term t ++ further_terms ts) (both_matched (written_term t) (further_terms ts) (term_matched Whole t) (further_matched ts))

atom_matched : (ts : List Term) → Matched (atoms.arguments_of ts)
atom_matched [] = none_matched
atom_matched (t ∷ ts) = record {
  skip = λ d ws.
      ap (λ xs. after_match d (symbols_of (round_open ∷ (xs ++ ws)))) (sym (append_assoc (written_term t) (further_terms ts) (round_close ∷ [])))
      ∙ (group_matched (written_term t ++ further_terms ts) (both_matched (written_term t) (further_terms ts) (term_matched Whole t) (further_matched ts))).skip d ws;
}

side_both : (side : Side) (vs : List Written) → Matched vs → Matched (both_at side vs)
side_both Alone vs m = m
side_both OnLeft vs m = group_matched vs m
side_both BehindComma vs m = m

side_either : (side : Side) (vs : List Written) → Matched vs → Matched (either_at side vs)
side_either Alone vs m = m
side_either OnLeft vs m = group_matched vs m
side_either BehindComma vs m = group_matched vs m

pub goal_matched : (side : Side) (g : Goal) → Matched (written_goal_at side g)
goal_matched side (goals.Atom w ts) = ident_matched w (atoms.arguments_of ts) (atom_matched ts)
goal_matched side (goals.Equation t u) =
    both_matched (written_term t) (space ∷ equal ∷ space ∷ written_term u) (term_matched Whole t)
    (space_matched (equal ∷ space ∷ written_term u) (equal_matched (space ∷ written_term u) (space_matched (written_term u) (term_matched Whole u))))
goal_matched side (goals.Freshness t u) =
    both_matched (written_term t) (space ∷ fresh_word ∷ space ∷ written_term u) (term_matched Whole t)
    (space_matched (fresh_word ∷ space ∷ written_term u) (fresh_matched (space ∷ written_term u) (space_matched (written_term u) (term_matched Whole u))))
goal_matched side (goals.Both g h) =
    side_both side (written_goal_at OnLeft g ++ comma ∷ space ∷ written_goal_at BehindComma h)
    (both_matched (written_goal_at OnLeft g) (comma ∷ space ∷ written_goal_at BehindComma h) (goal_matched OnLeft g) (comma_matched (space ∷ written_goal_at BehindComma h) (space_matched (written_goal_at BehindComma h) (goal_matched BehindComma h))))
goal_matched side (goals.Either g h) =
    side_either side (written_goal_at OnLeft g ++ space ∷ semicolon ∷ space ∷ written_goal_at Alone h)
    (both_matched (written_goal_at OnLeft g) (space ∷ semicolon ∷ space ∷ written_goal_at Alone h) (goal_matched OnLeft g)
    (space_matched (semicolon ∷ space ∷ written_goal_at Alone h) (semicolon_matched (space ∷ written_goal_at Alone h) (space_matched (written_goal_at Alone h) (goal_matched Alone h)))))
goal_matched side (goals.Some_variable w g) =
    exists_matched (space ∷ var w ∷ space ∷ round_open ∷ (written_goal_at Alone g ++ round_close ∷ [])) (space_matched (var w ∷ space ∷ round_open ∷ (written_goal_at Alone g ++ round_close ∷ []))
    (var_matched w (space ∷ round_open ∷ (written_goal_at Alone g ++ round_close ∷ [])) (space_matched (round_open ∷ (written_goal_at Alone g ++ round_close ∷ [])) (group_matched (written_goal_at Alone g) (goal_matched Alone g)))))
goal_matched side (goals.New_name w g) =
    new_matched (space ∷ ident w ∷ space ∷ round_open ∷ (written_goal_at Alone g ++ round_close ∷ [])) (space_matched (ident w ∷ space ∷ round_open ∷ (written_goal_at Alone g ++ round_close ∷ []))
    (ident_matched w (space ∷ round_open ∷ (written_goal_at Alone g ++ round_close ∷ [])) (space_matched (round_open ∷ (written_goal_at Alone g ++ round_close ∷ [])) (group_matched (written_goal_at Alone g) (goal_matched Alone g)))))

-- what comes after a parenthesis decides what it begins
pub group_begins : (vs ws : List Written) → Matched vs → begins_term (symbols_of (vs ++ round_close ∷ ws)) ≡ begins_relation (symbols_of ws)
group_begins vs ws m = ap begins_after (m.skip zero (round_close ∷ ws) ∙ closes_first ws)

-- before `=` or `#` a parenthesis begins a term
relation_group : (vs ws : List Written) → Matched vs → begins_relation (symbols_of ws) ≡ true → after_group (symbols_of (round_open ∷ (vs ++ round_close ∷ ws))) ≡ None
unfolding after_group
relation_group vs ws m r = rw (group_begins vs ws m, r) refl

pub no_group : (t : Term) (ws : List Written) → begins_relation (symbols_of ws) ≡ true → after_group (symbols_of (written_term t ++ ws)) ≡ None
unfolding after_group
no_group terms.Unit ws r = relation_group [] ws none_matched r
no_group (Variable w) ws r = refl
no_group (Word w) ws r = refl
no_group (Apply w args) ws r = refl
no_group (Pair t u) ws r =
    ap (λ xs. after_group (symbols_of (round_open ∷ xs))) (append_assoc (term_at Part (Pair t u)) (round_close ∷ []) ws) ∙ relation_group (term_at Part (Pair t u)) ws (term_matched Part (Pair t u)) r
no_group Nil ws r = refl
no_group (Cell t u) ws r = refl
no_group (Abs (OfWord w) t) ws r = refl
no_group (Abs (OfVar w) t) ws r = refl
no_group (Swapped left right t) ws r = refl
