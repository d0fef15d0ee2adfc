-- What is read is in the grammar of items, and what is in it is read.
use Rattle.std.proofs.Common.{◌≡◌, ℕ, ◌<◌, List, [], ◌∷◌, length, Option, None, Some, IfSome, refl, sym, ap, ◌∙◌, arith, subst}
use Rattle.ap_trees.specs.Readers.{◌>>=◌, separated, after_comma, after_lambda, after_close, at_end, after_open}
use Rattle.ap_trees.specs.Symbols.{Sym, Ident, NameType, DataType, Pred, Colon, If, Ask, Arrow, Open, Close}
use Rattle.ap_trees.specs.Types.{Ty}
use Rattle.ap_trees.specs.TypeGrammar.{AreTypes}
use Rattle.ap_trees.specs.TypeReader.{read_type}
use Rattle.ap_trees.specs.Terms.{Term}
use Rattle.ap_trees.specs.Goals.{Goal}
use Rattle.ap_trees.specs.Items.{Saying, ANameType, ADataType, AConstructor, APredicate, AClause, AQuery}
use Rattle.ap_trees.proofs.TypeLaws.{bind_if, close_is, type_sound, types_sound, type_only, types_only, type_shrinks, types_shrink, types_not_close}
use Rattle.ap_trees.proofs.TermLaws.{Ends, if_also}
use Rattle.ap_syntax.specs.Marks.{after_arrow, after_colon, read_ident, read_declared, sole_ident}
use Rattle.ap_syntax.specs.GoalGrammar.{IsAtom, bare, with_arguments, IsGoal}
use Rattle.ap_syntax.specs.GoalReader.{read_atom, all_goal}
use Rattle.ap_syntax.specs.ItemGrammar.{AreTypeArguments, some_type, unit_type, type_list, IsItem, name_type, data_type, constant, constructor, proposition, predicate, fact, rule, query}
use Rattle.ap_syntax.specs.ItemReader.{types_inside, sole_argument, listed_arguments, read_arguments, constructor_of, short_form, declaration, declared_types, predicate_of, body_of, clause_of, query_of, read_item}
use Rattle.ap_syntax.proofs.GoalLaws.{ident_is, atom_sound, all_goal_sound}
use Rattle.ap_syntax.proofs.GoalOnly.{atom_only, all_goal_only}

-- What is read is in the grammar.
types_inside_sound : (ts : List Sym) → IfSome (types_inside ts) (λ x. AreTypes ts x.0 (Close ∷ x.1))
unfolding types_inside
types_inside_sound ts =
    bind_if (separated after_comma (read_type (length ts)) (length ts) ts) _ _ _ (types_sound (read_type (length ts)) (type_sound (length ts)) (length ts) ts)
    (λ parts h. bind_if (after_close parts.1) _ _ _ (close_is parts.1) (λ rest e. subst (AreTypes ts parts.0) e h))

sole_sound : (ts : List Sym) → after_open ts ≡ None → IfSome (sole_argument ts) (λ x. AreTypeArguments ts x.0 x.1)
unfolding sole_argument
sole_sound ts none = bind_if (read_type (length ts) ts) _ _ _ (type_sound (length ts) ts) (λ t h. some_type none h)

listed_sound : (ts : List Sym) → IfSome (listed_arguments ts) (λ x. AreTypeArguments (Open ∷ ts) x.0 x.1)
unfolding listed_arguments
listed_sound (Close ∷ us) = unit_type
listed_sound ts = if_also (types_inside ts) _ _ (types_inside_sound ts) (λ x h. type_list h)

arguments_sound : (ts : List Sym) → IfSome (read_arguments ts) (λ x. AreTypeArguments ts x.0 x.1)
unfolding read_arguments
arguments_sound (Open ∷ us) = listed_sound us
arguments_sound ts = sole_sound ts refl

arrow_is : (ts : List Sym) → IfSome (after_arrow ts) (λ us. ts ≡ Arrow ∷ us)
arrow_is (Arrow ∷ us) = refl
arrow_is ts = tt

end_is : (w : List ℕ) (rest ts : List Sym) → ts ≡ Ident w ∷ rest → IfSome (at_end w rest) (λ d. ts ≡ Ident d ∷ [])
end_is w [] ts e = e
end_is w (t ∷ rest) ts e = tt

sole_is : (ts : List Sym) → IfSome (sole_ident ts) (λ d. ts ≡ Ident d ∷ [])
unfolding sole_ident
sole_is ts = bind_if (read_ident ts) _ _ _ (ident_is ts) (λ word e. end_is word.0 word.1 ts e)

constructor_sound : (w : List ℕ) (ts : List Sym) → IfSome (constructor_of w ts) (λ f. IsItem (Ident w ∷ Colon ∷ ts) f)
unfolding constructor_of
constructor_sound w ts =
    bind_if (read_arguments ts) _ _ _ (arguments_sound ts)
    (λ args h. bind_if (after_arrow args.1) _ _ _ (arrow_is args.1)
    (λ rest e. bind_if (sole_ident rest) _ _ _ (sole_is rest)
    (λ d o. constructor (subst (AreTypeArguments ts args.0) (e ∙ ap (λ us. Arrow ∷ us) o) h))))

declaration_sound : (w : List ℕ) (ts : List Sym) → IfSome (declaration w ts) (λ f. IsItem (Ident w ∷ Colon ∷ ts) f)
unfolding declaration
declaration_sound w (NameType ∷ []) = name_type
declaration_sound w (DataType ∷ []) = data_type
declaration_sound w (Ident d ∷ []) = constant
declaration_sound w ts = constructor_sound w ts

end_predicate : (w : List ℕ) (ts : List Sym) (args : List Ty) (rest : List Sym) → AreTypes ts args (Close ∷ rest) → IfSome (at_end (APredicate w args) rest) (λ f. IsItem (Pred ∷ Ident w ∷ Open ∷ ts) f)
end_predicate w ts args [] h = predicate h
end_predicate w ts args (t ∷ rest) h = tt

declared_sound : (w : List ℕ) (ts : List Sym) → IfSome {T = Saying} (declared_types ts >>= (λ args. at_end (APredicate w args.0) args.1)) (λ f. IsItem (Pred ∷ Ident w ∷ ts) f)
unfolding declared_types
declared_sound w (Open ∷ us) = bind_if (types_inside us) _ _ _ (types_inside_sound us) (λ args h. end_predicate w us args.0 args.1 h)
declared_sound w [] = proposition
declared_sound w ts = tt

predicate_sound : (ts : List Sym) → IfSome (predicate_of ts) (λ f. IsItem (Pred ∷ ts) f)
unfolding predicate_of
predicate_sound ts =
    bind_if (read_ident ts) _ _ _ (ident_is ts)
    (λ word e. subst (λ us. IfSome {T = Saying} (declared_types word.1 >>= (λ args. at_end (APredicate word.0 args.0) args.1)) (λ f. IsItem (Pred ∷ us) f)) (sym e) (declared_sound word.0 word.1))

-- a body, or none, is what these symbols spell
abbrev IsBody : List Sym → Option Goal → Type 0
IsBody ts None = ts ≡ []
IsBody ts (Some g) = (us : List Sym) × (ts ≡ If ∷ us) × IsGoal us g []

body_is : (ts : List Sym) → IfSome (body_of ts) (λ b. IsBody ts b)
unfolding body_of
body_is (If ∷ us) = bind_if (all_goal us) _ _ _ (all_goal_sound us) (λ g h. (us, refl, h))
body_is [] = refl
body_is ts = tt

clause_with : (ts : List Sym) (w : List ℕ) (args : List Term) (rest : List Sym) → IsAtom ts w args rest → (b : Option Goal) → IsBody rest b → IsItem ts (AClause w args b)
clause_with ts w args rest h None e = fact (subst (IsAtom ts w args) e h)
clause_with ts w args rest h (Some g) e = rule (subst (IsAtom ts w args) e.1 h) e.2

clause_sound : (ts : List Sym) → IfSome (clause_of ts) (λ f. IsItem ts f)
unfolding clause_of
clause_sound ts =
    bind_if (read_atom ts) _ _ _ (atom_sound ts) (λ head h. bind_if (body_of head.1) _ _ _ (body_is head.1) (λ b e. clause_with ts head.0.0 head.0.1 head.1 h b e))

query_sound : (ts : List Sym) → IfSome (query_of ts) (λ f. IsItem (Ask ∷ ts) f)
unfolding query_of
query_sound ts = bind_if (all_goal ts) _ _ _ (all_goal_sound ts) (λ g h. query h)

pub item_sound : (ts : List Sym) → IfSome (read_item ts) (λ f. IsItem ts f)
unfolding read_item read_declared
item_sound (Pred ∷ us) = predicate_sound us
item_sound (Ask ∷ us) = query_sound us
item_sound (Ident w ∷ Colon ∷ us) = declaration_sound w us
item_sound ts = clause_sound ts

-- What is in the grammar is read.
types_inside_only : {ts rest : List Sym} {args : List Ty} → AreTypes ts args (Close ∷ rest) → types_inside ts ≡ Some (args, rest)
unfolding types_inside
types_inside_only {ts = ts} h = rw (types_only h (length ts) (length ts) (omega arith) (omega arith) refl refl) refl

arguments_only : {ts rest : List Sym} {args : List Ty} → AreTypeArguments ts args rest → after_lambda rest ≡ None → read_arguments ts ≡ Some (args, rest)
unfolding read_arguments listed_arguments sole_argument
arguments_only (some_type {ts = ts} none h) ends = rw none (rw (type_only h (length ts) (omega arith) ends) refl)
arguments_only unit_type ends = refl
arguments_only (type_list h) ends = rw (types_not_close h) (types_inside_only h)

arguments_shrink : {ts rest : List Sym} {args : List Ty} → AreTypeArguments ts args rest → length rest < length ts
arguments_shrink (some_type none h) = type_shrinks h
arguments_shrink unit_type = omega arith
arguments_shrink (type_list h) = omega (arith, types_shrink h)

short_long : (w : List ℕ) (ts : List Sym) → 1 < length ts → short_form w ts ≡ None
short_long w [] long = absurd (omega (arith, long))
short_long w (t ∷ []) long = absurd (omega (arith, long))
short_long w (NameType ∷ u ∷ ts) long = refl
short_long w (DataType ∷ u ∷ ts) long = refl
short_long w (Ident d ∷ u ∷ ts) long = refl
short_long w ts long = refl

constructor_only : (w d : List ℕ) (ts : List Sym) (args : List Ty) → AreTypeArguments ts args (Arrow ∷ Ident d ∷ []) → declaration w ts ≡ Some (AConstructor w args d)
unfolding declaration constructor_of sole_ident
constructor_only w d ts args h = rw (short_long w ts (omega (arith, arguments_shrink h))) (rw (arguments_only h refl) refl)

read_declaration : (w : List ℕ) (ts : List Sym) (form : Saying) → declaration w ts ≡ Some form → read_item (Ident w ∷ Colon ∷ ts) ≡ Some form
unfolding read_item read_declared
read_declaration w ts form got = got

read_name_type : (w : List ℕ) → read_item (Ident w ∷ Colon ∷ NameType ∷ []) ≡ Some (ANameType w)
unfolding read_item read_declared declaration
read_name_type w = refl

read_data_type : (w : List ℕ) → read_item (Ident w ∷ Colon ∷ DataType ∷ []) ≡ Some (ADataType w)
unfolding read_item read_declared declaration
read_data_type w = refl

read_constant : (w d : List ℕ) → read_item (Ident w ∷ Colon ∷ Ident d ∷ []) ≡ Some (AConstructor w [] d)
unfolding read_item read_declared declaration
read_constant w d = refl

read_proposition : (w : List ℕ) → read_item (Pred ∷ Ident w ∷ []) ≡ Some (APredicate w [])
unfolding read_item predicate_of declared_types
read_proposition w = refl

read_predicate : (w : List ℕ) (ts : List Sym) (args : List Ty) → AreTypes ts args (Close ∷ []) → read_item (Pred ∷ Ident w ∷ Open ∷ ts) ≡ Some (APredicate w args)
unfolding read_item predicate_of declared_types
read_predicate w ts args h = rw (types_inside_only h) refl

item_clause : {ts rest : List Sym} {w : List ℕ} {args : List Term} → IsAtom ts w args rest → after_colon rest ≡ None → read_item ts ≡ clause_of ts
unfolding read_item read_declared
item_clause bare none = rw none refl
item_clause (with_arguments h) none = refl

clause_only : {ts rest : List Sym} {w : List ℕ} {args : List Term} → IsAtom ts w args rest → Ends rest → (b : Option Goal) → body_of rest ≡ Some b → clause_of ts ≡ Some (AClause w args b)
unfolding clause_of
clause_only h ends b got = rw (atom_only h ends) (rw got refl)

no_body : body_of [] ≡ Some None
unfolding body_of
no_body = refl

a_body : (us : List Sym) (g : Goal) → IsGoal us g [] → body_of (If ∷ us) ≡ Some (Some g)
unfolding body_of
a_body us g h = rw (all_goal_only us g h) refl

read_query : (ts : List Sym) (g : Goal) → IsGoal ts g [] → read_item (Ask ∷ ts) ≡ Some (AQuery g)
unfolding read_item query_of
read_query ts g h = rw (all_goal_only ts g h) refl

pub item_only : {ts : List Sym} {f : Saying} → IsItem ts f → read_item ts ≡ Some f
item_only (name_type {w = w}) = read_name_type w
item_only (data_type {w = w}) = read_data_type w
item_only (constant {w = w} {d = d}) = read_constant w d
item_only (constructor {w = w} {d = d} {ts = ts} {args = args} h) = read_declaration w ts _ (constructor_only w d ts args h)
item_only (proposition {w = w}) = read_proposition w
item_only (predicate {w = w} {ts = ts} {args = args} h) = read_predicate w ts args h
item_only (fact h) = item_clause h refl ∙ clause_only h (record { lambda = refl; bracket = refl }) None no_body
item_only (rule {us = us} {g = g} h b) = item_clause h refl ∙ clause_only h (record { lambda = refl; bracket = refl }) (Some g) (a_body us g b)
item_only (query {ts = ts} {g = g} h) = read_query ts g h
