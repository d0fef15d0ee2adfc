-- Identifiers by their spelling, first variables, and clauses that differ in nothing that is looked at.
use Rattle.std.proofs.Common.{◌≡◌, ◌<◌, ◌≤◌, ℕ, zero, suc, List, [], ◌∷◌, length, get_or, refl, arith, sym, ap, ◌∙◌, subst, inl, inr}
use Rattle.std.specs.Prelude.{Option, Some, None, Result, Ok, Err, IfOk}
use Rattle.ap_defs.specs.declared.goals.Local.{Local}
use Rattle.ap_defs.specs.declared.terms.Name.{Name}
use Rattle.ap_defs.specs.declared.terms.Var.{Var}
use Rattle.ap_defs.specs.Types.{NominalLocal, NominalConstructor, locals_of}
use Rattle.ap_defs.specs.Terms.{NominalTerm}
use Rattle.ap_defs.specs.RawTerms.{RawTerm}
use Rattle.ap_defs.specs.Goals.{NominalGoal, ClauseOver}
use Rattle.ap_defs.specs.Renaming.{local_names}
use Rattle.ap_program.specs.CarryingOut.{carried_out, map_clause, map_goal}
use Rattle.ap_defs.specs.declared.faults.NameFault.{NameFault}
use Rattle.ap_defs.specs.declared.faults.NameKind.{NameKind}
use Rattle.ap_defs.specs.declared.faults.NameKind.TheVariants as kinds
use Rattle.ap_program.specs.NameRestriction.{RawItem, in_each, item_terms, item_place, item_locals, binders_in, places_in, HasNamesAlone, IsWrong, variable_binder, variable_swap, IsFaultOf, spelling_at, IsFirst, AreFreshForHead, IsFirstNotFresh}
use Rattle.ap_restrict.specs.Places.{first_var, misplaced, variables_at}
use Rattle.ap_restrict.specs.declared.places.NamePlace.TheVariants as places
use Rattle.ap_restrict.proofs.PlaceLemmas.{none_in_each}
use Rattle.ap_restrict.specs.Heads.{IsFirstUnfresh, clause_of_head}

pub spelled_past : (ls : List Local) (n : ℕ) → length ls ≤ n → spelling_at (locals_of ls) n ≡ []
spelled_past [] n h = refl
spelled_past (l ∷ ls) zero h = absurd (omega arith)
spelled_past (l ∷ ls) (suc n) h = spelled_past ls n (omega arith)

pub spelled_there : (ls : List Local) (n : ℕ) (d : Local) → n < length ls → spelling_at (locals_of ls) n ≡ (get_or ls n d).text
spelled_there [] n d h = absurd (omega arith)
spelled_there (l ∷ ls) zero d h = refl
spelled_there (l ∷ ls) (suc n) d h = spelled_there ls n d (omega arith)

pub is_first : (x : Var) (xs : List Var) → Some x ≡ first_var xs → IsFirst x xs
is_first x [] e = cc
is_first x (y ∷ ys) e = cc

pub is_none : (xs : List Var) → None ≡ first_var xs → xs ≡ []
is_none [] e = refl
is_none (y ∷ ys) e = cc

fresh_alike : (cs : List NominalConstructor) (item line pred : ℕ) (args : List NominalTerm) (body : NominalGoal) (locals : List NominalLocal) (names : List Name)
    → AreFreshForHead cs (clause_of_head args body locals) names
    → AreFreshForHead cs (record { item = item; line = line; pred = pred; args = args; body = body; locals = locals }) names
fresh_alike cs item line pred args body locals [] h = tt
fresh_alike cs item line pred args body locals (a ∷ as') h = (h.0, fresh_alike cs item line pred args body locals as' h.1)

first_alike : (cs : List NominalConstructor) (item line pred : ℕ) (args : List NominalTerm) (body : NominalGoal) (locals : List NominalLocal) (names : List Name) (a : Name)
    → IsFirstNotFresh cs (clause_of_head args body locals) names a
    → IsFirstNotFresh cs (record { item = item; line = line; pred = pred; args = args; body = body; locals = locals }) names a
first_alike cs item line pred args body locals [] a h = h
first_alike cs item line pred args body locals (b ∷ bs) a (inl h) = inl h
first_alike cs item line pred args body locals (b ∷ bs) a (inr h) = inr (h.0, first_alike cs item line pred args body locals bs a h.1)

answer_alike : (cs : List NominalConstructor) (item line pred : ℕ) (args : List NominalTerm) (body : NominalGoal) (locals : List NominalLocal) (names : List Name) (o : Option Name)
    → IsFirstUnfresh cs (clause_of_head args body locals) names o
    → IsFirstUnfresh cs (record { item = item; line = line; pred = pred; args = args; body = body; locals = locals }) names o
answer_alike cs item line pred args body locals names None h = fresh_alike cs item line pred args body locals names h
answer_alike cs item line pred args body locals names (Some a) h = first_alike cs item line pred args body locals names a h

-- the answer for a clause whose swappings are carried out
pub carried_answer : (cs : List NominalConstructor) (c : ClauseOver RawTerm) (args : List NominalTerm) (body : NominalGoal) (names : List Name) (o : Option Name)
    → args ≡ (map_clause carried_out c).args → body ≡ map_goal carried_out c.body
    → IsFirstUnfresh cs (clause_of_head args body c.locals) names o → IsFirstUnfresh cs (map_clause carried_out c) names o
carried_answer cs c args body names o e f h =
    answer_alike cs c.item c.line c.pred (map_clause carried_out c).args (map_goal carried_out c.body) c.locals names o
    (subst (λ b. IsFirstUnfresh cs (clause_of_head (map_clause carried_out c).args b c.locals) names o) f
    (subst (λ ts. IsFirstUnfresh cs (clause_of_head ts body c.locals) names o) e h))

-- an item's fault, by its parts
pub fault_is : (cs : List NominalConstructor) (i : RawItem) (f : NameFault) (kind : NameKind) (n : ℕ) (locals : List NominalLocal) → locals ≡ item_locals i
    → f.place ≡ item_place i → f.kind ≡ kind → f.name ≡ spelling_at locals n → IsWrong cs i kind n → IsFaultOf cs i f
fault_is cs i f kind n locals l place same name wrong = record {
  place = place;
  wrong = (n, subst (λ k. IsWrong cs i k n) (sym same) wrong, name ∙ ap (λ ls. spelling_at ls n) l);
}

pub binder_is : (cs : List NominalConstructor) (i : RawItem) (x : Var) → Some x ≡ first_var (binders_in i) → IsWrong cs i kinds.VariableBinder x.num
binder_is cs i x e = variable_binder x (is_first x (binders_in i) e)

pub swap_is : (cs : List NominalConstructor) (i : RawItem) (x : Var) → None ≡ first_var (binders_in i) → Some x ≡ first_var (places_in i) → IsWrong cs i kinds.VariableSwap x.num
swap_is cs i x b e = variable_swap x (is_none (binders_in i) b) (is_first x (places_in i) e)

pub names_alone : (i : RawItem) → None ≡ first_var (binders_in i) → None ≡ first_var (places_in i) → HasNamesAlone i
names_alone i b e = (is_none (binders_in i) b, is_none (places_in i) e)

pub none_in_item : (i : RawItem) → None ≡ first_var (in_each (variables_at places.Any) (item_terms i)) → HasNamesAlone i
none_in_item i e = none_in_each (item_terms i) (is_none (in_each misplaced (item_terms i)) e)

pub carried_result : {E : Type 0} (cs : List NominalConstructor) (c : ClauseOver RawTerm) (args : List NominalTerm) (body : NominalGoal) (locals : List NominalLocal) (r : Result (Option Name) E)
    → args ≡ (map_clause carried_out c).args → body ≡ map_goal carried_out c.body → locals ≡ c.locals
    → IfOk r (λ o. IsFirstUnfresh cs (clause_of_head args body locals) (local_names 0 locals) o) → IfOk r (λ o. IsFirstUnfresh cs (map_clause carried_out c) (local_names 0 c.locals) o)
carried_result cs c args body locals (Err x) e f l h = h
carried_result cs c args body locals (Ok o) e f l h =
    carried_answer cs c args body (local_names 0 c.locals) o e f (subst (λ ls. IsFirstUnfresh cs (clause_of_head args body ls) (local_names 0 ls) o) l h)
