-- Looking back through what stands for identifiers.
use Rattle.std.proofs.Common.{◌≡◌, ◌<◌, ◌+◌, ℕ, Bool, true, false, List, [], ◌∷◌, ◌++◌, length, get_or, map, take, refl, sym, ap, ◌∙◌, add-one}
use Rattle.std.proofs.lemmas.List.{map-append}
use Rattle.std.proofs.Math.Seq.{take-suc}
use Rattle.std.specs.Prelude.{if◌then◌else◌, MatchOption, Option, Some, None}
use Rattle.ap_defs.specs.declared.terms.Name.{Name}
use Rattle.ap_defs.specs.declared.terms.Var.{Var}
use Rattle.ap_defs.specs.Freshness.{var_eq}
use Rattle.ap_defs.specs.GroundProofs.{name_for}
use Rattle.ap_defs.specs.Permutations.{name_eq}
use Rattle.ap_defs.specs.Renaming.{local_names}
use Rattle.ap_defs.specs.Terms.{NominalTerm, unit}
use Rattle.ap_defs.specs.Types.{locals_of}
use Rattle.ap_theory.proofs.PermutationLemmas.{name_eq_same}
use Rattle.ap_checks.specs.OpenEnvironments.{OpenEnvironment}
use Rattle.ap_judge.specs.Cited.{cited_term}
use Rattle.ap_judge.specs.declared.scope.Standing.{Standing}
use Rattle.ap_judge.specs.declared.scope.Standing.TheVariants as code
use Rattle.ap_judge.specs.Scopes.{environment_from, environment_with, item_term, name_stood, term_brought}

pub environment_append : (ss us : List Standing) (e : OpenEnvironment) → environment_from (ss ++ us) e ≡ environment_from us (environment_from ss e)
environment_append [] us e = refl
environment_append (s ∷ ss) us e = environment_append ss us (environment_with s e)

name_for_itself : (as' : List Name) (b : Name) → name_for as' as' b ≡ b
name_for_itself [] b = refl
name_for_itself (a ∷ as') b =
    elim (name_eq a b) as (λ v. name_eq a b ≡ v → (if v then a else name_for as' as' b) ≡ b) [ true ↦ λ h. name_eq_same a b h | false ↦ λ h. name_for_itself as' b ] refl

name_taken : (s : Standing) (e : OpenEnvironment) (b c : Name) → name_stood s b ≡ Some c → (environment_with s e).names b ≡ c
name_taken (code.Query ls ts) e b c h = let same : b ≡ c = cc in name_for_itself (local_names 0 (locals_of ls)) b ∙ same
name_taken (code.Clause ls names ts) e b c h = cc
name_taken (code.Name a d) e b c h =
    elim (name_eq a b) as (λ v. (if v then Some d else None) ≡ Some c → (if v then d else e.names b) ≡ c) [ true ↦ λ k. cc | false ↦ λ k. cc ] h
name_taken (code.Term x t) e b c h = cc

name_kept : (s : Standing) (e : OpenEnvironment) (b : Name) → name_stood s b ≡ None → (environment_with s e).names b ≡ e.names b
name_kept (code.Query ls ts) e b h = cc
name_kept (code.Clause ls names ts) e b h = cc
name_kept (code.Name a d) e b h =
    elim (name_eq a b) as (λ v. (if v then Some d else None) ≡ None → (if v then d else e.names b) ≡ e.names b) [ true ↦ λ k. cc | false ↦ λ k. refl ] h
name_kept (code.Term x t) e b h = refl

brought : (b : Bool) (u t other : NominalTerm) → (if b then Some u else None) ≡ Some t → (if b then u else other) ≡ t
brought true u t other h = cc
brought false u t other h = cc

not_brought : (b : Bool) (u other : NominalTerm) → (if b then Some u else None) ≡ None → (if b then u else other) ≡ other
not_brought true u other h = cc
not_brought false u other h = refl

term_taken : (s : Standing) (e : OpenEnvironment) (x : Var) (t : NominalTerm) → term_brought s x ≡ Some t → (environment_with s e).terms x ≡ t
term_taken (code.Query ls ts) e x t h = cc
term_taken (code.Clause ls names ts) e x t h = cc
term_taken (code.Name a c) e x t h = cc
term_taken (code.Term y u) e x t h =
    brought (var_eq y x) (cited_term u) t (e.terms x) h

item_taken : (s : Standing) (e : OpenEnvironment) (x : Var) (t : NominalTerm) → item_term s x ≡ Some t → (environment_with s e).terms x ≡ t
item_taken (code.Query ls us) e x t h = cc
item_taken (code.Clause ls names us) e x t h = cc
item_taken (code.Name a c) e x t h = cc
item_taken (code.Term y u) e x t h = cc

term_kept : (s : Standing) (e : OpenEnvironment) (x : Var) → term_brought s x ≡ None → item_term s x ≡ None → (environment_with s e).terms x ≡ e.terms x
term_kept (code.Query ls ts) e x h k = cc
term_kept (code.Clause ls names ts) e x h k = cc
term_kept (code.Name a c) e x h k = refl
term_kept (code.Term y u) e x h k =
    not_brought (var_eq y x) (cited_term u) (e.terms x) h

module _ (ss : List Standing) (i j : ℕ) (s : Standing) (e : OpenEnvironment) (l : i ≡ j + 1) (h : j < length ss) (k : s ≡ get_or ss j s) where
  with_last : environment_from (take i ss) e ≡ environment_with s (environment_from (take j ss) e)
  with_last =
      ap (λ n. environment_from (take n ss) e) (l ∙ add-one j) ∙ ap (λ us. environment_from us e) (take-suc ss j s h) ∙ environment_append (take j ss) (get_or ss j s ∷ []) e
      ∙ ap (λ u. environment_with u (environment_from (take j ss) e)) (sym k)

  pub name_here : (b c : Name) → name_stood s b ≡ Some c → c ≡ (environment_from (take i ss) e).names b
  name_here b c f = sym (ap (λ (z : OpenEnvironment). z.names b) with_last ∙ name_taken s (environment_from (take j ss) e) b c f)

  pub name_further : (b : Name) → name_stood s b ≡ None → (environment_from (take j ss) e).names b ≡ (environment_from (take i ss) e).names b
  name_further b f = sym (ap (λ (z : OpenEnvironment). z.names b) with_last ∙ name_kept s (environment_from (take j ss) e) b f)

  pub term_here : (x : Var) (t : NominalTerm) → term_brought s x ≡ Some t → (environment_from (take i ss) e).terms x ≡ t
  term_here x t f = ap (λ (z : OpenEnvironment). z.terms x) with_last ∙ term_taken s (environment_from (take j ss) e) x t f

  item_there : (x : Var) (t : NominalTerm) → item_term s x ≡ Some t → (environment_from (take i ss) e).terms x ≡ t
  item_there x t f = ap (λ (z : OpenEnvironment). z.terms x) with_last ∙ item_taken s (environment_from (take j ss) e) x t f

  pub item_here : {A : Type 0} (view : A → NominalTerm) (x : Var) (o : Option A) → MatchOption o (item_term s x ≡ Some unit) (λ t. item_term s x ≡ Some (view t))
      → MatchOption o ((environment_from (take i ss) e).terms x ≡ unit) (λ t. (environment_from (take i ss) e).terms x ≡ view t)
  item_here view x None h = item_there x unit h
  item_here view x (Some t) h = item_there x (view t) h

  pub term_further : (x : Var) → term_brought s x ≡ None → item_term s x ≡ None → (environment_from (take j ss) e).terms x ≡ (environment_from (take i ss) e).terms x
  term_further x f g = sym (ap (λ (z : OpenEnvironment). z.terms x) with_last ∙ term_kept s (environment_from (take j ss) e) x f g)

-- one more of those that a function makes of a list
pub mapped_next : {X Y : Type 0} (f : X → Y) (xs : List X) (i : ℕ) (d : X) (ys zs : List Y) → i < length xs → ys ≡ map f (take i xs) → zs ≡ ys ++ f (get_or xs i d) ∷ [] → zs ≡ map f (take (i + 1) xs)
mapped_next f xs i d ys zs h so_far put =
    put ∙ ap (λ us. us ++ f (get_or xs i d) ∷ []) so_far ∙ sym (map-append f (take i xs) (get_or xs i d ∷ []))
    ∙ ap (map f) (sym (take-suc xs i d h)) ∙ ap (λ n. map f (take n xs)) (sym (add-one i))
