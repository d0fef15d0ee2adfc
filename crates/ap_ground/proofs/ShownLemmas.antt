-- Where terms for a query's variables have a property in each instance of an answer, there are such terms for each instance of what is shown.
use Rattle.std.proofs.Common.{◌≡◌, ℕ, Bool, true, false, ◌&&◌, ◌||◌, List, [], ◌∷◌, ◌++◌, map, refl, sym, ap, ◌∙◌, true≢false}
use Rattle.std.specs.Prelude.{if◌then◌else◌, filter}
use Rattle.ap_defs.specs.Alpha.{fresh}
use Rattle.ap_defs.specs.Answers.{NominalAnswer}
use Rattle.ap_defs.specs.Freshness.{Conds}
use Rattle.ap_defs.specs.GroundProofs.{IsDerivable}
use Rattle.ap_defs.specs.Groundings.{Grounding, grounded, meets}
use Rattle.ap_defs.specs.Lines.{is_shown_cond, shown_binds, shown_in, terms_of_binds, var_texts}
use Rattle.ap_defs.specs.Occurrences.{names_of_terms, vars_of_terms}
use Rattle.ap_defs.specs.Permutations.{act_name, has_name, name_eq}
use Rattle.ap_defs.specs.Renaming.{local_names, local_vars}
use Rattle.ap_defs.specs.Resolution.{kinds_of}
use Rattle.ap_defs.specs.Terms.{GroundTerm, NominalTerm, act_ground}
use Rattle.ap_defs.specs.Types.{NominalConstructor, NominalKind, NominalLocal}
use Rattle.ap_defs.specs.Unification.{has_var}
use Rattle.ap_defs.specs.declared.terms.Cond.{Cond}
use Rattle.ap_defs.specs.declared.terms.Name.{Name}
use Rattle.ap_defs.specs.declared.terms.Swap.{Swap}
use Rattle.ap_defs.specs.declared.terms.Var.{Var}
use Rattle.ap_program.specs.RawTyping.{AreVarsOf}
use Rattle.ap_theory.proofs.BooleanLemmas.{and_both, and_left, and_right, or_if_left, or_if_right}
use Rattle.ap_theory.proofs.DisagreementLemmas.{has_front, has_name-append}
use Rattle.ap_theory.proofs.GroundLemmas.{fresh_act}
use Rattle.ap_ground.specs.ShownInstances.{InEachInstance, InEachShownInstance, IsShownInstanceOf, IsTypedDerivable, shown_terms}
use Rattle.ap_ground.specs.StatementsOnShownInstances.{ShownInstancesAreDerivable, ShownInstancesAreTyped}
use Rattle.ap_ground.specs.TypedGroundings.{GivesTypes, HaveInhabitants}
use Rattle.ap_ground.proofs.DerivabilityLemmas.{derivable_act}
use Rattle.ap_ground.proofs.FillerLemmas.{filled, filled_among, filled_types, filler, filler_fresh, filler_typed, gives_types, gives_types_act}
use Rattle.ap_ground.proofs.GroundTypingLemmas.{types_act}
use Rattle.ap_ground.proofs.ListLemmas.{has_first_vars}
use Rattle.ap_ground.proofs.ProofActionLemmas.{has_act}
use Rattle.ap_ground.proofs.ShownConditionLemmas.{meets_sorted, shown_back}
use Rattle.ap_ground.proofs.ShownExchangeLemmas.{hiding, hiding_fresh, hiding_keeps, hiding_twice}

-- the names of conditions
abbrev names_in : Conds → List Name
names_in cs = map (λ c. c.name) cs

module _ (cs : List NominalConstructor) (locals : List NominalLocal) (a : NominalAnswer) (kinds : List NominalKind)
    (typed : AreVarsOf kinds a.vars) (inhabited : HaveInhabitants cs a.vars) (g : Grounding) (shown : IsShownInstanceOf cs locals a g) where
  abbrev Texts : List (List ℕ)
  Texts = var_texts locals

  abbrev Terms : List NominalTerm
  Terms = terms_of_binds (shown_binds Texts a.binds)

  abbrev Vars : List Var
  Vars = (shown_in locals a).vars

  abbrev Kept : List Name
  Kept = names_of_terms Terms ++ local_names 0 locals

  -- The names of conditions that aren't kept are exchanged for new ones.
  abbrev Hiding : List Swap
  Hiding = hiding Kept (names_in a.conds) g Vars

  -- Variables that aren't shown get terms for which the exchanged names are fresh.
  abbrev Moved : List Name
  Moved = map (act_name Hiding) (names_in a.conds)

  abbrev Filled : Grounding
  Filled = filled Vars g (filler cs Moved a.vars inhabited)

  abbrev Instance : Grounding
  Instance x = act_ground Hiding (Filled x)

  is_var : (x : Var) → has_var x Vars ≡ has_var x (vars_of_terms Terms)
  is_var x = has_first_vars [] (vars_of_terms Terms) x ∙ and_true (has_var x (vars_of_terms Terms))
    where
      and_true : (b : Bool) → (b && true) ≡ b
      and_true true = refl
      and_true false = refl

  -- its types
  filled_gives : GivesTypes cs a.vars Filled
  filled_gives =
      filled_types cs Vars g (filler cs Moved a.vars inhabited) a.vars shown.types
      (gives_types cs kinds (filler cs Moved a.vars inhabited) a.vars typed (filler_typed cs Moved kinds a.vars inhabited typed))

  instance_types : GivesTypes cs a.vars Instance
  instance_types = gives_types_act cs Hiding Filled a.vars filled_gives

  -- A condition, its name exchanged, is met: one that is shown, one on a shown variable with another name, and one on another variable.
  met_shown : (c : Cond) → has_name c.name Kept ≡ true → fresh c.name (g c.var) ≡ true → fresh (act_name Hiding c.name) (g c.var) ≡ true
  met_shown c k h = ap (λ b. fresh b (g c.var)) (hiding_keeps Kept (names_in a.conds) g Vars c.name k) ∙ h

  met_among : (c : Cond) → has_name c.name (names_in a.conds) ≡ true → (has_name c.name Kept ≡ true → fresh c.name (g c.var) ≡ true) → has_var c.var Vars ≡ true
      → fresh (act_name Hiding c.name) (g c.var) ≡ true
  met_among c k h v =
      elim (has_name c.name Kept) as (λ b. has_name c.name Kept ≡ b → fresh (act_name Hiding c.name) (g c.var) ≡ true) [
        | true ↦ λ e. met_shown c e (h e)
        | false ↦ λ e. hiding_fresh Kept (names_in a.conds) g Vars c.name k e c.var v
      ] refl

  met_filled : (c : Cond) → has_name c.name (names_in a.conds) ≡ true → (is_shown_cond locals Terms c ≡ true → fresh c.name (g c.var) ≡ true)
      → fresh (act_name Hiding c.name) (Filled c.var) ≡ true
  met_filled c k h =
      elim (has_var c.var Vars) as (λ b. has_var c.var Vars ≡ b → fresh (act_name Hiding c.name) (if b then g c.var else filler cs Moved a.vars inhabited c.var) ≡ true) [
        | true ↦ λ e. met_among c k (λ i. h (and_both (has_var c.var (vars_of_terms Terms)) (has_name c.name (names_of_terms Terms) || has_name c.name (local_names 0 locals))
            (sym (is_var c.var) ∙ e) (sym (has_name-append c.name (names_of_terms Terms) (local_names 0 locals)) ∙ i))) e
        | false ↦ λ e. filler_fresh cs Moved a.vars inhabited c.var (act_name Hiding c.name) (has_act Hiding c.name (names_in a.conds) ∙ k)
      ] refl

  met : (c : Cond) → fresh (act_name Hiding c.name) (Filled c.var) ≡ true → fresh c.name (Instance c.var) ≡ true
  met c h =
      ap (λ b. fresh b (Instance c.var)) (sym (hiding_twice Kept (names_in a.conds) g Vars c.name))
      ∙ fresh_act Hiding (act_name Hiding c.name) (Filled c.var) ∙ h

  meets_each : (ds : Conds) → ((b : Name) → has_name b (names_in ds) ≡ true → has_name b (names_in a.conds) ≡ true)
      → meets g (filter (is_shown_cond locals Terms) ds) ≡ true → meets Instance ds ≡ true
  meets_each [] within h = refl
  meets_each (c ∷ ds) within h =
      let here : has_name c.name (names_in a.conds) ≡ true = within c.name (has_front c.name (names_in ds)) in
      let later : (b : Name) → has_name b (names_in ds) ≡ true → has_name b (names_in a.conds) ≡ true =
      λ b k. within b (or_if_right (name_eq b c.name) (has_name b (names_in ds)) k) in
      elim (is_shown_cond locals Terms c) as (λ v. is_shown_cond locals Terms c ≡ v
      → meets g (if v then (c ∷ filter (is_shown_cond locals Terms) ds) else filter (is_shown_cond locals Terms) ds) ≡ true → meets Instance (c ∷ ds) ≡ true) [
        | true ↦ λ e m.
            let first : fresh c.name (g c.var) ≡ true = and_left (fresh c.name (g c.var)) (meets g (filter (is_shown_cond locals Terms) ds)) m in
            let rest : meets g (filter (is_shown_cond locals Terms) ds) ≡ true = and_right (fresh c.name (g c.var)) (meets g (filter (is_shown_cond locals Terms) ds)) m in
            and_both (fresh c.name (Instance c.var)) (meets Instance ds) (met c (met_filled c here (λ i. first))) (meets_each ds later rest)
        | false ↦ λ e m.
            and_both (fresh c.name (Instance c.var)) (meets Instance ds) (met c (met_filled c here (λ i. absurd (true≢false (sym i ∙ e))))) (meets_each ds later m)
      ] refl h

  instance_meets : meets Instance a.conds ≡ true
  instance_meets = meets_each a.conds (λ b k. k) (sym (meets_sorted g _ (filter (is_shown_cond locals Terms) a.conds)) ∙ shown.conditions)

  instance_shown : shown_terms Texts (map (act_ground Hiding) (map (grounded Instance) a.binds)) ≡ map (grounded g) Terms
  instance_shown =
      shown_back Hiding (hiding_twice Kept (names_in a.conds) g Vars) Filled g Texts a.binds
      (λ b k. hiding_keeps Kept (names_in a.conds) g Vars b (has_name-append b (names_of_terms Terms) (local_names 0 locals) ∙ or_if_left (has_name b (names_of_terms Terms)) (has_name b (local_names 0 locals)) k))
      (λ x k. filled_among Vars g (filler cs Moved a.vars inhabited) x (is_var x ∙ k))

  locals_kept : (b : Name) → has_name b (local_names 0 locals) ≡ true → act_name Hiding b ≡ b
  locals_kept b k =
      hiding_keeps Kept (names_in a.conds) g Vars b
      (has_name-append b (names_of_terms Terms) (local_names 0 locals) ∙ or_if_right (has_name b (names_of_terms Terms)) (has_name b (local_names 0 locals)) k)

-- A property that permutations keep which leave the query's names.
abbrev pub IsKept : List NominalLocal → (List GroundTerm → Type 0) → Type 0
IsKept locals P = (s : List Swap) → ((b : Name) → has_name b (local_names 0 locals) ≡ true → act_name s b ≡ b) → (gs : List GroundTerm) → P gs → P (map (act_ground s) gs)

pub shown_have : (cs : List NominalConstructor) (locals : List NominalLocal) (a : NominalAnswer) (kinds : List NominalKind) → AreVarsOf kinds a.vars → HaveInhabitants cs a.vars
    → (P : List GroundTerm → Type 0) → IsKept locals P → InEachInstance cs a P → InEachShownInstance cs locals a P
shown_have cs locals a kinds typed inhabited P kept each g shown =
    let s = Hiding cs locals a kinds typed inhabited g shown in
    let h = Instance cs locals a kinds typed inhabited g shown in
    let here : P (map (grounded h) a.binds) =
    each h (record { types = instance_types cs locals a kinds typed inhabited g shown; conditions = instance_meets cs locals a kinds typed inhabited g shown }) in (
      map (act_ground s) (map (grounded h) a.binds),
      kept s (locals_kept cs locals a kinds typed inhabited g shown) (map (grounded h) a.binds) here,
      instance_shown cs locals a kinds typed inhabited g shown,
    )

pub shown_derivable : ShownInstancesAreDerivable
shown_derivable p typed q fits a kinds of_kinds inhabited d =
    shown_have p.signature.constructors q.locals a kinds of_kinds inhabited (λ gs. IsDerivable p q gs d)
    (λ s left gs h. derivable_act p typed q fits s left gs d h)

pub shown_typed : ShownInstancesAreTyped
shown_typed p typed q fits a kinds of_kinds inhabited d =
    shown_have p.signature.constructors q.locals a kinds of_kinds inhabited (IsTypedDerivable p q d)
    (λ s left gs h. (types_act p.signature.constructors (kinds_of q.locals) s (local_vars 0 q.locals) gs h.0, derivable_act p typed q fits s left gs d h.1))
