-- What an answer's terms match gives the instance.
use Rattle.std.proofs.Common.{◌≡◌, ◌⊎◌, Bool, true, false, ◌&&◌, List, [], ◌∷◌, ◌++◌, map, refl, sym, ap, subst, ◌∙◌, inl, inr, true≢false}
use Rattle.std.specs.Prelude.{◌==◌, if◌then◌else◌}
use Rattle.ap_defs.specs.declared.terms.Name.{Name}
use Rattle.ap_defs.specs.declared.terms.Swap.{Swap}
use Rattle.ap_defs.specs.declared.terms.Var.{Var}
use Rattle.ap_defs.specs.Alpha.{alpha, fresh}
use Rattle.ap_defs.specs.Answers.{NominalAnswer}
use Rattle.ap_defs.specs.Freshness.{Conds, var_eq}
use Rattle.ap_defs.specs.GroundProofs.{AlphaEach}
use Rattle.ap_defs.specs.Groundings.{Grounding, grounded, meets}
use Rattle.ap_defs.specs.Permutations.{act_name, name_eq, swap_of}
use Rattle.ap_defs.specs.Renaming.{replace_names}
use Rattle.ap_defs.specs.Terms as terms
use Rattle.ap_defs.specs.Terms.{GroundTerm, NominalTerm, act_ground}
use Rattle.ap_defs.specs.Types.{NominalConstructor, NominalLocal, NominalType}
use Rattle.ap_defs.specs.Typing.{IsOfType}
use Rattle.ap_theory.proofs.BooleanLemmas.{and_both, and_left, and_right}
use Rattle.ap_theory.proofs.GroundLemmas.{act_ground_none, act_ground_same, alpha_flip, alpha_move, alpha_sym, alpha_trans, fresh_alpha}
use Rattle.ap_theory.proofs.PermutationLemmas.{name_eq_same, swap_none}
use Rattle.ap_theory.proofs.TermLemmas.{same_var, var_same}
use Rattle.ap_ground.specs.TypedGroundings.{GivesTypes}
use Rattle.ap_complete.specs.Coverings.{IsInstanceBy, replace_in_cond}
use Rattle.ap_complete.proofs.ExchangeLemmas.{each_exchange_covers}
use Rattle.ap_cover.specs.Matched.{Pairs, given_by, matched, matched_each}
use Rattle.ap_cover.specs.StatementsOnMatching.{GivesInstance, MatchedTermsCover, matched_with}
use Rattle.ap_cover.proofs.AlphaTypeLemmas.{of_type_alike}

-- the grounding gives each variable the term beside it, up to renaming of binders
abbrev pub Fit : Grounding → Pairs → Type 0
Fit f [] = Unit {0}
Fit f (v ∷ ps) = (alpha (f v.0) v.1 ≡ true) × Fit f ps

fit_both : (f : Grounding) (ps qs : Pairs) → Fit f ps → Fit f qs → Fit f (ps ++ qs)
fit_both f [] qs h k = k
fit_both f (v ∷ ps) qs h k = (h.0, fit_both f ps qs h.1 k)

fit_left : (f : Grounding) (ps qs : Pairs) → Fit f (ps ++ qs) → Fit f ps
fit_left f [] qs h = tt
fit_left f (v ∷ ps) qs h = (h.0, fit_left f ps qs h.1)

fit_right : (f : Grounding) (ps qs : Pairs) → Fit f (ps ++ qs) → Fit f qs
fit_right f [] qs h = h
fit_right f (v ∷ ps) qs h = fit_right f ps qs h.1

-- a swapping of a name with itself moves nothing
swapped_itself : (a b : Name) (g : GroundTerm) → name_eq a b ≡ true → act_ground (swap_of a b ∷ []) g ≡ g
swapped_itself a b g e =
    act_ground_same (swap_of a b ∷ []) [] (λ c. ap (λ (d : Name). act_name (swap_of a d ∷ []) c) (sym (name_eq_same a b e)) ∙ swap_none a c) g ∙ act_ground_none g

-- TERMS

-- bodies below two binders
opened : (a b : Name) (t g : GroundTerm) → alpha (terms.abs a t) (terms.abs b g) ≡ true → alpha t (act_ground (swap_of a b ∷ []) g) ≡ true
opened a b t g e =
    let moved = act_ground (swap_of a b ∷ []) g in
    elim (name_eq a b) as (λ v. name_eq a b ≡ v → (if v then alpha t g else ((a.sort == b.sort) && (fresh a g && alpha t moved))) ≡ true → alpha t moved ≡ true) [
      | true ↦ λ i k. ap (alpha t) (swapped_itself a b g i) ∙ k
      | false ↦ λ i k. and_right (fresh a g) (alpha t moved) (and_right (a.sort == b.sort) (fresh a g && alpha t moved) k)
    ] refl e

-- another body that is equal below the binders
closed : (a b : Name) (t u g : GroundTerm) → alpha (terms.abs a t) (terms.abs b g) ≡ true → alpha u (act_ground (swap_of a b ∷ []) g) ≡ true → alpha (terms.abs a u) (terms.abs b g) ≡ true
closed a b t u g e h =
    let moved = act_ground (swap_of a b ∷ []) g in
    elim (name_eq a b) as (λ v. name_eq a b ≡ v → (if v then alpha t g else ((a.sort == b.sort) && (fresh a g && alpha t moved))) ≡ true
    → (if v then alpha u g else ((a.sort == b.sort) && (fresh a g && alpha u moved))) ≡ true) [
      | true ↦ λ i k. ap (alpha u) (sym (swapped_itself a b g i)) ∙ h
      | false ↦ λ i k.
          let rest = and_right (a.sort == b.sort) (fresh a g && alpha t moved) k in
          and_both (a.sort == b.sort) (fresh a g && alpha u moved) (and_left (a.sort == b.sort) (fresh a g && alpha t moved) k)
          (and_both (fresh a g) (alpha u moved) (and_left (fresh a g) (alpha t moved) rest) h)
    ] refl e

matched_fits : (f : Grounding) (t : NominalTerm) (g : GroundTerm) → alpha (grounded f t) g ≡ true → Fit f (matched t g)
matched_fits f (terms.susp p x) g e = (sym (alpha_move p (f x) g) ∙ e, tt)
matched_fits f (terms.pair t u) (terms.pair g h) e =
    fit_both f (matched t g) (matched u h) (matched_fits f t g (and_left (alpha (grounded f t) g) (alpha (grounded f u) h) e)) (matched_fits f u h (and_right (alpha (grounded f t) g) (alpha (grounded f u) h) e))
matched_fits f (terms.app k t) (terms.app l g) e = matched_fits f t g (and_right (k == l) (alpha (grounded f t) g) e)
matched_fits f (terms.abs a t) (terms.abs b g) e = matched_fits f t (act_ground (swap_of a b ∷ []) g) (opened a b (grounded f t) g e)
matched_fits f terms.unit g e = tt
matched_fits f (terms.name a) g e = tt
matched_fits f (terms.pair t u) _ e = tt
matched_fits f (terms.app k t) _ e = tt
matched_fits f (terms.abs a t) _ e = tt

-- and each grounding that gives these gives the term
fits_matched : (f k : Grounding) (t : NominalTerm) (g : GroundTerm) → alpha (grounded f t) g ≡ true → Fit k (matched t g) → alpha (grounded k t) g ≡ true
fits_matched f k (terms.susp p x) g e h = alpha_move p (k x) g ∙ h.0
fits_matched f k (terms.pair t u) (terms.pair g v) e h =
    and_both (alpha (grounded k t) g) (alpha (grounded k u) v)
    (fits_matched f k t g (and_left (alpha (grounded f t) g) (alpha (grounded f u) v) e) (fit_left k (matched t g) (matched u v) h))
    (fits_matched f k u v (and_right (alpha (grounded f t) g) (alpha (grounded f u) v) e) (fit_right k (matched t g) (matched u v) h))
fits_matched f k (terms.app m t) (terms.app n g) e h =
    and_both (m == n) (alpha (grounded k t) g) (and_left (m == n) (alpha (grounded f t) g) e) (fits_matched f k t g (and_right (m == n) (alpha (grounded f t) g) e) h)
fits_matched f k (terms.abs a t) (terms.abs b g) e h =
    closed a b (grounded f t) (grounded k t) g e (fits_matched f k t (act_ground (swap_of a b ∷ []) g) (opened a b (grounded f t) g e) h)
fits_matched f k terms.unit terms.unit e h = e
fits_matched f k (terms.name a) (terms.name b) e h = e
fits_matched f k _ _ e h = absurd (true≢false (sym e))

-- LISTS

each_matched_fits : (f : Grounding) (swaps : List Swap) (ts : List NominalTerm) (gs : List GroundTerm) → AlphaEach gs (map (λ t. grounded f (replace_names swaps t)) ts)
    → Fit f (matched_each (map (replace_names swaps) ts) gs)
each_matched_fits f swaps [] [] h = tt
each_matched_fits f swaps [] (g ∷ gs) h = tt
each_matched_fits f swaps (t ∷ ts) [] h = tt
each_matched_fits f swaps (t ∷ ts) (g ∷ gs) h =
    let u = replace_names swaps t in
    fit_both f (matched u g) (matched_each (map (replace_names swaps) ts) gs) (matched_fits f u g (alpha_flip (grounded f u) g ∙ h.0)) (each_matched_fits f swaps ts gs h.1)

each_fits_matched : (f k : Grounding) (swaps : List Swap) (ts : List NominalTerm) (gs : List GroundTerm) → AlphaEach gs (map (λ t. grounded f (replace_names swaps t)) ts)
    → Fit k (matched_each (map (replace_names swaps) ts) gs) → AlphaEach gs (map (λ t. grounded k (replace_names swaps t)) ts)
each_fits_matched f k swaps [] [] h m = tt
each_fits_matched f k swaps [] (g ∷ gs) h m = absurd h
each_fits_matched f k swaps (t ∷ ts) [] h m = absurd h
each_fits_matched f k swaps (t ∷ ts) (g ∷ gs) h m =
    let u = replace_names swaps t in
    let rest = matched_each (map (replace_names swaps) ts) gs in (
      alpha_flip g (grounded k u) ∙ fits_matched f k u g (alpha_flip (grounded f u) g ∙ h.0) (fit_left k (matched u g) rest m),
      each_fits_matched f k swaps ts gs h.1 (fit_right k (matched u g) rest m),
    )

-- THE GROUNDING

module _ (f other : Grounding) where
  -- it gives what the first one gives up to renaming of binders, or what the other one gives
  given_either : (ps : Pairs) → Fit f ps → (x : Var) → (alpha (f x) (given_by ps other x) ≡ true) ⊎ (given_by ps other x ≡ other x)
  given_either [] h x = inr refl
  given_either (v ∷ ps) h x =
      elim (var_eq x v.0) as (λ b. var_eq x v.0 ≡ b → (alpha (f x) (if b then v.1 else given_by ps other x) ≡ true) ⊎ ((if b then v.1 else given_by ps other x) ≡ other x)) [
        | true ↦ λ e. inl (ap (λ y. alpha (f y) v.1) (var_same x v.0 e) ∙ h.0)
        | false ↦ λ e. given_either ps h.1 x
      ] refl

  abbrev has_key : Var → Pairs → Bool
  has_key x [] = false
  has_key x (v ∷ ps) = if var_eq x v.0 then true else has_key x ps

  given_key : (ps : Pairs) → Fit f ps → (x : Var) → has_key x ps ≡ true → alpha (f x) (given_by ps other x) ≡ true
  given_key [] h x i = absurd (true≢false (sym i))
  given_key (v ∷ ps) h x i =
      elim (var_eq x v.0) as (λ b. var_eq x v.0 ≡ b → (if b then true else has_key x ps) ≡ true → alpha (f x) (if b then v.1 else given_by ps other x) ≡ true) [
        | true ↦ λ e j. ap (λ y. alpha (f y) v.1) (var_same x v.0 e) ∙ h.0
        | false ↦ λ e j. given_key ps h.1 x j
      ] refl i

  key_kept : (x : Var) (v : Var × GroundTerm) (ps : Pairs) → has_key x ps ≡ true → has_key x (v ∷ ps) ≡ true
  key_kept x v ps h = elim (var_eq x v.0) as (λ b. (if b then true else has_key x ps) ≡ true) [ true ↦ refl | false ↦ h ]

  abbrev AllKeys : Pairs → Pairs → Type 0
  AllKeys all [] = Unit {0}
  AllKeys all (v ∷ ps) = (has_key v.0 all ≡ true) × AllKeys all ps

  given_fits : (all ps : Pairs) → Fit f all → Fit f ps → AllKeys all ps → Fit (given_by all other) ps
  given_fits all [] h k i = tt
  given_fits all (v ∷ ps) h k i =
      let here = given_key all h v.0 i.0 in (
        alpha_trans (given_by all other v.0) (f v.0) v.1 (alpha_sym (f v.0) (given_by all other v.0) here) k.0,
        given_fits all ps h k.1 i.1,
      )

  keys_kept : (v : Var × GroundTerm) (all ps : Pairs) → AllKeys all ps → AllKeys (v ∷ all) ps
  keys_kept v all [] h = tt
  keys_kept v all (w ∷ ps) h = (key_kept w.0 v all h.0, keys_kept v all ps h.1)

  own_keys : (ps : Pairs) → AllKeys ps ps
  own_keys [] = tt
  own_keys (v ∷ ps) = (ap (λ b. if b then true else has_key v.0 ps) (same_var v.0 v.0 refl), keys_kept v ps ps (own_keys ps))

  given_fit : (ps : Pairs) → Fit f ps → Fit (given_by ps other) ps
  given_fit ps h = given_fits ps ps h h (own_keys ps)

  given_types : (cs : List NominalConstructor) (ps : Pairs) → Fit f ps → (vs : List (Var × NominalType)) → GivesTypes cs vs f → GivesTypes cs vs other → GivesTypes cs vs (given_by ps other)
  given_types cs ps h [] k l = tt
  given_types cs ps h (v ∷ vs) k l = (
    elim (given_either ps h v.0) [
      | inl e ↦ of_type_alike cs (f v.0) (given_by ps other v.0) v.1 e k.0
      | inr e ↦ subst (λ (g : GroundTerm). IsOfType cs g v.1) (sym e) l.0
    ],
    given_types cs ps h vs k.1 l.1,
  )

  given_meets : (ps : Pairs) → Fit f ps → (ds : Conds) → meets f ds ≡ true → meets other ds ≡ true → meets (given_by ps other) ds ≡ true
  given_meets ps h [] k l = refl
  given_meets ps h (c ∷ ds) k l =
      let g = given_by ps other in
      and_both (fresh c.name (g c.var)) (meets g ds)
      (elim (given_either ps h c.var) [
        | inl e ↦ sym (fresh_alpha c.name (f c.var) (g c.var) e) ∙ and_left (fresh c.name (f c.var)) (meets f ds) k
        | inr e ↦ ap (fresh c.name) e ∙ and_left (fresh c.name (other c.var)) (meets other ds) l
      ])
      (given_meets ps h ds (and_right (fresh c.name (f c.var)) (meets f ds) k) (and_right (fresh c.name (other c.var)) (meets other ds) l))

-- so what is matched gives each instance
pub matched_instance : (cs : List NominalConstructor) (locals : List NominalLocal) (a : NominalAnswer) (gs : List GroundTerm) (swaps : List Swap) → IsInstanceBy cs locals a gs swaps
    → (other : Grounding) → GivesTypes cs a.vars other → meets other (map (replace_in_cond swaps) a.conds) ≡ true → GivesInstance cs a gs swaps (matched_with a gs swaps other)
matched_instance cs locals a gs swaps i other types conds =
    let ps = matched_each (map (replace_names swaps) a.binds) gs in
    let fit = each_matched_fits i.grounding swaps a.binds gs i.equal in
    record {
      types = given_types i.grounding other cs ps fit a.vars i.types types;
      conditions = given_meets i.grounding other ps fit (map (replace_in_cond swaps) a.conds) i.conditions conds;
      equal = each_fits_matched i.grounding (given_by ps other) swaps a.binds gs i.equal (given_fit i.grounding other ps fit);
    }

pub matched_cover : MatchedTermsCover
matched_cover p restricted q typed depth gs types_of proof valid low a among swaps takes other types conds =
    matched_instance p.signature.constructors q.locals a gs swaps (each_exchange_covers p restricted q typed depth gs types_of proof valid low a among swaps takes) other types conds
