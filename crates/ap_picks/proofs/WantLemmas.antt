-- Steps of picking.
use Rattle.std.proofs.Common.{◌≡◌, ◌<◌, ◌∙◌, ◌+◌, ℕ, true, List, [], map, length, get_or, Option, Some, None, sym, ap, arith}
use Rattle.std.proofs.lemmas.List.{length-map}
use denote.Ref.{Bor}
use Rattle.ap_defs.specs.declared.goals.Constructor.{Constructor}
use Rattle.ap_defs.specs.declared.spines.TermLayer.TheVariants as layers
use Rattle.ap_defs.specs.declared.terms.Ty.{Ty}
use Rattle.ap_defs.specs.Spines.{term_in}
use Rattle.ap_defs.specs.Terms.{app}
use Rattle.ap_defs.specs.Types.{NominalConstructor, NominalType, base, constructor_of, type_of}
use Rattle.ap_defs.specs.Typing.{embedded}
use Rattle.ap_types.specs.Inhabited.{all_inhabited}
use Rattle.ap_types.specs.Rounds.{reached}
use Rattle.ap_picks.specs.Choices.{IsPickedChoice}
use Rattle.ap_picks.specs.Picks.{pick_arguments, pick_data, pick_type}
use Rattle.ap_picks.specs.Wants.{IsInside, cost_arguments, cost_data, cost_type}
use Rattle.ap_picks.specs.declared.choices.Choice.{Choice}
use Rattle.ap_picks.specs.declared.opening.Want.TheVariants as wants
use Rattle.ap_picks.proofs.ChoiceLemmas.{constructor_at}
use Rattle.ap_picks.proofs.DataLemmas.{arguments_inhabited, data_cost, picked_data, place_below}

module _ (cs : List NominalConstructor) (d : ℕ) (c : Choice) (h : IsPickedChoice cs d c) (r : ℕ) (e : reached all_inhabited cs r d ≡ true) where
  pub data_inside : (n : ℕ) (ss : List ℕ) (ty : Bor Ty) → type_of ty.now ≡ base d → (args : Bor (List Ty)) → map type_of args.now ≡ h.chosen.args
      → IsInside cs n ss (wants.Type r ty) ss (wants.Arguments c.rounds args) (term_in (layers.App (c.place + 2)))
  data_inside n ss ty t args a = record {
    term =
        ap (λ x. embedded (pick_type (pick_data cs n r) n x ss).0) t ∙ ap (λ x. embedded x.0) (picked_data cs d c h n ss r e)
        ∙ ap (λ ts. app (c.place + 2) (embedded (pick_arguments (pick_data cs n c.rounds) n ts ss).0)) (sym a);
    sorts =
        ap (λ x. (pick_type (pick_data cs n r) n x ss).1) t ∙ ap (λ x. x.1) (picked_data cs d c h n ss r e)
        ∙ ap (λ ts. (pick_arguments (pick_data cs n c.rounds) n ts ss).1) (sym a);
    well = ap (all_inhabited (reached all_inhabited cs c.rounds)) a ∙ arguments_inhabited cs d c h;
    less =
        let whole = ap (cost_type (cost_data cs r)) t ∙ data_cost cs d c h r e in
        let part = ap (cost_arguments (cost_data cs c.rounds)) a in
        omega (arith, whole, part);
  }

-- the constructor of a choice
module _ (constructors : List Constructor) (d : ℕ) (c : Choice) (h : IsPickedChoice (map constructor_of constructors) d c) where
  pub choice_below : c.place < length constructors
  choice_below =
      let k = place_below (map constructor_of constructors) c.place h.chosen h.at in
      let m : length (map constructor_of constructors) ≡ length constructors = length-map constructors constructor_of in
      omega (arith, k, m)

  pub choice_arguments : (b : Constructor) → b ≡ get_or constructors c.place b → map type_of b.args ≡ h.chosen.args
  choice_arguments b e =
      let at = constructor_at constructors c.place b choice_below e in
      ap arguments_of (sym at ∙ h.at)
    where
      arguments_of : Option NominalConstructor → List NominalType
      arguments_of None = []
      arguments_of (Some x) = x.args
