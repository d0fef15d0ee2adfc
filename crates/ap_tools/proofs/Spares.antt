-- What a thief's passes know.
use Rattle.std.proofs.Common.{◌≡◌, ◌∙◌, ℕ, List, [], ◌∷◌, ◌++◌, length, refl, ap, sym, subst, ⊎_elim}
use mathlib.Core.Option.{some-ne-none}
use Rattle.std.specs.declared.alloc.Global.{Global}
use Rattle.atomic_blocks.specs.Lent.{RowsId}
use Rattle.atomic_table.proofs.Lists.{at_longer, at_last, at_snoc}
use Rattle.crossbeam_deque.specs.Handles.{view, IsPassOf}
use Rattle.ap_tools.specs.declared.deques.hand.Hand.{Hand}
use Rattle.ap_tools.specs.Rule.{thief_hand}
use Rattle.ap_tools.specs.Ends.{Ticket, AreSpare}

pub thief_knows : (v : Hand) (stolen : List (List ℕ)) → v ≡ thief_hand stolen → v ≡ thief_hand v.stolen
thief_knows v stolen is = is ∙ sym (ap (λ (u : Hand). thief_hand u.stolen) is)

pub spare_rest : (d : RowsId × Global) (all xs ys : List Ticket) → all ≡ xs ++ ys → AreSpare d all → AreSpare d xs
spare_rest d all xs ys is h k p at = h k p (rw is (at_longer xs ys k p at))

pub spare_last : (d : RowsId × Global) (all xs : List Ticket) (p : Ticket) → all ≡ xs ++ p ∷ [] → AreSpare d all → IsPassOf d p × (view p ≡ thief_hand [])
spare_last d all xs p is h = h (length xs) p (rw is (at_last xs p (length xs) refl))

pub no_spare : (d : RowsId × Global) → AreSpare d []
no_spare d k p at = absurd (some-ne-none p (sym at))

pub spare_more : (d : RowsId × Global) (xs all : List Ticket) (p : Ticket) → all ≡ xs ++ p ∷ [] → AreSpare d xs → IsPassOf d p → view p ≡ thief_hand [] → AreSpare d all
spare_more d xs all p is h own v k q at =
    ⊎_elim (λ x. h k q x) (λ (e : p ≡ q). subst (λ (y : Ticket). IsPassOf d y × (view y ≡ thief_hand [])) e (own, v))
    (at_snoc xs p q k (rw (sym is) at))
