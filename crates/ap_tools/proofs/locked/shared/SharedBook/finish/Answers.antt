use Rattle.std.proofs.Common.{◌∙◌, List, sym, ap, subst}
use Rattle.ap_tools.specs.Seats.{SeatView, AreLogged, seats_with}
use Rattle.ap_tools.proofs.Endings.{of_last}
use Rattle.ap_tools.proofs.locked.shared.SharedBook.finish.Goals as goal

pub unite-first-requires : goal.unite-first-requires
unite-first-requires c = let o = of_last _ _ _ _ c.in-Some.ensures.items c.requires.0 in (o.1, o.0)

pub returns-clause-logged : goal.returns-clause-logged
returns-clause-logged c =
    let u = c.unite-first.ensures.1 in
    let all = u.3 _ c.take_out.ensures.known in
    subst (λ (l : List SeatView). AreLogged c.take_out.result l) (sym c.in-Some.ensures.items) all

pub returns-clause-makers : goal.returns-clause-makers
returns-clause-makers c =
    let u = c.unite-first.ensures.1 in
    let m = c.take_out.ensures.makers in
    ((λ n none_with. m.0 n (u.4 n ∙ ap (seats_with n) (sym c.in-Some.ensures.items) ∙ none_with)), m.1)
