use Rattle.std.proofs.Common.{sym, ap, ◌∙◌, slice_get}
use Rattle.ap_answers.proofs.PlaceLemmas.{place_found}
use Rattle.ap_answers.proofs.var_sets.place_in_table.Goals as goal

pub returns-in-Some : goal.returns-in-Some
returns-in-Some c =
    sym (place_found c.args.vars.now.keys c.in-Some.place c.args.var c.as_slice.ensures.unique (ap (λ ks. slice_get ks c.in-Some.place) (sym c.as_slice.ensures.keys) ∙ c.in-Some.ensures))
