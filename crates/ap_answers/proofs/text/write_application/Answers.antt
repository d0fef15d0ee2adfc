use Rattle.std.proofs.Common.{refl, ap, sym, ◌∙◌}
use Rattle.std.specs.Option.{option_map}
use Rattle.ap_defs.specs.Terms.{app, term_of}
use Rattle.ap_answers.specs.Places.{written_place}
use Rattle.ap_answers.specs.Spelled.{spelling_in}
use Rattle.ap_answers.proofs.TextLemmas.{app_ends, app_goes_on}
use Rattle.ap_answers.proofs.text.write_application.Goals as goal

pub returns-clause-written : goal.returns-clause-written
returns-clause-written c =
    let by = spelling_in c.args.by.now in
    let t = term_of c.args.argument.term.now in
    let k = c.args.argument.closers.items in
    c.in_ok-write_closers.ensures
    ∙ app_ends by (app c.args.f t) c.args.f t (written_place c.args.argument.place) c.args.out.now.items c.begin_application.new.out.items c.begin_application.new.out.items k c.begin_application.new.closers.items
    refl c.in_ok-place.ensures.written c.in_ok-place.ensures.kept (ap (option_map written_place) (sym c.in_default.is) ∙ c.in_ok-place.ensures.place)

pub returns-in-Some-clause-written : goal.returns-in-Some-clause-written
returns-in-Some-clause-written c =
    let by = spelling_in c.args.by.now in
    let t = term_of c.args.argument.term.now in
    let k = c.args.argument.closers.items in
    c.in_ok-pass_head.ensures.written
    ∙ app_goes_on by (app c.args.f t) c.args.f t (written_place c.args.argument.place) (written_place c.in-Some.place) c.args.out.now.items c.begin_application.new.out.items k c.begin_application.new.closers.items
    refl c.in_ok-place.ensures.written c.in_ok-place.ensures.kept (ap (option_map written_place) (sym c.in-Some.is) ∙ c.in_ok-place.ensures.place)
