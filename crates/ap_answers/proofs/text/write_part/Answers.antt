use Rattle.std.proofs.Common.{◌≡◌, ◌*◌, ◌++◌, ap, sym, ◌∙◌, arith}
use Rattle.std.specs.Prelude.{reverse}
use Rattle.ap_defs.specs.Printing.{barred, swaps_text, term_at}
use Rattle.ap_defs.specs.Terms.{app, pair, term_of}
use Rattle.ap_defs.specs.Unification.{size}
use Rattle.ap_defs.specs.declared.terms.Term.{Term}
use Rattle.ap_answers.specs.Places.{written_place}
use Rattle.ap_answers.specs.Spelled.{spelling_in}
use Rattle.ap_answers.specs.Writing.{closed_text, part_text, waiting_text}
use Rattle.ap_answers.proofs.WritingLemmas.{leaf_written, less_behind, written_behind}
use Rattle.ap_answers.proofs.text.write_part.Goals as goal
use Rattle.ap_answers.proofs.text.write_part.Goals.{in-Unit+in_ok-write_unit-in-Unit, in-Name+in_ok-write_name_at-in-Name, in-Susp+in_ok-write_variable_at-in-Susp}

pub returns-in-Pair-clause-written : goal.returns-in-Pair-clause-written
returns-in-Pair-clause-written c =
    let by = spelling_in c.args.by.now in
    let t = term_of c.deref.result.now in
    let u = term_of c.deref-part.result.now in
    let e : term_of c.args.part.term.now ≡ pair t u =
    ap term_of c.in-Pair.is ∙ ap (λ (v : Term). pair (term_of v) (term_of c.in-Pair.right.value)) (sym c.deref.ensures) ∙ ap (λ (v : Term). pair t (term_of v)) (sym c.deref-part.ensures) in
    c.in_ok-write_pair-in-Pair.ensures.written by
    ∙ ap (λ w. waiting_text by (closed_text by c.args.out.now.items w (written_place c.args.part.place) c.args.part.closers.items) c.args.waiting.now.items) (sym e)

pub returns-in-Pair-clause-less : goal.returns-in-Pair-clause-less
returns-in-Pair-clause-less c =
    let t = term_of c.deref.result.now in
    let u = term_of c.deref-part.result.now in
    let e : size (term_of c.args.part.term.now) ≡ size (pair t u) =
    ap size (ap term_of c.in-Pair.is ∙ ap (λ (v : Term). pair (term_of v) (term_of c.in-Pair.right.value)) (sym c.deref.ensures) ∙ ap (λ (v : Term). pair t (term_of v)) (sym c.deref-part.ensures)) in
    let h = c.in_ok-write_pair-in-Pair.ensures.less in
    omega (arith, e, h)

pub returns-in-App-clause-written : goal.returns-in-App-clause-written
returns-in-App-clause-written c =
    let by = spelling_in c.args.by.now in
    let t = term_of c.deref-part-in-App.result.now in
    let e : app c.in-App.f t ≡ term_of c.args.part.term.now = sym (ap term_of c.in-App.is ∙ ap (λ (v : Term). app c.in-App.f (term_of v)) (sym c.deref-part-in-App.ensures)) in
    written_behind by c.write_application.new.out.items c.args.waiting.now.items c.write_application.result _ (part_text by c.args.out.now.items c.args.part) c.write_application.ensures.written
    (ap (λ w. closed_text by c.args.out.now.items w (written_place c.args.part.place) c.args.part.closers.items) e)

pub returns-in-App-clause-less : goal.returns-in-App-clause-less
returns-in-App-clause-less c =
    let t = term_of c.deref-part-in-App.result.now in
    let e : app c.in-App.f t ≡ term_of c.args.part.term.now = sym (ap term_of c.in-App.is ∙ ap (λ (v : Term). app c.in-App.f (term_of v)) (sym c.deref-part-in-App.ensures)) in
    less_behind c.args.waiting.now.items c.write_application.result _ _ c.write_application.ensures.less (ap (λ w. 2 * size w) e)

pub returns-clause-written : goal.returns-clause-written
returns-clause-written c =
    let by = spelling_in c.args.by.now in
    let place = written_place c.args.part.place in
    let o = c.args.out.now.items in
    let k = c.args.part.closers.items in
    let is = λ (v : Term). o ++ (term_at by (term_of v) place ++ reverse k) in
    let all : c.match-term.out.items ++ reverse k ≡ part_text by o c.args.part = elim c.match-term.branch [
      | in-Unit+in_ok-write_unit-in-Unit w ↦ rw w.out-is (leaf_written _ o _ k w.in_ok-write_unit-in-Unit.ensures ∙ ap is (sym w.in-Unit.is))
      | in-Name+in_ok-write_name_at-in-Name w ↦ rw w.out-is (leaf_written _ o _ k w.in_ok-write_name_at-in-Name.ensures ∙ ap is (sym w.in-Name.is))
      | in-Susp+in_ok-write_variable_at-in-Susp w ↦ rw w.out-is
          (leaf_written _ o _ k w.in_ok-write_variable_at-in-Susp.ensures
          ∙ ap (λ p. o ++ (barred place (swaps_text by.names p (by.vars w.in-Susp.var)) ++ reverse k)) w.items.ensures ∙ ap is (sym w.in-Susp.is))
    ] in
    ap (λ out. waiting_text by out c.args.waiting.now.items) (c.in_ok-write_closers.ensures ∙ all)
