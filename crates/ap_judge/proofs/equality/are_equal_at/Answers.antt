use Rattle.std.proofs.Common.{◌++◌, [], ◌∷◌, length, sym, ap, ◌∙◌, subst}
use Rattle.std.proofs.lemmas.List.Elements.{All-nil, All-same}
use Rattle.std.proofs.lemmas.Result.{IfOk-weaker}
use Rattle.ap_judge.specs.declared.binders.Binders.{Binders}
use Rattle.ap_judge.specs.declared.equality.Compared.{Compared}
use Rattle.ap_judge.specs.Binders.{AreBinders}
use Rattle.ap_judge.specs.Comparisons.{are_alike, mark_of}
use Rattle.ap_judge.specs.Tables.{IsComparedIn}
use Rattle.ap_judge.proofs.StackLemmas.{first_waits, first_within}
use Rattle.ap_judge.proofs.equality.are_equal_at.Goals as goal

pub are_all_equal-requires : goal.are_all_equal-requires
are_all_equal-requires c =
    let ds = c.args.answer.now.conds in
    let ts = c.args.terms.now in
    let first : Compared = record { left = c.args.t; right = c.args.u; mark = length c.new.result.pairs.items } in
    record {
      within =
          first_within mark_of (are_alike ds) first c.put.new.self.binders.pairs.items c.put.new.self.pending.items (ap length c.new.ensures.none)
          (c.in_ok-put.ensures.pending ∙ ap (λ zs. zs ++ first ∷ []) c.new-2.ensures.items);
      found = subst AreBinders (sym c.put.ensures.binders) c.new.ensures.found;
      of = c.in_ok-put.ensures.of ts c.requires.left c.requires.right (All-same (IsComparedIn ts) c.new-2.result.items [] c.new-2.ensures.items (All-nil (IsComparedIn ts)));
    }

pub returns : goal.returns
returns c =
    let ds = c.args.answer.now.conds in
    let first : Compared = record { left = c.args.t; right = c.args.u; mark = length c.new.result.pairs.items } in
    IfOk-weaker c.are_all_equal.result _ _
    (λ yes h. h ∙ first_waits mark_of (are_alike ds) first c.put.new.self.binders.pairs.items c.put.new.self.pending.items (ap length c.new.ensures.none)
    (c.in_ok-put.ensures.pending ∙ ap (λ zs. zs ++ first ∷ []) c.new-2.ensures.items) (ap (λ (z : Binders). z.pairs.items) c.put.ensures.binders ∙ c.new.ensures.none)) c.are_all_equal.ensures
