use Rattle.std.proofs.Common.{◌∙◌, List, length, refl, sym, ap, subst, arith, true≢false}
use Rattle.ap_kinds.specs.declared.read_types.TypeRead.{TypeRead}
use Rattle.ap_kinds.specs.ReadTypes.{AreFirstRead}
use Rattle.ap_program.specs.Typed.{AreInhabited}
use Rattle.ap_kinds.specs.Reading.{read_kinds}
use Rattle.ap_kinds.proofs.InhabitedLemmas.{kinds_inhabited, all_declared_in, some_undeclared_in}
use Rattle.ap_kinds.proofs.reading.read_inhabited.Goals as goal

pub returns-then-not-are_declared-clause-unread : goal.returns-then-not-are_declared-clause-unread
returns-then-not-are_declared-clause-unread c by sig ts d h =
    let n = length c.args.idents.now in
    let k = subst (λ (rs : List TypeRead). AreFirstRead by n ts rs) (sym c.as_slice-seen.ensures.value) h in
    some_undeclared_in by sig ts n d (c.are_declared.ensures.some c.if-not-are_declared.true by ts n k)

pub returns-then-not-are_closed-clause-unread : goal.returns-then-not-are_closed-clause-unread
returns-then-not-are_closed-clause-unread c by sig ts d h =
    let n = length c.args.idents.now in
    let k = subst (λ (rs : List TypeRead). AreFirstRead by n ts rs) (sym c.as_slice-seen.ensures.value) h in
    (all_declared_in by sig ts n d (c.are_declared.ensures.all c.if-not-are_declared.false by ts n k), c.are_closed.ensures.some c.if-not-are_closed.true by ts n k)

pub returns-then-not-are_inhabited-clause-unread : goal.returns-then-not-are_inhabited-clause-unread
returns-then-not-are_inhabited-clause-unread c by sig ts d h =
    let n = length c.args.idents.now in
    let k = subst (λ (rs : List TypeRead). AreFirstRead by n ts rs) (sym c.as_slice-seen.ensures.value) h in
    let ks = read_kinds ts 0 c.args.idents.now in (
      ks,
      record {
        declared = all_declared_in by sig ts n d (c.are_declared.ensures.all c.if-not-are_declared.false by ts n k);
        closed = c.are_closed.ensures.all c.if-not-are_closed.false by ts n k;
        read = refl;
      },
      λ i. true≢false (sym ((kinds_inhabited sig.constructors by.inhabitants.now d.inhabitants ks).1 i) ∙ sym (c.are_inhabited.ensures by ts k) ∙ c.if-not-are_inhabited.true),
    )

pub returns-clause-read : goal.returns-clause-read
returns-clause-read c by sig ts d h =
    let n = length c.args.idents.now in
    let k = subst (λ (rs : List TypeRead). AreFirstRead by n ts rs) (sym c.as_slice-seen.ensures.value) h in
    record {
      declared = all_declared_in by sig ts n d (c.are_declared.ensures.all c.if-not-are_declared.false by ts n k);
      closed = c.are_closed.ensures.all c.if-not-are_closed.false by ts n k;
      read = c.in_ok-kinds.ensures by ts h;
    }

pub returns-clause-inhabited : goal.returns-clause-inhabited
returns-clause-inhabited c by sig ts d h =
    let k = subst (λ (rs : List TypeRead). AreFirstRead by (length c.args.idents.now) ts rs) (sym c.as_slice-seen.ensures.value) h in
    let ks = read_kinds ts 0 c.args.idents.now in
    subst (AreInhabited sig.constructors) (sym (c.in_ok-kinds.ensures by ts h))
    ((kinds_inhabited sig.constructors by.inhabitants.now d.inhabitants ks).0 (sym (c.are_inhabited.ensures by ts k) ∙ c.if-not-are_inhabited.false))

pub are_inhabited-requires : goal.are_inhabited-requires
are_inhabited-requires c = let e = ap length c.as_slice-seen.ensures.value in omega (arith, e, c.requires)
