use Rattle.std.proofs.Common.{◌≡◌, ◌<◌, ◌+◌, ◌++◌, ◌∙◌, length, get_or, map, drop, sym, subst, arith}
use Rattle.std.proofs.lemmas.Iterator.Adapters.{YieldsList-from_vec}
use Rattle.std.proofs.lemmas.Iterator.Consumers.{YieldsList-turn, YieldsList-end}
use Rattle.std.proofs.lemmas.List.{length_push}
use Rattle.ap_defs.specs.Types.{kind_of}
use Rattle.ap_types.specs.Solving.{shape_at}
use Rattle.ap_kinds.specs.declared.kinds.IdentKind.TheVariants as classes
use Rattle.ap_kinds.specs.Reading.{read_kind, read_kinds}
use Rattle.ap_kinds.specs.ReadTypes.{marks_of}
use Rattle.ap_kinds.proofs.InhabitedLemmas.{one_more, all_kinds}
use Rattle.ap_kinds.proofs.PlaceLemmas.{read_index, push_length}
use Rattle.ap_kinds.proofs.reading.read_kinds.Goals as goal

pub bounds-idents-i : goal.bounds-idents-i
bounds-idents-i c =
    let t = YieldsList-turn (YieldsList-from_vec {s = c.into_iter-read-iterator.result} c.args.reads.items c.into_iter-read-iterator.ensures.into_iter_gives.0 (c.into_iter-read-iterator.ensures.into_iter_gives.1 ∙ c.args.reads.ok.0)) c.loop-read.yielded c.loop-read.read-iterator c.loop-read.yielded_by c.next.result c.next.new.self c.in-Some.read c.in-Some.is c.next.ensures.steps in
    omega (arith, t.0, c.requires, c.loop-read.invariant.at, c.len-i.ensures)

pub loop-read-preserved : goal.loop-read-preserved
loop-read-preserved c =
    let t = YieldsList-turn (YieldsList-from_vec {s = c.into_iter-read-iterator.result} c.args.reads.items c.into_iter-read-iterator.ensures.into_iter_gives.0 (c.into_iter-read-iterator.ensures.into_iter_gives.1 ∙ c.args.reads.ok.0)) c.loop-read.yielded c.loop-read.read-iterator c.loop-read.yielded_by c.next.result c.next.new.self c.in-Some.read c.in-Some.is c.next.ensures.steps in
    let kinds = c.loop-read.kinds.items in
    let new = c.push.new.self.items in
    let idents = c.args.idents.now in
    let i = length kinds in
    let at = c.loop-read.invariant.at in
    let here : i < length idents = omega (arith, t.0, c.requires, at) in
    let there : i < length c.args.reads.items = omega (arith, t.0, at) in
    let is : c.in-Some.read ≡ get_or c.args.reads.items i c.in-Some.read = subst (λ n. c.in-Some.read ≡ get_or c.args.reads.items n c.in-Some.read) (sym at) t.1 in
    let long : length new ≡ i + 1 = push_length kinds new c.kind_of_read-kind.result c.in_ok-push.ensures.items in
    record {
      at = let p = length_push c.loop-read.yielded c.in-Some.read in omega (arith, p, at, long);
      done = λ by ts h.
          let read = read_index by (shape_at ts i) c.args.reads.items i c.in-Some.read there is (h.each i here) in
          let made = c.kind_of_read-kind.ensures by.name_types by.data_types (marks_of by) (shape_at ts i) read in
          let kind = subst (λ n. kind_of c.kind_of_read-kind.result ≡ read_kind (get_or idents n classes.Name) (shape_at ts i)) (c.len-i.ensures ∙ c.loop-read.kinds.ok.0) made in
          let one = one_more ts idents i kinds new c.kind_of_read-kind.result here kind c.in_ok-push.ensures.items in
          subst (λ n. map kind_of new ++ read_kinds ts n (drop n idents) ≡ read_kinds ts 0 idents) (sym long) (one ∙ c.loop-read.invariant.done by ts h);
    }

pub returns : goal.returns
returns c by ts h =
    let e = YieldsList-end (YieldsList-from_vec {s = c.into_iter-read-iterator.result} c.args.reads.items c.into_iter-read-iterator.ensures.into_iter_gives.0 (c.into_iter-read-iterator.ensures.into_iter_gives.1 ∙ c.args.reads.ok.0)) c.loop-read.yielded c.loop-read.read-iterator c.loop-read.yielded_by c.next.result c.next.new.self c.in-None.is c.next.ensures.steps in
    let kinds = c.loop-read.kinds.items in
    sym (all_kinds ts c.args.idents.now (length kinds) kinds (omega (arith, e.1, c.requires, c.loop-read.invariant.at))) ∙ c.loop-read.invariant.done by ts h
