use Rattle.std.proofs.Common.{rules, arith, ◌≡◌, false, length}
use Rattle.ap_paths.specs.Entries.{entries_of}
use Rattle.ap_paths.specs.History.{has_stop}
use Rattle.ap_tools.specs.Seats.{book_id, book_limit, seats_of}
use Rattle.ap_tools.proofs.Whole.{one_by_one, are_of, planned_all, open_at_end, are_seats}
use Rattle.ap_tools.proofs.Sole.{ordered_whole}
use Rattle.ap_steal.proofs.run.finish.Goals as goal

pub close-requires : goal.close-requires
close-requires g c =
    let all = one_by_one (g.T.Tree.choices c.args.tree.now) (g.T.Tree.plan c.args.tree.now) (book_limit c.args.book) (book_id c.args.book) c.args.seats.items c.requires.ended in
    (are_of _ _ _ _ _ all, search rules)

pub returns-clause-legal : goal.returns-clause-legal
returns-clause-legal g c =
    let e = c.in_ok-closed.ensures in
    let all = one_by_one (g.T.Tree.choices c.args.tree.now) (g.T.Tree.plan c.args.tree.now) (book_limit c.args.book) (book_id c.args.book) c.args.seats.items c.requires.ended in
    let quiet : has_stop (entries_of c.in_ok-closed.closed.history) ≡ false = search rules in
    let n : length c.args.seats.items ≡ seats_of c.args.book = search rules in
    let p = c.args.book.some in
    (e.legal, quiet, open_at_end _ _ _ _ c.args.seats.items _ (omega arith) all e.logged e.legal quiet)

pub returns-clause-planned : goal.returns-clause-planned
returns-clause-planned g c =
    let e = c.in_ok-closed.ensures in
    let all = one_by_one (g.T.Tree.choices c.args.tree.now) (g.T.Tree.plan c.args.tree.now) (book_limit c.args.book) (book_id c.args.book) c.args.seats.items c.requires.ended in
    (planned_all _ _ _ _ (seats_of c.args.book) c.args.seats.items _ all e.logged e.makers).0

pub returns-clause-within : goal.returns-clause-within
returns-clause-within g c =
    let e = c.in_ok-closed.ensures in
    let all = one_by_one (g.T.Tree.choices c.args.tree.now) (g.T.Tree.plan c.args.tree.now) (book_limit c.args.book) (book_id c.args.book) c.args.seats.items c.requires.ended in
    (planned_all _ _ _ _ (seats_of c.args.book) c.args.seats.items _ all e.logged e.makers).1

pub returns-clause-seats : goal.returns-clause-seats
returns-clause-seats g c = let e = c.in_ok-closed.ensures in (e.logs, are_seats (seats_of c.args.book) c.args.seats.items _ e.makers)

pub returns-clause-order : goal.returns-clause-order
returns-clause-order g c s is zeroth one ordered =
    let e = c.in_ok-closed.ensures in
    let all = one_by_one (g.T.Tree.choices c.args.tree.now) (g.T.Tree.plan c.args.tree.now) (book_limit c.args.book) (book_id c.args.book) c.args.seats.items c.requires.ended in
    let quiet : has_stop (entries_of c.in_ok-closed.closed.history) ≡ false = search rules in
    ordered_whole _ _ _ _ (seats_of c.args.book) c.args.seats.items s _ all e.logged e.makers e.legal quiet is zeroth one ordered
