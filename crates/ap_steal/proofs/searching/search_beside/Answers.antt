use Rattle.std.proofs.Common.{rules, ◌≡◌, ◌∙◌, length, sym, subst, IfOk, vec_len}
use Rattle.ap_paths.specs.declared.limits.Limit.{Limit}
use Rattle.ap_paths.specs.Entries.{entries_of}
use Rattle.ap_paths.specs.Limits.{AreWithin}
use Rattle.ap_tools.specs.Seats.{book_id, seats_of, new_seats}
use Rattle.ap_steal.specs.declared.jobs.Job.{Job}
use Rattle.ap_tools.specs.Hands.{AreFreshTools}
use Rattle.ap_tools.proofs.Fresh.{turned_back}
use Rattle.ap_tools.proofs.Whole.{of_new}
use Rattle.ap_steal.proofs.searching.search_beside.Goals as goal

pub make_jobs-requires : goal.make_jobs-requires
make_jobs-requires g c =
    let book = c.in_ok-book.book in
    let is : c.in_ok-book.seats.items ≡ new_seats (book_id book) 0 c.args.workers = search rules in
    let n : length c.in_ok-book.seats.items ≡ c.args.workers = (of_new _ _ _ is).1 in
    let m : vec_len c.in_ok-tools.tools ≡ c.args.workers = search rules in
    let k : vec_len c.in_ok-book.seats ≡ length c.in_ok-book.seats.items = search rules in
    k ∙ n ∙ sym m

pub run_all-requires-clause-new : goal.run_all-requires-clause-new
run_all-requires-clause-new g c κs within =
    let book = c.in_ok-book.book in
    let is : c.in_ok-book.seats.items ≡ new_seats (book_id book) 0 c.args.workers = search rules in
    c.turned.ensures.new (book_id book) (c.in_ok-jobs.ensures.new (book_id book) (of_new _ _ _ is).0)

pub run_all-requires-clause-fresh : goal.run_all-requires-clause-fresh
run_all-requires-clause-fresh g c κs within =
    let back = turned_back (λ (j : Job g.row.W.Denot). j.tools) c.in_ok-tools.tools.items c.in_ok-jobs.jobs.items c.turned.result.items c.turned.ensures.order c.in_ok-jobs.ensures.tools in
    subst (AreFreshTools 0) (sym back) c.in_ok-tools.ensures.fresh

pub finish-requires-clause-all : goal.finish-requires-clause-all
finish-requires-clause-all g c κs within =
    let book = c.in_ok-book.book in
    let is : c.in_ok-book.seats.items ≡ new_seats (book_id book) 0 c.args.workers = search rules in
    let n : length c.in_ok-book.seats.items ≡ c.args.workers = (of_new _ _ _ is).1 in
    let k : vec_len c.in_ok-book.seats ≡ length c.in_ok-book.seats.items = search rules in
    let s : seats_of book ≡ c.args.workers = search rules in
    let a : vec_len c.in_ok-jobs.jobs ≡ vec_len c.in_ok-book.seats = search rules in
    let b : vec_len c.in_ok-seats.seats ≡ vec_len c.turned.result = search rules in
    b ∙ c.turned.ensures.len ∙ a ∙ k ∙ n ∙ sym s

pub returns-clause-within : goal.returns-clause-within
returns-clause-within g c = subst (λ (l : Limit). IfOk c.finish.result (λ x. AreWithin l (entries_of x.history))) c.in_ok-book.ensures.limit c.finish.ensures.within
