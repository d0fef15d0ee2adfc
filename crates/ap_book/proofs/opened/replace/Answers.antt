use Rattle.std.proofs.Common.{arith}
use Rattle.ap_paths.specs.Weights.{is_it}
use Rattle.ap_book.proofs.opened.replace.Goals as goal

pub add_all-requires-clause-room : goal.add_all-requires-clause-room
add_all-requires-clause-room c = let a = c.requires.room in let b = c.take_out-taken.ensures.room in omega arith

pub add_all-requires-clause-once : goal.add_all-requires-clause-once
add_all-requires-clause-once c = λ q. let a = c.requires.once q in let b = c.take_out-taken.ensures.taken (is_it q) in omega arith

pub returns-clause-replaced : goal.returns-clause-replaced
returns-clause-replaced c = λ h. let a = c.take_out-taken.ensures.taken h in let b = c.add_all.ensures h in omega arith
