use Rattle.std.proofs.Common.{IfOk, subst}
use Rattle.ap_paths.specs.declared.limits.Limit.{Limit}
use Rattle.ap_paths.specs.Entries.{entries_of}
use Rattle.ap_paths.specs.Limits.{AreWithin}
use Rattle.ap_steal.proofs.searching.search_alone.Goals as goal

pub returns-clause-within : goal.returns-clause-within
returns-clause-within g c = subst (λ (l : Limit). IfOk c.finish.result (λ x. AreWithin l (entries_of x.history))) c.in_ok-book.ensures.limit c.finish.ensures.within
