use Rattle.std.proofs.Common.{rules, arith}
use Rattle.std.proofs.lemmas.Bool.Decides.{nat_tests}
use Rattle.std.proofs.lemmas.List.Filters.{dedup_is}
use Rattle.std.proofs.lemmas.List.Sorted.{IsPermutation-trans, answers_always}
use Rattle.ap_defs.specs.Freshness.{cond_before}
use Rattle.ap_defs.specs.Permutations.{name_eq}
use Rattle.ap_perm.proofs.SortLemmas.{conds_rank, set_made}
use Rattle.ap_perm.proofs.sets.make_set.Goals as goal

pub returns : goal.returns
unfolding name_eq
returns c =
    set_made _ (λ x y. grind (arith, nat_tests)) _ _ _ (IsPermutation-trans _ _ _ c.turn_round.ensures c.sort_unstable_by.ensures.permutation)
    (c.sort_unstable_by.ensures.sorted cond_before conds_rank (answers_always _ _ _ (λ f a r q k. search rules)))
    (dedup_is _ _ _ c.dedup.ensures.filtered)
