use Rattle.std.proofs.Common.{arith, rules}
use Rattle.std.specs.BTreeMap.{get}
use Rattle.ap_defs.specs.Permutations.{inverse}
use Rattle.ap_perm.specs.Images.{key_cmp}
use Rattle.ap_values.proofs.FlatLemmas.{all_origins, origins_told, told_none}
use Rattle.ap_values.proofs.flat.origin_table.Goals as goal

pub loop-m-init : goal.loop-m-init
loop-m-init c = λ p same. told_none (inverse p) (get key_cmp c.new-images.result) (λ k. search rules)

pub loop-m-preserved : goal.loop-m-preserved
loop-m-preserved c = λ p same.
    origins_told c.args.moved.now c.loop-m.m-index _ (get key_cmp c.loop-m.images) (get key_cmp c.insert.new.self) (omega arith) p same (c.loop-m.invariant p same) c.in_ok-insert.ensures.updates.0

pub returns : goal.returns
returns c = λ p same. all_origins c.args.moved.now c.loop-m.m-index (get key_cmp c.loop-m.images) (omega arith) p same (c.loop-m.invariant p same)
