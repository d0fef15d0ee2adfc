use Rattle.std.proofs.Common.{ℕ, List, eqb, map, refl, sym, subst, ap, ap₂, ◌∙◌, arith, w32, w8}
use borrow.Rule.Simd.Lanes.{Asks1, act1}
use borrow.Table.Row.{s_int}
use lib.Lanes.{Each1, chunk, put_chunk, sel_l}
use mir.Syntax.{cast, unsigned}
use Rattle.std.specs.Prelude.{Bool, replicate}
use Rattle.std.proofs.lemmas.Simd.{length-chunk, tops_compared, zip2_splat}
use Rattle.ap_index.specs.Matching.{key_agrees}
use Rattle.ap_index.proofs.LaneLemmas.{ones_each, ones_kept, select_further, select_ones}
use Rattle.ap_index.proofs.blocks.match_block.Goals as goal

pub overflow_cast-out : goal.overflow_cast-out
overflow_cast-out c =
    let key = c.args.key in
    let v = chunk c.args.at 16 c.args.keys.now in
    let long = length-chunk c.args.at 16 c.args.keys.now c.requires.keys in
    let same = ap (λ ms. sel_l {A = ℕ} ms (replicate 16 1) (replicate 16 0)) (tops_compared w32 eqb v (replicate 16 key) ∙ zip2_splat eqb v 16 key long) ∙ select_ones (λ x. eqb x key) v 16 long in
    let is = ap₂ (λ (ms : List Bool) (ys : List ℕ). sel_l {A = ℕ} ms (replicate 16 1) ys) (tops_compared w32 eqb v (replicate 16 0) ∙ zip2_splat eqb v 16 0 long) same ∙ select_further (λ x. eqb x key) (λ x. eqb x 0) v 16 long in
    subst (λ (l : List ℕ). Each1 (Asks1 (cast unsigned unsigned w8) (s_int w32)) l) (sym is) (ones_each (Asks1 (cast unsigned unsigned w8) (s_int w32)) (record { fits = omega arith }) (record { fits = omega arith }) (key_agrees key) v)

pub returns : goal.returns
returns c =
    let key = c.args.key in
    let v = chunk c.args.at 16 c.args.keys.now in
    let long = length-chunk c.args.at 16 c.args.keys.now c.requires.keys in
    let same = ap (λ ms. sel_l {A = ℕ} ms (replicate 16 1) (replicate 16 0)) (tops_compared w32 eqb v (replicate 16 key) ∙ zip2_splat eqb v 16 key long) ∙ select_ones (λ x. eqb x key) v 16 long in
    let is = ap₂ (λ (ms : List Bool) (ys : List ℕ). sel_l {A = ℕ} ms (replicate 16 1) ys) (tops_compared w32 eqb v (replicate 16 0) ∙ zip2_splat eqb v 16 0 long) same ∙ select_further (λ x. eqb x key) (λ x. eqb x 0) v 16 long in
    let narrow = act1 (cast unsigned unsigned w8) (s_int w32) (s_int w8) in
    ap (λ (l : List ℕ). put_chunk c.args.at c.args.out.now (map narrow l)) is
    ∙ ap (put_chunk c.args.at c.args.out.now) (ones_kept narrow refl refl (key_agrees key) v)
