use Rattle.std.proofs.Common.{[], ◌∷◌, ap, refl, lit<}
use Rattle.ap_defs.specs.Types.{type_of}
use Rattle.ap_bundle.specs.Forms.{type_words}
use Rattle.ap_bundle.specs.declared.words.Word.TheVariants as word
use Rattle.ap_bundle.specs.declared.words.Letter.TheVariants as letter
use Rattle.ap_bundle_write.proofs.Stacks.{later_one, later_two, kept_all, less_left, both_written}
use Rattle.ap_bundle_write.proofs.forms.push_type.Goals as goal

pub loop-next-preserved-in-Continue-branch-2 : goal.loop-next-preserved-in-Continue-branch-2
loop-next-preserved-in-Continue-branch-2 c =
    kept_all type_words type_of _ _ c.pop.new.self.items c.in-Some.next _ _ (word.Letter letter.U ∷ []) [] _ c.in-Some.ensures.items c.in_ok-push-in-Unit.ensures.items refl (ap (λ t. type_words (type_of t)) c.in-Unit.is) c.loop-next.invariant

pub loop-next-smaller-in-Continue-branch-2 : goal.loop-next-smaller-in-Continue-branch-2
loop-next-smaller-in-Continue-branch-2 c =
    less_left type_words type_of _ _ c.pop.new.self.items c.in-Some.next (word.Letter letter.U ∷ []) [] c.in-Some.ensures.items refl (ap (λ t. type_words (type_of t)) c.in-Unit.is) (lit< tt)

pub loop-next-preserved-in-Continue-branch-4 : goal.loop-next-preserved-in-Continue-branch-4
loop-next-preserved-in-Continue-branch-4 c =
    kept_all type_words type_of _ _ c.pop.new.self.items c.in-Some.next _ _ (word.Letter letter.N ∷ word.Number c.in-Names.sort ∷ []) [] _ c.in-Some.ensures.items (both_written c.loop-next.words.items c.push-in-Names.new.self.items c.push-in-Names-2.new.self.items (word.Letter letter.N ∷ []) (word.Number c.in-Names.sort ∷ []) c.in_ok-push-in-Names.ensures.items (rw c.from.ensures at c.in_ok-push-in-Names-2.ensures.items)) refl (ap (λ t. type_words (type_of t)) c.in-Names.is) c.loop-next.invariant

pub loop-next-smaller-in-Continue-branch-4 : goal.loop-next-smaller-in-Continue-branch-4
loop-next-smaller-in-Continue-branch-4 c =
    less_left type_words type_of _ _ c.pop.new.self.items c.in-Some.next (word.Letter letter.N ∷ word.Number c.in-Names.sort ∷ []) [] c.in-Some.ensures.items refl (ap (λ t. type_words (type_of t)) c.in-Names.is) (lit< tt)

pub loop-next-preserved-in-Continue-branch-6 : goal.loop-next-preserved-in-Continue-branch-6
loop-next-preserved-in-Continue-branch-6 c =
    kept_all type_words type_of _ _ c.pop.new.self.items c.in-Some.next _ _ (word.Letter letter.D ∷ word.Number c.in-Base.base ∷ []) [] _ c.in-Some.ensures.items (both_written c.loop-next.words.items c.push-in-Base.new.self.items c.push-in-Base-2.new.self.items (word.Letter letter.D ∷ []) (word.Number c.in-Base.base ∷ []) c.in_ok-push-in-Base.ensures.items (rw c.from-in-Base.ensures at c.in_ok-push-in-Base-2.ensures.items)) refl (ap (λ t. type_words (type_of t)) c.in-Base.is) c.loop-next.invariant

pub loop-next-smaller-in-Continue-branch-6 : goal.loop-next-smaller-in-Continue-branch-6
loop-next-smaller-in-Continue-branch-6 c =
    less_left type_words type_of _ _ c.pop.new.self.items c.in-Some.next (word.Letter letter.D ∷ word.Number c.in-Base.base ∷ []) [] c.in-Some.ensures.items refl (ap (λ t. type_words (type_of t)) c.in-Base.is) (lit< tt)

pub loop-next-preserved-in-Continue-branch-9 : goal.loop-next-preserved-in-Continue-branch-9
loop-next-preserved-in-Continue-branch-9 c =
    let left = later_two type_words type_of c.push-in-Pair-3.new.self.items _ c.pop.new.self.items c.deref.result c.deref-in-Pair.result c.in_ok-push-in-Pair-2.ensures.items c.in_ok-push-in-Pair-3.ensures.items in
    let e = ap (λ t. type_words (type_of t)) c.in-Pair.is in
    kept_all type_words type_of _ _ c.push-in-Pair-3.new.self.items c.in-Some.next _ _ (word.Letter letter.P ∷ []) _ _ c.in-Some.ensures.items c.in_ok-push-in-Pair.ensures.items left (rw (c.deref.ensures, c.deref-in-Pair.ensures) e) c.loop-next.invariant

pub loop-next-smaller-in-Continue-branch-9 : goal.loop-next-smaller-in-Continue-branch-9
loop-next-smaller-in-Continue-branch-9 c =
    let left = later_two type_words type_of c.push-in-Pair-3.new.self.items _ c.pop.new.self.items c.deref.result c.deref-in-Pair.result c.in_ok-push-in-Pair-2.ensures.items c.in_ok-push-in-Pair-3.ensures.items in
    let e = ap (λ t. type_words (type_of t)) c.in-Pair.is in
    less_left type_words type_of _ _ c.push-in-Pair-3.new.self.items c.in-Some.next (word.Letter letter.P ∷ []) _ c.in-Some.ensures.items left (rw (c.deref.ensures, c.deref-in-Pair.ensures) e) (lit< tt)

pub loop-next-preserved-in-Continue-branch-11 : goal.loop-next-preserved-in-Continue-branch-11
loop-next-preserved-in-Continue-branch-11 c =
    let left = later_one type_words type_of c.push-in-List-2.new.self.items c.pop.new.self.items c.deref-in-List.result c.in_ok-push-in-List-2.ensures.items in
    let e = ap (λ t. type_words (type_of t)) c.in-List.is in
    kept_all type_words type_of _ _ c.push-in-List-2.new.self.items c.in-Some.next _ _ (word.Letter letter.L ∷ []) _ _ c.in-Some.ensures.items c.in_ok-push-in-List.ensures.items left (rw c.deref-in-List.ensures e) c.loop-next.invariant

pub loop-next-smaller-in-Continue-branch-11 : goal.loop-next-smaller-in-Continue-branch-11
loop-next-smaller-in-Continue-branch-11 c =
    let left = later_one type_words type_of c.push-in-List-2.new.self.items c.pop.new.self.items c.deref-in-List.result c.in_ok-push-in-List-2.ensures.items in
    let e = ap (λ t. type_words (type_of t)) c.in-List.is in
    less_left type_words type_of _ _ c.push-in-List-2.new.self.items c.in-Some.next (word.Letter letter.L ∷ []) _ c.in-Some.ensures.items left (rw c.deref-in-List.ensures e) (lit< tt)

pub loop-next-preserved : goal.loop-next-preserved
loop-next-preserved c =
    let left = later_one type_words type_of c.push-in-Abs-3.new.self.items c.pop.new.self.items c.deref-in-Abs.result c.in_ok-push-in-Abs-3.ensures.items in
    let e = ap (λ t. type_words (type_of t)) c.in-Abs.is in
    kept_all type_words type_of _ _ c.push-in-Abs-3.new.self.items c.in-Some.next _ _ (word.Letter letter.B ∷ word.Number c.in-Abs.sort ∷ []) _ _ c.in-Some.ensures.items (both_written c.loop-next.words.items c.push-in-Abs.new.self.items c.push-in-Abs-2.new.self.items (word.Letter letter.B ∷ []) (word.Number c.in-Abs.sort ∷ []) c.in_ok-push-in-Abs.ensures.items (rw c.from-in-Abs.ensures at c.in_ok-push-in-Abs-2.ensures.items)) left (rw c.deref-in-Abs.ensures e) c.loop-next.invariant

pub loop-next-smaller : goal.loop-next-smaller
loop-next-smaller c =
    let left = later_one type_words type_of c.push-in-Abs-3.new.self.items c.pop.new.self.items c.deref-in-Abs.result c.in_ok-push-in-Abs-3.ensures.items in
    let e = ap (λ t. type_words (type_of t)) c.in-Abs.is in
    less_left type_words type_of _ _ c.push-in-Abs-3.new.self.items c.in-Some.next (word.Letter letter.B ∷ word.Number c.in-Abs.sort ∷ []) _ c.in-Some.ensures.items left (rw c.deref-in-Abs.ensures e) (lit< tt)
