use Rattle.std.proofs.Common.{[], ◌∷◌, ◌++◌, ◌∙◌, ap, refl, sym, lit<, arith, length, flat_map}
use Rattle.ap_defs.specs.Terms.{term_of}
use Rattle.ap_bundle.specs.Forms.{term_words, name_words, swap_words}
use Rattle.std.proofs.lemmas.List.{append-nil}
use Rattle.ap_bundle.specs.declared.words.Word.TheVariants as word
use Rattle.ap_bundle.specs.declared.words.Letter.TheVariants as letter
use Rattle.ap_bundle_write.proofs.Stacks.{later_one, later_two, kept_all, less_left, both_written}
use Rattle.ap_bundle_write.proofs.forms.push_term.Goals as goal

pub loop-next-preserved-in-Continue-branch-2 : goal.loop-next-preserved-in-Continue-branch-2
loop-next-preserved-in-Continue-branch-2 c =
    kept_all term_words term_of _ _ c.pop.new.self.items c.in-Some.next _ _ (word.Letter letter.U ∷ []) [] _ c.in-Some.ensures.items c.in_ok-push-in-Unit.ensures.items refl (ap (λ t. term_words (term_of t)) c.in-Unit.is) c.loop-next.invariant

pub loop-next-smaller-in-Continue-branch-2 : goal.loop-next-smaller-in-Continue-branch-2
loop-next-smaller-in-Continue-branch-2 c =
    less_left term_words term_of _ _ c.pop.new.self.items c.in-Some.next (word.Letter letter.U ∷ []) [] c.in-Some.ensures.items refl (ap (λ t. term_words (term_of t)) c.in-Unit.is) (lit< tt)

pub loop-next-preserved-in-Continue-branch-4 : goal.loop-next-preserved-in-Continue-branch-4
loop-next-preserved-in-Continue-branch-4 c =
    kept_all term_words term_of _ _ c.pop.new.self.items c.in-Some.next _ _ (word.Letter letter.N ∷ name_words c.in-Name.name) [] _ c.in-Some.ensures.items (both_written c.loop-next.words.items c.push-in-Name.new.self.items c.push_name.new.words.items (word.Letter letter.N ∷ []) (name_words c.in-Name.name) c.in_ok-push-in-Name.ensures.items c.in_ok-push_name-in-Name.ensures) refl (ap (λ t. term_words (term_of t)) c.in-Name.is) c.loop-next.invariant

pub loop-next-smaller-in-Continue-branch-4 : goal.loop-next-smaller-in-Continue-branch-4
loop-next-smaller-in-Continue-branch-4 c =
    less_left term_words term_of _ _ c.pop.new.self.items c.in-Some.next (word.Letter letter.N ∷ name_words c.in-Name.name) [] c.in-Some.ensures.items refl (ap (λ t. term_words (term_of t)) c.in-Name.is) (lit< tt)

pub loop-next-preserved-in-Continue-branch-7 : goal.loop-next-preserved-in-Continue-branch-7
loop-next-preserved-in-Continue-branch-7 c =
    let left = later_two term_words term_of c.push-in-Pair-3.new.self.items _ c.pop.new.self.items c.deref.result c.deref-in-Pair.result c.in_ok-push-in-Pair-2.ensures.items c.in_ok-push-in-Pair-3.ensures.items in
    let e = ap (λ t. term_words (term_of t)) c.in-Pair.is in
    kept_all term_words term_of _ _ c.push-in-Pair-3.new.self.items c.in-Some.next _ _ (word.Letter letter.P ∷ []) _ _ c.in-Some.ensures.items c.in_ok-push-in-Pair.ensures.items left (rw (c.deref.ensures, c.deref-in-Pair.ensures) e) c.loop-next.invariant

pub loop-next-smaller-in-Continue-branch-7 : goal.loop-next-smaller-in-Continue-branch-7
loop-next-smaller-in-Continue-branch-7 c =
    let left = later_two term_words term_of c.push-in-Pair-3.new.self.items _ c.pop.new.self.items c.deref.result c.deref-in-Pair.result c.in_ok-push-in-Pair-2.ensures.items c.in_ok-push-in-Pair-3.ensures.items in
    let e = ap (λ t. term_words (term_of t)) c.in-Pair.is in
    less_left term_words term_of _ _ c.push-in-Pair-3.new.self.items c.in-Some.next (word.Letter letter.P ∷ []) _ c.in-Some.ensures.items left (rw (c.deref.ensures, c.deref-in-Pair.ensures) e) (lit< tt)

pub loop-next-preserved-in-Continue-branch-10 : goal.loop-next-preserved-in-Continue-branch-10
loop-next-preserved-in-Continue-branch-10 c =
    let left = later_one term_words term_of c.push-in-App-3.new.self.items c.pop.new.self.items c.deref-in-App.result c.in_ok-push-in-App-3.ensures.items in
    let e = ap (λ t. term_words (term_of t)) c.in-App.is in
    kept_all term_words term_of _ _ c.push-in-App-3.new.self.items c.in-Some.next _ _ (word.Letter letter.A ∷ word.Number c.in-App.constructor ∷ []) _ _ c.in-Some.ensures.items (both_written c.loop-next.words.items c.push-in-App.new.self.items c.push-in-App-2.new.self.items (word.Letter letter.A ∷ []) (word.Number c.in-App.constructor ∷ []) c.in_ok-push-in-App.ensures.items (rw c.from.ensures at c.in_ok-push-in-App-2.ensures.items)) left (rw c.deref-in-App.ensures e) c.loop-next.invariant

pub loop-next-smaller-in-Continue-branch-10 : goal.loop-next-smaller-in-Continue-branch-10
loop-next-smaller-in-Continue-branch-10 c =
    let left = later_one term_words term_of c.push-in-App-3.new.self.items c.pop.new.self.items c.deref-in-App.result c.in_ok-push-in-App-3.ensures.items in
    let e = ap (λ t. term_words (term_of t)) c.in-App.is in
    less_left term_words term_of _ _ c.push-in-App-3.new.self.items c.in-Some.next (word.Letter letter.A ∷ word.Number c.in-App.constructor ∷ []) _ c.in-Some.ensures.items left (rw c.deref-in-App.ensures e) (lit< tt)

pub loop-next-preserved-in-Continue-branch-13 : goal.loop-next-preserved-in-Continue-branch-13
loop-next-preserved-in-Continue-branch-13 c =
    let left = later_one term_words term_of c.push-in-Abs-2.new.self.items c.pop.new.self.items c.deref-in-Abs.result c.in_ok-push-in-Abs-2.ensures.items in
    let e = ap (λ t. term_words (term_of t)) c.in-Abs.is in
    kept_all term_words term_of _ _ c.push-in-Abs-2.new.self.items c.in-Some.next _ _ (word.Letter letter.L ∷ name_words (record { sort = c.in-Abs.sort; num = c.in-Abs.num })) _ _ c.in-Some.ensures.items (both_written c.loop-next.words.items c.push-in-Abs.new.self.items c.push_name-in-Abs.new.words.items (word.Letter letter.L ∷ []) (name_words (record { sort = c.in-Abs.sort; num = c.in-Abs.num })) c.in_ok-push-in-Abs.ensures.items c.in_ok-push_name-in-Abs.ensures) left (rw c.deref-in-Abs.ensures e) c.loop-next.invariant

pub loop-next-smaller-in-Continue-branch-13 : goal.loop-next-smaller-in-Continue-branch-13
loop-next-smaller-in-Continue-branch-13 c =
    let left = later_one term_words term_of c.push-in-Abs-2.new.self.items c.pop.new.self.items c.deref-in-Abs.result c.in_ok-push-in-Abs-2.ensures.items in
    let e = ap (λ t. term_words (term_of t)) c.in-Abs.is in
    less_left term_words term_of _ _ c.push-in-Abs-2.new.self.items c.in-Some.next (word.Letter letter.L ∷ name_words (record { sort = c.in-Abs.sort; num = c.in-Abs.num })) _ c.in-Some.ensures.items left (rw c.deref-in-Abs.ensures e) (lit< tt)

pub loop-next-preserved : goal.loop-next-preserved
loop-next-preserved c =
    kept_all term_words term_of _ _ c.pop.new.self.items c.in-Some.next _ _ (word.Letter letter.S ∷ (word.Number (length c.in-Susp.swaps) ∷ (flat_map swap_words c.in-Susp.swaps ++ word.Number c.in-Susp.var.num ∷ []))) [] _ c.in-Some.ensures.items (both_written c.loop-next.words.items c.push-in-Susp.new.self.items c.push_susp.new.words.items (word.Letter letter.S ∷ []) (word.Number (length c.in-Susp.swaps) ∷ (flat_map swap_words c.in-Susp.swaps ++ word.Number c.in-Susp.var.num ∷ [])) c.in_ok-push-in-Susp.ensures.items (rw c.items.ensures at c.in_ok-push_susp-in-Susp.ensures)) refl (ap (λ t. term_words (term_of t)) c.in-Susp.is ∙ sym (append-nil (word.Letter letter.S ∷ (word.Number (length c.in-Susp.swaps) ∷ (flat_map swap_words c.in-Susp.swaps ++ word.Number c.in-Susp.var.num ∷ []))))) c.loop-next.invariant

pub loop-next-smaller : goal.loop-next-smaller
loop-next-smaller c =
    less_left term_words term_of _ _ c.pop.new.self.items c.in-Some.next (word.Letter letter.S ∷ (word.Number (length c.in-Susp.swaps) ∷ (flat_map swap_words c.in-Susp.swaps ++ word.Number c.in-Susp.var.num ∷ []))) [] c.in-Some.ensures.items refl (ap (λ t. term_words (term_of t)) c.in-Susp.is ∙ sym (append-nil (word.Letter letter.S ∷ (word.Number (length c.in-Susp.swaps) ∷ (flat_map swap_words c.in-Susp.swaps ++ word.Number c.in-Susp.var.num ∷ []))))) (omega arith)
