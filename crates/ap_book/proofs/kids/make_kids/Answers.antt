use Rattle.std.proofs.Common.{rules, ◌≡◌, ◌∙◌, ◌∷◌, ◌++◌, [], refl, sym, ap, take, get_or, List, ℕ}
use Rattle.std.proofs.lemmas.List.{take_more}
use Rattle.ap_paths.specs.History.{kids_of}
use Rattle.ap_book.specs.Kept.{paths_of}
use Rattle.ap_book.proofs.Opening.{paths_both}
use Rattle.ap_book.proofs.kids.make_kids.Goals as goal

kids_of-last : (p ks : List ℕ) (k : ℕ) → kids_of p (ks ++ k ∷ []) ≡ kids_of p ks ++ (p ++ k ∷ []) ∷ []
kids_of-last p [] k = refl
kids_of-last p (j ∷ js) k = ap (λ l. (p ++ j ∷ []) ∷ l) (kids_of-last p js k)

pub loop-k-preserved : goal.loop-k-preserved
loop-k-preserved c =
    let p = c.args.path.now in
    let ks = c.args.kids.now in
    let i = c.loop-k.k-index in
    let made = c.in_ok-make_kid.field-0 in
    let grown : c.push.new.self.items ≡ c.loop-k.made.items ++ made ∷ [] = search rules in
    let kid : made.items ≡ p ++ get_or ks i 0 ∷ [] = search rules in
    ap paths_of grown ∙ paths_both c.loop-k.made.items (made ∷ []) ∙ ap (λ l. l ++ made.items ∷ []) c.loop-k.invariant ∙ ap (λ q. kids_of p (take i ks) ++ q ∷ []) kid
    ∙ sym (kids_of-last p (take i ks) (get_or ks i 0)) ∙ ap (kids_of p) (sym (take_more ks i 0 c.loop-k-test.true))
