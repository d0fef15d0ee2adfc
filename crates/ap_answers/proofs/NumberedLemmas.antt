-- Words that are no letter with a number.
use Rattle.std.proofs.Common.{◌≡◌, ◌∙◌, ◌<◌, ◌≤◌, ◌+◌, ◌^◌, ◌&&◌, ℕ, zero, suc, Bool, true, false, List, [], ◌∷◌, ◌++◌, length, drop, get_or, nat_eq, refl, sym, ap, subst, arith, add-one, drop-cons}
use Rattle.std.specs.Fmt.{decimal}
use Rattle.std.specs.Str.{bytes_eq}
use Rattle.std.proofs.lemmas.Fmt.{decimal_nonempty}
use Rattle.ap_answers.specs.Words.{NoneNumbered}

none_of_both : (b : Bool) → (b && false) ≡ false
none_of_both true = refl
none_of_both false = refl

unlike_longer : (letter word digits : List ℕ) → 0 < length digits → length word ≤ length letter → bytes_eq (letter ++ digits) word ≡ false
unlike_longer [] [] [] h l = absurd (omega arith)
unlike_longer [] [] (x ∷ xs) h l = refl
unlike_longer [] (w ∷ ws) digits h l = absurd (omega arith)
unlike_longer (c ∷ cs) [] digits h l = refl
unlike_longer (c ∷ cs) (w ∷ ws) digits h l = rw (unlike_longer cs ws digits h (omega arith)) (none_of_both (nat_eq c w))

-- a word that is no longer than the letter
pub unlike_short : (letter word : List ℕ) (n : ℕ) → length word ≤ length letter → n < 2 ^ 64 → bytes_eq (letter ++ decimal n) word ≡ false
unlike_short letter word n l m = unlike_longer letter word (decimal n) (decimal_nonempty n m) l

none_first : (letter word : List ℕ) (words : List (List ℕ)) → ((n : ℕ) → n < 2 ^ 64 → bytes_eq (letter ++ decimal n) word ≡ false) → NoneNumbered letter words → NoneNumbered letter (word ∷ words)
none_first letter word words own rest n m = rw (own n m) (rest n m)

-- one word more was looked at
pub none_next : (letter : List ℕ) (words : List (List ℕ)) (i : ℕ) (word : List ℕ) → i < length words → word ≡ get_or words i word → ((n : ℕ) → n < 2 ^ 64 → bytes_eq (letter ++ decimal n) word ≡ false)
    → (NoneNumbered letter (drop i words) → NoneNumbered letter words) → NoneNumbered letter (drop (i + 1) words) → NoneNumbered letter words
none_next letter words i word h e own all rest =
    let front : drop i words ≡ word ∷ drop (suc i) words = drop-cons words i word h ∙ ap (λ (w : List ℕ). w ∷ drop (suc i) words) (sym e) in
    all (subst (NoneNumbered letter) (sym front) (none_first letter word (drop (suc i) words) own (subst (λ n. NoneNumbered letter (drop n words)) (add-one i) rest)))

-- none is left to look at
pub none_left : (letter : List ℕ) (words : List (List ℕ)) (i : ℕ) → length words ≤ i → NoneNumbered letter (drop i words)
none_left letter [] zero l n m = refl
none_left letter [] (suc i) l n m = refl
none_left letter (w ∷ ws) zero l n m = absurd (omega arith)
none_left letter (w ∷ ws) (suc i) l n m = none_left letter ws i (omega arith) n m
