-- What names an option.
use Rattle.std.proofs.Common.{◌≡◌, ◌≢◌, ◌++◌, refl, sym, false, ⊎_elim, ℕ, List, [], ◌∷◌, None, codes}
use Rattle.std.proofs.lemmas.Bool.{cases_Bool}
use Rattle.std.proofs.lemmas.Slice.Eq.{bytes_eq-Decides}
use Rattle.std.specs.Str.{bytes_eq}
use Rattle.ap_words.specs.declared.table.OptionName.{OptionName}
use Rattle.ap_words.specs.Table.{option_name}
use Rattle.ap_words.specs.Words.{option_of}

differs : (text word : List ℕ) → word ≢ text → bytes_eq text word ≡ false
differs text word h = ⊎_elim (λ e. absurd (h (sym ((bytes_eq-Decides text word).0 e)))) (λ e. e) (cases_Bool (bytes_eq text word))

-- a word that does not begin with `--` names none
pub unnamed : (options : List OptionName) (word : List ℕ) → ((rest : List ℕ) → word ≢ codes "--" ++ rest) → None ≡ option_of options word
unnamed [] word h = refl
unnamed (o ∷ os) word h = rw (differs (codes "--" ++ option_name o) word (h (option_name o))) (unnamed os word h)
