-- Words are equal where `==` says so.
use Rattle.std.proofs.Common.{◌≡◌, Bool, true, refl, ap, subst}
use Rattle.ap_bundle.specs.declared.words.Letter.{Letter}
use Rattle.ap_bundle.specs.declared.words.Letter.TheVariants as letter
use Rattle.ap_bundle.specs.declared.words.NodeWord.{NodeWord}
use Rattle.ap_bundle.specs.declared.words.NodeWord.TheVariants as node
use Rattle.ap_bundle.specs.declared.words.Head.{Head}
use Rattle.ap_bundle.specs.declared.words.Head.TheVariants as head
use Rattle.ap_bundle.specs.declared.words.Word.{Word}
use Rattle.ap_bundle.specs.declared.words.Word.TheVariants as word
use Rattle.ap_bundle.specs.contracts.words.LetterPartialEq.TheImpl as letters
use Rattle.ap_bundle.specs.contracts.words.NodeWordPartialEq.TheImpl as nodes
use Rattle.ap_bundle.specs.contracts.words.HeadPartialEq.TheImpl as heads
use Rattle.ap_bundle.specs.contracts.words.WordPartialEq.TheImpl as words
use Rattle.ap_bundle.proofs.SameLemmas.{one_number, own_number}

abbrev same_letter : Letter → Letter → Bool
same_letter a b = (letters.ghosts).eq a b

abbrev same_node : NodeWord → NodeWord → Bool
same_node a b = (nodes.ghosts).eq a b

abbrev same_head : Head → Head → Bool
same_head a b = (heads.ghosts).eq a b

abbrev pub same_word : Word → Word → Bool
same_word a b = (words.ghosts).eq a b

one_letter : (a b : Letter) → same_letter a b ≡ true → a ≡ b
one_letter letter.U letter.U h = refl
one_letter letter.N letter.N h = refl
one_letter letter.P letter.P h = refl
one_letter letter.A letter.A h = refl
one_letter letter.L letter.L h = refl
one_letter letter.S letter.S h = refl
one_letter letter.D letter.D h = refl
one_letter letter.B letter.B h = refl
one_letter a b h = cc

one_node : (a b : NodeWord) → same_node a b ≡ true → a ≡ b
one_node node.Atom node.Atom h = refl
one_node node.Eq node.Eq h = refl
one_node node.Fresh node.Fresh h = refl
one_node node.True node.True h = refl
one_node node.And node.And h = refl
one_node node.Left node.Left h = refl
one_node node.Right node.Right h = refl
one_node node.Exists node.Exists h = refl
one_node node.New node.New h = refl
one_node a b h = cc

one_head : (a b : Head) → same_head a b ≡ true → a ≡ b
one_head head.Text head.Text h = refl
one_head head.Terms head.Terms h = refl
one_head head.Derivations head.Derivations h = refl
one_head head.Derivation head.Derivation h = refl
one_head head.Vars head.Vars h = refl
one_head head.Conds head.Conds h = refl
one_head head.Binds head.Binds h = refl
one_head head.End head.End h = refl
one_head head.V head.V h = refl
one_head head.C head.C h = refl
one_head head.M head.M h = refl
one_head head.T head.T h = refl
one_head head.R head.R h = refl
one_head a b h = cc

own_letter : (a : Letter) → same_letter a a ≡ true
own_letter letter.U = refl
own_letter letter.N = refl
own_letter letter.P = refl
own_letter letter.A = refl
own_letter letter.L = refl
own_letter letter.S = refl
own_letter letter.D = refl
own_letter letter.B = refl

own_node : (a : NodeWord) → same_node a a ≡ true
own_node node.Atom = refl
own_node node.Eq = refl
own_node node.Fresh = refl
own_node node.True = refl
own_node node.And = refl
own_node node.Left = refl
own_node node.Right = refl
own_node node.Exists = refl
own_node node.New = refl

own_head : (a : Head) → same_head a a ≡ true
own_head head.Text = refl
own_head head.Terms = refl
own_head head.Derivations = refl
own_head head.Derivation = refl
own_head head.Vars = refl
own_head head.Conds = refl
own_head head.Binds = refl
own_head head.End = refl
own_head head.V = refl
own_head head.C = refl
own_head head.M = refl
own_head head.T = refl
own_head head.R = refl

one_word : (a b : Word) → same_word a b ≡ true → a ≡ b
one_word (word.Number m) (word.Number n) h = ap word.Number (one_number m n h)
one_word (word.Letter a) (word.Letter b) h = ap word.Letter (one_letter a b h)
one_word (word.Node a) (word.Node b) h = ap word.Node (one_node a b h)
one_word (word.Head a) (word.Head b) h = ap word.Head (one_head a b h)
one_word a b h = cc

own_word : (a : Word) → same_word a a ≡ true
own_word (word.Number m) = own_number m
own_word (word.Letter a) = own_letter a
own_word (word.Node a) = own_node a
own_word (word.Head a) = own_head a

pub word_decides : (a b : Word) → (same_word a b ≡ true → a ≡ b) × (a ≡ b → same_word a b ≡ true)
word_decides a b = (one_word a b, λ e. subst (λ c. same_word a c ≡ true) e (own_word a))
