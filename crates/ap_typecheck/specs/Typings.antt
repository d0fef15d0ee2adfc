-- What a typing has of the items of a text so far.
use Rattle.std.specs.Prelude.{◌≡◌, List, length}
use Rattle.ap_trees.specs.Items.{ItemOf}
use Rattle.ap_scopes.specs.Words.{words_of}
use Rattle.ap_scopes.specs.Views.{words_in}
use Rattle.ap_typecheck.specs.declared.texts.Typing.{Typing}
use Rattle.ap_typecheck.specs.Declaring.{nothing_made}
use Rattle.ap_typecheck.specs.Checking.{MakesAll}
use Rattle.ap_typecheck.specs.Views.{AreTablesKept, made_of}

-- it has what these items make, their words, and how many they are
pub record IsTypingOf (is : List ItemOf) (t : Typing) : Type 0 where
  pub made : MakesAll nothing_made 1 is (made_of t.state)
  pub words : words_in t.words ≡ words_of is
  pub count : t.items ≡ length is
  pub kept : AreTablesKept t.state
