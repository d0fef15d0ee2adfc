-- One step of reading a goal: what is read of it where its parts are.
use Rattle.std.proofs.Common.{◌≡◌, ℕ, List, None, Some, refl}
use Rattle.ap_trees.specs.Goals.{Goal, Some_variable, New_name}
use Rattle.ap_trees.specs.Readers.{SymbolReader}
use Rattle.ap_trees.specs.Symbols.{Sym}
use Rattle.ap_syntax.specs.Marks.{after_new, after_exists, opened_ident, opened_variable}
use Rattle.ap_syntax.specs.Matching.{after_group}
use Rattle.ap_syntax.specs.GoalReader.{read_flat, goal_inside, new_goal, exists_goal, read_simple}

module _ (read : SymbolReader Goal) where
  pub simple_new : (ts us : List Sym) → after_new ts ≡ Some us → read_simple read ts ≡ new_goal read us
  unfolding read_simple
  simple_new ts us mark = rw mark refl

  pub simple_exists : (ts us : List Sym) → after_new ts ≡ None → after_exists ts ≡ Some us → read_simple read ts ≡ exists_goal read us
  unfolding read_simple
  simple_exists ts us new mark = rw (new, mark) refl

  pub simple_inside : (ts us : List Sym) → after_new ts ≡ None → after_exists ts ≡ None → after_group ts ≡ Some us → read_simple read ts ≡ goal_inside read us
  unfolding read_simple
  simple_inside ts us new exists mark = rw (new, exists, mark) refl

  pub simple_flat : (ts : List Sym) → after_new ts ≡ None → after_exists ts ≡ None → after_group ts ≡ None → read_simple read ts ≡ read_flat ts
  unfolding read_simple
  simple_flat ts new exists group = rw (new, exists, group) refl

  pub inside_fails : (ts : List Sym) → read ts ≡ None → goal_inside read ts ≡ None
  unfolding goal_inside
  inside_fails ts got = rw got refl

  pub new_fails : (ts us : List Sym) (w : List ℕ) → opened_ident ts ≡ Some (w, us) → goal_inside read us ≡ None → new_goal read ts ≡ None
  unfolding new_goal
  new_fails ts us w word got = rw (word, got) refl

  pub new_gives : (ts us rest : List Sym) (w : List ℕ) (g : Goal) → opened_ident ts ≡ Some (w, us) → goal_inside read us ≡ Some (g, rest) → new_goal read ts ≡ Some (New_name w g, rest)
  unfolding new_goal
  new_gives ts us rest w g word got = rw (word, got) refl

  pub exists_fails : (ts us : List Sym) (w : List ℕ) → opened_variable ts ≡ Some (w, us) → goal_inside read us ≡ None → exists_goal read ts ≡ None
  unfolding exists_goal
  exists_fails ts us w word got = rw (word, got) refl

  pub exists_gives : (ts us rest : List Sym) (w : List ℕ) (g : Goal) → opened_variable ts ≡ Some (w, us) → goal_inside read us ≡ Some (g, rest) → exists_goal read ts ≡ Some (Some_variable w g, rest)
  unfolding exists_goal
  exists_gives ts us rest w g word got = rw (word, got) refl
