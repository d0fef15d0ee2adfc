-- Terms as they are read, with each swapping carried out; and programs over them.
use Rattle.std.specs.Prelude.{[], ◌∷◌, map}
use Rattle.ap_defs.specs.declared.terms.Id.{Id}
use Rattle.ap_defs.specs.declared.terms.Id.TheVariants as ids
use Rattle.ap_defs.specs.Permutations.{swap_of}
use Rattle.ap_defs.specs.RawTerms as raw
use Rattle.ap_defs.specs.RawTerms.{RawTerm}
use Rattle.ap_defs.specs.Terms.{NominalTerm, unit, name, pair, app, abs, susp, act_term}
use Rattle.ap_defs.specs.Goals.{GoalOver, succeed, atom, equal, fresh, both, either, exists, new, ClauseOver, QueryOver, ProgramOver, NominalProgram}

-- an abstraction by a name; a variable is no binder, and is left out
abbrev pub abs_by : Id → NominalTerm → NominalTerm
abs_by (ids.Name a) t = abs a t
abs_by (ids.Var x) t = t

-- the swapping of two names acts; a variable is no place of one, and the swapping is left out
abbrev pub swapped_by : Id → Id → NominalTerm → NominalTerm
swapped_by (ids.Name a) (ids.Name b) t = act_term (swap_of a b ∷ []) t
swapped_by _ _ t = t

abbrev pub carried_out : RawTerm → NominalTerm
carried_out raw.unit = unit
carried_out (raw.name a) = name a
carried_out (raw.var x) = susp [] x
carried_out (raw.pair t u) = pair (carried_out t) (carried_out u)
carried_out (raw.app f t) = app f (carried_out t)
carried_out (raw.abs i t) = abs_by i (carried_out t)
carried_out (raw.swapped i j t) = swapped_by i j (carried_out t)

abbrev pub map_goal : {A T : Type 0} → (A → T) → GoalOver A → GoalOver T
map_goal f succeed = succeed
map_goal f (atom p ts) = atom p (map f ts)
map_goal f (equal t u) = equal (f t) (f u)
map_goal f (fresh t u) = fresh (f t) (f u)
map_goal f (both g h) = both (map_goal f g) (map_goal f h)
map_goal f (either g h) = either (map_goal f g) (map_goal f h)
map_goal f (exists x g) = exists x (map_goal f g)
map_goal f (new a g) = new a (map_goal f g)

abbrev pub map_clause : {A T : Type 0} → (A → T) → ClauseOver A → ClauseOver T
map_clause f c = record {
  item = c.item;
  line = c.line;
  pred = c.pred;
  args = map f c.args;
  body = map_goal f c.body;
  locals = c.locals;
}

abbrev pub map_query : {A T : Type 0} → (A → T) → QueryOver A → QueryOver T
map_query f q = record { item = q.item; line = q.line; goal = map_goal f q.goal; locals = q.locals }

abbrev pub map_program : {A T : Type 0} → (A → T) → ProgramOver A → ProgramOver T
map_program f p = record {
  signature = p.signature;
  clauses = map (map (map_clause f)) p.clauses;
  queries = map (map_query f) p.queries;
  words = p.words;
}

abbrev pub carried_out_program : ProgramOver RawTerm → NominalProgram
carried_out_program = map_program carried_out
