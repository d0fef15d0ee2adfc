-- What is found among the identifiers that are left is found among all.
use Rattle.std.proofs.Common.{◌≡◌, map}
use Rattle.std.specs.Prelude.{Option}
use Rattle.ap_defs.specs.declared.terms.Name.{Name}
use Rattle.ap_defs.specs.Terms.{term_of}
use Rattle.ap_defs.specs.Types.{constructor_of, locals_of}
use Rattle.ap_defs.specs.Goals.{goal_of}
use Rattle.ap_defs.specs.Renaming.{local_names}
use Rattle.ap_restrict.specs.Heads.{IsFirstUnfresh, clause_of_head}
use Rattle.ap_restrict.proofs.NameLemmas.{names_from}
use Rattle.ap_restrict.proofs.heads.first_not_fresh.Given as goal

abbrev pub invariant-loop-local : goal.invariant-loop-local
invariant-loop-local l =
    let cs = map constructor_of l.setting.sig.now.constructors in
    let clause = clause_of_head (map term_of l.head.args.now) (goal_of l.head.body.now) (locals_of l.head.locals.now) in
    record {
      count : l.num ≡ l.local-index;
      rest : (o : Option Name) → IsFirstUnfresh cs clause (names_from l.local-index l.head.locals.now) o → IsFirstUnfresh cs clause (local_names 0 (locals_of l.head.locals.now)) o;
    }
