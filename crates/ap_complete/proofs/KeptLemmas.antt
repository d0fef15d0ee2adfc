-- The program of items that keep the name restriction keeps it once its swappings are carried out.
use Rattle.std.proofs.Common.{List, [], ◌∷◌, ◌++◌, map}
use Rattle.ap_defs.specs.Goals.{ClauseOver, ProgramOver}
use Rattle.ap_defs.specs.RawTerms.{RawTerm}
use Rattle.ap_defs.specs.Types.{NominalConstructor}
use Rattle.ap_program.specs.CarryingOut.{carried_out, carried_out_program, map_clause}
use Rattle.ap_program.specs.NameRestriction.{AllPass, AreRestrictedClauses, AreRestrictedLists, RawItem, clause, items_of, items_of_lists, query}
use Rattle.ap_program.specs.Typed.{IsTypedProgram}
use Rattle.ap_complete.specs.Restriction.{KeepsRestriction}
use Rattle.ap_complete.specs.StatementsOnCompleteness.{KeptProgramsAreComplete}
use Rattle.ap_complete.proofs.CompletenessLemmas.{programs_complete}

pass_left : (cs : List NominalConstructor) (is js : List RawItem) → AllPass cs (is ++ js) → AllPass cs is
pass_left cs [] js h = tt
pass_left cs (i ∷ is) js h = (h.0, pass_left cs is js h.1)

pass_right : (cs : List NominalConstructor) (is js : List RawItem) → AllPass cs (is ++ js) → AllPass cs js
pass_right cs [] js h = h
pass_right cs (i ∷ is) js h = pass_right cs is js h.1

kept_clauses : (cs : List NominalConstructor) (list : List (ClauseOver RawTerm)) → AllPass cs (map clause list) → AreRestrictedClauses cs (map (map_clause carried_out) list)
kept_clauses cs [] h = tt
kept_clauses cs (c ∷ list) h = (h.0.1, kept_clauses cs list h.1)

kept_lists : (cs : List NominalConstructor) (lists : List (List (ClauseOver RawTerm))) → AllPass cs (items_of_lists lists) → AreRestrictedLists cs (map (map (map_clause carried_out)) lists)
kept_lists cs [] h = tt
kept_lists cs (list ∷ lists) h =
    (kept_clauses cs list (pass_left cs (map clause list) (items_of_lists lists) h), kept_lists cs lists (pass_right cs (map clause list) (items_of_lists lists) h))

pub kept_restriction : (p : ProgramOver RawTerm) → IsTypedProgram (carried_out_program p) → AllPass p.signature.constructors (items_of p) → KeepsRestriction (carried_out_program p)
kept_restriction p typed pass =
    let cs = p.signature.constructors in
    record { typed = typed; names = kept_lists cs p.clauses (pass_left cs (items_of_lists p.clauses) (map query p.queries) pass) }

pub kept_complete : KeptProgramsAreComplete
kept_complete p typed pass depth = programs_complete _ (kept_restriction p typed pass) depth
