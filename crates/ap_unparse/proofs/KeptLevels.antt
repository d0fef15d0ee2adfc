-- A term takes away what it adds to the levels, but for `\` since the last open bracket.
use Rattle.std.proofs.Common.{◌≡◌, Bool, true, false, ◌||◌, List, [], ◌∷◌, ◌++◌, length, refl, ap, ◌∙◌}
use Rattle.std.specs.Prelude.{nat_lt}
use Rattle.ap_trees.specs.Symbols.{Sym, Close, CloseList, Equal, Open}
use Rattle.ap_trees.specs.Terms.{Name, Term}
use Rattle.ap_trees.specs.TermGrammar.{IsId, an_ident, a_var, IsTerm, under, a_word, applied, a_variable, the_unit, grouped, the_nil, listed, swapping, IsEnd, no_bar, behind_bar, AreTerms, only_one, and_more}
use Rattle.ap_syntax.specs.declared.nesting.Level.{Level}
use Rattle.ap_syntax.specs.declared.nesting.Level.TheVariants.{Round, Square, Under}
use Rattle.ap_syntax.specs.Nesting.{to_bracket, closed, nesting_step, next_levels, most_levels, passes, is_too_deep}

-- the levels after symbols
abbrev pub after : List Level → List Sym → List Level
after levels [] = levels
after levels (t ∷ ts) = after (next_levels levels (nesting_step t)) ts

or_assoc : (a b c : Bool) → a || (b || c) ≡ (a || b) || c
or_assoc true b c = refl
or_assoc false b c = refl

pub passes-append : (levels : List Level) (ts us : List Sym) → passes levels (ts ++ us) ≡ passes levels ts || passes (after levels ts) us
unfolding passes
passes-append levels [] us = refl
passes-append levels (t ∷ ts) us =
    let next = next_levels levels (nesting_step t) in
    ap (λ b. nat_lt most_levels (length next) || b) (passes-append next ts us) ∙ or_assoc (nat_lt most_levels (length next)) (passes next ts) (passes (after next ts) us)

to_bracket-twice : (levels : List Level) → to_bracket (to_bracket levels) ≡ to_bracket levels
to_bracket-twice [] = refl
to_bracket-twice (Round ∷ levels) = refl
to_bracket-twice (Square ∷ levels) = refl
to_bracket-twice (Under ∷ levels) = to_bracket-twice levels

-- where the rest begins, the brackets that are open are those from before
record Kept (levels : List Level) (ts rest : List Sym) : Type 0 where
  there : List Level
  same : to_bracket there ≡ to_bracket levels
  goes : after levels ts ≡ after there rest

id_kept : {ts rest : List Sym} {name : Name} (levels : List Level) → IsId ts name rest → after levels ts ≡ after levels rest
id_kept levels an_ident = refl
id_kept levels a_var = refl

close_round : (levels there : List Level) (ts : List Sym) → to_bracket there ≡ Round ∷ levels → after there (Close ∷ ts) ≡ after levels ts
close_round levels there ts e = ap (λ ls. after (closed Round ls there) ts) e

close_square : (levels there : List Level) (ts : List Sym) → to_bracket there ≡ Square ∷ levels → after there (CloseList ∷ ts) ≡ after levels ts
close_square levels there ts e = ap (λ ls. after (closed Square ls there) ts) e

mutual
  term_kept : {ts rest : List Sym} {t : Term} (levels : List Level) → IsTerm ts t rest → Kept levels ts rest
  term_kept levels (under name h) = let body = term_kept (Under ∷ levels) h in record { there = body.there; same = body.same; goes = id_kept levels name ∙ body.goes }
  term_kept levels a_word = record { there = levels; same = refl; goes = refl }
  term_kept {rest = rest} levels (applied parts h) = let inside = terms_kept (Round ∷ levels) h in record { there = levels; same = refl; goes = inside.goes ∙ close_round levels inside.there rest inside.same }
  term_kept levels a_variable = record { there = levels; same = refl; goes = refl }
  term_kept levels the_unit = record { there = levels; same = refl; goes = refl }
  term_kept {rest = rest} levels (grouped parts h) = let inside = terms_kept (Round ∷ levels) h in record { there = levels; same = refl; goes = inside.goes ∙ close_round levels inside.there rest inside.same }
  term_kept levels the_nil = record { there = levels; same = refl; goes = refl }
  term_kept {rest = rest} levels (listed parts end h e) =
      let inside = terms_kept (Square ∷ levels) h in
      let last = end_kept inside.there e in
      record { there = levels; same = refl; goes = inside.goes ∙ last.goes ∙ close_square levels last.there rest (last.same ∙ inside.same) }
  term_kept {rest = rest} levels (swapping left right h) =
      let inside = term_kept (Round ∷ levels) h in
      record { there = levels; same = refl; goes = id_kept (Round ∷ levels) left ∙ id_kept (Round ∷ levels) right ∙ inside.goes ∙ close_round levels inside.there rest inside.same }

  end_kept : {ts rest : List Sym} {t : Term} (levels : List Level) → IsEnd ts t rest → Kept levels ts rest
  end_kept levels no_bar = record { there = levels; same = refl; goes = refl }
  end_kept levels (behind_bar h) = let last = term_kept (to_bracket levels) h in record { there = last.there; same = last.same ∙ to_bracket-twice levels; goes = last.goes }

  terms_kept : {ts rest : List Sym} {all : List Term} (levels : List Level) → AreTerms ts all rest → Kept levels ts rest
  terms_kept levels (only_one h) = term_kept levels h
  terms_kept levels (and_more h more) =
      let first = term_kept levels h in
      let others = terms_kept (to_bracket first.there) more in
      record { there = others.there; same = others.same ∙ to_bracket-twice first.there ∙ first.same; goes = first.goes ∙ others.goes }

-- an equation with the unit is no deeper than its left side
pub equation_shallow : {ts : List Sym} {t : Term} → IsTerm ts t [] → is_too_deep ts ≡ false → is_too_deep (ts ++ Equal ∷ Open ∷ Close ∷ []) ≡ false
unfolding passes
equation_shallow {ts} h shallow =
    let kept = term_kept [] h in
    let sides = passes-append [] ts (Equal ∷ Open ∷ Close ∷ []) in
    let left = ap (λ b. b || passes (after [] ts) (Equal ∷ Open ∷ Close ∷ [])) shallow in
    let there = ap (λ levels. passes levels (Equal ∷ Open ∷ Close ∷ [])) kept.goes in
    let right : passes kept.there (Equal ∷ Open ∷ Close ∷ []) ≡ false = ap (λ levels. nat_lt most_levels (length levels) || passes levels (Open ∷ Close ∷ [])) kept.same in
    sides ∙ left ∙ there ∙ right
