-- Properties: queries that are conjunctions. A hypothesis and a conclusion, for all terms of the types of the free variables.
use Rattle.std.specs.Prelude.{Bool, true, false}
use Rattle.ap_defs.specs.Goals.{NominalGoal, NominalQuery, both}

-- the goal is a conjunction
abbrev pub is_property : NominalGoal → Bool
is_property (both g h) = true
is_property _ = false

-- the conclusion: the last conjunct on the right
abbrev pub conclusion : NominalGoal → NominalGoal
conclusion (both g h) = conclusion h
conclusion g = g

-- the conjunction of a goal and those conjuncts of another one that come before its conclusion
abbrev pub before_conclusion : NominalGoal → NominalGoal → NominalGoal
before_conclusion g (both h k) = both g (before_conclusion h k)
before_conclusion g h = g

-- the hypothesis: the conjunction of the others, in order
abbrev pub hypothesis : NominalGoal → NominalGoal
hypothesis (both g h) = before_conclusion g h
hypothesis g = g

-- the queries of the two
abbrev pub hypothesis_query : NominalQuery → NominalQuery
hypothesis_query q = record q { goal = hypothesis q.goal }

abbrev pub conclusion_query : NominalQuery → NominalQuery
conclusion_query q = record q { goal = conclusion q.goal }
