-- The lines that are written of proofs.
use Rattle.std.specs.Prelude.{ℕ, List, [], ◌∷◌, ◌++◌, Option, None, Some, codes, flat_map}
use Rattle.std.specs.Fmt.{decimal}
use Rattle.ap_cover.specs.Covers.{NominalCover, answer, stuck}
use Rattle.ap_covering.specs.declared.uncovered.Reason.{Reason}
use Rattle.ap_covering.specs.declared.uncovered.Reason.TheVariants.{NotGround, TooHigh}
use Rattle.ap_covering.specs.declared.uncovered.Uncovered.{Uncovered}

-- a choice behind the first one
abbrev pub dotted : ℕ → List ℕ
dotted k = codes "." ++ decimal k

-- a path with dots
abbrev pub path_text : List ℕ → List ℕ
path_text [] = codes "-"
path_text (k ∷ ks) = decimal k ++ flat_map dotted ks

-- the line of the proof with this number, by the answer or the stuck branch with this place of the query with this number
abbrev pub answer_head : ℕ → ℕ → ℕ → List ℕ
answer_head n place query =
    codes "% proof " ++ (decimal n ++ (codes ": answer " ++ (decimal place ++ (codes " of query " ++ (decimal query ++ codes ", path ")))))

abbrev pub stuck_head : ℕ → ℕ → ℕ → List ℕ
stuck_head n place query =
    codes "% proof " ++ (decimal n ++ (codes ": stuck " ++ (decimal place ++ (codes " of query " ++ (decimal query ++ codes ", path ")))))

abbrev pub path_line : List ℕ → List ℕ → List ℕ
path_line head path = head ++ (path_text path ++ codes "\n")

-- what covers it; nothing where nothing does
abbrev pub cover_line : ℕ → ℕ → Option NominalCover → List ℕ
cover_line n query None = []
cover_line n query (Some (answer place path)) = path_line (answer_head n place query) path
cover_line n query (Some (stuck place path)) = path_line (stuck_head n place query) path

abbrev pub reason_text : Reason → List ℕ
reason_text NotGround = codes "not ground"
reason_text TooHigh = codes "too high"

-- the line of a proof that is not to be covered
abbrev pub uncovered_line : Uncovered → List ℕ
uncovered_line u = codes "% proof " ++ (decimal u.number ++ (codes ": " ++ (reason_text u.reason ++ codes "\n")))
