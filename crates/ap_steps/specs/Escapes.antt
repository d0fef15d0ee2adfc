-- What bytes become where a format has marks of its own.
use Rattle.std.specs.Prelude.{ℕ, ◌==◌, if◌then◌else◌, List, [], ◌∷◌, codes}
use Rattle.std.specs.List.{flat_map}

-- what stands in place of a byte, or the byte itself where nothing does
abbrev pub in_place_of : List ℕ → ℕ → List ℕ
in_place_of [] b = b ∷ []
in_place_of (c ∷ cs) b = c ∷ cs

-- in HTML: in place of `&`, `<`, `>`, `"` and `'`
unfoldable pub html_mark : ℕ → List ℕ
html_mark b =
    if b == 38 then codes "&amp;"
    else (if b == 60 then codes "&lt;"
    else (if b == 62 then codes "&gt;"
    else (if b == 34 then codes "&quot;"
    else (if b == 39 then codes "&#39;"
    else []))))

-- in LaTeX: in place of `\`, `{`, `}`, `#`, `$`, `%`, `&`, `_`, `~`, `^`, `'` and a backquote; a line may break behind a comma
unfoldable pub latex_mark : ℕ → List ℕ
latex_mark b =
    if b == 92 then codes "\\textbackslash{}"
    else (if b == 123 then codes "\\{"
    else (if b == 125 then codes "\\}"
    else (if b == 35 then codes "\\#"
    else (if b == 36 then codes "\\$"
    else (if b == 37 then codes "\\%"
    else (if b == 38 then codes "\\&"
    else (if b == 95 then codes "\\_"
    else (if b == 126 then codes "\\textasciitilde{}"
    else (if b == 94 then codes "\\textasciicircum{}"
    else (if b == 39 then codes "\\textquotesingle{}"
    else (if b == 96 then codes "\\textasciigrave{}"
    else (if b == 44 then codes ",\\allowbreak{}"
    else []))))))))))))

-- texts in HTML and in LaTeX
abbrev pub html_escaped : List ℕ → List ℕ
html_escaped = flat_map (λ b. in_place_of (html_mark b) b)

abbrev pub latex_escaped : List ℕ → List ℕ
latex_escaped = flat_map (λ b. in_place_of (latex_mark b) b)
