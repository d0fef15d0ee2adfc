-- Steps of a walk over a body.
use Rattle.std.proofs.Common.{◌≡◌, ◌≤◌, ◌+◌, ℕ, suc, List, [], ◌∷◌, ◌++◌, length, map, reverse, take, refl, sym, ap, ap₂, ◌∙◌, arith, le_refl, append_assoc, length-append, subst}
use Rattle.std.proofs.lemmas.List.{append-nil, length-take, reverse-append, take-append-le, take-take}
use Rattle.ap_defs.specs.Derivations as nodes
use Rattle.ap_defs.specs.Derivations.{NominalDerivation, derivation_of}
use Rattle.ap_defs.specs.Goals.{NominalGoal, goal_of}
use Rattle.ap_checks.specs.Checks.{node_count}
use Rattle.ap_judge.specs.declared.scope.Standing.{Standing}
use Rattle.ap_judge.specs.Scopes.{environment_of, environment_with, nothing_put}
use Rattle.ap_judge.proofs.ScopeLemmas.{environment_append}
use Rattle.ap_steps.specs.declared.bodies.Body.{Body}
use Rattle.ap_steps.specs.declared.bodies.Part.{Part}
use Rattle.ap_steps.specs.Steps.{NominalPiece, DerivationWriting, pieces}
use Rattle.ap_steps.specs.Writers.{piece_of}
use denote.Ref.{Bor}
use Rattle.ap_defs.specs.declared.goals.Goal as code_goals
use Rattle.ap_defs.specs.declared.outcomes.Derivation as code_nodes
use Rattle.ap_defs.specs.declared.terms.Term.{Term}
use Rattle.ap_steps.specs.Walks.{ArePartsMarked, WritesOn, IsWritingOnWay, parts_pending, nodes_in_parts, part_at, pieces_at, pieces_left}

take-whole : {A : Type 0} (xs : List A) → take (length xs) xs ≡ xs
take-whole [] = refl
take-whole (x ∷ xs) = ap (λ ys. x ∷ ys) (take-whole xs)

pub last_first : {A : Type 0} (xs : List A) (x : A) → reverse (xs ++ x ∷ []) ≡ x ∷ reverse xs
last_first xs x = reverse-append xs (x ∷ [])

marked_higher : (m n : ℕ) (ts : List Part) → m ≤ n → ArePartsMarked m ts → ArePartsMarked n ts
marked_higher m n [] h k = tt
marked_higher m n (t ∷ ts) h k = (omega (arith, k.0), k.1)

pub count_some : (d : NominalDerivation) → 1 ≤ node_count d
count_some (nodes.atom k names ts d) = omega arith
count_some nodes.equal = omega arith
count_some nodes.fresh = omega arith
count_some nodes.succeed = omega arith
count_some (nodes.both d e) = omega arith
count_some (nodes.left d) = omega arith
count_some (nodes.right d) = omega arith
count_some (nodes.exists t d) = omega arith
count_some (nodes.new a d) = omega arith

module _ (w : DerivationWriting) where
  -- what is left depends only on what stands below the greatest mark
  left_same : (top : ℕ) (ss us : List Standing) (ts : List Part) → take top ss ≡ take top us → ArePartsMarked top ts → pieces_left w ss ts ≡ pieces_left w us ts
  left_same top ss us [] e m = refl
  left_same top ss us (t ∷ ts) e m =
      let same : take t.mark ss ≡ take t.mark us = sym (take-take t.mark top ss m.0) ∙ ap (take t.mark) e ∙ take-take t.mark top us m.0 in
      ap₂ (λ (xs ys : List NominalPiece). xs ++ ys) (ap (λ (vs : List Standing). pieces_at w t (environment_of vs)) same) (left_same t.mark ss us ts same m.1)

  -- a node is put in front, where more may stand than before
  put_first : (ss us : List Standing) (ps : List Part) (t : Part) → t.mark ≡ length us → take (length ss) us ≡ ss → ArePartsMarked (length ss) (reverse ps)
      → pieces_left w us (reverse (ps ++ t ∷ [])) ≡ pieces_at w t (environment_of us) ++ pieces_left w ss (reverse ps)
  put_first ss us ps t h e m =
      ap (pieces_left w us) (last_first ps t)
      ∙ ap₂ (λ (xs ys : List NominalPiece). xs ++ ys) (ap (λ (vs : List Standing). pieces_at w t (environment_of vs)) (ap (λ n. take n us) h ∙ take-whole us))
      (left_same (length ss) us ss (reverse ps) (e ∙ sym (take-whole ss)) m)

put_nodes : (ps : List Part) (t : Part) → nodes_in_parts (reverse (ps ++ t ∷ [])) ≡ node_count (derivation_of t.derivation.now) + nodes_in_parts (reverse ps)
put_nodes ps t = ap nodes_in_parts (last_first ps t)

put_marked : (ps : List Part) (t : Part) → ArePartsMarked t.mark (reverse ps) → ArePartsMarked t.mark (reverse (ps ++ t ∷ []))
put_marked ps t m = rw (last_first ps t) (le_refl t.mark, m)

-- What a visit makes of the walk.
module _ (w : DerivationWriting) (d : NominalDerivation) (g : NominalGoal) (before after : Body) where
  -- nothing is below the node, and these are its pieces
  pub goes_past : (more : List NominalPiece) → after.standing.items ≡ before.standing.items → after.pending.items ≡ before.pending.items
      → map piece_of after.pieces.items ≡ map piece_of before.pieces.items ++ more → more ≡ pieces w d g (environment_of before.standing.items)
      → ArePartsMarked (length before.standing.items) (parts_pending before) → WritesOn w d g before after
  goes_past more es ep ek e m = record {
    kept =
        ap₂ (λ (xs ys : List NominalPiece). xs ++ ys) (ek ∙ ap (λ ys. map piece_of before.pieces.items ++ ys) e) (ap₂ (λ (us : List Standing) (ps : List Part). pieces_left w us (reverse ps)) es ep)
        ∙ append_assoc (map piece_of before.pieces.items) (pieces w d g (environment_of before.standing.items)) (pieces_left w before.standing.items (parts_pending before));
    nodes = let same = ap (λ (ps : List Part). nodes_in_parts (reverse ps)) ep in let some = count_some d in omega (arith, same, some);
    marked = subst (λ (us : List Standing). ArePartsMarked (length us) (parts_pending after)) (sym es) (subst (λ (ps : List Part). ArePartsMarked (length before.standing.items) (reverse ps)) (sym ep) m);
  }

  -- one node is below it, where more stands
  pub goes_below : (t : Part) (more : List Standing) → ArePartsMarked (length before.standing.items) (parts_pending before) → after.standing.items ≡ before.standing.items ++ more
      → after.pending.items ≡ before.pending.items ++ t ∷ [] → t.mark ≡ length after.standing.items → after.pieces.items ≡ before.pieces.items
      → pieces w d g (environment_of before.standing.items) ≡ pieces_at w t (environment_of after.standing.items)
      → node_count d ≡ suc (node_count (derivation_of t.derivation.now)) → WritesOn w d g before after
  goes_below t more m es ep em ek h k =
      let ss = before.standing.items in
      let us = after.standing.items in
      let ps = before.pending.items in
      let front : take (length ss) us ≡ ss = ap (take (length ss)) es ∙ take-append-le (length ss) ss more (le_refl (length ss)) ∙ take-whole ss in
      let longer : length ss ≤ t.mark = omega (arith, em, ap length es, length-append ss more) in
      record {
        kept =
            ap₂ (λ (xs ys : List NominalPiece). xs ++ ys) (ap (map piece_of) ek)
            (ap (λ (qs : List Part). pieces_left w us (reverse qs)) ep ∙ put_first w ss us ps t em front m ∙ ap (λ ys. ys ++ pieces_left w ss (reverse ps)) (sym h));
        nodes = let same = ap (λ (qs : List Part). nodes_in_parts (reverse qs)) ep ∙ put_nodes ps t in omega (arith, same, k);
        marked = subst (λ (qs : List Part). ArePartsMarked (length us) (reverse qs)) (sym ep)
            (subst (λ n. ArePartsMarked n (reverse (ps ++ t ∷ []))) em (put_marked ps t (marked_higher (length ss) t.mark (reverse ps) longer m)));
      }

  -- two nodes are below it
  pub goes_both : (t u : Part) → ArePartsMarked (length before.standing.items) (parts_pending before) → after.standing.items ≡ before.standing.items
      → after.pending.items ≡ (before.pending.items ++ u ∷ []) ++ t ∷ [] → t.mark ≡ length before.standing.items → u.mark ≡ length before.standing.items
      → after.pieces.items ≡ before.pieces.items
      → pieces w d g (environment_of before.standing.items) ≡ pieces_at w t (environment_of before.standing.items) ++ pieces_at w u (environment_of before.standing.items)
      → node_count d ≡ suc (node_count (derivation_of t.derivation.now) + node_count (derivation_of u.derivation.now)) → WritesOn w d g before after
  goes_both t u m es ep et eu ek h k =
      let ss = before.standing.items in
      let ps = before.pending.items in
      let qs = ps ++ u ∷ [] in
      let one : ArePartsMarked (length ss) (reverse qs) = subst (λ n. ArePartsMarked n (reverse qs)) eu (put_marked ps u (subst (λ n. ArePartsMarked n (reverse ps)) (sym eu) m)) in
      record {
        kept =
            ap₂ (λ (xs ys : List NominalPiece). xs ++ ys) (ap (map piece_of) ek)
            (ap₂ (λ (us : List Standing) (rs : List Part). pieces_left w us (reverse rs)) es ep ∙ put_first w ss ss qs t et (take-whole ss) one
            ∙ ap (λ ys. pieces_at w t (environment_of ss) ++ ys) (put_first w ss ss ps u eu (take-whole ss) m)
            ∙ sym (append_assoc (pieces_at w t (environment_of ss)) (pieces_at w u (environment_of ss)) (pieces_left w ss (reverse ps)))
            ∙ ap (λ ys. ys ++ pieces_left w ss (reverse ps)) (sym h));
        nodes = let same = ap (λ (rs : List Part). nodes_in_parts (reverse rs)) ep ∙ put_nodes qs t in let more = put_nodes ps u in omega (arith, same, more, k);
        marked = subst (λ (rs : List Part). ArePartsMarked (length after.standing.items) (reverse rs)) (sym ep)
            (subst (λ (us : List Standing). ArePartsMarked (length us) (reverse (qs ++ t ∷ []))) (sym es)
            (subst (λ n. ArePartsMarked n (reverse (qs ++ t ∷ []))) et (put_marked qs t (subst (λ n. ArePartsMarked n (reverse qs)) (sym et) one))));
      }

-- the walk at its beginning
pub first_on_way : (w : DerivationWriting) (d : Bor code_nodes.Derivation) (g : Bor (code_goals.Goal Term)) (given : Standing) (body : Body) → body.standing.items ≡ given ∷ []
    → body.pending.items ≡ part_at d g (length body.standing.items) ∷ [] → body.pieces.items ≡ []
    → IsWritingOnWay w (pieces w (derivation_of d.now) (goal_of g.now) (environment_of (given ∷ []))) body
first_on_way w d g given body es ep ek =
    let one : body.pending.items ≡ part_at d g (length (given ∷ [])) ∷ [] = ep ∙ ap (λ (us : List Standing). part_at d g (length us) ∷ []) es in
    record {
      kept =
          ap₂ (λ (xs ys : List NominalPiece). xs ++ ys) (ap (map piece_of) ek) (ap₂ (λ (us : List Standing) (ps : List Part). pieces_left w us (reverse ps)) es one)
          ∙ append-nil (pieces w (derivation_of d.now) (goal_of g.now) (environment_of (given ∷ [])));
      marked =
          subst (λ (us : List Standing). ArePartsMarked (length us) (parts_pending body)) (sym es)
          (subst (λ (ps : List Part). ArePartsMarked (length (given ∷ [])) (reverse ps)) (sym one) (le_refl (length (given ∷ [])), tt));
    }

-- what stands once more has been brought
pub brought : (before after : List Standing) (what : Standing) → after ≡ before ++ what ∷ [] → environment_of after ≡ environment_with what (environment_of before)
brought before after what e = ap environment_of e ∙ environment_append before (what ∷ []) nothing_put

-- one thing more stands where the node below is looked at
pub goes_brought : (w : DerivationWriting) (d : NominalDerivation) (g : NominalGoal) (before mid after : Body) (t : Part) (what : Standing) (d' : NominalDerivation) (g' : NominalGoal)
    → ArePartsMarked (length before.standing.items) (parts_pending before) → mid.standing.items ≡ before.standing.items ++ what ∷ [] → mid.pending.items ≡ before.pending.items
    → mid.pieces.items ≡ before.pieces.items → after.standing.items ≡ mid.standing.items → after.pending.items ≡ mid.pending.items ++ t ∷ [] → t.mark ≡ length mid.standing.items
    → after.pieces.items ≡ mid.pieces.items → derivation_of t.derivation.now ≡ d' → goal_of t.goal.now ≡ g'
    → pieces w d g (environment_of before.standing.items) ≡ pieces w d' g' (environment_with what (environment_of before.standing.items)) → node_count d ≡ suc (node_count d') → WritesOn w d g before after
goes_brought w d g before mid after t what d' g' m ms mp mk es ep et ek hd hg h k =
    let stands : after.standing.items ≡ before.standing.items ++ what ∷ [] = es ∙ ms in
    goes_below w d g before after t (what ∷ []) m stands (ep ∙ ap (λ ps. ps ++ t ∷ []) mp) (et ∙ ap length (sym es)) (ek ∙ mk)
    (h ∙ ap (pieces w d' g') (sym (brought before.standing.items after.standing.items what stands))
    ∙ ap₂ (λ (x : NominalDerivation) (y : NominalGoal). pieces w x y (environment_of after.standing.items)) (sym hd) (sym hg))
    (k ∙ ap (λ x. suc (node_count x)) (sym hd))

-- One turn of the walk, where the next node was taken and what stands inside it was cut off.
module _ (w : DerivationWriting) (whole : List NominalPiece) (body before after : Body) (t : Part) (way : IsWritingOnWay w whole body)
    (taken : body.pending.items ≡ before.pending.items ++ t ∷ []) (cut : before.standing.items ≡ take t.mark body.standing.items) (same : before.pieces.items ≡ body.pieces.items) where
  marks : (t.mark ≤ length body.standing.items) × ArePartsMarked t.mark (parts_pending before)
  marks = subst (ArePartsMarked (length body.standing.items)) (ap reverse taken ∙ last_first before.pending.items t) way.marked

  length_cut : length before.standing.items ≡ t.mark
  length_cut =
      let few = marks.0 in
      let all = length-take t.mark body.standing.items in
      let same = ap length cut in
      omega (arith, few, all, same)

  -- its mark holds where the node is looked at
  pub turn_marked : ArePartsMarked (length before.standing.items) (parts_pending before)
  turn_marked = subst (λ n. ArePartsMarked n (parts_pending before)) (sym length_cut) marks.1

  rest_same : pieces_left w body.standing.items (parts_pending before) ≡ pieces_left w before.standing.items (parts_pending before)
  rest_same =
      left_same w t.mark body.standing.items before.standing.items (parts_pending before)
      (sym (ap (take t.mark) cut ∙ take-take t.mark t.mark body.standing.items (le_refl t.mark))) marks.1

  pub turn_goes_on : WritesOn w (derivation_of t.derivation.now) (goal_of t.goal.now) before after → IsWritingOnWay w whole after
  turn_goes_on on = record {
    kept =
        on.kept
        ∙ ap₂ (λ (xs ys : List NominalPiece). xs ++ ys) (ap (map piece_of) same)
        (ap₂ (λ (xs ys : List NominalPiece). xs ++ ys) (ap (λ (ss : List Standing). pieces_at w t (environment_of ss)) cut) (sym rest_same))
        ∙ ap (λ ys. map piece_of body.pieces.items ++ ys) (sym (ap (λ (ps : List Part). pieces_left w body.standing.items (reverse ps)) taken
        ∙ ap (pieces_left w body.standing.items) (last_first before.pending.items t)))
        ∙ way.kept;
    marked = on.marked;
  }

  pub turn_nodes : nodes_in_parts (parts_pending body) ≡ node_count (derivation_of t.derivation.now) + nodes_in_parts (parts_pending before)
  turn_nodes = ap nodes_in_parts (ap reverse taken ∙ last_first before.pending.items t)
