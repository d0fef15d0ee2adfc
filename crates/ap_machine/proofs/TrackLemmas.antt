-- Going on, and going back.
use Rattle.std.proofs.Common.{◌≡◌, ℕ, ◌+◌, ◌≤◌, List, [], ◌∷◌, ◌++◌, length, take, refl, sym, ap, ◌∙◌, append_assoc, length-append, arith, subst}
use Rattle.std.proofs.lemmas.List.{append-nil, take-append-le, take_all}
use Rattle.ap_store.specs.Triples.{Triple}
use Rattle.ap_machine.specs.GoalStacks.{IsLonger}
use Rattle.ap_machine.specs.Tracks.{GoesFrom, IsSaveWithin, Track, back_to, last_after, last_version}
use Rattle.ap_machine.specs.declared.saves.Save.{Save}

-- Lists that go on.
module _ {A : Type 0} where
  pub longer_same : (xs ys : List A) → ys ≡ xs → IsLonger xs ys
  longer_same xs ys e = ([], e ∙ sym (append-nil xs))

  pub longer_trans : (xs ys zs : List A) → IsLonger xs ys → IsLonger ys zs → IsLonger xs zs
  longer_trans xs ys zs h k = (h.0 ++ k.0, k.1 ∙ ap (λ l. l ++ k.0) h.1 ∙ append_assoc xs h.0 k.0)

  pub take_longer : (xs ys : List A) (n : ℕ) → IsLonger xs ys → n ≤ length xs → take n ys ≡ take n xs
  take_longer xs ys n h l = ap (take n) h.1 ∙ take-append-le n xs h.0 l

  pub longer_length : (xs ys : List A) → IsLonger xs ys → length xs ≤ length ys
  longer_length xs ys h = let e : length ys ≡ length xs + length h.0 = ap length h.1 ∙ length-append xs h.0 in omega (arith, e)

pub goes_same : (t u : Track) → u ≡ t → GoesFrom t u
goes_same t u e = subst (λ (x : Track). GoesFrom t x) (sym e)
    (record {
      versions = longer_same t.versions t.versions refl;
      kinds = longer_same t.kinds t.kinds refl;
      cells = longer_same t.cells t.cells refl;
      path = longer_same t.path t.path refl;
      brought = longer_same t.brought t.brought refl;
    })

pub goes_trans : (t u v : Track) → GoesFrom t u → GoesFrom u v → GoesFrom t v
goes_trans t u v h k = record {
  versions = longer_trans t.versions u.versions v.versions h.versions k.versions;
  kinds = longer_trans t.kinds u.kinds v.kinds h.kinds k.kinds;
  cells = longer_trans t.cells u.cells v.cells h.cells k.cells;
  path = longer_trans t.path u.path v.path h.path k.path;
  brought = longer_trans t.brought u.brought v.brought h.brought k.brought;
}

-- what a track had is found from each that goes on from it
pub back_from : (s : Save) (t u : Track) → IsSaveWithin s t → GoesFrom t u → back_to s u ≡ back_to s t
back_from s t u w g =
    let l : s.mark.place + 1 ≤ length t.versions = let h = w.mark in omega (arith, h) in
    let vs : take (s.mark.place + 1) u.versions ≡ take (s.mark.place + 1) t.versions = take_longer t.versions u.versions (s.mark.place + 1) g.versions l in
    ap (λ ws. record {
      versions = ws;
      kinds = take (last_version ws).next u.kinds;
      cells = take s.cells u.cells;
      path = take s.path u.path;
      brought = take s.brought u.brought;
    }) vs
    ∙ ap (λ ks. record {
      versions = take (s.mark.place + 1) t.versions;
      kinds = ks;
      cells = take s.cells u.cells;
      path = take s.path u.path;
      brought = take s.brought u.brought;
    }) (take_longer t.kinds u.kinds _ g.kinds w.kinds)
    ∙ ap (λ cs. record {
      versions = take (s.mark.place + 1) t.versions;
      kinds = take (last_version (take (s.mark.place + 1) t.versions)).next t.kinds;
      cells = cs;
      path = take s.path u.path;
      brought = take s.brought u.brought;
    }) (take_longer t.cells u.cells s.cells g.cells w.cells)
    ∙ ap (λ ps. record {
      versions = take (s.mark.place + 1) t.versions;
      kinds = take (last_version (take (s.mark.place + 1) t.versions)).next t.kinds;
      cells = take s.cells t.cells;
      path = ps;
      brought = take s.brought u.brought;
    }) (take_longer t.path u.path s.path g.path w.path)
    ∙ ap (λ xs. record {
      versions = take (s.mark.place + 1) t.versions;
      kinds = take (last_version (take (s.mark.place + 1) t.versions)).next t.kinds;
      cells = take s.cells t.cells;
      path = take s.path t.path;
      brought = xs;
    }) (take_longer t.brought u.brought s.brought g.brought w.brought)

pub within_from : (s : Save) (t u : Track) → IsSaveWithin s t → GoesFrom t u → IsSaveWithin s u
within_from s t u w g =
    let l : s.mark.place + 1 ≤ length t.versions = let h = w.mark in omega (arith, h) in
    let vs : take (s.mark.place + 1) u.versions ≡ take (s.mark.place + 1) t.versions = take_longer t.versions u.versions (s.mark.place + 1) g.versions l in
    let a = longer_length t.versions u.versions g.versions in
    let b = longer_length t.kinds u.kinds g.kinds in
    let c = longer_length t.cells u.cells g.cells in
    let d = longer_length t.path u.path g.path in
    let e = longer_length t.brought u.brought g.brought in
    let m = w.mark in let k = w.kinds in let i = w.cells in let p = w.path in let x = w.brought in
    record {
      mark = omega (arith, a, m);
      kinds = subst (λ (ws : List Triple). (last_version ws).next ≤ length u.kinds) (sym vs) (omega (arith, b, k));
      cells = omega (arith, c, i);
      first = w.first;
      path = omega (arith, d, p);
      brought = omega (arith, e, x);
    }

-- The present version.
last_over : (v w : Triple) (vs : List Triple) → last_after v (vs ++ w ∷ []) ≡ w
last_over v w [] = refl
last_over v w (u ∷ vs) = last_over u w vs

pub last_present : (vs : List Triple) (w : Triple) → last_version (vs ++ w ∷ []) ≡ w
last_present vs w = last_over _ w vs

-- going back to where the search stands changes nothing
pub back_here : (s : Save) (t : Track) (vs : List Triple) (w : Triple) → t.versions ≡ vs ++ w ∷ [] → w.next ≡ length t.kinds → s.mark.place ≡ length vs
    → s.cells ≡ length t.cells → s.path ≡ length t.path → s.brought ≡ length t.brought → back_to s t ≡ t
back_here s t vs w e f m c p x =
    let many : length t.versions ≡ length vs + 1 = ap length e ∙ length-append vs (w ∷ []) in
    let a : take (s.mark.place + 1) t.versions ≡ t.versions = take_all (s.mark.place + 1) t.versions (omega (arith, many, m)) in
    let n : (last_version t.versions).next ≡ length t.kinds = ap (λ us. (last_version us).next) e ∙ ap (λ (u : Triple). u.next) (last_present vs w) ∙ f in
    ap (λ us. record { versions = us; kinds = take (last_version us).next t.kinds; cells = take s.cells t.cells; path = take s.path t.path; brought = take s.brought t.brought }) a
    ∙ ap (λ ks. record { versions = t.versions; kinds = ks; cells = take s.cells t.cells; path = take s.path t.path; brought = take s.brought t.brought })
    (take_all (last_version t.versions).next t.kinds (omega (arith, n)))
    ∙ ap (λ cs. record { versions = t.versions; kinds = t.kinds; cells = cs; path = take s.path t.path; brought = take s.brought t.brought }) (take_all s.cells t.cells (omega (arith, c)))
    ∙ ap (λ ps. record { versions = t.versions; kinds = t.kinds; cells = t.cells; path = ps; brought = take s.brought t.brought }) (take_all s.path t.path (omega (arith, p)))
    ∙ ap (λ xs. record { versions = t.versions; kinds = t.kinds; cells = t.cells; path = t.path; brought = xs }) (take_all s.brought t.brought (omega (arith, x)))

pub within_here : (s : Save) (t : Track) (vs : List Triple) (w : Triple) → t.versions ≡ vs ++ w ∷ [] → w.next ≡ length t.kinds → s.mark.place ≡ length vs
    → s.cells ≡ length t.cells → s.first ≤ s.cells → s.path ≡ length t.path → s.brought ≡ length t.brought → IsSaveWithin s t
within_here s t vs w e f m c i p x =
    let many : length t.versions ≡ length vs + 1 = ap length e ∙ length-append vs (w ∷ []) in
    let a : take (s.mark.place + 1) t.versions ≡ t.versions = take_all (s.mark.place + 1) t.versions (omega (arith, many, m)) in
    let n : (last_version (take (s.mark.place + 1) t.versions)).next ≡ length t.kinds =
    ap (λ us. (last_version us).next) (a ∙ e) ∙ ap (λ (u : Triple). u.next) (last_present vs w) ∙ f in
    record {
      mark = omega (arith, many, m);
      kinds = omega (arith, n);
      cells = omega (arith, c);
      first = i;
      path = omega (arith, p);
      brought = omega (arith, x);
    }
