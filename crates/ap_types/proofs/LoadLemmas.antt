-- Shapes and equations in tables.
use Rattle.std.proofs.Common.{◌≡◌, inl, inr, ◌<◌, ◌≤◌, ◌+◌, ◌↔◌, ◌∙◌, ℕ, List, [], ◌∷◌, ◌++◌, map, length, drop, get_or, refl, sym, ap, subst, arith}
use Rattle.std.specs.Prelude.{if◌then◌else◌}
use Rattle.std.proofs.lemmas.Bool.Decides.{eqb_tells}
use Rattle.std.proofs.lemmas.List.{at_drop_more}
use Rattle.ap_defs.specs.declared.terms.Shape.{Shape}
use Rattle.ap_defs.specs.Types.{TypeShape, shape_of}
use Rattle.ap_types.specs.declared.nodes.Node.{Node}
use Rattle.ap_types.specs.Assignments.{name_equation, name_equations}
use Rattle.ap_types.specs.Equations.{ShapeEquation, ◌≐◌, Filling, bound_of, FillingSolves, equations_bound, equation_of}
use Rattle.ap_types.specs.Triangular.{shapes_of_nodes, Fits, AreFormed}
use Rattle.ap_types.specs.Joining.{Loads, LoadsAll, Agree, ArePairsWithin}
use Rattle.ap_types.proofs.ShapeLemmas.{filled_below}
use Rattle.ap_types.proofs.TableLemmas.{extends_on, length_table}

pub within_more : (n m : ℕ) (ps : List (ℕ × ℕ)) → n ≤ m → ArePairsWithin n ps → ArePairsWithin m ps
within_more n m [] l h = tt
within_more n m (p ∷ ps) l h = let a = h.0 in let b = h.1 in (omega arith, omega arith, within_more n m ps l h.2)

pub within_append : (n : ℕ) (ps qs : List (ℕ × ℕ)) → ArePairsWithin n ps → ArePairsWithin n qs → ArePairsWithin n (ps ++ qs)
within_append n [] qs h k = k
within_append n (p ∷ ps) qs h k = (h.0, h.1, within_append n ps qs h.2 k)

pub agree_append : (f : Filling) (ps qs : List (ℕ × ℕ)) → Agree f (ps ++ qs) ↔ (Agree f ps × Agree f qs)
agree_append f [] qs = ((λ h. (tt, h)), (λ h. h.1))
agree_append f (p ∷ ps) qs =
    let k = agree_append f ps qs in
    ((λ h. ((h.0, (k.0 h.1).0), (k.0 h.1).1)), (λ h. (h.0.0, k.1 (h.0.1, h.1))))

pub agree_below : (f g : Filling) (ps : List (ℕ × ℕ)) (n : ℕ) → ArePairsWithin n ps → ((x : ℕ) → x < n → g x ≡ f x) → Agree f ps → Agree g ps
agree_below f g [] n w h a = tt
agree_below f g (p ∷ ps) n w h a = (h p.0 w.0 ∙ a.0 ∙ sym (h p.1 w.1), agree_below f g ps n w.2 h a.1)

-- equations are solved alike by what agrees on their holes
pub solves_below : (f g : Filling) (es : List ShapeEquation) (n : ℕ) → equations_bound es ≤ n → ((x : ℕ) → x < n → g x ≡ f x) → FillingSolves f es → FillingSolves g es
solves_below f g [] n b h s = tt
solves_below f g ((t ≐ u) ∷ es) n b h s =
    (filled_below f g t n (omega arith) h ∙ s.0 ∙ sym (filled_below f g u n (omega arith) h), solves_below f g es n (omega arith) h s.1)

-- one equation more
pub loads_equation : (ts us vs : List TypeShape) (ps : List (ℕ × ℕ)) (t u : TypeShape) (x y : ℕ) → ArePairsWithin (length ts) ps → bound_of t ≤ length ts → bound_of u ≤ length ts
    → Loads ts t us x → Loads us u vs y → LoadsAll ts ps ((t ≐ u) ∷ []) vs (ps ++ (x, y) ∷ [])
loads_equation ts us vs ps t u x y w bt bu h k =
    let e = extends_on ts us vs h.extends k.extends in
    let l = h.within in
    let m = k.within in
    let n = k.extends.longer in record {
      longer = e.longer;
      formed = e.formed;
      within = within_append (length vs) ps ((x, y) ∷ []) (within_more (length ts) (length vs) ps e.longer w) (omega arith, omega arith, tt);
      solves = λ f b a.
          let left = h.stands f (k.extends.keeps f b) in
          let right = k.stands f b in
          let c = (agree_append f ps ((x, y) ∷ [])).0 a in
          ((e.keeps f b, c.0), (sym left ∙ c.1.0 ∙ right, tt));
      more = λ f b a s.
          let g = e.more f b in
          let left = h.stands g.0 (k.extends.keeps g.0 g.1) in
          let right = k.stands g.0 g.1 in
          let one = filled_below f g.0 t (length ts) bt g.2 in
          let two = filled_below f g.0 u (length ts) bu g.2 in
          let both = agree_append g.0 ps ((x, y) ∷ []) in
          (g.0, (g.1, both.1 (agree_below f g.0 ps (length ts) w g.2 a, (left ∙ one ∙ s.0 ∙ sym two ∙ sym right, tt))), g.2);
    }

-- the same with the sides exchanged
pub loads_turned : (ts us : List TypeShape) (ps qs : List (ℕ × ℕ)) (t u : TypeShape) → LoadsAll ts ps ((t ≐ u) ∷ []) us qs → LoadsAll ts ps ((u ≐ t) ∷ []) us qs
loads_turned ts us ps qs t u h = record {
  longer = h.longer;
  formed = h.formed;
  within = h.within;
  solves = λ f b a. let c = h.solves f b a in (c.0, (sym c.1.0, tt));
  more = λ f b a s. h.more f b a (sym s.0, tt);
}

pub loads_none : (ts : List TypeShape) (ps : List (ℕ × ℕ)) → AreFormed ts → ArePairsWithin (length ts) ps → LoadsAll ts ps [] ts ps
loads_none ts ps h w = record { longer = omega arith; formed = h; within = w; solves = λ f b a. ((b, a), tt); more = λ f b a s. (f, (b, a), λ x l. refl) }

-- what the table and pairs so far and the equations that are left say
pub record LoadsSome (ts : List TypeShape) (ps : List (ℕ × ℕ)) (all : List ShapeEquation) (us : List TypeShape) (qs : List (ℕ × ℕ)) (rest : List ShapeEquation) : Type 0 where
  pub longer : length ts ≤ length us
  pub formed : AreFormed us
  pub within : ArePairsWithin (length us) qs
  pub bound : equations_bound rest ≤ length us
  pub solves : (f : Filling) → Fits f us → Agree f qs → FillingSolves f rest → (Fits f ts × Agree f ps) × FillingSolves f all
  pub more : (f : Filling) → Fits f ts → Agree f ps → FillingSolves f all
      → (g : Filling) × ((Fits g us × Agree g qs) × FillingSolves g rest) × ((x : ℕ) → x < length ts → g x ≡ f x)

pub loads_first : (ts : List TypeShape) (ps : List (ℕ × ℕ)) (es : List ShapeEquation) → AreFormed ts → ArePairsWithin (length ts) ps → equations_bound es ≤ length ts → LoadsSome ts ps es ts ps es
loads_first ts ps es h w b = record { longer = omega arith; formed = h; within = w; bound = b; solves = λ f k a s. ((k, a), s); more = λ f k a s. (f, ((k, a), s), λ x l. refl) }

pub loads_more : (ts : List TypeShape) (ps : List (ℕ × ℕ)) (all : List ShapeEquation) (us vs : List TypeShape) (qs rs : List (ℕ × ℕ)) (t u : TypeShape) (rest : List ShapeEquation)
    → LoadsSome ts ps all us qs ((t ≐ u) ∷ rest) → LoadsAll us qs ((t ≐ u) ∷ []) vs rs → LoadsSome ts ps all vs rs rest
loads_more ts ps all us vs qs rs t u rest h k =
    let b : equations_bound rest ≤ length us = let a = h.bound in omega arith in record {
      longer = let a = h.longer in let c = k.longer in omega arith;
      formed = k.formed;
      within = k.within;
      bound = let c = k.longer in omega arith;
      solves = λ f e a s. let c = k.solves f e a in h.solves f c.0.0 c.0.1 (c.1.0, s);
      more = λ f e a s.
          let g = h.more f e a s in
          let m = k.more g.0 g.1.0.0 g.1.0.1 (g.1.1.0, tt) in
          let left = solves_below g.0 m.0 rest (length us) b m.2 g.1.1.1 in
          (m.0, (m.1, left), λ x l. m.2 x (let n = h.longer in omega arith) ∙ g.2 x l);
    }

pub loads_end : (ts : List TypeShape) (ps : List (ℕ × ℕ)) (all : List ShapeEquation) (us : List TypeShape) (qs : List (ℕ × ℕ)) → LoadsSome ts ps all us qs [] → LoadsAll ts ps all us qs
loads_end ts ps all us qs h = record {
  longer = h.longer;
  formed = h.formed;
  within = h.within;
  solves = λ f e a. h.solves f e a tt;
  more = λ f e a s. let g = h.more f e a s in (g.0, g.1.0, g.2);
}

-- the element at a place, in a loop over all
pub next_at : {A : Type 0} (xs : List A) (i : ℕ) (x : A) → i < length xs → x ≡ get_or xs i x → drop i xs ≡ x ∷ drop (i + 1) xs
next_at xs i x l e = at_drop_more (λ ys. ys) xs i x l ∙ ap (λ y. y ∷ drop (i + 1) xs) (sym e)

pub equation_next : (es : List (Shape × Shape)) (i : ℕ) (e : Shape × Shape) → i < length es → e ≡ get_or es i e → map equation_of (drop i es) ≡ equation_of e ∷ map equation_of (drop (i + 1) es)
equation_next es i e l h = ap (map equation_of) (next_at es i e l h)

pub bound_next : (es : List (Shape × Shape)) (i : ℕ) (e : Shape × Shape) (n : ℕ) → i < length es → e ≡ get_or es i e → equations_bound (map equation_of (drop i es)) ≤ n
    → (bound_of (shape_of e.0) ≤ n) × (bound_of (shape_of e.1) ≤ n)
bound_next es i e n l h k =
    let m : equations_bound (equation_of e ∷ map equation_of (drop (i + 1) es)) ≤ n = subst (λ (fs : List ShapeEquation). equations_bound fs ≤ n) (equation_next es i e l h) k in
    (omega arith, omega arith)

-- the same for the holes that must be name types
pub name_next : (xs : List ℕ) (i : ℕ) → i < length xs → map name_equation (drop i xs) ≡ name_equation (get_or xs i 0) ∷ map name_equation (drop (i + 1) xs)
name_next xs i l = ap (map name_equation) (at_drop_more (λ ys. ys) xs i 0 l)

pub loads_no_names : (n : ℕ) (xs : List ℕ) (ns : List Node) (ps : List (ℕ × ℕ)) → (n ≡ 1 → ⊥) → AreFormed (shapes_of_nodes ns) → ArePairsWithin (length ns) ps
    → LoadsAll (shapes_of_nodes ns) ps (name_equations n xs) (shapes_of_nodes ns) ps
loads_no_names n xs ns ps other h w =
    let ts = shapes_of_nodes ns in
    let none = loads_none ts ps h (subst (λ m. ArePairsWithin m ps) (sym (length_table ns)) w) in
    elim (eqb_tells n 1) [
      | inl e ↦ absurd (other e.1)
      | inr e ↦ subst (λ b. LoadsAll ts ps (if b then map name_equation xs else []) ts ps) (sym e.0) none
    ]
