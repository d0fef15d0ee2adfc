-- The last of what stands round a part is innermost.
use Rattle.std.proofs.Common.{◌≡◌, ◌<◌, ◌+◌, ◌*◌, ℕ, List, [], ◌∷◌, ◌++◌, refl, ap, ◌∙◌, sym, arith}
use Rattle.ap_defs.specs.Terms.{NominalTerm, abs, app, pair}
use Rattle.ap_defs.specs.Unification.{size}
use Rattle.ap_defs.specs.Walks.{term_framed, term_in_frames, term_frame_work, term_frames_work}
use Rattle.ap_defs.specs.declared.walks.TermFrame.{TermFrame}
use Rattle.ap_defs.specs.declared.terms.Name.{Name}

pub term_frames_last : (f : NominalTerm → NominalTerm) (ks : List TermFrame) (k : TermFrame) (t : NominalTerm) → term_in_frames f (ks ++ k ∷ []) t ≡ term_in_frames f ks (term_framed f k t)
term_frames_last f [] k t = refl
term_frames_last f (j ∷ ks) k t = ap (term_framed f j) (term_frames_last f ks k t)

pub term_work_last : (ks : List TermFrame) (k : TermFrame) → term_frames_work (ks ++ k ∷ []) ≡ term_frames_work ks + term_frame_work k
term_work_last [] k = omega arith
term_work_last (j ∷ ks) k = let h = term_work_last ks k in omega (arith, h)

-- A walk goes in: from what is made of a term to what is made of a part of it, in one frame more.
pub term_enters : (f : NominalTerm → NominalTerm) (ks more : List TermFrame) (k : TermFrame) (t part : NominalTerm) → more ≡ ks ++ k ∷ [] → f t ≡ term_framed f k (f part)
    → term_in_frames f more (f part) ≡ term_in_frames f ks (f t)
term_enters f ks more k t part e h = ap (λ ms. term_in_frames f ms (f part)) e ∙ term_frames_last f ks k (f part) ∙ ap (term_in_frames f ks) (sym h)

-- less is left
pub term_less : (ks more : List TermFrame) (k : TermFrame) (t part : NominalTerm) → more ≡ ks ++ k ∷ [] → term_frame_work k + 3 * size part < 3 * size t
    → term_frames_work more + 3 * size part < term_frames_work ks + 3 * size t
term_less ks more k t part e h =
    let w : term_frames_work more ≡ term_frames_work ks + term_frame_work k = ap term_frames_work e ∙ term_work_last ks k in
    omega (arith, w, h)

pub pair_less : (w t u : NominalTerm) → w ≡ pair t u → 2 + 3 * size u + 3 * size t < 3 * size w
pair_less w t u h = let e : size w ≡ size (pair t u) = ap size h in omega (arith, e)

pub app_less : (w : NominalTerm) (f : ℕ) (t : NominalTerm) → w ≡ app f t → 1 + 3 * size t < 3 * size w
app_less w f t h = let e : size w ≡ size (app f t) = ap size h in omega (arith, e)

pub abs_less : (w : NominalTerm) (a : Name) (t : NominalTerm) → w ≡ abs a t → 1 + 3 * size t < 3 * size w
abs_less w a t h = let e : size w ≡ size (abs a t) = ap size h in omega (arith, e)
