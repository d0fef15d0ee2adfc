-- Texts of small seeds, computed.
use Rattle.std.proofs.Common.{◌≡◌, ◌++◌, refl}
use Rattle.std.specs.Prelude.{codes}
use Rattle.ap_text_commands.specs.Generated.{calculus, drawn, generated, next_draw}

pub first_of_two : next_draw 2 ≡ 224
first_of_two = refl

pub drawn_of_two : drawn 4 2 ≡ 2
drawn_of_two = refl

pub seed_one : generated 1 1 ≡ calculus ++ codes "?- subst(M,a,var(b),lam(c\\lam(c\\lam(b\\var(b))))).\n"
seed_one = refl

pub seed_two : generated 2 1 ≡ calculus ++ codes "?- subst(M,a,var(b),app(app(var(b),app(var(c),var(d))),var(c))).\n"
seed_two = refl
