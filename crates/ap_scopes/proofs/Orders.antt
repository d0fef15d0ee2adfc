-- What is made of parts of the text in their order.
use Rattle.std.proofs.Common.{◌≡◌, ap, ◌∙◌}
use Rattle.ap_scopes.specs.Identifiers.{Found}
use Rattle.ap_scopes.specs.Resolution.{Resolver, made, in_order}

pub made_is : {A B : Type 0} (make : A → B) (whole : A × Found) (a : A) (after : Found) → (a, after) ≡ whole → (make a, after) ≡ made make whole
made_is make whole a after e = ap (made make) e

pub in_order_is : {A B C : Type 0} (make : A → B → C) (first : Resolver A) (second : Resolver B) (before between after : Found) (a : A) (b : B)
    → (a, between) ≡ first before → (b, after) ≡ second between → (make a b, after) ≡ in_order make first second before
in_order_is make first second before between after a b e d = ap (λ r. (make a r.0, r.1)) d ∙ ap (λ r. made (make r.0) (second r.1)) e

-- a part of a whole, with what stands round it
pub within_is : {A : Type 0} (around : A → A) (part whole all : A × Found) → part ≡ whole → made around whole ≡ all → made around part ≡ all
within_is around part whole all e h = ap (made around) e ∙ h
