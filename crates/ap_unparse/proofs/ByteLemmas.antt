-- The bytes of what is written, one after the other.
use Rattle.std.proofs.Common.{◌≡◌, ℕ, List, [], ◌∷◌, ◌++◌, refl, sym, ap, ◌∙◌, append_assoc}
use Rattle.ap_unparse.specs.Written.{Written, token, space, bytes_of}

pub bytes_of-append : (ws vs : List Written) → bytes_of (ws ++ vs) ≡ bytes_of ws ++ bytes_of vs
bytes_of-append [] vs = refl
bytes_of-append (token kind text ∷ ws) vs = ap (λ bs. text ++ bs) (bytes_of-append ws vs) ∙ sym (append_assoc text (bytes_of ws) (bytes_of vs))
bytes_of-append (space ∷ ws) vs = ap (λ (bs : List ℕ). 32 ∷ bs) (bytes_of-append ws vs)
