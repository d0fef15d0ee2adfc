-- Rounds only add data types, and the least set is closed.
use Rattle.std.proofs.Common.{◌≡◌, ◌≤◌, ℕ, zero, suc, Bool, true, List, [], ◌∷◌, ◌&&◌, arith}
use Rattle.std.specs.Prelude.{◌==◌}
use Rattle.ap_defs.specs.Types.{NominalType, NominalConstructor}
use Rattle.ap_types.specs.Rounds.{Test, Within, some_passes, reached}
use Rattle.ap_types.proofs.BooleanLemmas.{or_grows, and_grows}

-- with more data types no fewer arguments pass
abbrev pub Grows : Test → Type 0
Grows test = (p q : ℕ → Bool) → Within p q → (ts : List NominalType) → test p ts ≡ true → test q ts ≡ true

module _ (test : Test) (grows : Grows test) where
  pub some_passes_grows : (p q : ℕ → Bool) → Within p q → (cs : List NominalConstructor) → Within (some_passes test p cs) (some_passes test q cs)
  some_passes_grows p q h [] d e = e
  some_passes_grows p q h (c ∷ cs) d e =
      or_grows ((c.result == d) && test p c.args) (some_passes test p cs d) ((c.result == d) && test q c.args) (some_passes test q cs d)
      (and_grows (c.result == d) (test p c.args) (c.result == d) (test q c.args) (λ i. i) (grows p q h c.args))
      (some_passes_grows p q h cs d)
      e

  pub reached_more : (cs : List NominalConstructor) (r s : ℕ) → r ≤ s → Within (reached test cs r) (reached test cs s)
  reached_more cs zero s l d e = cc
  reached_more cs (suc r) zero l d e = absurd (omega arith)
  reached_more cs (suc r) (suc s) l d e = some_passes_grows (reached test cs r) (reached test cs s) (reached_more cs r s (omega arith)) cs d e

  -- a set of data types that each round leaves as it is has all that any round finds
  pub reached_closed : (cs : List NominalConstructor) (p : ℕ → Bool) → Within (some_passes test p cs) p → (r : ℕ) → Within (reached test cs r) p
  reached_closed cs p h zero d e = cc
  reached_closed cs p h (suc r) d e = h d (some_passes_grows (reached test cs r) p (reached_closed cs p h r) cs d e)
