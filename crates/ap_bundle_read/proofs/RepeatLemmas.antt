-- Things that are read one after another.
use Rattle.std.proofs.Common.{◌≡◌, ℕ, suc, List, [], ◌∷◌, ◌++◌, Result, Ok, Err, refl, ap, sym, append_assoc}
use Rattle.std.proofs.lemmas.List.{append-nil}
use Rattle.ap_bundle.specs.Readers.{Unread, Wrong, Reader, with_front, repeated}
use Rattle.ap_bundle_read.specs.declared.error.ReadError.{ReadError}
use Rattle.ap_bundle_read.specs.declared.error.ReadError.TheVariants as errors
use Rattle.ap_bundle_read.specs.Outcomes.{Fails}

module _ {A : Type 0} where
  pub with_front-nil : (read : Result (List A × Unread) Wrong) → with_front [] read ≡ read
  with_front-nil (Ok x) = refl
  with_front-nil (Err e) = refl

  pub with_front-append : (front more : List A) (read : Result (List A × Unread) Wrong) → with_front front (with_front more read) ≡ with_front (front ++ more) read
  with_front-append front more (Ok x) = ap (λ all. Ok (all, x.1)) (sym (append_assoc front more x.0))
  with_front-append front more (Err e) = refl

  -- one more thing
  pub repeated_on : (read : Reader A) (n k : ℕ) (front : List A) (p q : Unread) (x : A) → n ≡ suc k → read p ≡ Ok (x, q) → with_front (front ++ x ∷ []) (repeated read k q) ≡ with_front front (repeated read n p)
  unfolding repeated
  repeated_on read n k front p q x e got = rw (e, repeated, got) (sym (with_front-append front (x ∷ []) (repeated read k q)))

  -- nothing more
  pub repeated_fails : (read : Reader A) (n k : ℕ) (front : List A) (p : Unread) (e : Wrong) → n ≡ suc k → read p ≡ Err e → with_front front (repeated read n p) ≡ Err e
  unfolding repeated
  repeated_fails read n k front p e eq got = rw (eq, repeated, got) refl

-- what fails where something else does
pub fails_on : {Y Z : Type 0} (e : ReadError) (r : Result Y Wrong) (s : Result Z Wrong) → ((w : Wrong) → r ≡ Err w → s ≡ Err w) → Fails e r → Fails e s
fails_on errors.Memory r s on f = tt
fails_on (errors.Wrong kind left) r s on f = on (record { kind = kind; left = left }) f

-- so many, and no more
pub repeated_ends : {A : Type 0} (read : Reader A) (n : ℕ) (front : List A) (p : Unread) → n ≡ 0 → with_front front (repeated read n p) ≡ Ok (front, p)
unfolding repeated
repeated_ends read n front p e = rw e (ap (λ all. Ok (all, p)) (append-nil front))
