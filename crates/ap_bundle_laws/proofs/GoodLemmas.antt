-- A piece of text that a reader reads exactly, whatever follows it, and whose proper prefixes are unended.
use Rattle.std.proofs.Common.{◌≡◌, ℕ, ◌<◌, ◌⊎◌, inl, inr, List, [], ◌∷◌, ◌++◌, length, Ok, Err, refl, ap, sym, subst, ◌∙◌, append_assoc, length-append, arith}
use Rattle.std.specs.List.{flat_map}
use Rattle.ap_bundle_laws.specs.Laws.{Each}
use Rattle.ap_bundle.specs.Readers.{Unread, Reader, ◌>>=◌, unended, with_front, repeated}

abbrev pub at : List ℕ → ℕ → Unread
at bytes room = record { rest = bytes; room = room }

-- So much room is left of what there was.
pub record IsGood {A : Type 0} (read : Reader A) (room left : ℕ) (w : List ℕ) (x : A) : Type 0 where
  pub whole : (rest : List ℕ) → read (at (w ++ rest) room) ≡ Ok (x, at rest left)
  pub part : (v u : List ℕ) → w ≡ v ++ u → 0 < length u → read (at v room) ≡ Err unended

-- a proper prefix of two texts is one of the first, or the first and a proper prefix of the second
pub parted : (w v a u : List ℕ) → w ++ v ≡ a ++ u → 0 < length u
    → ((x : List ℕ) × (w ≡ a ++ x) × (0 < length x)) ⊎ ((x : List ℕ) × (a ≡ w ++ x) × (v ≡ x ++ u))
parted [] v a u e h = inr (a, refl, e)
parted (b ∷ w) v [] u e h = inl (b ∷ w, refl, omega arith)
parted (b ∷ w) v (c ∷ a) u e h =
    let heads : b ≡ c = cc in
    let tails : w ++ v ≡ a ++ u = cc in
    elim (parted w v a u tails h) [
      | inl s ↦ inl (s.0, (ap (λ z. b ∷ z) s.1 ∙ ap (λ z. z ∷ (a ++ s.0)) heads), s.2)
      | inr s ↦ inr (s.0, (ap (λ z. c ∷ z) s.1 ∙ ap (λ z. z ∷ (w ++ s.0)) (sym heads)), s.2)
    ]

module _ {A B : Type 0} where
  -- one after another
  pub good_then : (read : Reader A) (next : A → Reader B) (room mid left : ℕ) (w v : List ℕ) (x : A) (y : B) → IsGood read room mid w x → IsGood (next x) mid left v y
      → IsGood (λ p. read p >>= λ z. next z.0 z.1) room left (w ++ v) y
  good_then read next room mid left w v x y first second = record {
    whole = λ rest. rw (append_assoc w v rest, first.whole (v ++ rest)) (second.whole rest);
    part = λ a u e h. elim (parted w v a u e h) [
      | inl s ↦ rw (first.part a s.0 s.1 s.2) refl
      | inr s ↦ rw (s.1, first.whole s.0) (second.part s.0 u s.2 h)
    ];
  }

  -- what is made of it
  pub good_as : (read : Reader A) (f : A → B) (room left : ℕ) (w : List ℕ) (x : A) → IsGood read room left w x → IsGood (λ p. read p >>= λ z. Ok (f z.0, z.1)) room left w (f x)
  good_as read f room left w x good = record {
    whole = λ rest. rw (good.whole rest) refl;
    part = λ v u e h. rw (good.part v u e h) refl;
  }

module _ {A : Type 0} where
  -- the room for things of which so much is left, by the room for one
  abbrev pub room_for : (A → ℕ → ℕ) → List A → ℕ → ℕ
  room_for before [] left = left
  room_for before (x ∷ xs) left = before x (room_for before xs left)

  pub room_append : (before : A → ℕ → ℕ) (xs ys : List A) (left : ℕ) → room_for before (xs ++ ys) left ≡ room_for before xs (room_for before ys left)
  room_append before [] ys left = refl
  room_append before (x ∷ xs) ys left = ap (before x) (room_append before xs ys left)

  -- things that take no room
  abbrev pub free : A → ℕ → ℕ
  free x left = left

  pub room_free : (xs : List A) (left : ℕ) → room_for free xs left ≡ left
  room_free [] left = refl
  room_free (x ∷ xs) left = room_free xs left

  -- so many things
  pub good_repeated : (read : Reader A) (text : A → List ℕ) (before : A → ℕ → ℕ) (P : A → Type 0) → ((left : ℕ) (x : A) → P x → IsGood read (before x left) left (text x) x)
      → (left : ℕ) (xs : List A) → Each P xs → IsGood (repeated read (length xs)) (room_for before xs left) left (flat_map text xs) xs
  unfolding repeated
  good_repeated read text before P good left [] h = record {
    whole = λ rest. refl;
    part = λ v u e h. absurd (omega (arith, ap length e, length-append v u));
  }
  good_repeated read text before P good left (x ∷ xs) h =
      let rest = good_repeated read text before P good left xs h.1 in
      good_then read (λ y p. with_front (y ∷ []) (repeated read (length xs) p)) (before x (room_for before xs left)) (room_for before xs left) left (text x) (flat_map text xs) x (x ∷ xs) (good (room_for before xs left) x h.0)
      (record {
        whole = λ r. rw (rest.whole r) refl;
        part = λ v u e h. rw (rest.part v u e h) refl;
      })

  -- things that take no room, so many of them
  pub good_each : (read : Reader A) (text : A → List ℕ) (P : A → Type 0) → ((room : ℕ) (x : A) → P x → IsGood read room room (text x) x)
      → (room : ℕ) (xs : List A) → Each P xs → IsGood (repeated read (length xs)) room room (flat_map text xs) xs
  good_each read text P good room xs h =
      subst (λ n. IsGood (repeated read (length xs)) n room (flat_map text xs) xs) (room_free xs room) (good_repeated read text free P good room xs h)
