-- One more item: the first fault.
use Rattle.std.proofs.Common.{◌≡◌, ◌<◌, ◌≤◌, ℕ, Bool, true, false, List, [], ◌∷◌, ◌++◌, map, take, length, get_or, ◌+◌, refl, arith, sym, ap, ◌∙◌, subst, append_assoc, append-nil}
use Rattle.std.proofs.lemmas.Bool.Decides.{nat_tests}
use Rattle.std.proofs.lemmas.List.{take_more, take_all}
use Rattle.std.specs.Prelude.{nat_lt, if◌then◌else◌, Option, Some, None}
use Rattle.ap_defs.specs.Types.{NominalConstructor}
use Rattle.ap_defs.specs.RawTerms.{RawTerm}
use Rattle.ap_defs.specs.Goals.{ClauseOver}
use Rattle.ap_defs.specs.declared.faults.NameFault.{NameFault}
use Rattle.ap_program.specs.NameRestriction.{RawItem, clause, item_number, Passes, AllPass, PassUpTo, PassBelow, IsFaultOf, IsFirstFault, items_of_lists}
use Rattle.ap_restrict.specs.Scans.{IsVerdict, IsScan, earlier_of}

all_then : (cs : List NominalConstructor) (items : List RawItem) (i : RawItem) → AllPass cs items → Passes cs i → AllPass cs (items ++ i ∷ [])
all_then cs [] i h p = (p, tt)
all_then cs (j ∷ js) i h p = (h.0, all_then cs js i h.1 p)

all_up_to : (cs : List NominalConstructor) (n : ℕ) (items : List RawItem) → AllPass cs items → PassUpTo cs n items
all_up_to cs n [] h = tt
all_up_to cs n (i ∷ is) h = ((λ l. h.0), all_up_to cs n is h.1)

below_then : (cs : List NominalConstructor) (n : ℕ) (items : List RawItem) (i : RawItem) → PassBelow cs n items → (item_number i < n → Passes cs i) → PassBelow cs n (items ++ i ∷ [])
below_then cs n [] i h p = (p, tt)
below_then cs n (j ∷ js) i h p = (h.0, below_then cs n js i h.1 p)

-- an earlier item is the first at fault where another was
up_to_less : (cs : List NominalConstructor) (m n : ℕ) (items : List RawItem) → m ≤ n → PassUpTo cs n items → PassUpTo cs m items
up_to_less cs m n [] l h = tt
up_to_less cs m n (i ∷ is) l h = ((λ k. h.0 (omega arith)), up_to_less cs m n is l h.1)

below_up_to : (cs : List NominalConstructor) (m n : ℕ) (items : List RawItem) → m < n → PassBelow cs n items → PassUpTo cs m items
below_up_to cs m n [] l h = tt
below_up_to cs m n (i ∷ is) l h = ((λ k. h.0 (omega arith)), below_up_to cs m n is l h.1)

up_to_join : (cs : List NominalConstructor) (m : ℕ) (before : List RawItem) (at : RawItem) (after : List RawItem)
    → PassUpTo cs m before → (item_number at ≤ m → ⊥) → PassUpTo cs m after → PassUpTo cs m (before ++ at ∷ after)
up_to_join cs m [] at after h n k = ((λ l. absurd (n l)), k)
up_to_join cs m (i ∷ is) at after h n k = (h.0, up_to_join cs m is at after h.1 n k)

first_here : (cs : List NominalConstructor) (items : List RawItem) (i : RawItem) (f : NameFault) → PassUpTo cs f.place.item items → IsFaultOf cs i f → IsFirstFault cs (items ++ i ∷ []) f
first_here cs items i f h w = record { before = items; at = i; after = []; place = refl; fault = w; earlier = h; later = tt }

first_still : (cs : List NominalConstructor) (items : List RawItem) (i : RawItem) (f : NameFault) → IsFirstFault cs items f → (item_number i < f.place.item → Passes cs i) → IsFirstFault cs (items ++ i ∷ []) f
first_still cs items i f h p = record {
  before = h.before;
  at = h.at;
  after = h.after ++ i ∷ [];
  place = ap (λ is. is ++ i ∷ []) h.place ∙ append_assoc h.before (h.at ∷ h.after) (i ∷ []);
  fault = h.fault;
  earlier = h.earlier;
  later = below_then cs f.place.item h.after i h.later p;
}

first_less : (cs : List NominalConstructor) (items : List RawItem) (i : RawItem) (f g : NameFault) → IsFirstFault cs items f → IsFaultOf cs i g → g.place.item < f.place.item → IsFirstFault cs (items ++ i ∷ []) g
first_less cs items i f g h w l =
    let number : f.place.item ≡ item_number h.at = ap (λ p. p.item) h.fault.place in
    first_here cs items i g
    (subst (PassUpTo cs g.place.item) (sym h.place)
    (up_to_join cs g.place.item h.before h.at h.after (up_to_less cs g.place.item f.place.item h.before (omega arith) h.earlier) (λ k. omega arith) (below_up_to cs g.place.item f.place.item h.after l h.later))) w

lesser : (m n : ℕ) → nat_lt m n ≡ true → m < n
lesser m n e = grind (arith, nat_tests)

not_lesser : (m n : ℕ) → nat_lt m n ≡ false → n ≤ m
not_lesser m n e = grind (arith, nat_tests)

first_of_two : (cs : List NominalConstructor) (items : List RawItem) (i : RawItem) (f g : NameFault) (b : Bool) → nat_lt g.place.item f.place.item ≡ b → IsFirstFault cs items f → IsFaultOf cs i g
    → IsScan cs (items ++ i ∷ []) (if b then Some g else Some f)
first_of_two cs items i f g true e h w = first_less cs items i f g h w (lesser g.place.item f.place.item e)
first_of_two cs items i f g false e h w =
    let number : g.place.item ≡ item_number i = ap (λ p. p.item) w.place in
    let same : f.place.item ≤ g.place.item = not_lesser g.place.item f.place.item e in
    first_still cs items i f h (λ l. absurd (omega arith))

-- the first fault of the items and one more
pub scan_more : (cs : List NominalConstructor) (items : List RawItem) (i : RawItem) (best new : Option NameFault) → IsScan cs items best → IsVerdict cs i new
    → IsScan cs (items ++ i ∷ []) (earlier_of best new)
scan_more cs items i None None h v = all_then cs items i h v
scan_more cs items i None (Some g) h v = first_here cs items i g (all_up_to cs g.place.item items h) v
scan_more cs items i (Some f) None h v = first_still cs items i f h (λ l. v)
scan_more cs items i (Some f) (Some g) h v = first_of_two cs items i f g (nat_lt g.place.item f.place.item) refl h v

pub items_then : (css : List (List (ClauseOver RawTerm))) (cs : List (ClauseOver RawTerm)) → items_of_lists (css ++ cs ∷ []) ≡ items_of_lists css ++ map clause cs
items_then [] cs = append-nil (map clause cs)
items_then (ds ∷ dss) cs = ap (λ is. map clause ds ++ is) (items_then dss cs) ∙ sym (append_assoc (map clause ds) (items_of_lists dss) (map clause cs))

map_then : {A B : Type 0} (f : A → B) (xs : List A) (x : A) → map f (xs ++ x ∷ []) ≡ map f xs ++ f x ∷ []
map_then f [] x = refl
map_then f (y ∷ xs) x = ap (λ zs. f y ∷ zs) (map_then f xs x)

-- one more item of a list
pub scan_next : {A B : Type 0} (cs : List NominalConstructor) (g : B → RawItem) (h : A → B) (xs : List A) (i : ℕ) (x d : A) (items : List RawItem) (best new result : Option NameFault)
    → i < length xs → x ≡ get_or xs i d → result ≡ earlier_of best new → IsVerdict cs (g (h x)) new
    → IsScan cs (items ++ map g (map h (take i xs))) best → IsScan cs (items ++ map g (map h (take (i + 1) xs))) result
scan_next cs g h xs i x d items best new result l e r v s =
    let more : take (i + 1) xs ≡ take i xs ++ x ∷ [] = take_more xs i d l ∙ ap (λ y. take i xs ++ y ∷ []) (sym e) in
    let mapped : map g (map h (take (i + 1) xs)) ≡ map g (map h (take i xs)) ++ g (h x) ∷ [] =
    ap (λ ys. map g (map h ys)) more ∙ ap (map g) (map_then h (take i xs) x) ∙ map_then g (map h (take i xs)) (h x) in
    let joined : items ++ map g (map h (take (i + 1) xs)) ≡ (items ++ map g (map h (take i xs))) ++ g (h x) ∷ [] =
    ap (λ ys. items ++ ys) mapped ∙ sym (append_assoc items (map g (map h (take i xs))) (g (h x) ∷ [])) in
    subst (IsScan cs (items ++ map g (map h (take (i + 1) xs)))) (sym r)
    (subst (λ is. IsScan cs is (earlier_of best new)) (sym joined) (scan_more cs (items ++ map g (map h (take i xs))) (g (h x)) best new s v))

pub scan_whole : {A B : Type 0} (cs : List NominalConstructor) (g : B → RawItem) (h : A → B) (xs : List A) (i : ℕ) (items : List RawItem) (best : Option NameFault)
    → length xs ≤ i → IsScan cs (items ++ map g (map h (take i xs))) best → IsScan cs (items ++ map g (map h xs)) best
scan_whole cs g h xs i items best l s = subst (λ ys. IsScan cs (items ++ map g (map h ys)) best) (take_all i xs l) s

-- one more list of clauses
pub lists_next : {A : Type 0} (cs : List NominalConstructor) (view : A → ClauseOver RawTerm) (xss : List (List A)) (i : ℕ) (xs d inner : List A) (best new : Option NameFault)
    → i < length xss → xs ≡ get_or xss i d → inner ≡ xs
    → ((items : List RawItem) → IsScan cs items best → IsScan cs (items ++ map clause (map view inner)) new)
    → IsScan cs (items_of_lists (map (map view) (take i xss))) best → IsScan cs (items_of_lists (map (map view) (take (i + 1) xss))) new
lists_next cs view xss i xs d inner best new l e same step s =
    let more : take (i + 1) xss ≡ take i xss ++ inner ∷ [] = take_more xss i d l ∙ ap (λ y. take i xss ++ y ∷ []) (sym (same ∙ e)) in
    let joined : items_of_lists (map (map view) (take (i + 1) xss)) ≡ items_of_lists (map (map view) (take i xss)) ++ map clause (map view inner) =
    ap (λ ys. items_of_lists (map (map view) ys)) more ∙ ap items_of_lists (map_then (map view) (take i xss) inner) ∙ items_then (map (map view) (take i xss)) (map view inner) in
    subst (λ is. IsScan cs is new) (sym joined) (step _ s)
