-- What is wanted after the outputs that a turn of a search adds.
use Rattle.std.proofs.Common.{◌≡◌, ℕ, zero, suc, ◌+◌, ◌-◌, ◌≤◌, Bool, true, false, if◌then◌else◌, List, [], ◌∷◌, ◌++◌, length, take, drop, map, refl, sym, ap, ap₂, ◌∙◌, append-nil, arith}
use Rattle.ap_defs.specs.Answers.{NominalOut, cut, found, outs_of, stuck}
use Rattle.ap_defs.specs.declared.paths.Out.{Out}
use Rattle.ap_paths.specs.Limits.{IsWanting, found_in, is_answer_out, part}
use Rattle.ap_paths.specs.declared.limits.Limit.{Limit}
use Rattle.ap_paths.specs.declared.limits.Limit.TheVariants as limits
use Rattle.ap_backchain.specs.Ends.{kept_out}
use Rattle.ap_machine.specs.Positions.{Turned, ends, goes}
use Rattle.ap_backchain.specs.Searches.{ended_outs}
use Rattle.ap_backchain.specs.Wanted.{wanted_after}
use Rattle.ap_backchain.specs.declared.run.Paths.{Paths}
use Rattle.ap_backchain.specs.declared.run.Paths.TheVariants as paths

-- the outputs that came behind others
came : (xs ys : List Out) (more : List NominalOut) → outs_of ys ≡ outs_of xs ++ more → outs_of (drop (length xs) ys) ≡ more
came [] ys more e = e
came (x ∷ xs) [] more e = absurd (cc)
came (x ∷ xs) (y ∷ ys) more e = let f : outs_of ys ≡ outs_of xs ++ more = cc in came xs ys more f

-- there are no fewer then
pub no_fewer : (xs ys : List Out) (more : List NominalOut) → outs_of ys ≡ outs_of xs ++ more → length xs ≤ length ys
no_fewer [] ys more e = omega arith
no_fewer (x ∷ xs) [] more e = absurd (cc)
no_fewer (x ∷ xs) (y ∷ ys) more e = let f : outs_of ys ≡ outs_of xs ++ more = cc in let h = no_fewer xs ys more f in omega (arith, h)

-- without its path it is an answer as before
found_kept : (p : Paths) (o : NominalOut) → is_answer_out (kept_out p o) ≡ is_answer_out o
found_kept paths.Kept o = refl
found_kept paths.Left (found path a) = refl
found_kept paths.Left (cut path) = refl
found_kept paths.Left (stuck path) = refl

all_found_kept : (p : Paths) (os : List NominalOut) → found_in (map (kept_out p) os) ≡ found_in os
all_found_kept p [] = refl
all_found_kept p (o ∷ os) = ap₂ (λ (b : Bool) (n : ℕ). (if b then 1 else 0) + n) (found_kept p o) (all_found_kept p os)

-- what follows a machine in a list, as a slice has it
all_taken : (xs : List Out) → take (length xs) xs ≡ xs
all_taken [] = refl
all_taken (x ∷ xs) = ap (λ ys. x ∷ ys) (all_taken xs)

abbrev no_outs : List Out
no_outs = []

none_taken : (n : ℕ) → take n no_outs ≡ no_outs
none_taken zero = refl
none_taken (suc n) = refl

pub rest_taken : (n : ℕ) (xs : List Out) → take (length xs - n) (drop n xs) ≡ drop n xs
rest_taken zero xs = let e : length xs - 0 ≡ length xs = omega arith in ap (λ m. take m xs) e ∙ all_taken xs
rest_taken (suc n) [] = none_taken (0 - suc n)
rest_taken (suc n) (x ∷ xs) = let e : length (x ∷ xs) - suc n ≡ length xs - n = omega arith in ap (λ m. take m (drop n xs)) e ∙ rest_taken n xs

pub wanted_since : (l : Limit) (p : Paths) (xs ys : List Out) (os : List NominalOut) → outs_of ys ≡ outs_of xs ++ map (kept_out p) os
    → wanted_after l (outs_of (drop (length xs) ys)) ≡ wanted_after l os
wanted_since limits.All p xs ys os e = refl
wanted_since (limits.First n) p xs ys os e = ap (λ m. limits.First (n - m)) (ap found_in (came xs ys (map (kept_out p) os) e) ∙ all_found_kept p os)

one_fewer : (b : Bool) (n : ℕ) → (if b then n else suc n) ≡ suc n - ((if b then 1 else 0) + 0)
one_fewer true n = omega arith
one_fewer false n = omega arith

-- where answers are wanted the output with which a turn ends is taken first
pub part_ended : (l : Limit) (t : Turned) (os : List NominalOut) → IsWanting l 0 → part l (ended_outs t ++ os) ≡ ended_outs t ++ part (wanted_after l (ended_outs t)) os
part_ended limits.All (goes ps) os w = refl
part_ended limits.All (ends o) os w = refl
part_ended (limits.First n) (goes ps) os w = let e : n ≡ n - 0 = omega arith in ap (λ m. part (limits.First m) os) e
part_ended (limits.First zero) (ends o) os w = absurd (omega arith)
part_ended (limits.First (suc n)) (ends o) os w = ap (λ m. o ∷ part (limits.First m) os) (one_fewer (is_answer_out o) n)

part_none : (l : Limit) → part l [] ≡ []
part_none limits.All = refl
part_none (limits.First zero) = refl
part_none (limits.First (suc n)) = refl

-- where nothing is to come, these are all that are wanted
pub nothing_left : (l : Limit) (kept : NominalOut → NominalOut) (outs all : List NominalOut) → outs ++ map kept (part l []) ≡ all → outs ≡ all
nothing_left l kept outs all e = sym (append-nil outs) ∙ sym (ap (λ os. outs ++ map kept os) (part_none l)) ∙ e

-- and where nothing is wanted
pub nothing_wanted : (l : Limit) (kept : NominalOut → NominalOut) (outs rest all : List NominalOut) → l ≡ limits.First 0 → outs ++ map kept (part l rest) ≡ all → outs ≡ all
nothing_wanted l kept outs rest all none e = sym (append-nil outs) ∙ sym (ap (λ m. outs ++ map kept (part m rest)) none) ∙ e
