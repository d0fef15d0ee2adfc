-- A book keeps what it keeps after each entry.
use Rattle.std.proofs.Common.{◌≡◌, ℕ, ◌+◌, ◌<◌, ◌≤◌, Bool, true, false, not, ◌||◌, le-leb, List, [], ◌∷◌, ◌++◌, length, refl, sym, ap, subst, ◌∙◌, arith}
use Rattle.ap_paths.specs.declared.entries.Entry.{Entry}
use Rattle.ap_paths.specs.declared.entries.Entry.TheVariants.{Split, Done, Skip, Stop}
use Rattle.ap_paths.specs.declared.runs.Run.{Run}
use Rattle.ap_defs.specs.declared.paths.Progress.TheVariants.{Left, Finished}
use Rattle.ap_paths.specs.Runs.{outs_of_runs}
use Rattle.ap_paths.specs.Entries.{TreeEntry, split, done, skip, stop, entry_of, entries_of}
use Rattle.ap_paths.specs.Merging.{ends_from}
use Rattle.ap_paths.specs.History.{is_open, without, kids_of, open_after, open_of, has_stop, is_stop, may_enter, is_reached, answers_before, left_of, progress_of}
use Rattle.ap_paths.specs.Trees.{Ascends}
use Rattle.ap_paths.specs.Weights.{weigh, is_it, times_in, HaveSame}
use Rattle.ap_paths.proofs.Histories.{open_of-last, has_stop-last, is_legal-last, or_false}
use Rattle.ap_paths.proofs.Frontiers.{weigh_without, weigh_split}
use Rattle.ap_book.specs.Kept.{all_part, IsBookKept}
use Rattle.ap_book.proofs.Opening.{same_open, weigh_ones}
use Rattle.ap_book.proofs.Parting.{part_after_done, part_after_split, at_most_once}

pub entries_of-last : (es : List Entry) (e : Entry) → entries_of (es ++ e ∷ []) ≡ entries_of es ++ entry_of e ∷ []
entries_of-last [] e = refl
entries_of-last (x ∷ xs) e = ap (λ l. entry_of x ∷ l) (entries_of-last xs e)

pub kept_same : (history : List TreeEntry) (opened later : List (List ℕ)) (stopped : Bool) → IsBookKept history opened stopped → HaveSame later opened → IsBookKept history later stopped
kept_same history opened later stopped kept same = record { opens = λ h. same h ∙ kept.opens h; stops = kept.stops; legal = kept.legal; apart = kept.apart }

-- what is kept after an entry, by the weight of the open paths after it
kept_after : (history : List TreeEntry) (e : TreeEntry) (opened later : List (List ℕ)) (stopped now : Bool) → IsBookKept history opened stopped → may_enter (open_of history) (has_stop history) e ≡ true → is_reached (ends_from [] history) e ≡ true
    → now ≡ stopped || is_stop e → all_part (open_after (open_of history) e) ≡ true → HaveSame later (open_after (open_of history) e) → IsBookKept (history ++ e ∷ []) later now
kept_after history e opened later stopped now kept may reached stops apart same = record {
  opens = λ h. same h ∙ ap (weigh h) (sym (open_of-last history e));
  stops = stops ∙ ap (λ b. b || is_stop e) kept.stops ∙ sym (has_stop-last history e);
  legal = is_legal-last history e kept.legal may reached;
  apart = ap all_part (open_of-last history e) ∙ apart;
}

pub kept_done : (history new : List Entry) (seat : ℕ) (p : List ℕ) (os : List Run) (opened later : List (List ℕ)) (stopped : Bool) → IsBookKept (entries_of history) opened stopped → new ≡ history ++ Done seat p os ∷ []
    → is_open p opened ≡ true → ((h : List ℕ → ℕ) → weigh h later + h p ≡ weigh h opened) → IsBookKept (entries_of new) later stopped
kept_done history new seat p os opened later stopped kept is there moved =
    let o : is_open p (open_of (entries_of history)) ≡ true = sym (same_open p opened (open_of (entries_of history)) kept.opens) ∙ there in
    subst (λ (l : List TreeEntry). IsBookKept l later stopped) (sym (ap entries_of is ∙ entries_of-last history (Done seat p os)))
    (kept_after (entries_of history) (done seat p (outs_of_runs os)) opened later stopped stopped kept o refl (or_false stopped) (part_after_done p (open_of (entries_of history)) kept.apart)
    (λ h. let a = moved h in let b = kept.opens h in let w = weigh_without h p (open_of (entries_of history)) o in omega arith))

pub kept_skip : (history new : List Entry) (seat : ℕ) (p : List ℕ) (n : ℕ) (opened later : List (List ℕ)) (stopped : Bool) → IsBookKept (entries_of history) opened stopped → new ≡ history ++ Skip seat p n ∷ []
    → is_open p opened ≡ true → n ≤ answers_before p (entries_of history) → ((h : List ℕ → ℕ) → weigh h later + h p ≡ weigh h opened) → IsBookKept (entries_of new) later stopped
kept_skip history new seat p n opened later stopped kept is there enough moved =
    let o : is_open p (open_of (entries_of history)) ≡ true = sym (same_open p opened (open_of (entries_of history)) kept.opens) ∙ there in
    subst (λ (l : List TreeEntry). IsBookKept l later stopped) (sym (ap entries_of is ∙ entries_of-last history (Skip seat p n)))
    (kept_after (entries_of history) (skip seat p n) opened later stopped stopped kept o (le-leb n (answers_before p (entries_of history)) enough) (or_false stopped) (part_after_done p (open_of (entries_of history)) kept.apart)
    (λ h. let a = moved h in let b = kept.opens h in let w = weigh_without h p (open_of (entries_of history)) o in omega arith))

pub kept_split : (history new : List Entry) (seat : ℕ) (p ks : List ℕ) (opened later : List (List ℕ)) (stopped : Bool) → IsBookKept (entries_of history) opened stopped → new ≡ history ++ Split seat p ks ∷ []
    → is_open p opened ≡ true → Ascends 1 ks → ((h : List ℕ → ℕ) → weigh h later + h p ≡ weigh h opened + weigh h (kids_of p ks)) → IsBookKept (entries_of new) later stopped
kept_split history new seat p ks opened later stopped kept is there ascending moved =
    let o : is_open p (open_of (entries_of history)) ≡ true = sym (same_open p opened (open_of (entries_of history)) kept.opens) ∙ there in
    subst (λ (l : List TreeEntry). IsBookKept l later stopped) (sym (ap entries_of is ∙ entries_of-last history (Split seat p ks)))
    (kept_after (entries_of history) (split seat p ks) opened later stopped stopped kept o refl (or_false stopped) (part_after_split p 1 ks (open_of (entries_of history)) ascending kept.apart o)
    (λ h. let a = moved h in let b = kept.opens h in let w = weigh_split p ks (open_of (entries_of history)) o h in omega arith))

pub kept_stop : (history new : List Entry) (seat : ℕ) (opened : List (List ℕ)) → IsBookKept (entries_of history) opened false → new ≡ history ++ Stop seat ∷ [] → IsBookKept (entries_of new) opened true
kept_stop history new seat opened kept is =
    subst (λ (l : List TreeEntry). IsBookKept l opened true) (sym (ap entries_of is ∙ entries_of-last history (Stop seat)))
    (kept_after (entries_of history) (stop seat) opened opened false true kept (ap not (sym kept.stops)) refl refl kept.apart kept.opens)

nothing_left : (ps : List (List ℕ)) → length ps ≡ 0 → left_of ps ≡ Finished
nothing_left [] e = refl
nothing_left (p ∷ ps) e = absurd (omega arith)

some_left : (ps : List (List ℕ)) → 0 < length ps → left_of ps ≡ Left (length ps)
some_left [] l = absurd (omega arith)
some_left (p ∷ ps) l = refl

running : (history : List TreeEntry) → has_stop history ≡ false → progress_of history ≡ left_of (open_of history)
running history e = rw e refl

as_many : (opened : List (List ℕ)) (history : List TreeEntry) (stopped : Bool) → IsBookKept history opened stopped → length (open_of history) ≡ length opened
as_many opened history stopped kept = sym (weigh_ones (open_of history)) ∙ sym (kept.opens (λ _. 1)) ∙ weigh_ones opened

pub finished : (history : List TreeEntry) (opened : List (List ℕ)) → IsBookKept history opened false → length opened ≡ 0 → progress_of history ≡ Finished
finished history opened kept e = running history (sym kept.stops) ∙ nothing_left (open_of history) (as_many opened history false kept ∙ e)

pub left_over : (history : List TreeEntry) (opened : List (List ℕ)) (n : ℕ) → IsBookKept history opened false → length opened ≡ n → 0 < n → progress_of history ≡ Left n
left_over history opened n kept e l =
    let m : length (open_of history) ≡ n = as_many opened history false kept ∙ e in
    running history (sym kept.stops) ∙ some_left (open_of history) (omega arith) ∙ ap Left m

-- whether a path is in the set says whether it is open
pub open_there : (history : List TreeEntry) (opened : List (List ℕ)) (stopped : Bool) (p : List ℕ) (b : Bool) → IsBookKept history opened stopped → b ≡ is_open p opened → is_open p (open_of history) ≡ b
open_there history opened stopped p b kept is = sym (same_open p opened (open_of history) kept.opens) ∙ sym is

-- the kids of an open path are not there
pub kids_once : (history : List TreeEntry) (opened : List (List ℕ)) (stopped : Bool) (p ks : List ℕ) → IsBookKept history opened stopped → is_open p opened ≡ true → Ascends 1 ks
    → (q : List ℕ) → times_in (kids_of p ks) q + times_in opened q ≤ 1 + is_it q p
kids_once history opened stopped p ks kept there ascending q =
    let o = open_there history opened stopped p true kept (sym there) in
    let a = at_most_once (without p (open_of history) ++ kids_of p ks) q (part_after_split p 1 ks (open_of history) ascending kept.apart o) in
    let b = weigh_split p ks (open_of history) o (is_it q) in
    let d = kept.opens (is_it q) in omega arith
