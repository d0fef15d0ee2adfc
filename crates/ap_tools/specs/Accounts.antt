-- The account of a worker: each path that comes to it is kept, or was found not open.
use Rattle.std.specs.Prelude.{◌≡◌, ℕ, ◌+◌, eqb, false, if◌then◌else◌, List, [], ◌∷◌, ◌++◌}
use Rattle.ap_paths.specs.declared.entries.Entry.{Entry}
use Rattle.ap_paths.specs.declared.entries.Entry.TheVariants.{Split, Done, Skip, Stop}
use Rattle.ap_paths.specs.Entries.{entries_of}
use Rattle.ap_paths.specs.History.{kids_of, is_open, open_of}
use Rattle.ap_paths.specs.Weights.{weigh}
use Rattle.ap_tools.specs.Owners.{owner_view, stolen_of}
use Rattle.ap_tools.specs.Turns.{Begins, maker_of}
use Rattle.ap_tools.specs.declared.tools.Tools.{Tools}
use Rattle.ap_tools.specs.Hands.{held}

-- the entries of a number
abbrev pub entries_by : ℕ → List Entry → List Entry
entries_by n [] = []
entries_by n (e ∷ es) = if eqb (maker_of e) n then e ∷ entries_by n es else entries_by n es

-- the kids that entries open
abbrev pub opened_kids : List Entry → List (List ℕ)
opened_kids [] = []
opened_kids (Split seat p ks ∷ es) = kids_of p ks ++ opened_kids es
opened_kids (Done seat p os ∷ es) = opened_kids es
opened_kids (Skip seat p n ∷ es) = opened_kids es
opened_kids (Stop seat ∷ es) = opened_kids es

-- the paths that entries end
abbrev pub ended_paths : List Entry → List (List ℕ)
ended_paths [] = []
ended_paths (Split seat p ks ∷ es) = p ∷ ended_paths es
ended_paths (Done seat p os ∷ es) = p ∷ ended_paths es
ended_paths (Skip seat p n ∷ es) = p ∷ ended_paths es
ended_paths (Stop seat ∷ es) = ended_paths es

-- the weights of the paths that a worker took off its deque, and of those that it stole
abbrev pub fetched : {W : Type 0} → (List ℕ → ℕ) → Tools W → ℕ
fetched h t = weigh h (owner_view t.own).popped + stolen_of h t.others.items

-- these paths were taken out of the hand or off a deque, and no others
abbrev pub Took : {W : Type 0} → Tools W → List (List ℕ) → Tools W → Type 0
Took old ps new = (h : List ℕ → ℕ) → (held h new + weigh h ps) + fetched h old ≡ held h old + fetched h new

-- the weights of what came to a worker: the kids that it opened, and what it fetched
abbrev pub came : {W : Type 0} → (List ℕ → ℕ) → ℕ → List Entry → Tools W → ℕ
came h n seen t = weigh h (opened_kids (entries_by n seen)) + fetched h t

-- the weights of what it kept: what it holds or gave to its deque, and what it ended
abbrev pub kept_weight : {W : Type 0} → (List ℕ → ℕ) → ℕ → List Entry → Tools W → ℕ
kept_weight h n seen t = held h t + weigh h (ended_paths (entries_by n seen))

-- each of these was not open at a turn between these two histories
abbrev pub AreShut : List Entry → List (List ℕ) → List Entry → Type 0
AreShut seen [] after = Begins seen after
AreShut seen (p ∷ ps) after = ((turn : List Entry) × Begins seen turn × Begins turn after × (is_open p (open_of (entries_of turn)) ≡ false)) × AreShut seen ps after

-- a number's entries ended just these paths, but for those that were not open, and opened none
abbrev pub EndsJust : ℕ → List Entry → List (List ℕ) → List Entry → Type 0
EndsJust n seen ps after =
    (opened_kids (entries_by n after) ≡ opened_kids (entries_by n seen))
    × ((shut : List (List ℕ)) × AreShut seen shut after × ((h : List ℕ → ℕ) → weigh h (ended_paths (entries_by n after)) + weigh h shut ≡ weigh h (ended_paths (entries_by n seen)) + weigh h ps))

-- what a worker had, these paths and what came meanwhile is what it kept, but for those that were not open
abbrev pub NoneLost : {W : Type 0} → ℕ → List Entry → Tools W → List (List ℕ) → List Entry → Tools W → Type 0
NoneLost n seen old ps after new =
    (shut : List (List ℕ)) × AreShut seen shut after × ((h : List ℕ → ℕ) → (kept_weight h n after new + weigh h shut) + came h n seen old ≡ (kept_weight h n seen old + weigh h ps) + came h n after new)
