-- The tasks of an entry make its term, and are less than the task of its line.
use Rattle.std.proofs.Common.{◌≡◌, ℕ, ◌+◌, ◌<◌, List, [], ◌∷◌, ◌++◌, refl, ap, ap₂, sym, subst, ◌∙◌, arith}
use Rattle.ap_defs.specs.Terms as terms
use Rattle.ap_defs.specs.Terms.{NominalTerm}
use Rattle.ap_bundle.specs.Tables.{expanded_size}
use Rattle.ap_shared.specs.declared.lines.Entry.{Entry}
use Rattle.ap_shared.specs.declared.lines.Entry.TheVariants as entry
use Rattle.ap_shared.specs.declared.expanding.Task.{Task}
use Rattle.ap_shared.specs.declared.expanding.Task.TheVariants as task
use Rattle.ap_shared.specs.Shared.{shared_at, entry_term}
use Rattle.ap_shared.specs.Expanding.{made_by, weigh_tasks, begun, ready}

entry_made : (lines ts : List NominalTerm) (ks : List Task) (e : Entry) → made_by lines (begun e ++ ks) (ready e ++ ts) ≡ made_by lines ks (entry_term lines e ∷ ts)
entry_made lines ts ks entry.Unit = refl
entry_made lines ts ks (entry.Name a) = refl
entry_made lines ts ks (entry.Pair i j) = refl
entry_made lines ts ks (entry.App f i) = refl
entry_made lines ts ks (entry.Abs s b i) = refl
entry_made lines ts ks (entry.Susp p x) = refl

entry_lighter : (lines : List NominalTerm) (ks : List Task) (e : Entry) → weigh_tasks lines (begun e ++ ks) < expanded_size (entry_term lines e) + expanded_size (entry_term lines e) + weigh_tasks lines ks
entry_lighter lines ks entry.Unit = omega arith
entry_lighter lines ks (entry.Name a) = omega arith
entry_lighter lines ks (entry.Pair i j) = omega arith
entry_lighter lines ks (entry.App f i) = omega arith
entry_lighter lines ks (entry.Abs s b i) = omega arith
entry_lighter lines ks (entry.Susp p x) = omega arith

-- tasks and terms behind the first step for a line
module _ (lines ts us : List NominalTerm) (ks js : List Task) (k : ℕ) where
  pub line_made : (e : Entry) → shared_at lines k ≡ entry_term lines e → js ≡ begun e ++ ks → us ≡ ready e ++ ts → made_by lines js us ≡ made_by lines (task.Line k ∷ ks) ts
  line_made e is begins made = ap₂ (made_by lines) begins made ∙ entry_made lines ts ks e ∙ ap (λ t. made_by lines ks (t ∷ ts)) (sym is)

  pub line_lighter : (e : Entry) → shared_at lines k ≡ entry_term lines e → js ≡ begun e ++ ks → weigh_tasks lines js < weigh_tasks lines (task.Line k ∷ ks)
  line_lighter e is begins =
      subst (λ t. weigh_tasks lines js < expanded_size t + expanded_size t + weigh_tasks lines ks) (sym is)
      (subst (λ (ts : List Task). weigh_tasks lines ts < expanded_size (entry_term lines e) + expanded_size (entry_term lines e) + weigh_tasks lines ks) (sym begins) (entry_lighter lines ks e))

  -- a line that isn't there
  pub none_made : shared_at lines k ≡ terms.unit → us ≡ terms.unit ∷ ts → made_by lines ks us ≡ made_by lines (task.Line k ∷ ks) ts
  none_made none made = ap (made_by lines ks) made ∙ ap (λ t. made_by lines ks (t ∷ ts)) (sym none)

  pub none_lighter : shared_at lines k ≡ terms.unit → weigh_tasks lines ks < weigh_tasks lines (task.Line k ∷ ks)
  none_lighter none = subst (λ t. weigh_tasks lines ks < expanded_size t + expanded_size t + weigh_tasks lines ks) (sym none) (omega arith)
