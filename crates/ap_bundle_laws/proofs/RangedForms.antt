-- The numbers of what words stand for are in the ranges of their types, where those of the words are.
use Rattle.std.proofs.Common.{◌≡◌, ℕ, zero, suc, ◌<◌, ◌^◌, ◌==◌, ◌&&◌, Bool, true, false, nat_lt, List, [], ◌∷◌, length, slice_get, Option, None, Some, refl, ap, subst, option_map, option_and_then}
use Rattle.std.proofs.lemmas.Bool.{ltb-true}
use Rattle.std.specs.Prelude.{if◌then◌else◌}
use Rattle.std.specs.List.{slice_split}
use Rattle.std.specs.Str.Parse.{digits_value}
use Rattle.ap_defs.specs.declared.terms.Name.{Name}
use Rattle.ap_defs.specs.declared.terms.Var.{Var}
use Rattle.ap_defs.specs.declared.terms.Swap.{Swap}
use Rattle.ap_defs.specs.declared.terms.Cond.{Cond}
use Rattle.ap_defs.specs.Terms as terms
use Rattle.ap_defs.specs.Terms.{NominalTerm}
use Rattle.ap_defs.specs.Derivations as derivation
use Rattle.ap_defs.specs.Derivations.{NominalDerivation}
use Rattle.ap_defs.specs.Types as types
use Rattle.ap_defs.specs.Types.{NominalType}
use Rattle.ap_bundle.specs.declared.words.Letter.{Letter}
use Rattle.ap_bundle.specs.declared.words.Letter.TheVariants as letter
use Rattle.ap_bundle.specs.declared.words.NodeWord.{NodeWord}
use Rattle.ap_bundle.specs.declared.words.NodeWord.TheVariants as node
use Rattle.ap_bundle.specs.declared.words.Head.{Head}
use Rattle.ap_bundle.specs.declared.words.Head.TheVariants as head
use Rattle.ap_bundle.specs.declared.words.Word.{Word}
use Rattle.ap_bundle.specs.declared.words.Word.TheVariants as word
use Rattle.ap_bundle.specs.Words.{is_numeral, number_of, letter_of, node_word_of, head_of, word_of, words_spelled, line_words, either, before_words}
use Rattle.ap_bundle.specs.Forms.{◌>>=◌, first, small, a_name, a_swap, swaps, if_no_number, name_onto, pair_onto, app_onto, abs_onto, susp_onto, term_onto, names_onto, base_onto, pair_type_onto, list_onto, abs_type_onto, type_onto, Onto, Forms, forms_only, word_onto, forms, only, form}
use Rattle.ap_bundle.specs.LineForms as lines
use Rattle.ap_bundle.specs.LineForms.{NodeLine, after_head, number, small_number, name, count_form, query_form, var_form, cond_form, name_form, term_form, atom_line, new_line, node_behind, node_form}
use Rattle.ap_bundle.specs.Nodes as nodes
use Rattle.ap_bundle.specs.Nodes.{over_first, over_two, node_onto, derivations, one, derivation_from}
use Rattle.ap_bundle.specs.TableForms.{numbers, before_numbers, earlier, name_entry, pair_entry, app_entry, abs_entry, susp_entry, entry, entry_behind, entry_form, shared_form}
use Rattle.ap_bundle_laws.specs.Laws.{Each, IsListOf, FitsName, FitsSwap, FitsCond, FitsTerm, FitsType, FitsVar, FitsDerivation}
use Rattle.ap_bundle_laws.proofs.WordLemmas.{Fits}

-- what two steps give, by what each gives
pub both_some : {A B : Type 0} (o : Option A) (f : A → Option B) (b : B) → (o >>= f) ≡ Some b → (a : A) × (o ≡ Some a) × (f a ≡ Some b)
both_some {A} {B} None f b e = absurd (let k : ◌≡◌ {A = Option B} None (Some b) = e in cc)
both_some (Some a) f b e = (a, refl, e)

pub same_some : {A : Type 0} (a b : A) → ◌≡◌ {A = Option A} (Some a) (Some b) → a ≡ b
same_some a b e = cc

pub none_is : {A : Type 0} (P : Type 0) (a : A) → ◌≡◌ {A = Option A} None (Some a) → P
none_is {A} P a e = absurd (let k : ◌≡◌ {A = Option A} None (Some a) = e in cc)

-- the one that is chosen
chosen : {A : Type 0} (b : Bool) (x y : A) → (if b then Some x else None) ≡ Some y → (b ≡ true) × (x ≡ y)
chosen true x y e = (refl, same_some x y e)
chosen false x y e = none_is _ y e

abbrev pub Wide : ℕ → Type 0
Wide n = n < 2 ^ 64

first_ranged : {A : Type 0} (P : A → Type 0) (xs : List A) (x : A × List A) → Each P xs → first xs ≡ Some x → P x.0 × Each P x.1
first_ranged {A} P [] x h e = none_is _ x e
first_ranged {A} P (y ∷ ys) x h e = subst (λ (z : A × List A). P z.0 × Each P z.1) (same_some (y, ys) x e) h

end_ranged : {A : Type 0} (P : A → Type 0) (x : A) (ns : List ℕ) (y : A) → P x → if_no_number x ns ≡ Some y → P y
end_ranged P x [] y h e = subst P (same_some x y e) h
end_ranged P x (n ∷ ns) y h e = none_is _ y e

small_ranged : (ns : List ℕ) (n : ℕ × List ℕ) → Each Wide ns → small ns ≡ Some n → (n.0 < 2 ^ 32) × Each Wide n.1
unfolding small
small_ranged ns n h e =
    let front = both_some _ _ n e in
    let fits = first_ranged Wide ns front.0 h front.1 in
    let picked = chosen (nat_lt front.0.0 (2 ^ 32)) front.0 n front.2 in
    let less : front.0.0 < 2 ^ 32 = ltb-true front.0.0 (2 ^ 32) picked.0 in
    subst (λ (z : ℕ × List ℕ). (z.0 < 2 ^ 32) × Each Wide z.1) picked.1 (less, fits.1)

name_ranged : (ns : List ℕ) (a : Name × List ℕ) → Each Wide ns → a_name ns ≡ Some a → FitsName a.0 × Each Wide a.1
unfolding a_name
name_ranged ns a h e =
    let sort = both_some _ _ a e in
    let num = both_some _ _ a sort.2 in
    let s = small_ranged ns sort.0 h sort.1 in
    let n = first_ranged Wide sort.0.1 num.0 s.1 num.1 in
    subst (λ (z : Name × List ℕ). FitsName z.0 × Each Wide z.1) (same_some _ a num.2) ((s.0, n.0), n.1)

swap_ranged : (ns : List ℕ) (s : Swap × List ℕ) → Each Wide ns → a_swap ns ≡ Some s → FitsSwap s.0 × Each Wide s.1
unfolding a_swap
swap_ranged ns s h e =
    let sort = both_some _ _ s e in
    let left = both_some _ _ s sort.2 in
    let right = both_some _ _ s left.2 in
    let k = small_ranged ns sort.0 h sort.1 in
    let l = first_ranged Wide sort.0.1 left.0 k.1 left.1 in
    let r = first_ranged Wide left.0.1 right.0 l.1 right.1 in
    subst (λ (z : Swap × List ℕ). FitsSwap z.0 × Each Wide z.1) (same_some _ s right.2) ((k.0, l.0, r.0), r.1)

swaps_ranged : (k : ℕ) (ns : List ℕ) (ss : List Swap × List ℕ) → Each Wide ns → swaps k ns ≡ Some ss → (length ss.0 ≡ k) × Each FitsSwap ss.0 × Each Wide ss.1
swaps_ranged zero ns ss h e = subst (λ (z : List Swap × List ℕ). (length z.0 ≡ zero) × Each FitsSwap z.0 × Each Wide z.1) (same_some ([], ns) ss e) (refl, tt, h)
swaps_ranged (suc k) ns ss h e =
    let s = both_some _ _ ss e in
    let more = both_some (swaps k s.0.1) (λ m. Some (s.0.0 ∷ m.0, m.1)) ss s.2 in
    let one = swap_ranged ns s.0 h s.1 in
    let others = swaps_ranged k s.0.1 more.0 one.1 more.1 in
    subst (λ (z : List Swap × List ℕ). (length z.0 ≡ suc k) × Each FitsSwap z.0 × Each Wide z.1) (same_some _ ss more.2) (ap suc others.0, (one.0, others.1), others.2)

-- a suspension, from its numbers
susp_ranged : (k x : ℕ) (ss : List Swap) → Wide k → length ss ≡ k → Each FitsSwap ss → Wide x → FitsTerm (terms.susp ss (record { num = x }))
susp_ranged k x ss few long h wide = ((subst (λ (z : ℕ). z < 2 ^ 64) (let back : k ≡ length ss = cc in back) few, h), wide)

-- a letter before numbers and terms
term_onto_ranged : (l : Letter) (ns : List ℕ) (ts us : List NominalTerm) → Each Wide ns → Each FitsTerm ts → term_onto l ns ts ≡ Some us → Each FitsTerm us
unfolding name_onto pair_onto app_onto abs_onto susp_onto
term_onto_ranged letter.U ns ts us h g e = end_ranged (Each FitsTerm) (terms.unit ∷ ts) ns us (tt, g) e
term_onto_ranged letter.N ns ts us h g e =
    let a = both_some _ _ us e in
    let fits = name_ranged ns a.0 h a.1 in
    end_ranged (Each FitsTerm) (terms.name a.0.0 ∷ ts) a.0.1 us (fits.0, g) a.2
term_onto_ranged letter.P ns ts us h g e =
    let t = both_some _ _ us e in
    let u = both_some _ _ us t.2 in
    let left = first_ranged FitsTerm ts t.0 g t.1 in
    let right = first_ranged FitsTerm t.0.1 u.0 left.1 u.1 in
    end_ranged (Each FitsTerm) (terms.pair t.0.0 u.0.0 ∷ u.0.1) ns us ((left.0, right.0), right.1) u.2
term_onto_ranged letter.A ns ts us h g e =
    let f = both_some _ _ us e in
    let t = both_some _ _ us f.2 in
    let head = small_ranged ns f.0 h f.1 in
    let part = first_ranged FitsTerm ts t.0 g t.1 in
    end_ranged (Each FitsTerm) (terms.app f.0.0 t.0.0 ∷ t.0.1) f.0.1 us ((head.0, part.0), part.1) t.2
term_onto_ranged letter.L ns ts us h g e =
    let a = both_some _ _ us e in
    let t = both_some _ _ us a.2 in
    let head = name_ranged ns a.0 h a.1 in
    let part = first_ranged FitsTerm ts t.0 g t.1 in
    end_ranged (Each FitsTerm) (terms.abs a.0.0 t.0.0 ∷ t.0.1) a.0.1 us ((head.0, part.0), part.1) t.2
term_onto_ranged letter.S ns ts us h g e =
    let k = both_some _ _ us e in
    let front = both_some _ _ us k.2 in
    let x = both_some _ _ us front.2 in
    let few = first_ranged Wide ns k.0 h k.1 in
    let all = swaps_ranged k.0.0 k.0.1 front.0 few.1 front.1 in
    let num = first_ranged Wide front.0.1 x.0 all.2 x.1 in
    end_ranged (Each FitsTerm) (terms.susp front.0.0 (record { num = x.0.0 }) ∷ ts) x.0.1 us (susp_ranged k.0.0 x.0.0 front.0.0 few.0 all.0 all.1 num.0, g) x.2
term_onto_ranged letter.D ns ts us h g e = none_is _ us e
term_onto_ranged letter.B ns ts us h g e = none_is _ us e

type_onto_ranged : (l : Letter) (ns : List ℕ) (ts us : List NominalType) → Each Wide ns → Each FitsType ts → type_onto l ns ts ≡ Some us → Each FitsType us
unfolding names_onto base_onto pair_type_onto list_onto abs_type_onto
type_onto_ranged letter.U ns ts us h g e = end_ranged (Each FitsType) (types.unit ∷ ts) ns us (tt, g) e
type_onto_ranged letter.N ns ts us h g e =
    let s = both_some _ _ us e in
    let fits = small_ranged ns s.0 h s.1 in
    end_ranged (Each FitsType) (types.names s.0.0 ∷ ts) s.0.1 us (fits.0, g) s.2
type_onto_ranged letter.D ns ts us h g e =
    let d = both_some _ _ us e in
    let fits = small_ranged ns d.0 h d.1 in
    end_ranged (Each FitsType) (types.base d.0.0 ∷ ts) d.0.1 us (fits.0, g) d.2
type_onto_ranged letter.P ns ts us h g e =
    let t = both_some _ _ us e in
    let u = both_some _ _ us t.2 in
    let left = first_ranged FitsType ts t.0 g t.1 in
    let right = first_ranged FitsType t.0.1 u.0 left.1 u.1 in
    end_ranged (Each FitsType) (types.pair t.0.0 u.0.0 ∷ u.0.1) ns us ((left.0, right.0), right.1) u.2
type_onto_ranged letter.L ns ts us h g e =
    let t = both_some _ _ us e in
    let part = first_ranged FitsType ts t.0 g t.1 in
    end_ranged (Each FitsType) (types.list t.0.0 ∷ t.0.1) ns us part t.2
type_onto_ranged letter.B ns ts us h g e =
    let s = both_some _ _ us e in
    let t = both_some _ _ us s.2 in
    let head = small_ranged ns s.0 h s.1 in
    let part = first_ranged FitsType ts t.0 g t.1 in
    end_ranged (Each FitsType) (types.abs s.0.0 t.0.0 ∷ t.0.1) s.0.1 us ((head.0, part.0), part.1) t.2
type_onto_ranged letter.A ns ts us h g e = none_is _ us e
type_onto_ranged letter.S ns ts us h g e = none_is _ us e

-- the forms that words are
module _ {T : Type 0} (onto : Onto T) (P : T → Type 0) (ranged : (l : Letter) (ns : List ℕ) (ts us : List T) → Each Wide ns → Each P ts → onto l ns ts ≡ Some us → Each P us) where
  abbrev AreForms : Forms T → Type 0
  AreForms f = Each Wide f.numbers × Each P f.whole

  mapped_ranged : (o : Option (List T)) (f : Forms T) → ((us : List T) → o ≡ Some us → Each P us) → option_map forms_only o ≡ Some f → AreForms f
  mapped_ranged None f h e = none_is _ f e
  mapped_ranged (Some us) f h e = subst AreForms (same_some (forms_only us) f e) (tt, h us refl)

  word_ranged : (w : Word) (f g : Forms T) → Fits w → AreForms f → word_onto onto w f ≡ Some g → AreForms g
  word_ranged (word.Number n) f g h k e = subst AreForms (same_some (record f { numbers = n ∷ f.numbers }) g e) ((h, k.0), k.1)
  word_ranged (word.Letter l) f g h k e = mapped_ranged (onto l f.numbers f.whole) g (λ us is. ranged l f.numbers f.whole us k.0 k.1 is) e
  word_ranged (word.Node n) f g h k e = none_is _ g e
  word_ranged (word.Head n) f g h k e = none_is _ g e

  forms_ranged : (ws : List Word) (f : Forms T) → Each Fits ws → forms onto ws ≡ Some f → AreForms f
  forms_ranged [] f h e = subst AreForms (same_some (forms_only []) f e) (tt, tt)
  forms_ranged (w ∷ ws) f h e =
      let more = both_some _ _ f e in
      word_ranged w more.0 f h.0 (forms_ranged ws more.0 h.1 more.1) more.2

  only_ranged : (ns : List ℕ) (ts : List T) (t : T) → Each P ts → only ns ts ≡ Some t → P t
  only_ranged [] [] t h e = none_is _ t e
  only_ranged [] (u ∷ []) t h e = subst P (same_some u t e) h.0
  only_ranged [] (u ∷ (v ∷ ts)) t h e = none_is _ t e
  only_ranged (n ∷ ns) ts t h e = none_is _ t e

  pub form_ranged : (ws : List Word) (t : T) → Each Fits ws → form onto ws ≡ Some t → P t
  unfolding form
  form_ranged ws t h e =
      let f = both_some _ _ t e in
      only_ranged f.0.numbers f.0.whole t ((forms_ranged ws f.0 h f.1).1) f.2

-- words behind the first
after_ranged : (h : Head) (ws vs : List Word) → Each Fits ws → after_head h ws ≡ Some vs → Each Fits vs
unfolding after_head
after_ranged h [] vs f e = none_is _ vs e
after_ranged h (word.Head k ∷ ws) vs f e = subst (Each Fits) ((chosen _ ws vs e).1) f.1
after_ranged h (word.Number n ∷ ws) vs f e = none_is _ vs e
after_ranged h (word.Letter l ∷ ws) vs f e = none_is _ vs e
after_ranged h (word.Node k ∷ ws) vs f e = none_is _ vs e

word_number_ranged : (ws : List Word) (n : ℕ × List Word) → Each Fits ws → number ws ≡ Some n → Wide n.0 × Each Fits n.1
word_number_ranged [] n f e = none_is _ n e
word_number_ranged (word.Number m ∷ ws) n f e = subst (λ (z : ℕ × List Word). Wide z.0 × Each Fits z.1) (same_some (m, ws) n e) f
word_number_ranged (word.Letter l ∷ ws) n f e = none_is _ n e
word_number_ranged (word.Node k ∷ ws) n f e = none_is _ n e
word_number_ranged (word.Head h ∷ ws) n f e = none_is _ n e

small_number_ranged : (ws : List Word) (n : ℕ × List Word) → Each Fits ws → small_number ws ≡ Some n → (n.0 < 2 ^ 32) × Each Fits n.1
unfolding small_number
small_number_ranged ws n f e =
    let m = both_some _ _ n e in
    let fits = word_number_ranged ws m.0 f m.1 in
    let picked = chosen (nat_lt m.0.0 (2 ^ 32)) m.0 n m.2 in
    let less : m.0.0 < 2 ^ 32 = ltb-true m.0.0 (2 ^ 32) picked.0 in
    subst (λ (z : ℕ × List Word). (z.0 < 2 ^ 32) × Each Fits z.1) picked.1 (less, fits.1)

word_name_ranged : (ws : List Word) (a : Name × List Word) → Each Fits ws → name ws ≡ Some a → FitsName a.0 × Each Fits a.1
unfolding name
word_name_ranged ws a f e =
    let sort = both_some _ _ a e in
    let num = both_some _ _ a sort.2 in
    let s = small_number_ranged ws sort.0 f sort.1 in
    let n = word_number_ranged sort.0.1 num.0 s.1 num.1 in
    subst (λ (z : Name × List Word). FitsName z.0 × Each Fits z.1) (same_some _ a num.2) ((s.0, n.0), n.1)

line_end_ranged : {A : Type 0} (P : A → Type 0) (x : A) (ws : List Word) (y : A) → P x → lines.if_no_word x ws ≡ Some y → P y
line_end_ranged P x [] y h e = subst P (same_some x y e) h
line_end_ranged P x (w ∷ ws) y h e = none_is _ y e

pub count_ranged : (h : Head) (ws : List Word) (n : ℕ) → Each Fits ws → count_form h ws ≡ Some n → Wide n
unfolding count_form
count_ranged h ws n f e =
    let rest = both_some _ _ n e in
    let m = both_some _ _ n rest.2 in
    let fits = word_number_ranged rest.0 m.0 (after_ranged h ws rest.0 f rest.1) m.1 in
    line_end_ranged Wide m.0.0 m.0.1 n fits.0 m.2

pub query_ranged : (ws : List Word) (q : ℕ) → Each Fits ws → query_form ws ≡ Some q → q < 2 ^ 32
unfolding query_form
query_ranged ws q f e =
    let rest = both_some _ _ q e in
    let m = both_some _ _ q rest.2 in
    let fits = small_number_ranged rest.0 m.0 (after_ranged _ ws rest.0 f rest.1) m.1 in
    line_end_ranged (λ (n : ℕ). n < 2 ^ 32) m.0.0 m.0.1 q fits.0 m.2

pub var_ranged : (ws : List Word) (v : Var × NominalType) → Each Fits ws → var_form ws ≡ Some v → FitsVar v
unfolding var_form
var_ranged ws v f e =
    let rest = both_some _ _ v e in
    let x = both_some _ _ v rest.2 in
    let t = both_some _ _ v x.2 in
    let num = word_number_ranged rest.0 x.0 (after_ranged _ ws rest.0 f rest.1) x.1 in
    let its = form_ranged type_onto FitsType type_onto_ranged x.0.1 t.0 num.1 t.1 in
    subst FitsVar (same_some _ v t.2) (num.0, its)

pub cond_ranged : (ws : List Word) (c : Cond) → Each Fits ws → cond_form ws ≡ Some c → FitsCond c
unfolding cond_form
cond_ranged ws c f e =
    let rest = both_some _ _ c e in
    let a = both_some _ _ c rest.2 in
    let x = both_some _ _ c a.2 in
    let its = word_name_ranged rest.0 a.0 (after_ranged _ ws rest.0 f rest.1) a.1 in
    let num = word_number_ranged a.0.1 x.0 its.1 x.1 in
    line_end_ranged FitsCond (record { name = a.0.0; var = record { num = x.0.0 } }) x.0.1 c (its.0, num.0) x.2

pub name_form_ranged : (ws : List Word) (a : Name) → Each Fits ws → name_form ws ≡ Some a → FitsName a
unfolding name_form
name_form_ranged ws a f e =
    let rest = both_some _ _ a e in
    let b = both_some _ _ a rest.2 in
    let its = word_name_ranged rest.0 b.0 (after_ranged _ ws rest.0 f rest.1) b.1 in
    line_end_ranged FitsName b.0.0 b.0.1 a its.0 b.2

pub term_form_ranged : (ws : List Word) (t : NominalTerm) → Each Fits ws → term_form ws ≡ Some t → FitsTerm t
unfolding term_form
term_form_ranged ws t f e =
    let rest = both_some _ _ t e in
    form_ranged term_onto FitsTerm term_onto_ranged rest.0 t (after_ranged _ ws rest.0 f rest.1) rest.2

-- what the line of a node says
abbrev pub FitsLine : NodeLine NominalTerm → Type 0
FitsLine (lines.atom k names ts) = (k < 2 ^ 32) × Wide names × Wide ts
FitsLine lines.exists = Unit {0}
FitsLine (lines.whole (nodes.atom k names ts)) = (k < 2 ^ 32) × IsListOf FitsName names × IsListOf FitsTerm ts
FitsLine (lines.whole nodes.equal) = Unit {0}
FitsLine (lines.whole nodes.fresh) = Unit {0}
FitsLine (lines.whole nodes.succeed) = Unit {0}
FitsLine (lines.whole nodes.both) = Unit {0}
FitsLine (lines.whole nodes.left) = Unit {0}
FitsLine (lines.whole nodes.right) = Unit {0}
FitsLine (lines.whole (nodes.exists t)) = FitsTerm t
FitsLine (lines.whole (nodes.new a)) = FitsName a

atom_ranged : (ws : List Word) (l : NodeLine NominalTerm) → Each Fits ws → atom_line ws ≡ Some l → FitsLine l
unfolding atom_line
atom_ranged ws l f e =
    let k = both_some _ _ l e in
    let names = both_some _ _ l k.2 in
    let ts = both_some _ _ l names.2 in
    let a = small_number_ranged ws k.0 f k.1 in
    let b = word_number_ranged k.0.1 names.0 a.1 names.1 in
    let c = word_number_ranged names.0.1 ts.0 b.1 ts.1 in
    line_end_ranged FitsLine (lines.atom k.0.0 names.0.0 ts.0.0) ts.0.1 l (a.0, b.0, c.0) ts.2

new_ranged : (ws : List Word) (l : NodeLine NominalTerm) → Each Fits ws → new_line ws ≡ Some l → FitsLine l
unfolding new_line
new_ranged ws l f e =
    let a = both_some _ _ l e in
    let its = word_name_ranged ws a.0 f a.1 in
    line_end_ranged FitsLine (lines.whole (nodes.new a.0.0)) a.0.1 l its.0 a.2

behind_ranged : (k : NodeWord) (ws : List Word) (l : NodeLine NominalTerm) → Each Fits ws → node_behind k ws ≡ Some l → FitsLine l
behind_ranged node.Atom ws l f e = atom_ranged ws l f e
behind_ranged node.Eq ws l f e = line_end_ranged FitsLine (lines.whole nodes.equal) ws l tt e
behind_ranged node.Fresh ws l f e = line_end_ranged FitsLine (lines.whole nodes.fresh) ws l tt e
behind_ranged node.True ws l f e = line_end_ranged FitsLine (lines.whole nodes.succeed) ws l tt e
behind_ranged node.And ws l f e = line_end_ranged FitsLine (lines.whole nodes.both) ws l tt e
behind_ranged node.Left ws l f e = line_end_ranged FitsLine (lines.whole nodes.left) ws l tt e
behind_ranged node.Right ws l f e = line_end_ranged FitsLine (lines.whole nodes.right) ws l tt e
behind_ranged node.Exists ws l f e = line_end_ranged FitsLine lines.exists ws l tt e
behind_ranged node.New ws l f e = new_ranged ws l f e

pub node_ranged : (ws : List Word) (l : NodeLine NominalTerm) → Each Fits ws → node_form ws ≡ Some l → FitsLine l
node_ranged [] l f e = none_is _ l e
node_ranged (word.Node k ∷ ws) l f e = behind_ranged k ws l f.1 e
node_ranged (word.Number n ∷ ws) l f e = none_is _ l e
node_ranged (word.Letter n ∷ ws) l f e = none_is _ l e
node_ranged (word.Head n ∷ ws) l f e = none_is _ l e

-- the derivation that nodes make
abbrev pub FitsNode : nodes.Node NominalTerm → Type 0
FitsNode n = FitsLine (lines.whole n)

over_ranged : (over : NominalDerivation → NominalDerivation) (ds es : List NominalDerivation) → ((d : NominalDerivation) → FitsDerivation d → FitsDerivation (over d))
    → Each FitsDerivation ds → over_first over ds ≡ Some es → Each FitsDerivation es
over_ranged over ds es k h e =
    let d = both_some _ _ es e in
    let fits = first_ranged FitsDerivation ds d.0 h d.1 in
    subst (Each FitsDerivation) (same_some (over d.0.0 ∷ d.0.1) es d.2) (k d.0.0 fits.0, fits.1)

node_onto_ranged : (n : nodes.Node NominalTerm) (ds es : List NominalDerivation) → FitsNode n → Each FitsDerivation ds → node_onto n ds ≡ Some es → Each FitsDerivation es
node_onto_ranged (nodes.atom k names ts) ds es h g e = over_ranged (derivation.atom k names ts) ds es (λ d f. (h.0, h.1, h.2, f)) g e
node_onto_ranged nodes.equal ds es h g e = subst (Each FitsDerivation) (same_some (derivation.equal ∷ ds) es e) (tt, g)
node_onto_ranged nodes.fresh ds es h g e = subst (Each FitsDerivation) (same_some (derivation.fresh ∷ ds) es e) (tt, g)
node_onto_ranged nodes.succeed ds es h g e = subst (Each FitsDerivation) (same_some (derivation.succeed ∷ ds) es e) (tt, g)
node_onto_ranged nodes.both ds es h g e =
    let d = both_some _ _ es e in
    let f = both_some _ _ es d.2 in
    let one = first_ranged FitsDerivation ds d.0 g d.1 in
    let two = first_ranged FitsDerivation d.0.1 f.0 one.1 f.1 in
    subst (Each FitsDerivation) (same_some (derivation.both d.0.0 f.0.0 ∷ f.0.1) es f.2) ((one.0, two.0), two.1)
node_onto_ranged nodes.left ds es h g e = over_ranged derivation.left ds es (λ d f. f) g e
node_onto_ranged nodes.right ds es h g e = over_ranged derivation.right ds es (λ d f. f) g e
node_onto_ranged (nodes.exists t) ds es h g e = over_ranged (derivation.exists t) ds es (λ d f. (h, f)) g e
node_onto_ranged (nodes.new a) ds es h g e = over_ranged (derivation.new a) ds es (λ d f. (h, f)) g e

derivations_ranged : (ns : List (nodes.Node NominalTerm)) (ds : List NominalDerivation) → Each FitsNode ns → derivations ns ≡ Some ds → Each FitsDerivation ds
derivations_ranged [] ds h e = subst (Each FitsDerivation) (same_some [] ds e) tt
derivations_ranged (n ∷ ns) ds h e =
    let more = both_some _ _ ds e in
    node_onto_ranged n more.0 ds h.0 (derivations_ranged ns more.0 h.1 more.1) more.2

one_ranged : (ds : List NominalDerivation) (d : NominalDerivation) → Each FitsDerivation ds → one ds ≡ Some d → FitsDerivation d
one_ranged [] d h e = none_is _ d e
one_ranged (f ∷ []) d h e = subst FitsDerivation (same_some f d e) h.0
one_ranged (f ∷ (g ∷ ds)) d h e = none_is _ d e

pub derivation_ranged : (ns : List (nodes.Node NominalTerm)) (d : NominalDerivation) → Each FitsNode ns → derivation_from ns ≡ Some d → FitsDerivation d
unfolding derivation_from
derivation_ranged ns d h e =
    let ds = both_some _ _ d e in
    one_ranged ds.0 d (derivations_ranged ns ds.0 h ds.1) ds.2

-- the lines of the table, and those that cite it
got_ranged : {A : Type 0} (P : A → Type 0) (xs : List A) (i : ℕ) (x : A) → Each P xs → slice_get xs i ≡ Some x → P x
got_ranged P [] i x h e = none_is _ x e
got_ranged P (y ∷ xs) zero x h e = subst P (same_some y x e) h.0
got_ranged P (y ∷ xs) (suc i) x h e = got_ranged P xs i x h.1 e

before_ranged : (n : ℕ) (o : Option (List ℕ)) (ns : List ℕ) → Wide n → ((ms : List ℕ) → o ≡ Some ms → Each Wide ms) → before_numbers n o ≡ Some ns → Each Wide ns
before_ranged n None ns h k e = none_is _ ns e
before_ranged n (Some ms) ns h k e = subst (Each Wide) (same_some (n ∷ ms) ns e) (h, k ms refl)

numbers_ranged : (ws : List Word) (ns : List ℕ) → Each Fits ws → numbers ws ≡ Some ns → Each Wide ns
numbers_ranged [] ns f e = subst (Each Wide) (same_some [] ns e) tt
numbers_ranged (word.Number n ∷ ws) ns f e = before_ranged n (numbers ws) ns f.0 (λ ms is. numbers_ranged ws ms f.1 is) e
numbers_ranged (word.Letter l ∷ ws) ns f e = none_is _ ns e
numbers_ranged (word.Node k ∷ ws) ns f e = none_is _ ns e
numbers_ranged (word.Head h ∷ ws) ns f e = none_is _ ns e

module _ (table : List NominalTerm) (all : Each FitsTerm table) where
  earlier_ranged : (ns : List ℕ) (t : NominalTerm × List ℕ) → Each Wide ns → earlier table ns ≡ Some t → FitsTerm t.0 × Each Wide t.1
  unfolding earlier
  earlier_ranged ns t h e =
      let i = both_some _ _ t e in
      let u = both_some _ _ t i.2 in
      let wide = first_ranged Wide ns i.0 h i.1 in
      subst (λ (z : NominalTerm × List ℕ). FitsTerm z.0 × Each Wide z.1) (same_some _ t u.2) (got_ranged FitsTerm table i.0.0 u.0 all u.1, wide.1)

  entry_ranged : (l : Letter) (ns : List ℕ) (t : NominalTerm) → Each Wide ns → entry table l ns ≡ Some t → FitsTerm t
  unfolding name_entry pair_entry app_entry abs_entry susp_entry
  entry_ranged letter.U ns t h e = end_ranged FitsTerm terms.unit ns t tt e
  entry_ranged letter.N ns t h e =
      let a = both_some _ _ t e in
      end_ranged FitsTerm (terms.name a.0.0) a.0.1 t ((name_ranged ns a.0 h a.1).0) a.2
  entry_ranged letter.P ns t h e =
      let u = both_some _ _ t e in
      let v = both_some _ _ t u.2 in
      let left = earlier_ranged ns u.0 h u.1 in
      let right = earlier_ranged u.0.1 v.0 left.1 v.1 in
      end_ranged FitsTerm (terms.pair u.0.0 v.0.0) v.0.1 t (left.0, right.0) v.2
  entry_ranged letter.A ns t h e =
      let f = both_some _ _ t e in
      let u = both_some _ _ t f.2 in
      let head = small_ranged ns f.0 h f.1 in
      let part = earlier_ranged f.0.1 u.0 head.1 u.1 in
      end_ranged FitsTerm (terms.app f.0.0 u.0.0) u.0.1 t (head.0, part.0) u.2
  entry_ranged letter.L ns t h e =
      let a = both_some _ _ t e in
      let u = both_some _ _ t a.2 in
      let head = name_ranged ns a.0 h a.1 in
      let part = earlier_ranged a.0.1 u.0 head.1 u.1 in
      end_ranged FitsTerm (terms.abs a.0.0 u.0.0) u.0.1 t (head.0, part.0) u.2
  entry_ranged letter.S ns t h e =
      let k = both_some _ _ t e in
      let front = both_some _ _ t k.2 in
      let x = both_some _ _ t front.2 in
      let few = first_ranged Wide ns k.0 h k.1 in
      let ss = swaps_ranged k.0.0 k.0.1 front.0 few.1 front.1 in
      let num = first_ranged Wide front.0.1 x.0 ss.2 x.1 in
      end_ranged FitsTerm (terms.susp front.0.0 (record { num = x.0.0 })) x.0.1 t (susp_ranged k.0.0 x.0.0 front.0.0 few.0 ss.0 ss.1 num.0) x.2
  entry_ranged letter.D ns t h e = none_is _ t e
  entry_ranged letter.B ns t h e = none_is _ t e

  entry_behind_ranged : (ws : List Word) (t : NominalTerm) → Each Fits ws → entry_behind table ws ≡ Some t → FitsTerm t
  entry_behind_ranged [] t f e = none_is _ t e
  entry_behind_ranged (word.Letter l ∷ ws) t f e =
      let ns = both_some _ _ t e in
      entry_ranged l ns.0 t (numbers_ranged ws ns.0 f.1 ns.1) ns.2
  entry_behind_ranged (word.Number n ∷ ws) t f e = none_is _ t e
  entry_behind_ranged (word.Node n ∷ ws) t f e = none_is _ t e
  entry_behind_ranged (word.Head n ∷ ws) t f e = none_is _ t e

  pub entry_form_ranged : (ws : List Word) (t : NominalTerm) → Each Fits ws → entry_form table ws ≡ Some t → FitsTerm t
  unfolding entry_form
  entry_form_ranged ws t f e =
      let rest = both_some _ _ t e in
      entry_behind_ranged rest.0 t (after_ranged _ ws rest.0 f rest.1) rest.2

  pub shared_form_ranged : (ws : List Word) (t : NominalTerm) → Each Fits ws → shared_form table ws ≡ Some t → FitsTerm t
  unfolding shared_form
  shared_form_ranged ws t f e =
      let rest = both_some (after_head head.R ws) (λ (vs : List Word). number vs >>= λ i. slice_get table i.0 >>= λ u. lines.if_no_word u i.1) t e in
      let i = both_some (number rest.0) (λ (i : ℕ × List Word). slice_get table i.0 >>= λ u. lines.if_no_word u i.1) t rest.2 in
      let u = both_some (slice_get table i.0.0) (λ (u : NominalTerm). lines.if_no_word u i.0.1) t i.2 in
      line_end_ranged FitsTerm u.0 i.0.1 t (got_ranged FitsTerm table i.0.0 u.0 all u.1) u.2

-- the words of a line
spelled_ranged : (text : List ℕ) (n : ℕ) → number_of text ≡ Some n → Wide n
unfolding number_of
spelled_ranged text n e =
    let picked = chosen (is_numeral text && nat_lt (digits_value 10 text) (2 ^ 64)) (digits_value 10 text) n e in
    let less = second (is_numeral text) (nat_lt (digits_value 10 text) (2 ^ 64)) picked.0 in
    let wide : digits_value 10 text < 2 ^ 64 = ltb-true (digits_value 10 text) (2 ^ 64) less in
    subst Wide picked.1 wide
  where
    second : (a b : Bool) → (a && b) ≡ true → b ≡ true
    second true b h = h
    second false b h = cc

word_of_ranged : (text : List ℕ) (w : Word) → word_of text ≡ Some w → Fits w
unfolding word_of
word_of_ranged text w e = go (number_of text) (letter_of text) (node_word_of text) (head_of text) (spelled_ranged text) e
  where
    go : (a : Option ℕ) (b : Option Letter) (c : Option NodeWord) (d : Option Head) → ((n : ℕ) → a ≡ Some n → Wide n)
        → either (option_map word.Number a) (either (option_map word.Letter b) (either (option_map word.Node c) (option_map word.Head d))) ≡ Some w → Fits w
    go (Some n) b c d h e = subst Fits (same_some (word.Number n) w e) (h n refl)
    go None (Some l) c d h e = subst Fits (same_some (word.Letter l) w e) tt
    go None None (Some k) d h e = subst Fits (same_some (word.Node k) w e) tt
    go None None None (Some k) h e = subst Fits (same_some (word.Head k) w e) tt
    go None None None None h e = none_is _ w e

words_of_ranged : (texts : List (List ℕ)) (ws : List Word) → words_spelled texts ≡ Some ws → Each Fits ws
words_of_ranged [] ws e = subst (Each Fits) (same_some [] ws e) tt
words_of_ranged (text ∷ texts) ws e = go (word_of text) (words_spelled texts) (word_of_ranged text) (words_of_ranged texts) e
  where
    go : (a : Option Word) (b : Option (List Word)) → ((w : Word) → a ≡ Some w → Fits w) → ((vs : List Word) → b ≡ Some vs → Each Fits vs)
        → option_and_then (λ w. before_words w b) a ≡ Some ws → Each Fits ws
    go None b h k e = none_is _ ws e
    go (Some w) None h k e = none_is _ ws e
    go (Some w) (Some vs) h k e = subst (Each Fits) (same_some (w ∷ vs) ws e) (h w refl, k vs refl)

pub line_ranged : (text : List ℕ) (ws : List Word) → line_words text ≡ Some ws → Each Fits ws
line_ranged text ws e = words_of_ranged (slice_split (λ b. b == 32) text) ws e
