-- Every ground proof has one with the names of a search, of the same path and height.
use Rattle.std.proofs.Common.{subst, ◌≡◌, ◌+◌, ◌≤◌, ℕ, List, [], ◌∷◌, ◌++◌, map, length, max, refl, sym, ap, ap₂, arith}
use Rattle.std.specs.Prelude.{Option}
use Rattle.std.proofs.lemmas.List.{length-append}
use Rattle.ap_defs.specs.Derivations as nodes
use Rattle.ap_defs.specs.Derivations.{GroundProof, height, path}
use Rattle.ap_defs.specs.Goals as goals
use Rattle.ap_defs.specs.Goals.{NominalGoal, NominalClause, NominalProgram, clauses_of}
use Rattle.ap_defs.specs.GroundProofs.{IsValid}
use Rattle.ap_defs.specs.Permutations.{act_name}
use Rattle.ap_defs.specs.Terms.{GroundTerm, act_ground}
use Rattle.ap_defs.specs.Types.{NominalConstructor, NominalKind}
use Rattle.ap_defs.specs.declared.terms.Name.{Name}
use Rattle.ap_complete.specs.RenamedProofs.{IsReady}
use Rattle.ap_complete.specs.StatementsOnRenaming.{ProofsAreRenamed}
use Rattle.ap_complete.specs.Restriction.{KeepsRestriction}
use Rattle.ap_theory.proofs.GroundLemmas.{act_ground_none}
use Rattle.ap_ground.specs.Environments.{act_proof}
use Rattle.ap_complete.specs.NumberedProofs.{IsNamed, kinds_in, kinds_of_use}
use Rattle.ap_complete.proofs.ReadyLemmas.{Renames, either_both, left_part, right_part}
use Rattle.ap_complete.proofs.AtomLemmas.{atom_renamed}
use Rattle.ap_complete.proofs.BinderLemmas.{exists_renamed, new_renamed}

-- The identity on proofs, as a permutation of nothing.
act_proof-none : (d : GroundProof) → act_proof [] d ≡ d
act_proof-none (nodes.atom k names gs d) =
    ap₂ (λ (x : List Name × List GroundTerm) (y : GroundProof). nodes.atom k x.0 x.1 y) (ap₂ (λ (x : List Name) (y : List GroundTerm). (x, y)) (names_none names) (terms_none gs)) (act_proof-none d)
  where
    names_none : (as' : List Name) → map (act_name []) as' ≡ as'
    names_none [] = refl
    names_none (a ∷ as') = ap (λ l. a ∷ l) (names_none as')

    terms_none : (hs : List GroundTerm) → map (act_ground []) hs ≡ hs
    terms_none [] = refl
    terms_none (h ∷ hs) = ap₂ ◌∷◌ (act_ground_none h) (terms_none hs)
act_proof-none nodes.equal = refl
act_proof-none nodes.fresh = refl
act_proof-none nodes.succeed = refl
act_proof-none (nodes.both d e) = ap₂ nodes.both (act_proof-none d) (act_proof-none e)
act_proof-none (nodes.left d) = ap nodes.left (act_proof-none d)
act_proof-none (nodes.right d) = ap nodes.right (act_proof-none d)
act_proof-none (nodes.exists g d) = ap₂ nodes.exists (act_ground_none g) (act_proof-none d)
act_proof-none (nodes.new c d) = ap (nodes.new c) (act_proof-none d)

module _ (p : NominalProgram) (restricted : KeepsRestriction p) where
  abbrev cs : List NominalConstructor
  cs = p.signature.constructors

  more : (i j : ℕ) → i ≤ i + j
  more i j = omega arith

  pub renamed : (proof : GroundProof) → Renames p proof
  renamed nodes.succeed goals.succeed s kinds n m e r v = record { result = nodes.succeed; valid = v; named = tt; same_path = refl; same_height = refl; same_kinds = refl }
  renamed nodes.equal (goals.equal t u) s kinds n m e r v = record { result = nodes.equal; valid = v; named = tt; same_path = refl; same_height = refl; same_kinds = refl }
  renamed nodes.fresh (goals.fresh t u) s kinds n m e r v = record { result = nodes.fresh; valid = v; named = tt; same_path = refl; same_height = refl; same_kinds = refl }
  renamed (nodes.both d f) (goals.both g h) s kinds n m e r v =
      let kd = length (kinds_in p g d) in
      let kf = length (kinds_in p h f) in
      let sum = length-append (kinds_in p g d) (kinds_in p h f) in
      let x = renamed d g s kinds n m e (left_part p kinds n m (length (kinds_in p g d ++ kinds_in p h f)) kd g h e (omega arith) r) v.0 in
      let y = renamed f h s kinds n (m + kd) e (right_part p kinds n m (length (kinds_in p g d ++ kinds_in p h f)) (m + kd) kf g h e (more m kd) (omega arith) r) v.1 in
      record {
        result = nodes.both x.result y.result;
        valid = (x.valid, y.valid);
        named = (x.named, subst (λ (l : List NominalKind). IsNamed p n (m + length l) h y.result) (sym x.same_kinds) y.named);
        same_path = ap₂ ◌++◌ x.same_path y.same_path;
        same_height = ap₂ max x.same_height y.same_height;
        same_kinds = ap₂ ◌++◌ x.same_kinds y.same_kinds;
      }
  renamed (nodes.left d) (goals.either g h) s kinds n m e r v =
      let k = length (kinds_in p g d) in
      let x = renamed d g s kinds n m e (left_part p kinds n m k k g h e (omega arith) (either_both p kinds n m k g h e r)) v in
      record { result = nodes.left x.result; valid = x.valid; named = x.named; same_path = ap (λ l. 1 ∷ l) x.same_path; same_height = x.same_height; same_kinds = x.same_kinds }
  renamed (nodes.right d) (goals.either g h) s kinds n m e r v =
      let k = length (kinds_in p h d) in
      let x = renamed d h s kinds n m e (right_part p kinds n m k m k g h e (omega arith) (omega arith) (either_both p kinds n m k g h e r)) v in
      record { result = nodes.right x.result; valid = x.valid; named = x.named; same_path = ap (λ l. 2 ∷ l) x.same_path; same_height = x.same_height; same_kinds = x.same_kinds }
  renamed (nodes.exists t d) (goals.exists x g) s kinds n m e r v = exists_renamed p restricted d (renamed d) x g t s kinds n m e r v
  renamed (nodes.new c d) (goals.new a g) s kinds n m e r v = new_renamed p restricted d (renamed d) a g c s kinds n m e r v
  renamed (nodes.atom k names gs d) (goals.atom q ts) s kinds n m e r v =
      atom_renamed p restricted d (renamed d) q k ts names gs kinds n m e v.0 v.1 s
      (subst (λ (o : Option NominalClause). IsReady p kinds n m (length (kinds_of_use (λ g. kinds_in p g d) o)) (goals.atom q ts) e) v.1 r) v
  renamed _ _ s kinds n m e r v = absurd v

pub proofs_renamed : ProofsAreRenamed
proofs_renamed p keeps kinds n m g e proof r v = renamed p keeps proof g [] kinds n m e r (subst (λ (d : GroundProof). IsValid p kinds d g e) (sym (act_proof-none proof)) v)
