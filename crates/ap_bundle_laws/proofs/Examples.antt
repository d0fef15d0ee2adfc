-- The definitions, computed on small bundles.
use Rattle.std.proofs.Common.{◌≡◌, [], ◌∷◌, refl}
use Rattle.std.specs.Prelude.{codes}
use Rattle.std.specs.Fmt.{digits}
use Rattle.ap_defs.specs.Terms as terms
use Rattle.ap_defs.specs.Derivations.{fresh, equal}
use Rattle.ap_bundle.specs.Words.{line}
use Rattle.ap_bundle.specs.Bundles.{NominalBundle}
use Rattle.ap_bundle.specs.declared.version.Version.TheVariants.{One, Two}
use Rattle.ap_bundle.specs.Written.{written, written_as}

abbrev small_bundle : NominalBundle
small_bundle = record {
  text = codes "id : name_type.\n?- a # b.\n";
  proved = record { query = 1; answer = record { binds = []; conds = []; vars = [] }; derivation = fresh } ∷ [];
}

pub small_written : written small_bundle ≡ codes "alphaprolog bundle 1\ntext 26\nid : name_type.\n?- a # b.\n\nderivations 1\nderivation 1\nvars 0\nconds 0\nbinds 0\nfresh\nend\n"
unfolding line digits
small_written = refl

-- the answer to `?- X = a.`
abbrev named_bundle : NominalBundle
named_bundle = record {
  text = codes "id : name_type.\n?- X = a.\n";
  proved = record { query = 1; answer = record { binds = terms.name (record { sort = 0; num = 1 }) ∷ []; conds = []; vars = [] }; derivation = equal } ∷ [];
}

pub named_in_full : written_as One named_bundle ≡ codes "alphaprolog bundle 1\ntext 26\nid : name_type.\n?- X = a.\n\nderivations 1\nderivation 1\nvars 0\nconds 0\nbinds 1\nt n 0 1\neq\nend\n"
unfolding line digits
named_in_full = refl

pub named_shared : written_as Two named_bundle ≡ codes "alphaprolog bundle 2\ntext 26\nid : name_type.\n?- X = a.\n\nterms 1\nt n 0 1\nderivations 1\nderivation 1\nvars 0\nconds 0\nbinds 1\nr 0\neq\nend\n"
unfolding line digits
named_shared = refl

-- a pair of equal pairs, and a part of it: each different term has one line
abbrev doubled_bundle : NominalBundle
doubled_bundle = record {
  text = [];
  proved = record {
    query = 1;
    answer = record { binds = terms.pair (terms.pair terms.unit terms.unit) (terms.pair terms.unit terms.unit) ∷ terms.pair terms.unit terms.unit ∷ []; conds = []; vars = [] };
    derivation = equal;
  } ∷ [];
}

pub doubled_shared : written_as Two doubled_bundle ≡ codes "alphaprolog bundle 2\ntext 0\n\nterms 3\nt u\nt p 0 0\nt p 1 1\nderivations 1\nderivation 1\nvars 0\nconds 0\nbinds 2\nr 2\nr 1\neq\nend\n"
unfolding line digits
doubled_shared = refl
