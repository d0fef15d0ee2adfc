use Rattle.std.proofs.Common.{◌≡◌, false, map, rules}
use Rattle.ap_defs.specs.RawTerms.{raw_of}
use Rattle.ap_defs.specs.Types.{kind_of}
use Rattle.ap_kinds.proofs.SortLemmas.{terms_keep}
use Rattle.ap_kinds.proofs.sorts.terms_with_sorts.Goals as goal

pub returns-then-not-has_names : goal.returns-then-not-has_names
returns-then-not-has_names c =
    let none : c.has_names.result ≡ false = search rules in
    terms_keep (map kind_of c.args.kinds.now) (c.has_names.ensures none) (map raw_of c.args.terms)
