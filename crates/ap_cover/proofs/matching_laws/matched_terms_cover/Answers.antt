use Rattle.ap_cover.proofs.MatchedLemmas.{matched_cover}
use Rattle.ap_cover.proofs.matching_laws.matched_terms_cover.Goals as goal

pub returns : goal.returns
returns c = matched_cover
