-- What covers a proof, as the program has it.
use Rattle.ap_cover.specs.Covers.{NominalCover, answer, stuck}
use Rattle.ap_cover.specs.declared.covers.Cover.{Cover}
use Rattle.ap_cover.specs.declared.covers.Cover.TheVariants as code

abbrev pub cover_said : Cover → NominalCover
cover_said (code.Answer place path) = answer place path.now
cover_said (code.Stuck place path) = stuck place path.now
