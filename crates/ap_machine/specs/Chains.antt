-- What is kept of variables that are closed one after the other.
use Rattle.std.specs.Prelude.{◌≡◌, [], IfSome}
use Rattle.ap_defs.specs.Answers.{closed_term}
use Rattle.ap_defs.specs.Resolution.{State}
use Rattle.ap_defs.specs.Terms.{susp, term_of}
use Rattle.ap_machine.specs.declared.chains.ToClose.{ToClose}

-- what is made of a variable is what it stands for
abbrev pub IsRight : State → ToClose → Type 0
IsRight s e = IfSome e.term (λ t. term_of t ≡ closed_term s (susp [] e.var))
