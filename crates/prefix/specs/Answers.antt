-- What the answer says in the specification's words.
use Rattle.std.specs.Prelude.{Result, Ok, Err}
use Rattle.loes.specs.Numbers.{number_of}
use Rattle.loes.specs.Model.{Outcome, refused, range_is, saying}
use Rattle.loes.specs.declared.refusal.Refusal.{Refusal}
use Rattle.prefix.specs.declared.Span.{Span}

abbrev pub prefixed_outcome : Result Span Refusal → Outcome
prefixed_outcome (Err k) = saying (refused (number_of k))
prefixed_outcome (Ok s) = saying (range_is s.first.0 s.count)
