-- What the calls answer, as outcomes of the model: document 01's number and values for each case.
use Rattle.std.specs.Prelude.{ℕ, Result, Ok, Err}
use Rattle.loes.specs.Numbers.{number_of}
use Rattle.loes.specs.Model.{refused, tells, rank_is, Outcome, saying}
use Rattle.loes.specs.declared.refusal.Refusal.{Refusal}
use Rattle.encoding.specs.declared.opening.Opened.{Opened}

abbrev pub told_outcome : Result Opened Refusal → Outcome
told_outcome (Err k) = saying (refused (number_of k))
told_outcome (Ok o) = saying (tells o.encoding.width o.encoding.count o.encoding.bits)

abbrev pub ranked_outcome : Result ℕ Refusal → Outcome
ranked_outcome (Err k) = saying (refused (number_of k))
ranked_outcome (Ok r) = saying (rank_is r)
