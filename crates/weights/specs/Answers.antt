-- What each answer of the calls says, with the lent outputs at exit; a post at a place; and a join with lists by its kind.
use Rattle.std.specs.Prelude.{cond, [], ◌∷◌, ℕ, ℤ, ◌+ℤ◌, Bool, true, false, get_or, set, Result, Ok, Err}
use Rattle.loes.specs.Bytes.{Bytes}
use Rattle.loes.specs.Refusals.{overflow}
use Rattle.loes.specs.Numbers.{number_of}
use Rattle.loes.specs.declared.refusal.Refusal.{Refusal}
use Rattle.loes.specs.Model.{refused, wrote, is_posted, is_absent}
use Rattle.join.specs.declared.Join.{Join}
use Rattle.join.specs.declared.Join.TheVariants as join
use Rattle.weights.specs.Weights.{Weights, no_weight, outside, WeightedOutcome, leaving, union_weighted_call, difference_weighted_call}

abbrev pub posting_outcome : Result Bool Refusal → Weights → WeightedOutcome
posting_outcome (Err k) ws = leaving (refused (number_of k)) [] ws
posting_outcome (Ok true) ws = leaving is_posted [] ws
posting_outcome (Ok false) ws = leaving is_absent [] ws

abbrev pub weighted_outcome : Result ℕ Refusal → Bytes → Weights → WeightedOutcome
weighted_outcome (Err k) out ws = leaving (refused (number_of k)) (out ∷ []) ws
weighted_outcome (Ok n) out ws = leaving (wrote (n ∷ [])) (out ∷ []) ws

-- an amount to the entry at a place, unless the sum leaves 32 signed bits
unfoldable pub posted_at : Weights → ℕ → ℤ → WeightedOutcome
posted_at ws i amount =
    cond (outside (get_or ws i no_weight +ℤ amount)) (leaving (refused overflow) [] ws) (leaving is_posted [] (set ws i (get_or ws i no_weight +ℤ amount)))

-- the call that is asked for; a difference has no second list
abbrev pub weighted_call : Join → Bytes → Weights → Bytes → Weights → Bytes → Weights → WeightedOutcome
weighted_call join.Union a wa b wb out ws = union_weighted_call a wa b wb out ws
weighted_call join.Difference a wa b wb out ws = difference_weighted_call a wa b out ws
