-- The calls on bytes: the refusal of an encoding, or what the model answers for its entry. Public functions promise these.
use Rattle.std.specs.Prelude.{ℕ, List, [], ◌∷◌}
use Rattle.loes.specs.Bytes.{Bytes}
use Rattle.loes.specs.Entry.{Entry}
use Rattle.loes.specs.Read.{Reading, rejected, opened, read}
use Rattle.loes.specs.Model.{OutcomeOf, Outcome, refusal, pack, union, difference, split, opens, contains, index_of, key_at, rank_at, lower_bound, prefix}

-- refused with the reading's number, every buffer kept, or what follows for the entry
unfoldable pub after_reading : {L : Type 0} → Reading → L → (Entry → OutcomeOf L) → OutcomeOf L
after_reading (rejected k) bufs next = (refusal k bufs).outcome
after_reading (opened e) bufs next = next e

unfoldable pub reading : {L : Type 0} → Bytes → L → (Entry → OutcomeOf L) → OutcomeOf L
reading l bufs next = after_reading (read l) bufs next

unfoldable pub pack_call : ℕ → Bytes → Bytes → Outcome
pack_call m batch out = (pack m batch out).outcome

-- first encoding, second encoding, then 13, 5, 14
unfoldable pub union_call : Bytes → Bytes → Bytes → Outcome
union_call a b out = reading a (out ∷ []) λ e. reading b (out ∷ []) λ f. (union e f out).outcome

unfoldable pub difference_call : Bytes → Bytes → Bytes → Outcome
difference_call a b out = reading a (out ∷ []) λ e. reading b (out ∷ []) λ f. (difference e f out).outcome

unfoldable pub split_call : Bytes → Bytes → Bytes → Bytes → Bytes → Outcome
split_call a b both only_first only_second =
    let bufs : List Bytes = both ∷ only_first ∷ only_second ∷ [] in
    reading a bufs λ e. reading b bufs λ f. (split e f both only_first only_second).outcome

unfoldable pub open_call : Bytes → Outcome
open_call l = reading l [] λ e. (opens e).outcome

unfoldable pub contains_call : Bytes → Bytes → Outcome
contains_call l x = reading l [] λ e. (contains e x).outcome

unfoldable pub index_of_call : Bytes → Bytes → Outcome
index_of_call l x = reading l [] λ e. (index_of e x).outcome

unfoldable pub key_at_call : Bytes → ℕ → Bytes → Outcome
key_at_call l i out = reading l (out ∷ []) λ e. (key_at e i out).outcome

unfoldable pub rank_call : Bytes → ℕ → Outcome
rank_call l o = reading l [] λ e. (rank_at e o).outcome

unfoldable pub lower_bound_call : Bytes → Bytes → Outcome
lower_bound_call l x = reading l [] λ e. (lower_bound e x).outcome

unfoldable pub prefix_call : Bytes → ℕ → Bytes → Outcome
prefix_call l p x = reading l [] λ e. (prefix e p x).outcome
