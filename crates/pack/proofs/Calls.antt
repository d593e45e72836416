-- The call of pack, by what is answered for its batch
use mathlib.Core.Path.{◌≡◌, sym, ap}
use Prim.Native.Nat.{ℕ}
use mathlib.Core.Bool.{or-false}
use mathlib.Core.List.{[], ◌∷◌, ◌++◌, append_assoc}
use mathlib.Core.Option.{Option, none, some}
use Rattle.loes.specs.Bytes.{Bytes}
use Rattle.loes.specs.Keys.{any_of}
use Rattle.loes.specs.Entry.{Entry, edge_count, too_many_edges}
use Rattle.loes.specs.Refusals.{too_large, test, first_of}
use Rattle.loes.specs.Model.{refusal, refused_or, tested, writes, pack_tests, batch_entry, pack}
use Rattle.loes.proofs.Writes.{writes_on}
use Rattle.loes.proofs.Tests.{none_append, some_first}
use Rattle.pack.specs.Packing.{edge_tests}

abbrev large : Entry → Option ℕ
large e = test (any_of (λ (e : Entry). too_many_edges (edge_count e)) (e ∷ [])) too_large

one_large : (m : ℕ) (l : Bytes) → large (batch_entry m l) ≡ test (too_many_edges (edge_count (batch_entry m l))) too_large
unfolding any_of
one_large m l = ap (λ b. test b too_large) (or-false (too_many_edges (edge_count (batch_entry m l))))

-- the call's tests: those of the batch, then its last
in_order : (m : ℕ) (l : Bytes) (last : Option ℕ) → pack_tests m l ++ large (batch_entry m l) ∷ last ∷ [] ≡ edge_tests m l ++ last ∷ []
unfolding edge_tests
in_order m l last = rw (one_large m l) (sym (append_assoc (pack_tests m l) (test (too_many_edges (edge_count (batch_entry m l))) too_large ∷ []) (last ∷ [])))

pub pack_refused : (m : ℕ) (l out : Bytes) (k : ℕ) → first_of (edge_tests m l) ≡ some k → pack m l out ≡ refusal k (out ∷ [])
unfolding pack writes tested refused_or
pack_refused m l out k e = rw (in_order m l _, some_first (edge_tests m l) _ k e)

-- what is left is to write the entry
pub pack_accepted : (m : ℕ) (l out : Bytes) → first_of (edge_tests m l) ≡ none → pack m l out ≡ writes [] (batch_entry m l ∷ []) (out ∷ [])
unfolding pack edge_tests
pack_accepted m l out e = writes_on (pack_tests m l) (batch_entry m l ∷ []) (out ∷ []) (none_append (pack_tests m l) _ e).0
