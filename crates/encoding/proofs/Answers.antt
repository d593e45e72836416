-- What the calls answer.
use mathlib.Core.Path.{◌≡◌, sym, ◌∙◌}
use Prim.Native.Nat.{ℕ, ◌≤◌, ◌<◌}
use native.Mathlib.Omega.{arith}
use Rattle.loes.specs.Bytes.{Bytes}
use Rattle.loes.specs.Edges.{rank}
use Rattle.loes.specs.Entry.{edges_of, edge_count}
use Rattle.loes.specs.Refusals.{first_of, test}
use Rattle.loes.specs.Read.{entry_in, rejected, read}
use Rattle.loes.specs.Model.{refused, tells, rank_is, refusal, refused_or, tested, answers, opens, rank_at, at_most_test, saying}
use Rattle.loes.specs.Calls.{after_reading, reading, open_call, rank_call}
use Rattle.loes.proofs.Tests.{lt_yes, lt_no}
use Rattle.encoding.specs.declared.Encoding.{Encoding}
use Rattle.encoding.specs.Opened.{Opens}

pub open_refused : (l : Bytes) (k : ℕ) → read l ≡ rejected k → saying (refused k) ≡ open_call l
unfolding open_call reading after_reading refusal
open_refused l k h = rw h

pub open_told : (l : Bytes) (e : Encoding) → Opens l e → saying (tells e.width e.count e.bits) ≡ open_call l
unfolding open_call reading after_reading opens answers tested refused_or first_of
open_told l e o = rw (o.reads, o.width, o.count, o.bits)

pub rank_refused : (l : Bytes) (i k : ℕ) → read l ≡ rejected k → saying (refused k) ≡ rank_call l i
unfolding rank_call reading after_reading refusal
rank_refused l i k h = rw h

rank_step : (l : Bytes) (e : Encoding) (i : ℕ) → Opens l e → rank_call l i ≡ (rank_at (entry_in l) i).outcome
unfolding rank_call reading after_reading
rank_step l e i o = rw o.reads

pub rank_out : (l : Bytes) (e : Encoding) (i : ℕ) → Opens l e → e.bits < i → saying (refused 9) ≡ rank_call l i
unfolding rank_at answers at_most_test test tested refused_or first_of refusal
rank_out l e i o h = sym (rank_step l e i o ∙ rw (lt_yes (edge_count (entry_in l)) i (omega (arith, o.bits))))

pub rank_told : (l : Bytes) (e : Encoding) (i r : ℕ) → Opens l e → i ≤ e.bits → r ≡ rank (edges_of (entry_in l)) i → saying (rank_is r) ≡ rank_call l i
unfolding rank_at answers at_most_test test tested refused_or first_of
rank_told l e i r o h q = sym (rank_step l e i o ∙ rw (lt_no (edge_count (entry_in l)) i (omega (arith, o.bits)), ← q))
