-- A call on bytes: the reading's refusal, or the model's outcome for the entry.
use mathlib.Core.Path.{◌≡◌}
use Prim.Native.Nat.{ℕ}
use Rattle.loes.specs.Bytes.{Bytes}
use Rattle.loes.specs.Entry.{Entry}
use Rattle.loes.specs.Read.{rejected, opened, read, entry_in}
use Rattle.loes.specs.Model.{OutcomeOf, refused, refusal}
use Rattle.loes.specs.Calls.{after_reading, reading}
use Rattle.encoding.specs.declared.opening.Opened.{Opened}

pub call_refused : {L : Type 0} (l : Bytes) (bufs : L) (next : Entry → OutcomeOf L) (k : ℕ) → read l ≡ rejected k → record { answer = refused k; buffers = bufs } ≡ reading l bufs next
unfolding reading after_reading refusal
call_refused l bufs next k h = rw h

pub call_opened : {L : Type 0} (l : Bytes) (bufs : L) (next : Entry → OutcomeOf L) (e : Entry) (o : OutcomeOf L) → read l ≡ opened e → o ≡ next e → o ≡ reading l bufs next
unfolding reading after_reading
call_opened l bufs next e o h q = rw h q

-- the same behind `open`
pub call_open : {L : Type 0} (o : Opened) (l : Bytes) (bufs : L) (next : Entry → OutcomeOf L) (x : OutcomeOf L) → o.bytes.now ≡ l → x ≡ next (entry_in o.bytes.now) → x ≡ reading l bufs next
call_open o l bufs next x same is = rw (← same) (call_opened o.bytes.now bufs next (entry_in o.bytes.now) x o.opens.reads is)
