-- Left-over records cleared: bytes are what their bits pack to.
use mathlib.Core.Path.{◌≡◌, refl, sym, ap, ◌∙◌}
use Prim.Native.Nat.{ℕ, ◌+◌, ◌*◌, ◌/◌, ◌%◌, ◌≤◌, ◌<◌}
use mathlib.Core.Bool.{Bool, false}
use mathlib.Core.List.{List}
use native.Mathlib.Omega.{arith}
use native.Mathlib.Decide.{dec_le}
use lib.ListN.{length, get_or, take, length-take}
use lib.Seq.{length-take-le, get_or-take}
use Rattle.std.specs.Int.{next_multiple_of}
use Rattle.loes.specs.Bytes.{Bytes, odd, bit_at, bits_in, started, pack_bits}
use Rattle.loes.specs.Edges.{record_bits}
use Rattle.loes.proofs.Bytes.{length_packed}
use Rattle.loes.proofs.Bits.{packed_bits, bits_packed, length_bits_in, bit_taken, bits_taken}
use Rattle.records.specs.Records.{empty_record, record_of_code, record_at, Put, Sealed, Packed}
use Rattle.records.proofs.Codes.{bits_records_to, records_same}

-- cleared from k to i
pub record Cleared (o : Bytes) (k i : ℕ) (p : Bytes) : Type 0 where
  pub front : (j : ℕ) → j < k → record_at p j ≡ record_at o j
  pub behind : (j : ℕ) → k ≤ j → j < i → record_at p j ≡ empty_record
  pub size : length p ≡ length o
  pub from : k ≤ i
  pub near : i ≤ 4 * started 8 (2 * k)

enough : (k : ℕ) → 2 * k ≤ 8 * started 8 (2 * k)
unfolding started
enough k = omega arith

pub cleared_none : (o : Bytes) (k : ℕ) → Cleared o k k o
cleared_none o k = record { front = λ j l. refl; behind = λ j l h. absurd (omega arith); size = refl; from = omega arith; near = omega (arith, enough k) }

empty_code : record_of_code 0 ≡ empty_record
unfolding record_of_code empty_record odd
empty_code = refl

pub cleared_more : {o p u : Bytes} {k i : ℕ} → i < next_multiple_of k 4 → Cleared o k i p → Put i 0 p u → Cleared o k (i + 1) u
unfolding started
cleared_more {i} h c t =
    record {
      front = λ j l. t.other j (λ f. omega (arith, c.from)) ∙ c.front j l;
      behind = λ j l g. elim (dec_le i j) [
        | yes y ↦ let e : j ≡ i = omega arith in rw e (t.here ∙ empty_code)
        | no y ↦ t.other j (λ f. omega arith) ∙ c.behind j l (omega arith)
      ];
      size = t.size ∙ c.size;
      from = omega (arith, c.from);
      near = omega (arith, c.near);
    }

bit_record : (l : Bytes) (o : ℕ) → record_at l (o / 2) ≡ empty_record → bit_at l o ≡ false
unfolding record_at empty_record
bit_record l o e = elim (dec_le (o % 2) 0) [
  | yes y ↦ let z : 2 * (o / 2) ≡ o = omega arith in rw z at (ap (λ r. r.on_zero) e)
  | no y ↦ let z : 2 * (o / 2) + 1 ≡ o = omega arith in rw z at (ap (λ r. r.on_one) e)
]

full : (k i : ℕ) → next_multiple_of k 4 ≤ i → i ≤ 4 * started 8 (2 * k) → i ≡ 4 * started 8 (2 * k)
unfolding started
full k i f n = omega arith

room : (k l : ℕ) → k ≤ 4 * l → started 8 (2 * k) ≤ l
unfolding started
room k l h = omega arith

pub sealed : {o p : Bytes} {k i : ℕ} → k ≤ 4 * length o → next_multiple_of k 4 ≤ i → Cleared o k i p → ((j : ℕ) → get_or p j 0 < 256) → Sealed k o p
sealed {o} {p} {k} {i} h z c small =
    let n : ℕ = started 8 (2 * k) in
    let ni : i ≡ 4 * n = full k i z c.near in
    let nl : n ≤ length p = rw c.size (room k (length o) h) in
    let ln : length (take n p) ≡ n = length-take-le n p nl in
    let e1 : bits_in (take n p) (2 * k) ≡ bits_in p (2 * k) = bits_taken p n (2 * k) (enough k) in
    let e2 : bits_in p (2 * k) ≡ bits_in o (2 * k) = bits_records_to p k ∙ ap record_bits (records_same p o k c.front) ∙ sym (bits_records_to o k) in
    record {
      bytes =
          sym (packed_bits (take n p) (2 * k) ln
          (λ j l. let g : j < n = omega arith in rw (get_or-take n p j 0) (small j))
          (λ b g l. bit_taken p n b (omega arith) ∙ bit_record p b (c.behind (b / 2) (omega arith) (omega arith))))
          ∙ ap pack_bits (e1 ∙ e2);
      size = c.size;
    }

pub written : {e : List Bool} {k : ℕ} {o x p : Bytes} → bits_in x (2 * k) ≡ e → length x ≡ length o → Sealed k x p → Packed e o p (2 * k)
written {k} {x} f n g = record { count = sym (length_bits_in x (2 * k)) ∙ ap length f; bytes = g.bytes ∙ ap pack_bits f; size = g.size ∙ n }

pub written_bits : {e : List Bool} {o p : Bytes} {b : ℕ} → Packed e o p b → bits_in p b ≡ e
written_bits {e} {p} {b} w =
    let f : bits_in (take (started 8 b) p) b ≡ e = rw (w.bytes, w.count) (bits_packed e) in
    sym (bits_taken p (started 8 b) b (unfold started in omega arith)) ∙ f

room_of : (l : Bytes) (b : ℕ) → length (take (started 8 b) l) ≡ started 8 b → b ≤ 8 * length l
unfolding started
room_of l b f = omega (arith, f, length-take ((b + 7) / 8) l)

pub written_room : {e : List Bool} {o p : Bytes} {b : ℕ} → Packed e o p b → b ≤ 8 * length p
written_room {e} {p} {b} w = room_of p b (ap length w.bytes ∙ length_packed e ∙ rw w.count)
