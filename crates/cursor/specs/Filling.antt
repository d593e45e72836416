-- A walk in one call: a step, and if it wrote a key, as many more as the buffer has room for.
use Rattle.std.specs.Prelude.{ℕ, zero, suc, ◌+◌, cond, ◌++◌, length, take, drop, eqb, ltb}
use Rattle.loes.specs.Bytes.{Bytes, pack_bits, front}
use Rattle.loes.specs.Keys.{Key}
use Rattle.loes.specs.Entry.{Entry, key_bytes}
use Rattle.loes.specs.Model.{Answer, refused, wrote, wrote_key, tells, is_present, is_absent, is_none, is_posted, index_is, rank_is, range_is}
use Rattle.loes.specs.Cursor.{Cursor, Advanced, has_next, next_key, goes_to, goes_to_after, advance}

-- the bytes of the key that a step wrote: none if it was refused; no step has another answer
abbrev pub bytes_in : Answer → ℕ
bytes_in (wrote_key n) = n
bytes_in (refused k) = 0
bytes_in (wrote ns) = 0
bytes_in (tells m n b) = 0
bytes_in is_present = 0
bytes_in is_absent = 0
bytes_in is_none = 0
bytes_in is_posted = 0
bytes_in (index_is i) = 0
bytes_in (rank_is r) = 0
bytes_in (range_is i n) = 0

-- a key behind n bytes of a buffer
unfoldable pub put_at : ℕ → Key → Bytes → Bytes
put_at n k out = take n out ++ front (pack_bits k) (drop n out)

-- what a walk leaves: n bytes written in all, the output buffer and the cursor
abbrev pub leaves : ℕ → Bytes → Cursor → Advanced
leaves n out c = record { answer = wrote_key n; buffer = out; cursor = c }

-- goes on from a cursor, n bytes written, while the buffer has room for a key behind them: each key behind the one before, or to after; f bounds the steps
unfoldable pub goes_on : ℕ → Entry → ℕ → Bytes → Cursor → Advanced
goes_on zero e n out c = leaves n out c
goes_on (suc f) e n out c =
    cond (ltb (length out) (n + key_bytes e.width)) (leaves n out c)
    (cond (has_next e c)
    (goes_on f e (n + key_bytes e.width) (put_at n (next_key e c) out) (goes_to e (next_key e c) out).cursor)
    (leaves n out (goes_to_after out).cursor))

-- behind a step that wrote a key: as many more as the buffer has room for, and these are no more than it has bytes
unfoldable pub more : Entry → Advanced → Advanced
more e a = cond (eqb (bytes_in a.answer) 0) a (goes_on (length a.buffer) e (bytes_in a.answer) a.buffer a.cursor)

unfoldable pub advances : Entry → Cursor → Bytes → Advanced
advances e c out = more e (advance e c out)
