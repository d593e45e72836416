-- What the writer is given and what it answers.
use Rattle.std.specs.Prelude.{◌≡◌, ℕ, ◌≤◌, ◌<◌, List, [], ◌∷◌, ◌++◌, length, get_or, take, drop, Result, Ok, Err}
use Rattle.loes.specs.Numbers.{number_of}
use Rattle.loes.specs.declared.refusal.Refusal.{Refusal}
use Rattle.loes.specs.Limits.{block_bits, sub_block_bits, length_bytes, width_bytes, count_bytes, level_entry, block_entry, sub_block_entry}
use Rattle.loes.specs.Bytes.{Bytes, started, big_endian, big_endians, pack_bits, bits_in}
use Rattle.loes.specs.Entry.{count}
use Rattle.loes.specs.Encode.{field, level_end, block_ones, sub_block_ones}
use Rattle.loes.specs.Read.{edge_bytes, body_at, start4}
use Rattle.loes.specs.Held.{entry_held, Holds}
use Rattle.loes.specs.Model.{refused, wrote, Outcome, writing}

-- edge bytes that hold an entry, and nothing besides its edges: no byte behind them, left-over bits zero
pub record HoldsOnly (m b : ℕ) (l : Bytes) : Type 0 where
  pub holds : Holds m b l
  pub whole : pack_bits (bits_in l b) ≡ l

-- the edge bytes that stand in their place in a buffer, behind field 4's head
unfoldable pub standing : ℕ → ℕ → Bytes → Bytes
standing m b out = take (edge_bytes b) (drop (body_at (start4 m)) out)

-- the level ends and the count of the entry that edge bytes hold
pub record Shaped (m b : ℕ) (l ends : List ℕ) (n : ℕ) : Type 0 where
  pub room : m ≤ length ends
  pub levels : (d : ℕ) → d < m → get_or ends d 0 ≡ level_end (entry_held m b l) d
  pub members : n ≡ count (entry_held m b l)

-- what stands before the edges: fields 1 to 3, of so many members and levels that end there, and field 4's head
unfoldable pub shape : ℕ → ℕ → List ℕ → Bytes
shape b n ends =
    ((field 1 (big_endian width_bytes (length ends)) ++ field 2 (big_endian count_bytes n)) ++ field 3 (big_endians level_entry (λ (d : ℕ). get_or ends d 0) (length ends)))
    ++ 4 ∷ big_endian length_bytes (edge_bytes b)

-- edge bytes, and fields 5 and 6 behind them
unfoldable pub indexed : ℕ → Bytes → Bytes
indexed b l =
    (l ++ field 5 (big_endians block_entry (block_ones (bits_in l b)) (started block_bits b)))
    ++ field 6 (big_endians sub_block_entry (sub_block_ones (bits_in l b)) (started sub_block_bits b))

-- what the writer's answer says, with the buffer at exit
unfoldable pub written_outcome : Result ℕ Refusal → Bytes → Outcome
written_outcome (Err k) out = writing (refused (number_of k)) out
written_outcome (Ok n) out = writing (wrote (n ∷ [])) out
