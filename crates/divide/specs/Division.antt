-- Two sets divided in three: what is known on the way.
use Rattle.std.specs.Prelude.{◌≡◌, ℕ, ◌+◌, ◌*◌, ◌/◌, ◌≤◌, List, length}
use Rattle.loes.specs.Limits.{max_edges}
use Rattle.loes.specs.Bytes.{Bytes}
use Rattle.loes.specs.Edges.{Record}
use Rattle.loes.specs.Entry.{Entry, edges_of}
use Rattle.loes.specs.Model.{difference_entry, both_entry}
use Rattle.records.specs.Records.{record_at, records_at, Packed}
use Rattle.records.specs.Numbers.{overread}
use Rattle.merge.specs.Union.{QueueRoom}
use Rattle.restrict.specs.Restriction.{kept_at, masked_at}
use Rattle.divide.specs.declared.Three.{Three}

-- byte j of z is set to four records less the edges whose entries, from c on, are not kept
pub record ByteMarked (w : ℕ) (q : Bytes) (r : ℕ) (l : List Record) (z : Bytes) (j c : ℕ) (p : Bytes) : Type 0 where
  pub here : records_at p (4 * j) 4 ≡ masked_at (kept_at w z q r) c l
  pub other : (m : ℕ) → (m / 4 ≡ j → ⊥) → record_at p m ≡ record_at z m
  pub size : length p ≡ length z

-- room for the marks of r records, and for what is read behind them
pub record MarksFit (r : ℕ) (z : Bytes) : Type 0 where
  pub room : r + overread ≤ 4 * length z
  pub small : length z ≤ max_edges

-- the edges of the three parts, each in bytes of its own: q, x and y before, q', x' and y' after
pub record Divided (e f : Entry) (q x y q' x' y' : Bytes) (k : Three) : Type 0 where
  pub both : Packed (edges_of (both_entry e f)) q q' k.both
  pub only_first : Packed (edges_of (difference_entry e f)) x x' k.only_first
  pub only_second : Packed (edges_of (difference_entry f e)) y y' k.only_second

-- room for two sets of these edges: a queue, and the marks of three parts of their union
pub record DivideRoom (ba bb : ℕ) (q x y z : Bytes) : Type 0 where
  pub queue : QueueRoom ba bb q
  pub both : MarksFit ((ba + bb) / 2) x
  pub only_first : MarksFit ((ba + bb) / 2) y
  pub only_second : MarksFit ((ba + bb) / 2) z
