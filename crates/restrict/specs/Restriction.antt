-- Restricting: the edges of the subset that a mask over members names, from the set's edges.
use Rattle.std.specs.Prelude.{◌≡◌, ℕ, ◌+◌, ◌-◌, ◌*◌, ◌/◌, ◌%◌, ◌<◌, ◌≤◌, Bool, false, ◌&&◌, cond, List, [], ◌∷◌, ◌++◌, map, length, get_or, drop, ltb}
use Rattle.loes.specs.Bytes.{Bytes, bit, tabulate}
use Rattle.loes.specs.Keys.{those}
use Rattle.loes.specs.Edges.{Record}
use Rattle.loes.specs.Entry.{Entry, edges_of}
use Rattle.loes.specs.Model.{difference_entry}
use Rattle.merge.specs.Union.{MemberFlags}
use Rattle.records.specs.Records.{empty_record, has_edge, children, children_before, record_at, records_to, records_at, flag_at, is_flag, Packed}

-- ---- On entries
-- the mask of those members whose flag, from place r on, is w
unfoldable pub flag_mask : ℕ → Bytes → ℕ → ℕ → Bool
flag_mask w q r i = is_flag w (flag_at q (r + i))

-- what subtracting leaves: the difference's edges in b bits, and the flags of the union's n members from place r on
pub record Subtracts (e f : Entry) (q o p u : Bytes) (b r n : ℕ) : Type 0 where
  pub edges : Packed (edges_of (difference_entry e f)) o u b
  pub flags : MemberFlags e f p r n
  pub queue : length p ≡ length q

-- ---- On lists of records
-- a record less the edges that are not kept; its edges' entries are from c on
unfoldable pub mask_at : (ℕ → Bool) → ℕ → Record → Record
mask_at f c r = record { on_zero = r.on_zero && f c; on_one = r.on_one && f (c + bit r.on_zero) }

-- the same; k: for each set edge in order, whether it is kept
unfoldable pub mask_record : Record → List Bool → Record
mask_record r k = mask_at (λ (i : ℕ). get_or k i false) 0 r

-- from the last record to the first: an edge is kept if the record, or the member, that it leads to is; the first one's edges lead h entries on
unfoldable pub masked_from : ℕ → List Record → List Bool → List Record
masked_from h [] p = []
masked_from h (r ∷ l) p =
    mask_record r (drop (h - 1) (map has_edge (masked_from (h - 1 + children r) l p) ++ p)) ∷ masked_from (h - 1 + children r) l p

-- ---- In bytes: the masked records take the places of the r records, in front of the members' flags
-- entry j is kept: a record with an edge left in z, or a member whose flag in q is w
unfoldable pub kept_at : ℕ → Bytes → Bytes → ℕ → ℕ → Bool
kept_at w z q r j = cond (ltb j r) (has_edge (record_at z j)) (is_flag w (flag_at q j))

-- r records, each with an edge, and n members: every entry but the first is led to by an edge
pub record Entries (e : Bytes) (r n : ℕ) : Type 0 where
  pub total : r + n ≡ bit (ltb 0 r) + children_before e r
  pub full : (k : ℕ) → k < r → 1 ≤ children (record_at e k)

-- record i of z is set to record s less the edges whose entries, from c on, are not kept
pub record RecordMarked (w : ℕ) (q : Bytes) (r : ℕ) (s : Record) (z : Bytes) (i c : ℕ) (p : Bytes) : Type 0 where
  pub here : record_at p i ≡ mask_at (kept_at w z q r) c s
  pub other : (j : ℕ) → (j ≡ i → ⊥) → record_at p j ≡ record_at z j
  pub size : length p ≡ length z

-- the r records of q less the edges under which no member has flag w
pub record Marks (w : ℕ) (q : Bytes) (r n : ℕ) (p : Bytes) : Type 0 where
  pub out : records_to p r ≡ masked_from 1 (records_to q r) (tabulate (flag_mask w q r) n)

-- the same in their place
pub record Marked (w : ℕ) (q : Bytes) (r n : ℕ) (p : Bytes) : Type 0 where
  pub marks : Marks w q r n p
  pub other : (j : ℕ) → r ≤ j → record_at p j ≡ record_at q j
  pub size : length p ≡ length q

-- the records of q with an edge, moved together in p
pub record Compacted (q : Bytes) (r : ℕ) (o p : Bytes) (k : ℕ) : Type 0 where
  pub out : records_to p k ≡ those has_edge (records_to q r)
  pub size : length p ≡ length o

-- ---- Several records at a time
-- records, one behind the other, less the edges that are not kept, whose entries are from c on; and how many edges records have
unfoldable pub masked_at : (ℕ → Bool) → ℕ → List Record → List Record
masked_at f c [] = []
masked_at f c (r ∷ l) = mask_at f c r ∷ masked_at f (c + children r) l

unfoldable pub child_count : List Record → ℕ
child_count [] = 0
child_count (r ∷ l) = children r + child_count l

-- records with one edge each, less those whose entry, in the same place, has no edge
unfoldable pub kept_singles : List Record → List Record → List Record
kept_singles [] es = []
kept_singles (r ∷ l) [] = []
kept_singles (r ∷ l) (e ∷ es) = cond (has_edge e) r empty_record ∷ kept_singles l es

-- what marking sixteen records by one operation needs. They end the first i; each has at most one edge; their entries are the sixteen records before c
pub record SingleRoom (q : Bytes) (r i c : ℕ) : Type 0 where
  pub block : 16 ≤ i
  pub whole : i % 4 ≡ 0
  pub records : c ≤ r
  pub behind : i + 16 ≤ c
  pub queue : c / 4 < length q
  pub single : (k : ℕ) → i ≤ k + 16 → k < i → children (record_at q k) ≤ 1

-- sixteen records, put from record i on, marked by those from record d on
pub record SinglesMarked (l : List Record) (z : Bytes) (i d : ℕ) (p : Bytes) : Type 0 where
  pub here : records_at p i 16 ≡ kept_singles l (records_at z d 16)
  pub other : (j : ℕ) → (i ≤ j → j < i + 16 → ⊥) → record_at p j ≡ record_at z j
  pub size : length p ≡ length z

-- what marking a byte whole needs. The first i records end with the byte's four. Their k edges lead to the k entries before c, which stand behind them and are all records, or all members
pub record MarkRoom (r i k c l : ℕ) : Type 0 where
  pub whole : i % 4 ≡ 0
  pub less : k ≤ c
  pub behind : i ≤ c - k
  pub same : c - k < r → c ≤ r
  pub queue : (c - k) / 4 + 3 < l

-- the records of the four bytes from byte j on that have an edge, put behind the first k
pub record BlockCompacted (q : Bytes) (j : ℕ) (o : Bytes) (k : ℕ) (p : Bytes) (l : ℕ) : Type 0 where
  pub records : records_to p l ≡ records_to o k ++ those has_edge (records_at q (4 * j) 16)
  pub size : length p ≡ length o
