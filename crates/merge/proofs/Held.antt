-- Edge bytes that hold a set: their records are its levels.
use mathlib.Core.Path.{◌≡◌, refl, sym, ap, ◌∙◌}
use Prim.Native.Nat.{ℕ, zero, suc, ◌+◌, ◌-◌, ◌*◌, ◌/◌, ◌≤◌, ◌<◌}
use mathlib.Core.Bool.{Bool, true, false}
use mathlib.Core.List.{List, [], ◌++◌, append_assoc}
use native.Mathlib.Omega.{arith}
use lib.ListN.{length, length-append}
use lib.Seq.{drop_at}
use lib.Dec.{ltb}
use Rattle.loes.specs.Bytes.{Bytes, bit, bits_in, tabulate}
use Rattle.loes.specs.Keys.{KeySet}
use Rattle.loes.specs.Edges.{Record, record_bits, edges}
use Rattle.loes.specs.Prefixes.{half, inhabited}
use Rattle.loes.specs.Entry.{edges_of}
use Rattle.loes.specs.Read.{entry_along}
use Rattle.loes.specs.Held.{entry_held, Holds}
use Rattle.loes.proofs.Tests.{lt_yes}
use Rattle.loes.proofs.Lists.{length_bits}
use Rattle.loes.proofs.Tree.{tree_level, tree_empty, length_root}
use Rattle.loes.proofs.Bytes.{length_tabulate}
use Rattle.loes.proofs.WellFormed.{records_in, records_bits}
use Rattle.loes.proofs.Bits.{tabulate_add}
use Rattle.records.specs.Records.{record_at, records_to}
use Rattle.merge.specs.Union.{records_from}
use Rattle.records.proofs.Codes.{bits_records_to, length_records}
use Rattle.merge.proofs.Merging.{tree_levels, levels_split, levels_more, edges_levels}

-- the set of the entry that edge bytes hold
abbrev pub set_in : ℕ → ℕ → Bytes → KeySet
set_in m b l = (entry_held m b l).set

pub record RecordsHeld (m : ℕ) (s : KeySet) (l : Bytes) (r : ℕ) : Type 0 where
  pub records : records_to l r ≡ tree_levels m 0 m s
  pub fits : r ≤ 4 * length l

pub edges_records : (m : ℕ) (s : KeySet) (l : Bytes) (r : ℕ) → bits_in l (2 * r) ≡ edges m s → records_to l r ≡ tree_levels m 0 m s
edges_records m s l r e =
    let g : record_bits (records_to l r) ≡ record_bits (tree_levels m 0 m s) = sym (bits_records_to l r) ∙ e ∙ edges_levels m s in
    sym (records_bits (records_to l r)) ∙ ap records_in g ∙ records_bits (tree_levels m 0 m s)

-- an edge sequence has an even number of bits
pub even : (m b : ℕ) (l : Bytes) → edges_of (entry_held m b l) ≡ bits_in l b → 2 * (b / 2) ≡ b
unfolding edges_of entry_held entry_along bits_in
even m b l e =
    let f : b ≡ 2 * length (tree_levels m 0 m (set_in m b l)) =
    sym (ap length (sym (edges_levels m (set_in m b l)) ∙ e) ∙ length_tabulate _ b) ∙ length_bits (tree_levels m 0 m (set_in m b l)) in
    omega arith

pub held_records : (m b : ℕ) (l : Bytes) → b ≤ 8 * length l → edges_of (entry_held m b l) ≡ bits_in l b → RecordsHeld m (set_in m b l) l (b / 2)
unfolding edges_of
held_records m b l h e =
    let z : 2 * (b / 2) ≡ b = even m b l (unfold edges_of in e) in
    record { records = edges_records m (set_in m b l) l (b / 2) (rw z (unfold entry_held entry_along in sym e)); fits = omega arith }

pub held_of : {m b : ℕ} {l : Bytes} → Holds m b l → RecordsHeld m (set_in m b l) l (b / 2)
held_of {m} {b} {l} h = held_records m b l h.room h.same

pub held_length : {m : ℕ} {s : KeySet} {l : Bytes} {r : ℕ} → RecordsHeld m s l r → r ≡ length (tree_levels m 0 m s)
held_length {l} {r} o = sym (length_records l r) ∙ ap length o.records

-- level d begins behind the levels before
pub level_at : {d m : ℕ} {s : KeySet} {l : Bytes} {r : ℕ} → RecordsHeld m s l r → d < m
    → (x : List Record) × (records_from l (length (tree_levels d 0 m s)) ≡ tree_level d m s ++ x)
unfolding records_from records_to
level_at {d} {m} {s} {l} {r} o h =
    let z : r + (4 * length l - r) ≡ 4 * length l = omega (arith, o.fits) in
    let junk : List Record = tabulate (λ k. record_at l (r + k)) (4 * length l - r) in
    let e : tabulate (record_at l) (4 * length l) ≡ tabulate (record_at l) r ++ junk = rw z at (tabulate_add (record_at l) r (4 * length l - r)) in
    let y : suc d + (m - suc d) ≡ m = omega arith in
    let more : List Record = tree_levels (m - suc d) (0 + suc d) m s in
    let f : tree_levels m 0 m s ≡ tree_levels (suc d) 0 m s ++ more = rw y at (levels_split (suc d) (m - suc d) 0 m s) in (
      more ++ junk,
      rw (e, o.records, f, levels_more d m s, append_assoc, append_assoc)
          (drop_at (tree_levels d 0 m s) (tree_level d m s ++ (more ++ junk)) (length (tree_levels d 0 m s)) refl),
    )

-- ---- There is a record exactly if there is a member
pub levels_empty : (j d m : ℕ) (s : KeySet) → inhabited m s ≡ false → tree_levels j d m s ≡ []
unfolding tree_levels
levels_empty zero d m s h = refl
levels_empty (suc j) d m s h = rw (tree_empty d m s h, levels_empty j (suc d) m s h)

some_level : (m : ℕ) (s : KeySet) → inhabited (suc m) s ≡ true → 0 < length (tree_levels (suc m) 0 (suc m) s)
unfolding tree_levels tree_level inhabited
some_level m s e =
    let a : Bool = inhabited m (half false s) in
    let b : Bool = inhabited m (half true s) in
    omega (arith, length-append (tree_level 0 (suc m) s) (tree_levels m 1 (suc m) s), length_root a b ∙ ap bit e)

pub some_records : (m : ℕ) {s : KeySet} {l : Bytes} {r : ℕ} → 0 < m → RecordsHeld m s l r → (n : ℕ) → (r ≡ 0 → n ≡ 0) → (0 < r → 0 < n) → ltb 0 n ≡ inhabited m s
some_records zero h o n z p = absurd (omega arith)
some_records (suc m) {s} {l} {r} h o n z p = go (inhabited (suc m) s) refl
  where
    go : (c : Bool) → inhabited (suc m) s ≡ c → ltb 0 n ≡ c
    go false e = let y : n ≡ 0 = z (held_length o ∙ ap length (levels_empty (suc m) 0 (suc m) s e)) in rw y
    go true e = let y : 0 < r = rw (held_length o) (some_level m s e) in lt_yes 0 n (p y)
