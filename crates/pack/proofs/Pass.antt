-- The second pass: one key after another is marked
use mathlib.Core.Path.{◌≡◌, refl, sym, ap, ◌∙◌}
use Prim.Native.Nat.{ℕ, zero, suc, ◌+◌, ◌-◌, ◌*◌, ◌≤◌, ◌<◌}
use mathlib.Core.Bool.{Bool, true, false, cond}
use mathlib.Core.List.{List, [], ◌∷◌}
use native.Mathlib.Omega.{arith}
use native.Mathlib.Decide.{dec_le}
use lib.ListN.{length, take, get_or, set, replicate, length-replicate, get_or-replicate, replicate-append-replicate, get_or-eq_default}
use lib.Seq.{ext_get_or}
use borrow.Author.Tests.{lt-leb, lt-ltb, not-false}
use Rattle.loes.specs.Bytes.{bit, tabulate, bits_value, byte_of, pack_bits, started}
use Rattle.loes.specs.Keys.{Key, KeySet}
use Rattle.loes.specs.Edges.{record_bits, edges}
use Rattle.loes.specs.Prefixes.{half, inhabited, prefix_count, records_before}
use Rattle.loes.proofs.Lists.{bits_append}
use Rattle.loes.proofs.Tests.{neither}
use Rattle.loes.proofs.Bytes.{length_packed}
use Rattle.loes.proofs.Bits.{tabulate_ext}
use Rattle.loes.proofs.Tree.{has_prefix}
use Rattle.pack.specs.Rising.{first_new, set_below, Rising}
use Rattle.pack.specs.Marking.{set_bits}
use Rattle.pack.proofs.Grow.{inhabited_none, below_zero, below_suc, in_below, found_before, place}
use Rattle.pack.proofs.Marked.{marked, marked_edges, edges_all, edge_offset, inserted_above, split_at, mark_step, mark_first, mark_last}
use Rattle.pack.proofs.Prefixes.{common_le}
use Rattle.pack.proofs.SetBits.{packed_set, at_byte}

pub bits_edges : (o : ℕ → ℕ) (from n : ℕ) (k : Key) (m : ℕ) (s : KeySet) (T : ℕ → KeySet) → length k ≡ m → s k ≡ true → from + n ≤ m
    → ((e : ℕ) → e < from + n → o e ≡ edge_offset e k m s)
    → set_bits o from n (pack_bits (marked_edges m m s (inserted_above T k from))) ≡ pack_bits (marked_edges m m s (inserted_above T k (from + n)))
unfolding set_bits
bits_edges o from zero k m s T l e h at = let z : from + 0 ≡ from = omega arith in rw z
bits_edges o from (suc n) k m s T l e h at =
    let z : from + suc n ≡ suc (from + n) = omega arith in
    let c : from + n < m = omega arith in
    let step : (edge_offset (from + n) k m s < length (marked_edges m m s (inserted_above T k (from + n)))) × (marked_edges m m s (inserted_above T k (suc (from + n))) ≡ set (marked_edges m m s (inserted_above T k (from + n))) (edge_offset (from + n) k m s) true) =
    mark_step (from + n) k m s T l e c in
    rw (bits_edges o from n k m s T l e (omega arith) (λ x q. at x (omega arith)), at (from + n) (omega arith), packed_set (marked_edges m m s (inserted_above T k (from + n))) (edge_offset (from + n) k m s) step.0, z, step.1)

pub new_le : (m n : ℕ) (f : ℕ → Key) → Rising m n f → (i : ℕ) → i < n → first_new f i ≤ suc m
unfolding first_new
new_le m n f r zero h = omega arith
new_le m n f r (suc i) h = omega (arith, common_le (f i) (f (suc i)), r.wide (suc i) (omega arith))

-- key i is marked on its new levels before `top` and the one above them
pub mark_key : (m n top : ℕ) (f : ℕ → Key) (r : Rising m n f) (i : ℕ) (o : ℕ → ℕ) (u : KeySet) → i < n → top ≤ m → first_new f i ≤ suc top
    → ((e : ℕ) → e < top → o e ≡ edge_offset e (f i) m (set_below f n))
    → set_bits o (first_new f i - 1) (top - (first_new f i - 1)) (pack_bits (marked_edges m m (set_below f n) (split_at top (set_below f i) u))) ≡ pack_bits (marked_edges m m (set_below f n) (split_at top (set_below f (suc i)) u))
mark_key m n top f r i o u h tm new at =
    let c : ℕ = first_new f i - 1 in
    let z : c + (top - c) ≡ top = omega arith in
    let T : ℕ → KeySet = split_at top (set_below f i) u in
    let first : marked_edges m m (set_below f n) (inserted_above T (f i) c) ≡ marked_edges m m (set_below f n) T =
    mark_first c (f i) m (set_below f n) T (r.wide i (omega arith)) (omega arith) (λ x l.
    rw (lt-ltb x top (omega arith)) (not-false (has_prefix (take (suc x) (f i)) m (set_below f i)) (found_before m n f r i (suc x) h (omega arith) ∙ lt-leb (first_new f i) (suc x) (omega arith)))) in
    rw (below_suc f i, ← first, bits_edges o c (top - c) (f i) m (set_below f n) T (r.wide i (omega arith)) (in_below f i n h) (omega arith) (λ e q. at e (omega arith)), z, mark_last (f i) m top (set_below f n) (set_below f i) u)

-- ---- before the first key
bits_none : (b : Bool) → record_bits (cond b (record { on_zero = false; on_one = false } ∷ []) []) ≡ replicate (2 * bit b) false
unfolding record_bits
bits_none true = refl
bits_none false = refl

marked_none : (d m : ℕ) (s t : KeySet) → inhabited m t ≡ false → d < m → record_bits (marked d m s t) ≡ replicate (2 * prefix_count d m s) false
unfolding marked prefix_count inhabited
marked_none d zero s t e h = absurd (omega arith)
marked_none zero (suc m) s t e h =
    let z : (inhabited m (half false t) ≡ false) × (inhabited m (half true t) ≡ false) = neither (inhabited m (half false t)) (inhabited m (half true t)) e in
    rw (z.0, z.1) (bits_none (inhabited (suc m) s))
marked_none (suc d) (suc m) s t e h =
    let z : (inhabited m (half false t) ≡ false) × (inhabited m (half true t) ≡ false) = neither (inhabited m (half false t)) (inhabited m (half true t)) e in
    let w : 2 * (prefix_count d m (half false s) + prefix_count d m (half true s)) ≡ 2 * prefix_count d m (half false s) + 2 * prefix_count d m (half true s) = omega arith in
    rw (
      bits_append (marked d m (half false s) (half false t)) (marked d m (half true s) (half true t)),
      marked_none d m (half false s) (half false t) z.0 (omega arith),
      marked_none d m (half true s) (half true t) z.1 (omega arith),
      w,
    ) (replicate-append-replicate (2 * prefix_count d m (half false s)) (2 * prefix_count d m (half true s)) false)

pub edges_none : (d m : ℕ) (s t : KeySet) → inhabited m t ≡ false → d ≤ m → marked_edges d m s (λ (x : ℕ). t) ≡ replicate (2 * records_before d m s) false
unfolding marked_edges records_before
edges_none zero m s t e h = refl
edges_none (suc d) m s t e h =
    let w : 2 * (records_before d m s + prefix_count d m s) ≡ 2 * records_before d m s + 2 * prefix_count d m s = omega arith in
    rw (edges_none d m s t e (omega arith), marked_none d m s t e h, w) (replicate-append-replicate (2 * records_before d m s) (2 * prefix_count d m s) false)

no_bit : (n i : ℕ) → get_or (replicate n false) i false ≡ false
no_bit n i = elim (dec_le (suc i) n) [ yes y ↦ get_or-replicate n i false false y | no y ↦ get_or-eq_default (replicate n false) false {n = i} (rw (length-replicate n false) (omega arith)) ]

no_byte : (n i : ℕ) → byte_of (replicate n false) i ≡ 0
unfolding byte_of
no_byte n i = ap (λ (t : List Bool). bits_value t 0) (tabulate_ext (λ j. get_or (replicate n false) (8 * i + j) false) (λ j. false) 8 (λ j h. no_bit n (8 * i + j))) ∙ unfold bits_value tabulate in refl

pub packed_none : (n : ℕ) → pack_bits (replicate n false) ≡ replicate (started 8 n) 0
packed_none n =
    let ln : length (replicate n false) ≡ n = length-replicate n false in
    let len : length (pack_bits (replicate n false)) ≡ started 8 n = length_packed (replicate n false) ∙ ap (started 8) ln in
    ext_get_or 0 (pack_bits (replicate n false)) (replicate (started 8 n) 0) (len ∙ sym (length-replicate (started 8 n) 0)) (λ i l.
    let j : i < started 8 n = rw len at l in
    at_byte (replicate n false) i (rw ln j) ∙ no_byte n i ∙ sym (get_or-replicate (started 8 n) i 0 0 j))

pub mark_start : (m : ℕ) (s : KeySet) (f : ℕ → Key) → pack_bits (marked_edges m m s (λ (x : ℕ). set_below f 0)) ≡ replicate (started 8 (2 * records_before m m s)) 0
mark_start m s f = rw (edges_none m m s (set_below f 0) (inhabited_none m (set_below f 0) (λ j l. below_zero f j)) (omega arith)) (packed_none (2 * records_before m m s))

pub mark_end : (m : ℕ) (s : KeySet) → pack_bits (marked_edges m m s (λ (x : ℕ). s)) ≡ pack_bits (edges m s)
unfolding edges
mark_end m s = rw (edges_all m m s (omega arith))

-- where the cursor finds the edge
pub offset_is : (m n : ℕ) (f : ℕ → Key) (r : Rising m n f) (i e : ℕ) → i < n → e < m
    → edge_offset e (f i) m (set_below f n) ≡ 2 * records_before e m (set_below f n) + 2 * (prefix_count e m (set_below f (suc i)) - 1) + bit (get_or (f i) e false)
unfolding edge_offset
offset_is m n f r i e h l = omega (arith, place m n f r i e h (omega arith))
