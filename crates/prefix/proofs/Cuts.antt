-- A cut through the levels, in front of a prefix or behind it, and the members in front of it.
use mathlib.Core.Path.{◌≡◌, refl, sym, ap, ◌∙◌}
use Prim.Native.Nat.{ℕ, zero, suc, ◌+◌, ◌-◌, ◌*◌, ◌/◌, ◌≤◌, ◌<◌}
use mathlib.Core.Bool.{Bool, true, false, ◌&&◌, cond, and-false}
use mathlib.Core.List.{List, [], ◌∷◌, ◌++◌, append_assoc, append-nil}
use native.Mathlib.Omega.{arith}
use lib.ListN.{length, replicate, length-append, length-replicate}
use Rattle.loes.specs.Bytes.{Bytes, bit, bits_in}
use Rattle.loes.specs.Keys.{Key, KeySet}
use Rattle.loes.specs.Edges.{edges, rank}
use Rattle.loes.specs.Prefixes.{inhabited, prefixes_before, records_before, record_index}
use Rattle.loes.specs.Entry.{Entry, edges_of, edge_count, Valid}
use Rattle.loes.specs.Encode.{level_end}
use Rattle.loes.specs.Read.{entry_in}
use Rattle.loes.specs.Model.{count_before, count_under}
use Rattle.loes.proofs.Lists.{rank_le, rank_suc, rank_more}
use Rattle.loes.proofs.Bits.{length_bits_in}
use Rattle.loes.proofs.Tree.{has_prefix, before_le, before_lt, prefix_shorter, false_if, length_snoc}
use Rattle.loes.proofs.Navigation.{length_edges_before, rank_level, nav_bit}
use Rattle.loes.proofs.Seven.{count_le, level_le}
use Rattle.loes.proofs.Ranges.{range_fits, range_end}
use Rattle.encoding.specs.declared.Encoding.{Encoding}
use Rattle.encoding.specs.Opened.{Opens}
use Rattle.query.specs.Descent.{edge_from, Way}
use Rattle.query.proofs.Descent.{record_step, inhabited_some}
use Rattle.query.proofs.Levels.{way_found}
use Rattle.prefix.specs.Cuts.{carried, Cuts, Ranged}

-- ---- Where a cut may be
-- a cut further on stays further on
pub carried_more : (l : List Bool) (n a b : ℕ) → a ≤ b → carried l n a ≤ carried l n b
unfolding carried
carried_more l zero a b h = h
carried_more l (suc n) a b h = carried_more l n (rank l (2 * a) + 1) (rank l (2 * b) + 1) (omega (arith, rank_more l (2 * a) (2 * b) (omega arith)))

module _ (e : Entry) {d r : ℕ} (c : Cuts e d r) (h : d < e.width) where
  pub cut_le : 2 * r ≤ edge_count e
  unfolding level_end
  cut_le = omega (arith, c.1, length_edges_before (suc d) e.width e.set h, level_le e d h)

  pub cut_next : 0 < edge_count e → Cuts e (d + 1) (rank (edges_of e) (2 * r) + 1)
  unfolding edge_count edges_of
  cut_next p =
      let i = inhabited_some e.width e.set p in
      let n : d + 1 ≡ suc d = omega arith in
      rw n (
        omega (arith, rank_level d e.width e.set (omega arith) i, rank_more (edges e.width e.set) (2 * records_before d e.width e.set) (2 * r) (omega (arith, c.0))),
        omega (arith, rank_level (suc d) e.width e.set h i, rank_more (edges e.width e.set) (2 * r) (2 * records_before (suc d) e.width e.set) (omega (arith, c.1))),
      )

-- ---- In front of a prefix (c is 0), or behind it if it is found (c is 1)
unfoldable cut_at : Bool → Key → ℕ → KeySet → ℕ
cut_at c q m s = record_index q m s + bit (c && has_prefix q m s)

-- one level on it is in front of the prefix with 0 behind it, or behind the prefix with 1 behind it
module _ (q : Key) (m : ℕ) (s : KeySet) (l : length q < m) (i : inhabited m s ≡ true) where
  step : (b : Bool) (o : ℕ) → o ≡ 2 * record_index q m s + bit (has_prefix q m s && b) → rank (edges m s) o + 1 ≡ record_index (q ++ b ∷ []) m s
  unfolding edge_from
  step b o z = rw z (omega (arith, record_step q b m s l i))

  cut_step : (c : Bool) → rank (edges m s) (2 * cut_at c q m s) + 1 ≡ cut_at c (q ++ c ∷ []) m s
  unfolding cut_at
  cut_step false = step false _ (rw and-false (omega arith)) ∙ omega arith
  cut_step true = go (has_prefix q m s) refl
    where
      go : (f : Bool) → has_prefix q m s ≡ f → rank (edges m s) (2 * (record_index q m s + bit f)) + 1 ≡ record_index (q ++ true ∷ []) m s + bit (has_prefix (q ++ true ∷ []) m s)
      go true h =
          let z : 2 * (record_index q m s + 1) ≡ suc (2 * record_index q m s + 1) = omega arith in
          rw z (omega (arith, rank_suc (edges m s) (2 * record_index q m s + 1), step true (2 * record_index q m s + 1) (rw h), ap bit (nav_bit q true m s l h)))
      go false h = rw (false_if (prefix_shorter q true m s) h) (step true _ (rw h (omega arith)) ∙ omega arith)

cut_on : (c : Bool) (q : Key) (n m : ℕ) (s : KeySet) → length q + n ≡ m → inhabited m s ≡ true → carried (edges m s) n (cut_at c q m s) ≡ cut_at c (q ++ replicate n c) m s
unfolding carried
cut_on c q zero m s l i = rw append-nil
cut_on c q (suc n) m s l i =
    rw (cut_step q m s (omega arith) i c, cut_on c (q ++ c ∷ []) n m s (omega (arith, length_snoc q c)) i, append_assoc q (c ∷ []) (replicate n c))

-- behind the last level it is in front of as many members as come before the prefix, or begin with it too
cut_end : (c : Bool) (e : Entry) (q : Key) (n : ℕ) → length q + n ≡ e.width → 0 < edge_count e
    → carried (edges_of e) n (cut_at c q e.width e.set) ≡ edge_count e / 2 + (count_before e q + cond c (count_under e q) 0)
unfolding edge_count edges_of edges cut_at record_index
cut_end c e q n l p =
    let k : length (q ++ replicate n c) ≡ e.width = omega (arith, length-append q (replicate n c), length-replicate n c) in
    cut_on c q n e.width e.set l (inhabited_some e.width e.set p)
    ∙ rw (k, ← range_end c e q n l) (omega (arith, length_edges_before e.width e.width e.set (omega arith)))

-- ---- From a descent to the members
-- a descent over p of w levels, in an encoding of b edge bits: to record r, found or not
pub record Descended (e : Entry) (x : Bytes) (p w b r : ℕ) (f : Bool) : Type 0 where
  pub way : Way e x p r f
  pub short : p ≤ w
  pub width : w ≡ e.width
  pub bits : b ≡ edge_count e
  pub some : 0 < b

pub descended : (l x : Bytes) (e : Encoding) → Opens l e → (p : ℕ) → p ≤ e.width → 0 < e.bits → (r : ℕ) (f : Bool) → Way (entry_in l) x p r f → Descended (entry_in l) x p e.width e.bits r f
descended l x e o p s n r f w = record { way = w; short = s; width = o.width; bits = o.bits; some = n }

module _ {e : Entry} {x : Bytes} {p w b r : ℕ} {f : Bool} (d : Descended e x p w b r f) where
  size : length (bits_in x p) ≤ e.width
  size = omega (arith, length_bits_in x p, d.short, d.width)

  -- from in front of the prefix's record, or from behind it, to the members there
  comes_out : (c : Bool) (o : ℕ) → o ≡ r + bit (c && f) → carried (edges_of e) (w - p) o ≡ b / 2 + (count_before e (bits_in x p) + cond c (count_under e (bits_in x p)) 0)
  unfolding cut_at
  comes_out c o z = rw (z, d.way.at, way_found d.way, d.bits) (cut_end c e (bits_in x p) (w - p) (omega (arith, length_bits_in x p, d.short, d.width)) (omega (arith, d.bits, d.some)))

  record_is : r ≡ records_before p e.width e.set + prefixes_before (bits_in x p) e.width e.set
  unfolding record_index
  record_is = d.way.at ∙ rw (length_bits_in x p)

  pub cut_before : Cuts e p r
  unfolding records_before
  cut_before =
      let y = rw (length_bits_in x p) at (before_le (bits_in x p) e.width e.set size) in
      (omega (arith, record_is), omega (arith, record_is, y))

  -- there are no more records than set bits before them, and the first
  pub record_few : r ≤ b + 1
  unfolding edge_count edges_of
  record_few =
      let i = inhabited_some e.width e.set (omega (arith, d.bits, d.some)) in
      omega (arith, cut_before.1, rank_level p e.width e.set (omega (arith, d.short, d.width)) i, (rank_le (edges e.width e.set) (2 * records_before p e.width e.set)).1, d.bits)

  pub cut_behind : f ≡ true → Cuts e p (r + 1)
  unfolding records_before
  cut_behind h =
      let y = rw (length_bits_in x p) at (before_lt (bits_in x p) e.width e.set (sym (way_found d.way) ∙ h)) in
      (omega (arith, record_is), omega (arith, record_is, y))

  module _ (low : ℕ) (lows : low ≡ carried (edges_of e) (w - p) r) where
    low_is : low ≡ b / 2 + count_before e (bits_in x p)
    low_is = omega (arith, lows, comes_out false r (omega arith))

    pub low_le : b / 2 ≤ low
    low_le = omega (arith, low_is)

    pub ranged_none : f ≡ false → Ranged e (bits_in x p) (low - b / 2) 0
    ranged_none h = (omega (arith, low_is), omega (arith, low_is, lows, comes_out true r (rw h (omega arith))))

    pub ranged_some : (high : ℕ) → high ≡ carried (edges_of e) (w - p) (r + 1) → f ≡ true → Ranged e (bits_in x p) (low - b / 2) (high - low)
    ranged_some high highs h =
        let y = comes_out true (r + 1) (rw h) in
        (omega (arith, low_is), omega (arith, low_is, highs, y))

-- with no edges there is no member
pub ranged_empty : (e : Entry) (x : Bytes) (p : ℕ) → Valid e → p ≤ e.width → edge_count e ≡ 0 → Ranged e (bits_in x p) 0 0
ranged_empty e x p v l z =
    let n = range_fits e (bits_in x p) (omega (arith, length_bits_in x p)) in
    (omega (arith, n, count_le e v.positive, z), omega (arith, n, count_le e v.positive, z))
