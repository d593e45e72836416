-- All levels merged: one queue holds the flags of every record, and of the members behind them.
use mathlib.Core.Path.{◌≡◌, refl, sym, ap, ◌∙◌}
use Prim.Native.Nat.{ℕ, suc, ◌+◌, ◌-◌, ◌*◌, ◌/◌, ◌≤◌, ◌<◌}
use mathlib.Core.Bool.{Bool, true, false}
use mathlib.Core.List.{List, [], ◌++◌, append-nil}
use native.Mathlib.Omega.{arith}
use lib.ListN.{length, length-append}
use Rattle.loes.specs.Limits.{max_edges}
use Rattle.loes.specs.Bytes.{Bytes, bit, odd, tabulate}
use Rattle.loes.specs.Keys.{KeySet, either}
use Rattle.loes.specs.Edges.{record_bits, edges}
use Rattle.loes.specs.Prefixes.{inhabited}
use Rattle.loes.specs.Entry.{Entry, edges_of, keys_of, with_set}
use Rattle.loes.specs.Read.{entry_along}
use Rattle.loes.specs.Held.{entry_held, Holds}
use Rattle.loes.specs.Model.{union_entry}
use Rattle.loes.proofs.Lists.{length_bits}
use Rattle.loes.proofs.Bits.{length_bits_in}
use Rattle.loes.proofs.Tree.{tree_level}
use Rattle.records.specs.Records.{Flag, records_to, flags_from, Pushed, Sealed, Packed, flag_if, first_count, second_count}
use Rattle.records.specs.Numbers.{overread}
use Rattle.merge.specs.Union.{merged, pushed, records_from, LevelMerged, LevelRoom, QueueRoom, Merged}
use Rattle.records.proofs.Codes.{bits_records_to}
use Rattle.records.proofs.Sealing.{written}
use Rattle.merge.proofs.Single.{push_flag, length_flags, queued_behind}
use Rattle.merge.proofs.Merging.{level_flags, tree_levels, queue_flags, over_pushed, over_merged, over_level, over_levels, levels_more, length_levels, flags_more, flags_members, edges_levels}
use Rattle.merge.proofs.Levels.{length_one, length_pushed}
use Rattle.merge.proofs.Held.{RecordsHeld, set_in, held_of, held_length, level_at}

-- d levels done: their records, and behind them the flags of the next
pub record Done (m : ℕ) (s t : KeySet) (q₀ : Bytes) (d from ka kb end : ℕ) (q : Bytes) : Type 0 where
  pub first : from ≡ length (tree_levels d 0 m (either s t))
  pub la : ka ≡ length (tree_levels d 0 m s)
  pub lb : kb ≡ length (tree_levels d 0 m t)
  pub out : records_to q from ≡ tree_levels d 0 m (either s t)
  pub queue : flags_from q from (end - from) ≡ level_flags d m s t
  pub last : from ≤ end
  pub size : length q ≡ length q₀

-- nothing done: the first flag
first_flag : (a b : Bool) → flag_if (odd (bit a + bit b * 2)) (odd ((bit a + bit b * 2) / 2)) ≡ flag_if a b
unfolding odd
first_flag true true = refl
first_flag true false = refl
first_flag false true = refl
first_flag false false = refl

pub done_none : {m : ℕ} {s t : KeySet} {q p : Bytes} {tail x y : ℕ} → x ≡ bit (inhabited m s) → y ≡ bit (inhabited m t) → Pushed 0 (x + y * 2) q p tail → Done m s t p 0 0 0 0 tail p
unfolding tree_levels level_flags
done_none {m} {s} {t} {q} {p} {tail} {x} {y} ex ey w =
    let u = push_flag q p 0 (x + y * 2) tail w in
    record {
      first = refl;
      la = refl;
      lb = refl;
      out = unfold records_to tabulate in refl;
      queue = queued_behind u 0 (omega arith) ∙ unfold flags_from tabulate in rw (ex, ey, first_flag (inhabited m s) (inhabited m t));
      last = omega arith;
      size = refl;
    }

module _ {m : ℕ} {s t : KeySet} {a b q₀ : Bytes} {ra rb d from ka kb end : ℕ} {q : Bytes}
    (ha : RecordsHeld m s a ra) (hb : RecordsHeld m t b rb) (v : Done m s t q₀ d from ka kb end q) where
  end_from : end ≡ from + length (level_flags d m s t)
  end_from = let e : end - from ≡ length (level_flags d m s t) = sym (length_flags q from (end - from)) ∙ ap length v.queue in omega (arith, v.last)

  module _ (h : d ≤ m) where
    from_is : from ≡ length (queue_flags d 0 m s t)
    from_is = v.first ∙ sym (over_levels d 0 m s t (omega arith)).count

    end_is : end ≡ length (queue_flags (suc d) 0 m s t)
    end_is =
        let z : 0 + d ≡ d = omega arith in
        let e : queue_flags (suc d) 0 m s t ≡ queue_flags d 0 m s t ++ level_flags d m s t = rw z at (flags_more d 0 m s t) in
        end_from ∙ rw (e, length-append (queue_flags d 0 m s t) (level_flags d m s t)) (ap (λ x. x + length (level_flags d m s t)) from_is)

    -- a record taken pushes at most two flags, and the first is there before
    end_most : end ≤ 1 + 2 * (ka + kb)
    unfolding queue_flags level_flags
    end_most =
        let f : List Flag = queue_flags d 0 m s t in
        let o = over_levels d 0 m s t (omega arith) in
        let e : pushed f (tree_levels d 0 m s) (tree_levels d 0 m t) ≡ queue_flags d 1 m s t = rw (append-nil (tree_levels d 0 m s), append-nil (tree_levels d 0 m t)) at (over_pushed o [] []) in
        omega (
          arith,
          end_is,
          length-append (flag_if (inhabited m s) (inhabited m t)) (queue_flags d 1 m s t),
          length_one (inhabited m s) (inhabited m t),
          ap length e,
          length_pushed f (tree_levels d 0 m s) (tree_levels d 0 m t),
          o.first,
          o.second,
          v.la,
          v.lb,
        )

    pub end_le : from ≤ ra + rb
    end_le =
        omega (arith, v.first, (over_levels d 0 m s t (omega arith)).most, length_levels d m s h, length_levels d m t h, held_length ha, held_length hb)

  module _ (h : d < m) where
    more_first : ka + first_count (level_flags d m s t) ≡ length (tree_levels (suc d) 0 m s)
    more_first = rw ((over_level d m s t h).first, v.la, levels_more d m s, length-append (tree_levels d 0 m s) (tree_level d m s))

    more_second : kb + second_count (level_flags d m s t) ≡ length (tree_levels (suc d) 0 m t)
    more_second = rw ((over_level d m s t h).second, v.lb, levels_more d m t, length-append (tree_levels d 0 m t) (tree_level d m t))

    pub level_room : QueueRoom (2 * ra) (2 * rb) q₀ → ra + rb ≤ max_edges → ra + overread ≤ 4 * length a → rb + overread ≤ 4 * length b → LevelRoom a b q from ka kb end (flags_from q from (end - from))
    level_room w l oa ob =
        let x : ka + first_count (level_flags d m s t) ≤ ra = omega (arith, more_first, length_levels (suc d) m s h, held_length ha) in
        let y : kb + second_count (level_flags d m s t) ≤ rb = omega (arith, more_second, length_levels (suc d) m t h, held_length hb) in
        rw v.queue
        record {
          order = v.last;
          queue = omega (arith, end_most (omega arith), w.queue, v.size);
          small = omega (arith, w.small, v.size);
          first = omega arith;
          second = omega arith;
          limit = omega arith;
        }

    pub done_more : {p : Bytes} {la lb last : ℕ} → LevelMerged a b q from ka kb end (end - from) p la lb last → Done m s t q₀ (d + 1) end la lb last p
    done_more {p} {last} w =
        let o = over_level d m s t h in
        let x = level_at ha h in
        let y = level_at hb h in
        let z : d + 1 ≡ suc d = omega arith in
        let k : from + (end - from) ≡ end = omega (arith, v.last) in
        let n : end - end ≡ 0 = omega arith in
        let pu : pushed (level_flags d m s t) (records_from a ka) (records_from b kb) ≡ level_flags (suc d) m s t =
        rw (v.la, v.lb, x.1, y.1) (over_pushed o x.0 y.0) in
        let me : merged (level_flags d m s t) (records_from a ka) (records_from b kb) ≡ tree_level d m (either s t) =
        rw (v.la, v.lb, x.1, y.1) (over_merged o x.0 y.0) in
        let none : flags_from q end 0 ≡ [] = unfold flags_from tabulate in refl in
        rw z
        record {
          first = end_is (omega arith) ∙ (over_levels (suc d) 0 m s t (omega arith)).count;
          la = w.takena ∙ rw v.queue more_first;
          lb = w.takenb ∙ rw v.queue more_second;
          out = rw (k, v.queue, me, v.out, ← levels_more d m (either s t)) at w.out;
          queue = rw (k, n, none, v.queue, pu) at w.queue;
          last = rw k at w.last;
          size = w.size ∙ v.size;
        }

-- all levels done
pub merged_done : {m x y : ℕ} {a b q q₀ p : Bytes} {from ka kb end : ℕ} → Holds m x a → Holds m y b → QueueRoom x y q
    → Done m (set_in m x a) (set_in m y b) q₀ m from ka kb end p → length q₀ ≡ length q
    → Merged (entry_held m x a) (entry_held m y b) q p (2 * from) (end - from)
unfolding edges_of keys_of with_set entry_held entry_along
merged_done {m} {x} {y} {a} {b} {p} {from} ha hb w v e =
    let s : KeySet = set_in m x a in
    let t : KeySet = set_in m y b in
    let z : 2 * from / 2 ≡ from = omega arith in
    record {
      edges = bits_records_to p from ∙ ap record_bits v.out ∙ sym (edges_levels m (either s t));
      flags = record {
        each = rw z (v.queue ∙ flags_members m s t);
        fits =
            omega (arith, v.last, end_most (held_of ha) (held_of hb) v (omega arith), v.la, v.lb, held_length (held_of ha), held_length (held_of hb), w.queue, v.size, e);
      };
      size = v.size ∙ e;
    }

-- an edge sequence has an even number of bits
pub even_edges : (e : Entry) → 2 * (length (edges_of e) / 2) ≡ length (edges_of e)
unfolding edges_of
even_edges e =
    let l : length (edges e.width e.set) ≡ 2 * length (tree_levels e.width 0 e.width e.set) = ap length (edges_levels e.width e.set) ∙ length_bits (tree_levels e.width 0 e.width e.set) in
    omega arith

-- the union's edges alone, sealed
pub united : {e f : Entry} {q p u : Bytes} {b n : ℕ} → Merged e f q p b n → Sealed (b / 2) p u → Packed (edges_of (union_entry e f)) q u b
united {e} {f} {q} {p} {u} {b} v s =
    let l : length (edges_of (union_entry e f)) ≡ b = ap length (sym v.edges) ∙ length_bits_in p b in
    let z : 2 * (b / 2) ≡ b = rw l at (even_edges (union_entry e f)) in
    let w : Packed (edges_of (union_entry e f)) q u (2 * (b / 2)) = written (rw z v.edges) v.size s in
    rw z at w
