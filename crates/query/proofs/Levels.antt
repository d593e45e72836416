-- The descent over an entry's edges.
use mathlib.Core.Path.{◌≡◌, sym, ap, ap₂, ◌∙◌}
use Prim.Native.Nat.{ℕ, suc, ◌+◌, ◌-◌, ◌/◌, ◌≤◌, ◌<◌}
use mathlib.Core.Bool.{Bool, true, false, ◌&&◌}
use mathlib.Core.List.{◌∷◌, [], ◌++◌}
use native.Mathlib.Omega.{arith}
use lib.ListN.{length, get_or}
use Rattle.loes.specs.Bytes.{Bytes, tabulate, bit_at, bits_in}
use Rattle.loes.specs.Keys.{smaller}
use Rattle.loes.specs.Edges.{found, edges, rank}
use Rattle.loes.specs.Prefixes.{inhabited, record_index}
use Rattle.loes.specs.Entry.{Entry, keys_of, edges_of, edge_count, Valid}
use Rattle.loes.proofs.Tree.{has_prefix, prefix_whole, prefix_inhabited, false_if, found_nil, found_prefix}
use Rattle.loes.proofs.Navigation.{record_nil}
use Rattle.loes.proofs.Bits.{length_bits_in}
use Rattle.query.specs.Descent.{edge_from, Way, Located}
use Rattle.query.proofs.BitLists.{up, bits_suc}
use Rattle.query.proofs.Descent.{edge_le, edge_lt, record_step, found_step, record_end, inhabited_some, inhabited_none, record_none}

pub way_found : {e : Entry} {key : Bytes} {d r : ℕ} {f : Bool} → Way e key d r f → f ≡ has_prefix (bits_in key d) e.width e.set
way_found {e} {key} {d} w = w.on ∙ found_prefix (bits_in key d) e.width e.set

module _ (e : Entry) (h : Valid e) (key : Bytes) where
  pub some_key : 0 < edge_count e → inhabited e.width e.set ≡ true
  unfolding edge_count edges_of
  some_key p = inhabited_some e.width e.set p

  module _ {d r : ℕ} {f : Bool} (w : Way e key d r f) (c : d < e.width) where
    pl : length (bits_in key d) < e.width
    pl = omega (arith, length_bits_in key d)

    pub way_le : (x : Bool) → edge_from r f x ≤ edge_count e
    unfolding edge_count edges_of
    way_le x = rw (w.at, way_found w) (edge_le (bits_in key d) x e.width e.set pl)

    pub way_lt : (x : Bool) → f ≡ true → edge_from r f x < edge_count e
    unfolding edge_count edges_of
    way_lt x q = rw (w.at, way_found w) (edge_lt (bits_in key d) x e.width e.set pl (sym (way_found w) ∙ q))

    pub way_next : 0 < edge_count e → (x : Bool) → x ≡ bit_at key d → (r' : ℕ) (f' : Bool)
        → r' ≡ rank (edges_of e) (edge_from r f x) + 1 → f' ≡ (f && get_or (edges_of e) (edge_from r f x) false) → Way e key (d + 1) r' f'
    unfolding edges_of
    way_next q x xs r' f' er ef =
        let n : bits_in key (d + 1) ≡ bits_in key d ++ x ∷ [] = ap (bits_in key) (sym (up d)) ∙ rw xs (bits_suc key d) in
        record {
          at = er
              ∙ sym (up (rank (edges e.width e.set) (edge_from r f x)))
              ∙ ap₂ (λ y z. suc (rank (edges e.width e.set) (edge_from y z x))) w.at (way_found w)
              ∙ record_step (bits_in key d) x e.width e.set pl (some_key q)
              ∙ ap (λ y. record_index y e.width e.set) (sym n);
          on = ef
              ∙ ap₂ (λ y z. z && get_or (edges e.width e.set) (edge_from y z x) false) w.at (way_found w)
              ∙ found_step (bits_in key d) x e.width e.set pl
              ∙ sym (found_prefix (bits_in key d ++ x ∷ []) e.width e.set) ∙ ap (found e.width e.set) (sym n);
        }

  pub way_first : 0 < edge_count e → Way e key 0 0 true
  way_first q = record { at = unfold bits_in tabulate in sym (record_nil e.width e.set); on = unfold bits_in tabulate in sym (found_nil e.width e.set ∙ some_key q) }

  -- at the end
  pub way_located : (w b r : ℕ) (f : Bool) → w ≡ e.width → b ≡ edge_count e → Way e key w r f → (b / 2 ≤ r) × Located e (bits_in key e.width) (r - b / 2) f
  unfolding edge_count edges_of keys_of
  way_located w b r f ew eb v =
      let n = length_bits_in key e.width in
      let y : r ≡ record_index (bits_in key e.width) e.width e.set = v.at ∙ ap (λ x. record_index (bits_in key x) e.width e.set) ew in
      let z : f ≡ found e.width e.set (bits_in key e.width) = v.on ∙ ap (λ x. found e.width e.set (bits_in key x)) ew in
      let q : r ≡ b / 2 + smaller (bits_in key e.width) (keys_of e) = rw eb (y ∙ record_end (bits_in key e.width) e.width e.set n) in
      (omega (arith, q), record { below = omega (arith, q); inside = z ∙ found_prefix (bits_in key e.width) e.width e.set ∙ prefix_whole (bits_in key e.width) e.width e.set n })

  -- with no edges there is no record, and no prefix is found
  pub way_none : (d : ℕ) → d ≤ e.width → edge_count e ≡ 0 → Way e key d 0 false
  unfolding edge_count edges_of
  way_none d l z =
      let n = inhabited_none e.width e.set h.positive z in
      record {
        at = sym (record_none (bits_in key d) e.width e.set (omega (arith, length_bits_in key d)) n);
        on = sym (found_prefix (bits_in key d) e.width e.set ∙ false_if (prefix_inhabited (bits_in key d) e.width e.set) n);
      }
