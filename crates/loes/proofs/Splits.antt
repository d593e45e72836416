-- Two sets split in three: each key of either is in one of them, the counts add up, and no part has more edges than its set.
use mathlib.Core.Path.{◌≡◌, refl, ap, fun_ext}
use Prim.Native.Nat.{ℕ, zero, suc, ◌+◌, ◌*◌, ◌≤◌}
use mathlib.Core.Bool.{Bool, true, false, ◌&&◌, ◌||◌, not, cond, and_self, and-not_self, or-true}
use mathlib.Core.List.{List, [], ◌∷◌}
use native.Mathlib.Omega.{arith}
use lib.ListN.{length}
use Rattle.loes.specs.Bytes.{bit, started}
use Rattle.loes.specs.Keys.{Key, KeySet, all_keys, those, members, either, without, in_both}
use Rattle.loes.specs.Edges.{edges}
use Rattle.loes.specs.Prefixes.{half, inhabited, prefix_count, records_before}
use Rattle.loes.specs.Entry.{Entry, keys_of, count, edges_of, edge_count, with_set}
use Rattle.loes.specs.Encode.{encode}
use Rattle.loes.specs.Read.{edge_bytes, block_bytes, sub_block_bytes, start5, start6, end_of}
use Rattle.loes.specs.Model.{union_entry, difference_entry, both_entry}
use Rattle.loes.proofs.Tests.{both}
use Rattle.loes.proofs.Navigation.{length_edges_before}
use Rattle.loes.proofs.Reading.{encode_length}

pub one_of_three : (e f : Entry) (k : Key) → bit ((both_entry e f).set k) + bit ((difference_entry e f).set k) + bit ((difference_entry f e).set k) ≡ bit ((union_entry e f).set k)
unfolding with_set in_both without either
one_of_three e f k = go (e.set k) (f.set k)
  where
    go : (a b : Bool) → bit (a && b) + bit (a && not b) + bit (b && not a) ≡ bit (a || b)
    go true true = refl
    go true false = refl
    go false true = refl
    go false false = refl

-- one more, if a test takes it
length_more : {A : Type 0} (f : A → Bool) (x : A) (l : List A) → length (those f (x ∷ l)) ≡ bit (f x) + length (those f l)
unfolding those
length_more f x l = elim (f x) as (λ b. length (cond b (x ∷ those f l) (those f l)) ≡ bit b + length (those f l)) [ true ↦ omega arith | false ↦ omega arith ]

-- of any list: those in both twice, and those in one only, are those of each
counted : (s t : KeySet) (l : List Key)
    → 2 * length (those (in_both s t) l) + length (those (without s t) l) + length (those (without t s) l) ≡ length (those s l) + length (those t l)
counted s t [] = unfold those in refl
counted s t (k ∷ l) =
    omega (
      arith,
      length_more (in_both s t) k l,
      length_more (without s t) k l,
      length_more (without t s) k l,
      length_more s k l,
      length_more t k l,
      counted s t l,
      one,
    )
  where
    go : (a b : Bool) → 2 * bit (a && b) + bit (a && not b) + bit (b && not a) ≡ bit a + bit b
    go true true = refl
    go true false = refl
    go false true = refl
    go false false = refl

    one : 2 * bit (in_both s t k) + bit (without s t k) + bit (without t s k) ≡ bit (s k) + bit (t k)
    one = unfold in_both without in go (s k) (t k)

pub split_counts : (e f : Entry) → e.width ≡ f.width → 2 * count (both_entry e f) + count (difference_entry e f) + count (difference_entry f e) ≡ count e + count f
unfolding count keys_of members with_set
split_counts e f h = rw (← h) (counted e.set f.set (all_keys e.width))

-- ---- A part of a set: those of its keys that a test takes
inside : (m : ℕ) (s t : KeySet) → ((k : Key) → t k ≡ true → s k ≡ true) → inhabited m t ≡ true → inhabited m s ≡ true
unfolding inhabited half
inside zero s t f h = f [] h
inside (suc m) s t f h = go (inhabited m (half false t)) (inhabited m (half true t)) (inside m (half false s) (half false t) (λ k. f (false ∷ k))) (inside m (half true s) (half true t) (λ k. f (true ∷ k))) h
  where
    go : (a b : Bool) → (a ≡ true → inhabited m (half false s) ≡ true) → (b ≡ true → inhabited m (half true s) ≡ true) → (a || b) ≡ true
        → (inhabited m (half false s) || inhabited m (half true s)) ≡ true
    go true b g h e = rw (g refl)
    go false b g h e = rw (h e) (or-true (inhabited m (half false s)))

bit_implies : (a b : Bool) → (a ≡ true → b ≡ true) → bit a ≤ bit b
bit_implies true b h = rw (h refl) (omega arith)
bit_implies false b h = omega arith

-- has no more prefixes, records and edges
fewer_prefixes : (d m : ℕ) (s t : KeySet) → ((k : Key) → t k ≡ true → s k ≡ true) → prefix_count d m t ≤ prefix_count d m s
unfolding prefix_count half
fewer_prefixes zero m s t f = bit_implies (inhabited m t) (inhabited m s) (inside m s t f)
fewer_prefixes (suc d) zero s t f = omega arith
fewer_prefixes (suc d) (suc m) s t f =
    omega (arith, fewer_prefixes d m (half false s) (half false t) (λ k. f (false ∷ k)), fewer_prefixes d m (half true s) (half true t) (λ k. f (true ∷ k)))

fewer_records : (d m : ℕ) (s t : KeySet) → ((k : Key) → t k ≡ true → s k ≡ true) → records_before d m t ≤ records_before d m s
unfolding records_before
fewer_records zero m s t f = omega arith
fewer_records (suc d) m s t f = omega (arith, fewer_records d m s t f, fewer_prefixes d m s t f)

part_fewer : (e : Entry) (p : KeySet) → edge_count (with_set e (λ (k : Key). e.set k && p k)) ≤ edge_count e
unfolding edge_count edges_of edges with_set
part_fewer e p =
    let m : ℕ = e.width in
    let t : KeySet = λ k. e.set k && p k in
    omega (arith, length_edges_before m m t (omega arith), length_edges_before m m e.set (omega arith), fewer_records m m e.set t (λ k h. (both (e.set k) (p k) h).0))

pub both_fewer : (e f : Entry) → edge_count (both_entry e f) ≤ edge_count e
unfolding in_both
both_fewer e f = part_fewer e f.set

pub difference_fewer : (e f : Entry) → edge_count (difference_entry e f) ≤ edge_count e
unfolding without
difference_fewer e f = part_fewer e (λ k. not (f.set k))

-- so its encoding is not longer
more_bytes : (b c : ℕ) → b ≤ c → edge_bytes b ≤ edge_bytes c
unfolding started
more_bytes b c h = omega arith

more_blocks : (b c : ℕ) → b ≤ c → block_bytes b ≤ block_bytes c
unfolding started
more_blocks b c h = omega arith

more_sub_blocks : (b c : ℕ) → b ≤ c → sub_block_bytes b ≤ sub_block_bytes c
unfolding started
more_sub_blocks b c h = omega arith

end_more : (m b c : ℕ) → b ≤ c → end_of m b ≤ end_of m c
unfolding end_of start6 start5
end_more m b c h = omega (arith, more_bytes b c h, more_blocks b c h, more_sub_blocks b c h)

shorter : (e : Entry) (p : KeySet) → length (encode (with_set e (λ (k : Key). e.set k && p k))) ≤ length (encode e)
unfolding with_set
shorter e p = rw (encode_length e, encode_length (with_set e (λ (k : Key). e.set k && p k))) (end_more e.width _ _ (part_fewer e p))

pub no_longer : (e f : Entry) → (length (encode (both_entry e f)) ≤ length (encode e)) × (length (encode (difference_entry e f)) ≤ length (encode e))
unfolding in_both without
no_longer e f = (shorter e f.set, shorter e (λ k. not (f.set k)))

pub split_itself : (e : Entry) → (encode (both_entry e e) ≡ encode e) × (encode (difference_entry e e) ≡ encode (with_set e (λ (k : Key). false)))
unfolding with_set in_both without
split_itself e = (
  ap (λ s. encode (record { width = e.width; set = s })) (fun_ext (λ k. and_self (e.set k))),
  ap (λ s. encode (record { width = e.width; set = s })) (fun_ext (λ k. and-not_self (e.set k))),
)
