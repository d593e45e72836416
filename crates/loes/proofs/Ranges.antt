-- Members under a prefix: where they stand among all members, and how many they are.
use mathlib.Core.Path.{◌≡◌, refl, sym, ap, ◌∙◌}
use mathlib.Core.Logic.{◌↔◌}
use Prim.Native.Nat.{ℕ, zero, suc, ◌+◌, ◌≤◌, ◌<◌}
use mathlib.Core.Bool.{Bool, true, false, ◌&&◌, cond, false≢true}
use mathlib.Core.List.{[], ◌∷◌, ◌++◌, append-nil}
use native.Mathlib.Omega.{arith}
use lib.ListN.{length, take, get_or, replicate, length-append, length-map, length-replicate}
use Rattle.loes.specs.Bytes.{bit}
use Rattle.loes.specs.Keys.{Key, KeySet, those, less, is_prefix, members, smaller}
use Rattle.loes.specs.Prefixes.{half, prefix_count, prefixes_before}
use Rattle.loes.specs.Entry.{Entry, keys_of, count}
use Rattle.loes.specs.Model.{count_before, count_under}
use Rattle.loes.proofs.Lists.{those_append, those_map, those_none, those_all}
use Rattle.loes.proofs.Tree.{has_prefix, members_step, length_members, prefix_whole, index_lt}
use Rattle.loes.proofs.Members.{members_both, at_place}
use Rattle.loes.proofs.Order.{less_nil, smaller_false, smaller_true}

-- ---- A key's own first bits are smaller than a prefix exactly if the key is
less_take : (q k : Key) → less (take (length q) k) q ≡ less k q
unfolding less
less_take [] k = sym (less_nil k)
less_take (b ∷ q) [] = refl
less_take (false ∷ q) (false ∷ k) = less_take q k
less_take (false ∷ q) (true ∷ k) = refl
less_take (true ∷ q) (false ∷ k) = refl
less_take (true ∷ q) (true ∷ k) = less_take q k

before_smaller_is : (e : Entry) (q : Key) → count_before e q ≡ smaller q (keys_of e)
unfolding count_before smaller
before_smaller_is e q = simp (those_map, length-map, less_take)

-- ---- By the first bit
none_below : (m : ℕ) (s : KeySet) → smaller [] (members m s) ≡ 0
unfolding smaller
none_below m s = simp (less_nil, those_none)

unfoldable under : Key → ℕ → KeySet → ℕ
under q m s = length (those (is_prefix q) (members m s))

under_nil : (m : ℕ) (s : KeySet) → under [] m s ≡ length (members m s)
unfolding under is_prefix
under_nil m s = simp those_all

under_bit : (b : Bool) (q : Key) (m : ℕ) (s : KeySet) → under (b ∷ q) (suc m) s ≡ under q m (half b s)
unfolding under is_prefix
under_bit false q m s = rw (members_step, those_append) (simp (those_map, those_none, append-nil, length-map))
under_bit true q m s = rw (members_step, those_append) (simp (those_map, those_none, length-map))

-- those before a prefix and those under it are members
under_fits : (q : Key) (m : ℕ) (s : KeySet) → length q ≤ m → smaller q (members m s) + under q m s ≤ length (members m s)
under_fits [] m s l = rw (none_below m s, under_nil m s) (omega arith)
under_fits (b ∷ q) zero s l = absurd (omega arith)
under_fits (false ∷ q) (suc m) s l = rw (smaller_false q m s, under_bit false q m s, members_both m s) (omega (arith, under_fits q m (half false s) (omega arith)))
under_fits (true ∷ q) (suc m) s l = rw (smaller_true q m s, under_bit true q m s, members_both m s) (omega (arith, under_fits q m (half true s) (omega arith)))

pub range_fits : (e : Entry) (q : Key) → length q ≤ e.width → count_before e q + count_under e q ≤ count e
unfolding count keys_of count_under under
range_fits e q l = rw (before_smaller_is e q) (under_fits q e.width e.set l)

-- a member begins with a prefix exactly if it stands behind those before it and is one of as many as are under it
under_at : (q k : Key) (m : ℕ) (s : KeySet) → length q ≤ m → length k ≡ m → s k ≡ true
    → (is_prefix q k ≡ true) ↔ ((smaller q (members m s) ≤ prefixes_before k m s) × (prefixes_before k m s < smaller q (members m s) + under q m s))
unfolding is_prefix prefixes_before half
under_at [] k m s l n h = rw (none_below m s, under_nil m s) (λ z. (omega arith, omega (arith, index_lt k m s n h)), λ z. refl)
under_at (b ∷ q) k zero s l n h = absurd (omega arith)
under_at (b ∷ q) [] (suc m) s l n h = absurd (omega arith)
under_at (false ∷ q) (false ∷ k) (suc m) s l n h = rw (smaller_false q m s, under_bit false q m s) (under_at q k m (half false s) (omega arith) (omega arith) h)
under_at (false ∷ q) (true ∷ k) (suc m) s l n h =
    let c : length k ≡ m = omega arith in
    rw (smaller_false q m s, under_bit false q m s, c, ← length_members)
    (λ z. absurd (false≢true z), λ z. absurd (omega (arith, z.1, under_fits q m (half false s) (omega arith))))
under_at (true ∷ q) (false ∷ k) (suc m) s l n h =
    rw (smaller_true q m s, under_bit true q m s)
    (λ z. absurd (false≢true z), λ z. absurd (omega (arith, z.0, index_lt k m (half false s) (omega arith) h)))
under_at (true ∷ q) (true ∷ k) (suc m) s l n h =
    let c : length k ≡ m = omega arith in
    let r = under_at q k m (half true s) (omega arith) c h in
    rw (smaller_true q m s, under_bit true q m s, c, ← length_members)
    (λ z. let y = r.0 z in (omega (arith, y.0), omega (arith, y.1)), λ z. r.1 (omega (arith, z.0), omega (arith, z.1)))

pub member_range : (e : Entry) (q : Key) (i : ℕ) → length q ≤ e.width → i < count e
    → (is_prefix q (get_or (keys_of e) i []) ≡ true) ↔ ((count_before e q ≤ i) × (i < count_before e q + count_under e q))
unfolding count keys_of count_under under
member_range e q i l h =
    let r = at_place e.width e.set i h in
    rw (r.here, before_smaller_is e q) (rw r.order at (under_at q r.key e.width e.set l r.size r.inside))

-- ---- On from a prefix to a whole key, always by the same bit c: before its zeros come the members before the prefix, up to its ones also those under it
on_end : (c : Bool) (q : Key) (n m : ℕ) (s : KeySet) → length q + n ≡ m
    → prefixes_before (q ++ replicate n c) m s + bit (c && has_prefix (q ++ replicate n c) m s) ≡ smaller q (members m s) + cond c (under q m s) 0
unfolding prefixes_before has_prefix
on_end false [] zero zero s l = rw (none_below 0 s)
on_end true [] zero zero s l = rw (none_below 0 s, under_nil 0 s, length_members 0 s) (unfold prefix_count in refl)
on_end c [] zero (suc m) s l = absurd (omega arith)
on_end c [] (suc n) zero s l = absurd (omega arith)
on_end false [] (suc n) (suc m) s l = omega (arith, on_end false [] n m (half false s) (omega arith), none_below m (half false s), none_below (suc m) s)
on_end true [] (suc n) (suc m) s l =
    let k : length (replicate n true) ≡ m = omega (arith, length-replicate n true) in
    rw (none_below (suc m) s, under_nil (suc m) s, members_both m s, k, ← length_members)
    (omega (arith, on_end true [] n m (half true s) (omega arith), none_below m (half true s), under_nil m (half true s)))
on_end c (b ∷ q) n zero s l = absurd (omega arith)
on_end c (false ∷ q) n (suc m) s l = rw (smaller_false q m s, under_bit false q m s) (on_end c q n m (half false s) (omega arith))
on_end c (true ∷ q) n (suc m) s l =
    let k : length (q ++ replicate n c) ≡ m = omega (arith, length-append q (replicate n c), length-replicate n c) in
    rw (smaller_true q m s, under_bit true q m s, k, ← length_members) (omega (arith, on_end c q n m (half true s) (omega arith)))

pub range_end : (c : Bool) (e : Entry) (q : Key) (n : ℕ) → length q + n ≡ e.width
    → prefixes_before (q ++ replicate n c) e.width e.set + bit (c && has_prefix (q ++ replicate n c) e.width e.set) ≡ count_before e q + cond c (count_under e q) 0
unfolding keys_of count_under under
range_end c e q n l = rw (before_smaller_is e q) (on_end c q n e.width e.set l)

-- ---- No bits, one bit more, all bits
pub range_all : (e : Entry) → (count_before e [] ≡ 0) × (count_under e [] ≡ count e)
unfolding count keys_of count_under
range_all e = (before_smaller_is e [] ∙ none_below e.width e.set, unfold under in under_nil e.width e.set)

halved : (q : Key) (m : ℕ) (s : KeySet) → length q < m → under q m s ≡ under (q ++ false ∷ []) m s + under (q ++ true ∷ []) m s
halved q zero s l = absurd (omega arith)
halved [] (suc m) s l = rw (under_nil (suc m) s, members_both m s, under_bit false [] m s, under_bit true [] m s, under_nil m (half false s), under_nil m (half true s))
halved (b ∷ q) (suc m) s l = rw (under_bit b q m s, under_bit b (q ++ false ∷ []) m s, under_bit b (q ++ true ∷ []) m s) (halved q m (half b s) (omega arith))

pub under_halves : (e : Entry) (q : Key) → length q < e.width → count_under e q ≡ count_under e (q ++ false ∷ []) + count_under e (q ++ true ∷ [])
unfolding count_under keys_of under
under_halves e q l = halved q e.width e.set l

pub range_key : (e : Entry) (k : Key) → length k ≡ e.width → (count_before e k ≡ smaller k (keys_of e)) × (count_under e k ≡ bit (e.set k))
unfolding count_under keys_of under
range_key e k l =
    let n : length k + 0 ≡ e.width = omega arith in
    let low = rw append-nil at (range_end false e k 0 n) in
    let high = rw append-nil at (range_end true e k 0 n) in
    (before_smaller_is e k, omega (arith, low, high, ap bit (prefix_whole k e.width e.set l)))
