-- The order of keys: a lower bound is the smallest key not below, and byte order and bit order agree.
use mathlib.Core.Path.{◌≡◌, refl, sym, ap, ap₂, ◌∙◌}
use Prim.Native.Nat.{ℕ, zero, suc, ◌+◌, ◌-◌, ◌*◌, ◌/◌, ◌%◌, ◌^◌, ◌≤◌, ◌<◌}
use mathlib.Core.Bool.{Bool, true, false, ◌&&◌, ◌||◌, not, or-false, and-false, false≢true}
use mathlib.Core.List.{List, [], ◌∷◌, ◌++◌, append-nil}
use mathlib.Core.Option.{none}
use native.Mathlib.Nat.{zero-add}
use native.Mathlib.Omega.{arith}
use native.Mathlib.Decide.{dec_le}
use lib.ListN.{length, get_or, replicate, length-append, length-map}
use lib.Seq.{drop_at}
use lib.Dec.{ltb, leb-suc-zero}
use Rattle.loes.specs.Bytes.{Bytes, bit, odd, bit_at, bits_in, bits_value, started, tabulate}
use Rattle.loes.specs.Keys.{Key, KeySet, all_keys, any_of, those, less, members, smaller}
use Rattle.loes.specs.Prefixes.{half, prefixes_before}
use Rattle.loes.specs.Entry.{Entry, key_bytes, keys_of, count}
use Rattle.loes.specs.Refusals.{first_of}
use Rattle.loes.specs.Model.{is_none, index_is, tested, refused_or, answers, key_in, unused_set, key_test, lower_bound}
use Rattle.loes.proofs.Tests.{lt_yes, yes_lt, lt_no, no_lt, eq_yes, eq_no}
use Rattle.loes.proofs.Lists.{those_append, those_map, those_none, those_all, length_those}
use Rattle.loes.proofs.Tree.{members_step, length_members, index_lt, bit_le}
use Rattle.loes.proofs.Bytes.{length_tabulate}
use Rattle.loes.proofs.Bits.{at_bit, byte_bits_value, tabulate_ext, tabulate_add}
use Rattle.loes.proofs.Numbers.{AllBytes}
use Rattle.loes.proofs.Members.{at_place}
use Rattle.loes.proofs.Histories.{length_key}

-- ---- Seek
-- a number added to two does not change their order
lt_add : (a m n : ℕ) → ltb (a + m) (a + n) ≡ ltb m n
lt_add a m n =
    elim (dec_le (suc m) n) [
      | yes h ↦ lt_yes (a + m) (a + n) (omega arith) ∙ sym (lt_yes m n h)
      | no h ↦ lt_no (a + m) (a + n) (omega arith) ∙ sym (lt_no m n (omega arith))
    ]

-- nothing is below the empty key
pub less_nil : (j : Key) → less j [] ≡ false
unfolding less
less_nil [] = refl
less_nil (b ∷ j) = refl

-- the members below a key, by its first bit: if it is 0, only some that begin with 0
pub smaller_false : (k : Key) (m : ℕ) (s : KeySet) → smaller (false ∷ k) (members (suc m) s) ≡ smaller k (members m (half false s))
unfolding smaller less
smaller_false k m s = rw (members_step, those_append) (simp (those_map, those_none, append-nil, length-map))

-- if it is 1, all that begin with 0 and some that begin with 1
pub smaller_true : (k : Key) (m : ℕ) (s : KeySet)
    → smaller (true ∷ k) (members (suc m) s) ≡ length (members m (half false s)) + smaller k (members m (half true s))
unfolding smaller less
smaller_true k m s = rw (members_step, those_append) (simp (those_map, those_all, length-append, length-map))

-- a member is below k exactly if fewer members are below it than below k
less_smaller : (x k : Key) (m : ℕ) (s : KeySet) → length x ≡ m → s x ≡ true → less x k ≡ ltb (prefixes_before x m s) (smaller k (members m s))
unfolding less prefixes_before half
less_smaller [] k zero s l h = unfold smaller members all_keys those in rw h
less_smaller [] k (suc m) s l h = absurd (omega arith)
less_smaller (a ∷ x) k zero s l h = absurd (omega arith)
less_smaller (a ∷ x) [] (suc m) s l h = unfold smaller in simp (less_nil, those_none, leb-suc-zero)
less_smaller (false ∷ x) (false ∷ k) (suc m) s l h = rw (smaller_false k m s) (less_smaller x k m (half false s) (omega arith) h)
less_smaller (false ∷ x) (true ∷ k) (suc m) s l h =
    let q : prefixes_before x m (half false s) < length (members m (half false s)) + smaller k (members m (half true s)) =
    omega (arith, index_lt x m (half false s) (omega arith) h) in
    rw (smaller_true k m s) (sym (lt_yes _ _ q))
less_smaller (true ∷ x) (false ∷ k) (suc m) s l h =
    let n : length x ≡ m = omega arith in
    let f : smaller k (members m (half false s)) ≤ length (members m (half false s)) = unfold smaller in length_those (λ j. less j k) _ in
    let q : smaller k (members m (half false s)) ≤ length (members m (half false s)) + prefixes_before x m (half true s) = omega arith in
    rw (smaller_false k m s, n, ← length_members) (sym (lt_no _ _ q))
less_smaller (true ∷ x) (true ∷ k) (suc m) s l h =
    let n : length x ≡ m = omega arith in
    rw (smaller_true k m s, length_members, n, lt_add) (less_smaller x k m (half true s) n h)

-- member j is below k exactly if j < smaller k: so that number is the index of the smallest member not below k, or the count if there is none
pub below_bound : (e : Entry) (k : Key) (j : ℕ) → j < count e → less (get_or (keys_of e) j []) k ≡ ltb j (smaller k (keys_of e))
unfolding count keys_of
below_bound e k j h =
    let r = at_place e.width e.set j h in
    rw r.here (less_smaller r.key k e.width e.set r.size r.inside ∙ ap (λ i. ltb i (smaller k (members e.width e.set))) r.order)

-- if the first i members are below k, at least i are
smaller_least : (e : Entry) (k : Key) (i : ℕ) → i ≤ count e → ((j : ℕ) → j < i → less (get_or (keys_of e) j []) k ≡ true) → i ≤ smaller k (keys_of e)
smaller_least e k i l h =
    let n : ℕ = smaller k (keys_of e) in
    elim (dec_le (suc n) i) [
      | yes d ↦ let z : n < n = yes_lt n n (sym (below_bound e k n (omega arith)) ∙ h n d) in absurd (omega arith)
      | no d ↦ omega arith
    ]

-- document 01, seek: the index of the smallest member not below the key, which is the one that has only members below the key before it
pub bound_index : (e : Entry) (x : Bytes) (i : ℕ) → key_test e.width x ≡ none → i < count e → less (get_or (keys_of e) i []) (key_in e.width x) ≡ false
    → ((j : ℕ) → j < i → less (get_or (keys_of e) j []) (key_in e.width x) ≡ true) → (lower_bound e x).outcome.answer ≡ index_is i
unfolding lower_bound answers tested refused_or first_of
bound_index e x i t l f h =
    let k : Key = key_in e.width x in
    let a : smaller k (keys_of e) ≤ i = no_lt i (smaller k (keys_of e)) (sym (below_bound e k i l) ∙ f) in
    let b : i ≤ smaller k (keys_of e) = smaller_least e k i (omega arith) h in
    let n : smaller k (keys_of e) ≡ i = omega arith in
    rw (t, n, eq_no i (count e) (λ z. omega arith))

-- or none, if all members are below the key
pub bound_none : (e : Entry) (x : Bytes) → key_test e.width x ≡ none → ((j : ℕ) → j < count e → less (get_or (keys_of e) j []) (key_in e.width x) ≡ true)
    → (lower_bound e x).outcome.answer ≡ is_none
unfolding lower_bound answers tested refused_or first_of count smaller
bound_none e x t h =
    let k : Key = key_in e.width x in
    let a : smaller k (keys_of e) ≤ count e = length_those (λ j. less j k) (keys_of e) in
    let b : count e ≤ smaller k (keys_of e) = smaller_least e k (count e) (omega arith) h in
    let n : smaller k (keys_of e) ≡ count e = omega arith in
    rw (t, n, eq_yes (count e))

-- ---- Byte order and bit order
-- lexicographic order of byte lists: the first byte that differs decides, by its number
unfoldable pub bytes_less : Bytes → Bytes → Bool
bytes_less [] y = false
bytes_less (a ∷ x) [] = false
bytes_less (a ∷ x) (b ∷ y) = ltb a b || (not (ltb b a) && bytes_less x y)

-- bits of one length that go on from a smaller number make a smaller number
value_lt : (u v : List Bool) (a b : ℕ) → length u ≡ length v → a < b → bits_value u a < bits_value v b
unfolding bits_value
value_lt [] [] a b l h = h
value_lt [] (d ∷ v) a b l h = absurd (omega arith)
value_lt (c ∷ u) [] a b l h = absurd (omega arith)
value_lt (c ∷ u) (d ∷ v) a b l h = value_lt u v (2 * a + bit c) (2 * b + bit d) (omega arith) (omega (arith, bit_le c))

-- so the order of bits is the order of the numbers that they make
less_value : (u v : List Bool) (a : ℕ) → length u ≡ length v → less u v ≡ ltb (bits_value u a) (bits_value v a)
unfolding bits_value less
less_value [] [] a l = sym (lt_no a a (omega arith))
less_value [] (d ∷ v) a l = absurd (omega arith)
less_value (c ∷ u) [] a l = absurd (omega arith)
less_value (false ∷ u) (false ∷ v) a l = less_value u v (2 * a + 0) (omega arith)
less_value (false ∷ u) (true ∷ v) a l = sym (lt_yes _ _ (value_lt u v (2 * a + 0) (2 * a + 1) (omega arith) (omega arith)))
less_value (true ∷ u) (false ∷ v) a l =
    let h : bits_value v (2 * a + 0) < bits_value u (2 * a + 1) = value_lt v u (2 * a + 0) (2 * a + 1) (omega arith) (omega arith) in
    sym (lt_no (bits_value u (2 * a + 1)) (bits_value v (2 * a + 0)) (omega arith))
less_value (true ∷ u) (true ∷ v) a l = less_value u v (2 * a + 1) (omega arith)

-- the bits of one byte
abbrev byte_bits : ℕ → List Bool
byte_bits a = tabulate (λ (j : ℕ). odd (a / 2 ^ (7 - j))) 8

-- and the order of two bytes' bits is the order of the bytes
less_byte : (a b : ℕ) → a < 256 → b < 256 → less (byte_bits a) (byte_bits b) ≡ ltb a b
less_byte a b h i = less_value (byte_bits a) (byte_bits b) 0 (length_tabulate _ 8 ∙ sym (length_tabulate _ 8)) ∙ ap₂ ltb (byte_bits_value a h) (byte_bits_value b i)

-- of lists with fronts of one length the fronts decide, and only if neither is below, the rest
less_append : (u v c d : Key) → length u ≡ length v → less (u ++ c) (v ++ d) ≡ (less u v || (not (less v u) && less c d))
unfolding less
less_append [] [] c d l = refl
less_append [] (b ∷ v) c d l = absurd (omega arith)
less_append (a ∷ u) [] c d l = absurd (omega arith)
less_append (false ∷ u) (false ∷ v) c d l = less_append u v c d (omega arith)
less_append (false ∷ u) (true ∷ v) c d l = refl
less_append (true ∷ u) (false ∷ v) c d l = refl
less_append (true ∷ u) (true ∷ v) c d l = less_append u v c d (omega arith)

-- no key is below itself
less_self : (k : Key) → less k k ≡ false
unfolding less
less_self [] = refl
less_self (false ∷ k) = less_self k
less_self (true ∷ k) = less_self k

-- behind the first byte's 8 bits come the other bytes' bits
at_cons : (a : ℕ) (x : Bytes) (i : ℕ) → bit_at (a ∷ x) (8 + i) ≡ bit_at x i
unfolding bit_at
at_cons a x i =
    let q : (8 + i) / 8 ≡ suc (i / 8) = omega arith in
    let r : (8 + i) % 8 ≡ i % 8 = omega arith in
    rw (q, r)

-- the bits of bytes: the first byte's, then the others'
bits_cons : (a : ℕ) (x : Bytes) (n : ℕ) → bits_in (a ∷ x) (8 + n) ≡ byte_bits a ++ bits_in x n
unfolding bits_in
bits_cons a x n =
    tabulate_add (bit_at (a ∷ x)) 8 n
    ∙ ap₂ ◌++◌ (tabulate_ext _ _ 8 (λ j h. rw zero-add at (at_bit (a ∷ x) 0 j h))) (tabulate_ext _ _ n (λ i h. at_cons a x i))

-- all the bits of bytes are ordered as the bytes
less_bytes : (x y : Bytes) → length x ≡ length y → AllBytes x → AllBytes y → less (bits_in x (8 * length x)) (bits_in y (8 * length x)) ≡ bytes_less x y
unfolding bytes_less
less_bytes [] [] l h i = unfold bits_in tabulate less in refl
less_bytes [] (b ∷ y) l h i = absurd (omega arith)
less_bytes (a ∷ x) [] l h i = absurd (omega arith)
less_bytes (a ∷ x) (b ∷ y) l h i =
    let z : 8 * suc (length x) ≡ 8 + 8 * length x = omega arith in
    rw (
      z,
      bits_cons a x (8 * length x),
      bits_cons b y (8 * length x),
      less_append (byte_bits a) (byte_bits b) _ _ (length_tabulate _ 8 ∙ sym (length_tabulate _ 8)),
      less_byte a b h.0 i.0,
      less_byte b a i.0 h.0,
      less_bytes x y (omega arith) h.1 i.1,
    )

-- bits of which none is set are zeros
all_clear : (u : List Bool) → any_of (λ (b : Bool). b) u ≡ false → u ≡ replicate (length u) false
unfolding any_of
all_clear [] h = refl
all_clear (false ∷ u) h = ap (λ v. false ∷ v) (all_clear u h)
all_clear (true ∷ u) h = absurd (false≢true (sym h))

-- all the bits of a key's bytes: the key's, then zeros
bits_key : (m : ℕ) (x : Bytes) → unused_set m x ≡ false → bits_in x (8 * key_bytes m) ≡ key_in m x ++ replicate (8 * key_bytes m - m) false
unfolding key_in bits_in key_bytes started unused_set
bits_key m x h =
    let n : ℕ = 8 * started 8 m - m in
    let c : List Bool = tabulate (λ i. bit_at x (m + i)) n in
    let z : 8 * started 8 m ≡ m + n = omega arith in
    let e : tabulate (bit_at x) (8 * started 8 m) ≡ tabulate (bit_at x) m ++ c = ap (tabulate (bit_at x)) z ∙ tabulate_add (bit_at x) m n in
    let k : c ≡ replicate (length c) false = all_clear c (rw (e, drop_at (tabulate (bit_at x) m) c m (length_tabulate (bit_at x) m)) at h) in
    e ∙ ap (λ d. tabulate (bit_at x) m ++ d) (k ∙ ap (λ i. replicate i false) (length_tabulate (λ i. bit_at x (m + i)) n))

-- document 01, tickets: keys are ordered as their bytes, so byte order and bit order agree
pub byte_order : (m : ℕ) (x y : Bytes) → length x ≡ key_bytes m → length y ≡ key_bytes m → AllBytes x → AllBytes y
    → unused_set m x ≡ false → unused_set m y ≡ false → less (key_in m x) (key_in m y) ≡ bytes_less x y
byte_order m x y l n h i p q =
    let c : List Bool = replicate (8 * key_bytes m - m) false in
    let a : less (key_in m x ++ c) (key_in m y ++ c) ≡ less (key_in m x) (key_in m y) =
    rw (less_append (key_in m x) (key_in m y) c c (length_key m x ∙ sym (length_key m y)), less_self c, and-false, or-false) in
    sym a ∙ ap₂ less (sym (bits_key m x p)) (sym (bits_key m y q)) ∙ rw l at (less_bytes x y (l ∙ sym n) h i)
