-- Levels by recursion on the key's bits, and that they are the levels of the specification.
use mathlib.Core.Path.{◌≡◌, refl, sym, ap, ap₂, ◌∙◌}
use Prim.Native.Nat.{ℕ, zero, suc, ◌+◌, ◌*◌, ◌≤◌, ◌<◌}
use mathlib.Core.Bool.{Bool, true, false, ◌&&◌, ◌||◌, cond, or-false, or-true, false≢true}
use mathlib.Core.List.{List, [], ◌∷◌, ◌++◌, map, map-append, map-map, append-nil}
use native.Mathlib.Omega.{arith}
use lib.ListN.{length, take, get_or, length-append, length-map, get_or-append}
use lib.Seq.{take-append-le, take-append-add, get_or-append-add}
use Rattle.loes.specs.Bytes.{bit}
use Rattle.loes.specs.Keys.{Key, KeySet, all_keys, those, any_of, members, is_prefix, less, smaller}
use Rattle.loes.specs.Edges.{record_of, found, level, Record, record_bits, ones, rank}
use Rattle.loes.specs.Prefixes.{half, inhabited, prefix_count, prefixes_before}
use Rattle.loes.proofs.Tests.{neither}
use Rattle.loes.proofs.Lists.{those_append, those_map, any_of_append, any_of_map, any_of_none, ones_append, rank_set, bits_append, length_bits, those_none, those_all, get_d_map_in}

unfoldable pub root_record : Bool → Bool → List Record
root_record a b = cond (a || b) (record { on_zero = a; on_one = b } ∷ []) []

unfoldable pub tree_level : ℕ → ℕ → KeySet → List Record
tree_level zero zero s = []
tree_level zero (suc m) s = root_record (inhabited m (half false s)) (inhabited m (half true s))
tree_level (suc d) zero s = []
tree_level (suc d) (suc m) s = tree_level d m (half false s) ++ tree_level d m (half true s)

-- ---- the specification's definitions, by the first bit
pub members_step : (m : ℕ) (s : KeySet)
    → members (suc m) s ≡ map (λ (k : Key). false ∷ k) (members m (half false s)) ++ map (λ (k : Key). true ∷ k) (members m (half true s))
unfolding members half all_keys
members_step m s = simp (those_append, those_map)

one_key : (b : Bool) → any_of (is_prefix []) (cond b ([] ∷ []) []) ≡ b
unfolding any_of is_prefix
one_key true = refl
one_key false = refl

pub found_nil : (m : ℕ) (s : KeySet) → found m s [] ≡ inhabited m s
unfolding found inhabited is_prefix members those all_keys
found_nil zero s = one_key (s [])
found_nil (suc m) s = simp (members_step, any_of_append, any_of_map) (ap₂ ◌||◌ (found_nil m (half false s)) (found_nil m (half true s)))

pub found_false : (m : ℕ) (s : KeySet) (p : Key) → found (suc m) s (false ∷ p) ≡ found m (half false s) p
unfolding found is_prefix
found_false m s p = simp (members_step, any_of_append, any_of_map, any_of_none, or-false)

pub found_true : (m : ℕ) (s : KeySet) (p : Key) → found (suc m) s (true ∷ p) ≡ found m (half true s) p
unfolding found is_prefix
found_true m s p = simp (members_step, any_of_append, any_of_map, any_of_none)

pub level_step : (d m : ℕ) (s : KeySet) → level (suc d) (suc m) s ≡ level d m (half false s) ++ level d m (half true s)
unfolding level record_of all_keys
level_step d m s = simp (those_append, those_map, map-append, map-map, found_false, found_true)

-- level 0
map_cond : {A B : Type 0} (f : A → B) (b : Bool) (l r : List A) → map f (cond b l r) ≡ cond b (map f l) (map f r)
map_cond f true l r = refl
map_cond f false l r = refl

level_zero : (m : ℕ) (s : KeySet) → level 0 (suc m) s ≡ tree_level 0 (suc m) s
unfolding level record_of all_keys tree_level root_record those inhabited
level_zero m s = simp (map_cond, found_false, found_true, found_nil)

pub level_tree : (d m : ℕ) (s : KeySet) → d < m → level d m s ≡ tree_level d m s
unfolding tree_level
level_tree d zero s h = absurd (omega arith)
level_tree zero (suc m) s h = level_zero m s
level_tree (suc d) (suc m) s h =
    rw level_step (ap₂ ◌++◌ (level_tree d m (half false s) (omega arith)) (level_tree d m (half true s) (omega arith)))

-- ---- Set bits of a level, and the records below it
pub ones_root : (a b : Bool) → ones (record_bits (root_record a b)) ≡ bit a + bit b
unfolding ones record_bits root_record
ones_root false false = refl
ones_root false true = refl
ones_root true false = refl
ones_root true true = refl

pub length_root : (a b : Bool) → length (root_record a b) ≡ bit (a || b)
unfolding root_record
length_root false false = refl
length_root false true = refl
length_root true false = refl
length_root true true = refl

-- set bits of level d: the prefixes of d + 1 bits
pub ones_tree : (d m : ℕ) (s : KeySet) → ones (record_bits (tree_level d m s)) ≡ prefix_count (suc d) m s
unfolding tree_level prefix_count
ones_tree zero zero s = unfold ones record_bits in refl
ones_tree zero (suc m) s = ones_root (inhabited m (half false s)) (inhabited m (half true s))
ones_tree (suc d) zero s = unfold ones record_bits in refl
ones_tree (suc d) (suc m) s = rw (bits_append (tree_level d m (half false s)) (tree_level d m (half true s)), ones_append) (ap₂ ◌+◌ (ones_tree d m (half false s)) (ones_tree d m (half true s)))

-- records of level d: the prefixes of d bits
pub length_tree : (d m : ℕ) (s : KeySet) → d < m → length (tree_level d m s) ≡ prefix_count d m s
unfolding tree_level prefix_count inhabited
length_tree d zero s h = absurd (omega arith)
length_tree zero (suc m) s h = length_root (inhabited m (half false s)) (inhabited m (half true s))
length_tree (suc d) (suc m) s h = rw (length-append (tree_level d m (half false s)) (tree_level d m (half true s))) (ap₂ ◌+◌ (length_tree d m (half false s) (omega arith)) (length_tree d m (half true s) (omega arith)))

pub length_one : (b : Bool) → length {A = Key} (cond b ([] ∷ []) []) ≡ bit b
length_one true = refl
length_one false = refl

pub length_members : (m : ℕ) (s : KeySet) → length (members m s) ≡ prefix_count m m s
unfolding prefix_count members those all_keys inhabited
length_members zero s = length_one (s [])
length_members (suc m) s =
    rw members_step (simp (length-append, length-map) (ap₂ ◌+◌ (length_members m (half false s)) (length_members m (half true s))))

-- ---- Prefixes
-- some member begins with p: `found`, by the first bit
unfoldable pub has_prefix : Key → ℕ → KeySet → Bool
has_prefix [] m s = inhabited m s
has_prefix (b ∷ p) zero s = false
has_prefix (b ∷ p) (suc m) s = has_prefix p m (half b s)

no_key : (c : Bool) (b : Bool) (p : Key) → any_of (is_prefix (b ∷ p)) (cond c ([] ∷ []) []) ≡ false
unfolding any_of is_prefix
no_key true b p = refl
no_key false b p = refl

pub found_prefix : (p : Key) (m : ℕ) (s : KeySet) → found m s p ≡ has_prefix p m s
unfolding has_prefix found members those all_keys
found_prefix [] m s = found_nil m s
found_prefix (b ∷ p) zero s = no_key (s []) b p
found_prefix (false ∷ p) (suc m) s = found_false m s p ∙ found_prefix p m (half false s)
found_prefix (true ∷ p) (suc m) s = found_true m s p ∙ found_prefix p m (half true s)

pub before_lt : (p : Key) (m : ℕ) (s : KeySet) → has_prefix p m s ≡ true → prefixes_before p m s < prefix_count (length p) m s
unfolding has_prefix prefixes_before prefix_count
before_lt [] m s h = rw h (omega arith)
before_lt (b ∷ p) zero s h = absurd (false≢true h)
before_lt (false ∷ p) (suc m) s h = omega (arith, before_lt p m (half false s) h)
before_lt (true ∷ p) (suc m) s h = omega (arith, before_lt p m (half true s) h)

pub bit_le : (b : Bool) → bit b ≤ 1
bit_le false = omega arith
bit_le true = omega arith

rec_bit : (a b : Bool) (c : Bool) → (a || b) ≡ true → get_or (record_bits (root_record a b)) (2 * 0 + bit c) false ≡ cond c b a
unfolding record_bits root_record
rec_bit false false c h = absurd (false≢true h)
rec_bit false true false h = refl
rec_bit false true true h = refl
rec_bit true b false h = refl
rec_bit true b true h = refl

-- the bit of level d that is p's
pub edge_bit : (p : Key) (b : Bool) (m : ℕ) (s : KeySet) → length p < m → has_prefix p m s ≡ true
    → get_or (record_bits (tree_level (length p) m s)) (2 * prefixes_before p m s + bit b) false ≡ has_prefix (p ++ b ∷ []) m s
unfolding has_prefix prefixes_before tree_level inhabited
edge_bit p b zero s l h = absurd (omega arith)
edge_bit [] false (suc m) s l h = rec_bit (inhabited m (half false s)) (inhabited m (half true s)) false h
edge_bit [] true (suc m) s l h = rec_bit (inhabited m (half false s)) (inhabited m (half true s)) true h
edge_bit (false ∷ p) b (suc m) s l h =
    let l0 : List Record = tree_level (length p) m (half false s) in
    let l1 : List Record = tree_level (length p) m (half true s) in
    let inside : 2 * prefixes_before p m (half false s) + bit b < length (record_bits l0) =
    omega (arith, length_bits l0, length_tree (length p) m (half false s) (omega arith), before_lt p m (half false s) h, bit_le b) in
    rw (bits_append l0 l1, get_or-append) (edge_bit p b m (half false s) (omega arith) h)
edge_bit (true ∷ p) b (suc m) s l h =
    let l0 : List Record = tree_level (length p) m (half false s) in
    let l1 : List Record = tree_level (length p) m (half true s) in
    let at : 2 * (prefix_count (length p) m (half false s) + prefixes_before p m (half true s)) + bit b ≡ length (record_bits l0) + (2 * prefixes_before p m (half true s) + bit b) =
    omega (arith, length_bits l0, length_tree (length p) m (half false s) (omega arith)) in
    rw (bits_append l0 l1, at, get_or-append-add) (edge_bit p b m (half true s) (omega arith) h)

pub length_snoc : {A : Type 0} (p : List A) (b : A) → length (p ++ b ∷ []) ≡ suc (length p)
length_snoc p b = rw (length-append p (b ∷ [])) (omega arith)

pub prefix_shorter : (p : Key) (b : Bool) (m : ℕ) (s : KeySet) → has_prefix (p ++ b ∷ []) m s ≡ true → has_prefix p m s ≡ true
unfolding has_prefix inhabited
prefix_shorter [] b zero s h = absurd (false≢true h)
prefix_shorter (a ∷ p) b zero s h = absurd (false≢true h)
prefix_shorter [] false (suc m) s h = rw h
prefix_shorter [] true (suc m) s h = rw (h, or-true)
prefix_shorter (a ∷ p) b (suc m) s h = prefix_shorter p b m (half a s) h

pub before_le : (p : Key) (m : ℕ) (s : KeySet) → length p ≤ m → prefixes_before p m s ≤ prefix_count (length p) m s
unfolding prefixes_before prefix_count
before_le [] m s h = omega arith
before_le (b ∷ p) zero s h = absurd (omega arith)
before_le (false ∷ p) (suc m) s h = omega (arith, before_le p m (half false s) (omega arith))
before_le (true ∷ p) (suc m) s h = omega (arith, before_le p m (half true s) (omega arith))

pub reach_le : (p : Key) (b : Bool) (m : ℕ) (s : KeySet) → length p ≤ m → 2 * prefixes_before p m s + bit (has_prefix p m s && b) ≤ 2 * prefix_count (length p) m s
reach_le p b m s l = go (has_prefix p m s) refl
  where
    go : (c : Bool) → has_prefix p m s ≡ c → 2 * prefixes_before p m s + bit (c && b) ≤ 2 * prefix_count (length p) m s
    go true h = omega (arith, before_lt p m s h, bit_le b)
    go false h = omega (arith, before_le p m s l)

root_before : (a c : Bool) → ones (take (2 * 0 + bit ((a || c) && true)) (record_bits (root_record a c))) ≡ bit a
unfolding record_bits root_record ones
root_before false false = refl
root_before false true = refl
root_before true c = refl

root_start : (a c : Bool) (d : Bool) → ones (take (2 * 0 + bit (d && false)) (record_bits (root_record a c))) ≡ 0
unfolding ones
root_start a c true = refl
root_start a c false = refl

-- the set bits of level d before p's edge for b, or, if p is not found, before where its record would stand: the found prefixes of d + 1 bits that are smaller
pub step_before : (p : Key) (b : Bool) (m : ℕ) (s : KeySet) → length p < m
    → ones (take (2 * prefixes_before p m s + bit (has_prefix p m s && b)) (record_bits (tree_level (length p) m s))) ≡ prefixes_before (p ++ b ∷ []) m s
unfolding has_prefix prefixes_before tree_level inhabited
step_before p b zero s l = absurd (omega arith)
step_before [] false (suc m) s l = root_start (inhabited m (half false s)) (inhabited m (half true s)) (inhabited m (half false s) || inhabited m (half true s))
step_before [] true (suc m) s l = root_before (inhabited m (half false s)) (inhabited m (half true s)) ∙ (unfold prefix_count in omega arith)
step_before (false ∷ p) b (suc m) s l =
    let l0 : List Record = tree_level (length p) m (half false s) in
    let l1 : List Record = tree_level (length p) m (half true s) in
    let inside : 2 * prefixes_before p m (half false s) + bit (has_prefix p m (half false s) && b) ≤ length (record_bits l0) =
    omega (arith, length_bits l0, length_tree (length p) m (half false s) (omega arith), reach_le p b m (half false s) (omega arith)) in
    rw (bits_append l0 l1, take-append-le) (step_before p b m (half false s) (omega arith))
step_before (true ∷ p) b (suc m) s l =
    let l0 : List Record = tree_level (length p) m (half false s) in
    let l1 : List Record = tree_level (length p) m (half true s) in
    let at : 2 * (prefix_count (length p) m (half false s) + prefixes_before p m (half true s)) + bit (has_prefix p m (half true s) && b) ≡ length (record_bits l0) + (2 * prefixes_before p m (half true s) + bit (has_prefix p m (half true s) && b)) =
    omega (arith, length_bits l0, length_tree (length p) m (half false s) (omega arith)) in
    rw (bits_append l0 l1, at, take-append-add, ones_append, ones_tree (length p) m (half false s), step_before p b m (half true s) (omega arith), length_snoc p b)

-- up to that edge, if it is set: one more
pub edge_rank : (p : Key) (b : Bool) (m : ℕ) (s : KeySet) → length p < m → has_prefix (p ++ b ∷ []) m s ≡ true
    → ones (take (suc (2 * prefixes_before p m s + bit b)) (record_bits (tree_level (length p) m s))) ≡ suc (prefixes_before (p ++ b ∷ []) m s)
unfolding rank
edge_rank p b m s l h =
    let f : has_prefix p m s ≡ true = prefix_shorter p b m s h in
    rank_set (record_bits (tree_level (length p) m s)) (2 * prefixes_before p m s + bit b) (edge_bit p b m s l f ∙ h) ∙ ap suc (rw f at (step_before p b m s l))

-- what begins with p is there
pub prefix_inhabited : (p : Key) (m : ℕ) (s : KeySet) → has_prefix p m s ≡ true → inhabited m s ≡ true
unfolding has_prefix inhabited
prefix_inhabited [] m s h = h
prefix_inhabited (b ∷ p) zero s h = absurd (false≢true h)
prefix_inhabited (false ∷ p) (suc m) s h = rw (prefix_inhabited p m (half false s) h)
prefix_inhabited (true ∷ p) (suc m) s h = rw (prefix_inhabited p m (half true s) h, or-true)

pub count_one : (m : ℕ) (s : KeySet) → inhabited m s ≡ true → prefix_count 0 m s ≡ 1
unfolding prefix_count
count_one m s h = rw h

-- a whole key is found if the set has it
pub prefix_whole : (k : Key) (m : ℕ) (s : KeySet) → length k ≡ m → has_prefix k m s ≡ s k
unfolding has_prefix inhabited half
prefix_whole [] zero s h = refl
prefix_whole [] (suc m) s h = absurd (omega arith)
prefix_whole (b ∷ k) zero s h = absurd (omega arith)
prefix_whole (b ∷ k) (suc m) s h = prefix_whole k m (half b s) (omega arith)

-- a member: each of its prefixes is found
pub prefix_start : (p k : Key) (m : ℕ) (s : KeySet) → has_prefix (p ++ k) m s ≡ true → has_prefix p m s ≡ true
unfolding has_prefix
prefix_start [] k m s f = prefix_inhabited k m s f
prefix_start (b ∷ p) k zero s f = f
prefix_start (b ∷ p) k (suc m) s f = prefix_start p k m (half b s) f

pub prefix_of : (p k : Key) (m : ℕ) (s : KeySet) → length (p ++ k) ≡ m → s (p ++ k) ≡ true → has_prefix p m s ≡ true
prefix_of p k m s h e = prefix_start p k m s (prefix_whole (p ++ k) m s h ∙ e)

pub false_if : {a b : Bool} → (a ≡ true → b ≡ true) → b ≡ false → a ≡ false
false_if {a = true} f e = sym (f refl) ∙ e
false_if {a = false} f e = refl

-- an empty set has no record, and no prefix
pub tree_empty : (d m : ℕ) (s : KeySet) → inhabited m s ≡ false → tree_level d m s ≡ []
unfolding tree_level inhabited
tree_empty zero zero s h = refl
tree_empty zero (suc m) s h = unfold root_record in rw h
tree_empty (suc d) zero s h = refl
tree_empty (suc d) (suc m) s h =
    let z : (inhabited m (half false s) ≡ false) × (inhabited m (half true s) ≡ false) = neither (inhabited m (half false s)) (inhabited m (half true s)) h in
    rw (tree_empty d m (half false s) z.0, tree_empty d m (half true s) z.1)

pub count_none : (d m : ℕ) (s : KeySet) → inhabited m s ≡ false → prefix_count d m s ≡ 0
unfolding prefix_count inhabited
count_none zero m s h = rw h
count_none (suc d) zero s h = refl
count_none (suc d) (suc m) s h =
    let z : (inhabited m (half false s) ≡ false) × (inhabited m (half true s) ≡ false) = neither (inhabited m (half false s)) (inhabited m (half true s)) h in
    rw (count_none d m (half false s) z.0, count_none d m (half true s) z.1)

-- the smaller members are the whole keys found before it
pub none_smaller : (b : Bool) → length (those (λ (j : Key). less j []) (cond b ([] ∷ []) [])) ≡ 0
unfolding those less
none_smaller true = refl
none_smaller false = refl

pub before_smaller : (k : Key) (m : ℕ) (s : KeySet) → length k ≡ m → smaller k (members m s) ≡ prefixes_before k m s
unfolding prefixes_before smaller less
before_smaller [] zero s h = unfold members all_keys those in none_smaller (s [])
before_smaller [] (suc m) s h = absurd (omega arith)
before_smaller (b ∷ k) zero s h = absurd (omega arith)
before_smaller (false ∷ k) (suc m) s h =
    rw (members_step, those_append) (simp (those_map, those_none, append-nil, length-map) (before_smaller k m (half false s) (omega arith)))
before_smaller (true ∷ k) (suc m) s h =
    let l : length k ≡ m = omega arith in
    rw (members_step, those_append) (simp (those_map, those_all, length-append, length-map, length_members, l) (ap (λ x. prefix_count m m (half false s) + x) (before_smaller k m (half true s) l)))

pub index_lt : (k : Key) (m : ℕ) (s : KeySet) → length k ≡ m → s k ≡ true → prefixes_before k m s < length (members m s)
index_lt k m s l e =
    let f : prefixes_before k m s < prefix_count (length k) m s = before_lt k m s (prefix_whole k m s l ∙ e) in
    rw (length_members, ← l) (rw (← l) at f)

-- the member with so many before it
pub members_at : (k : Key) (m : ℕ) (s : KeySet) → length k ≡ m → s k ≡ true → get_or (members m s) (prefixes_before k m s) [] ≡ k
unfolding prefixes_before half
members_at [] zero s h e = unfold members all_keys those in rw e
members_at [] (suc m) s h e = absurd (omega arith)
members_at (b ∷ k) zero s h e = absurd (omega arith)
members_at (false ∷ k) (suc m) s h e =
    let l : length k ≡ m = omega arith in
    let n : prefixes_before k m (half false s) < length (members m (half false s)) = index_lt k m (half false s) l e in
    let i : prefixes_before k m (half false s) < length (map (λ (k : Key). false ∷ k) (members m (half false s))) = simp length-map n in
    rw (members_step, get_or-append, get_d_map_in (λ (k : Key). false ∷ k) (members m (half false s)) (prefixes_before k m (half false s)) [], members_at k m (half false s) l)
members_at (true ∷ k) (suc m) s h e =
    let l : length k ≡ m = omega arith in
    let n : prefixes_before k m (half true s) < length (members m (half true s)) = index_lt k m (half true s) l e in
    let c : prefix_count (length k) m (half false s) ≡ length (map (λ (k : Key). false ∷ k) (members m (half false s))) = simp (length-map, length_members, l) in
    rw (members_step, c, get_or-append-add, get_d_map_in (λ (k : Key). true ∷ k) (members m (half true s)) (prefixes_before k m (half true s)) [], members_at k m (half true s) l)
