-- The edge sequence of a set, of which only the edges of some keys are set yet
use mathlib.Core.Path.{◌≡◌, refl, ap, ap₂, ◌∙◌}
use Prim.Native.Nat.{ℕ, zero, suc, ◌+◌, ◌*◌, ◌≤◌, ◌<◌}
use mathlib.Core.Bool.{Bool, true, false, cond}
use mathlib.Core.List.{List, [], ◌∷◌, ◌++◌}
use native.Mathlib.Omega.{arith}
use native.Mathlib.Decide.{dec_le}
use lib.ListN.{length, take, drop, get_or, set, take-append-drop, length-append}
use lib.Seq.{length-take-le, set-append_left}
use lib.Dec.{ltb}
use borrow.Author.Tests.{lt-ltb, le-ltb}
use Rattle.loes.specs.Bytes.{bit}
use Rattle.loes.specs.Keys.{Key, KeySet}
use Rattle.loes.specs.Edges.{Record, record_bits, edges_before}
use Rattle.loes.specs.Prefixes.{half, inhabited, prefix_count, prefixes_before, records_before}
use Rattle.loes.proofs.Lists.{bits_append, length_bits}
use Rattle.loes.proofs.Tree.{has_prefix, root_record, tree_level, before_lt, bit_le, prefix_of, prefix_start, prefix_whole, level_tree}
use Rattle.pack.proofs.Grow.{insert, half_in, half_ft, half_tf, inhabited_insert}

-- level d of s, where a bit is set if a key of t goes that way
unfoldable pub marked : ℕ → ℕ → KeySet → KeySet → List Record
marked zero zero s t = []
marked zero (suc m) s t = cond (inhabited (suc m) s) (record { on_zero = inhabited m (half false t); on_one = inhabited m (half true t) } ∷ []) []
marked (suc d) zero s t = []
marked (suc d) (suc m) s t = marked d m (half false s) (half false t) ++ marked d m (half true s) (half true t)

-- all of them: the level itself
pub marked_all : (d m : ℕ) (s : KeySet) → marked d m s s ≡ tree_level d m s
unfolding marked tree_level root_record inhabited
marked_all zero zero s = refl
marked_all zero (suc m) s = refl
marked_all (suc d) zero s = refl
marked_all (suc d) (suc m) s = ap₂ ◌++◌ (marked_all d m (half false s)) (marked_all d m (half true s))

length_one : (b : Bool) (r : Record) → length (cond b (r ∷ []) []) ≡ bit b
length_one true r = refl
length_one false r = refl

pub length_marked : (d m : ℕ) (s t : KeySet) → d < m → length (marked d m s t) ≡ prefix_count d m s
unfolding marked prefix_count
length_marked d zero s t h = absurd (omega arith)
length_marked zero (suc m) s t h = length_one (inhabited (suc m) s) _
length_marked (suc d) (suc m) s t h =
    rw (length-append (marked d m (half false s) (half false t)) (marked d m (half true s) (half true t)))
    (ap₂ ◌+◌ (length_marked d m (half false s) (half false t) (omega arith)) (length_marked d m (half true s) (half true t) (omega arith)))

pub set_append_right : {A : Type 0} (xs ys : List A) (i : ℕ) (a : A) → set (xs ++ ys) (length xs + i) a ≡ xs ++ set ys i a
set_append_right [] ys i a = let z : 0 + i ≡ i = omega arith in rw z
set_append_right (x ∷ xs) ys i a = let z : suc (length xs) + i ≡ suc (length xs + i) = omega arith in rw (z, set_append_right xs ys i a)

bits_one : (b : Bool) (x y : Bool) → record_bits (cond b (record { on_zero = x; on_one = y } ∷ []) []) ≡ cond b (x ∷ y ∷ []) []
unfolding record_bits
bits_one true x y = refl
bits_one false x y = refl

-- where a key of s has its bit on level d
pub inside : (d : ℕ) (k : Key) (m : ℕ) (s t : KeySet) → length k ≡ m → d < m → s k ≡ true
    → 2 * prefixes_before (take d k) m s + bit (get_or k d false) < length (record_bits (marked d m s t))
inside d k m s t l h e =
    let lt : length (take d k) ≡ d = length-take-le d k (omega arith) in
    let w : has_prefix (take d k ++ drop d k) m s ≡ true = rw (take-append-drop d k) (prefix_whole k m s l ∙ e) in
    let b : prefixes_before (take d k) m s < prefix_count d m s = rw lt at (before_lt (take d k) m s (prefix_start (take d k) (drop d k) m s w)) in
    omega (arith, length_bits (marked d m s t), length_marked d m s t h, bit_le (get_or k d false))

inhabited_of : (k : Key) (m : ℕ) (s : KeySet) → length k ≡ m → s k ≡ true → inhabited m s ≡ true
unfolding has_prefix
inhabited_of k m s l e = prefix_of [] k m s l e

-- one key more: its bit is set
pub marked_set : (d : ℕ) (k : Key) (m : ℕ) (s t : KeySet) → length k ≡ m → d < m → s k ≡ true
    → record_bits (marked d m s (insert t k)) ≡ set (record_bits (marked d m s t)) (2 * prefixes_before (take d k) m s + bit (get_or k d false)) true
unfolding marked prefixes_before half
marked_set d k zero s t l h e = absurd (omega arith)
marked_set d [] (suc m) s t l h e = absurd (omega arith)
marked_set zero (false ∷ k) (suc m) s t l h e =
    rw (bits_one, bits_one, inhabited_of (false ∷ k) (suc m) s l e, half_in false t k, half_ft t k, inhabited_insert k m (half false t) (omega arith))
marked_set zero (true ∷ k) (suc m) s t l h e =
    rw (bits_one, bits_one, inhabited_of (true ∷ k) (suc m) s l e, half_in true t k, half_tf t k, inhabited_insert k m (half true t) (omega arith))
marked_set (suc d) (false ∷ k) (suc m) s t l h e =
    let l0 : List Record = marked d m (half false s) (half false t) in
    let l1 : List Record = marked d m (half true s) (half true t) in
    let i : 2 * prefixes_before (take d k) m (half false s) + bit (get_or k d false) < length (record_bits l0) = inside d k m (half false s) (half false t) (omega arith) (omega arith) e in
    rw (
      half_in false t k,
      half_ft t k,
      bits_append (marked d m (half false s) (insert (half false t) k)) l1,
      bits_append l0 l1,
      set-append_left (record_bits l0) (record_bits l1) (2 * prefixes_before (take d k) m (half false s) + bit (get_or k d false)) true i,
      marked_set d k m (half false s) (half false t) (omega arith) (omega arith) e,
    )
marked_set (suc d) (true ∷ k) (suc m) s t l h e =
    let l0 : List Record = marked d m (half false s) (half false t) in
    let l1 : List Record = marked d m (half true s) (half true t) in
    let lt : length (take d k) ≡ d = length-take-le d k (omega arith) in
    let at : 2 * (prefix_count (length (take d k)) m (half false s) + prefixes_before (take d k) m (half true s)) + bit (get_or k d false)
    ≡ length (record_bits l0) + (2 * prefixes_before (take d k) m (half true s) + bit (get_or k d false)) =
    rw lt (omega (arith, length_bits l0, length_marked d m (half false s) (half false t) (omega arith))) in
    rw (
      half_in true t k,
      half_tf t k,
      bits_append l0 (marked d m (half true s) (insert (half true t) k)),
      bits_append l0 l1,
      at,
      set_append_right (record_bits l0) (record_bits l1) (2 * prefixes_before (take d k) m (half true s) + bit (get_or k d false)) true,
      marked_set d k m (half true s) (half true t) (omega arith) (omega arith) e,
    )

-- a prefix that is there already sets nothing new
pub marked_same : (d : ℕ) (k : Key) (m : ℕ) (s t : KeySet) → length k ≡ m → has_prefix (take (suc d) k) m t ≡ true → marked d m s (insert t k) ≡ marked d m s t
unfolding marked has_prefix
marked_same zero k zero s t l f = refl
marked_same (suc d) k zero s t l f = refl
marked_same d [] (suc m) s t l f = absurd (omega arith)
marked_same zero (false ∷ k) (suc m) s t l f = rw (half_in false t k, half_ft t k, inhabited_insert k m (half false t) (omega arith), f)
marked_same zero (true ∷ k) (suc m) s t l f = rw (half_in true t k, half_tf t k, inhabited_insert k m (half true t) (omega arith), f)
marked_same (suc d) (false ∷ k) (suc m) s t l f = rw (half_in false t k, half_ft t k, marked_same d k m (half false s) (half false t) (omega arith) f)
marked_same (suc d) (true ∷ k) (suc m) s t l f = rw (half_in true t k, half_tf t k, marked_same d k m (half true s) (half true t) (omega arith) f)

-- ---- the whole sequence: level d is marked by T d
unfoldable pub marked_edges : ℕ → ℕ → KeySet → (ℕ → KeySet) → List Bool
marked_edges zero m s T = []
marked_edges (suc d) m s T = marked_edges d m s T ++ record_bits (marked d m s (T d))

pub length_edges : (d m : ℕ) (s : KeySet) (T : ℕ → KeySet) → d ≤ m → length (marked_edges d m s T) ≡ 2 * records_before d m s
unfolding marked_edges records_before
length_edges zero m s T h = refl
length_edges (suc d) m s T h =
    rw (length-append (marked_edges d m s T) (record_bits (marked d m s (T d))), length_bits) (omega (arith, length_edges d m s T (omega arith), length_marked d m s (T d) h))

pub edges_ext : (d m : ℕ) (s : KeySet) (T U : ℕ → KeySet) → ((x : ℕ) → x < d → marked x m s (T x) ≡ marked x m s (U x)) → marked_edges d m s T ≡ marked_edges d m s U
unfolding marked_edges
edges_ext zero m s T U h = refl
edges_ext (suc d) m s T U h = rw (edges_ext d m s T U (λ x l. h x (omega arith)), h d (omega arith))

pub edges_all : (d m : ℕ) (s : KeySet) → d ≤ m → marked_edges d m s (λ (x : ℕ). s) ≡ edges_before d m s
unfolding marked_edges edges_before
edges_all zero m s h = refl
edges_all (suc d) m s h = rw (edges_all d m s (omega arith), marked_all d m s, level_tree d m s h)

-- where a key has its bit of level c
unfoldable pub edge_offset : ℕ → Key → ℕ → KeySet → ℕ
edge_offset c k m s = 2 * records_before c m s + (2 * prefixes_before (take c k) m s + bit (get_or k c false))

offset_at : (d : ℕ) (k : Key) (m : ℕ) (s : KeySet) (T : ℕ → KeySet) → d ≤ m
    → edge_offset d k m s ≡ length (marked_edges d m s T) + (2 * prefixes_before (take d k) m s + bit (get_or k d false))
unfolding edge_offset
offset_at d k m s T h = omega (arith, length_edges d m s T h)

-- the bit of level c is set
pub edges_set : (d c : ℕ) (k : Key) (m : ℕ) (s : KeySet) (T U : ℕ → KeySet) → length k ≡ m → s k ≡ true → c < d → d ≤ m
    → ((x : ℕ) → (x ≡ c → ⊥) → U x ≡ T x) → U c ≡ insert (T c) k
    → (edge_offset c k m s < length (marked_edges d m s T)) × (marked_edges d m s U ≡ set (marked_edges d m s T) (edge_offset c k m s) true)
unfolding marked_edges
edges_set zero c k m s T U l e h hd other this = absurd (omega arith)
edges_set (suc d) c k m s T U l e h hd other this =
    elim (dec_le (suc c) d) [
      | yes y ↦
          let ih : (edge_offset c k m s < length (marked_edges d m s T)) × (marked_edges d m s U ≡ set (marked_edges d m s T) (edge_offset c k m s) true) = edges_set d c k m s T U l e y (omega arith) other this in
          let i : edge_offset c k m s < length (marked_edges d m s T) = ih.0 in (
            rw (length-append (marked_edges d m s T) (record_bits (marked d m s (T d)))) (omega arith),
            rw (ih.1, other d (λ q. omega arith), set-append_left (marked_edges d m s T) (record_bits (marked d m s (T d))) (edge_offset c k m s) true i),
          )
      | no y ↦
          let q : c ≡ d = omega arith in
          let o : ℕ = 2 * prefixes_before (take d k) m s + bit (get_or k d false) in
          let i : o < length (record_bits (marked d m s (T d))) = inside d k m s (T d) l hd e in
          let z : edge_offset c k m s ≡ length (marked_edges d m s T) + o = rw q (offset_at d k m s T (omega arith)) in
          let u : U d ≡ insert (T d) k = rw q at this in (
            rw (z, length-append (marked_edges d m s T) (record_bits (marked d m s (T d)))) (omega arith),
            rw (
              z,
              set_append_right (marked_edges d m s T) (record_bits (marked d m s (T d))) o true,
              u,
              marked_set d k m s (T d) l hd e,
              edges_ext d m s U T (λ x lx. ap (marked x m s) (other x (λ xq. omega arith))),
            ),
          )
    ]

-- levels below c have the new key, the others have not
unfoldable pub inserted_above : (ℕ → KeySet) → Key → ℕ → ℕ → KeySet
inserted_above T k c d = cond (ltb d c) (insert (T d) k) (T d)

pub mark_step : (c : ℕ) (k : Key) (m : ℕ) (s : KeySet) (T : ℕ → KeySet) → length k ≡ m → s k ≡ true → c < m
    → (edge_offset c k m s < length (marked_edges m m s (inserted_above T k c))) × (marked_edges m m s (inserted_above T k (suc c)) ≡ set (marked_edges m m s (inserted_above T k c)) (edge_offset c k m s) true)
unfolding inserted_above
mark_step c k m s T l e h =
    let other : (x : ℕ) → (x ≡ c → ⊥) → inserted_above T k (suc c) x ≡ inserted_above T k c x = λ x n.
    elim (dec_le (suc x) c) [
      | yes y ↦ rw (lt-ltb x c y, lt-ltb x (suc c) (omega arith))
      | no y ↦ let z : suc c ≤ x = omega (arith, n) in rw (le-ltb x c (omega arith), le-ltb x (suc c) z)
    ] in
    let this : inserted_above T k (suc c) c ≡ insert (inserted_above T k c c) k = rw (lt-ltb c (suc c) (omega arith), le-ltb c c (omega arith)) in
    edges_set m c k m s (inserted_above T k c) (inserted_above T k (suc c)) l e h (omega arith) other this

-- before the first level that is new, nothing changes
pub mark_first : (c : ℕ) (k : Key) (m : ℕ) (s : KeySet) (T : ℕ → KeySet) → length k ≡ m → c ≤ m → ((x : ℕ) → x < c → has_prefix (take (suc x) k) m (T x) ≡ true)
    → marked_edges m m s (inserted_above T k c) ≡ marked_edges m m s T
unfolding inserted_above
mark_first c k m s T l h f =
    edges_ext m m s (inserted_above T k c) T (λ x lx.
    elim (dec_le (suc x) c) [
      | yes y ↦ rw (lt-ltb x c y) (marked_same x k m s (T x) l (f x y))
      | no y ↦ rw (le-ltb x c (omega arith))
    ])

-- ---- of some levels one set is marked, of those behind them another
abbrev pub split_at : ℕ → KeySet → KeySet → ℕ → KeySet
split_at top t u x = cond (ltb x top) t u

pub mark_last : (k : Key) (m top : ℕ) (s t u : KeySet) → marked_edges m m s (inserted_above (split_at top t u) k top) ≡ marked_edges m m s (split_at top (insert t k) u)
unfolding inserted_above
mark_last k m top s t u = edges_ext m m s (inserted_above (split_at top t u) k top) (split_at top (insert t k) u) (λ x lx.
    elim (dec_le (suc x) top) [
      | yes y ↦ rw (lt-ltb x top y)
      | no y ↦ rw (le-ltb x top (omega arith))
    ])

pub split_all : (m : ℕ) (s t u : KeySet) → marked_edges m m s (split_at m t u) ≡ marked_edges m m s (λ (x : ℕ). t)
split_all m s t u = edges_ext m m s (split_at m t u) (λ (x : ℕ). t) (λ x lx. rw (lt-ltb x m lx))

pub split_same : (m top : ℕ) (s t : KeySet) → marked_edges m m s (split_at top t t) ≡ marked_edges m m s (λ (x : ℕ). t)
split_same m top s t = edges_ext m m s (split_at top t t) (λ (x : ℕ). t) (λ x lx. elim (dec_le (suc x) top) [ yes y ↦ rw (lt-ltb x top y) | no y ↦ rw (le-ltb x top (omega arith)) ])
