-- The levels of two sets, record by record in order, give the levels of their union.
use mathlib.Core.Path.{◌≡◌, refl, sym, ap, ap₂, ◌∙◌}
use Prim.Native.Nat.{ℕ, zero, suc, ◌+◌, ◌-◌, ◌≤◌, ◌<◌}
use mathlib.Core.Bool.{Bool, true, false, ◌||◌, cond}
use mathlib.Core.List.{List, [], ◌∷◌, ◌++◌, map, map-append, map-map, append_assoc, append-nil}
use native.Mathlib.Omega.{arith}
use lib.ListN.{length, length-append}
use Rattle.loes.specs.Keys.{Key, KeySet, all_keys, those, members, either}
use Rattle.loes.specs.Edges.{Record, record_bits, edges, edges_before}
use Rattle.loes.specs.Prefixes.{half, inhabited}
use Rattle.loes.proofs.Lists.{bits_append}
use Rattle.loes.proofs.Tree.{root_record, tree_level, level_tree, members_step}
use Rattle.records.specs.Records.{Flag, empty_record, flag_if, next_of, rest_of, first_count, second_count}
use Rattle.merge.specs.Union.{either_record, merged, child_flags, pushed, flag_of}

-- which of the two sets has each prefix of d bits of the union
unfoldable pub level_flags : ℕ → ℕ → KeySet → KeySet → List Flag
level_flags zero m s t = flag_if (inhabited m s) (inhabited m t)
level_flags (suc d) zero s t = []
level_flags (suc d) (suc m) s t = level_flags d m (half false s) (half false t) ++ level_flags d m (half true s) (half true t)

-- j levels from d on
unfoldable pub tree_levels : ℕ → ℕ → ℕ → KeySet → List Record
tree_levels zero d m s = []
tree_levels (suc j) d m s = tree_level d m s ++ tree_levels j (suc d) m s

unfoldable pub queue_flags : ℕ → ℕ → ℕ → KeySet → KeySet → List Flag
queue_flags zero d m s t = []
queue_flags (suc j) d m s t = level_flags d m s t ++ queue_flags j (suc d) m s t

-- ---- Flags f over the records x of the first and y of the second: u is merged and g is pushed, whatever follows
pub record Over (f : List Flag) (x y u : List Record) (g : List Flag) : Type 0 where
  pub merges : (fs : List Flag) (xs ys : List Record) → merged (f ++ fs) (x ++ xs) (y ++ ys) ≡ u ++ merged fs xs ys
  pub pushes : (fs : List Flag) (xs ys : List Record) → pushed (f ++ fs) (x ++ xs) (y ++ ys) ≡ g ++ pushed fs xs ys
  pub first : first_count f ≡ length x
  pub second : second_count f ≡ length y
  pub count : length f ≡ length u
  pub most : length u ≤ length x + length y

over_none : Over [] [] [] [] []
unfolding first_count second_count
over_none = record { merges = λ f x y. refl; pushes = λ f x y. refl; first = refl; second = refl; count = refl; most = omega arith }

over_root : (a b c e : Bool) → Over (flag_if (a || b) (c || e)) (root_record a b) (root_record c e) (root_record (a || c) (b || e)) (flag_if a c ++ flag_if b e)
unfolding merged pushed flag_if root_record either_record child_flags next_of rest_of empty_record first_count second_count
over_root true b true e = record { merges = λ f x y. refl; pushes = λ f x y. refl; first = refl; second = refl; count = refl; most = omega arith }
over_root true b false true = record { merges = λ f x y. refl; pushes = λ f x y. refl; first = refl; second = refl; count = refl; most = omega arith }
over_root true b false false = record { merges = λ f x y. refl; pushes = λ f x y. refl; first = refl; second = refl; count = refl; most = omega arith }
over_root false true true e = record { merges = λ f x y. refl; pushes = λ f x y. refl; first = refl; second = refl; count = refl; most = omega arith }
over_root false true false true = record { merges = λ f x y. refl; pushes = λ f x y. refl; first = refl; second = refl; count = refl; most = omega arith }
over_root false true false false = record { merges = λ f x y. refl; pushes = λ f x y. refl; first = refl; second = refl; count = refl; most = omega arith }
over_root false false true e = record { merges = λ f x y. refl; pushes = λ f x y. refl; first = refl; second = refl; count = refl; most = omega arith }
over_root false false false true = record { merges = λ f x y. refl; pushes = λ f x y. refl; first = refl; second = refl; count = refl; most = omega arith }
over_root false false false false = over_none

pub first_append : (f g : List Flag) → first_count (f ++ g) ≡ first_count f + first_count g
unfolding first_count
first_append [] g = omega arith
first_append (x ∷ f) g = rw (first_append f g) (omega arith)

pub second_append : (f g : List Flag) → second_count (f ++ g) ≡ second_count f + second_count g
unfolding second_count
second_append [] g = omega arith
second_append (x ∷ f) g = rw (second_append f g) (omega arith)

over_append : {f f' g g' : List Flag} {x x' y y' u u' : List Record} → Over f x y u g → Over f' x' y' u' g' → Over (f ++ f') (x ++ x') (y ++ y') (u ++ u') (g ++ g')
over_append {f} {f'} {g} {g'} {x} {x'} {y} {y'} {u} {u'} o p =
    record {
      merges = λ fs xs ys. simp append_assoc (o.merges (f' ++ fs) (x' ++ xs) (y' ++ ys) ∙ ap (λ z. u ++ z) (p.merges fs xs ys));
      pushes = λ fs xs ys. simp append_assoc (o.pushes (f' ++ fs) (x' ++ xs) (y' ++ ys) ∙ ap (λ z. g ++ z) (p.pushes fs xs ys));
      first = rw (first_append f f', length-append x x', o.first, p.first);
      second = rw (second_append f f', length-append y y', o.second, p.second);
      count = rw (length-append f f', length-append u u', o.count, p.count);
      most = rw (length-append u u', length-append x x', length-append y y') (omega (arith, o.most, p.most));
    }

-- with nothing behind the flags
pub over_merged : {f g : List Flag} {x y u : List Record} → Over f x y u g → (xs ys : List Record) → merged f (x ++ xs) (y ++ ys) ≡ u
unfolding merged
over_merged {f} {u} o xs ys = rw (append-nil f, append-nil u) at (o.merges [] xs ys)

pub over_pushed : {f g : List Flag} {x y u : List Record} → Over f x y u g → (xs ys : List Record) → pushed f (x ++ xs) (y ++ ys) ≡ g
unfolding pushed
over_pushed {f} {g} o xs ys = rw (append-nil f, append-nil g) at (o.pushes [] xs ys)

or_swap : (a b c e : Bool) → ((a || c) || (b || e)) ≡ ((a || b) || (c || e))
or_swap true b c e = refl
or_swap false true true e = refl
or_swap false true false e = refl
or_swap false false c e = refl

inhabited_either : (m : ℕ) (s t : KeySet) → inhabited m (either s t) ≡ (inhabited m s || inhabited m t)
unfolding inhabited half either
inhabited_either zero s t = refl
inhabited_either (suc m) s t =
    rw (inhabited_either m (half false s) (half false t), inhabited_either m (half true s) (half true t))
    (or_swap (inhabited m (half false s)) (inhabited m (half true s)) (inhabited m (half false t)) (inhabited m (half true t)))

pub over_level : (d m : ℕ) (s t : KeySet) → d < m → Over (level_flags d m s t) (tree_level d m s) (tree_level d m t) (tree_level d m (either s t)) (level_flags (suc d) m s t)
unfolding level_flags tree_level inhabited half either
over_level d zero s t h = absurd (omega arith)
over_level zero (suc m) s t h =
    rw (inhabited_either m (half false s) (half false t), inhabited_either m (half true s) (half true t))
    (over_root (inhabited m (half false s)) (inhabited m (half true s)) (inhabited m (half false t)) (inhabited m (half true t)))
over_level (suc d) (suc m) s t h =
    over_append (over_level d m (half false s) (half false t) (omega arith)) (over_level d m (half true s) (half true t) (omega arith))

pub over_levels : (j d m : ℕ) (s t : KeySet) → d + j ≤ m → Over (queue_flags j d m s t) (tree_levels j d m s) (tree_levels j d m t) (tree_levels j d m (either s t)) (queue_flags j (suc d) m s t)
unfolding queue_flags tree_levels
over_levels zero d m s t h = over_none
over_levels (suc j) d m s t h = over_append (over_level d m s t (omega arith)) (over_levels j (suc d) m s t (omega arith))

-- ---- Levels in parts
pub levels_split : (i j d m : ℕ) (s : KeySet) → tree_levels (i + j) d m s ≡ tree_levels i d m s ++ tree_levels j (d + i) m s
unfolding tree_levels
levels_split zero j d m s = let z : 0 + j ≡ j = omega arith in let y : d + 0 ≡ d = omega arith in rw (z, y)
levels_split (suc i) j d m s =
    let z : suc i + j ≡ suc (i + j) = omega arith in
    let y : d + suc i ≡ suc d + i = omega arith in
    rw (z, y, levels_split i j (suc d) m s, append_assoc)

pub levels_more : (d m : ℕ) (s : KeySet) → tree_levels (suc d) 0 m s ≡ tree_levels d 0 m s ++ tree_level d m s
levels_more d m s =
    let z : d + 1 ≡ suc d = omega arith in
    let y : 0 + d ≡ d = omega arith in
    let e : tree_levels 1 d m s ≡ tree_level d m s = unfold tree_levels in append-nil (tree_level d m s) in
    rw (z, y, e) at (levels_split d 1 0 m s)

pub length_levels : (d m : ℕ) (s : KeySet) → d ≤ m → length (tree_levels d 0 m s) ≤ length (tree_levels m 0 m s)
length_levels d m s h =
    let z : d + (m - d) ≡ m = omega arith in
    let e : tree_levels m 0 m s ≡ tree_levels d 0 m s ++ tree_levels (m - d) (0 + d) m s = rw z at (levels_split d (m - d) 0 m s) in
    rw (e, length-append (tree_levels d 0 m s) (tree_levels (m - d) (0 + d) m s)) (omega arith)

pub flags_more : (j d m : ℕ) (s t : KeySet) → queue_flags (suc j) d m s t ≡ queue_flags j d m s t ++ level_flags (d + j) m s t
unfolding queue_flags
flags_more zero d m s t = let z : d + 0 ≡ d = omega arith in rw (z, append-nil)
flags_more (suc j) d m s t =
    let z : d + suc j ≡ suc d + j = omega arith in
    rw (z, append_assoc, ← flags_more j (suc d) m s t)

-- ---- The levels are the edge sequence
levels_before : (j d m : ℕ) (s : KeySet) → d + j ≤ m → edges_before d m s ++ record_bits (tree_levels j d m s) ≡ edges_before (d + j) m s
unfolding tree_levels edges_before record_bits
levels_before zero d m s h = let z : d + 0 ≡ d = omega arith in rw (z, append-nil)
levels_before (suc j) d m s h =
    let z : d + suc j ≡ suc d + j = omega arith in
    rw (z, bits_append, ← append_assoc, ← level_tree d m s (omega arith)) (levels_before j (suc d) m s (omega arith))

pub edges_levels : (m : ℕ) (s : KeySet) → edges m s ≡ record_bits (tree_levels m 0 m s)
unfolding edges edges_before
edges_levels m s = let z : 0 + m ≡ m = omega arith in sym (rw z at (levels_before m 0 m s (omega arith)))

-- ---- The last flags: which of the two has each member of the union
one_member : (a b : Bool) (f : Key → Flag) → f [] ≡ record { in_first = a; in_second = b } → flag_if a b ≡ map f (cond (a || b) ([] ∷ []) [])
unfolding flag_if
one_member true b f e = rw e
one_member false true f e = rw e
one_member false false f e = refl

pub flags_members : (m : ℕ) (s t : KeySet) → level_flags m m s t ≡ map (flag_of s t) (members m (either s t))
unfolding level_flags flag_of half either
flags_members zero s t = unfold inhabited members all_keys those in one_member (s []) (t []) (flag_of s t) refl
flags_members (suc m) s t =
    rw (members_step m (either s t), map-append, map-map, map-map)
    (ap₂ ◌++◌ (flags_members m (half false s) (half false t)) (flags_members m (half true s) (half true t)))
