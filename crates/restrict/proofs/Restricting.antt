-- The levels of a part of a set, from the set's levels and a test of its members.
use mathlib.Core.Path.{◌≡◌, refl, sym, ap, ap₂, ◌∙◌}
use Prim.Native.Nat.{ℕ, zero, suc, ◌+◌, ◌-◌, ◌≤◌, ◌<◌}
use mathlib.Core.Bool.{Bool, true, false, ◌&&◌, ◌||◌, cond}
use mathlib.Core.List.{List, [], ◌∷◌, ◌++◌, map, map-append, map-map, append_assoc, append-nil}
use native.Mathlib.Omega.{arith}
use lib.ListN.{length, drop, length-map}
use lib.Seq.{drop-drop, ext_get_or}
use Rattle.loes.specs.Bytes.{bit, tabulate}
use Rattle.loes.specs.Keys.{Key, KeySet, all_keys, those, members, smaller}
use Rattle.loes.specs.Edges.{Record, record_bits, edges}
use Rattle.loes.specs.Prefixes.{half, inhabited}
use Rattle.loes.specs.Entry.{Entry, keys_of, count}
use Rattle.loes.proofs.Lists.{those_append, get_d_map_in}
use Rattle.loes.proofs.Tree.{root_record, tree_level, members_step}
use Rattle.loes.proofs.Bytes.{length_tabulate, get_d_tabulate}
use Rattle.loes.proofs.Forest.{NoEmpty}
use Rattle.loes.proofs.WellFormed.{no_empty_append, no_empty_tree}
use Rattle.loes.proofs.Members.{smaller_at}
use Rattle.records.specs.Records.{has_edge, children}
use Rattle.restrict.specs.Restriction.{mask_at, mask_record, masked_from}
use Rattle.merge.proofs.Merging.{tree_levels, edges_levels}
use Rattle.merge.proofs.Held.{levels_empty}

-- the keys of a set that a test takes
unfoldable pub within : KeySet → KeySet → KeySet
within s p k = s k && p k

-- for each prefix of d bits in s: whether some key of the part has it
unfoldable alive_level : ℕ → ℕ → KeySet → KeySet → List Bool
alive_level zero m s p = cond (inhabited m s) (inhabited m (within s p) ∷ []) []
alive_level (suc d) zero s p = []
alive_level (suc d) (suc m) s p = alive_level d m (half false s) (half false p) ++ alive_level d m (half true s) (half true p)

unfoldable alive_levels : ℕ → ℕ → ℕ → KeySet → KeySet → List Bool
alive_levels zero d m s p = []
alive_levels (suc j) d m s p = alive_level d m s p ++ alive_levels j (suc d) m s p

-- records less the edges that are dropped; k: for each set edge in order, whether it is kept
unfoldable masked : List Record → List Bool → List Record
masked [] k = []
masked (r ∷ l) k = mask_record r k ∷ masked l (drop (children r) k)

-- ---- Records x, masked by what is alive next, whatever follows: those with an edge left are alive here, and are u
record Masks (x : List Record) (next here : List Bool) (u : List Record) : Type 0 where
  pub left : List Record
  pub masks : (l : List Record) (k : List Bool) → masked (x ++ l) (next ++ k) ≡ left ++ masked l k
  pub alive : map has_edge left ≡ here
  pub kept : those has_edge left ≡ u

masks_none : Masks [] [] [] []
unfolding those
masks_none = record { left = []; masks = λ l k. refl; alive = refl; kept = refl }

masks_append : {x x' u u' : List Record} {n n' h h' : List Bool} → Masks x n h u → Masks x' n' h' u' → Masks (x ++ x') (n ++ n') (h ++ h') (u ++ u')
masks_append {x'} {n'} o p =
    record {
      left = o.left ++ p.left;
      masks = λ l k. simp append_assoc (o.masks (x' ++ l) (n' ++ k) ∙ ap (λ z. o.left ++ z) (p.masks l k));
      alive = rw map-append (ap₂ ◌++◌ o.alive p.alive);
      kept = rw those_append (ap₂ ◌++◌ o.kept p.kept);
    }

-- a part has no more
abbrev Le : Bool → Bool → Type 0
Le x a = x ≡ (a && x)

masks_root : (a b x y : Bool) → Le x a → Le y b → Masks (root_record a b) (cond a (x ∷ []) [] ++ cond b (y ∷ []) []) (cond (a || b) ((x || y) ∷ []) []) (root_record x y)
unfolding masked mask_record mask_at children root_record has_edge those
masks_root true true x y h i = record { left = record { on_zero = x; on_one = y } ∷ []; masks = λ l k. refl; alive = refl; kept = refl }
masks_root true false x y h i = rw i record { left = record { on_zero = x; on_one = false } ∷ []; masks = λ l k. refl; alive = refl; kept = refl }
masks_root false true x y h i = rw h record { left = record { on_zero = false; on_one = y } ∷ []; masks = λ l k. refl; alive = refl; kept = refl }
masks_root false false x y h i = rw (h, i) masks_none

le_or : (a b c e : Bool) → Le a c → Le b e → Le (a || b) (c || e)
le_or a b true e h k = refl
le_or a b false e h k = rw h k

le_and : (a b : Bool) → Le (a && b) a
le_and true b = refl
le_and false b = refl

inhabited_within : (m : ℕ) (s p : KeySet) → Le (inhabited m (within s p)) (inhabited m s)
unfolding inhabited half within
inhabited_within zero s p = le_and (s []) (p [])
inhabited_within (suc m) s p =
    le_or (inhabited m (within (half false s) (half false p))) (inhabited m (within (half true s) (half true p))) (inhabited m (half false s)) (inhabited m (half true s))
    (inhabited_within m (half false s) (half false p)) (inhabited_within m (half true s) (half true p))

masks_level : (d m : ℕ) (s p : KeySet) → d < m → Masks (tree_level d m s) (alive_level (suc d) m s p) (alive_level d m s p) (tree_level d m (within s p))
unfolding tree_level alive_level inhabited half within
masks_level d zero s p h = absurd (omega arith)
masks_level zero (suc m) s p h =
    masks_root (inhabited m (half false s)) (inhabited m (half true s)) (inhabited m (within (half false s) (half false p))) (inhabited m (within (half true s) (half true p)))
    (inhabited_within m (half false s) (half false p)) (inhabited_within m (half true s) (half true p))
masks_level (suc d) (suc m) s p h =
    masks_append (masks_level d m (half false s) (half false p) (omega arith)) (masks_level d m (half true s) (half true p) (omega arith))

masks_levels : (j d m : ℕ) (s p : KeySet) → d + j ≤ m → Masks (tree_levels j d m s) (alive_levels j (suc d) m s p) (alive_levels j d m s p) (tree_levels j d m (within s p))
unfolding tree_levels alive_levels
masks_levels zero d m s p h = masks_none
masks_levels (suc j) d m s p h = masks_append (masks_level d m s p (omega arith)) (masks_levels j (suc d) m s p (omega arith))

-- ---- The last of the alive: the test of each member
one_alive : (a : Bool) (p : KeySet) → cond a ((a && p []) ∷ []) [] ≡ map p (cond a ([] ∷ []) [])
one_alive true p = refl
one_alive false p = refl

alive_members : (m : ℕ) (s p : KeySet) → alive_level m m s p ≡ map p (members m s)
unfolding alive_level half
alive_members zero s p = unfold inhabited within members all_keys those in one_alive (s []) p
alive_members (suc m) s p =
    rw (members_step m s, map-append, map-map, map-map)
    (ap₂ ◌++◌ (alive_members m (half false s) (half false p)) (alive_members m (half true s) (half true p)))

alive_more : (j d m : ℕ) (s p : KeySet) → alive_levels (suc j) d m s p ≡ alive_levels j d m s p ++ alive_level (d + j) m s p
unfolding alive_levels
alive_more zero d m s p = let z : d + 0 ≡ d = omega arith in rw (z, append-nil)
alive_more (suc j) d m s p =
    let z : d + suc j ≡ suc d + j = omega arith in
    rw (z, append_assoc, ← alive_more j (suc d) m s p)

-- ---- What masks itself is what is made from the last record on
pub edge_children : (r : Record) → has_edge r ≡ true → 1 ≤ children r
unfolding has_edge children
edge_children r e = go r.on_zero r.on_one e
  where
    go : (a b : Bool) → (a || b) ≡ true → 1 ≤ bit a + bit b
    go true b e = omega arith
    go false true e = omega arith
    go false false e = let z : ◌≡◌ {A = ℕ} 0 1 = cc in absurd (let y : ⊥ = omega arith in y)

unique : (l M : List Record) (p : List Bool) (h : ℕ) → 1 ≤ h → NoEmpty l → M ≡ masked l (drop h (map has_edge M ++ p)) → M ≡ masked_from h l p
unfolding masked masked_from has_edge
unique [] M p h g c e = e
unique (r ∷ l) M p zero g c e = absurd (omega arith)
unique (r ∷ l) [] p (suc h) g c e = let z : ◌≡◌ {A = ℕ} 0 1 = cc in absurd (let y : ⊥ = omega arith in y)
unique (r ∷ l) (x ∷ M) p (suc h) g c e =
    let z : suc h - 1 ≡ h = omega arith in
    let k : List Bool = drop h (map has_edge M ++ p) in
    let e1 : x ≡ mask_record r k = cc in
    let e2 : M ≡ masked l (drop (children r) k) = cc in
    let f : M ≡ masked_from (h + children r) l p =
    unique l M p (h + children r) (omega (arith, edge_children r (unfold has_edge in c.0))) c.1 (rw (drop-drop (children r) h (map has_edge M ++ p)) at e2) in
    rw (z, ← f) (ap (λ y. y ∷ M) e1)

pub no_empty_levels : (j d m : ℕ) (s : KeySet) → NoEmpty (tree_levels j d m s)
unfolding tree_levels
no_empty_levels zero d m s = tt
no_empty_levels (suc j) d m s = no_empty_append (tree_level d m s) (tree_levels j (suc d) m s) (no_empty_tree d m s) (no_empty_levels j (suc d) m s)

from_last : (m : ℕ) (s p : KeySet) (o : Masks (tree_levels m 0 m s) (alive_levels m 1 m s p) (alive_levels m 0 m s p) (tree_levels m 0 m (within s p)))
    (c : Bool) → inhabited m s ≡ c → masked_from 1 (tree_levels m 0 m s) (map p (members m s)) ≡ o.left
unfolding masked masked_from
from_last m s p o false e =
    let z : tree_levels m 0 m s ≡ [] = levels_empty m 0 m s e in
    let f : masked [] (alive_levels m 1 m s p) ≡ o.left = rw (z, append-nil o.left) at (o.masks [] []) in
    rw z f
from_last m s p o true e =
    let l : List Record = tree_levels m 0 m s in
    let k : List Bool = map p (members m s) in
    let y : 0 + m ≡ m = omega arith in
    let f : masked l (alive_levels m 1 m s p) ≡ o.left = rw (append-nil l, append-nil (alive_levels m 1 m s p), append-nil o.left) at (o.masks [] []) in
    let g : alive_levels (suc m) 0 m s p ≡ map has_edge o.left ++ k = rw (alive_more m 0 m s p, y, alive_members m s p, o.alive) in
    let d : drop 1 (alive_levels (suc m) 0 m s p) ≡ alive_levels m 1 m s p = unfold alive_levels alive_level in rw e in
    sym (unique l o.left k 1 (omega arith) (no_empty_levels m 0 m s) (sym f ∙ ap (λ x. masked l x) (sym d ∙ ap (λ x. drop 1 x) g)))

-- so what is made of the levels, less the empty records, is the part's edges
pub restrict_edges : (m : ℕ) (s p : KeySet) → record_bits (those has_edge (masked_from 1 (tree_levels m 0 m s) (map p (members m s)))) ≡ edges m (within s p)
restrict_edges m s p =
    let o = masks_levels m 0 m s p (omega arith) in
    rw (from_last m s p o (inhabited m s) refl, o.kept) (sym (edges_levels m (within s p)))

-- ---- A mask over members in order
pub mask_members : (e : Entry) (f : ℕ → Bool) → map (λ (k : Key). f (smaller k (keys_of e))) (keys_of e) ≡ tabulate f (count e)
unfolding count
mask_members e f =
    let g : Key → Bool = λ k. f (smaller k (keys_of e)) in
    let n : length (map g (keys_of e)) ≡ length (keys_of e) = length-map (keys_of e) g in
    ext_get_or false (map g (keys_of e)) (tabulate f (length (keys_of e))) (n ∙ sym (length_tabulate f (length (keys_of e))))
    (λ i h.
    let l : i < length (keys_of e) = rw n at h in
    get_d_map_in g (keys_of e) i [] false l ∙ ap f (smaller_at e i (unfold count in l)) ∙ sym (get_d_tabulate f (length (keys_of e)) i false l))
