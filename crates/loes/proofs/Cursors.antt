-- The right cursors are before, after and one for each member; advance goes from each to the next.
use mathlib.Core.Path.{◌≡◌, refl, sym, ap, ap₂, ◌∙◌}
use Prim.Native.Nat.{ℕ, zero, suc, ◌+◌, ◌-◌, ◌*◌, ◌≤◌, ◌<◌}
use mathlib.Core.Bool.{Bool, true, false, ◌||◌, not, false≢true, or-true}
use mathlib.Core.List.{List, [], ◌∷◌, ◌++◌, map}
use native.Mathlib.Omega.{arith}
use lib.ListN.{length, take, drop, get_or, replicate, length-append, length-drop, length-replicate, take-append-drop}
use lib.Seq.{take_at, drop_at}
use lib.Dec.{eqb}
use Rattle.loes.specs.Limits.{max_width}
use Rattle.loes.specs.Bytes.{odd, bit, pack_bits, same_numbers, Bytes, front}
use Rattle.loes.specs.Keys.{Key, any_of, smaller}
use Rattle.loes.specs.Edges.{edge_offsets}
use Rattle.loes.specs.Entry.{Entry, key_bytes, keys_of, count, edges_of}
use Rattle.loes.specs.Refusals.{test, first_of}
use Rattle.loes.specs.Model.{wrote_key}
use Rattle.loes.specs.Cursor.{advance_tests, before, at, after, Cursor, all_zero, padded, path_of, has_path, offsets_right, is_cursor_of, key_of, key_of_path, next_index, stays_or, has_next, next_key, goes_to, goes_to_after, advance, no_offsets}
use Rattle.loes.proofs.Tests.{lt_yes, lt_no, both, same_self, same_is, yes_eq}
use Rattle.loes.proofs.Tree.{bit_le}
use Rattle.loes.proofs.Bits.{odd_bit, map_tabulate, take_tabulate}
use Rattle.loes.proofs.Members.{smaller_at, inside_at}

-- the cursor at member i
unfoldable pub cursor_at : Entry → ℕ → Cursor
cursor_at e i = record { state = at; offsets = padded (path_of e (get_or (keys_of e) i [])) }

pub length_offsets : (e : List Bool) (r : ℕ) (k : Key) → length (edge_offsets e r k) ≡ length k
unfolding edge_offsets
length_offsets e r k = go k r
  where
    go : (k : Key) (r : ℕ) → length (edge_offsets e r k) ≡ length k
    go [] r = refl
    go (b ∷ k) r = ap suc (go k _)

pub odd_offsets : (e : List Bool) (r : ℕ) (k : Key) → map odd (edge_offsets e r k) ≡ k
unfolding edge_offsets
odd_offsets e r k = go k r
  where
    go : (k : Key) (r : ℕ) → map odd (edge_offsets e r k) ≡ k
    go [] r = refl
    go (b ∷ k) r = ap₂ ◌∷◌ (odd_bit b (2 * r + bit b) (omega (arith, bit_le b))) (go k _)

zeros_zero : (n : ℕ) → all_zero (replicate n 0) ≡ true
unfolding all_zero any_of
zeros_zero zero = refl
zeros_zero (suc n) = zeros_zero n

zeros_is : (l : List ℕ) → all_zero l ≡ true → l ≡ replicate (length l) 0
unfolding all_zero any_of
zeros_is [] h = refl
zeros_is (x ∷ l) h = go (eqb x 0) refl h (zeros_is l)
  where
    go : (b : Bool) → eqb x 0 ≡ b → not (not b || any_of (λ (o : ℕ). not (eqb o 0)) l) ≡ true
        → (not (any_of (λ (o : ℕ). not (eqb o 0)) l) ≡ true → l ≡ replicate (length l) 0) → x ∷ l ≡ 0 ∷ replicate (length l) 0
    go true z h f = ap₂ ◌∷◌ (yes_eq x 0 z) (f h)
    go false z h f = absurd (false≢true h)

pub any_of_at : {A : Type 0} (f : A → Bool) (l : List A) (i : ℕ) (d : A) → i < length l → f (get_or l i d) ≡ true → any_of f l ≡ true
unfolding any_of
any_of_at f [] i d h g = absurd (omega arith)
any_of_at f (x ∷ l) zero d h g = rw g
any_of_at f (x ∷ l) (suc i) d h g = rw (any_of_at f l i d (omega arith) g) (or-true (f x))

pub any_of_is : {A : Type 0} (f : A → Bool) (l : List A) (d : A) → any_of f l ≡ true → (i : ℕ) × (i < length l) × (f (get_or l i d) ≡ true)
unfolding any_of
any_of_is f [] d h = absurd (false≢true h)
any_of_is {A} f (x ∷ l) d h = go (f x) refl h (any_of_is f l d)
  where
    go : (b : Bool) → f x ≡ b → (b || any_of f l) ≡ true → (any_of f l ≡ true → (i : ℕ) × (i < length l) × (f (get_or l i d) ≡ true))
        → (i : ℕ) × (i < suc (length l)) × (f (get_or (x ∷ l) i d) ≡ true)
    go true z h g = (0, omega arith, z)
    go false z h g = let r = g h in (suc r.0, omega (arith, r.1), r.2)

path_length : (e : Entry) (i : ℕ) → i < count e → length (path_of e (get_or (keys_of e) i [])) ≡ e.width
unfolding path_of
path_length e i h = length_offsets (edges_of e) 0 (get_or (keys_of e) i []) ∙ (inside_at e i h).0

length_padded : (os : List ℕ) → length os ≤ max_width → length (padded os) ≡ max_width
unfolding padded
length_padded os h = length-append os (replicate (max_width - length os) 0) ∙ omega (arith, length-replicate {A = ℕ} (max_width - length os) 0)

take_path : (e : Entry) (i : ℕ) → i < count e → take e.width (padded (path_of e (get_or (keys_of e) i []))) ≡ path_of e (get_or (keys_of e) i [])
unfolding padded
take_path e i h = take_at (path_of e (get_or (keys_of e) i [])) _ e.width (path_length e i h)

drop_path : (e : Entry) (i : ℕ) → i < count e → drop e.width (padded (path_of e (get_or (keys_of e) i []))) ≡ replicate (max_width - e.width) 0
unfolding padded
drop_path e i h =
    drop_at (path_of e (get_or (keys_of e) i [])) _ e.width (path_length e i h) ∙ ap (λ n. replicate (max_width - n) 0) (path_length e i h)

-- a right cursor has 256 offsets, and they are right
pub right_parts : (e : Entry) (c : Cursor) → is_cursor_of e c ≡ true → (length c.offsets ≡ max_width) × (offsets_right e c ≡ true)
unfolding is_cursor_of
right_parts e c h = let b = both (eqb (length c.offsets) max_width) (offsets_right e c) h in (yes_eq (length c.offsets) max_width b.0, b.1)

pub right_at : (e : Entry) (i : ℕ) → e.width ≤ max_width → i < count e → is_cursor_of e (cursor_at e i) ≡ true
unfolding is_cursor_of has_path offsets_right cursor_at count
right_at e i n h =
    rw (
      length_padded (path_of e (get_or (keys_of e) i [])) (omega (arith, n, path_length e i h)),
      take_path e i h,
      drop_path e i h,
      zeros_zero (max_width - e.width),
      any_of_at (λ (k : Key). same_numbers (path_of e k) (path_of e (get_or (keys_of e) i []))) (keys_of e) i [] h (same_self (path_of e (get_or (keys_of e) i []))),
    )

pub right_none : (e : Entry) → (is_cursor_of e (no_offsets before) ≡ true) × (is_cursor_of e (no_offsets after) ≡ true)
unfolding is_cursor_of has_path offsets_right padded
right_none e = (zeros_zero 256, zeros_zero 256)

-- and these are all
pub right_is : (e : Entry) (os : List ℕ) → is_cursor_of e (record { state = at; offsets = os }) ≡ true
    → (i : ℕ) × (i < count e) × (record { state = at; offsets = os } ≡ cursor_at e i)
unfolding has_path offsets_right cursor_at count padded
right_is e os h =
    let p = right_parts e (record { state = at; offsets = os }) h in
    let l : length os ≡ max_width = p.0 in
    let b = both (any_of (λ (k : Key). same_numbers (path_of e k) (take e.width os)) (keys_of e)) (all_zero (drop e.width os)) p.1 in
    let r = any_of_is (λ (k : Key). same_numbers (path_of e k) (take e.width os)) (keys_of e) [] b.0 in
    let k : Key = get_or (keys_of e) r.0 [] in
    let t : path_of e k ≡ take e.width os = same_is (path_of e k) (take e.width os) r.2 in
    let n : length (path_of e k) ≡ e.width = path_length e r.0 (unfold count in r.1) in
    let d : length (drop e.width os) ≡ max_width - length (path_of e k) = length-drop e.width os ∙ ap₂ ◌-◌ l (sym n) in
    let z : drop e.width os ≡ replicate (max_width - length (path_of e k)) 0 = zeros_is (drop e.width os) b.1 ∙ ap (λ x. replicate x 0) d in
    let w : os ≡ path_of e k ++ replicate (max_width - length (path_of e k)) 0 = sym (take-append-drop e.width os) ∙ ap₂ ◌++◌ (sym t) z in
    (r.0, r.1, ap (λ (x : List ℕ). record { state = at; offsets = x }) w)

bare : (os : List ℕ) → length os ≡ max_width → all_zero os ≡ true → os ≡ padded []
unfolding padded
bare os l h = zeros_is os h ∙ ap (λ n. replicate n 0) l

pub right_before : (e : Entry) (os : List ℕ) → is_cursor_of e (record { state = before; offsets = os }) ≡ true → os ≡ padded []
unfolding has_path offsets_right
right_before e os h = let p = right_parts e (record { state = before; offsets = os }) h in bare os p.0 p.1

pub right_after : (e : Entry) (os : List ℕ) → is_cursor_of e (record { state = after; offsets = os }) ≡ true → os ≡ padded []
unfolding has_path offsets_right
right_after e os h = let p = right_parts e (record { state = after; offsets = os }) h in bare os p.0 p.1

-- the key of a path in offsets, bit by bit
pub key_map : (os : List ℕ) (m : ℕ) → m ≤ length os → map odd (take m os) ≡ key_of_path os m
unfolding key_of_path key_of
key_map os m h = ap (map odd) (take_tabulate os m h) ∙ map_tabulate odd (λ (d : ℕ). get_or os d 0) m

-- the key of a member's path is the member
path_key : (e : Entry) (i : ℕ) → i < count e → key_of_path (padded (path_of e (get_or (keys_of e) i []))) e.width ≡ get_or (keys_of e) i []
unfolding padded path_of
path_key e i h =
    let k : Key = get_or (keys_of e) i [] in
    let l : e.width ≤ length (padded (path_of e k)) = omega (arith, length-append (path_of e k) (replicate (max_width - length (path_of e k)) 0), path_length e i h) in
    sym (key_map (padded (path_of e k)) e.width l) ∙ ap (map odd) (take_path e i h) ∙ odd_offsets (edges_of e) 0 k

pub next_at : (e : Entry) (i : ℕ) → i < count e → next_index e (cursor_at e i) ≡ suc i
unfolding next_index cursor_at
next_at e i h = ap suc (ap (λ k. smaller k (keys_of e)) (path_key e i h) ∙ smaller_at e i h)

-- advance with room: to the next member, or to after
pub advance_on : (e : Entry) (p : Cursor) (out : Bytes) (j : ℕ) → is_cursor_of e p ≡ true → next_index e p ≡ j → j < count e → key_bytes e.width ≤ length out
    → advance e p out ≡ record { answer = wrote_key (key_bytes e.width); buffer = front (pack_bits (get_or (keys_of e) j [])) out; cursor = cursor_at e j }
unfolding advance advance_tests goes_to has_next next_key cursor_at first_of test stays_or
advance_on e p out j r n h g = rw (r, n, lt_yes j (count e) h, lt_no (length out) (key_bytes e.width) g)

pub advance_out : (e : Entry) (p : Cursor) (out : Bytes) → is_cursor_of e p ≡ true → count e ≤ next_index e p → advance e p out ≡ record { answer = wrote_key 0; buffer = out; cursor = no_offsets after }
unfolding advance advance_tests goes_to_after has_next next_key first_of test stays_or
advance_out e p out r n = rw (r, lt_no (next_index e p) (count e) n)
