-- One turn of the two loops over rising keys
use mathlib.Core.Path.{◌≡◌, sym, ap, ◌∙◌}
use Prim.Native.Nat.{ℕ, zero, suc, ◌+◌, ◌-◌, ◌*◌, ◌≤◌, ◌<◌}
use mathlib.Core.Bool.{true, false}
use mathlib.Core.List.{List}
use native.Mathlib.Omega.{arith}
use native.Mathlib.Numerals.{add-one}
use native.Mathlib.Decide.{le_ind, dec_le}
use lib.ListN.{length, take, drop, get_or, take-append-drop}
use lib.Seq.{length-take-le}
use lib.Dec.{leb}
use borrow.Author.Tests.{lt-leb, le-leb}
use Rattle.loes.specs.Bytes.{Bytes, bit, bit_at, started, pack_bits}
use Rattle.loes.specs.Keys.{Key, KeySet}
use Rattle.loes.specs.Prefixes.{prefix_count, prefixes_before, records_before}
use Rattle.loes.specs.Entry.{key_bytes}
use Rattle.loes.specs.Model.{key_in}
use Rattle.loes.proofs.Tree.{has_prefix, bit_le, before_lt, prefix_of}
use Rattle.pack.specs.Rising.{first_new, set_below, Rising}
use Rattle.pack.specs.Marking.{Bumped, max_records, offset_of, set_bits, KeyFits}
use Rattle.pack.proofs.Grow.{count_step, count_start, place, in_below}
use Rattle.pack.proofs.Prefixes.{key_bit}
use Rattle.pack.proofs.Order.{new_bit}
use Rattle.pack.proofs.Marked.{marked_edges, edge_offset, split_at}
use Rattle.pack.proofs.Pass.{mark_key, offset_is}

-- on each level before one so many records lie before it, and so many of its own were counted with i keys
abbrev pub KeysCounted : ℕ → ℕ → (ℕ → ℕ) → (ℕ → Key) → ℕ → List ℕ → Type 0
KeysCounted top m base f i l = (e : ℕ) → e < top → get_or l e 0 ≡ base e + prefix_count e m (set_below f i)

pub none_yet : (top m : ℕ) (base : ℕ → ℕ) (f : ℕ → Key) (l : List ℕ) → ((e : ℕ) → e < top → get_or l e 0 ≡ base e) → KeysCounted top m base f 0 l
none_yet top m base f l z = λ e h. omega (arith, z e h, count_start m f e)

module _ (m n : ℕ) (base : ℕ → ℕ) (f : ℕ → Key) (r : Rising m n f) where
  pub count_le : (i e : ℕ) → i ≤ n → e < m → prefix_count e m (set_below f i) ≤ i
  count_le zero e h l = omega (arith, count_start m f e)
  count_le (suc i) e h l = omega (arith, count_step m n f r i e h (omega arith), count_le i e (omega arith) l, bit_le (leb (first_new f i) e))

  pub counted_le : (i : ℕ) (l : List ℕ) → i ≤ n → KeysCounted m m base f i l → (e : ℕ) → e < m → get_or l e 0 ≤ base e + i
  counted_le i l h c e le = omega (arith, c e le, count_le i e h le)

  pub counted_more : (top i from : ℕ) (old new : List ℕ) → top ≤ m → i < n → from ≡ first_new f i → Bumped from top old new → KeysCounted top m base f i old
      → KeysCounted top m base f (i + 1) new
  counted_more top i from old new t h q u c = λ e le.
      rw (add-one i) (omega (arith, u.each e le, c e le, count_step m n f r i e h (omega arith), ap (λ x. bit (leb x e)) q))

-- ---- where every key has a record of its own
module _ (m n : ℕ) (f : ℕ → Key) (r : Rising m n f) where
  grown : (e i : ℕ) → e < m → i ≤ n → prefix_count e m (set_below f n) ≤ prefix_count e m (set_below f i) + (n - i)
  grown e i l h =
      le_ind {n = i} (λ (j : ℕ). j ≤ n → prefix_count e m (set_below f j) ≤ prefix_count e m (set_below f i) + (j - i)) (λ q. omega arith)
      (λ j q ih b. omega (arith, ih (omega arith), count_step m n f r j e b (omega arith), bit_le (leb (first_new f j) e))) n h (omega arith)

  -- no key agrees with the one before it that far
  pub all_new : (e : ℕ) → e < m → prefix_count e m (set_below f n) ≡ n → (i : ℕ) → i < n → first_new f i ≤ e
  all_new e l c i h = elim (dec_le (first_new f i) e) [
    | yes y ↦ y
    | no y ↦ absurd (omega (arith, c, grown e (suc i) l h, count_step m n f r i e h (omega arith), ap bit (lt-leb (first_new f i) e (omega arith)), count_le m n (λ x. 0) f r i e (omega arith) l))
  ]

  pub own_record : (top e : ℕ) → ((i : ℕ) → i < n → first_new f i ≤ top) → top ≤ e → e < m → (i : ℕ) → i ≤ n → prefix_count e m (set_below f i) ≡ i
  own_record top e a q l zero h = omega (arith, count_start m f e)
  own_record top e a q l (suc i) h =
      omega (arith, own_record top e a q l i (omega arith), count_step m n f r i e h (omega arith), ap bit (le-leb (first_new f i) e (omega (arith, a i h))))

-- ---- marking: the records before each level are those of the whole set
pub records_le : (d m : ℕ) (s : KeySet) → d < m → records_before d m s + prefix_count d m s ≤ records_before m m s
unfolding records_before
records_le d m s h = le_ind {n = suc d} (λ (j : ℕ). records_before (suc d) m s ≤ records_before j m s) (omega arith) (λ j q ih. omega arith) m h

module _ (m n : ℕ) (f : ℕ → Key) (r : Rising m n f) where
  abbrev pub before : ℕ → ℕ
  before e = records_before e m (set_below f n)

  count_all : (i e : ℕ) → i < n → e < m → prefix_count e m (set_below f (suc i)) ≤ prefix_count e m (set_below f n)
  count_all i e h le =
      let k : Key = f i in
      let lt : length (take e k) ≡ e = length-take-le e k (omega (arith, r.wide i h)) in
      let w : has_prefix (take e k) m (set_below f n) ≡ true =
      prefix_of (take e k) (drop e k) m (set_below f n) (rw (take-append-drop e k) (r.wide i h)) (rw (take-append-drop e k) (in_below f i n h)) in
      let q : prefixes_before (take e k) m (set_below f n) < prefix_count e m (set_below f n) = rw lt at (before_lt (take e k) m (set_below f n) w) in
      omega (arith, place m n f r i e h (omega arith))

  module _ (top i new : ℕ) (cursors : List ℕ) (t : top ≤ m) (h : i < n) (c : KeysCounted top m before f i cursors) (is : new ≡ first_new f i) where
    -- the cursor of a level moves behind the record of key i
    cursor : (e : ℕ) → e < top → get_or cursors e 0 + bit (leb new e) ≡ before e + prefix_count e m (set_below f (suc i))
    cursor e l = rw is (omega (arith, c e l, count_step m n f r i e h (omega arith)))

    pub room_mark : (key edges : Bytes) → key_in m key ≡ f i → key_bytes m ≤ length key → m ≤ length cursors → before m ≤ max_records → length edges ≡ started 8 (2 * before m)
        → KeyFits top new key cursors edges
    unfolding started key_bytes
    room_mark key edges k far long few len =
        record {
          far = omega arith;
          long = omega arith;
          some = λ e l. omega (arith, cursor e l, place m n f r i e h (omega arith));
          fit = λ e l. omega (arith, cursor e l, count_all i e h (omega arith), records_le e m (set_below f n) (omega arith), len);
          small = omega (arith, few, len);
          later = λ p q.
              sym (key_bit m key (new - 1) (omega arith)) ∙ ap (λ x. get_or x (new - 1) false) k ∙ ap (λ x. get_or (f i) (x - 1) false) is
              ∙ new_bit m n f r i h (omega (arith, is, p)) (omega (arith, is, q));
        }

    offsets : (key : Bytes) → key_in m key ≡ f i → (e : ℕ) → e < top → offset_of cursors new key e ≡ edge_offset e (f i) m (set_below f n)
    unfolding offset_of
    offsets key k e l =
        let b : bit_at key e ≡ get_or (f i) e false = sym (key_bit m key e (omega arith)) ∙ ap (λ x. get_or x e false) k in
        rw b (omega (arith, cursor e l, place m n f r i e h (omega arith), offset_is m n f r i e h (omega arith)))

    pub marks : (key old edges : Bytes) (u : KeySet) → key_in m key ≡ f i → new ≤ suc top
        → old ≡ pack_bits (marked_edges m m (set_below f n) (split_at top (set_below f i) u))
        → edges ≡ set_bits (offset_of cursors new key) (new - 1) (top - (new - 1)) old
        → edges ≡ pack_bits (marked_edges m m (set_below f n) (split_at top (set_below f (i + 1)) u))
    marks key old edges u k le o e =
        e ∙ rw (ap (λ x. set_bits (offset_of cursors new key) (x - 1) (top - (x - 1)) old) is, o, add-one i) (mark_key m n top f r i (offset_of cursors new key) u h t (omega (arith, is, le)) (offsets key k))
