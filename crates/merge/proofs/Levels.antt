-- A level merged: single records and blocks, one behind the other.
use mathlib.Core.Path.{◌≡◌, refl, sym, ap, ap₂, ◌∙◌}
use Prim.Native.Nat.{ℕ, suc, ◌+◌, ◌-◌, ◌*◌, ◌/◌, ◌%◌, ◌≤◌, ◌<◌}
use mathlib.Core.Bool.{Bool, true, false}
use mathlib.Core.List.{List, [], ◌∷◌, ◌++◌, append-nil, append_assoc}
use native.Mathlib.Omega.{arith}
use native.Mathlib.Decide.{le_ind}
use lib.ListN.{length, get_or, drop, length-append}
use lib.Seq.{drop-drop, drop-cons}
use Rattle.loes.specs.Limits.{max_edges}
use Rattle.loes.specs.Bytes.{Bytes, bit, tabulate}
use Rattle.loes.specs.Edges.{Record}
use Rattle.loes.proofs.Bytes.{length_tabulate, get_d_tabulate, append_inj}
use Rattle.loes.proofs.Bits.{tabulate_add, tabulate_ext}
use Rattle.records.specs.Records.{Flag, empty_record, record_at, records_to, flag_at, flags_from, flag_if, next_of, rest_of, first_count, second_count, records_at}
use Rattle.records.specs.Numbers.{overread, overwrite}
use Rattle.merge.specs.Union.{either_record, child_flags, merged, pushed, records_from, taken_record, RecordMerged, LevelMerged, LevelRoom, BlockMerged}
use Rattle.merge.proofs.Single.{length_flags}
use Rattle.merge.proofs.Spreading.{merged_append, pushed_append, merged_at, pushed_at}
use Rattle.merge.proofs.Merging.{first_append, second_append}

-- ---- One flag more, at the end
merged_snoc : (fs : List Flag) (f : Flag) (xs ys : List Record)
    → merged (fs ++ f ∷ []) xs ys ≡ merged fs xs ys ++ either_record (next_of f.in_first (drop (first_count fs) xs)) (next_of f.in_second (drop (second_count fs) ys)) ∷ []
unfolding merged
merged_snoc fs f xs ys = merged_append fs (f ∷ []) xs ys

pushed_snoc : (fs : List Flag) (f : Flag) (xs ys : List Record)
    → pushed (fs ++ f ∷ []) xs ys ≡ pushed fs xs ys ++ child_flags (next_of f.in_first (drop (first_count fs) xs)) (next_of f.in_second (drop (second_count fs) ys))
unfolding pushed
pushed_snoc fs f xs ys =
    pushed_append fs (f ∷ []) xs ys ∙ ap (λ l. pushed fs xs ys ++ l) (append-nil (child_flags (next_of f.in_first (drop (first_count fs) xs)) (next_of f.in_second (drop (second_count fs) ys))))

first_snoc : (fs : List Flag) (f : Flag) → first_count (fs ++ f ∷ []) ≡ first_count fs + bit f.in_first
first_snoc fs f = first_append fs (f ∷ []) ∙ unfold first_count in omega arith

second_snoc : (fs : List Flag) (f : Flag) → second_count (fs ++ f ∷ []) ≡ second_count fs + bit f.in_second
second_snoc fs f = second_append fs (f ∷ []) ∙ unfold second_count in omega arith

counts_mono : (f : ℕ → Flag) (j n : ℕ) → j ≤ n → (first_count (tabulate f j) ≤ first_count (tabulate f n)) × (second_count (tabulate f j) ≤ second_count (tabulate f n))
unfolding tabulate
counts_mono f j n h =
    le_ind (λ (k : ℕ). (first_count (tabulate f j) ≤ first_count (tabulate f k)) × (second_count (tabulate f j) ≤ second_count (tabulate f k))) (omega arith, omega arith)
    (λ k l e. (omega (arith, first_snoc (tabulate f k) (f k)), omega (arith, second_snoc (tabulate f k) (f k)))) n h

-- ---- A record taken pushes at most two flags
pub length_one : (a b : Bool) → length (flag_if a b) ≤ 1
unfolding flag_if
length_one true b = omega arith
length_one false true = omega arith
length_one false false = omega arith

two : (x y : Record) (n : ℕ) → length (child_flags x y) ≤ 2 * (1 + n)
unfolding child_flags
two x y n =
    rw (length-append (flag_if x.on_zero y.on_zero) (flag_if x.on_one y.on_one))
    (omega (arith, length_one x.on_zero y.on_zero, length_one x.on_one y.on_one))

length_children : (a b : Bool) (xs ys : List Record) → length (child_flags (next_of a xs) (next_of b ys)) ≤ 2 * (bit a + bit b)
length_children false false xs ys = unfold child_flags next_of empty_record flag_if in omega arith
length_children true b xs ys = two (next_of true xs) (next_of b ys) (bit b)
length_children false true xs ys = two (next_of false xs) (next_of true ys) 0

pub length_pushed : (fs : List Flag) (xs ys : List Record) → length (pushed fs xs ys) ≤ 2 * (first_count fs + second_count fs)
unfolding pushed first_count second_count
length_pushed [] xs ys = omega arith
length_pushed (f ∷ fs) xs ys =
    rw (length-append (child_flags (next_of f.in_first xs) (next_of f.in_second ys)) (pushed fs (rest_of f.in_first xs) (rest_of f.in_second ys)))
    (omega (arith, length_children f.in_first f.in_second xs ys, length_pushed fs (rest_of f.in_first xs) (rest_of f.in_second ys)))

-- the record taken is the next
taken_next : (b : Bool) (l : Bytes) (k n : ℕ) → (b ≡ true → k + n < 4 * length l) → next_of b (drop n (records_from l k)) ≡ taken_record b l (k + n)
unfolding next_of taken_record records_from records_to
taken_next false l k n h = refl
taken_next true l k n h =
    let i : k + n < 4 * length l = h refl in
    let j : k + n < length (tabulate (record_at l) (4 * length l)) = rw (length_tabulate (record_at l) (4 * length l)) i in
    rw (drop-drop n k (tabulate (record_at l) (4 * length l)), drop-cons (tabulate (record_at l) (4 * length l)) (k + n) empty_record j)
    (get_d_tabulate (record_at l) (4 * length l) (k + n) empty_record i)

from_add : (l : Bytes) (k n : ℕ) → records_from l (k + n) ≡ drop n (records_from l k)
unfolding records_from
from_add l k n = sym (drop-drop n k (records_to l (4 * length l)))

flags_more : (q : Bytes) (from j n : ℕ) → flags_from q from (j + n) ≡ flags_from q from j ++ flags_from q (from + j) n
unfolding flags_from
flags_more q from j n =
    tabulate_add (λ k. flag_at q (from + k)) j n
    ∙ ap (λ l. tabulate (λ k. flag_at q (from + k)) j ++ l) (tabulate_ext (λ k. flag_at q (from + (j + k))) (λ k. flag_at q (from + j + k)) n (λ k h. let z : from + (j + k) ≡ from + j + k = omega arith in rw z))

module _ {a b q : Bytes} {from ka kb tail : ℕ} where
  pub level_none : from ≤ tail → LevelMerged a b q from ka kb tail 0 q ka kb tail
  unfolding flags_from tabulate first_count second_count pushed merged
  level_none h =
      let z : from + 0 ≡ from = omega arith in
      record {
        takena = omega arith;
        takenb = omega arith;
        out = rw z (sym (append-nil (records_to q from)));
        queue = rw z (sym (append-nil (tabulate (λ k. flag_at q (from + k)) (tail - from))));
        last = omega arith;
        size = refl;
      }

  module _ (room : LevelRoom a b q from ka kb tail (flags_from q from (tail - from))) (j : ℕ) (more : j < tail - from)
      {p : Bytes} {la lb end : ℕ} (v : LevelMerged a b q from ka kb tail j p la lb end) where
    abbrev fs : List Flag
    fs = flags_from q from j

    abbrev children : List Flag
    children = pushed fs (records_from a ka) (records_from b kb)

    end_is : end ≡ tail + length children
    end_is =
        let e : end - (from + j) ≡ tail - (from + j) + length children =
        sym (length_flags p (from + j) (end - (from + j))) ∙ ap length v.queue ∙ length-append (flags_from q (from + j) (tail - (from + j))) children
        ∙ ap (λ x. x + length children) (length_flags q (from + j) (tail - (from + j))) in
        omega (arith, v.last)

    pub tail_le : tail ≤ end
    tail_le = omega (arith, end_is)

    -- the next n flags are still there, and what is behind them
    module _ (n : ℕ) (h : j + n ≤ tail - from) where
      queue_parts : (flags_from p (from + j) n ≡ flags_from q (from + j) n)
          × (flags_from p (from + j + n) (end - (from + j + n)) ≡ flags_from q (from + j + n) (tail - (from + j + n)) ++ children)
      queue_parts =
          let x : ℕ = end - (from + j + n) in
          let y : ℕ = tail - (from + j + n) in
          let ex : n + x ≡ end - (from + j) = omega (arith, tail_le) in
          let ey : n + y ≡ tail - (from + j) = omega arith in
          let e : flags_from p (from + j) n ++ flags_from p (from + j + n) x ≡ flags_from q (from + j) n ++ (flags_from q (from + j + n) y ++ children) =
          sym (flags_more p (from + j) n x) ∙ rw ex v.queue ∙ ap (λ l. l ++ children) (rw ey at (flags_more q (from + j) n y))
          ∙ append_assoc (flags_from q (from + j) n) (flags_from q (from + j + n) y) children in
          append_inj (flags_from p (from + j) n) (flags_from q (from + j) n) (flags_from p (from + j + n) x) (flags_from q (from + j + n) y ++ children) (length_flags p (from + j) n ∙ sym (length_flags q (from + j) n)) e

    flag_same : flag_at p (from + j) ≡ flag_at q (from + j)
    unfolding flags_from tabulate
    flag_same =
        let z : from + j + 0 ≡ from + j = omega arith in
        rw z at (ap (λ l. get_or l 0 (record { in_first = false; in_second = false })) (queue_parts 1 (omega arith)).0)

    -- one record more in each that has one
    next : (la + bit (flag_at q (from + j)).in_first ≤ ka + first_count (flags_from q from (tail - from)))
        × (lb + bit (flag_at q (from + j)).in_second ≤ kb + second_count (flags_from q from (tail - from)))
    unfolding flags_from tabulate
    next =
        let f : ℕ → Flag = λ k. flag_at q (from + k) in
        let e = counts_mono f (suc j) (tail - from) more in
        (omega (arith, v.takena, first_snoc (tabulate f j) (f j), e.0), omega (arith, v.takenb, second_snoc (tabulate f j) (f j), e.1))

    -- there is more behind the next record of each than a window reads, and behind the queue than a run takes
    pub over : (la + overread ≤ 4 * length a) × (lb + overread ≤ 4 * length b) × (end + overwrite ≤ 4 * length q)
    over =
        (omega (arith, next.0, room.first), omega (arith, next.1, room.second), omega (arith, end_is, length_pushed fs (records_from a ka) (records_from b kb), v.takena, v.takenb, next.0, next.1, room.queue))

    pub taken_le : la + lb ≤ max_edges
    taken_le = omega (arith, next.0, next.1, room.limit)

    pub room_first : (flag_at p (from + j)).in_first ≡ true → la < 4 * length a
    room_first e =
        let f : (flag_at q (from + j)).in_first ≡ true = ap (λ x. x.in_first) (sym flag_same) ∙ e in
        let g : la + 1 ≤ ka + first_count (flags_from q from (tail - from)) = rw f at next.0 in
        omega (arith, room.first)

    pub room_second : (flag_at p (from + j)).in_second ≡ true → lb < 4 * length b
    room_second e =
        let f : (flag_at q (from + j)).in_second ≡ true = ap (λ x. x.in_second) (sym flag_same) ∙ e in
        let g : lb + 1 ≤ kb + second_count (flags_from q from (tail - from)) = rw f at next.1 in
        omega (arith, room.second)

    pub level_more : {p' : Bytes} {la' lb' end' : ℕ} → RecordMerged a b p (from + j) la lb end p' la' lb' end' → LevelMerged a b q from ka kb tail (j + 1) p' la' lb' end'
    level_more t =
        let f : Flag = flag_at q (from + j) in
        let s : flags_from q from (j + 1) ≡ fs ++ f ∷ [] = let z : j + 1 ≡ suc j = omega arith in rw z (unfold flags_from tabulate in refl) in
        let z : from + (j + 1) ≡ from + j + 1 = omega arith in
        let ea : la ≡ ka + first_count fs = v.takena in
        let eb : lb ≡ kb + second_count fs = v.takenb in
        let ra : f.in_first ≡ true → ka + first_count fs < 4 * length a = λ e. rw ea at (room_first (ap (λ x. x.in_first) flag_same ∙ e)) in
        let rb : f.in_second ≡ true → kb + second_count fs < 4 * length b = λ e. rw eb at (room_second (ap (λ x. x.in_second) flag_same ∙ e)) in
        let xa : taken_record (flag_at p (from + j)).in_first a la ≡ next_of f.in_first (drop (first_count fs) (records_from a ka)) =
        rw (flag_same, ea) (sym (taken_next f.in_first a ka (first_count fs) ra)) in
        let xb : taken_record (flag_at p (from + j)).in_second b lb ≡ next_of f.in_second (drop (second_count fs) (records_from b kb)) =
        rw (flag_same, eb) (sym (taken_next f.in_second b kb (second_count fs) rb)) in
        record {
          takena = rw s (t.takena ∙ rw (flag_same, ea, first_snoc fs f) (omega arith));
          takenb = rw s (t.takenb ∙ rw (flag_same, eb, second_snoc fs f) (omega arith));
          out = rw (s, z) (t.out ∙ rw (xa, xb, v.out, merged_snoc fs f, append_assoc));
          queue = rw (s, z) (t.queue ∙ rw (xa, xb, (queue_parts 1 (omega arith)).1, pushed_snoc fs f, append_assoc));
          last = rw z t.last;
          size = t.size ∙ v.size;
        }

    -- eight records more
    pub level_block : {p' : Bytes} {la' lb' end' : ℕ} (i : ℕ) → 4 * i ≡ from + j → j + 8 ≤ tail - from
        → BlockMerged a b p i la lb end p' la' lb' end' → LevelMerged a b q from ka kb tail (j + 8) p' la' lb' end'
    level_block i at eight t =
        let gs : List Flag = flags_from q (from + j) 8 in
        let eg : flags_from p (4 * i) 8 ≡ gs = rw at (queue_parts 8 eight).0 in
        let ef : flags_from q from (j + 8) ≡ fs ++ gs = flags_more q from j 8 in
        let lg : length gs ≡ 8 = length_flags q (from + j) 8 in
        let ea : la ≡ ka + first_count fs = v.takena in
        let eb : lb ≡ kb + second_count fs = v.takenb in
        let ra : records_from a la ≡ drop (first_count fs) (records_from a ka) = ap (records_from a) ea ∙ from_add a ka (first_count fs) in
        let rb : records_from b lb ≡ drop (second_count fs) (records_from b kb) = ap (records_from b) eb ∙ from_add b kb (second_count fs) in
        let me : merged (flags_from p (4 * i) 8) (records_at a la 8) (records_at b lb 8) ≡ merged gs (drop (first_count fs) (records_from a ka)) (drop (second_count fs) (records_from b kb)) =
        rw eg (merged_at gs a b la lb 8 (omega arith) (omega (arith, over.0)) (omega (arith, over.1)) ∙ ap₂ (merged gs) ra rb) in
        let pu : pushed (flags_from p (4 * i) 8) (records_at a la 8) (records_at b lb 8) ≡ pushed gs (drop (first_count fs) (records_from a ka)) (drop (second_count fs) (records_from b kb)) =
        rw eg (pushed_at gs a b la lb 8 (omega arith) (omega (arith, over.0)) (omega (arith, over.1)) ∙ ap₂ (pushed gs) ra rb) in
        let z : from + (j + 8) ≡ 4 * i + 8 = omega arith in
        let w : from + j + 8 ≡ 4 * i + 8 = omega arith in
        let y : records_to p (4 * i) ≡ records_to q from ++ merged fs (records_from a ka) (records_from b kb) = rw at v.out in
        let x : flags_from p (4 * i + 8) (end - (4 * i + 8)) ≡ flags_from q (4 * i + 8) (tail - (4 * i + 8)) ++ children = rw w at (queue_parts 8 eight).1 in
        record {
          takena = rw ef (t.takena ∙ rw (eg, ea, first_append fs gs) (omega arith));
          takenb = rw ef (t.takenb ∙ rw (eg, eb, second_append fs gs) (omega arith));
          out = rw (ef, z) (t.out ∙ rw (me, y, merged_append fs gs, append_assoc));
          queue = rw (ef, z) (t.queue ∙ rw (pu, x, pushed_append fs gs, append_assoc));
          last = rw z t.last;
          size = t.size ∙ v.size;
        }

-- ---- The same at place i of the queue
module _ {a b q : Bytes} {from ka kb tail i : ℕ} (room : LevelRoom a b q from ka kb tail (flags_from q from (tail - from))) (start : from ≤ i)
    {p : Bytes} {la lb end : ℕ} (v : LevelMerged a b q from ka kb tail (i - from) p la lb end) where
  here : from + (i - from) ≡ i
  here = omega arith

  -- what one record needs
  pub record RecordRoom : Type 0 where
    pub queue : (i < end) × (end + 2 ≤ 4 * length p) × (length p ≤ max_edges)
    pub first : (flag_at p i).in_first ≡ true → la < 4 * length a
    pub second : (flag_at p i).in_second ≡ true → lb < 4 * length b
    pub limit : la + lb ≤ max_edges

  pub record_room : i < tail → RecordRoom
  record_room h =
      let more : i - from < tail - from = omega arith in
      record {
        queue = (omega (arith, tail_le room (i - from) more v), omega (arith, v.size, (over room (i - from) more v).2), omega (arith, v.size, room.small));
        first = rw here at (room_first room (i - from) more v);
        second = rw here at (room_second room (i - from) more v);
        limit = taken_le room (i - from) more v;
      }

  pub record_more : {p' : Bytes} {la' lb' end' : ℕ} → i < tail → RecordMerged a b p i la lb end p' la' lb' end' → LevelMerged a b q from ka kb tail (i + 1 - from) p' la' lb' end'
  record_more h t =
      let z : i + 1 - from ≡ (i - from) + 1 = omega arith in
      rw z (level_more room (i - from) (omega arith) v (rw here t))

  -- and what a block needs
  pub record BlockRoom : Type 0 where
    pub queue : (4 * (i / 4) + 8 ≤ end) × (end + overwrite ≤ 4 * length p) × (length p ≤ max_edges)
    pub over : (la + overread ≤ 4 * length a) × (lb + overread ≤ 4 * length b) × (la + lb ≤ max_edges)

  pub block_room : i % 4 ≡ 0 → i + 8 ≤ tail → BlockRoom
  block_room h l =
      let more : i - from < tail - from = omega arith in
      let behind = over room (i - from) more v in
      record {
        queue = (omega (arith, tail_le room (i - from) more v), omega (arith, v.size, behind.2), omega (arith, v.size, room.small));
        over = (behind.0, behind.1, taken_le room (i - from) more v);
      }

  pub block_more : {p' : Bytes} {la' lb' end' : ℕ} → i % 4 ≡ 0 → i + 8 ≤ tail → BlockMerged a b p (i / 4) la lb end p' la' lb' end'
      → LevelMerged a b q from ka kb tail (i + 8 - from) p' la' lb' end'
  block_more h l t =
      let z : i + 8 - from ≡ (i - from) + 8 = omega arith in
      rw z (level_block room (i - from) (omega arith) v (i / 4) (omega arith) (omega arith) t)
