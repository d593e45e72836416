-- A block of flags merged: the records of each are put where its flags are set, then the two go side by side.
use mathlib.Core.Path.{◌≡◌, refl, sym, ap, ap₂, ◌∙◌}
use Prim.Native.Nat.{ℕ, ◌+◌, ◌-◌, ◌*◌, ◌/◌, ◌%◌, ◌^◌, ◌≤◌, ◌<◌}
use mathlib.Core.Bool.{Bool, true, false}
use mathlib.Core.List.{List, [], ◌∷◌, ◌++◌, map, map-append, append-nil, append_assoc}
use native.Mathlib.Omega.{arith}
use lib.ListN.{length, get_or, take, drop, set, length-set, length-map, length-drop, take-append-drop}
use lib.Seq.{drop_at, drop-drop, length-take-le, get_or-set_other}
use lib.Bits.{bit_or, or_lt, or_shr, or_mod}
use Rattle.loes.specs.Bytes.{Bytes, bit, odd}
use Rattle.loes.specs.Edges.{Record}
use Rattle.loes.proofs.Bits.{map_tabulate}
use Rattle.records.specs.Records.{Flag, empty_record, record_of_code, record_at, records_to, records_at, next_of, rest_of, flag_at, flags_from, flag_if, flag_of_record, record_of_flag, first_count, second_count}
use Rattle.records.specs.Numbers.{records_of, bits_of, eight_of, Short, Appended}
use Rattle.records.specs.Tables.{spread, either_flags}
use Rattle.records.proofs.Codes.{odd_eq, code_at, length_records, flags_records}
use Rattle.records.proofs.Numbers.{halves, length_run, records_add, byte_run, byte_set, at_add, bytes_more, length_at}
use Rattle.merge.specs.Union.{either_record, child_flags, merged, pushed, eithers, children_of, flags_in, EightMerged, Queued, records_from, BlockMerged}
use Rattle.merge.proofs.Single.{or_codes, flags_same, queued_front, queued_behind, queued_le}
use Rattle.merge.proofs.Merging.{first_append, second_append}

-- ---- Flags behind flags
pub merged_append : (fs gs : List Flag) (xs ys : List Record) → merged (fs ++ gs) xs ys ≡ merged fs xs ys ++ merged gs (drop (first_count fs) xs) (drop (second_count fs) ys)
unfolding merged rest_of first_count second_count
merged_append [] gs xs ys = refl
merged_append (g ∷ fs) gs xs ys =
    rw (merged_append fs gs (drop (bit g.in_first) xs) (drop (bit g.in_second) ys), drop-drop (first_count fs) (bit g.in_first) xs, drop-drop (second_count fs) (bit g.in_second) ys)

pub pushed_append : (fs gs : List Flag) (xs ys : List Record) → pushed (fs ++ gs) xs ys ≡ pushed fs xs ys ++ pushed gs (drop (first_count fs) xs) (drop (second_count fs) ys)
unfolding pushed rest_of first_count second_count
pushed_append [] gs xs ys = refl
pushed_append (g ∷ fs) gs xs ys =
    rw (pushed_append fs gs (drop (bit g.in_first) xs) (drop (bit g.in_second) ys), drop-drop (first_count fs) (bit g.in_first) xs, drop-drop (second_count fs) (bit g.in_second) ys, append_assoc)

-- ---- The records of each put where its flags are set
pub merged_spread : (f : List Flag) (xs ys : List Record) → merged f xs ys ≡ eithers (spread (map (λ (x : Flag). x.in_first) f) xs) (spread (map (λ (x : Flag). x.in_second) f) ys)
unfolding merged eithers spread
merged_spread [] xs ys = refl
merged_spread (f ∷ fs) xs ys = ap (λ l. either_record (next_of f.in_first xs) (next_of f.in_second ys) ∷ l) (merged_spread fs (rest_of f.in_first xs) (rest_of f.in_second ys))

pub pushed_spread : (f : List Flag) (xs ys : List Record) → pushed f xs ys ≡ children_of (spread (map (λ (x : Flag). x.in_first) f) xs) (spread (map (λ (x : Flag). x.in_second) f) ys)
unfolding pushed children_of spread
pushed_spread [] xs ys = refl
pushed_spread (f ∷ fs) xs ys = ap (λ l. child_flags (next_of f.in_first xs) (next_of f.in_second ys) ++ l) (pushed_spread fs (rest_of f.in_first xs) (rest_of f.in_second ys))

-- what is behind as many records as there are bits is not taken
pub spread_front : (b : List Bool) (xs zs : List Record) → length b ≤ length xs → spread b (xs ++ zs) ≡ spread b xs
unfolding spread next_of rest_of
spread_front [] xs zs h = refl
spread_front (b ∷ bs) [] zs h = absurd (omega arith)
spread_front (true ∷ bs) (x ∷ xs) zs h = ap (λ l. x ∷ l) (spread_front bs xs zs (omega arith))
spread_front (false ∷ bs) (x ∷ xs) zs h = ap (λ l. empty_record ∷ l) (spread_front bs (x ∷ xs) zs (omega arith))

-- so as many records are enough as there are flags
at_front : (l : Bytes) (k n : ℕ) → k + n ≤ 4 * length l → (z : List Record) × (records_from l k ≡ records_at l k n ++ z)
unfolding records_from
at_front l k n h =
    let m : ℕ = 4 * length l - k - n in
    let y : k + (n + m) ≡ 4 * length l = omega arith in
    let e : records_to l (4 * length l) ≡ records_to l k ++ records_at l k (n + m) = rw y at (records_add l k (n + m)) in
    (records_at l (k + n) m, ap (drop k) e ∙ drop_at (records_to l k) (records_at l k (n + m)) k (length_records l k) ∙ at_add l k n m)

spread_from : (b : List Bool) (l : Bytes) (k n : ℕ) → length b ≤ n → k + n ≤ 4 * length l → spread b (records_at l k n) ≡ spread b (records_from l k)
spread_from b l k n c h =
    let f = at_front l k n h in
    sym (ap (spread b) f.1 ∙ spread_front b (records_at l k n) f.0 (omega (arith, length_at l k n)))

module _ (f : List Flag) (a b : Bytes) (k m n : ℕ) (c : length f ≤ n) (ha : k + n ≤ 4 * length a) (hb : m + n ≤ 4 * length b) where
  first_at : spread (map (λ (x : Flag). x.in_first) f) (records_at a k n) ≡ spread (map (λ (x : Flag). x.in_first) f) (records_from a k)
  first_at = spread_from (map (λ (x : Flag). x.in_first) f) a k n (rw length-map c) ha

  second_at : spread (map (λ (x : Flag). x.in_second) f) (records_at b m n) ≡ spread (map (λ (x : Flag). x.in_second) f) (records_from b m)
  second_at = spread_from (map (λ (x : Flag). x.in_second) f) b m n (rw length-map c) hb

  pub merged_at : merged f (records_at a k n) (records_at b m n) ≡ merged f (records_from a k) (records_from b m)
  merged_at = merged_spread f (records_at a k n) (records_at b m n) ∙ ap₂ eithers first_at second_at ∙ sym (merged_spread f (records_from a k) (records_from b m))

  pub pushed_at : pushed f (records_at a k n) (records_at b m n) ≡ pushed f (records_from a k) (records_from b m)
  pushed_at = pushed_spread f (records_at a k n) (records_at b m n) ∙ ap₂ children_of first_at second_at ∙ sym (pushed_spread f (records_from a k) (records_from b m))

-- ---- In numbers
or_code : (x y : ℕ) → record_of_code (bit_or x y % 4) ≡ either_record (record_of_code (x % 4)) (record_of_code (y % 4))
or_code x y = ap record_of_code (or_mod x y 2) ∙ (or_codes (x % 4) (y % 4) (omega arith) (omega arith)).0

or_down : (x y : ℕ) → bit_or x y / 4 ≡ bit_or (x / 4) (y / 4)
or_down x y = or_shr x y 2

either_four : (x y : ℕ) → records_of 4 (bit_or x y) ≡ eithers (records_of 4 x) (records_of 4 y)
unfolding records_of eithers
either_four x y =
    rw (or_down x y, or_down (x / 4) (y / 4), or_down (x / 4 / 4) (y / 4 / 4), or_code x y, or_code (x / 4) (y / 4), or_code (x / 4 / 4) (y / 4 / 4), or_code (x / 4 / 4 / 4) (y / 4 / 4 / 4))

-- the bits of two records are their edges
bits_children : (x y : ℕ) → children_of (records_of 2 x) (records_of 2 y) ≡ either_flags (bits_of 4 x) (bits_of 4 y)
unfolding records_of record_of_code children_of child_flags bits_of either_flags
bits_children x y =
    rw (third x, third y, fourth x, fourth y, second x, second y, first x, first y)
    (assoc (flag_if (odd (x / 2 / 2 / 2)) (odd (y / 2 / 2 / 2))) (flag_if (odd (x / 2 / 2)) (odd (y / 2 / 2))) (flag_if (odd (x / 2)) (odd (y / 2))) (flag_if (odd x) (odd y)))
  where
    third : (x : ℕ) → odd (x / 4 % 4 / 2) ≡ odd (x / 2 / 2 / 2)
    third x = odd_eq (x / 4 % 4 / 2) (x / 2 / 2 / 2) (omega arith)

    fourth : (x : ℕ) → odd (x / 4 % 4) ≡ odd (x / 2 / 2)
    fourth x = odd_eq (x / 4 % 4) (x / 2 / 2) (omega arith)

    second : (x : ℕ) → odd (x % 4 / 2) ≡ odd (x / 2)
    second x = odd_eq (x % 4 / 2) (x / 2) (omega arith)

    first : (x : ℕ) → odd (x % 4) ≡ odd x
    first x = odd_eq (x % 4) x (omega arith)

    assoc : {A : Type 0} (a b c d : List A) → (a ++ b) ++ ((c ++ d) ++ []) ≡ a ++ (b ++ (c ++ (d ++ [])))
    assoc a b c d = simp (append_assoc, append-nil)

pub children_four : (x y : ℕ) → children_of (records_of 4 x) (records_of 4 y) ≡ either_flags (bits_of 4 (x / 16)) (bits_of 4 (y / 16)) ++ either_flags (bits_of 4 (x % 16)) (bits_of 4 (y % 16))
children_four x y =
    let e : children_of (records_of 4 x) (records_of 4 y) ≡ children_of (records_of 2 (x / 16)) (records_of 2 (y / 16)) ++ children_of (records_of 2 (x % 16)) (records_of 2 (y % 16)) =
    rw (halves x, halves y) (unfold records_of children_of in simp (append_assoc, append-nil)) in
    e ∙ ap₂ (λ s t. s ++ t) (bits_children (x / 16) (y / 16)) (bits_children (x % 16) (y % 16))

-- ---- Four flags merged
firsts_of : (l : List Record) → map (λ (f : Flag). f.in_first) (map flag_of_record l) ≡ map (λ (r : Record). r.on_one) l
unfolding flag_of_record
firsts_of [] = refl
firsts_of (r ∷ l) = ap (λ t. r.on_one ∷ t) (firsts_of l)

seconds_of : (l : List Record) → map (λ (f : Flag). f.in_second) (map flag_of_record l) ≡ map (λ (r : Record). r.on_zero) l
unfolding flag_of_record
seconds_of [] = refl
seconds_of (r ∷ l) = ap (λ t. r.on_zero ∷ t) (seconds_of l)

spread_taken : (b : List Bool) (l : List Record) (x : ℕ) → length b ≡ 4 → 4 ≤ length l → records_of 4 x ≡ take 4 l → spread b (records_of 4 x) ≡ spread b l
spread_taken b l x n h e =
    ap (spread b) e ∙ sym (spread_front b (take 4 l) (drop 4 l) (omega (arith, length-take-le 4 l h))) ∙ ap (spread b) (take-append-drop 4 l)

module _ (l : List Record) (n : length l ≡ 4) (f s : ℕ) (ef : bits_of 4 f ≡ map (λ (r : Record). r.on_one) l) (es : bits_of 4 s ≡ map (λ (r : Record). r.on_zero) l)
    (xs ys : List Record) (x y : ℕ) (ex : records_of 4 x ≡ take 4 xs) (ey : records_of 4 y ≡ take 4 ys) (hx : 4 ≤ length xs) (hy : 4 ≤ length ys) where
  taken_first : spread (bits_of 4 f) (records_of 4 x) ≡ spread (map (λ (f : Flag). f.in_first) (map flag_of_record l)) xs
  taken_first =
      ap (λ b. spread b (records_of 4 x)) (ef ∙ sym (firsts_of l))
      ∙ spread_taken (map (λ (f : Flag). f.in_first) (map flag_of_record l)) xs x (rw (length-map, length-map) n) hx ex

  taken_second : spread (bits_of 4 s) (records_of 4 y) ≡ spread (map (λ (f : Flag). f.in_second) (map flag_of_record l)) ys
  taken_second =
      ap (λ b. spread b (records_of 4 y)) (es ∙ sym (seconds_of l))
      ∙ spread_taken (map (λ (f : Flag). f.in_second) (map flag_of_record l)) ys y (rw (length-map, length-map) n) hy ey

  four_merged : eithers (spread (bits_of 4 f) (records_of 4 x)) (spread (bits_of 4 s) (records_of 4 y)) ≡ merged (map flag_of_record l) xs ys
  four_merged = ap₂ eithers taken_first taken_second ∙ sym (merged_spread (map flag_of_record l) xs ys)

  four_pushed : children_of (spread (bits_of 4 f) (records_of 4 x)) (spread (bits_of 4 s) (records_of 4 y)) ≡ pushed (map flag_of_record l) xs ys
  four_pushed = ap₂ children_of taken_first taken_second ∙ sym (pushed_spread (map flag_of_record l) xs ys)

-- ---- Eight flags merged: four behind four
two_flags : (c d : ℕ) → flags_in c d ≡ map flag_of_record (records_of 4 c) ++ map flag_of_record (records_of 4 d)
unfolding flags_in
two_flags c d = map-append flag_of_record (records_of 4 c) (records_of 4 d)

module _ (c d x y : ℕ) where
  abbrev F : List Flag
  F = map flag_of_record (records_of 4 c)

  abbrev G : List Flag
  G = map flag_of_record (records_of 4 d)

  abbrev xs : List Record
  xs = eight_of x

  abbrev ys : List Record
  ys = eight_of y

  length_eight : (z : ℕ) → length (eight_of z) ≡ 8
  unfolding eight_of
  length_eight z = length_run 8 (z / 2 ^ 48)

  behind : (z n : ℕ) → n ≤ 4 → 4 ≤ length (drop n (eight_of z))
  behind z n h = omega (arith, length-drop n (eight_of z), length_eight z)

  pub eight_ok : (f₁ s₁ n₁ m₁ f₂ s₂ n₂ m₂ x₁ y₁ x₂ y₂ u₁ v₁ u₂ v₂ r₁ c₁ r₂ c₂ r e : ℕ)
      → bits_of 4 f₁ ≡ map (λ (z : Record). z.on_one) (records_of 4 c) → bits_of 4 s₁ ≡ map (λ (z : Record). z.on_zero) (records_of 4 c)
      → (n₁ ≡ first_count F) × (n₁ ≤ 4) → (m₁ ≡ second_count F) × (m₁ ≤ 4)
      → bits_of 4 f₂ ≡ map (λ (z : Record). z.on_one) (records_of 4 d) → bits_of 4 s₂ ≡ map (λ (z : Record). z.on_zero) (records_of 4 d)
      → (n₂ ≡ first_count G) × (n₂ ≤ 4) → (m₂ ≡ second_count G) × (m₂ ≤ 4)
      → records_of 4 x₁ ≡ take 4 (drop 0 xs) → records_of 4 y₁ ≡ take 4 (drop 0 ys) → records_of 4 x₂ ≡ take 4 (drop n₁ xs) → records_of 4 y₂ ≡ take 4 (drop m₁ ys)
      → (records_of 4 u₁ ≡ spread (bits_of 4 f₁) (records_of 4 x₁)) × (u₁ < 256) → (records_of 4 v₁ ≡ spread (bits_of 4 s₁) (records_of 4 y₁)) × (v₁ < 256)
      → (records_of 4 u₂ ≡ spread (bits_of 4 f₂) (records_of 4 x₂)) × (u₂ < 256) → (records_of 4 v₂ ≡ spread (bits_of 4 s₂) (records_of 4 y₂)) × (v₂ < 256)
      → records_of (c₁ / 2) r₁ ≡ map record_of_flag (children_of (records_of 4 u₁) (records_of 4 v₁)) → records_of (c₂ / 2) r₂ ≡ map record_of_flag (children_of (records_of 4 u₂) (records_of 4 v₂))
      → records_of (e / 2) r ≡ records_of (c₁ / 2) r₁ ++ records_of (c₂ / 2) r₂ → Short 16 r e
      → EightMerged (flags_in c d) xs ys (bit_or u₁ v₁) (bit_or u₂ v₂) r e (n₁ + n₂) (m₁ + m₂)
  eight_ok f₁ s₁ n₁ m₁ f₂ s₂ n₂ m₂ x₁ y₁ x₂ y₂ u₁ v₁ u₂ v₂ r₁ c₁ r₂ c₂ r e ef₁ es₁ en₁ em₁ ef₂ es₂ en₂ em₂ ex₁ ey₁ ex₂ ey₂ eu₁ ev₁ eu₂ ev₂ er₁ er₂ er short =
      let hx : 4 ≤ length xs = omega (arith, length_eight x) in
      let hy : 4 ≤ length ys = omega (arith, length_eight y) in
      let hx₂ : 4 ≤ length (drop n₁ xs) = behind x n₁ en₁.1 in
      let hy₂ : 4 ≤ length (drop m₁ ys) = behind y m₁ em₁.1 in
      let o₁ : records_of 4 (bit_or u₁ v₁) ≡ merged F xs ys =
      either_four u₁ v₁ ∙ ap₂ eithers eu₁.0 ev₁.0 ∙ four_merged (records_of 4 c) (length_run 4 c) f₁ s₁ ef₁ es₁ xs ys x₁ y₁ ex₁ ey₁ hx hy in
      let o₂ : records_of 4 (bit_or u₂ v₂) ≡ merged G (drop n₁ xs) (drop m₁ ys) =
      either_four u₂ v₂ ∙ ap₂ eithers eu₂.0 ev₂.0 ∙ four_merged (records_of 4 d) (length_run 4 d) f₂ s₂ ef₂ es₂ (drop n₁ xs) (drop m₁ ys) x₂ y₂ ex₂ ey₂ hx₂ hy₂ in
      let p₁ : records_of (c₁ / 2) r₁ ≡ map record_of_flag (pushed F xs ys) =
      er₁ ∙ ap (map record_of_flag) (ap₂ children_of eu₁.0 ev₁.0 ∙ four_pushed (records_of 4 c) (length_run 4 c) f₁ s₁ ef₁ es₁ xs ys x₁ y₁ ex₁ ey₁ hx hy) in
      let p₂ : records_of (c₂ / 2) r₂ ≡ map record_of_flag (pushed G (drop n₁ xs) (drop m₁ ys)) =
      er₂ ∙ ap (map record_of_flag) (ap₂ children_of eu₂.0 ev₂.0 ∙ four_pushed (records_of 4 d) (length_run 4 d) f₂ s₂ ef₂ es₂ (drop n₁ xs) (drop m₁ ys) x₂ y₂ ex₂ ey₂ hx₂ hy₂) in
      let me : merged F xs ys ++ merged G (drop n₁ xs) (drop m₁ ys) ≡ merged (F ++ G) xs ys = rw (en₁.0, em₁.0) (sym (merged_append F G xs ys)) in
      let pe : pushed F xs ys ++ pushed G (drop n₁ xs) (drop m₁ ys) ≡ pushed (F ++ G) xs ys = rw (en₁.0, em₁.0) (sym (pushed_append F G xs ys)) in
      let t : F ++ G ≡ flags_in c d = sym (two_flags c d) in
      record {
        out = ap₂ (λ s t. s ++ t) o₁ o₂ ∙ me ∙ ap (λ f. merged f xs ys) t;
        queue = er ∙ ap₂ (λ s t. s ++ t) p₁ p₂ ∙ sym (map-append record_of_flag (pushed F xs ys) (pushed G (drop n₁ xs) (drop m₁ ys))) ∙ ap (map record_of_flag) (pe ∙ ap (λ f. pushed f xs ys) t);
        short = short;
        takena = ap₂ (λ s t. s + t) en₁.0 en₂.0 ∙ sym (first_append F G) ∙ ap first_count t;
        takenb = ap₂ (λ s t. s + t) em₁.0 em₂.0 ∙ sym (second_append F G) ∙ ap second_count t;
        bytes = (or_lt 8 u₁ v₁ eu₁.1 ev₁.1, or_lt 8 u₂ v₂ eu₂.1 ev₂.1);
        few = (omega (arith, en₁.1, en₂.1), omega (arith, em₁.1, em₂.1));
      }

-- ---- A block merged
flags_at : (q : Bytes) (i n : ℕ) → flags_from q i n ≡ map flag_of_record (records_at q i n)
unfolding flags_from records_at flag_at flag_of_record
flags_at q i n = sym (map_tabulate (λ r. flag_of_record r) (λ (k : ℕ). record_at q (i + k)) n)

flags_bytes : (q : Bytes) (j : ℕ) → flags_from q (4 * j) 8 ≡ flags_in (get_or q j 0) (get_or q (j + 1) 0)
unfolding flags_in
flags_bytes q j = flags_at q (4 * j) 8 ∙ ap (map flag_of_record) (bytes_more q j 1 ∙ ap (λ t. t ++ records_of 4 (get_or q (j + 1) 0)) (byte_run q j))

flags_back : (l : List Flag) → map flag_of_record (map record_of_flag l) ≡ l
unfolding flag_of_record record_of_flag
flags_back [] = refl
flags_back (f ∷ l) = ap (λ t. f ∷ t) (flags_back l)

-- a run of flags put behind the first of a queue
flags_run : {q p : Bytes} {tail c r : ℕ} (l : List Flag) → Appended tail c r q p → records_of c r ≡ map record_of_flag l → Queued tail l q p (tail + c)
flags_run {q} {p} {tail} {c} l w e =
    record {
      flags =
          flags_records p (tail + c) ∙ ap (map flag_of_record) (w.records ∙ ap (λ t. records_to q tail ++ t) e) ∙ map-append flag_of_record (records_to q tail) (map record_of_flag l)
          ∙ ap₂ (λ s t. s ++ t) (sym (flags_records q tail)) (flags_back l);
      size = w.size;
    }

-- two bytes set: their records, and those behind them
two_set : (o : Bytes) (j x y : ℕ) → j + 1 < length o → records_to (set (set o j x) (j + 1) y) (4 * j + 8) ≡ records_to o (4 * j) ++ (records_of 4 x ++ records_of 4 y)
two_set o j x y h =
    let z : 4 * (j + 1) + 4 ≡ 4 * j + 8 = omega arith in
    let w : 4 * (j + 1) ≡ 4 * j + 4 = omega arith in
    let e : records_to (set (set o j x) (j + 1) y) (4 * j + 8) ≡ records_to (set o j x) (4 * j + 4) ++ records_of 4 y = rw (z, w) at (byte_set (set o j x) (j + 1) y (rw (length-set o j x) h)) in
    e ∙ ap (λ t. t ++ records_of 4 y) (byte_set o j x (omega arith)) ∙ append_assoc (records_to o (4 * j)) (records_of 4 x) (records_of 4 y)

two_kept : (o : Bytes) (j x y k : ℕ) → 4 * j + 8 ≤ k → record_at (set (set o j x) (j + 1) y) k ≡ record_at o k
two_kept o j x y k h =
    let e : get_or (set (set o j x) (j + 1) y) (k / 4) 0 ≡ get_or o (k / 4) 0 =
    get_or-set_other (set o j x) (j + 1) (k / 4) y 0 (λ f. omega arith) ∙ get_or-set_other o j (k / 4) x 0 (λ f. omega arith) in
    code_at (set (set o j x) (j + 1) y) k ∙ rw e (sym (code_at o k))

pub block_ok : (a b q p : Bytes) (j ka kb tail c d x y h k r e la lb : ℕ) → j + 1 < length q → 4 * j + 8 ≤ tail → c ≡ get_or q j 0 → d ≡ get_or q (j + 1) 0
    → eight_of x ≡ records_at a ka 8 → eight_of y ≡ records_at b kb 8 → EightMerged (flags_in c d) (eight_of x) (eight_of y) h k r e la lb → Appended tail (e / 2) r (set (set q j h) (j + 1) k) p
    → BlockMerged a b q j ka kb tail p (ka + la) (kb + lb) (tail + e / 2)
block_ok a b q p j ka kb tail c d x y h k r e la lb room l ec ed ex ey v w =
    let o : Bytes = set (set q j h) (j + 1) k in
    let f : flags_in c d ≡ flags_from q (4 * j) 8 = ap₂ flags_in ec ed ∙ sym (flags_bytes q j) in
    let m : merged (flags_in c d) (eight_of x) (eight_of y) ≡ merged (flags_from q (4 * j) 8) (records_at a ka 8) (records_at b kb 8) = rw (f, ex, ey) in
    let n : pushed (flags_in c d) (eight_of x) (eight_of y) ≡ pushed (flags_from q (4 * j) 8) (records_at a ka 8) (records_at b kb 8) = rw (f, ex, ey) in
    let u : Queued tail (pushed (flags_from q (4 * j) 8) (records_at a ka 8) (records_at b kb 8)) o p (tail + e / 2) =
    flags_run (pushed (flags_from q (4 * j) 8) (records_at a ka 8) (records_at b kb 8)) w (v.queue ∙ ap (map record_of_flag) n) in
    record {
      takena = ap (λ t. ka + t) (v.takena ∙ ap first_count f);
      takenb = ap (λ t. kb + t) (v.takenb ∙ ap second_count f);
      out = queued_front u (4 * j + 8) l ∙ two_set q j h k room ∙ ap (λ t. records_to q (4 * j) ++ t) (v.out ∙ m);
      queue = queued_behind u (4 * j + 8) l ∙ ap (λ t. t ++ pushed (flags_from q (4 * j) 8) (records_at a ka 8) (records_at b kb 8)) (flags_same o q (4 * j + 8) (tail - (4 * j + 8)) (λ i g. two_kept q j h k i g));
      last = queued_le u (4 * j + 8) l;
      size = w.size ∙ length-set (set q j h) (j + 1) k ∙ length-set q j h;
    }
