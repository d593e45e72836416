-- An encoding is read as its entry, and nothing else is read.
use mathlib.Core.Path.{◌≡◌, refl, sym, ap, ◌∙◌, fun_ext, subst}
use mathlib.Core.Logic.{◌↔◌}
use Prim.Native.Nat.{ℕ, suc, ◌+◌, ◌-◌, ◌*◌, ◌/◌, ◌^◌, ◌≤◌, ◌<◌}
use mathlib.Core.Bool.{Bool, true, false, ◌&&◌, not, false≢true}
use mathlib.Core.List.{[], ◌++◌, flatten}
use mathlib.Core.Option.{Option, none, some}
use native.Mathlib.Omega.{arith}
use native.Mathlib.Decide.{dec_le}
use lib.ListN.{length, take, drop, get_or, length-append, length-drop, take-append-drop, get_or-append}
use lib.Seq.{drop_at, drop-drop, get_or-drop}
use lib.Dec.{eqb, ltb}
use Rattle.loes.specs.Limits.{max_width, max_edges, block_bits, sub_block_bits, head_bytes, width_bytes, count_bytes, level_entry, block_entry, sub_block_entry}
use Rattle.loes.specs.Bytes.{Bytes, same_numbers, started, big_endian, number_at, bit_at, bits_in}
use Rattle.loes.specs.Keys.{Key, KeySet}
use Rattle.loes.specs.Edges.{present, edges}
use Rattle.loes.specs.Entry.{Entry, count, edges_of, edge_count, of_width, wrong_width, too_many_edges, Valid}
use Rattle.loes.specs.Encode.{field, block_ones, sub_block_ones, level_end, width_body, count_body, level_body, edge_body, block_body, sub_block_body, encode}
use Rattle.loes.specs.Refusals.{test, first_of}
use Rattle.loes.specs.Read.{level_bytes, edge_bytes, block_bytes, sub_block_bytes, body_at, start2, start3, start4, start5, start6, end_of, width_in, edge_count_in, edges_in, entry_along, entry_in, field_tests, head_tests, tail_tests, read_tests, Reading, rejected, opened, reading_of, read}
use Rattle.loes.proofs.Tests.{lt_no, no_lt, eq_yes, yes_eq, both, neither, not_false, same_self, same_is, none_append, none_test, none_first}
use Rattle.loes.proofs.Bytes.{length_big_endian, length_big_endians, length_packed, field_length}
use Rattle.loes.proofs.Bits.{bits_packed, tabulate_ext}
use Rattle.loes.proofs.Numbers.{number_at_lem, numbers_at}
use Rattle.loes.proofs.Navigation.{present_is}

-- ---- A field at a place, with whatever is behind it
abbrev pub FieldAt : ℕ → Bytes → Bytes → ℕ → Type 0
FieldAt t body l at = (x : Bytes) × (drop at l ≡ field t body ++ x)

module _ (t : ℕ) (b l : Bytes) (at : ℕ) (f : FieldAt t b l at) where
  -- its body
  pub body_at_lem : drop (body_at at) l ≡ b ++ f.0
  unfolding field big_endian
  body_at_lem = sym (drop-drop head_bytes at l) ∙ ap (drop head_bytes) f.1

  -- what is behind it
  pub behind : (n : ℕ) → length b ≡ n → drop (body_at at + n) l ≡ f.0
  behind n h = sym (drop-drop n (body_at at) l) ∙ ap (drop n) body_at_lem ∙ drop_at b f.0 n h

  -- it passes its tests
  pub field_passes : (n : ℕ) → length b ≡ n → n < 65536 → first_of (field_tests t n l at) ≡ none
  unfolding field_tests test first_of
  field_passes n h s =
      let len : length l - at ≡ head_bytes + n + length f.0 =
      sym (length-drop at l) ∙ ap length f.1 ∙ length-append (field t b) f.0 ∙ omega (arith, field_length t b) in
      let h1 : ltb (length l - at) head_bytes ≡ false = lt_no (length l - at) head_bytes (omega arith) in
      let h4 : ltb (length l - at - head_bytes) n ≡ false = lt_no (length l - at - head_bytes) n (omega arith) in
      let z : at + 0 ≡ at = omega arith in
      let tag : get_or l at 0 ≡ t = ap (λ i. get_or l i 0) (sym z) ∙ sym (get_or-drop at l 0 0) ∙ ap (λ x. get_or x 0 0) f.1 ∙ unfold field in refl in
      let d : drop (at + 1) l ≡ big_endian 2 (length b) ++ (b ++ f.0) = sym (drop-drop 1 at l) ∙ ap (drop 1) f.1 ∙ unfold field big_endian in refl in
      let num : number_at 2 l (at + 1) ≡ n = number_at_lem 2 (length b) l (b ++ f.0) (at + 1) (omega arith) d ∙ h in
      rw (h1, tag, eq_yes t, num, eq_yes n, h4)

-- ---- The lengths of an entry's bodies
pub length_levels : (e : Entry) → length (level_body e) ≡ level_bytes e.width
unfolding level_body
length_levels e = omega (arith, length_big_endians level_entry (level_end e) e.width)

pub length_edges : (e : Entry) → length (edge_body e) ≡ edge_bytes (edge_count e)
unfolding edge_body edge_count
length_edges e = length_packed (edges_of e)

pub length_blocks : (e : Entry) → length (block_body e) ≡ block_bytes (edge_count e)
unfolding block_body
length_blocks e = omega (arith, length_big_endians block_entry (block_ones (edges_of e)) (started block_bits (edge_count e)))

pub length_sub_blocks : (e : Entry) → length (sub_block_body e) ≡ sub_block_bytes (edge_count e)
unfolding sub_block_body
length_sub_blocks e = omega (arith, length_big_endians sub_block_entry (sub_block_ones (edges_of e)) (started sub_block_bits (edge_count e)))

-- ---- The fields of an encoding lie in their places
pub record FieldsLaid (l : Bytes) (e : Entry) : Type 0 where
  pub field1 : FieldAt 1 (width_body e) l 0
  pub field2 : FieldAt 2 (count_body e) l start2
  pub field3 : FieldAt 3 (level_body e) l start3
  pub field4 : FieldAt 4 (edge_body e) l (start4 e.width)
  pub field5 : FieldAt 5 (block_body e) l (start5 e.width (edge_count e))
  pub field6 : FieldAt 6 (sub_block_body e) l (start6 e.width (edge_count e))
  pub ends : drop (end_of e.width (edge_count e)) l ≡ []

pub laid : (e : Entry) → FieldsLaid (encode e) e
unfolding encode flatten start4 start5 start6 end_of
laid e =
    let l : Bytes = encode e in
    let f1 : FieldAt 1 (width_body e) l 0 = (_, refl) in
    let f2 : FieldAt 2 (count_body e) l start2 = (_, behind 1 (width_body e) l 0 f1 width_bytes (unfold width_body in length_big_endian width_bytes e.width)) in
    let f3 : FieldAt 3 (level_body e) l start3 = (_, behind 2 (count_body e) l start2 f2 count_bytes (unfold count_body in length_big_endian count_bytes (count e))) in
    let f4 : FieldAt 4 (edge_body e) l (start4 e.width) = (_, behind 3 (level_body e) l start3 f3 (level_bytes e.width) (length_levels e)) in
    let f5 : FieldAt 5 (block_body e) l (start5 e.width (edge_count e)) = (_, behind 4 (edge_body e) l _ f4 (edge_bytes (edge_count e)) (length_edges e)) in
    let f6 : FieldAt 6 (sub_block_body e) l (start6 e.width (edge_count e)) = (_, behind 5 (block_body e) l _ f5 (block_bytes (edge_count e)) (length_blocks e)) in
    record {
      field1 = f1;
      field2 = f2;
      field3 = f3;
      field4 = f4;
      field5 = f5;
      field6 = f6;
      ends = behind 6 (sub_block_body e) l _ f6 (sub_block_bytes (edge_count e)) (length_sub_blocks e);
    }

pub encode_length : (e : Entry) → length (encode e) ≡ end_of e.width (edge_count e)
unfolding encode flatten end_of start6 start5 start4 width_body count_body
encode_length e =
    simp (length-append, field_length, length_big_endian, length_levels, length_edges, length_blocks, length_sub_blocks) (omega arith)

-- ---- What is read in an encoding
pub width_read : (e : Entry) → Valid e → width_in (encode e) ≡ e.width
unfolding width_in width_body
width_read e v =
    number_at_lem width_bytes e.width (encode e) _ (body_at 0) (omega (arith, v.narrow)) (body_at_lem 1 (width_body e) (encode e) 0 (laid e).field1)

pub level_end_last : (e : Entry) → 0 < e.width → level_end e (e.width - 1) ≡ edge_count e
unfolding level_end edge_count edges_of edges
level_end_last e h = let z : suc (e.width - 1) ≡ e.width = omega arith in rw z

pub bits_read : (e : Entry) → Valid e → edge_count_in (encode e) ≡ edge_count e
unfolding edge_count_in level_body
bits_read e v =
    let p : 0 < e.width = v.positive in
    let d = body_at_lem 3 (level_body e) (encode e) start3 (laid e).field3 in
    let q : level_end e (e.width - 1) < 256 ^ level_entry = rw (level_end_last e p) (omega (arith, v.few)) in
    rw (width_read e v)
    (numbers_at level_entry (level_end e) e.width (e.width - 1) (encode e) _ (body_at start3) (omega arith) q d ∙ level_end_last e p)

-- bits of bytes, whatever is behind them
pub bits_front : (l x : Bytes) (n : ℕ) → n ≤ 8 * length l → bits_in (l ++ x) n ≡ bits_in l n
unfolding bits_in bit_at
bits_front l x n h =
    tabulate_ext (bit_at (l ++ x)) (bit_at l) n
    (λ i q. let r : i / 8 < length l = omega arith in unfold bit_at in rw (get_or-append l x 0 (i / 8) r))

pub bits_cut : (l : Bytes) (i n : ℕ) → n ≤ 8 * length (take i l) → bits_in (take i l) n ≡ bits_in l n
bits_cut l i n h = sym (bits_front (take i l) (drop i l) n h) ∙ ap (λ x. bits_in x n) (take-append-drop i l)

edges_room : (e : Entry) → edge_count e ≤ 8 * length (edge_body e)
unfolding started
edges_room e = omega (arith, length_edges e)

pub edges_read : (e : Entry) → Valid e → edges_in (encode e) ≡ edges_of e
unfolding edges_in
edges_read e v =
    let d = body_at_lem 4 (edge_body e) (encode e) (start4 e.width) (laid e).field4 in
    rw (width_read e v, bits_read e v, d, bits_front (edge_body e) (laid e).field4.0 (edge_count e) (edges_room e))
    (unfold edge_body edge_count in bits_packed (edges_of e))

-- following an entry's edges gives the entry
pub along_sized : (e : Entry) → 0 < e.width → ((k : Key) → e.set k ≡ true → length k ≡ e.width) → entry_along e.width (edges_of e) ≡ e
unfolding entry_along of_width edges_of
along_sized e p s = ap (λ (s : KeySet). record { width = e.width; set = s }) (fun_ext λ k. go k (eqb (length k) e.width) refl)
  where
    off : (k : Key) (b : Bool) → e.set k ≡ b → eqb (length k) e.width ≡ false → false ≡ e.set k
    off k false h z = sym h
    off k true h z = absurd (false≢true (sym z ∙ ap (λ n. eqb n e.width) (s k h) ∙ eq_yes e.width))

    go : (k : Key) (b : Bool) → eqb (length k) e.width ≡ b → (b && present (edges e.width e.set) k) ≡ e.set k
    go k true z = present_is k e.width e.set (yes_eq (length k) e.width z) p
    go k false z = off k (e.set k) refl z

pub along_edges : (e : Entry) → Valid e → entry_along e.width (edges_of e) ≡ e
along_edges e v = along_sized e v.positive v.sized

pub entry_read : (e : Entry) → Valid e → entry_in (encode e) ≡ e
unfolding entry_in
entry_read e v = rw (width_read e v, edges_read e v) (along_edges e v)

-- ---- An encoding is read as its entry
valid_width : (e : Entry) → Valid e → wrong_width e.width ≡ false
unfolding wrong_width
valid_width e v = rw (lt_no e.width 1 v.positive, lt_no max_width e.width v.narrow)

valid_edges : (e : Entry) → Valid e → too_many_edges (edge_count e) ≡ false
unfolding too_many_edges
valid_edges e v = lt_no max_edges (edge_count e) v.few

pub head_passes : (e : Entry) → Valid e → first_of (head_tests (encode e)) ≡ none
unfolding head_tests flatten
head_passes e v =
    let l : Bytes = encode e in
    let p = laid e in
    let w : e.width ≤ 256 = v.narrow in
    rw (width_read e v, bits_read e v, valid_width e v, valid_edges e v)
    (none_first (field_tests 1 width_bytes l 0) _ (field_passes 1 (width_body e) l 0 p.field1 width_bytes (unfold width_body in length_big_endian width_bytes e.width) (omega arith))
    ∙ unfold first_of test in none_first (field_tests 2 count_bytes l start2) _ (field_passes 2 (count_body e) l start2 p.field2 count_bytes (unfold count_body in length_big_endian count_bytes (count e)) (omega arith))
    ∙ none_first (field_tests 3 (level_bytes e.width) l start3) _ (field_passes 3 (level_body e) l start3 p.field3 (level_bytes e.width) (length_levels e) (omega arith)))

lengths_fit : (b : ℕ) → b ≤ max_edges → (edge_bytes b < 65536) × (block_bytes b < 65536) × (sub_block_bytes b < 65536)
unfolding started
lengths_fit b h = (omega arith, omega arith, omega arith)

pub tail_passes : (e : Entry) → Valid e → first_of (tail_tests e.width (edge_count e) (encode e)) ≡ none
unfolding tail_tests flatten first_of test
tail_passes e v =
    let l : Bytes = encode e in
    let m : ℕ = e.width in
    let b : ℕ = edge_count e in
    let p = laid e in
    let q = lengths_fit b v.few in
    let z : ltb (end_of m b) (length l) ≡ false = lt_no (end_of m b) (length l) (omega (arith, encode_length e)) in
    rw z
    (none_first (field_tests 4 (edge_bytes b) l (start4 m)) _ (field_passes 4 (edge_body e) l (start4 m) p.field4 (edge_bytes b) (length_edges e) q.0)
    ∙ none_first (field_tests 5 (block_bytes b) l (start5 m b)) _ (field_passes 5 (block_body e) l (start5 m b) p.field5 (block_bytes b) (length_blocks e) q.1)
    ∙ none_first (field_tests 6 (sub_block_bytes b) l (start6 m b)) _ (field_passes 6 (sub_block_body e) l (start6 m b) p.field6 (sub_block_bytes b) (length_sub_blocks e) q.2))

pub read_encode : (e : Entry) → Valid e → read (encode e) ≡ opened e
unfolding read read_tests flatten
read_encode e v =
    let l : Bytes = encode e in
    let h : first_of (head_tests l) ≡ none = head_passes e v in
    let t : first_of (tail_tests (width_in l) (edge_count_in l) l) ≡ none = rw (width_read e v, bits_read e v) (tail_passes e v) in
    rw (none_first (head_tests l) _ h, none_first (tail_tests (width_in l) (edge_count_in l) l) _ t, entry_read e v, same_self l)
    (unfold first_of test reading_of in refl)

-- ---- And nothing else is read
abbrev entry_or : Entry → Reading → Entry
entry_or e (rejected k) = e
entry_or e (opened f) = f

pub opened_inj : (e f : Entry) → opened e ≡ opened f → e ≡ f
opened_inj e f h = ap (entry_or e) h

abbrev IsOpened : Reading → Type 0
IsOpened (rejected k) = ⊥
IsOpened (opened e) = Unit {0}

-- what opens passes every test, and gives its entry
pub read_tests_lem : (l : Bytes) (e : Entry) → read l ≡ opened e → (first_of (read_tests l) ≡ none) × (entry_in l ≡ e)
unfolding read reading_of
read_tests_lem l e h = go (first_of (read_tests l)) refl h
  where
    go : (o : Option ℕ) → first_of (read_tests l) ≡ o → reading_of o (entry_in l) ≡ opened e → (first_of (read_tests l) ≡ none) × (entry_in l ≡ e)
    go none z g = (z, opened_inj (entry_in l) e g)
    go (some k) z g = absurd (subst IsOpened (sym g) tt)

-- a field that passes its tests lies in the bytes
pub field_fits : (t n : ℕ) (l : Bytes) (at : ℕ) → first_of (field_tests t n l at) ≡ none → body_at at + n ≤ length l
unfolding field_tests
field_fits t n l at h =
    let r1 = none_test (ltb (length l - at) head_bytes) _ _ h in
    let r4 = none_test (ltb (length l - at - head_bytes) n) _ _ (none_test _ _ _ (none_test _ _ _ r1.1).1).1 in
    omega (arith, no_lt (length l - at) head_bytes r1.0, no_lt (length l - at - head_bytes) n r4.0)

-- what passing says, test by test
pub record Passed (l : Bytes) : Type 0 where
  pub field1 : first_of (field_tests 1 width_bytes l 0) ≡ none
  pub width : wrong_width (width_in l) ≡ false
  pub field2 : first_of (field_tests 2 count_bytes l start2) ≡ none
  pub field3 : first_of (field_tests 3 (level_bytes (width_in l)) l start3) ≡ none
  pub bits : too_many_edges (edge_count_in l) ≡ false
  pub field4 : first_of (field_tests 4 (edge_bytes (edge_count_in l)) l (start4 (width_in l))) ≡ none
  pub field5 : first_of (field_tests 5 (block_bytes (edge_count_in l)) l (start5 (width_in l) (edge_count_in l))) ≡ none
  pub field6 : first_of (field_tests 6 (sub_block_bytes (edge_count_in l)) l (start6 (width_in l) (edge_count_in l))) ≡ none
  pub ends : length l ≡ end_of (width_in l) (edge_count_in l)

pub passed : (l : Bytes) → first_of (head_tests l) ≡ none → first_of (tail_tests (width_in l) (edge_count_in l) l) ≡ none → Passed l
unfolding head_tests tail_tests flatten
passed l h t =
    let m : ℕ = width_in l in
    let b : ℕ = edge_count_in l in
    let a1 = none_append (field_tests 1 width_bytes l 0) _ h in
    let a2 = none_test (wrong_width m) _ _ a1.1 in
    let a3 = none_append (field_tests 2 count_bytes l start2) _ a2.1 in
    let a4 = none_append (field_tests 3 (level_bytes m) l start3) _ a3.1 in
    let a5 = none_test (too_many_edges b) _ _ a4.1 in
    let b1 = none_append (field_tests 4 (edge_bytes b) l (start4 m)) _ t in
    let b2 = none_append (field_tests 5 (block_bytes b) l (start5 m b)) _ b1.1 in
    let b3 = none_append (field_tests 6 (sub_block_bytes b) l (start6 m b)) _ b2.1 in
    let b4 = none_test (ltb (end_of m b) (length l)) _ _ b3.1 in
    let f : end_of m b ≤ length l = unfold end_of in field_fits 6 (sub_block_bytes b) l (start6 m b) b3.0 in
    record {
      field1 = a1.0;
      width = a2.0;
      field2 = a3.0;
      field3 = a4.0;
      bits = a5.0;
      field4 = b1.0;
      field5 = b2.0;
      field6 = b3.0;
      ends = omega (arith, no_lt (end_of m b) (length l) b4.0);
    }

-- the parts of the whole list of tests
pub tests_parts : (l : Bytes) → first_of (read_tests l) ≡ none → Passed l × (l ≡ encode (entry_in l))
unfolding read_tests flatten
tests_parts l h =
    let a = none_append (head_tests l) _ h in
    let b = none_append (tail_tests (width_in l) (edge_count_in l) l) _ a.1 in
    let c = none_test (not (same_numbers l (encode (entry_in l)))) _ _ b.1 in
    (passed l a.0 b.0, same_is l (encode (entry_in l)) (not_false (same_numbers l (encode (entry_in l))) c.0))

-- the number of edges is bounded by the length of the encoding
started_grows : (b c : ℕ) → b ≤ max_edges → max_edges < c
    → (edge_bytes b < edge_bytes c) × (started block_bits b ≤ started block_bits c) × (started sub_block_bits b ≤ started sub_block_bits c)
unfolding started
started_grows b c h g = (omega arith, omega arith, omega arith)

few_by_length : (m b c : ℕ) → b ≤ max_edges → end_of m c ≡ end_of m b → c ≤ max_edges
unfolding end_of start6 start5
few_by_length m b c h e =
    elim (dec_le c max_edges) [ yes l ↦ l | no l ↦ let g = started_grows b c h (omega arith) in absurd (omega (arith, g.0, g.1, g.2)) ]

-- bytes that pass every test before 7, and are the encoding of what their edges give, are that of a valid entry
pub valid_passed : (l : Bytes) → Passed l → l ≡ encode (entry_in l) → Valid (entry_in l)
valid_passed l p e =
    let r = neither (ltb (width_in l) 1) (ltb max_width (width_in l)) (unfold wrong_width in p.width) in
    let b : edge_count_in l ≤ max_edges = no_lt max_edges (edge_count_in l) (unfold too_many_edges in p.bits) in
    let n : end_of (width_in l) (edge_count (entry_in l)) ≡ length (encode (entry_in l)) = sym (unfold entry_in entry_along in encode_length (entry_in l)) in
    record {
      positive = unfold entry_in entry_along in no_lt (width_in l) 1 r.0;
      narrow = unfold entry_in entry_along in no_lt max_width (width_in l) r.1;
      sized = λ k h. unfold entry_in entry_along in yes_eq (length k) (width_in l) (both (eqb (length k) (width_in l)) (present (edges_in l) k) (unfold entry_in entry_along of_width in h)).0;
      few = few_by_length (width_in l) (edge_count_in l) (edge_count (entry_in l)) b (n ∙ ap length (sym e) ∙ p.ends);
    }

-- bytes are read exactly if they are the encoding of a valid entry, and then as that entry
pub reads_exactly : (l : Bytes) (e : Entry) → (read l ≡ opened e) ↔ (Valid e × (l ≡ encode e))
reads_exactly l e = (
  λ h.
      let t = read_tests_lem l e h in
      let p = tests_parts l t.0 in
      (subst Valid t.1 (valid_passed l p.0 p.1), p.1 ∙ ap encode t.1),
  λ h. ap read h.1 ∙ read_encode e h.0,
)
