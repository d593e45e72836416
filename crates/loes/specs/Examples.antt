-- Document 01's worked examples, and further ones, whose proof is computation; and laws of order (`Orders`).
use Rattle.std.specs.Prelude.{◌≡◌, ℕ, true, false, List, [], ◌∷◌, ◌++◌, take, drop, get_or, replicate, eqb}
use mathlib.Core.Option.{none}
use Rattle.loes.specs.Limits.{max_width, max_edges, max_bytes, sub_block_bits}
use Rattle.loes.specs.Bytes.{Bytes, started, pack_bits}
use Rattle.loes.specs.Keys.{Key, set_of}
use Rattle.loes.specs.Edges.{last_of, edge_offsets, edges_before, ones, edge_index}
use Rattle.loes.specs.Entry.{Entry, edges_of, edge_count, too_many_edges, Valid}
use Rattle.loes.specs.Encode.{block_ones, sub_block_ones, encode}
use Rattle.loes.specs.Refusals.{first_of}
use Rattle.loes.specs.Read.{end_of}
use Rattle.loes.specs.Model.{Answer, refused, wrote, wrote_key, tells, is_absent, is_none, index_is, rank_is, range_is, saying, writing, writing_all, pack_tests, batch_entry, union_entry}
use Rattle.loes.specs.Calls.{pack_call, union_call, difference_call, split_call, open_call, contains_call, index_of_call, key_at_call, rank_call, lower_bound_call, prefix_call}
use Rattle.loes.specs.Cursor.{State, before, at, after, Cursor, cursor_with, padded, Advanced, advance_call}

-- ---- Words of the statements
-- a buffer of n bytes before a call
abbrev pub room : ℕ → Bytes
room n = replicate n 0xEE

-- the entry of these keys of m bits
abbrev pub entry_of : ℕ → List Key → Entry
entry_of m ks = record { width = m; set = set_of ks }

-- ---- The encodings
-- width 3, no keys
abbrev pub P1 : Bytes
P1 = 0x01 ∷ 0x00 ∷ 0x02 ∷ 0x00 ∷ 0x03 ∷ 0x02 ∷ 0x00 ∷ 0x04 ∷ 0x00 ∷ 0x00 ∷ 0x00 ∷ 0x00 ∷ 0x03 ∷ 0x00 ∷ 0x0C ∷ 0x00 ∷ 0x00 ∷ 0x00 ∷ 0x00 ∷ 0x00 ∷ 0x00 ∷ 0x00 ∷ 0x00 ∷ 0x00 ∷ 0x00 ∷ 0x00 ∷ 0x00 ∷ 0x04 ∷ 0x00 ∷ 0x00 ∷ 0x05 ∷ 0x00 ∷ 0x00 ∷ 0x06 ∷ 0x00 ∷ 0x00 ∷ []

-- width 3, {000, 011, 110}
abbrev pub P2 : Bytes
P2 = 0x01 ∷ 0x00 ∷ 0x02 ∷ 0x00 ∷ 0x03 ∷ 0x02 ∷ 0x00 ∷ 0x04 ∷ 0x00 ∷ 0x00 ∷ 0x00 ∷ 0x03 ∷ 0x03 ∷ 0x00 ∷ 0x0C ∷ 0x00 ∷ 0x00 ∷ 0x00 ∷ 0x02 ∷ 0x00 ∷ 0x00 ∷ 0x00 ∷ 0x06 ∷ 0x00 ∷ 0x00 ∷ 0x00 ∷ 0x0C ∷ 0x04 ∷ 0x00 ∷ 0x02 ∷ 0xF6 ∷ 0x60 ∷ 0x05 ∷ 0x00 ∷ 0x08 ∷ 0x00 ∷ 0x00 ∷ 0x00 ∷ 0x00 ∷ 0x00 ∷ 0x00 ∷ 0x00 ∷ 0x00 ∷ 0x06 ∷ 0x00 ∷ 0x02 ∷ 0x00 ∷ 0x00 ∷ []

-- {000, 011}, {011, 110} and the set of P2
abbrev pub left : Entry
left = entry_of 3 ((false ∷ false ∷ false ∷ []) ∷ (false ∷ true ∷ true ∷ []) ∷ [])

abbrev pub right : Entry
right = entry_of 3 ((false ∷ true ∷ true ∷ []) ∷ (true ∷ true ∷ false ∷ []) ∷ [])

abbrev pub three : Entry
three = entry_of 3 ((false ∷ false ∷ false ∷ []) ∷ (false ∷ true ∷ true ∷ []) ∷ (true ∷ true ∷ false ∷ []) ∷ [])

-- width 3, one key
abbrev pub one_of : Key → Entry
one_of k = entry_of 3 (k ∷ [])

-- width 3, all eight keys
abbrev pub eight : Entry
eight = record { width = 3; set = λ (k : Key). true }

-- ---- P1 to P10
pub record Examples : Type 0 where
  pub p1 : pack_call 3 [] (room 40) ≡ writing (wrote (36 ∷ [])) (P1 ++ room 4)
  pub p1_tells : open_call P1 ≡ saying (tells 3 0 0)
  pub p2_edges : edges_of three ≡ true ∷ true ∷ true ∷ true ∷ false ∷ true ∷ true ∷ false ∷ false ∷ true ∷ true ∷ false ∷ []
  pub p2_bytes : encode three ≡ P2
  pub p2 : pack_call 3 (0x00 ∷ 0x60 ∷ 0xC0 ∷ []) (room 50) ≡ writing (wrote (48 ∷ [])) (P2 ++ room 2)
  pub p2_tells : open_call P2 ≡ saying (tells 3 3 12)
  pub p3_rank : rank_call P2 10 ≡ saying (rank_is 7)
  pub p3_last : last_of (edge_offsets (edges_of three) 0 (false ∷ true ∷ true ∷ [])) ≡ 9
  pub p3_earlier : ones (edges_before 2 3 three.set) ≡ 5
  pub p3_index : edge_index 3 three.set (false ∷ true ∷ true ∷ []) ≡ 1
  pub p3 : index_of_call P2 (0x60 ∷ []) ≡ saying (index_is 1)
  pub p4_path : get_or (edge_offsets (edges_of three) 0 (true ∷ false ∷ true ∷ [])) 1 0 ≡ 4
  pub p4_clear : get_or (edges_of three) 4 true ≡ false
  pub p4 : contains_call P2 (0xA0 ∷ []) ≡ saying is_absent
  pub p4_index : index_of_call P2 (0xA0 ∷ []) ≡ saying is_absent
  pub p5 : pack_bits (edges_of (entry_of 1 ((false ∷ []) ∷ (true ∷ []) ∷ []))) ≡ 0xC0 ∷ []
  pub p5_tells : open_call (encode (entry_of 1 ((false ∷ []) ∷ (true ∷ []) ∷ []))) ≡ saying (tells 1 2 2)
  pub p5_one : pack_bits (edges_of (entry_of 1 ((true ∷ []) ∷ []))) ≡ 0x40 ∷ []
  pub p6 : union_call (encode left) (encode right) (room 50) ≡ writing (wrote (48 ∷ [])) (P2 ++ room 2)
  pub p7 : difference_call P2 P2 (room 37) ≡ writing (wrote (36 ∷ [])) (P1 ++ room 1)
  pub p8 : pack_call 3 (0x00 ∷ 0x00 ∷ 0x60 ∷ []) (room 47) ≡ writing (wrote (47 ∷ [])) (encode left)
  pub p8_descending : pack_call 3 (0x60 ∷ 0x00 ∷ []) (room 48) ≡ writing (refused 12) (room 48)
  pub p9_unused : contains_call P2 (0x61 ∷ []) ≡ saying (refused 8)
  pub p9 : key_at_call P2 2 (room 3) ≡ writing (wrote_key 1) (0xC0 ∷ room 2)
  pub p9_beyond : key_at_call P2 3 (room 3) ≡ writing (refused 9) (room 3)
  pub p10 : pack_bits (edges_of eight) ≡ 0xFF ∷ 0xFC ∷ []
  pub p10_bits : edge_count eight ≡ 14
  pub p10_tells : open_call (encode eight) ≡ saying (tells 3 8 14)

-- ---- Further: document 01's other examples, the other refusals, and a whole walk
abbrev pub cursor : State → List ℕ → Cursor
cursor s os = cursor_with s (padded os)

abbrev pub advanced : Answer → Bytes → State → List ℕ → Advanced
advanced a out s os = record { answer = a; buffer = out; cursor = cursor s os }

-- fields 1 to 3 of width 1, whose last level number is in these four bytes
abbrev pub up_to : Bytes → Bytes
up_to x = 0x01 ∷ 0x00 ∷ 0x02 ∷ 0x00 ∷ 0x01 ∷ 0x02 ∷ 0x00 ∷ 0x04 ∷ 0x00 ∷ 0x00 ∷ 0x00 ∷ 0x00 ∷ 0x03 ∷ 0x00 ∷ 0x04 ∷ x

pub record FurtherExamples : Type 0 where
  pub width_0 : pack_call 0 (1 ∷ []) (room 2) ≡ writing (refused 4) (room 2)
  pub width_257 : pack_call 257 (1 ∷ []) (room 2) ≡ writing (refused 4) (room 2)
  pub read_width_0 : open_call (0x01 ∷ 0x00 ∷ 0x02 ∷ 0x00 ∷ 0x00 ∷ []) ≡ saying (refused 4)
  pub read_width_257 : open_call (0x01 ∷ 0x00 ∷ 0x02 ∷ 0x01 ∷ 0x01 ∷ []) ≡ saying (refused 4)
  pub read_width_256 : open_call (0x01 ∷ 0x00 ∷ 0x02 ∷ 0x01 ∷ 0x00 ∷ []) ≡ saying (refused 1)
  pub room_47 : pack_call 3 (0x00 ∷ 0x60 ∷ 0xC0 ∷ []) (room 47) ≡ writing (refused 14) (room 47)
  pub room_48 : pack_call 3 (0x00 ∷ 0x60 ∷ 0xC0 ∷ []) (room 48) ≡ writing (wrote (48 ∷ [])) P2
  pub last_524281 : open_call (up_to (0x00 ∷ 0x07 ∷ 0xFF ∷ 0xF9 ∷ [])) ≡ saying (refused 5)
  pub last_524280 : open_call (up_to (0x00 ∷ 0x07 ∷ 0xFF ∷ 0xF8 ∷ 0x04 ∷ 0xFF ∷ 0xFE ∷ [])) ≡ saying (refused 3)
  pub second_block : block_ones (replicate 65537 true) 1 ≡ 65536
  pub second_block_starts : sub_block_ones (replicate 65537 true) 128 ≡ 0
  pub second_sub_block : sub_block_ones (replicate 513 true) 1 ≡ 512
  pub one_sub_block : started sub_block_bits 512 ≡ 1
  pub two_sub_blocks : started sub_block_bits 513 ≡ 2
  pub longest : end_of max_width max_edges ≡ max_bytes
  pub no_head : open_call [] ≡ saying (refused 1)
  pub short_body : open_call (0x01 ∷ 0x00 ∷ 0x02 ∷ 0x00 ∷ []) ≡ saying (refused 1)
  pub short_last : open_call (take 47 P2) ≡ saying (refused 1)
  pub out_of_turn : open_call (0x02 ∷ 0x00 ∷ 0x03 ∷ []) ≡ saying (refused 2)
  pub no_tag : open_call (0x07 ∷ 0x00 ∷ 0x02 ∷ []) ≡ saying (refused 2)
  pub other_length : open_call (0x01 ∷ 0x00 ∷ 0x03 ∷ []) ≡ saying (refused 3)
  pub behind : open_call (P2 ++ 0 ∷ []) ≡ saying (refused 6)
  pub left_over : open_call (take 31 P2 ++ 0x61 ∷ drop 32 P2) ≡ saying (refused 7)
  pub empty_record : open_call (take 31 P2 ++ 0x20 ∷ drop 32 P2) ≡ saying (refused 7)
  pub made_up_count : open_call (take 11 P2 ++ 0x04 ∷ drop 12 P2) ≡ saying (refused 7)
  pub two_bytes : index_of_call P2 (0 ∷ 0 ∷ []) ≡ saying (refused 8)
  pub rank_0 : rank_call P2 0 ≡ saying (rank_is 0)
  pub rank_12 : rank_call P2 12 ≡ saying (rank_is 8)
  pub rank_13 : rank_call P2 13 ≡ saying (refused 9)
  pub rank_empty : rank_call P1 0 ≡ saying (rank_is 0)
  pub prefix_none : prefix_call P2 0 [] ≡ saying (range_is 0 3)
  pub prefix_first : prefix_call P2 1 (0x00 ∷ []) ≡ saying (range_is 0 2)
  pub prefix_last : prefix_call P2 1 (0x80 ∷ []) ≡ saying (range_is 2 1)
  pub prefix_absent : prefix_call P2 2 (0x80 ∷ []) ≡ saying (range_is 2 0)
  pub prefix_key : prefix_call P2 3 (0x60 ∷ []) ≡ saying (range_is 1 1)
  pub prefix_empty : prefix_call P1 0 [] ≡ saying (range_is 0 0)
  pub prefix_4 : prefix_call P2 4 (0x60 ∷ []) ≡ saying (refused 9)
  pub prefix_long : prefix_call P2 0 (0x00 ∷ []) ≡ saying (refused 8)
  pub prefix_unused : prefix_call P2 2 (0x60 ∷ []) ≡ saying (refused 8)
  pub split_three : split_call (encode left) (encode right) (room 47) (room 48) (room 49)
      ≡ writing_all (wrote (47 ∷ 47 ∷ 47 ∷ [])) (encode (one_of (false ∷ true ∷ true ∷ [])) ∷ (encode (one_of (false ∷ false ∷ false ∷ [])) ++ room 1) ∷ (encode (one_of (true ∷ true ∷ false ∷ [])) ++ room 2) ∷ [])
  pub split_itself : split_call P2 P2 (room 48) (room 36) (room 36) ≡ writing_all (wrote (48 ∷ 36 ∷ 36 ∷ [])) (P2 ∷ P1 ∷ P1 ∷ [])
  pub split_short : split_call P2 P2 (room 48) (room 36) (room 35) ≡ writing_all (refused 14) (room 48 ∷ room 36 ∷ room 35 ∷ [])
  pub ragged : pack_call 9 (0 ∷ 0 ∷ 0 ∷ []) (room 1) ≡ writing (refused 10) (room 1)
  pub unused : pack_call 3 (0x60 ∷ 0x01 ∷ []) (room 1) ≡ writing (refused 11) (room 1)
  pub widths : union_call P2 (encode (entry_of 1 [])) (room 1) ≡ writing (refused 13) (room 1)
  pub no_room : key_at_call P2 2 [] ≡ writing (refused 14) []
  pub bound_at : lower_bound_call P2 (0x60 ∷ []) ≡ saying (index_is 1)
  pub bound_next : lower_bound_call P2 (0x80 ∷ []) ≡ saying (index_is 2)
  pub bound_none : lower_bound_call P2 (0xE0 ∷ []) ≡ saying is_none
  pub step_0 : advance_call P2 (cursor before (0 ∷ 0 ∷ 0 ∷ [])) (room 2) ≡ advanced (wrote_key 1) (0x00 ∷ room 1) at (0 ∷ 2 ∷ 6 ∷ [])
  pub step_1 : advance_call P2 (cursor at (0 ∷ 2 ∷ 6 ∷ [])) (room 2) ≡ advanced (wrote_key 1) (0x60 ∷ room 1) at (0 ∷ 3 ∷ 9 ∷ [])
  pub step_2 : advance_call P2 (cursor at (0 ∷ 3 ∷ 9 ∷ [])) (room 2) ≡ advanced (wrote_key 1) (0xC0 ∷ room 1) at (1 ∷ 5 ∷ 10 ∷ [])
  pub step_3 : advance_call P2 (cursor at (1 ∷ 5 ∷ 10 ∷ [])) [] ≡ advanced (wrote_key 0) [] after (0 ∷ 0 ∷ 0 ∷ [])
  pub step_4 : advance_call P2 (cursor after (0 ∷ 0 ∷ 0 ∷ [])) (room 2) ≡ advanced (wrote_key 0) (room 2) after (0 ∷ 0 ∷ 0 ∷ [])
  pub step_empty : advance_call P1 (cursor before (0 ∷ 0 ∷ 0 ∷ [])) (room 2) ≡ advanced (wrote_key 0) (room 2) after (0 ∷ 0 ∷ 0 ∷ [])
  pub step_short : advance_call P2 (cursor before (0 ∷ 0 ∷ 0 ∷ [])) [] ≡ advanced (refused 14) [] before (0 ∷ 0 ∷ 0 ∷ [])
  pub no_path : advance_call P2 (cursor at (0 ∷ 2 ∷ 7 ∷ [])) (room 2) ≡ advanced (refused 15) (room 2) at (0 ∷ 2 ∷ 7 ∷ [])
  pub unused_offset : advance_call P2 (cursor before (0 ∷ 0 ∷ 1 ∷ [])) (room 2) ≡ advanced (refused 15) (room 2) before (0 ∷ 0 ∷ 1 ∷ [])
  -- where two tests hold, the first gives its number
  pub nine_before_14 : key_at_call P2 3 [] ≡ writing (refused 9) []
  pub nine_before_8 : prefix_call P2 4 (0x61 ∷ 0x00 ∷ []) ≡ saying (refused 9)
  pub eleven_before_12 : pack_call 3 (0x60 ∷ 0x01 ∷ []) (room 48) ≡ writing (refused 11) (room 48)
  pub fifteen_before_14 : advance_call P2 (cursor at (0 ∷ 2 ∷ 7 ∷ [])) [] ≡ advanced (refused 15) [] at (0 ∷ 2 ∷ 7 ∷ [])

-- ---- The same of 5 and of 13, for all of which they hold, since no set with so many edges is small enough to compute
pub record Orders : Type 0 where
  pub five_before_14 : (m : ℕ) (batch out : Bytes) → first_of (pack_tests m batch) ≡ none → too_many_edges (edge_count (batch_entry m batch)) ≡ true
      → pack_call m batch out ≡ writing (refused 5) out
  pub five_before_14_joined : (e f : Entry) (out : Bytes) → Valid e → Valid f → eqb e.width f.width ≡ true → too_many_edges (edge_count (union_entry e f)) ≡ true
      → union_call (encode e) (encode f) out ≡ writing (refused 5) out
  pub thirteen_before_5_and_14 : (e f : Entry) (out : Bytes) → Valid e → Valid f → eqb e.width f.width ≡ false
      → (union_call (encode e) (encode f) out ≡ writing (refused 13) out) × (difference_call (encode e) (encode f) out ≡ writing (refused 13) out)
  pub thirteen_before_5_and_14_split : (e f : Entry) (x y z : Bytes) → Valid e → Valid f → eqb e.width f.width ≡ false
      → split_call (encode e) (encode f) x y z ≡ writing_all (refused 13) (x ∷ y ∷ z ∷ [])
