-- An encoding is bytes, and not many, so that what a history stores can be lent.
use Prim.Native.Nat.{ℕ, zero, suc, ◌+◌, ◌*◌, ◌/◌, ◌%◌, ◌≤◌, ◌<◌}
use mathlib.Core.Bool.{Bool, false}
use mathlib.Core.List.{List, [], ◌∷◌, ◌++◌, flatten}
use native.Mathlib.Omega.{arith}
use lib.ListN.{length, get_or}
use Rattle.loes.specs.Limits.{max_width, max_edges, width_bytes, count_bytes, level_entry, block_entry, sub_block_entry, max_bytes, block_bits, sub_block_bits}
use Rattle.loes.specs.Bytes.{Bytes, tabulate, started, big_endian, big_endians, byte_of, pack_bits}
use Rattle.loes.specs.Entry.{Entry, count, edges_of, edge_count, Valid}
use Rattle.loes.specs.Encode.{field, block_ones, sub_block_ones, level_end, width_body, count_body, level_body, edge_body, block_body, sub_block_body, encode}
use Rattle.loes.specs.Read.{start4, start5, start6, end_of}
use Rattle.loes.specs.History.{Call, store_after, model_after}
use Rattle.loes.specs.Demands.{no_entry}
use Rattle.loes.proofs.Bits.{bits_value_lt}
use Rattle.loes.proofs.Numbers.{AllBytes}
use Rattle.loes.proofs.Reading.{encode_length}
use Rattle.loes.proofs.Histories.{entry_valid, encodings_agree}

bytes_append : (a b : Bytes) → AllBytes a → AllBytes b → AllBytes (a ++ b)
bytes_append [] b h g = g
bytes_append (x ∷ a) b h g = (h.0, bytes_append a b h.1 g)

bytes_number : (w n : ℕ) → AllBytes (big_endian w n)
unfolding big_endian
bytes_number zero n = tt
bytes_number (suc w) n = bytes_append (big_endian w (n / 256)) (n % 256 ∷ []) (bytes_number w (n / 256)) (omega arith, tt)

bytes_numbers : (w : ℕ) (f : ℕ → ℕ) (n : ℕ) → AllBytes (big_endians w f n)
unfolding big_endians
bytes_numbers w f zero = tt
bytes_numbers w f (suc n) = bytes_append (big_endians w f n) (big_endian w (f n)) (bytes_numbers w f n) (bytes_number w (f n))

bytes_tabulate : (f : ℕ → ℕ) (n : ℕ) → ((i : ℕ) → f i < 256) → AllBytes (tabulate f n)
unfolding tabulate
bytes_tabulate f zero h = tt
bytes_tabulate f (suc n) h = bytes_append (tabulate f n) (f n ∷ []) (bytes_tabulate f n h) (h n, tt)

pub bytes_packed : (e : List Bool) → AllBytes (pack_bits e)
unfolding pack_bits byte_of
bytes_packed e = bytes_tabulate (byte_of e) (started 8 (length e)) (λ i. bits_value_lt (λ j. get_or e (8 * i + j) false))

bytes_field : (t : ℕ) (x : Bytes) → t < 256 → AllBytes x → AllBytes (field t x)
unfolding field
bytes_field t x h g = (h, bytes_append (big_endian 2 (length x)) x (bytes_number 2 (length x)) g)

pub encode_bytes : (e : Entry) → AllBytes (encode e)
unfolding encode flatten width_body count_body level_body edge_body block_body sub_block_body
encode_bytes e =
    bytes_append (field 1 (width_body e)) _ (bytes_field 1 (width_body e) (omega arith) (bytes_number width_bytes e.width))
    (bytes_append (field 2 (count_body e)) _ (bytes_field 2 (count_body e) (omega arith) (bytes_number count_bytes (count e)))
    (bytes_append (field 3 (level_body e)) _ (bytes_field 3 (level_body e) (omega arith) (bytes_numbers level_entry (level_end e) e.width))
    (bytes_append (field 4 (edge_body e)) _ (bytes_field 4 (edge_body e) (omega arith) (bytes_packed (edges_of e)))
    (bytes_append (field 5 (block_body e)) _ (bytes_field 5 (block_body e) (omega arith) (bytes_numbers block_entry (block_ones (edges_of e)) (started block_bits (edge_count e))))
    (bytes_append (field 6 (sub_block_body e)) [] (bytes_field 6 (sub_block_body e) (omega arith) (bytes_numbers sub_block_entry (sub_block_ones (edges_of e)) (started sub_block_bits (edge_count e)))) tt)))))

pub end_most : (m b : ℕ) → m ≤ max_width → b ≤ max_edges → end_of m b ≤ max_bytes
unfolding end_of start6 start5 start4 started
end_most m b h g = omega arith

-- the longest encoding
pub encode_most : (e : Entry) → Valid e → length (encode e) ≤ max_bytes
encode_most e v = rw (encode_length e) (end_most e.width (edge_count e) v.narrow v.few)

-- whatever the calls of a history are given, each encoding that it stores is at most 68,695 bytes
pub store_lent : (h : List Call) (i : ℕ) → i < length (store_after h)
    → AllBytes (get_or (store_after h) i []) × (length (get_or (store_after h) i []) ≤ max_bytes)
store_lent h i l =
    rw (encodings_agree h i l) (encode_bytes (get_or (model_after h) i no_entry), encode_most (get_or (model_after h) i no_entry) (entry_valid h i l))
