use Rattle.std.proofs.Common.{◌≡◌, ℕ, suc, ◌+◌, ◌-◌, ◌*◌, ◌≤◌, ◌∷◌, ◌++◌, length, drop, take, ap, ◌∙◌, arith}
use borrow.Rule.Slice.PartMut.{put_mid}
use Rattle.loes.specs.Limits.{block_bits, sub_block_bits, block_entry, sub_block_entry}
use Rattle.loes.specs.Bytes.{Bytes, started, big_endian, big_endians, bits_in, front}
use Rattle.loes.specs.Encode.{field, block_ones, sub_block_ones}
use Rattle.loes.specs.Read.{edge_bytes}
use Rattle.loes.proofs.Bytes.{length_big_endian, length_big_endians, field_length}
use Rattle.build.specs.Writing.{indexed}
use Rattle.build.proofs.Front.{behind, field_is, three_parts}
use Rattle.build.proofs.put_index.Goals as goal

-- a head of n bytes, and a body of so many behind it, are a field
head_and_body : (t n : ℕ) (x xs zs ys : Bytes) → length x ≡ n → 3 + n ≤ length xs → zs ≡ front (t ∷ big_endian 2 n) xs → ys ≡ front x (take (length zs - 3) (drop 3 zs))
    → put_mid 3 (length zs - 3) zs ys ≡ front (field t x) xs
head_and_body t n x xs zs ys size room head body =
    let three : length (t ∷ big_endian 2 n) ≡ 3 = ap suc (length_big_endian 2 n) in
    behind (t ∷ big_endian 2 n) x xs zs ys 3 three head (omega (arith, three)) body ∙ ap (λ y. front y xs) (field_is t x n size)

pub returns : goal.returns
unfolding indexed
returns c =
    let b = c.args.b in
    let xs = c.args.out.now in
    let a = c.split_at_mut-edges.result.0.now in
    let x = c.split_at_mut-field5.result.0.now in
    let y = c.split_at_mut-field5.result.1.now in
    let g : Bytes = big_endians block_entry (block_ones (bits_in a b)) (started block_bits b) in
    let h : Bytes = big_endians sub_block_entry (sub_block_ones (bits_in a b)) (started sub_block_bits b) in
    let parts : xs ≡ a ++ (x ++ y) = c.split_at_mut-edges.ensures.value ∙ ap (λ z. a ++ z) c.split_at_mut-field5.ensures.value in
    let edges : a ≡ take (edge_bytes b) xs = c.split_at_mut-edges.ensures.front ∙ ap (λ n. take n xs) c.bytes_for.ensures.0 in
    let n : ℕ = block_entry * c.started_by-blocks.result in
    let m : ℕ = sub_block_entry * c.started_by-sub_blocks.result in
    let long : length g ≡ n = omega (arith, length_big_endians block_entry (block_ones (bits_in a b)) (started block_bits b)) in
    let short : length h ≡ m = omega (arith, length_big_endians sub_block_entry (sub_block_ones (bits_in a b)) (started sub_block_bits b)) in
    let room : 3 + m ≤ length y = omega (arith, c.split_at_mut-edges.ensures.back_len, c.split_at_mut-field5.ensures.back_len) in
    let five = head_and_body 5 n g x c.put_head.new.out c.put_counts.new.blocks long (omega (arith, c.split_at_mut-field5.ensures.front_len)) c.put_head.ensures c.put_counts.ensures.of_blocks in
    let six = head_and_body 6 m h y c.put_head-2.new.out c.put_counts.new.sub_blocks short room c.put_head-2.ensures c.put_counts.ensures.of_sub_blocks in
    let size : length (field 5 g) ≡ length x = omega (arith, field_length 5 g, c.split_at_mut-field5.ensures.front_len) in
    let z = put_mid 3 (length c.put_head.new.out - 3) c.put_head.new.out c.put_counts.new.blocks in
    let w = put_mid 3 (length c.put_head-2.new.out - 3) c.put_head-2.new.out c.put_counts.new.sub_blocks in
    three_parts a x y (field 5 g) (field 6 h) xs z w parts size five six ∙ ap (λ l. front (indexed b l) xs) edges
