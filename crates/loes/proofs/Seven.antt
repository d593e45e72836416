-- What 7 means number by number: for bytes that pass every test before it.
use mathlib.Core.Path.{◌≡◌, refl, sym, ap, ap₂, ◌∙◌, subst}
use mathlib.Core.Logic.{◌↔◌}
use Prim.Native.Nat.{ℕ, zero, suc, ◌+◌, ◌-◌, ◌*◌, ◌/◌, ◌%◌, ◌≤◌, ◌<◌}
use mathlib.Core.Bool.{Bool, not}
use mathlib.Core.List.{List, [], ◌∷◌, ◌++◌, append_assoc, flatten}
use mathlib.Core.Option.{none}
use native.Mathlib.Omega.{arith}
use native.Mathlib.Numerals.{add-one}
use lib.ListN.{length, take, drop, get_or, length-append, length-drop, take-append-drop, drop_of_length-le}
use lib.Seq.{take_at, drop-drop, drop-cons, length-take-le}
use lib.Dec.{eqb, ltb}
use Rattle.loes.specs.Limits.{block_bits, sub_block_bits, head_bytes, width_bytes, count_bytes, level_entry, block_entry, sub_block_entry}
use Rattle.loes.specs.Bytes.{Bytes, started, big_endian, number_at}
use Rattle.loes.specs.Keys.{members}
use Rattle.loes.specs.Edges.{level, record_bits, edges_before, edges}
use Rattle.loes.specs.Entry.{Entry, keys_of, count, edges_of, edge_count, Valid}
use Rattle.loes.specs.Encode.{field, block_ones, sub_block_ones, level_end, width_body, count_body, level_body, edge_body, block_body, sub_block_body, encode}
use Rattle.loes.specs.Refusals.{first_of}
use Rattle.loes.specs.Read.{level_bytes, edge_bytes, block_bytes, sub_block_bytes, body_at, start2, start3, start4, start5, start6, end_of, width_in, level_at, block_at, sub_block_at, edge_count_in, entry_along, entry_in, field_tests}
use Rattle.loes.proofs.Tests.{yes_eq, not_false, none_test}
use Rattle.loes.proofs.Numbers.{AllBytes, number_at_lem, numbers_at, number_is, numbers_are}
use Rattle.loes.proofs.Lists.{ones_le, rank_le}
use Rattle.loes.proofs.Navigation.{edges_from}
use Rattle.loes.proofs.Corollaries.{ones_last}
use Rattle.loes.proofs.Reading.{body_at_lem, FieldsLaid, laid, length_edges, bits_read, field_fits, Passed, valid_passed}

-- ---- The numbers of an entry fit their bytes
pub count_le : (e : Entry) → 0 < e.width → count e ≤ edge_count e
unfolding count keys_of edge_count edges_of edges
count_le e p = go e.width p
  where
    go : (m : ℕ) → 0 < m → length (members m e.set) ≤ length (edges_before m m e.set)
    go zero h = absurd (omega arith)
    go (suc m) h =
        unfold edges_before in
        omega (arith, ones_last m e.set, ones_le (record_bits (level m (suc m) e.set)), length-append (edges_before m (suc m) e.set) (record_bits (level m (suc m) e.set)))

sub_block_small : (l : List Bool) (j : ℕ) → sub_block_ones l j < 65536
unfolding sub_block_ones
sub_block_small l j = omega (arith, (rank_le (drop (65536 * (j / 128)) l) (512 * (j % 128))).0)

pub level_le : (e : Entry) (d : ℕ) → d < e.width → level_end e d ≤ edge_count e
unfolding level_end edge_count edges_of edges
level_le e d h =
    let r = edges_from (suc d) e.width e.width e.set h in
    rw r.1 (omega (arith, length-append (edges_before (suc d) e.width e.set) r.0))

-- ---- The numbers in bytes are those of an entry
pub record Agrees (l : Bytes) (e : Entry) : Type 0 where
  pub bits : edge_count_in l ≡ edge_count e
  pub count : number_at count_bytes l (body_at start2) ≡ count e
  pub levels : (d : ℕ) → d < e.width → level_at l d ≡ level_end e d
  pub edges : take (edge_bytes (edge_count e)) (drop (body_at (start4 e.width)) l) ≡ edge_body e
  pub blocks : (j : ℕ) → j < started block_bits (edge_count e)
      → block_at l (body_at (start5 e.width (edge_count e))) j ≡ block_ones (edges_of e) j
  pub sub_blocks : (j : ℕ) → j < started sub_block_bits (edge_count e)
      → sub_block_at l (body_at (start6 e.width (edge_count e))) j ≡ sub_block_ones (edges_of e) j

pub encode_agrees : (e : Entry) → Valid e → Agrees (encode e) e
unfolding count_body level_body block_body sub_block_body
encode_agrees e v =
    let l : Bytes = encode e in
    let p : FieldsLaid l e = laid e in
    let m : ℕ = e.width in
    let b : ℕ = edge_count e in
    let small : edge_count e ≤ 524280 = v.few in
    record {
      bits = bits_read e v;
      count = number_at_lem count_bytes (count e) l _ (body_at start2) (omega (arith, count_le e v.positive)) (body_at_lem 2 (count_body e) l start2 p.field2);
      levels = λ d h. numbers_at level_entry (level_end e) m d l _ (body_at start3) h (omega (arith, level_le e d h)) (body_at_lem 3 (level_body e) l start3 p.field3);
      edges = rw (body_at_lem 4 (edge_body e) l (start4 m) p.field4) (take_at (edge_body e) _ (edge_bytes b) (length_edges e));
      blocks = λ j h.
          numbers_at block_entry (block_ones (edges_of e)) (started block_bits b) j l _ (body_at (start5 m b)) h
          (unfold block_ones edge_count in omega (arith, (rank_le (edges_of e) (65536 * j)).1, v.few)) (body_at_lem 5 (block_body e) l (start5 m b) p.field5);
      sub_blocks = λ j h.
          numbers_at sub_block_entry (sub_block_ones (edges_of e)) (started sub_block_bits b) j l _ (body_at (start6 m b)) h
          (omega (arith, sub_block_small (edges_of e) j)) (body_at_lem 6 (sub_block_body e) l (start6 m b) p.field6);
    }

-- ---- Bytes whose numbers agree are the encoding
pub field_front : (t n : ℕ) (l : Bytes) (at : ℕ) → AllBytes l → first_of (field_tests t n l at) ≡ none
    → drop at l ≡ field t (take n (drop (body_at at) l)) ++ drop (body_at at + n) l
unfolding field field_tests
field_front t n l at h z =
    let r2 = none_test (not (eqb (get_or l at 0) t)) _ _ (none_test (ltb (length l - at) head_bytes) _ _ z).1 in
    let r3 = none_test (not (eqb (number_at 2 l (at + 1)) n)) _ _ r2.1 in
    let a : get_or l at 0 ≡ t = yes_eq (get_or l at 0) t (not_false (eqb (get_or l at 0) t) r2.0) in
    let c : number_at 2 l (at + 1) ≡ n = yes_eq (number_at 2 l (at + 1)) n (not_false (eqb (number_at 2 l (at + 1)) n) r3.0) in
    let f : body_at at + n ≤ length l = field_fits t n l at z in
    let body : Bytes = take n (drop (body_at at) l) in
    let x : Bytes = drop (body_at at + n) l in
    let lb : length (take n (drop (body_at at) l)) ≡ n = length-take-le n (drop (body_at at) l) (omega (arith, length-drop (body_at at) l)) in
    let s : at + 1 + 2 ≡ body_at at = omega arith in
    let i : at < length l = omega arith in
    let d0 : drop at l ≡ t ∷ drop (at + 1) l = drop-cons l at 0 i ∙ rw (a, add-one) in
    let d1 : drop (at + 1) l ≡ big_endian 2 n ++ drop (body_at at) l =
    sym (take-append-drop 2 (drop (at + 1) l))
    ∙ ap₂ ◌++◌ (number_is 2 l (at + 1) (omega arith) h ∙ ap (big_endian 2) c) (drop-drop 2 (at + 1) l ∙ ap (λ j. drop j l) s) in
    let d2 : drop (body_at at) l ≡ body ++ x = sym (take-append-drop n (drop (body_at at) l)) ∙ ap (λ y. body ++ y) (drop-drop n (body_at at) l) in
    let e : t ∷ (big_endian 2 n ++ (body ++ x)) ≡ t ∷ ((big_endian 2 (length body) ++ body) ++ x) = rw lb (ap (λ y. t ∷ y) (sym (append_assoc (big_endian 2 n) body x))) in
    d0 ∙ ap (λ y. t ∷ y) (d1 ∙ ap (λ y. big_endian 2 n ++ y) d2) ∙ e

pub agrees_encode : (l : Bytes) → AllBytes l → Passed l → Agrees l (entry_in l) → l ≡ encode (entry_in l)
unfolding encode flatten start4 start5 start6 end_of count_body level_body block_body sub_block_body
agrees_encode l h p g =
    let e : Entry = entry_in l in
    let m : ℕ = (entry_in l).width in
    let b : ℕ = edge_count (entry_in l) in
    let w : width_in l ≡ (entry_in l).width = unfold entry_in entry_along in refl in
    let z3 : m * level_entry ≡ level_bytes m = omega arith in
    let z5 : started block_bits b * block_entry ≡ block_bytes b = omega arith in
    let z6 : started sub_block_bits b * sub_block_entry ≡ sub_block_bytes b = omega arith in
    let t3 = rw w at p.field3 in
    let t4 = rw (w, g.bits) at p.field4 in
    let t5 = rw (w, g.bits) at p.field5 in
    let t6 = rw (w, g.bits) at p.field6 in
    let r5 : body_at (start5 m b) + started block_bits b * block_entry ≤ length l = rw z5 (field_fits 5 (block_bytes b) l (start5 m b) t5) in
    let r6 : body_at (start6 m b) + started sub_block_bits b * sub_block_entry ≤ length l = rw z6 (field_fits 6 (sub_block_bytes b) l (start6 m b) t6) in
    let b1 : take width_bytes (drop (body_at 0) l) ≡ width_body e = number_is width_bytes l (body_at 0) (field_fits 1 width_bytes l 0 p.field1) h ∙ unfold width_body entry_in entry_along width_in in refl in
    let b2 : take count_bytes (drop (body_at start2) l) ≡ count_body e = number_is count_bytes l (body_at start2) (field_fits 2 count_bytes l start2 p.field2) h ∙ ap (big_endian count_bytes) g.count in
    let b3 : take (level_bytes m) (drop (body_at start3) l) ≡ level_body e =
    rw z3 at (numbers_are level_entry m (level_end e) l (body_at start3) (rw z3 (field_fits 3 (level_bytes m) l start3 t3)) h g.levels) in
    let b5 : take (block_bytes b) (drop (body_at (start5 m b)) l) ≡ block_body e =
    rw z5 at (numbers_are block_entry (started block_bits b) (block_ones (edges_of e)) l (body_at (start5 m b)) r5 h g.blocks) in
    let b6 : take (sub_block_bytes b) (drop (body_at (start6 m b)) l) ≡ sub_block_body e =
    rw z6 at (numbers_are sub_block_entry (started sub_block_bits b) (sub_block_ones (edges_of e)) l (body_at (start6 m b)) r6 h g.sub_blocks) in
    let rest : drop (end_of m b) l ≡ [] = drop_of_length-le l {i = end_of m b} (omega (arith, rw (w, g.bits) at p.ends)) in
    field_front 1 width_bytes l 0 h p.field1 ∙ ap₂ (λ x y. field 1 x ++ y) b1
    (field_front 2 count_bytes l start2 h p.field2 ∙ ap₂ (λ x y. field 2 x ++ y) b2
    (field_front 3 (level_bytes m) l start3 h t3 ∙ ap₂ (λ x y. field 3 x ++ y) b3
    (field_front 4 (edge_bytes b) l (start4 m) h t4 ∙ ap₂ (λ x y. field 4 x ++ y) g.edges
    (field_front 5 (block_bytes b) l (start5 m b) h t5 ∙ ap₂ (λ x y. field 5 x ++ y) b5
    (field_front 6 (sub_block_bytes b) l (start6 m b) h t6 ∙ ap₂ (λ x y. field 6 x ++ y) b6 rest)))))

-- the check of 7, both ways
pub seven : (l : Bytes) → AllBytes l → Passed l → (l ≡ encode (entry_in l)) ↔ Agrees l (entry_in l)
seven l h p = (
  λ e. subst (λ x. Agrees x (entry_in l)) (sym e) (encode_agrees (entry_in l) (valid_passed l p e)),
  λ g. agrees_encode l h p g,
)
