-- What the code tests is what 7 asks.
use mathlib.Core.Path.{◌≡◌, refl, sym, ap, ap₂, ◌∙◌, subst}
use mathlib.Core.Logic.{◌↔◌}
use Prim.Native.Nat.{ℕ, suc, ◌+◌, ◌-◌, ◌*◌, ◌/◌, ◌%◌, ◌^◌, ◌≤◌, ◌<◌}
use mathlib.Core.Bool.{Bool, true, false, ◌&&◌, ◌||◌, false≢true}
use mathlib.Core.List.{List, [], ◌∷◌}
use native.Mathlib.Omega.{arith}
use lib.ListN.{length, take, drop, get_or, length-drop}
use lib.Dec.{eqb}
use Rattle.loes.specs.Limits.{block_bits, sub_block_bits, count_bytes}
use Rattle.loes.specs.Bytes.{Bytes, started, number_at, bits_in, pack_bits, same_numbers}
use Rattle.loes.specs.Keys.{KeySet}
use Rattle.loes.specs.Edges.{ones, edges}
use Rattle.loes.specs.Prefixes.{prefix_count, records_before, roots, ends}
use Rattle.loes.specs.Entry.{Entry, keys_of, count, edges_of, edge_count}
use Rattle.loes.specs.Encode.{block_ones, sub_block_ones, level_end, edge_body, encode}
use Rattle.loes.specs.Read.{body_at, start2, start4, width_in, level_at, block_at, sub_block_at, edge_count_in, edges_in, entry_along, entry_in}
use Rattle.loes.proofs.Tests.{eq_yes, yes_eq, both, same_self, same_is}
use Rattle.loes.proofs.Tree.{length_members}
use Rattle.loes.proofs.Navigation.{ones_edges_before, length_edges_before}
use Rattle.loes.proofs.Forest.{NoEmpty}
use Rattle.loes.proofs.WellFormed.{records_in}
use Rattle.loes.proofs.Ends.{ends_set, roots_set, full_set, follows_itself}
use Rattle.loes.proofs.Bytes.{length_packed}
use Rattle.loes.proofs.Bits.{bits_packed, length_bits_in}
use Rattle.loes.proofs.Numbers.{AllBytes, bytes_drop}
use Rattle.loes.proofs.Reading.{bits_cut, Passed, passed, valid_passed}
use Rattle.loes.proofs.Seven.{Agrees, encode_agrees, seven}
use Rattle.bits.specs.Tables.{none_empty}
use Rattle.bits.proofs.Counts.{ones_more}
use Rattle.bits.proofs.Records.{full_more}
use Rattle.bits.proofs.Packed.{packs, packs_clear}
use Rattle.encoding.specs.declared.Encoding.{Encoding}
use Rattle.encoding.specs.Opened.{Placed, edges_at, FieldsFit, Counted, Opens}
use Rattle.encoding.specs.Fields.{Fields}
use Rattle.encoding.specs.Agree.{WholeRight, last_edges, LastRight, Levelled}
use Rattle.encoding.proofs.Opened.{placed_room, started_lt, counted_by}
use Rattle.encoding.proofs.Fields.{head_facts, reads_entry}

pub bytes_all : (l : Bytes) → ((i : ℕ) → get_or l i 0 < 256) → AllBytes l
bytes_all [] h = tt
bytes_all (x ∷ l) h = (h 0, bytes_all l (λ i. h (suc i)))

-- ---- Records of a bit sequence
none_yes : (e : List Bool) → none_empty e ≡ true → NoEmpty (records_in e)
unfolding none_empty records_in
none_yes [] h = tt
none_yes (a ∷ []) h = tt
none_yes (a ∷ b ∷ e) h = let r = both (a || b) (none_empty e) h in (r.0, none_yes e r.1)

yes_none : (e : List Bool) → NoEmpty (records_in e) → none_empty e ≡ true
unfolding none_empty records_in
yes_none [] h = refl
yes_none (a ∷ []) h = refl
yes_none (a ∷ b ∷ e) h = ap₂ ◌&&◌ h.0 (yes_none e h.1)

-- ---- The numbers of an entry, from its edges
-- each set bit above the last level makes a record, the others are the members'
entry_count : (e : Entry) → 0 < e.width → count e + edge_count e / 2 ≡ roots (edge_count e) + ones (edges_of e)
unfolding count keys_of edge_count edges_of edges records_before
entry_count e p =
    let m : ℕ = e.width in
    let s : KeySet = e.set in
    let r : prefix_count 0 m s ≡ roots (length (edges m s)) = roots_set m s p in
    omega (arith, length_members m s, ones_edges_before m m s (omega arith), length_edges_before m m s (omega arith), r)

entry_level : (e : Entry) → 0 < e.width → (d : ℕ) → d < e.width → level_end e d ≡ ends (roots (edge_count e)) (edges_of e) (suc d)
unfolding level_end edge_count edges_of
entry_level e p d h = ends_set (suc d) e.width e.set h ∙ ap (λ c. ends c (edges e.width e.set) (suc d)) (roots_set e.width e.set p)

started_room : (n k : ℕ) → k ≡ started 8 n → n ≤ 8 * k
unfolding started
started_room n k h = omega arith

-- ---- What the code tests
pub record Right (l : Bytes) (e : Encoding) : Type 0 where
  pub counted : Counted l e
  pub full : none_empty (edges_at l e) ≡ true
  pub clear : 0 < e.bits % 8 → get_or (drop e.edges l) (e.bits / 8) 0 % 2 ^ (8 - e.bits % 8) ≡ 0
  pub levels : Levelled l e
  pub count : e.count + e.bits / 2 ≡ roots e.bits + ones (edges_at l e)

module _ (l : Bytes) (e : Encoding) (f : Fields l e) where
  fields_passed : Passed l
  fields_passed = passed l f.head f.tail

  pub fields_room : FieldsFit l e
  fields_room =
      let h = head_facts l f.head in
      placed_room l (width_in l) _ (edge_count_in l) e h.1 h.2 f.placed fields_passed.ends

  positive : 0 < width_in l
  positive = (head_facts l f.head).0

  wide : 0 < (entry_in l).width
  unfolding entry_in entry_along
  wide = positive

  at_edges : edges_at l e ≡ edges_in l
  unfolding edges_at edges_in
  at_edges = rw (f.placed.edges, f.placed.bits)

  length_edges : length (edges_in l) ≡ edge_count_in l
  unfolding edges_in
  length_edges = length_bits_in _ (edge_count_in l)

  levels_in : Levelled l e → (d : ℕ) → d < width_in l → level_at l d ≡ ends (roots (edge_count_in l)) (edges_in l) (suc d)
  levels_in r d h = r d (rw f.placed.width h) ∙ ap₂ (λ b x. ends (roots b) x (suc d)) f.placed.bits at_edges

  -- where the code finds nothing wrong the edges are those of the entry
  right_edges : Right l e → edges_of (entry_in l) ≡ edges_in l
  unfolding edges_of entry_in entry_along edge_count_in
  right_edges r =
      let z : suc (width_in l - 1) ≡ width_in l = omega (arith, positive) in
      let n : NoEmpty (records_in (edges_in l)) = none_yes (edges_in l) (rw at_edges at r.full) in
      follows_itself (width_in l) (edges_in l) positive n
      (rw length_edges (ap (ends (roots (edge_count_in l)) (edges_in l)) (sym z) ∙ sym (levels_in r.levels (width_in l - 1) (omega (arith, positive)))))

  -- and so they are where the numbers agree
  agree_edges : Agrees l (entry_in l) → edges_of (entry_in l) ≡ edges_in l
  unfolding edges_in edge_body edge_count entry_in entry_along
  agree_edges g =
      let x : List Bool = edges_of (entry_in l) in
      let y : Bytes = drop (body_at (start4 (width_in l))) l in
      let k : ℕ = started 8 (length x) in
      let t : take k y ≡ pack_bits x = g.edges in
      let n : length (take k y) ≡ k = ap length t ∙ length_packed x in
      sym (
      ap (bits_in y) g.bits
      ∙ sym (bits_cut y k (length x) (started_room (length x) _ n))
      ∙ ap (λ z. bits_in z (length x)) t
      ∙ bits_packed x
      )

  module _ (q : edges_of (entry_in l) ≡ edges_in l) where
    bits_are : edge_count (entry_in l) ≡ edge_count_in l
    unfolding edge_count
    bits_are = ap length q ∙ length_edges

    count_is : count (entry_in l) + e.bits / 2 ≡ roots e.bits + ones (edges_at l e)
    count_is =
        let n : count (entry_in l) + edge_count (entry_in l) / 2 ≡ roots (edge_count (entry_in l)) + ones (edges_of (entry_in l)) = entry_count (entry_in l) wide in
        let b : edge_count (entry_in l) ≡ e.bits = bits_are ∙ sym f.placed.bits in
        omega (arith, n, b, ap roots b, ap ones (q ∙ sym at_edges))

    level_is : (d : ℕ) → d < width_in l → level_end (entry_in l) d ≡ ends (roots (edge_count_in l)) (edges_in l) (suc d)
    level_is d h =
        entry_level (entry_in l) wide d (unfold entry_in entry_along in h) ∙ ap₂ (λ b x. ends (roots b) x (suc d)) bits_are q

    placed : Placed (entry_in l).width (number_at count_bytes l (body_at start2)) (edge_count (entry_in l)) e
    unfolding entry_in entry_along
    placed = rw bits_are f.placed

    edges_at_lem : edges_at l e ≡ edges_of (entry_in l)
    edges_at_lem = at_edges ∙ sym q

    -- the edge bytes are what the edges pack to
    packed_edges : pack_bits (edges_at l e) ≡ take (started 8 e.bits) (drop e.edges l)
        → take (started 8 (edge_count (entry_in l))) (drop (body_at (start4 (entry_in l).width)) l) ≡ edge_body (entry_in l)
    unfolding edge_body
    packed_edges k = rw (← placed.bits, ← placed.edges, ← edges_at_lem) (sym k)

    edges_packed : take (started 8 (edge_count (entry_in l))) (drop (body_at (start4 (entry_in l).width)) l) ≡ edge_body (entry_in l)
        → pack_bits (edges_at l e) ≡ take (started 8 e.bits) (drop e.edges l)
    unfolding edge_body
    edges_packed k = rw (edges_at_lem, placed.bits, placed.edges) (sym k)

    full_is : none_empty (edges_at l e) ≡ true
    unfolding edges_of
    full_is = rw edges_at_lem (yes_none (edges_of (entry_in l)) (full_set (entry_in l).width (entry_in l).set))

  bytes_room : started 8 e.bits ≤ length (drop e.edges l)
  bytes_room = omega (arith, length-drop e.edges l, fields_room.edges)

  right_agrees : AllBytes l → Right l e → Agrees l (entry_in l)
  unfolding edges_at entry_in entry_along
  right_agrees ok r =
      let q : edges_of (entry_in l) ≡ edges_in l = right_edges r in
      let p = placed q in
      record {
        bits = sym (bits_are q);
        count = omega (arith, r.count, count_is q, f.placed.count);
        levels = λ d h. levels_in r.levels d h ∙ sym (level_is q d h);
        edges = packed_edges q (packs (drop e.edges l) e.bits (bytes_drop e.edges l ok) bytes_room r.clear);
        blocks = λ j h.
            ap (λ i. block_at l i j) (sym p.blocks) ∙ r.counted.blocks j (rw p.bits (started_lt block_bits (edge_count (entry_in l)) j (omega arith) h))
            ∙ ap (λ z. block_ones z j) (edges_at_lem q);
        sub_blocks = λ j h.
            ap (λ i. sub_block_at l i j) (sym p.sub_blocks) ∙ r.counted.sub_blocks j (rw p.bits (started_lt sub_block_bits (edge_count (entry_in l)) j (omega arith) h))
            ∙ ap (λ z. sub_block_ones z j) (edges_at_lem q);
      }

  agrees_right : AllBytes l → Agrees l (entry_in l) → Right l e
  unfolding edges_at entry_in entry_along
  agrees_right ok g =
      let q : edges_of (entry_in l) ≡ edges_in l = agree_edges g in
      record {
        counted = counted_by l (entry_in l) _ e (placed q) (edges_at_lem q) g;
        full = full_is q;
        clear = packs_clear (drop e.edges l) e.bits (bytes_drop e.edges l ok) bytes_room (edges_packed q g.edges);
        levels = λ d h.
            let w : d < width_in l = rw f.placed.width at h in
            g.levels d w ∙ level_is q d w ∙ sym (ap₂ (λ b z. ends (roots b) z (suc d)) f.placed.bits at_edges);
        count = omega (arith, g.count, count_is q, f.placed.count);
      }

  -- from the parts that the code tests
  full_parts : none_empty (edges_at l e) ≡ (none_empty (bits_in (drop e.edges l) (8 * (e.bits / 8))) && none_empty (bits_in (last_edges l e) (e.bits % 8)))
  unfolding edges_at last_edges
  full_parts =
      let z : e.bits ≡ 8 * (e.bits / 8) + e.bits % 8 = omega arith in
      ap (λ n. none_empty (bits_in (drop e.edges l) n)) z ∙ full_more (drop e.edges l) (e.bits / 8) (e.bits % 8)

  ones_parts : ones (edges_at l e) ≡ ones (bits_in (drop e.edges l) (8 * (e.bits / 8))) + ones (bits_in (last_edges l e) (e.bits % 8))
  unfolding edges_at last_edges
  ones_parts =
      let z : e.bits ≡ 8 * (e.bits / 8) + e.bits % 8 = omega arith in
      ap (λ n. ones (bits_in (drop e.edges l) n)) z ∙ ones_more (drop e.edges l) (e.bits / 8) (e.bits % 8)

  pub whole_of : Right l e → WholeRight l e
  whole_of r = (r.counted, (both _ _ (sym full_parts ∙ r.full)).0)

  pub last_of : Right l e → LastRight l e
  last_of r = (r.clear, (both (none_empty (bits_in (drop e.edges l) (8 * (e.bits / 8)))) _ (sym full_parts ∙ r.full)).1)

  -- the code's sum
  pub count_of : (n k : ℕ) → n ≡ ones (bits_in (drop e.edges l) (8 * (e.bits / 8))) → k ≡ ones (bits_in (last_edges l e) (e.bits % 8))
      → (e.count + e.bits / 2 ≡ roots e.bits + n + k) ↔ (e.count + e.bits / 2 ≡ roots e.bits + ones (edges_at l e))
  count_of n k a b = (λ z. omega (arith, z, a, b, ones_parts), λ z. omega (arith, z, a, b, ones_parts))

  pub right_of : WholeRight l e → LastRight l e → Levelled l e → e.count + e.bits / 2 ≡ roots e.bits + ones (edges_at l e) → Right l e
  right_of w t v c = record { counted = w.0; full = full_parts ∙ ap₂ ◌&&◌ w.1 t.1; clear = t.0; levels = v; count = c }

  -- the code's answer
  pub right_same : AllBytes l → Right l e → true ≡ same_numbers l (encode (entry_in l))
  right_same ok r = sym (ap (same_numbers l) (sym ((seven l ok fields_passed).1 (right_agrees ok r))) ∙ same_self l)

  pub wrong_same : AllBytes l → (Right l e → ⊥) → false ≡ same_numbers l (encode (entry_in l))
  wrong_same ok h = go (same_numbers l (encode (entry_in l))) refl
    where
      go : (b : Bool) → same_numbers l (encode (entry_in l)) ≡ b → false ≡ b
      go true z = absurd (h (agrees_right ok ((seven l ok fields_passed).0 (same_is l (encode (entry_in l)) z))))
      go false z = refl

  -- by two numbers that are equal where all is right
  pub same_by : AllBytes l → (x y : ℕ) → (x ≡ y → Right l e) → (Right l e → x ≡ y) → eqb x y ≡ same_numbers l (encode (entry_in l))
  same_by ok x y f g = go (eqb x y) refl
    where
      go : (b : Bool) → eqb x y ≡ b → b ≡ same_numbers l (encode (entry_in l))
      go true z = right_same ok (f (yes_eq x y z))
      go false z = wrong_same ok (λ r. false≢true (sym z ∙ ap (λ n. eqb n y) (g r) ∙ eq_yes y))

  -- and what is known of accepted bytes
  pub same_opens : same_numbers l (encode (entry_in l)) ≡ true → Opens l e
  same_opens h =
      let z : l ≡ encode (entry_in l) = same_is l (encode (entry_in l)) h in
      let g : Agrees l (entry_in l) = subst (λ x. Agrees x (entry_in l)) (sym z) (encode_agrees (entry_in l) (valid_passed l fields_passed z)) in
      let p = placed (agree_edges g) in
      record {
        reads = reads_entry l e f h;
        width = p.width;
        count = p.count ∙ g.count;
        bits = p.bits;
        edges = p.edges;
        blocks = p.blocks;
        sub_blocks = p.sub_blocks;
      }
