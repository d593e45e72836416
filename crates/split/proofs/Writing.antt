-- From the edges of three parts to the call, and the rooms.
use mathlib.Core.Path.{◌≡◌, refl, sym, ap, ap₂, ◌∙◌}
use Prim.Native.Nat.{ℕ, ◌+◌, ◌*◌, ◌/◌, ◌≤◌}
use mathlib.Core.Bool.{Bool, true, false, ◌||◌, or-false}
use mathlib.Core.List.{List, [], ◌∷◌, map}
use mathlib.Core.Option.{some}
use native.Mathlib.Omega.{arith}
use lib.ListN.{length, replicate, length-replicate}
use lib.Dec.{ltb}
use Rattle.loes.specs.Limits.{max_edges}
use Rattle.loes.specs.Bytes.{Bytes, front}
use Rattle.loes.specs.Keys.{any_of}
use Rattle.loes.specs.Entry.{Entry, edges_of, edge_count, with_set, too_many_edges, Valid}
use Rattle.loes.specs.Encode.{encode}
use Rattle.loes.specs.Read.{opened, read, entry_in, entry_along, end_of}
use Rattle.loes.specs.Calls.{after_reading, reading, split_call}
use Rattle.loes.specs.Held.{entry_held}
use Rattle.loes.specs.Refusals.{short_buffer}
use Rattle.loes.specs.Model.{refused, wrote, writing_all, refusal, fronts, any_short, writes, join_tests, difference_entry, both_entry, split}
use Rattle.loes.proofs.Tests.{lt_no}
use Rattle.loes.proofs.Writes.{writes_refused, writes_on, all_short, all_fit}
use Rattle.loes.proofs.Histories.{difference_valid, both_valid}
use Rattle.loes.proofs.Splits.{both_fewer, difference_fewer}
use Rattle.build.proofs.Fields.{held_length}
use Rattle.records.specs.Records.{Packed}
use Rattle.records.specs.Numbers.{overread, overwrite}
use Rattle.join.specs.Joining.{pair_refusal, Joined, edges_within, queue_for, large}
use Rattle.join.specs.declared.pair.Pair.{Pair}
use Rattle.join.specs.declared.joined.JoinedEdges.{JoinedEdges}
use Rattle.records.specs.declared.edge_bytes.EdgeBytes.{EdgeBytes}
use Rattle.join.proofs.Joins.{opened_within, widths_same, pair_alike, pair_refused, held_valid, join_held, join_joined, joined_bits}
use Rattle.divide.specs.declared.Three.{Three}
use Rattle.divide.specs.Division.{MarksFit, Divided, DivideRoom}
use Rattle.split.specs.Splitting.{marks_for, SplitRoom}

-- ---- Three entries whose edges are not too many
module _ (u v w : JoinedEdges) (fu : u.bits ≤ max_edges) (fv : v.bits ≤ max_edges) (fw : w.bits ≤ max_edges) (xs ys zs : Bytes) where
  abbrev held : JoinedEdges → Entry
  held o = entry_held o.width o.bits o.bytes.now

  abbrev es : List Entry
  es = held u ∷ held v ∷ held w ∷ []

  abbrev bufs : List Bytes
  bufs = xs ∷ ys ∷ zs ∷ []

  abbrev short : Bool
  short = ltb (length xs) (end_of u.width u.bits) || (ltb (length ys) (end_of v.width v.bits) || ltb (length zs) (end_of w.width w.bits))

  few : (o : JoinedEdges) → o.bits ≤ max_edges → too_many_edges (edge_count (held o)) ≡ false
  unfolding too_many_edges
  few o f = lt_no max_edges (edge_count (held o)) (omega (arith, joined_bits o.width o.bits o.bytes.now o.joined, f))

  all_few : any_of (λ (e : Entry). too_many_edges (edge_count e)) es ≡ false
  unfolding any_of
  all_few = rw (few u fu, few v fv, few w fw)

  long : (o : JoinedEdges) → length (encode (held o)) ≡ end_of o.width o.bits
  long o = held_length o.width o.bits o.bytes.now (joined_bits o.width o.bits o.bytes.now o.joined)

  short_is : any_short (map encode es) bufs ≡ short
  unfolding any_short
  short_is = rw (long u, long v, long w, or-false)

  pub three_refused : short ≡ true → writes [] es bufs ≡ refusal short_buffer bufs
  three_refused g = all_short es bufs all_few (short_is ∙ g)

  pub three_written : short ≡ false
      → (writes [] es bufs).outcome ≡ writing_all (wrote (end_of u.width u.bits ∷ end_of v.width v.bits ∷ end_of w.width w.bits ∷ [])) (front (encode (held u)) xs ∷ front (encode (held v)) ys ∷ front (encode (held w)) zs ∷ [])
  unfolding fronts
  three_written g =
      all_fit es bufs all_few (short_is ∙ g)
      ∙ ap (λ l. writing_all (wrote l) (fronts (map encode es) bufs)) (ap₂ ◌∷◌ (long u) (ap₂ ◌∷◌ (long v) (ap (λ n. n ∷ []) (long w))))

-- ---- Two encodings of one width
-- k edge bits hold a set whose edges are not too many
pub record Part (m : ℕ) (x : Entry) (l : Bytes) (k : ℕ) : Type 0 where
  pub joined : Joined m k l
  pub few : k ≤ max_edges
  pub held : entry_held m k l ≡ x

part : {m : ℕ} {x : Entry} {o l : Bytes} {k : ℕ} → Valid x → x.width ≡ m → Packed (edges_of x) o l k → Part m x l k
unfolding edge_count
part {x} {o} {l} {k} v w r =
    rw (← w)
    record { joined = join_joined x v.positive v.sized o l k r v.narrow; few = omega (arith, r.count, v.few); held = join_held x v.positive v.sized o l k r }

module _ (a b : EdgeBytes) (w : a.width ≡ b.width) where
  abbrev d : Entry
  d = entry_held a.width a.bits a.bytes.now

  abbrev g : Entry
  g = entry_held b.width b.bits b.bytes.now

  both_fine : Valid (both_entry d g)
  both_fine = let v = held_valid a.holds in both_valid d g v (omega (arith, both_fewer d g, v.few))

  first_fine : Valid (difference_entry d g)
  first_fine = let v = held_valid a.holds in difference_valid d g v (omega (arith, difference_fewer d g, v.few))

  second_fine : Valid (difference_entry g d)
  second_fine = let v = held_valid b.holds in difference_valid g d v (omega (arith, difference_fewer g d, v.few))

  -- the edges of all three
  module _ {l h c l' h' c' : Bytes} {k : Three} (r : Divided d g l h c l' h' c' k) where
    pub both_part : Part a.width (both_entry d g) l' k.both
    both_part = part both_fine (unfold with_set entry_held entry_along in refl) r.both

    pub first_part : Part a.width (difference_entry d g) h' k.only_first
    first_part = part first_fine (unfold with_set entry_held entry_along in refl) r.only_first

    pub second_part : Part a.width (difference_entry g d) c' k.only_second
    second_part = part second_fine (unfold with_set entry_held entry_along in sym w) r.only_second

-- ---- The call on bytes
pub split_refused : (a b x y z : Bytes) (k : ℕ) → pair_refusal (read a) (read b) ≡ some k → split_call a b x y z ≡ writing_all (refused k) (x ∷ y ∷ z ∷ [])
unfolding split_call split refusal
split_refused a b x y z k h =
    pair_refused a b k (x ∷ y ∷ z ∷ []) _ h (λ e f g. ap (λ s. s.outcome) (writes_refused (join_tests e f) _ (x ∷ y ∷ z ∷ []) k g))

pub split_parts : (p : Pair) (a b x y z : Bytes) (d e s t u : Entry) → p.first.bytes.now ≡ a → p.second.bytes.now ≡ b → d ≡ entry_in p.first.bytes.now → e ≡ entry_in p.second.bytes.now
    → s ≡ both_entry d e → t ≡ difference_entry d e → u ≡ difference_entry e d → (writes [] (s ∷ t ∷ u ∷ []) (x ∷ y ∷ z ∷ [])).outcome ≡ split_call a b x y z
unfolding split_call split reading after_reading
split_parts p a b x y z d e s t u ha hb hd he hs ht hu =
    let w : d.width ≡ e.width = rw (hd, he) (pair_alike p) in
    let ra : read a ≡ opened d = rw (← ha, hd) p.first.opens.reads in
    let rb : read b ≡ opened e = rw (← hb, he) p.second.opens.reads in
    ap (λ l. (writes [] l (x ∷ y ∷ z ∷ [])).outcome) (ap₂ ◌∷◌ hs (ap₂ ◌∷◌ ht (ap (λ x. x ∷ []) hu)))
    ∙ ap (λ o. o.outcome) (sym (writes_on (join_tests d e) _ (x ∷ y ∷ z ∷ []) (widths_same d e w)))
    ∙ sym (rw (ra, rb))

-- ---- Rooms that are enough and not too large, cleared, serve what two encodings of these lengths have
pub rooms_serve : (queue marks : ℕ) (p : Pair) (a b : Bytes) (x y : ℕ) → p.first.bytes.now ≡ a → p.second.bytes.now ≡ b → x ≡ p.first.encoding.bits → y ≡ p.second.encoding.bits
    → edges_within (length a) + edges_within (length b) + 1 + overwrite ≤ 4 * queue → (edges_within (length a) + edges_within (length b)) / 2 + overread ≤ 4 * marks
    → queue ≤ queue_for large → marks ≤ marks_for large → DivideRoom x y (replicate queue 0) (replicate marks 0) (replicate marks 0) (replicate marks 0)
rooms_serve queue marks p a b x y ha hb hx hy flags records few_flags few_marks =
    let i = opened_within p.first a x ha hx in
    let j = opened_within p.second b y hb hy in
    let long : (n : ℕ) → length {A = ℕ} (replicate n 0) ≡ n = λ n. length-replicate n 0 in
    let fits : MarksFit ((x + y) / 2) (replicate marks 0) = record { room = omega (arith, i, j, long marks, records); small = omega (arith, long marks, few_marks) } in
    record { queue = record { queue = omega (arith, i, j, long queue, flags); small = omega (arith, long queue, few_flags) }; both = fits; only_first = fits; only_second = fits }

-- and so do those of a size that serves
pub sized_rooms_serve : (n queue marks : ℕ) (p : Pair) (a b : Bytes) (x y : ℕ) → p.first.bytes.now ≡ a → p.second.bytes.now ≡ b → x ≡ p.first.encoding.bits → y ≡ p.second.encoding.bits
    → SplitRoom n (length a) (length b) queue marks → DivideRoom x y (replicate queue 0) (replicate marks 0) (replicate marks 0) (replicate marks 0)
sized_rooms_serve n queue marks p a b x y ha hb hx hy r =
    let serve = rooms_serve queue marks p a b x y ha hb hx hy in
    let s = r.serves in
    serve (omega (arith, r.flags, s.first, s.second)) (omega (arith, r.records, s.first, s.second)) (omega (arith, r.flags, s.few)) (omega (arith, r.records, s.few))
