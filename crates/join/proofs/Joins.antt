-- From two checks to a pair, and from the edges of a join to the call.
use mathlib.Core.Path.{◌≡◌, refl, sym, ap, ap₂, ◌∙◌, subst}
use Prim.Native.Nat.{ℕ, ◌+◌, ◌*◌, ◌/◌, ◌≤◌, ◌<◌}
use mathlib.Core.Bool.{Bool, true, false, not}
use mathlib.Core.List.{[], ◌∷◌}
use native.Mathlib.Omega.{arith}
use lib.ListN.{length, replicate, length-replicate, take, drop, length-drop}
use lib.Seq.{length-take-le}
use lib.Dec.{eqb}
use Rattle.loes.specs.Limits.{max_edges}
use Rattle.loes.specs.Bytes.{Bytes, started, pack_bits, bits_in}
use Rattle.loes.specs.Keys.{Key, either, without}
use Rattle.loes.specs.Entry.{Entry, edges_of, edge_count, with_set, Valid}
use mathlib.Core.Option.{none, some, some-injective}
use Rattle.loes.specs.Refusals.{two_widths, test, first_of}
use Rattle.loes.specs.Read.{Reading, rejected, opened, read, entry_in, entry_along, start5, start6}
use Rattle.loes.specs.Entry.{of_width}
use Rattle.loes.specs.Edges.{present}
use Rattle.loes.specs.Held.{entry_held, Holds}
use Rattle.loes.specs.Model.{OutcomeOf, refusal, join_tests, writes}
use Rattle.loes.specs.Calls.{reading, after_reading}
use Rattle.loes.proofs.Tests.{eq_yes, eq_no, yes_eq, both}
use Rattle.loes.proofs.Reading.{bits_cut, along_sized}
use Rattle.loes.proofs.Writes.{writes_refused, writes_on}
use Rattle.loes.proofs.Bits.{length_bits_in}
use Rattle.encoding.specs.Opened.{Opens}
use Rattle.encoding.proofs.Opened.{opens_room}
use Rattle.encoding.specs.declared.Encoding.{Encoding}
use Rattle.encoding.specs.declared.opening.Opened.{Opened}
use Rattle.records.specs.Records.{Packed}
use Rattle.records.specs.Numbers.{overread, overwrite}
use Rattle.build.specs.Writing.{HoldsOnly}
use Rattle.records.proofs.Sealing.{written_bits, written_room}
use Rattle.join.specs.declared.Join.{Join}
use Rattle.join.specs.declared.Join.TheVariants as join
use Rattle.merge.specs.Union.{QueueRoom}
use Rattle.join.specs.Joining.{join_of, join_call, pair_refusal, Joined, edges_within, queue_for, large, RoomFor}
use Rattle.join.specs.declared.pair.Pair.{Pair}

-- ---- Two checks
reading_opened : {L : Type 0} (l : Bytes) (bufs : L) (next : Entry → OutcomeOf L) (e : Entry) → read l ≡ opened e → reading l bufs next ≡ next e
unfolding reading after_reading
reading_opened l bufs next e h = rw h

-- on two encodings, what is left of the call
call_opened : (op : Entry → Entry → Entry) (a b out : Bytes) → read a ≡ opened (entry_in a) → read b ≡ opened (entry_in b)
    → join_call op a b out ≡ (writes (join_tests (entry_in a) (entry_in b)) (op (entry_in a) (entry_in b) ∷ []) (out ∷ [])).outcome
unfolding join_call
call_opened op a b out h g = reading_opened a (out ∷ []) _ (entry_in a) h ∙ reading_opened b (out ∷ []) _ (entry_in b) g

-- two widths are 13, one is none
pub widths_differ : (e f : Entry) → eqb e.width f.width ≡ false → first_of (join_tests e f) ≡ some two_widths
unfolding join_tests first_of test
widths_differ e f h = rw h

pub widths_same : (e f : Entry) → e.width ≡ f.width → first_of (join_tests e f) ≡ none
unfolding join_tests first_of test
widths_same e f h = rw (h, eq_yes f.width)

pub first_rejected : (a b : Bytes) (k : ℕ) → read a ≡ rejected k → pair_refusal (read a) (read b) ≡ some k
unfolding pair_refusal
first_rejected a b k h = rw h

pub second_rejected : (a b : Bytes) (k : ℕ) (o : Opened) → o.bytes.now ≡ a → read b ≡ rejected k → pair_refusal (read a) (read b) ≡ some k
unfolding pair_refusal
second_rejected a b k o h g = rw (← h, o.opens.reads, g)

pub widths_rejected : (a b : Bytes) (o p : Opened) → o.bytes.now ≡ a → p.bytes.now ≡ b → (o.encoding.width ≡ p.encoding.width → ⊥) → pair_refusal (read a) (read b) ≡ some two_widths
unfolding pair_refusal
widths_rejected a b o p h g w =
    rw (← h, ← g, o.opens.reads, p.opens.reads)
    (widths_differ (entry_in o.bytes.now) (entry_in p.bytes.now) (eq_no (entry_in o.bytes.now).width (entry_in p.bytes.now).width (λ z. w (o.opens.width ∙ z ∙ sym p.opens.width))))

-- two encodings that are refused are refused by every call that reads both and then tests 13
pub pair_refused : {L : Type 0} (a b : Bytes) (k : ℕ) (bufs : L) (next : Entry → Entry → OutcomeOf L) → pair_refusal (read a) (read b) ≡ some k
    → ((e f : Entry) → first_of (join_tests e f) ≡ some k → next e f ≡ (refusal k bufs).outcome) → reading a bufs (λ e. reading b bufs (next e)) ≡ (refusal k bufs).outcome
unfolding reading after_reading pair_refusal
pair_refused {L} a b k bufs next h g = go (read a) (read b) h
  where
    go : (r s : Reading) → pair_refusal r s ≡ some k → after_reading r bufs (λ e. after_reading s bufs (next e)) ≡ (refusal k bufs).outcome
    go (rejected j) s z = ap (λ x. (refusal x bufs).outcome) (some-injective j k z)
    go (opened e) (rejected j) z = ap (λ x. (refusal x bufs).outcome) (some-injective j k z)
    go (opened e) (opened f) z = g e f z

pub join_refused : (op : Entry → Entry → Entry) (a b out : Bytes) (k : ℕ) → pair_refusal (read a) (read b) ≡ some k → join_call op a b out ≡ (refusal k (out ∷ [])).outcome
unfolding join_call
join_refused op a b out k h = pair_refused a b k (out ∷ []) _ h (λ e f z. ap (λ x. x.outcome) (writes_refused (join_tests e f) _ (out ∷ []) k z))

-- ---- The edges of a join
-- the entry asked for has keys of its width only
pub join_sized : (kind : Join) (e f : Entry) → Valid e → Valid f → e.width ≡ f.width → (k : Key) → (join_of kind e f).set k ≡ true → length k ≡ e.width
join_sized join.Union e f v w z k = unfold with_set either in go (e.set k) refl
  where
    go : (b : Bool) → e.set k ≡ b → either e.set f.set k ≡ true → length k ≡ e.width
    go true h q = v.sized k h
    go false h q = w.sized k (unfold either in rw h at q) ∙ sym z
join_sized join.Difference e f v w z k = λ q. v.sized k (both (e.set k) (not (f.set k)) (unfold with_set without in q)).0

join_width : (kind : Join) (e f : Entry) → (join_of kind e f).width ≡ e.width
unfolding with_set
join_width join.Union e f = refl
join_width join.Difference e f = refl

module _ (x : Entry) (positive : 0 < x.width) (sized : (k : Key) → x.set k ≡ true → length k ≡ x.width) (old new : Bytes) (k : ℕ) (w : Packed (edges_of x) old new k) where
  pub join_held : entry_held x.width k new ≡ x
  unfolding entry_held
  join_held = rw (written_bits w) (along_sized x positive sized)

  pub join_joined : x.width ≤ 256 → Joined x.width k new
  join_joined narrow =
      record {
        positive = positive;
        narrow = narrow;
        room = written_room w;
        same = ap edges_of join_held ∙ sym (written_bits w);
        whole = w.bytes ∙ ap pack_bits (sym (written_bits w));
      }

-- ---- What the writer is given
module _ (m k : ℕ) (l : Bytes) (j : Joined m k l) where
  pub joined_bits : edge_count (entry_held m k l) ≡ k
  unfolding edge_count
  joined_bits = ap length j.same ∙ length_bits_in l k

  -- the n bytes that they take
  module _ (n : ℕ) (size : n ≡ started 8 k) where
    pub cut_fits : n ≤ length l
    unfolding started
    cut_fits = omega (arith, size, j.room)

    cut_room : k ≤ 8 * length (take n l)
    unfolding started
    cut_room = omega (arith, size, length-take-le n l cut_fits)

    cut_bits : bits_in (take n l) k ≡ bits_in l k
    cut_bits = bits_cut l n k cut_room

    pub cut_held : entry_held m k (take n l) ≡ entry_held m k l
    unfolding entry_held
    cut_held = rw cut_bits

    pub cut_sealed : k ≤ max_edges → HoldsOnly m k (take n l)
    cut_sealed few =
        record {
          holds = record { positive = j.positive; narrow = j.narrow; few = few; room = cut_room; same = ap edges_of cut_held ∙ j.same ∙ sym cut_bits };
          whole = ap pack_bits cut_bits ∙ sym j.whole ∙ ap (λ i. take i l) (sym size);
        }

-- ---- An encoding's edges
-- it has fewer than bits
pub opens_short : (l : Bytes) (e : Encoding) → Opens l e → e.bits ≤ 8 * length l
unfolding started
opens_short l e p = omega (arith, (opens_room l e p).edges)

-- behind them stand two more fields, so a window may read on
pub opens_over : (l : Bytes) (e : Encoding) → Opens l e → e.bits / 2 + overread ≤ 4 * length (drop e.edges l)
unfolding start5 start6 started
opens_over l e p = rw (length-drop e.edges l) (omega (arith, (opens_room l e p).sub_blocks, p.edges, p.sub_blocks, p.bits))

-- of so many bytes
pub opened_within : (o : Opened) (a : Bytes) (x : ℕ) → o.bytes.now ≡ a → x ≡ o.encoding.bits → x ≤ edges_within (length a)
opened_within o a x h e = rw (← h, e) (let i = opens_short o.bytes.now o.encoding o.opens in let j = (opens_room o.bytes.now o.encoding o.opens).few in omega arith)

-- rooms that are enough and not too large, cleared, serve what two encodings of these lengths have
pub rooms_serve : (queue edges : ℕ) (p : Pair) (a b : Bytes) (x y : ℕ) → p.first.bytes.now ≡ a → p.second.bytes.now ≡ b → x ≡ p.first.encoding.bits → y ≡ p.second.encoding.bits
    → edges_within (length a) + edges_within (length b) + 1 + overwrite ≤ 4 * queue → edges_within (length a) < 8 * edges → queue ≤ queue_for large
    → QueueRoom x y (replicate queue 0) × (x < 8 * length {A = ℕ} (replicate edges 0))
rooms_serve queue edges p a b x y ha hb hx hy flags first few =
    let i = opened_within p.first a x ha hx in
    let j = opened_within p.second b y hb hy in
    let long : (n : ℕ) → length {A = ℕ} (replicate n 0) ≡ n = λ n. length-replicate n 0 in
    (record { queue = omega (arith, i, j, long queue, flags); small = omega (arith, long queue, few) }, omega (arith, i, long edges, first))

-- and so do those of a size that serves
pub sized_rooms_serve : (n queue edges : ℕ) (p : Pair) (a b : Bytes) (x y : ℕ) → p.first.bytes.now ≡ a → p.second.bytes.now ≡ b → x ≡ p.first.encoding.bits → y ≡ p.second.encoding.bits
    → RoomFor n (length a) (length b) queue edges → QueueRoom x y (replicate queue 0) × (x < 8 * length {A = ℕ} (replicate edges 0))
sized_rooms_serve n queue edges p a b x y ha hb hx hy r =
    rooms_serve queue edges p a b x y ha hb hx hy (omega (arith, r.flags, r.serves.first, r.serves.second)) (omega (arith, r.rest, r.serves.first)) (omega (arith, r.flags, r.serves.few))

-- ---- Edges that hold an entry
module _ {m b : ℕ} {l : Bytes} (h : Holds m b l) where
  pub held_valid : Valid (entry_held m b l)
  unfolding entry_held entry_along of_width edge_count
  held_valid =
      record {
        positive = h.positive;
        narrow = h.narrow;
        sized = λ k z. yes_eq (length k) m (both (eqb (length k) m) (present (bits_in l b) k) z).0;
        few = omega (arith, ap length h.same, length_bits_in l b, h.few);
      }

-- what is made of two of one width
pub made : (kind : Join) {m n b c k : ℕ} {l r o p : Bytes} → Holds m b l → Holds n c r → m ≡ n → Packed (edges_of (join_of kind (entry_held m b l) (entry_held n c r))) o p k
    → Joined m k p × (entry_held m k p ≡ join_of kind (entry_held m b l) (entry_held n c r))
made kind {m} {n} {b} {c} {k} {l} {r} {o} {p} h g w d =
    let e = entry_held m b l in
    let f = entry_held n c r in
    let x = join_of kind e f in
    let wide : x.width ≡ m = join_width kind e f ∙ unfold entry_held entry_along in refl in
    let same : e.width ≡ f.width = unfold entry_held entry_along in w in
    let positive : 0 < x.width = rw wide h.positive in
    let sized : (y : Key) → x.set y ≡ true → length y ≡ x.width = λ y z. join_sized kind e f (held_valid h) (held_valid g) same y z ∙ sym (join_width kind e f) in
    subst (λ (j : ℕ). Joined j k p × (entry_held j k p ≡ x)) wide (join_joined x positive sized o p k d (omega (arith, wide, h.narrow)), join_held x positive sized o p k d)

-- ---- The whole call on two encodings of one width
pub pair_alike : (p : Pair) → (entry_in p.first.bytes.now).width ≡ (entry_in p.second.bytes.now).width
pair_alike p = sym p.first.opens.width ∙ p.one_width ∙ p.second.opens.width

pub joined_call : (kind asked : Join) (p : Pair) (a b out : Bytes) (x d e : Entry) → kind ≡ asked → p.first.bytes.now ≡ a → p.second.bytes.now ≡ b → d ≡ entry_in p.first.bytes.now
    → e ≡ entry_in p.second.bytes.now → x ≡ join_of asked d e → (writes [] (x ∷ []) (out ∷ [])).outcome ≡ join_call (join_of kind) a b out
joined_call kind asked p a b out x d e hk ha hb hd he h =
    let w : d.width ≡ e.width = rw (hd, he) (pair_alike p) in
    let ra : read a ≡ opened (entry_in a) = rw (← ha) p.first.opens.reads in
    let rb : read b ≡ opened (entry_in b) = rw (← hb) p.second.opens.reads in
    let da : d ≡ entry_in a = hd ∙ ap entry_in ha in
    let eb : e ≡ entry_in b = he ∙ ap entry_in hb in
    ap (λ y. (writes [] (y ∷ []) (out ∷ [])).outcome) h
    ∙ ap (λ y. y.outcome) (sym (writes_on (join_tests d e) (join_of asked d e ∷ []) (out ∷ []) (widths_same d e w)))
    ∙ ap₂ (λ y z. (writes (join_tests y z) (join_of asked y z ∷ []) (out ∷ [])).outcome) da eb
    ∙ sym (call_opened (join_of asked) a b out ra rb)
    ∙ ap (λ k. join_call (join_of k) a b out) (sym hk)
