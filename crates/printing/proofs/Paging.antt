-- One more line, one page behind another.
use mathlib.Core.Path.{◌≡◌, refl, sym, ap, ap₂, ◌∙◌}
use Prim.Native.Nat.{ℕ, zero, suc, ◌+◌, ◌-◌, ◌≤◌, ◌<◌}
use mathlib.Core.List.{List, [], ◌++◌, append_assoc, append-nil, flatten}
use native.Mathlib.Omega.{arith}
use lib.ListN.{length, take, drop, get_or, replicate}
use lib.Seq.{take_at}
use Rattle.loes.specs.Limits.{max_width}
use Rattle.loes.specs.Bytes.{Bytes, started, pack_bits, front}
use Rattle.loes.specs.Entry.{Entry, key_bytes, keys_of, count, Valid}
use Rattle.loes.specs.Read.{entry_in}
use Rattle.loes.specs.Model.{wrote_key}
use Rattle.loes.specs.Cursor.{Advanced, before, padded, is_cursor_of, next_index, advance}
use Rattle.loes.proofs.Members.{key_bytes_lem}
use Rattle.loes.proofs.Cursors.{cursor_at, right_at, right_none, next_at, advance_on}
use Rattle.encoding.specs.declared.Encoding.{Encoding}
use Rattle.encoding.specs.Opened.{Opens}
use Rattle.std.specs.Prelude.{Result, Ok, Err}
use Rattle.loes.specs.declared.refusal.Refusal.{Refusal}
use Rattle.cursor.specs.declared.Cursor.{Cursor}
use Rattle.cursor.specs.Steps.{cursor_of, step_answer, advanced_of}
use Rattle.printing.specs.Text.{member_line, key_bytes_at, lines_from, lines_of, numbers_line, first_line, max_line, Puts}
use Rattle.printing.specs.Standing.{StandsAt}
use Rattle.printing.specs.Pages.{Come, Stands, PutsNext, Fills, Full, Printed, over, page, PagesAreLines}
use Rattle.printing.proofs.Putting.{puts_none, puts_length, puts_then, puts_front}

pub key_most : (e : Entry) → Valid e → key_bytes e.width ≤ 32
unfolding key_bytes started
key_most e v = omega (arith, v.narrow)

-- ---- A step from where a page stands, with room for a key: it is not refused
module _ (e : Entry) (v : Valid e) (p : Come) (s : Stands e p) (lt : p.index.0 < count e) (out : Bytes) (room : length out ≡ 32)
    (r : Result ℕ Refusal) (after : Cursor) (out' : Bytes) (told : advanced_of r out' after ≡ advance e (cursor_of p.cursor) out) where
  abbrev i : ℕ
  i = p.index.0

  went : advanced_of r out' after ≡ record { answer = wrote_key (key_bytes e.width); buffer = front (pack_bits (get_or (keys_of e) i [])) out; cursor = cursor_at e i }
  went = told ∙ advance_on e (cursor_of p.cursor) out i s.right s.next lt (omega (arith, key_most e v, room))

  -- what it returns
  pub next_wrote : r ≡ Ok (key_bytes e.width)
  next_wrote = go r (ap (λ (a : Advanced). a.answer) went)
    where
      go : (r : Result ℕ Refusal) → step_answer r ≡ wrote_key (key_bytes e.width) → r ≡ Ok (key_bytes e.width)
      go (Ok n) h = cc
      go (Err k) h = cc

  -- the key that it wrote
  pub next_key : take (key_bytes e.width) out' ≡ key_bytes_at e i
  unfolding key_bytes_at front
  next_key =
      let k = pack_bits (get_or (keys_of e) i []) in
      ap (λ (a : Advanced). take (key_bytes e.width) a.buffer) went ∙ take_at k (drop (length k) out) (key_bytes e.width) (key_bytes_lem e i lt)

  -- where it stands
  pub next_stands : StandsAt e after (i + 1)
  next_stands =
      let at : cursor_of after ≡ cursor_at e i = ap (λ (a : Advanced). a.cursor) went in
      let z : suc i ≡ i + 1 = omega arith in
      record { right = ap (is_cursor_of e) at ∙ right_at e i v.narrow lt; next = ap (next_index e) at ∙ next_at e i lt ∙ z; within = omega arith }

-- before the first member
pub first_stands : (e : Entry) (c : Cursor) → cursor_of c ≡ record { state = before; offsets = replicate max_width 0 } → StandsAt e c 0
unfolding padded next_index
first_stands e c q = record { right = ap (is_cursor_of e) q ∙ (right_none e).0; next = ap (next_index e) q; within = omega arith }

-- ---- A page so far
pub fills_none : (e : Entry) (p : Come) (d : Bytes) → Stands e p → p.length ≤ length d → Fills e p d p d
unfolding lines_from
fills_none e p d s h = record { lines = 0; index = omega arith; puts = puts_none p.length p.length d h refl; stands = s }

pub fills_next : (e : Entry) (p q r : Come) (d d1 d2 : Bytes) → Fills e p d q d1 → PutsNext e q d1 r d2 → Fills e p d r d2
unfolding lines_from
fills_next e p q r d d1 d2 f n =
    record {
      lines = suc f.lines;
      index = omega (arith, f.index, n.index);
      puts = puts_then f.puts (rw f.index at n.puts);
      stands = n.stands;
    }

-- with a member left and room for a line, there is a line on it
pub fills_some : (e : Entry) (p r : Come) (d d1 : Bytes) → Fills e p d r d1 → Full e r d1 → p.index.0 < count e → p.length + max_line ≤ length d → p.index.0 < r.index.0
fills_some e p r d d1 f full lt room = go f.lines f.index f.puts
  where
    go : (n : ℕ) → r.index.0 ≡ p.index.0 + n → Puts p.length (lines_from e p.index.0 n) d r.length d1 → p.index.0 < r.index.0
    go zero i q = unfold lines_from in absurd (omega (arith, full (omega arith), q.ends, puts_length q))
    go (suc n) i q = omega arith

-- what stands in it from the front
pub fills_front : (e : Entry) (p r : Come) (d d1 : Bytes) → Fills e p d r d1 → p.length ≡ 0 → take r.length d1 ≡ lines_from e p.index.0 (r.index.0 - p.index.0)
fills_front e p r d d1 f z =
    let n : f.lines ≡ r.index.0 - p.index.0 = omega (arith, f.index) in
    puts_front (rw z at f.puts) ∙ ap (lines_from e p.index.0) n

-- ---- Pages
lines_add : (e : Entry) (i n m : ℕ) → lines_from e i (n + m) ≡ lines_from e i n ++ lines_from e (i + n) m
unfolding lines_from
lines_add e i n zero = let z : n + 0 ≡ n = omega arith in rw z (sym (append-nil (lines_from e i n)))
lines_add e i n (suc m) =
    let z : n + suc m ≡ suc (n + m) = omega arith in
    let y : i + (n + m) ≡ i + n + m = omega arith in
    let l = member_line (i + n + m) (key_bytes_at e (i + n + m)) in
    rw (z, y) (ap (λ x. x ++ l) (lines_add e i n m) ∙ append_assoc (lines_from e i n) (lines_from e (i + n) m) l)

-- from a page on, up to the last member
rest : (e : Entry) (p : Come) (texts : List Bytes) → Printed e p texts → (n : ℕ) × (p.index.0 + n ≡ count e) × (flatten texts ≡ lines_from e p.index.0 n)
unfolding flatten lines_from
rest e p texts (over _ h) = (0, omega arith, refl)
rest e p texts (page _ r q d d' ts z f h more) =
    let m = rest e q ts more in
    let i : q.index.0 ≡ p.index.0 + f.lines = h ∙ f.index in
    (f.lines + m.0, omega (arith, m.1, i), ap₂ ◌++◌ (puts_front (rw z at f.puts)) (m.2 ∙ ap (λ n. lines_from e n m.0) i) ∙ sym (lines_add e p.index.0 f.lines m.0))

pub pages_are_lines : PagesAreLines
unfolding lines_of
pages_are_lines e p texts z t =
    let r = rest e p texts t in
    let n : r.0 ≡ count e = omega (arith, r.1) in
    ap (λ x. first_line e ++ x) (r.2 ∙ ap₂ (lines_from e) z n)

-- the first line of an opened encoding
pub first_line_lem : (l : Bytes) (e : Encoding) → Opens l e → numbers_line e.width e.count e.bits ≡ first_line (entry_in l)
first_line_lem l e o = rw (o.width, o.count, o.bits)
