-- The numbers that opening tells, and what they say of the bytes.
use mathlib.Core.Path.{◌≡◌, refl, sym, ap, subst, ◌∙◌}
use Prim.Native.Nat.{ℕ, ◌≤◌, ◌<◌}
use mathlib.Core.List.{[]}
use mathlib.Core.Option.{Option, none, some}
use native.Mathlib.Omega.{arith}
use Rattle.std.specs.Prelude.{Result, Ok, Err}
use Rattle.loes.specs.Limits.{max_width, max_edges}
use Rattle.loes.specs.Bytes.{Bytes}
use Rattle.loes.specs.Entry.{Entry, count, edge_count, Valid}
use Rattle.loes.specs.Refusals.{first_of}
use Rattle.loes.specs.Numbers.{number_of}
use Rattle.loes.specs.declared.refusal.Refusal.{Refusal}
use Rattle.loes.specs.Read.{opened, read_tests, reading_of, read, entry_in}
use Rattle.loes.specs.Model.{Outcome, tells, refusal, refused_or, tested, answers, opens}
use Rattle.loes.specs.Calls.{after_reading, reading, open_call}
use Rattle.loes.proofs.Reading.{reads_exactly}
use Rattle.encoding.specs.declared.Encoding.{Encoding}
use Rattle.encoding.specs.declared.opening.Opened.{Opened as EncodingOpened}
use Rattle.encoding.specs.Answers.{told_outcome}
use Rattle.encoding.specs.Opened.{Opens, Placed}
use Rattle.capi.specs.declared.answers.Opened.{Opened}
use Rattle.capi.specs.Coded.{Positive, opening_of, Tells}
use Rattle.capi.proofs.NoZero.{zero_is_no_refusal}

abbrev pub Opening : Bytes → Opened → Type 0
Opening l r = (r ≡ opening_of (open_call l).answer) × (r.refusal ≡ 0 → Tells r.width r.count r.bits l)

pub opening_told : (l : Bytes) {r : Opened} (a : Result EncodingOpened Refusal) → told_outcome a ≡ open_call l → r ≡ opening_of (told_outcome a).answer → Opening l r
opening_told l {r} (Err k) t q = (
  q ∙ ap (λ (x : Outcome). opening_of x.answer) t,
  λ z.
      let y : r.refusal ≡ number_of k = ap (λ (x : Opened). x.refusal) q in
      let p : 0 < number_of k = subst (λ (x : Outcome). Positive x.answer) (sym t) (zero_is_no_refusal.opening l) in
      absurd (let x : ⊥ = omega arith in x),
)
opening_told l (Ok o) t q = (q ∙ ap (λ (x : Outcome). opening_of x.answer) t, λ z. rw q (ap (λ (x : Outcome). x.answer) (sym t)))

-- the numbers that opening tells are the entry's
pub record Numbers (l : Bytes) (m n b : ℕ) : Type 0 where
  pub reads : read l ≡ opened (entry_in l)
  pub width : (entry_in l).width ≡ m
  pub count : count (entry_in l) ≡ n
  pub bits : edge_count (entry_in l) ≡ b

numbers_of : (l : Bytes) (m n b : ℕ) (x : Option ℕ) → first_of (read_tests l) ≡ x
    → (after_reading (reading_of x (entry_in l)) [] (λ (e : Entry). (opens e).outcome)).answer ≡ tells m n b → Numbers l m n b
unfolding after_reading reading_of opens answers tested refused_or first_of refusal read
numbers_of l m n b none h q = record { reads = rw h; width = cc; count = cc; bits = cc }
numbers_of l m n b (some k) h q = let z : ◌≡◌ {A = ℕ} 0 1 = cc in absurd (let y : ⊥ = omega arith in y)

module _ (l : Bytes) (m n b : ℕ) (told : Tells m n b l) where
  pub told_numbers : Numbers l m n b
  unfolding open_call reading read
  told_numbers = numbers_of l m n b (first_of (read_tests l)) refl told

  told_valid : Valid (entry_in l)
  told_valid = ((reads_exactly l (entry_in l)).0 told_numbers.reads).0

  pub told_room : (m ≤ max_width) × (b ≤ max_edges)
  told_room = (omega (arith, told_valid.narrow, told_numbers.width), omega (arith, told_valid.few, told_numbers.bits))

  pub told_opens : (e : Encoding) → Placed m n b e → Opens l e
  told_opens e p =
      let k = told_numbers in
      record {
        reads = k.reads;
        width = p.width ∙ sym k.width;
        count = p.count ∙ sym k.count;
        bits = p.bits ∙ sym k.bits;
        edges = rw k.width p.edges;
        blocks = cc (p.blocks, k.width, k.bits);
        sub_blocks = cc (p.sub_blocks, k.width, k.bits);
      }

-- an opened encoding is not too wide
pub opens_narrow : {l : Bytes} {e : Encoding} → Opens l e → e.width ≤ max_width
opens_narrow {l} o = omega (arith, o.width, ((reads_exactly l (entry_in l)).0 o.reads).0.narrow)
