-- Reading the fields: what the code finds is the first test to hold.
use mathlib.Core.Path.{◌≡◌, refl, sym, ap, ◌∙◌}
use Prim.Native.Nat.{ℕ, ◌+◌, ◌-◌, ◌*◌, ◌≤◌, ◌<◌}
use mathlib.Core.Bool.{Bool, true, false, not, or-true}
use mathlib.Core.List.{List, [], ◌∷◌, flatten}
use mathlib.Core.Option.{Option, none, some}
use native.Mathlib.Omega.{arith}
use Rattle.std.proofs.Common.{Result, Ok, Err, cond, ◌&&◌}
use lib.ListN.{length}
use lib.Dec.{ltb}
use Rattle.loes.specs.Refusals.{Tests, test, first_of}
use Rattle.loes.specs.Limits.{max_width, max_edges, count_bytes, level_entry}
use Rattle.loes.specs.Bytes.{Bytes, number_at, same_numbers}
use Rattle.loes.specs.Entry.{wrong_width, too_many_edges}
use Rattle.loes.specs.Encode.{encode}
use Rattle.loes.specs.Read.{level_bytes, body_at, start2, start3, start4, width_in, edge_count_in, entry_in, field_tests, head_tests, tail_tests, read_tests, rejected, opened, reading_of, read}
use Rattle.loes.proofs.Tests.{lt_yes, lt_no, no_lt, neither, none_append, none_test, none_first, some_first}
use Rattle.loes.proofs.Reading.{field_fits}
use Rattle.encoding.specs.declared.Encoding.{Encoding}
use Rattle.loes.specs.declared.refusal.Refusal.{Refusal}
use Rattle.loes.specs.declared.refusal.Refusal.TheVariants.{WrongTag}
use Rattle.encoding.specs.declared.field.Field.{Field}
use Rattle.encoding.specs.declared.field.Field.TheVariants.{Width, Count, Levels, Edges, Blocks, SubBlocks}
use Rattle.encoding.specs.Fields.{tag_of, body_bytes, laid_by, Fields}

-- ---- A tag
-- a tag whose turn may come says its length
tag_in : (t m b : ℕ) → 0 < t → t < 7 → laid_by t m b ≡ Ok (body_bytes t m b)
unfolding laid_by
tag_in t m b p q = rw (lt_yes 0 t p, lt_yes t 7 q)

pub tag_length : (t m b n : ℕ) → 0 < t → t < 7 → laid_by t m b ≡ Ok n → n ≡ body_bytes t m b
tag_length t m b n p q h = let i = tag_in t m b p q in cc

-- a tag that says the refusal is none of the turns
pub tag_refused : (t m b : ℕ) (k : Refusal) → laid_by t m b ≡ Err k → (k ≡ WrongTag) × ((u : ℕ) → 0 < u → u < 7 → t ≡ u → ⊥)
tag_refused t m b k h = (
  go (ltb 0 t && ltb t 7) (unfold laid_by in h),
  λ u p q e. let i : laid_by t m b ≡ Ok (body_bytes t m b) = tag_in t m b (omega arith) (omega arith) in cc,
)
  where
    go : (c : Bool) → ◌≡◌ {A = Result ℕ Refusal} (cond c (Ok (body_bytes t m b)) (Err WrongTag)) (Err k) → k ≡ WrongTag
    go false e = cc
    go true e = cc

-- a field's turn comes
pub turn_comes : (f : Field) → (0 < tag_of f) × (tag_of f < 7)
turn_comes Width = (omega arith, omega arith)
turn_comes Count = (omega arith, omega arith)
turn_comes Levels = (omega arith, omega arith)
turn_comes Edges = (omega arith, omega arith)
turn_comes Blocks = (omega arith, omega arith)
turn_comes SubBlocks = (omega arith, omega arith)

-- ---- Tests behind tests
-- the first part refuses
pub stops : (k : ℕ) (a : Tests) (rest : List Tests) → first_of a ≡ some k → some k ≡ first_of (flatten (a ∷ rest))
unfolding flatten
stops k a rest e = sym (some_first a (flatten rest) k e)

-- the first part passes
pub passes : {x : Option ℕ} (a : Tests) (rest : List Tests) → first_of a ≡ none → x ≡ first_of (flatten rest) → x ≡ first_of (flatten (a ∷ rest))
unfolding flatten
passes a rest e h = h ∙ sym (none_first a (flatten rest) e)

pub all_passed : none ≡ first_of (flatten [])
unfolding flatten first_of
all_passed = refl

-- one test
pub holds : {b : Bool} (k : ℕ) → b ≡ true → first_of (test b k ∷ []) ≡ some k
unfolding first_of test
holds k e = rw e

pub clear : {b : Bool} (k : ℕ) → b ≡ false → first_of (test b k ∷ []) ≡ none
unfolding first_of test
clear k e = rw e

-- ---- The limits
pub width_small : (m : ℕ) → m ≡ 0 → wrong_width m ≡ true
unfolding wrong_width
width_small m h = rw h

pub width_great : (m : ℕ) → max_width < m → wrong_width m ≡ true
unfolding wrong_width
width_great m h = rw (lt_yes max_width m h, or-true)

pub width_right : (m : ℕ) → (m ≡ 0 → ⊥) → m ≤ max_width → wrong_width m ≡ false
unfolding wrong_width
width_right m p h = rw (lt_no m 1 (omega arith), lt_no max_width m h)

-- fields 1 to 3 are in order
pub head_facts : (l : Bytes) → first_of (head_tests l) ≡ none
    → (0 < width_in l) × (width_in l ≤ max_width) × (edge_count_in l ≤ max_edges) × (start4 (width_in l) ≤ length l)
unfolding head_tests flatten wrong_width too_many_edges start4
head_facts l h =
    let m : ℕ = width_in l in
    let a = none_test (wrong_width m) _ _ (none_append (field_tests 1 2 l 0) _ h).1 in
    let w = neither (ltb m 1) (ltb max_width m) a.0 in
    let c = none_append (field_tests 3 (level_bytes m) l start3) _ (none_append (field_tests 2 count_bytes l start2) _ a.1).1 in (
      no_lt m 1 w.0,
      no_lt max_width m w.1,
      no_lt max_edges (edge_count_in l) (none_test (too_many_edges (edge_count_in l)) _ _ c.1).0,
      field_fits 3 (level_bytes m) l start3 c.0,
    )

-- ---- Reading
-- b is the end of the last level
pub edge_count_read : (l : Bytes) (m k : ℕ) → m ≡ width_in l → k ≡ number_at level_entry l (body_at start3 + level_entry * (m - 1)) → k ≡ edge_count_in l
unfolding edge_count_in
edge_count_read l m k h e = rw h at e

rejected_by : (l : Bytes) (k : ℕ) → some k ≡ first_of (read_tests l) → read l ≡ rejected k
unfolding read reading_of
rejected_by l k e = rw (← e)

pub head_rejects : (l : Bytes) (k : ℕ) → first_of (head_tests l) ≡ some k → read l ≡ rejected k
unfolding read_tests
head_rejects l k e = rejected_by l k (stops k _ _ e)

pub tail_rejects : (l : Bytes) (k : ℕ) → first_of (head_tests l) ≡ none → first_of (tail_tests (width_in l) (edge_count_in l) l) ≡ some k → read l ≡ rejected k
unfolding read_tests
tail_rejects l k z e = rejected_by l k (passes _ _ z (stops k _ _ e))

-- the last test is 7
pub rejects_7 : (l : Bytes) (e : Encoding) → Fields l e → same_numbers l (encode (entry_in l)) ≡ false → read l ≡ rejected 7
unfolding read_tests
rejects_7 l e f h = rejected_by l 7 (passes _ _ f.head (passes _ _ f.tail (stops 7 _ _ (holds 7 (ap not h)))))

pub reads_entry : (l : Bytes) (e : Encoding) → Fields l e → same_numbers l (encode (entry_in l)) ≡ true → read l ≡ opened (entry_in l)
unfolding read read_tests reading_of
reads_entry l e f h =
    let n : none ≡ first_of (read_tests l) = unfold read_tests in passes _ _ f.head (passes _ _ f.tail (passes _ _ (clear 7 (ap not h)) all_passed)) in
    rw (← n)
