-- Of tests that hold of sets too large to compute, the first gives its number.
use mathlib.Core.Path.{◌≡◌, refl}
use Prim.Native.Nat.{ℕ}
use mathlib.Core.Bool.{true, false}
use mathlib.Core.List.{List, [], ◌∷◌}
use mathlib.Core.Option.{none}
use lib.Dec.{eqb}
use Rattle.loes.specs.Bytes.{Bytes}
use Rattle.loes.specs.Keys.{any_of}
use Rattle.loes.specs.Entry.{Entry, edge_count, too_many_edges, Valid}
use Rattle.loes.specs.Encode.{encode}
use Rattle.loes.specs.Refusals.{Tests, test, first_of}
use Rattle.loes.specs.Model.{refused, writing, writing_all, refusal, refused_or, tested, writes, pack_tests, batch_entry, pack, join_tests, union_entry, union, difference, split}
use Rattle.loes.specs.Calls.{pack_call, union_call, difference_call, split_call}
use Rattle.loes.specs.Examples.{Orders}
use Rattle.loes.proofs.Tests.{none_first}
use Rattle.loes.proofs.Histories.{reading_encode}

writes_large : (ts : Tests) (e : Entry) (out : Bytes) → first_of ts ≡ none → too_many_edges (edge_count e) ≡ true
    → (writes ts (e ∷ []) (out ∷ [])).outcome ≡ writing (refused 5) out
unfolding writes tested any_of
writes_large ts e out h g = rw (none_first ts _ h, g) (unfold first_of test refused_or refusal in refl)

five_first : (m : ℕ) (batch out : Bytes) → first_of (pack_tests m batch) ≡ none → too_many_edges (edge_count (batch_entry m batch)) ≡ true
    → pack_call m batch out ≡ writing (refused 5) out
unfolding pack_call pack
five_first m batch out h g = writes_large (pack_tests m batch) (batch_entry m batch) out h g

five_joined : (e f : Entry) (out : Bytes) → Valid e → Valid f → eqb e.width f.width ≡ true → too_many_edges (edge_count (union_entry e f)) ≡ true
    → union_call (encode e) (encode f) out ≡ writing (refused 5) out
unfolding union_call union
five_joined e f out v w h g =
    rw (reading_encode e (out ∷ []) _ v, reading_encode f (out ∷ []) _ w)
    (writes_large (join_tests e f) (union_entry e f) out (unfold join_tests first_of test in rw h) g)

-- two widths, whatever is made of the two
two_widths : (e f : Entry) (es : List Entry) (bufs : List Bytes) → eqb e.width f.width ≡ false → (writes (join_tests e f) es bufs).outcome ≡ writing_all (refused 13) bufs
unfolding writes join_tests tested refused_or refusal first_of test
two_widths e f es bufs h = rw h

thirteen_first : (e f : Entry) (out : Bytes) → Valid e → Valid f → eqb e.width f.width ≡ false
    → (union_call (encode e) (encode f) out ≡ writing (refused 13) out) × (difference_call (encode e) (encode f) out ≡ writing (refused 13) out)
unfolding union_call union difference_call difference
thirteen_first e f out v w h = (
  rw (reading_encode e (out ∷ []) _ v, reading_encode f (out ∷ []) _ w) (two_widths e f _ (out ∷ []) h),
  rw (reading_encode e (out ∷ []) _ v, reading_encode f (out ∷ []) _ w) (two_widths e f _ (out ∷ []) h),
)

thirteen_split : (e f : Entry) (x y z : Bytes) → Valid e → Valid f → eqb e.width f.width ≡ false → split_call (encode e) (encode f) x y z ≡ writing_all (refused 13) (x ∷ y ∷ z ∷ [])
unfolding split_call split
thirteen_split e f x y z v w h = rw (reading_encode e (x ∷ y ∷ z ∷ []) _ v, reading_encode f (x ∷ y ∷ z ∷ []) _ w) (two_widths e f _ (x ∷ y ∷ z ∷ []) h)

pub orders : Orders
orders =
    record {
      five_before_14 = five_first;
      five_before_14_joined = five_joined;
      thirteen_before_5_and_14 = thirteen_first;
      thirteen_before_5_and_14_split = thirteen_split;
    }
