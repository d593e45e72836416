-- The flags of a union's members: as many, and each that of the member at its index.
use mathlib.Core.Path.{◌≡◌, sym, ap, ◌∙◌}
use Prim.Native.Nat.{ℕ, ◌+◌, ◌<◌}
use mathlib.Core.List.{[]}
use native.Mathlib.Omega.{arith}
use lib.ListN.{length, get_or, length-map}
use Rattle.loes.specs.Bytes.{Bytes}
use Rattle.loes.specs.Entry.{Entry, keys_of, count}
use Rattle.loes.specs.Model.{union_entry}
use Rattle.loes.proofs.Lists.{get_d_map_in}
use Rattle.loes.proofs.Bytes.{get_d_tabulate, length_tabulate}
use Rattle.records.specs.Records.{flag_at, flags_from}
use Rattle.merge.specs.Union.{flag_of, MemberFlags}

module _ {e f : Entry} {p : Bytes} {r n : ℕ} (v : MemberFlags e f p r n) where
  pub flags_count : n ≡ count (union_entry e f)
  unfolding count flags_from
  flags_count = sym (length_tabulate (λ k. flag_at p (r + k)) n) ∙ ap length v.each ∙ rw length-map

  pub flag_of_lem : (i : ℕ) → i < n → flag_at p (r + i) ≡ flag_of e.set f.set (get_or (keys_of (union_entry e f)) i [])
  unfolding flags_from
  flag_of_lem i h =
      sym (get_d_tabulate (λ k. flag_at p (r + k)) n i (flag_of e.set f.set []) h)
      ∙ ap (λ x. get_or x i (flag_of e.set f.set [])) v.each
      ∙ get_d_map_in (flag_of e.set f.set) (keys_of (union_entry e f)) i [] (flag_of e.set f.set []) (unfold count in omega (arith, flags_count))
